-- Names that expressions are.
use Rattle.std.proofs.Common.{◌≡◌, ℕ, arith, ◌+◌, ◌<◌, List, [], ◌∷◌, ◌++◌, length, drop, get_or, Option, Some, None, option_map, refl, sym, ap, ◌∙◌, suc, add-one, drop-cons, append_assoc}
use Rattle.jt_syntax.specs.Tree.{Tree, Trees}
use Rattle.jt_syntax.specs.Tree as tree
use Rattle.jt_syntax.specs.View.{view, views}
use Rattle.jt_syntax.specs.declared.script.Expr.{Expr}
use Rattle.jt_syntax.specs.declared.script.Identifier.{Identifier}
use Rattle.jt_grammar.specs.Reader.{parameters}
use Rattle.jt_cursor.specs.Names.{name_of}

abbrev pub behind_names : List Identifier → Option (List Identifier) → Option (List Identifier)
behind_names found o = option_map (λ ns. found ++ ns) o

abbrev named_first : Option Identifier → Option (List Identifier) → Option (List Identifier)
named_first (Some n) o = option_map (λ ns. n ∷ ns) o
named_first None o = None

parameters_first : (e : Tree) (es : Trees) → parameters (tree.tree e es) ≡ named_first (name_of e) (parameters es)
parameters_first (tree.name i) es = refl
parameters_first _ es = refl

pub names_none : (o : Option (List Identifier)) → o ≡ behind_names [] o
names_none None = refl
names_none (Some ns) = refl

names_last : (found : List Identifier) (n : Identifier) (o : Option (List Identifier)) → behind_names found (option_map (λ ns. n ∷ ns) o) ≡ behind_names (found ++ n ∷ []) o
names_last found n None = refl
names_last found n (Some ns) = ap Some (sym (append_assoc found (n ∷ []) ns))

-- one argument more, which is a name
pub names_step : (o : Option (List Identifier)) (found new : List Identifier) (xs : List Expr) (i : ℕ) (x : Expr) (n : Identifier) → i < length xs → x ≡ get_or xs i x → Some n ≡ name_of (view x) → new ≡ found ++ n ∷ []
    → o ≡ behind_names found (parameters (views (drop i xs))) → o ≡ behind_names new (parameters (views (drop (i + 1) xs)))
names_step o found new xs i x n h is e pushes inv =
    let cells : drop i xs ≡ x ∷ drop (i + 1) xs = drop-cons xs i x h ∙ (ap (λ z. z ∷ drop (suc i) xs) (sym is) ∙ ap (λ z. x ∷ drop z xs) (sym (add-one i))) in
    inv ∙ (ap (λ z. behind_names found (parameters (views z))) cells
    ∙ (ap (behind_names found) (parameters_first (view x) (views (drop (i + 1) xs)) ∙ ap (λ z. named_first z (parameters (views (drop (i + 1) xs)))) (sym e))
    ∙ (names_last found n (parameters (views (drop (i + 1) xs))) ∙ ap (λ z. behind_names z (parameters (views (drop (i + 1) xs)))) (sym pushes))))

-- one argument more, which is none
pub names_stop : (o : Option (List Identifier)) (found : List Identifier) (xs : List Expr) (i : ℕ) (x : Expr) → i < length xs → x ≡ get_or xs i x → None ≡ name_of (view x)
    → o ≡ behind_names found (parameters (views (drop i xs))) → None ≡ o
names_stop o found xs i x h is e inv =
    let cells : drop i xs ≡ x ∷ drop (suc i) xs = drop-cons xs i x h ∙ ap (λ z. z ∷ drop (suc i) xs) (sym is) in
    sym (inv ∙ (ap (λ z. behind_names found (parameters (views z))) cells
    ∙ ap (behind_names found) (parameters_first (view x) (views (drop (suc i) xs)) ∙ ap (λ z. named_first z (parameters (views (drop (suc i) xs)))) (sym e))))
