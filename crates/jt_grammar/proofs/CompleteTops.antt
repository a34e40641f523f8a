-- What stands between two separators of a script is read.
use Rattle.std.proofs.Common.{◌≡◌, ℕ, zero, suc, ◌-◌, inl, inr, true, false, true≢false, List, [], ◌∷◌, ◌++◌, Some, option_map, Ok, refl, sym, ap, subst, ◌∙◌, append_assoc, append-nil, lit≤, lit<, arith}
use Rattle.jt_syntax.specs.Tree.{Tree, Trees, Step, Steps, Form, TopTree}
use Rattle.jt_syntax.specs.Tree as tree
use Rattle.jt_syntax.specs.declared.operator.AssignmentOperator.TheVariants as assignment
use Rattle.jt_syntax.specs.declared.script.Identifier.{Identifier}
use Rattle.jt_syntax.specs.declared.token.Sign.{Sign}
use Rattle.jt_syntax.specs.declared.token.Sign.TheVariants as sign
use Rattle.jt_syntax.specs.declared.token.Token.{Token}
use Rattle.jt_syntax.specs.declared.token.TokenKind.{TokenKind}
use Rattle.jt_syntax.specs.declared.token.TokenKind.TheVariants as kind
use Rattle.jt_grammar.specs.declared.Level.{Level}
use Rattle.jt_grammar.specs.Grammar.{Rule, ◌▸◌, Nothing, Mark, Word, Held, Spells, Listed, Commas, StepSpells, MoreNames, Names, FormSpells, StartsAt, TopSpells}
use Rattle.jt_grammar.specs.Nesting.{Within, AllWithin, Opened, Opens, StepsWithin, FormWithin}
use Rattle.jt_grammar.specs.Reader.{Parser, ◌>>=◌, kind_of, place_of, is, by_kind, word, stepped, assignment_of, assigned_by, assigned_to, assigned, parameters, function_of, names, function_read, short_by, shortened, form_by, topped}
use Rattle.jt_grammar.proofs.CompleteParts.{always, Kinds, Any, Takes, Leads, ok_then, then, last, mark, seen, opened, mark_last, on_yes, by, by_same, nothing, respell, anything, known, lead_then, lead_mark, lead_nothing, lead_more, whatever}
use Rattle.jt_grammar.proofs.CompleteWords.{word_takes}
use Rattle.jt_grammar.proofs.CompleteLevels.{AllRead}
use Rattle.jt_grammar.proofs.CompleteLists.{Items, MoreItems, items_complete}
use Rattle.jt_grammar.proofs.CompleteCalls.{comma-close}
use Rattle.jt_grammar.proofs.CompleteMacros.{whole_complete}
use Rattle.jt_grammar.proofs.CompleteBlocks.{closes-stop, starts_step, step_starts, step_first, tail_read}
use Rattle.jt_grammar.proofs.CompleteSteps.{stepped_then, stepped_complete}
use Rattle.jt_grammar.proofs.Front.{Stops, Closes, closes, not_sign, lead_word}

-- ---- names with commas between

names_view : (is : List Identifier) (w : List Token) → Names is w → Items Word MoreNames [] (λ (i : Identifier) is. i ∷ is) is w
names_view [] w g = inl (refl, g)
names_view (i ∷ is) w g = inr (i, is, refl, g)

more_names_view : (is : List Identifier) (w : List Token) → MoreNames is w → MoreItems Word MoreNames [] (λ (i : Identifier) is. i ∷ is) is w
more_names_view [] w g = inl (refl, g)
more_names_view (i ∷ is) w g = inr (i, is, refl, g)

-- the same as arguments
abbrev arguments_of : List Identifier → Trees
arguments_of [] = tree.no_trees
arguments_of (i ∷ is) = tree.tree (tree.name i) (arguments_of is)

parameters_back : (is : List Identifier) → parameters (arguments_of is) ≡ Some is
parameters_back [] = refl
parameters_back (i ∷ is) = ap (option_map (λ js. i ∷ js)) (parameters_back is)

all_names : (k : ℕ) (is : List Identifier) → AllWithin k (arguments_of is)
all_names k [] = tt
all_names k (i ∷ is) = (tt, all_names k is)

opened_names : (d : ℕ) (is : List Identifier) → Opens d → Opened d (λ k. AllWithin k (arguments_of is))
opened_names zero is o = o
opened_names (suc k) is o = all_names k is

more_listed : (is : List Identifier) (w : List Token) → MoreNames is w → Commas 1 (arguments_of is) w
more_listed [] w g = g
more_listed (i ∷ is) w g = (g.0, g.1, g.2, g.3, (g.4.0, g.4.1, g.4.2, (lit≤ tt, g.4.3), more_listed is g.4.1 g.4.4))

names_listed : (is : List Identifier) (w : List Token) → Names is w → Listed 1 (arguments_of is) w
names_listed [] w g = g
names_listed (i ∷ is) w g = (g.0, g.1, g.2, (lit≤ tt, g.3), more_listed is g.1 g.4)

abbrev IsSign : Sign → Kinds
IsSign s k = k ≡ kind.Sign s

no_assign : (k : TokenKind) → Closes k → is sign.Assign k ≡ false
no_assign k = not_sign closes sign.Assign k refl

module _ (n d : ℕ) (expr_in : Level → Parser Tree) (step_in : Parser Step) (below : (k : ℕ) → d ≡ suc k → AllRead n k expr_in step_in) where
  names_complete : (xs : List Identifier) → Takes n (Names xs) (IsSign sign.Close) (names n d expr_in step_in) xs
  names_complete xs = record {
    takes = λ w rest g h same.
        items_complete Word MoreNames (λ i. Unit {0}) (λ ys. Unit {0}) [] (λ i ys. i ∷ ys) more_names_view (λ i ys a. (tt, tt)) n Any tt word (λ i a. word_takes i) (λ i. lead_word refl) xs tt w rest (names_view xs w g) h
        tt (subst (λ z. is sign.Comma z ≡ false) (sym same) comma-close) (λ z. subst (λ y. is sign.Close y ≡ true) (sym same) (known sign.Close));
  }

  -- ---- functions

  with_depth : (k : ℕ) → d ≡ suc k → Opens k → Opens (d - 1)
  with_depth k is_d o = let same : k ≡ d - 1 = omega (arith, is_d) in subst Opens same o

  function_complete : (i : Identifier) (xs : List Identifier) (ss : Steps) → FormWithin d (tree.function i xs ss) → Takes n (FormSpells (tree.function i xs ss)) Any (function_read n d expr_in step_in) (tree.function i xs ss)
  function_complete i xs ss o = opened (λ k. Opens k × StepsWithin k ss) d _ o (λ k is_d o' at. then _ (word_takes i) anything
      (opened (λ j. Unit {0}) (d - 1) _ (with_depth k is_d o'.0) (λ j is_j u at. then _ (names_complete xs) (lead_then (lead_mark refl))
      (mark _ (λ at. then _ (tail_read n d expr_in step_in below k is_d ss o'.1) (lead_mark refl) (mark_last _ (λ at rest. refl)))))))

  -- a function's name and parameters, read as a call
  abbrev call_of : Identifier → List Identifier → Tree
  call_of i xs = tree.call i (arguments_of xs)

  call_stays : (i : Identifier) (xs : List Identifier) → Takes n Nothing (IsSign sign.Assign) (assigned n d expr_in step_in (call_of i xs)) (tree.value (call_of i xs))
  call_stays i xs = nothing _ (tree.value (call_of i xs)) (λ rest s. ap (λ k. assigned_by n d expr_in step_in (call_of i xs) (assignment_of k) rest) s ∙ ap (λ o. assigned_to n d expr_in step_in (call_of i xs) assignment.Plain (function_of i o) rest) (parameters_back xs))

  assign-stops : (k : TokenKind) → IsSign sign.Assign k → Stops 2 k
  assign-stops k e = subst (Stops 2) (sym e) (lit< tt)

  call_stepped : (i : Identifier) (xs : List Identifier) → Opens d → Takes n (Spells (call_of i xs)) (IsSign sign.Assign) (stepped n d expr_in step_in) (tree.value (call_of i xs))
  call_stepped i xs o = respell (Held 2 (call_of i xs) (Spells (call_of i xs)) ▸ Nothing) (λ w g. (w, [], sym (append-nil w), (lit≤ tt, g), refl))
      (stepped_then n d expr_in step_in below (call_of i xs) (opened_names d xs o) Nothing (lead_nothing assign-stops) (call_stays i xs))

  short_behind : (i : Identifier) (xs : List Identifier) (e : Tree) → Within d e → Takes n (Mark sign.Assign ▸ Held 1 e (Spells e)) Closes (shortened n d expr_in step_in (tree.value (call_of i xs))) (tree.short i xs e)
  short_behind i xs e o = on_yes sign.Assign _ _ (lead_then (lead_mark (known sign.Assign)))
      (subst (λ z. Takes n (Mark sign.Assign ▸ Held 1 e (Spells e)) Closes (short_by n d expr_in step_in (tree.value (call_of i xs)) (function_of i z)) (tree.short i xs e)) (sym (parameters_back xs))
      (seen _ (λ at. last _ (whole_complete n d expr_in step_in below e o) (closes-stop 1 (lit≤ tt)) (λ rest s. refl))))

  -- a form that begins as a statement
  abbrev by_step : Parser Form
  by_step = stepped n d expr_in step_in >>= shortened n d expr_in step_in

  abbrev ShortCall : Identifier → List Identifier → Tree → Rule
  ShortCall i xs e = Spells (call_of i xs) ▸ Mark sign.Assign ▸ Held 1 e (Spells e)

  short_call : (i : Identifier) (xs : List Identifier) (e : Tree) (w : List Token) → FormSpells (tree.short i xs e) w → ShortCall i xs e w
  short_call i xs e w g =
      let p = g.0 in
      let q = g.4.0 in
      let r = g.4.4.0 in
      let c = g.4.4.4.0 in
      let t = g.4.4.4.1 in (
        p ++ (q ++ (r ++ c)),
        t,
        g.2 ∙ (ap (λ z. p ++ z) (g.4.2 ∙ (ap (λ z. q ++ z) (g.4.4.2 ∙ (ap (λ z. r ++ z) g.4.4.4.2 ∙ sym (append_assoc r c t))) ∙ sym (append_assoc q (r ++ c) t))) ∙ sym (append_assoc p (q ++ (r ++ c)) t)),
        (p, q ++ (r ++ c), refl, g.3, (q, r ++ c, refl, g.4.3, (r, c, refl, names_listed xs r g.4.4.3, g.4.4.4.3))),
        g.4.4.4.4,
      )

  short_complete : (i : Identifier) (xs : List Identifier) (e : Tree) → FormWithin d (tree.short i xs e) → Takes n (FormSpells (tree.short i xs e)) Closes by_step (tree.short i xs e)
  short_complete i xs e o = respell (ShortCall i xs e) (short_call i xs e) (then _ (call_stepped i xs o.0) (lead_then (lead_mark refl)) (short_behind i xs e o.1))

  plain_complete : (x : Step) → FormWithin d (tree.plain x) → Takes n (StepSpells x) Closes by_step (tree.plain x)
  plain_complete x o = last _ (stepped_complete n d expr_in step_in below x o) (λ k s. s) (λ rest s. rw (no_assign (kind_of rest) s) refl)

  step-form : (k : TokenKind) → starts_step k ≡ true → form_by n d expr_in step_in k ≡ by_step
  step-form (kind.Sign sign.Using) s = absurd (true≢false (sym s))
  step-form (kind.Sign sign.Const) s = absurd (true≢false (sym s))
  step-form (kind.Sign sign.Function) s = absurd (true≢false (sym s))
  step-form (kind.Sign _) s = refl
  step-form (kind.Number _) s = refl
  step-form (kind.Name _) s = refl
  step-form (kind.Text _) s = refl

  -- ---- any form

  form_complete : (f : Form) → FormWithin d f → Takes n (FormSpells f) Closes (by_kind (form_by n d expr_in step_in)) f
  form_complete tree.using_threads o = by (form_by n d expr_in step_in) (kind.Sign sign.Using) (lead_then (lead_mark refl)) (seen _ (λ at. mark_last _ (λ at rest. refl)))
  form_complete (tree.constant i e) o = by (form_by n d expr_in step_in) (kind.Sign sign.Const) (lead_then (lead_mark refl))
      (seen _ (λ at. then _ (word_takes i) anything (mark _ (λ at. last _ (whole_complete n d expr_in step_in below e o) (closes-stop 1 (lit≤ tt)) (λ rest s. refl)))))
  form_complete (tree.function i xs ss) o = by (form_by n d expr_in step_in) (kind.Sign sign.Function) (lead_then (lead_mark refl)) (always (function_complete i xs ss o))
  form_complete (tree.short i xs e) o = by (form_by n d expr_in step_in) (kind.Name i.name) (lead_then (lead_word refl)) (short_complete i xs e o)
  form_complete (tree.plain x) o = by_same (form_by n d expr_in step_in) by_step (whatever (lead_more step-form (step_starts x))) (plain_complete x o)

  -- the first token of a form
  form_first : (f : Form) → Leads (FormSpells f) Any (λ k. closes k ≡ false)
  form_first tree.using_threads = lead_then (lead_mark refl)
  form_first (tree.constant i e) = lead_then (lead_mark refl)
  form_first (tree.function i xs ss) = lead_then (lead_mark refl)
  form_first (tree.short i xs e) = lead_then (lead_word refl)
  form_first (tree.plain x) = step_first x

  place_at : (at : ℕ) (w rest : List Token) → StartsAt at w → place_of (w ++ rest) ≡ at
  place_at at [] rest e = absurd e
  place_at at (t ∷ w) rest e = sym e

  pub top_first : (x : TopTree) → Leads (TopSpells x) Any (λ k. closes k ≡ false)
  top_first x = record { leads = λ w rest g s. (form_first x.1).leads w rest g.1 s }

  pub top_complete : (x : TopTree) → FormWithin d x.1 → Takes n (TopSpells x) Closes (topped n d expr_in step_in) x
  unfolding topped
  top_complete x o = record {
    takes = λ w rest g h s.
        ok_then (by_kind (form_by n d expr_in step_in) (w ++ rest)) x.1 rest _ _ ((form_complete x.1 o).takes w rest g.1 h s) (ap (λ z. Ok ((z, x.1), rest)) (place_at x.0 w rest g.0));
  }
