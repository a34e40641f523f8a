-- The arms of an `if`, and what stands behind them.
use Rattle.std.proofs.Common.{◌≡◌, List, [], ◌∷◌, ◌++◌, Result, Ok, Err, OnOk, refl, sym, ap, ◌∙◌, append_assoc}
use Rattle.jt_syntax.specs.Tree.{Tree, Arms, Steps}
use Rattle.jt_syntax.specs.Tree as tree
use Rattle.jt_syntax.specs.View.{arms_of}
use Rattle.jt_syntax.specs.declared.token.Sign.TheVariants as sign
use Rattle.jt_syntax.specs.declared.token.TokenKind.{TokenKind}
use Rattle.jt_syntax.specs.declared.token.TokenKind.TheVariants as kind
use Rattle.jt_grammar.specs.Printed.{mark, tree_kinds, steps_kinds, arms_kinds}

pub arms_with_last : (arms : List (Tree × Steps)) (last : Arms) → arms_kinds (arms_of arms last) ≡ arms_kinds (arms_of arms tree.no_arms) ++ arms_kinds last
arms_with_last [] last = refl
arms_with_last (a ∷ arms) last =
    let whole = arms_kinds (arms_of arms tree.no_arms) in
    let inner = ap (λ z. steps_kinds a.1 ++ z) (arms_with_last arms last) ∙ sym (append_assoc (steps_kinds a.1) whole (arms_kinds last)) in
    ap (λ z. kind.Sign sign.ElseIf ∷ (tree_kinds a.0 ++ (kind.Sign sign.Semicolon ∷ z))) inner ∙ ap (λ z. kind.Sign sign.ElseIf ∷ z) (sym (append_assoc (tree_kinds a.0) (kind.Sign sign.Semicolon ∷ (steps_kinds a.1 ++ whole)) (arms_kinds last)))

pub on_ok : {A E P Q : Type 0} (r : Result A E) → (P → Q) → OnOk r P → OnOk r Q
on_ok (Ok x) f p = f p
on_ok (Err e) f p = p

-- arms, written without what stands behind them, and then what stands behind `else`
else_added : (o a b c n : List TokenKind) (arms : List (Tree × Steps)) (ss : Steps) (T S : List TokenKind)
    → a ≡ o ++ (kind.Sign sign.If ∷ (T ++ (kind.Sign sign.Semicolon ∷ (S ++ arms_kinds (arms_of arms tree.no_arms)))))
    → b ≡ a ++ mark sign.Else
    → c ≡ b ++ steps_kinds ss
    → n ≡ c ++ mark sign.End
    → n ≡ o ++ (kind.Sign sign.If ∷ (T ++ (kind.Sign sign.Semicolon ∷ (S ++ (arms_kinds (arms_of arms (tree.otherwise ss)) ++ mark sign.End)))))
else_added o a b c n arms ss T S first second third fourth =
    let A = arms_kinds (arms_of arms tree.no_arms) in
    let L = kind.Sign sign.Else ∷ (steps_kinds ss ++ mark sign.End) in
    let last : arms_kinds (arms_of arms (tree.otherwise ss)) ++ mark sign.End ≡ A ++ L = ap (λ z. z ++ mark sign.End) (arms_with_last arms (tree.otherwise ss)) ∙ append_assoc A (kind.Sign sign.Else ∷ steps_kinds ss) (mark sign.End) in
    let body : S ++ (arms_kinds (arms_of arms (tree.otherwise ss)) ++ mark sign.End) ≡ (S ++ A) ++ L = ap (λ z. S ++ z) last ∙ sym (append_assoc S A L) in
    let whole : T ++ (kind.Sign sign.Semicolon ∷ (S ++ (arms_kinds (arms_of arms (tree.otherwise ss)) ++ mark sign.End))) ≡ (T ++ (kind.Sign sign.Semicolon ∷ (S ++ A))) ++ L = ap (λ z. T ++ (kind.Sign sign.Semicolon ∷ z)) body ∙ sym (append_assoc T (kind.Sign sign.Semicolon ∷ (S ++ A)) L) in
    let X = kind.Sign sign.If ∷ (T ++ (kind.Sign sign.Semicolon ∷ (S ++ A))) in
    let written : n ≡ (((o ++ X) ++ mark sign.Else) ++ steps_kinds ss) ++ mark sign.End = fourth ∙ ap (λ z. z ++ mark sign.End) (third ∙ ap (λ z. z ++ steps_kinds ss) (second ∙ ap (λ z. z ++ mark sign.Else) first)) in
    let joined : (((o ++ X) ++ mark sign.Else) ++ steps_kinds ss) ++ mark sign.End ≡ (o ++ X) ++ L = append_assoc ((o ++ X) ++ mark sign.Else) (steps_kinds ss) (mark sign.End) ∙ append_assoc (o ++ X) (mark sign.Else) (steps_kinds ss ++ mark sign.End) in
    written ∙ (joined ∙ (append_assoc o X L ∙ ap (λ z. o ++ (kind.Sign sign.If ∷ z)) (sym whole)))

-- the same, where what stands behind `else` is equal to what was written
pub else_written : (o a b c n : List TokenKind) (arms : List (Tree × Steps)) (ss ss' : Steps) (T S : List TokenKind)
    → ss ≡ ss'
    → a ≡ o ++ (kind.Sign sign.If ∷ (T ++ (kind.Sign sign.Semicolon ∷ (S ++ arms_kinds (arms_of arms tree.no_arms)))))
    → b ≡ a ++ mark sign.Else
    → c ≡ b ++ steps_kinds ss
    → n ≡ c ++ mark sign.End
    → n ≡ o ++ (kind.Sign sign.If ∷ (T ++ (kind.Sign sign.Semicolon ∷ (S ++ (arms_kinds (arms_of arms (tree.otherwise ss')) ++ mark sign.End)))))
else_written o a b c n arms ss ss' T S last first second third fourth = else_added o a b c n arms ss' T S first second (third ∙ ap (λ z. b ++ steps_kinds z) last) fourth
