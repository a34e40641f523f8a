-- What blocks, branches and loops explain.
use Rattle.std.proofs.Common.{◌≡◌, ℕ, zero, suc, ◌≤◌, Bool, true, false, ltb-true, cond, List, [], ◌∷◌, ◌++◌, inl, inr, refl, ap, ◌∙◌, append_assoc, arith, lit≤}
use Rattle.jt_syntax.specs.Tree.{Tree, Steps, Arms, Step}
use Rattle.jt_syntax.specs.Tree as tree
use Rattle.jt_syntax.specs.declared.script.Identifier.{Identifier}
use Rattle.jt_syntax.specs.declared.token.Sign.TheVariants as sign
use Rattle.jt_syntax.specs.declared.token.Token.{Token}
use Rattle.jt_grammar.specs.declared.Level.{Level}
use Rattle.jt_grammar.specs.declared.Level.TheVariants as levels
use Rattle.jt_grammar.specs.Grammar.{Rule, level, ◌▸◌, Mark, Word, InOrAssign, At, Held, Spells, StepSpells, Body, Tail, ArmsSpell}
use Rattle.jt_grammar.specs.Nesting.{Opened, Within, StepsWithin, StepWithin, ArmsWithin}
use Rattle.jt_grammar.specs.Reader.{Parser, ◌>>=◌, ◌>>◌, pure, skip, on, expect, body, tail, blocked, arms, branched, repeated, loop_header, each_looped, range_looped, is_sum, looped_over, looped, range_loop}
use Rattle.jt_grammar.proofs.Steps.{Nesting, Anyhow, After, after_some}
use Rattle.jt_grammar.proofs.SoundParts.{Reads, given, part, done, deeper, Room, Enters, opened, last, fewer, expected, opens_with, relaxed, skipped, From, either, word_reads, from, enters_then, Free, opened_map, opened_pair, opened_triple}
use Rattle.jt_grammar.proofs.SoundLists.{body_reads, tail_reads}
use Rattle.jt_grammar.proofs.SoundCalls.{Inner, InnerStep, WithinBy, IsRange, Looped, Below, zero_sample, marks}

abbrev pub InnerSteps : ℕ → Nesting Steps
InnerSteps d b ss = Opened (deeper d b) (λ k. StepsWithin k ss)

abbrev pub InnerArms : ℕ → Nesting Arms
InnerArms d b a = Opened (deeper d b) (λ k. ArmsWithin k a)

-- the head of a loop
abbrev pub Header : Identifier → Rule
Header i = Mark sign.For ▸ Word i ▸ InOrAssign

header_then : (i : Identifier) (X : Rule) (w z : List Token) → Header i w → X z → (Mark sign.For ▸ Word i ▸ InOrAssign ▸ X) (w ++ z)
header_then i X w z g x =
    let h = g.4 in
    (g.0, g.1 ++ z, ap (λ y. y ++ z) g.2 ∙ append_assoc g.0 g.1 z, g.3, (h.0, h.1 ++ z, ap (λ y. y ++ z) h.2 ∙ append_assoc h.0 h.1 z, h.3, (h.1, z, refl, h.4, x)))

pub range_level : (e : Tree) → IsRange e → 1 ≤ level e
range_level (tree.for_range i a b ss) r = lit≤ tt
range_level _ r = absurd r

module _ (n d : ℕ) (expr_in : Level → Parser Tree) (step_in : Parser Step) (below : Below n d expr_in step_in) where
  pub inner_body : Reads (Room d) Body (InnerSteps d) n (body n d expr_in step_in)
  inner_body = body_reads StepSpells (InnerStep d) Tail Body (InnerSteps d) tree.no_steps tree.step (λ w h. h) (λ x xs w h. h) (λ w h. h) (λ x xs w h. h) (λ b c. c)
      (λ x xs b k l. opened_pair (deeper d b) (λ j. StepWithin j x) (λ j. StepsWithin j xs) k l) n step_in below.step

  pub inner_tail : Reads (Room d) Tail (InnerSteps d) n (tail n d expr_in step_in)
  inner_tail = tail_reads StepSpells (InnerStep d) Tail Body (InnerSteps d) tree.no_steps tree.step (λ w h. h) (λ x xs w h. h) (λ w h. h) (λ x xs w h. h) (λ b c. c)
      (λ x xs b k l. opened_pair (deeper d b) (λ j. StepWithin j x) (λ j. StepsWithin j xs) k l) n step_in below.step

  pub blocked_reads : Reads Free (At 1) (WithinBy d) n (blocked n d expr_in step_in)
  blocked_reads = opened (opens_with sign.Begin refl refl) (zero_sample d 1 (lit≤ tt))
      (λ o v x. part (given (λ _ c. c.1) inner_body)
      (λ ss u g. last (λ _. tree.block ss) (expected sign.End refl) (λ t z m. (lit≤ tt, (v, _, refl, (o.at, x), (u, z, refl, g, (t.at, m))))) (λ _ _ c _. c.1)))

  -- ---- branches

  abbrev arm_rest : ℕ → Parser Arms
  arm_rest k = expr_in levels.Condition >>= λ c. tail n d expr_in step_in >>= λ ss. arms n d expr_in step_in k >>= λ rest. pure (tree.arm c ss rest)

  another_arm : (k : ℕ) → suc k ≤ n → Reads (Room d) ArmsSpell (InnerArms d) k (arms n d expr_in step_in k) → From sign.ElseIf (Room d) ArmsSpell (InnerArms d) (suc k) (skip >> arm_rest k)
  another_arm k h more c t ts e = after_some ArmsSpell (InnerArms d) k (suc k) (t ∷ ts) (t ∷ []) ts (arm_rest k ts) (omega arith) refl (behind.explains c ts)
    where
      behind : Reads (Room d) (After (t ∷ []) ArmsSpell) (InnerArms d) k (arm_rest k)
      behind = part (fewer (omega (arith, h)) below.condition)
          (λ c u g. part (given (λ _ x. x.0) (fewer (omega (arith, h)) inner_tail))
          (λ ss v j. last (λ rest. tree.arm c ss rest) (given (λ _ x. x.0.0) more) (λ rest z l. (t ∷ [], _, refl, marks e, (u, _, refl, g, (v, z, refl, j, l))))
          (λ rest b x k. opened_triple (deeper d b) (λ j. Within j c) (λ j. StepsWithin j ss) (λ j. ArmsWithin j rest) x.0.1 x.1 k)))

  else_arm : (k : ℕ) → suc k ≤ n → From sign.Else (Room d) ArmsSpell (InnerArms d) (suc k) (skip >> (body n d expr_in step_in >>= λ ss. pure (tree.otherwise ss)))
  else_arm k h c t ts e = skipped ArmsSpell (InnerArms d) (λ _. body n d expr_in step_in >>= λ ss. pure (tree.otherwise ss)) t
      (last (λ ss. tree.otherwise ss) (fewer h inner_body) (λ ss w g. (t ∷ [], w, refl, marks e, g)) (λ ss b c k. k)) c ts

  arms_read : (k : ℕ) → k ≤ n → Reads (Room d) ArmsSpell (InnerArms d) k (arms n d expr_in step_in k)
  unfolding arms
  arms_read zero h = record { explains = λ c ts. ([], ts, refl, omega arith); sample = ([], tree.no_arms, refl, (λ b c. c), tt) }
  arms_read (suc k) h = either sign.ElseIf (skip >> arm_rest k) _ (λ h. h) (another_arm k h (arms_read k (omega (arith, h))))
      (either sign.Else (skip >> (body n d expr_in step_in >>= λ ss. pure (tree.otherwise ss))) (pure tree.no_arms) (λ h. h) (else_arm k h) (done refl (λ b c. c)))

  pub branched_reads : Reads Free (At 1) (WithinBy d) n (branched n d expr_in step_in)
  branched_reads = opened (opens_with sign.If refl refl) (zero_sample d 1 (lit≤ tt))
      (λ o v x. part (given (λ _ c. c.1) below.condition)
      (λ c u g. part (given (λ _ c. c.0.1) inner_tail)
      (λ ss y h. part (given (λ _ c. c.0.0.1) (arms_read n (omega arith)))
      (λ rest z l. last (λ _. tree.branches c ss rest) (expected sign.End refl)
      (λ t e m. (lit≤ tt, (v, _, refl, (o.at, x), (u, _, refl, g, (y, _, refl, h, (z, e, refl, l, (t.at, m)))))))
      (λ _ b k _. opened_triple (deeper d b) (λ j. Within j c) (λ j. StepsWithin j ss) (λ j. ArmsWithin j rest) k.0.0.1 k.0.1 k.1)))))

  -- ---- loops

  pub repeated_reads : Reads Free (At 1) (WithinBy d) n (repeated n d expr_in step_in)
  repeated_reads = opened (opens_with sign.While refl refl) (zero_sample d 1 (lit≤ tt))
      (λ o v x. part (given (λ _ c. c.1) below.condition)
      (λ c u g. part (given (λ _ c. c.0.1) inner_tail)
      (λ ss y h. last (λ _. tree.while c ss) (expected sign.End refl)
      (λ t e m. (lit≤ tt, (v, _, refl, (o.at, x), (u, _, refl, g, (y, e, refl, h, (t.at, m))))))
      (λ _ b k _. opened_pair (deeper d b) (λ j. Within j c) (λ j. StepsWithin j ss) k.0.1 k.1))))

  in_or_assign : {C : Bool → Type 0} → Reads C (λ (t : Token). InOrAssign) Anyhow n (on sign.In skip (expect sign.Assign))
  in_or_assign = either sign.In skip (expect sign.Assign) (λ h. h) (λ c t ts e. (t ∷ [], refl, inl (marks e), (λ b. tt))) (relaxed (λ t w m. inr (t.at, m)) (λ t b c k. tt) (expected sign.Assign refl))

  header_enters : Enters Header (λ b i. Room d b) d n (loop_header n d expr_in step_in)
  header_enters = enters_then (opens_with sign.For refl refl)
      (λ o v x. part word_reads (λ i u g. last (λ _. i) in_or_assign (λ t w m. (v, _, refl, (o.at, x), (u, w, refl, g, m))) (λ _ b c _. c.0)))

  module _ {C : Bool → Type 0} (i : Identifier) (w : List Token) (header : Header i w) (e : Tree) (u : List Token) (within : (b : Bool) → C b → Inner d b e) where
    each_reads : At 2 e u → Reads C (After u (After w (At 1))) (WithinBy d) n (each_looped n d expr_in step_in i e)
    each_reads g = part (given (λ b c. opened_map (deeper d b) (λ k. Within k e) (λ k. Unit {0}) (λ k h. tt) (within b c)) inner_tail)
        (λ ss v h. last (λ _. tree.for_each i e ss) (expected sign.End refl)
        (λ t z m. (lit≤ tt, header_then i (Held 2 e (Spells e) ▸ Tail ss ▸ Mark sign.End) w (u ++ (v ++ z)) header (u, _, refl, g, (v, z, refl, h, (t.at, m)))))
        (λ _ b c _. opened_pair (deeper d b) (λ j. Within j e) (λ j. StepsWithin j ss) (within b c.0) c.1))

    range_reads : At 6 e u → Reads C (After u (After w Looped)) (WithinBy d) n (range_looped n d expr_in step_in i e)
    range_reads g = part (expected sign.Colon refl)
        (λ q v m. part (given (λ b c. opened_map (deeper d b) (λ k. Within k e) (λ k. Unit {0}) (λ k h. tt) (within b c.0)) below.sum)
        (λ f y h. part (given (λ b c. opened_map (deeper d b) (λ k. Within k e) (λ k. Unit {0}) (λ k h. tt) (within b c.0.0)) inner_tail)
        (λ ss x l. last (λ _. tree.for_range i e f ss) (expected sign.End refl)
        (λ t z j. (tt, header_then i (Held 6 e (Spells e) ▸ Mark sign.Colon ▸ Held 6 f (Spells f) ▸ Tail ss ▸ Mark sign.End) w (u ++ (v ++ (y ++ (x ++ z)))) header (u, _, refl, g, (v, _, refl, (q.at, m), (y, _, refl, h, (x, z, refl, l, (t.at, j)))))))
        (λ _ b c _. opened_triple (deeper d b) (λ j. Within j e) (λ j. Within j f) (λ j. StepsWithin j ss) (within b c.0.0.0) c.0.1 c.1))))

    range_or_each : At 2 e u → (b : Bool) → is_sum n d expr_in step_in e ≡ b → Reads C (After u (After w (At 1))) (WithinBy d) n (cond b (range_looped n d expr_in step_in i e) (each_looped n d expr_in step_in i e))
    unfolding is_sum
    range_or_each g true h = relaxed (λ x z l. (range_level x l.0, l.1)) (λ x b c k. k) (range_reads (ltb-true 5 (level e) h, g.1))
    range_or_each g false h = each_reads g

    over_reads : At 2 e u → Reads C (After u (After w (At 1))) (WithinBy d) n (looped_over n d expr_in step_in i e)
    over_reads g = either sign.Colon _ _ (λ h. h) (from (range_or_each g (is_sum n d expr_in step_in e) refl)) (each_reads g)

  pub looped_reads : Reads Free (At 1) (WithinBy d) n (looped n d expr_in step_in)
  looped_reads = opened header_enters (zero_sample d 1 (lit≤ tt))
      (λ i w g. part (given (λ _ c. c.1) below.condition) (λ e u h. over_reads i w g e u (λ b c. c.1) h))

  pub range_loop_enters : Enters Looped (WithinBy d) d n (range_loop n d expr_in step_in)
  unfolding range_loop
  range_loop_enters = enters_then header_enters (λ i w g. part below.sum (λ a u h. range_reads i w g a u (λ b c. c.1) h))
