-- Blocks are read.
use Rattle.std.proofs.Common.{◌≡◌, ℕ, zero, suc, ◌≤◌, inl, inr, Bool, true, false, true≢false, ◌||◌, cond, List, ◌++◌, Ok, refl, sym, ap, subst, ◌∙◌, lit≤, lit<, lt-ltb, arith}
use Rattle.jt_syntax.specs.Tree.{Tree, Step, Steps, Arms}
use Rattle.jt_syntax.specs.Tree as tree
use Rattle.jt_syntax.specs.declared.script.Identifier.{Identifier}
use Rattle.jt_syntax.specs.declared.token.Sign.TheVariants as sign
use Rattle.jt_syntax.specs.declared.token.Token.{Token}
use Rattle.jt_syntax.specs.declared.token.TokenKind.{TokenKind}
use Rattle.jt_syntax.specs.declared.token.TokenKind.TheVariants as kind
use Rattle.jt_grammar.specs.declared.Level.{Level}
use Rattle.jt_grammar.specs.Grammar.{token, ◌▸◌, Mark, Word, InOrAssign, Held, Spells, level, StepSpells, ArmsSpell, Body, Tail, LeapSpells, Gap, SomeGap}
use Rattle.jt_grammar.specs.Nesting.{Within, StepWithin, StepsWithin, ArmsWithin, Opened, Opens}
use Rattle.jt_grammar.specs.Reader.{Parser, same_sign, is, skip, expect, on, ends, is_jump, body, tail, blocked, arms, branched, repeated, loop_header, each_looped, range_looped, is_sum, looped_over, looped, range_loop}
use Rattle.jt_grammar.proofs.CompleteParts.{opens_some, Kinds, Any, Takes, Passes, Leads, then, last, mark, seen_less, opened, mark_last, on_yes, on_no, nothing, anything, respell, knowing, fewer, ignored, regroup, known, sign_by, lead_then, lead_mark, lead_at, lead_nothing, lead_behind, lead_more}
use Rattle.jt_grammar.proofs.CompleteWords.{word_takes}
use Rattle.jt_grammar.proofs.CompleteLevels.{AllRead}
use Rattle.jt_grammar.proofs.CompleteLists.{Ends, Gapped, or_true, body_complete, tail_complete, tail_leads}
use Rattle.jt_grammar.proofs.Front.{Stops, Closes, closes, closes-stops, starts, not_sign, lead_any, lead_word}

-- ---- statements, as far as blocks want to know of them

-- of statements
abbrev pub starts_step : TokenKind → Bool
starts_step k = is_jump k || starts k

jump-step : (k : TokenKind) → is_jump k ≡ true → starts_step k ≡ true
jump-step k e = ap (λ b. b || starts k) e

start-step : (k : TokenKind) → starts k ≡ true → starts_step k ≡ true
start-step k e = or_true (is_jump k) (starts k) e

pub leap_is : (j : tree.Leap) → Leads (LeapSpells j) Any (λ k. is_jump k ≡ true)
leap_is (tree.return_nothing at) = lead_at refl
leap_is (tree.return_value at e) = lead_then (lead_at refl)
leap_is (tree.break_loop at) = lead_at refl
leap_is (tree.continue_loop at) = lead_at refl

-- the first token of a statement
pub step_starts : (x : Step) → Leads (StepSpells x) Any (λ k. starts_step k ≡ true)
step_starts (tree.assign i o e) = lead_then (lead_word refl)
step_starts (tree.store i e) = lead_then (lead_word refl)
step_starts (tree.jump j) = lead_more jump-step (leap_is j)
step_starts (tree.guard c e es j) = lead_then (lead_any e (omega arith) start-step)
step_starts (tree.value e) = lead_any e (lit≤ tt) start-step

-- no statement begins with what stands behind one
step-closes : (k : TokenKind) → starts_step k ≡ true → closes k ≡ false
step-closes (kind.Sign sign.Semicolon) e = absurd (true≢false (sym e))
step-closes (kind.Sign sign.Newline) e = absurd (true≢false (sym e))
step-closes (kind.Sign sign.End) e = absurd (true≢false (sym e))
step-closes (kind.Sign sign.Else) e = absurd (true≢false (sym e))
step-closes (kind.Sign sign.ElseIf) e = absurd (true≢false (sym e))
step-closes (kind.Sign sign.Stop) e = absurd (true≢false (sym e))
step-closes (kind.Sign _) e = refl
step-closes (kind.Number _) e = refl
step-closes (kind.Name _) e = refl
step-closes (kind.Text _) e = refl

pub step_first : (x : Step) → Leads (StepSpells x) Any (λ k. closes k ≡ false)
step_first x = lead_more step-closes (step_starts x)

tail_view : (xs : Steps) (w : List Token) → Tail xs w → Gapped SomeGap StepSpells Tail tree.no_steps tree.step xs w
tail_view tree.no_steps w g = inl (refl, g)
tail_view (tree.step x xs) w g = inr (x, xs, refl, g)

body_view : (xs : Steps) (w : List Token) → Body xs w → Gapped Gap StepSpells Tail tree.no_steps tree.step xs w
body_view tree.no_steps w g = inl (refl, g)
body_view (tree.step x xs) w g = inr (x, xs, refl, g)

-- ---- what may stand behind a condition or a bound

pub closes-stop : (l : ℕ) → 1 ≤ l → (k : TokenKind) → Closes k → Stops l k
closes-stop l h k e = omega (arith, h, closes-stops k e)

abbrev pub IsEnd : Kinds
IsEnd k = k ≡ kind.Sign sign.End

end-ends : (k : TokenKind) → IsEnd k → Ends k
end-ends k e = ap ends e

arms_lead : (xs : Arms) → Leads (ArmsSpell xs) IsEnd Ends
arms_lead tree.no_arms = lead_nothing end-ends
arms_lead (tree.otherwise ss) = lead_then (lead_mark refl)
arms_lead (tree.arm c ss xs) = lead_then (lead_mark refl)

pub steps_lead : (xs : Steps) → Leads (Tail xs) Ends Closes
steps_lead xs = tail_leads StepSpells Tail Body (λ x. Unit {0}) (λ xs. Unit {0}) tree.no_steps tree.step tail_view body_view (λ x xs a. (tt, tt)) 0 (λ ts. Ok (tree.jump (tree.break_loop 0), ts)) xs

-- statements up to `end`, behind an expression of the level
pub end_lead : (l : ℕ) → 1 ≤ l → (ss : Steps) {S : Kinds} → Leads (Tail ss ▸ Mark sign.End) S (Stops l)
end_lead l h ss = lead_behind (lead_more (closes-stop l h) (steps_lead ss)) (lead_mark refl)

arms_end_lead : (ss : Steps) (xs : Arms) {S : Kinds} → Leads (Tail ss ▸ ArmsSpell xs ▸ Mark sign.End) S (Stops 2)
arms_end_lead ss xs = lead_behind (lead_more (closes-stop 2 (lit≤ tt)) (steps_lead ss)) (lead_behind (arms_lead xs) (lead_mark refl))

closes-no_colon : (k : TokenKind) → Closes k → is sign.Colon k ≡ false
closes-no_colon k = not_sign closes sign.Colon k refl

end_no_colon : (ss : Steps) {S : Kinds} → Leads (Tail ss ▸ Mark sign.End) S (λ k. is sign.Colon k ≡ false)
end_no_colon ss = lead_behind (lead_more closes-no_colon (steps_lead ss)) (lead_mark refl)

elseif-else : is sign.ElseIf (kind.Sign sign.Else) ≡ false
unfolding same_sign
elseif-else = refl

elseif-end : is sign.ElseIf (kind.Sign sign.End) ≡ false
unfolding same_sign
elseif-end = refl

else-end : is sign.Else (kind.Sign sign.End) ≡ false
unfolding same_sign
else-end = refl

in-assign : is sign.In (kind.Sign sign.Assign) ≡ false
unfolding same_sign
in-assign = refl

module _ (n d : ℕ) (expr_in : Level → Parser Tree) (step_in : Parser Step) (below : (k : ℕ) → d ≡ suc k → AllRead n k expr_in step_in) where
  pub body_read : (k : ℕ) → d ≡ suc k → (ss : Steps) → StepsWithin k ss → Takes n (Body ss) Ends (body n d expr_in step_in) ss
  body_read k is_d ss ws = body_complete StepSpells Tail Body (StepWithin k) (StepsWithin k) tree.no_steps tree.step tail_view body_view (λ x xs a. a) n step_in step_first ((below k is_d).step_read) ss ws

  pub tail_read : (k : ℕ) → d ≡ suc k → (ss : Steps) → StepsWithin k ss → Takes n (Tail ss) Ends (tail n d expr_in step_in) ss
  tail_read k is_d ss ws = tail_complete StepSpells Tail Body (StepWithin k) (StepsWithin k) tree.no_steps tree.step tail_view body_view (λ x xs a. a) n step_in step_first ((below k is_d).step_read) ss ws

  pub blocked_complete : (ss : Steps) → Within d (tree.block ss) → Takes n (Spells (tree.block ss)) Any (blocked n d expr_in step_in) (tree.block ss)
  blocked_complete ss o = opened (λ k. StepsWithin k ss) d _ o (λ k is_d ws at. then _ (body_read k is_d ss ws) (lead_mark refl) (mark_last _ (λ at rest. refl)))

  arms_complete : (j : ℕ) → d ≡ suc j → (k : ℕ) → k ≤ n → (xs : Arms) → ArmsWithin j xs → Takes k (ArmsSpell xs) IsEnd (arms n d expr_in step_in k) xs
  unfolding arms
  arms_complete j is_d zero h xs ws = record { takes = λ w rest g l s. absurd (omega (arith, l)) }
  arms_complete j is_d (suc k) h tree.no_arms ws = nothing _ tree.no_arms (λ rest s. rw (ap (is sign.ElseIf) s ∙ elseif-end, ap (is sign.Else) s ∙ else-end) refl)
  arms_complete j is_d (suc k) h (tree.otherwise ss) ws = on_no sign.ElseIf _ _ (lead_then (lead_mark elseif-else)) (on_yes sign.Else _ _ (lead_then (lead_mark (known sign.Else)))
      (seen_less _ (λ at. last _ (fewer k (omega (arith, h)) (body_read j is_d ss ws)) end-ends (λ rest s. refl))))
  arms_complete j is_d (suc k) h (tree.arm c ss xs) ws = on_yes sign.ElseIf _ _ (lead_then (lead_mark (known sign.ElseIf)))
      (seen_less _ (λ at. then _ (fewer k (omega (arith, h)) ((below j is_d).condition_read c ws.0)) (lead_behind (lead_more (closes-stop 2 (lit≤ tt)) (steps_lead ss)) (arms_lead xs))
      (then _ (fewer k (omega (arith, h)) (tail_read j is_d ss ws.1)) (arms_lead xs) (last _ (arms_complete j is_d k (omega (arith, h)) xs ws.2) (λ x e. e) (λ rest s. refl)))))

  pub branched_complete : (c : Tree) (ss : Steps) (xs : Arms) → Within d (tree.branches c ss xs) → Takes n (Spells (tree.branches c ss xs)) Any (branched n d expr_in step_in) (tree.branches c ss xs)
  branched_complete c ss xs o = opened (λ k. Within k c × StepsWithin k ss × ArmsWithin k xs) d _ o (λ k is_d o' at.
      then _ ((below k is_d).condition_read c o'.0) (arms_end_lead ss xs)
      (then _ (tail_read k is_d ss o'.1) (lead_behind (arms_lead xs) (lead_mark refl))
      (then _ (arms_complete k is_d n (omega arith) xs o'.2) (lead_mark refl) (mark_last _ (λ at rest. refl)))))

  pub repeated_complete : (c : Tree) (ss : Steps) → Within d (tree.while c ss) → Takes n (Spells (tree.while c ss)) Any (repeated n d expr_in step_in) (tree.while c ss)
  repeated_complete c ss o = opened (λ k. Within k c × StepsWithin k ss) d _ o (λ k is_d o' at.
      then _ ((below k is_d).condition_read c o'.0) (end_lead 2 (lit≤ tt) ss) (then _ (tail_read k is_d ss o'.1) (lead_mark refl) (mark_last _ (λ at rest. refl))))

  -- ---- loops

  sum_is : (e : Tree) → 6 ≤ level e → is_sum n d expr_in step_in e ≡ true
  unfolding is_sum
  sum_is e h = lt-ltb 5 (level e) (omega (arith, h))

  in_or_assign_passes : Passes n InOrAssign Any (on sign.In skip (expect sign.Assign))
  in_or_assign_passes = record { passes = λ w rest g h s. go w rest g }
    where
      go : (w rest : List Token) → InOrAssign w → (t : Token) × (on sign.In skip (expect sign.Assign) (w ++ rest) ≡ Ok (t, rest))
      go w rest (inl m) = (token (kind.Sign sign.In) m.0, ap (λ z. on sign.In skip (expect sign.Assign) (z ++ rest)) m.1 ∙ sign_by sign.In m.0 rest skip (expect sign.Assign))
      go w rest (inr m) = (token (kind.Sign sign.Assign) m.0, ap (λ z. on sign.In skip (expect sign.Assign) (z ++ rest)) m.1 ∙ rw (in-assign, known sign.Assign) refl)

  header_complete : (i : Identifier) → Opens d → Takes n (Mark sign.For ▸ Word i ▸ InOrAssign) Any (loop_header n d expr_in step_in) i
  header_complete i o = opened (λ k. Unit {0}) d _ o (λ k is_d o' at. then _ (word_takes i) anything (ignored i in_or_assign_passes))

  range_complete : (i : Identifier) (a b : Tree) (ss : Steps) (k : ℕ) → d ≡ suc k → Within k b → StepsWithin k ss
      → Takes n (Mark sign.Colon ▸ Held 6 b (Spells b) ▸ Tail ss ▸ Mark sign.End) Any (range_looped n d expr_in step_in i a) (tree.for_range i a b ss)
  range_complete i a b ss k is_d wb ws = mark _ (λ at. then _ ((below k is_d).sum_read b wb) (end_lead 6 (lit≤ tt) ss) (then _ (tail_read k is_d ss ws) (lead_mark refl) (mark_last _ (λ at rest. refl))))

  -- the first bound, in the place of what may be a channel
  range_over : (i : Identifier) (a b : Tree) (ss : Steps) (k : ℕ) → d ≡ suc k → 6 ≤ level a → Within k b → StepsWithin k ss
      → Takes n (Mark sign.Colon ▸ Held 6 b (Spells b) ▸ Tail ss ▸ Mark sign.End) Any (looped_over n d expr_in step_in i a) (tree.for_range i a b ss)
  range_over i a b ss k is_d h wb ws = on_yes sign.Colon _ _ (lead_then (lead_mark (known sign.Colon)))
      (subst (λ z. Takes n (Mark sign.Colon ▸ Held 6 b (Spells b) ▸ Tail ss ▸ Mark sign.End) Any (cond z (range_looped n d expr_in step_in i a) (each_looped n d expr_in step_in i a)) (tree.for_range i a b ss)) (sym (sum_is a h)) (range_complete i a b ss k is_d wb ws))

  each_over : (i : Identifier) (e : Tree) (ss : Steps) (k : ℕ) → d ≡ suc k → StepsWithin k ss → Takes n (Tail ss ▸ Mark sign.End) Any (looped_over n d expr_in step_in i e) (tree.for_each i e ss)
  each_over i e ss k is_d ws = on_no sign.Colon _ _ (end_no_colon ss) (then _ (tail_read k is_d ss ws) (lead_mark refl) (mark_last _ (λ at rest. refl)))

  -- with the number of openers that are left, and at least one is
  with_opener : {P : List Token → Type 0} {p : Parser Tree} {e : Tree} (K : ℕ → Type 0) (j : ℕ) → d ≡ j → Opened j K → ((k : ℕ) → d ≡ suc k → K k → Takes n P Any p e) → Takes n P Any p e
  with_opener K zero is_d o f = absurd o
  with_opener K (suc k) is_d o f = f k is_d o

  pub for_range_complete : (i : Identifier) (a b : Tree) (ss : Steps) → Within d (tree.for_range i a b ss) → Takes n (Spells (tree.for_range i a b ss)) Any (looped n d expr_in step_in) (tree.for_range i a b ss)
  for_range_complete i a b ss o =
      let K : ℕ → Type 0 = λ k. Within k a × Within k b × StepsWithin k ss in
      let behind = Held 6 a (Spells a) ▸ Mark sign.Colon ▸ Held 6 b (Spells b) ▸ Tail ss ▸ Mark sign.End in
      with_opener K d refl o (λ k is_d ks.
      respell ((Mark sign.For ▸ Word i ▸ InOrAssign) ▸ behind) (regroup (Mark sign.For) (Word i) InOrAssign behind)
      (then _ (header_complete i (opens_some K d o)) anything
      (knowing (λ w g. g.3.0) (λ h. respell (Held 2 a (Spells a) ▸ Mark sign.Colon ▸ Held 6 b (Spells b) ▸ Tail ss ▸ Mark sign.End) (λ w g. (g.0, g.1, g.2, (omega (arith, h), g.3.1), g.4))
      (then _ ((below k is_d).condition_read a ks.0) (lead_then (lead_mark (lit< tt))) (range_over i a b ss k is_d h ks.1 ks.2))))))

  pub range_loop_complete : (i : Identifier) (a b : Tree) (ss : Steps) → Within d (tree.for_range i a b ss) → Takes n (Spells (tree.for_range i a b ss)) Any (range_loop n d expr_in step_in) (tree.for_range i a b ss)
  unfolding range_loop
  range_loop_complete i a b ss o =
      let K : ℕ → Type 0 = λ k. Within k a × Within k b × StepsWithin k ss in
      let behind = Held 6 a (Spells a) ▸ Mark sign.Colon ▸ Held 6 b (Spells b) ▸ Tail ss ▸ Mark sign.End in
      with_opener K d refl o (λ k is_d ks.
      respell ((Mark sign.For ▸ Word i ▸ InOrAssign) ▸ behind) (regroup (Mark sign.For) (Word i) InOrAssign behind)
      (then _ (header_complete i (opens_some K d o)) anything
      (then _ ((below k is_d).sum_read a ks.0) (lead_then (lead_mark (lit< tt))) (range_complete i a b ss k is_d ks.1 ks.2))))

  pub for_each_complete : (i : Identifier) (e : Tree) (ss : Steps) → Within d (tree.for_each i e ss) → Takes n (Spells (tree.for_each i e ss)) Any (looped n d expr_in step_in) (tree.for_each i e ss)
  for_each_complete i e ss o =
      let K : ℕ → Type 0 = λ k. Within k e × StepsWithin k ss in
      let behind = Held 2 e (Spells e) ▸ Tail ss ▸ Mark sign.End in
      with_opener K d refl o (λ k is_d ks.
      respell ((Mark sign.For ▸ Word i ▸ InOrAssign) ▸ behind) (regroup (Mark sign.For) (Word i) InOrAssign behind)
      (then _ (header_complete i (opens_some K d o)) anything
      (then _ ((below k is_d).condition_read e ks.0) (end_lead 2 (lit≤ tt) ss) (each_over i e ss k is_d ks.1))))
