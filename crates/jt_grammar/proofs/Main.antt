-- The one tree, or the exact refusal.
use Rattle.std.proofs.Common.{◌≡◌, ℕ, suc, ◌+◌, ◌<◌, ◌≤◌, ◌⊎◌, inl, inr, true, true≢false, List, [], ◌∷◌, ◌++◌, length, Ok, Err, is_ok, sym, ap, subst, ◌∙◌, append_assoc, append-nil, length-append, arith}
use Rattle.jt_syntax.specs.Tree.{TopTree}
use Rattle.jt_syntax.specs.declared.token.Sign.TheVariants as sign
use Rattle.jt_syntax.specs.declared.token.Token.{Token}
use Rattle.jt_syntax.specs.declared.token.TokenKind.TheVariants as kind
use Rattle.jt_grammar.specs.Grammar.{token, ScriptSpells, IsStop, NoStop, EndsWithStop}
use Rattle.jt_grammar.specs.Nesting.{TopsWithin}
use Rattle.jt_grammar.specs.Joined.{joined, IsScriptOf, BeginsScript, BeginsWithin, is_opener, demanded, BeginsFitting, IsUnexpected, IsTooDeep}
use Rattle.jt_grammar.specs.Reader.{Mismatch, unexpected, deep, spent, Outcome, kind_of, script}
use Rattle.jt_grammar.proofs.Steps.{Begins, Always, Fits, Explains}
use Rattle.jt_grammar.proofs.Sound.{script_explains}
use Rattle.jt_grammar.proofs.Complete.{script_complete}
use Rattle.jt_grammar.proofs.MovingSteps.{Moves, Same, Reach}
use Rattle.jt_grammar.proofs.Moving.{script_moving}
use Rattle.jt_grammar.proofs.Stops.{tops_free}
use Rattle.jt_grammar.proofs.Heights.{tops_height, within_tops}
use Rattle.jt_grammar.proofs.Joining.{same_tail, kept, split, joined_completed, joined_up_to, joined_behind, IsAt, is_at, ends_with_stop-joined}

-- ---- outcomes, and lists that end with the end token

abbrev Read : Type 0
Read = Outcome (List TopTree)

tokens_end : (u v more : List Token) (s e : Token) → IsStop s.kind → NoStop v → u ++ s ∷ more ≡ v ++ e ∷ [] → more ≡ []
tokens_end [] [] more s e h f eq = same_tail eq
tokens_end [] (t ∷ v) more s e h f eq = absurd (f.0 (subst (λ z. IsStop z) (ap (λ z. kind_of z) eq) h))
tokens_end (t ∷ u) [] more s e h f eq = absurd (omega (arith, ap length eq, length-append u (s ∷ more)))
tokens_end (t ∷ u) (r ∷ v) more s e h f eq = tokens_end u v more s e h f.1 (same_tail eq)

got : {A : Type 0} → A → Outcome A → A
got d (Ok p) = p.0
got d (Err e) = d

ok-same : (o : Read) (a b : List TopTree) (r s : List Token) → o ≡ Ok (a, r) → o ≡ Ok (b, s) → a ≡ b
unfolding got
ok-same o a b r s e f = ap (got a) (sym e ∙ f)

err-ok : {X : Type 0} (o : Read) (e : Mismatch) (p : List TopTree × List Token) → o ≡ Err e → o ≡ Ok p → X
err-ok o e p a b = absurd (true≢false (ap is_ok (sym b ∙ a)))

stop_end : (u v ts : List Token) (at : ℕ) → ts ≡ u ++ v → v ≡ token (kind.Sign sign.Stop) at ∷ [] → ts ≡ u ++ token (kind.Sign sign.Stop) at ∷ []
stop_end u v ts at e f = e ∙ ap (λ z. u ++ z) f

-- behind an end token nothing is left, where it stands at the end alone
nothing_behind : (u v ts more : List Token) (at at' : ℕ) → ts ≡ u ++ token (kind.Sign sign.Stop) at ∷ [] → NoStop v → ts ++ more ≡ v ++ token (kind.Sign sign.Stop) at' ∷ [] → more ≡ []
nothing_behind u v ts more at at' e f g =
    let stop = token (kind.Sign sign.Stop) at in
    tokens_end u v more stop (token (kind.Sign sign.Stop) at') tt f (sym (append_assoc u (stop ∷ []) more) ∙ (ap (λ z. z ++ more) (sym e) ∙ g))

nothing_left : (ts w rest : List Token) (tops : List TopTree) → EndsWithStop ts → ts ≡ w ++ rest → ScriptSpells tops w → rest ≡ []
nothing_left ts w rest tops h e a =
    nothing_behind a.0 h.0 w rest a.4.0 h.4.0 (stop_end a.0 a.1 w a.4.0 a.2 a.4.1) h.3 (sym e ∙ stop_end h.0 h.1 ts h.4.0 h.2 h.4.1)

nothing_more : (ts more : List Token) (tops : List TopTree) → EndsWithStop ts → ScriptSpells tops (ts ++ more) → more ≡ []
nothing_more ts more tops h a =
    nothing_behind h.0 a.0 ts more h.4.0 a.4.0 (stop_end h.0 h.1 ts h.4.0 h.2 h.4.1) ((tops_free tops).free a.0 a.3) (stop_end a.0 a.1 (ts ++ more) a.4.0 a.2 a.4.1)

-- ---- a refusal comes again, whatever follows, and however many turns and openers there are

again_unexpected : (o : Read) (x y : List Token) (at : ℕ) → at ≡ suc (length x) → ((k : ℕ) × (at ≡ k + suc (length x)) × (o ≡ Err (unexpected (k + suc (length y))))) ⊎ (at ≤ length x) → (e : Mismatch) × (o ≡ Err e)
again_unexpected o x y at is (inl m) = (unexpected (m.0 + suc (length y)), m.2)
again_unexpected o x y at is (inr m) = absurd (omega (arith, is, m))

front : (w y : List Token) (t : Token) → (w ++ t ∷ []) ++ y ≡ w ++ t ∷ y
front w y t = append_assoc w (t ∷ []) y

-- the token before which a list is refused, with what stands before and behind it
abbrev Place : List Token → ℕ → List Token → List Token → Token → Type 0
Place ts at w x t = (ts ≡ w ++ t ∷ x) × (at ≡ suc (length x))

-- some script begins with these tokens
abbrev Front : List Token → Type 0
Front w = (more : List Token) × (tops : List TopTree) × ScriptSpells tops (w ++ more)

abbrev FrontWithin : ℕ → List Token → Type 0
FrontWithin d w = (more : List Token) × (tops : List TopTree) × ScriptSpells tops (w ++ more) × TopsWithin d tops

abbrev Fitting : ℕ → List Token → Type 0
Fitting d w = Fits ScriptSpells (TopsWithin d) (TopsWithin (suc d)) w

abbrev Told : ℕ → ℕ → List Token → Read → Type 0
Told n d ts o = Explains ScriptSpells (TopsWithin d) (TopsWithin (suc d)) n ts o

script_reads : (n d : ℕ) (tops : List TopTree) (ts : List Token) → ScriptSpells tops ts → TopsWithin d tops → length ts < n → script n d ts ≡ Ok (tops, [])
script_reads n d tops ts a k h = subst (λ z. script n d z ≡ Ok (tops, [])) (append-nil ts) (script_complete n d tops ts [] a k h)

-- ---- what is read

script_found : (n d : ℕ) (ts rest : List Token) (tops : List TopTree) → EndsWithStop ts → script n d ts ≡ Ok (tops, rest) → ScriptSpells tops ts × TopsWithin d tops
script_found n d ts rest tops h e =
    let x : Told n d ts (Ok (tops, rest)) = subst (Told n d ts) e (script_explains n d ts) in
    let none : rest ≡ [] = nothing_left ts x.0 rest tops h x.1 x.2 in
    let all : ts ≡ x.0 = x.1 ∙ (ap (λ z. x.0 ++ z) none ∙ append-nil x.0) in
    (subst (ScriptSpells tops) (sym all) x.2, x.3)

pub one_tree : (ts : List Token) (tops others : List TopTree) → ScriptSpells tops ts → ScriptSpells others ts → tops ≡ others
one_tree ts tops others a b =
    let d : ℕ = tops_height tops + tops_height others in
    let n : ℕ = suc (length ts) in
    ok-same (script n d ts) tops others [] [] (script_reads n d tops ts a (within_tops tops d (omega arith)) (omega arith)) (script_reads n d others ts b (within_tops others d (omega arith)) (omega arith))

-- ---- where it is refused

-- tokens that end with the end token begin nothing longer
all_taken : (n d : ℕ) (ts : List Token) (at : ℕ) → EndsWithStop ts → length ts < n → script n d ts ≡ Err (unexpected at) → FrontWithin (suc d) ts → ⊥
all_taken n d ts at h size is b =
    let none : b.0 ≡ [] = nothing_more ts b.0 b.1 h b.2 in
    let here : ScriptSpells b.1 ts = subst (ScriptSpells b.1) (ap (λ z. ts ++ z) none ∙ append-nil ts) b.2 in
    let again : script n (suc d) ts ≡ Err (unexpected at) = subst (λ o. Same o (script n (suc d) ts)) is ((script_moving n n d (suc d) (omega arith) (omega arith)).same ts) in
    err-ok (script n (suc d) ts) (unexpected at) (b.1, []) again (script_reads n (suc d) b.1 ts here b.3 size)

some_left : (n d : ℕ) (ts w rest : List Token) (at : ℕ) → EndsWithStop ts → length ts < n → script n d ts ≡ Err (unexpected at) → ts ≡ w ++ rest → at ≡ length rest → FrontWithin (suc d) w → (t : Token) × (x : List Token) × Place ts at w x t
some_left n d ts w [] at h size is eq count b = absurd (all_taken n d ts at h size is (subst (FrontWithin (suc d)) (sym (eq ∙ append-nil w)) b))
some_left n d ts w (t ∷ x) at h size is eq count b = (t, x, (eq, count))

no_front : (n d : ℕ) (ts w x : List Token) (t : Token) (at : ℕ) → Place ts at w x t → script n d ts ≡ Err (unexpected at) → ¬ Front (w ++ t ∷ [])
no_front n d ts w x t at place is b =
    let y = b.0 in
    let tops = b.1 in
    let n' : ℕ = suc (n + length (w ++ t ∷ y)) in
    let d' : ℕ = d + tops_height tops in
    let spelled : ScriptSpells tops (w ++ t ∷ y) = subst (ScriptSpells tops) (front w y t) b.2 in
    let reads : script n' d' (w ++ t ∷ y) ≡ Ok (tops, []) = script_reads n' d' tops (w ++ t ∷ y) spelled (within_tops tops d' (omega arith)) (omega arith) in
    let moves : Moves (Reach d d') t x y (Err (unexpected at)) (script n' d' (w ++ t ∷ y)) = subst (λ o. Moves (Reach d d') t x y o (script n' d' (w ++ t ∷ y))) (subst (λ z. script n d z ≡ Err (unexpected at)) place.0 is) ((script_moving n n' d d' (omega arith) (omega arith)).moves w t x y) in
    let refusal = again_unexpected (script n' d' (w ++ t ∷ y)) x y at place.1 moves in
    err-ok (script n' d' (w ++ t ∷ y)) refusal.0 (tops, []) refusal.1 reads

no_front_within : (n d : ℕ) (ts w x : List Token) (t : Token) (at : ℕ) → Place ts at w x t → script n d ts ≡ Err (deep at) → ¬ FrontWithin (demanded t.kind + d) (w ++ t ∷ [])
no_front_within n d ts w x t at place is b =
    let y = b.0 in
    let tops = b.1 in
    let n' : ℕ = suc (n + length (w ++ t ∷ y)) in
    let d' : ℕ = demanded t.kind + d in
    let spelled : ScriptSpells tops (w ++ t ∷ y) = subst (ScriptSpells tops) (front w y t) b.2 in
    let reads : script n' d' (w ++ t ∷ y) ≡ Ok (tops, []) = script_reads n' d' tops (w ++ t ∷ y) spelled b.3 (omega arith) in
    let moves : Moves (Reach d d') t x y (Err (deep at)) (script n' d' (w ++ t ∷ y)) = subst (λ o. Moves (Reach d d') t x y o (script n' d' (w ++ t ∷ y))) (subst (λ z. script n d z ≡ Err (deep at)) place.0 is) ((script_moving n n' d d' (omega arith) (omega arith)).moves w t x y) in
    let refusal = moves (omega arith) place.1 in
    err-ok (script n' d' (w ++ t ∷ y)) refusal.0 (tops, []) refusal.1 reads

script_unexpected : (n d : ℕ) (ts : List Token) (at : ℕ) → EndsWithStop ts → length ts < n → script n d ts ≡ Err (unexpected at)
    → (w x : List Token) × (t : Token) × Place ts at w x t × Fitting d w × ¬ Front (w ++ t ∷ [])
script_unexpected n d ts at h size is =
    let x : Told n d ts (Err (unexpected at)) = subst (Told n d ts) is (script_explains n d ts) in
    let w = x.0 in
    let left = some_left n d ts w x.1 at h size is x.2 x.3 (x.4.5.0, x.4.5.1, x.4.5.2, x.4.5.3) in
    (w, left.1, left.0, left.2, x.4, no_front n d ts w left.1 left.0 at left.2 is)

script_deep : (n d : ℕ) (ts : List Token) (at : ℕ) → script n d ts ≡ Err (deep at)
    → (w x : List Token) × (t : Token) × Place ts at w x t × Fitting d w × (is_opener t.kind ≡ true) × Begins ScriptSpells Always (w ++ t ∷ []) × ¬ FrontWithin (demanded t.kind + d) (w ++ t ∷ [])
script_deep n d ts at is =
    let x : Told n d ts (Err (deep at)) = subst (Told n d ts) is (script_explains n d ts) in
    (x.0, x.1, x.2, (x.3, x.4), x.5, x.6, x.7, no_front_within n d ts x.0 x.1 x.2 at (x.3, x.4) is)

-- there are turns enough
script_spent : (n d : ℕ) (ts : List Token) → length ts < n → script n d ts ≡ Err spent → ⊥
script_spent n d ts h is =
    let x : Told n d ts (Err spent) = subst (Told n d ts) is (script_explains n d ts) in
    omega (arith, h, x.3, ap length x.2, length-append x.0 x.1)

-- ---- of tokens as they were written: what was read of js, which are joined of ts

pub lines_only : (ts : List Token) (tops others : List TopTree) → IsScriptOf ts tops → IsScriptOf ts others → tops ≡ others
lines_only ts tops others a b = one_tree (joined ts) tops others a b

-- a script within a nesting is within a deeper one
pub within_more : (d : ℕ) (ts : List Token) (tops : List TopTree) → IsScriptOf ts tops → TopsWithin d tops → TopsWithin (suc d) tops
within_more d ts tops a h =
    let js = joined ts in
    let n : ℕ = suc (length js) in
    let again : script n (suc d) js ≡ Ok (tops, []) = subst (λ o. Same o (script n (suc d) js)) (script_reads n d tops js a h (omega arith)) ((script_moving n n d (suc d) (omega arith) (omega arith)).same js) in
    let x : Told n (suc d) js (Ok (tops, [])) = subst (Told n (suc d) js) again (script_explains n (suc d) js) in
    x.3

module _ (n d : ℕ) (ts js : List Token) (whole : EndsWithStop ts) (joins : js ≡ joined ts) (turns : length js < n) where
  js_end : EndsWithStop js
  js_end = subst EndsWithStop (sym joins) (ends_with_stop-joined ts whole)

  -- a front of what was joined is a front of what was written
  begins_within : (k : ℕ) (u w : List Token) → joined u ≡ w → Begins ScriptSpells (TopsWithin k) w → BeginsWithin k u
  begins_within k u w e b = (b.0, b.1, subst (ScriptSpells b.1) (sym (joined_completed u w b.0 e b.4)) b.2, b.3)

  begins : (u w : List Token) → joined u ≡ w → Begins ScriptSpells Always w → BeginsScript u
  begins u w e b = (b.0, b.1, subst (ScriptSpells b.1) (sym (joined_completed u w b.0 e b.4)) b.2)

  begins_fitting : (u w : List Token) → joined u ≡ w → Fitting d w → BeginsFitting d u
  begins_fitting u w e f = let s = split u f.0 f.1 (e ∙ f.2) f.4 in (s.0, s.1, s.2, begins_within d s.0 f.0 s.3 f.3, s.4, begins_within (suc d) u w e f.5)

  pub lines_found : (tops : List TopTree) (rest : List Token) → script n d js ≡ Ok (tops, rest) → IsScriptOf ts tops × TopsWithin d tops
  lines_found tops rest e = let x = script_found n d js rest tops js_end e in (subst (ScriptSpells tops) joins x.0, x.1)

  pub lines_unexpected : (left : ℕ) → script n d js ≡ Err (unexpected left) → (t : Token) × IsUnexpected d ts t × IsAt js left t
  lines_unexpected left e =
      let x = script_unexpected n d js left js_end turns e in
      let w = x.0 in
      let t = x.2 in
      let k = kept ts w x.1 t (sym joins ∙ x.3.0) in
      let u = k.0 in
      let refused : ¬ BeginsScript (u ++ t ∷ []) = λ b. (let z = joined_behind u w b.0 t k.3 k.4 in x.5 (z.0, b.1, subst (ScriptSpells b.1) z.1 b.2)) in
      (t, (u, k.1, k.2, begins_fitting u w k.3 x.4, refused), is_at js w x.1 t left x.3.0 x.3.1)

  pub lines_deep : (left : ℕ) → script n d js ≡ Err (deep left) → (t : Token) × IsTooDeep d ts t × IsAt js left t
  lines_deep left e =
      let x = script_deep n d js left e in
      let w = x.0 in
      let t = x.2 in
      let k = kept ts w x.1 t (sym joins ∙ x.3.0) in
      let u = k.0 in
      let whatever : BeginsScript (u ++ t ∷ []) = begins (u ++ t ∷ []) (w ++ t ∷ []) (joined_up_to u w t k.3 k.4) x.6 in
      let refused : ¬ BeginsWithin (demanded t.kind + d) (u ++ t ∷ []) = λ b. (let z = joined_behind u w b.0 t k.3 k.4 in x.7 (z.0, b.1, subst (ScriptSpells b.1) z.1 b.2, b.3)) in
      (t, (u, k.1, k.2, begins_fitting u w k.3 x.4, x.5, whatever, refused), is_at js w x.1 t left x.3.0 x.3.1)

  pub lines_spent : script n d js ≡ Err spent → ⊥
  lines_spent e = script_spent n d js turns e
