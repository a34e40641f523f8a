-- Loops beside the reader's recursions: a turn more, and what is read from the start.
use Rattle.std.proofs.Common.{◌≡◌, ℕ, zero, suc, ◌+◌, ◌-◌, ◌<◌, ◌≤◌, Bool, true, false, ◌||◌, List, [], ◌∷◌, Ok, Err, cond, refl, ap, ◌∙◌, arith}
use Rattle.jt_syntax.specs.declared.token.Token.{Token}
use Rattle.jt_grammar.specs.Reader.{Outcome, Parser, and_then, ◌>>=◌, pure, kind_of, skip, is_separator, gap, gap_from}

-- ---- a recursion on a count of turns, beside a loop that counts up

pub one_more : {X : Type 0} {x : X} (f : ℕ → X) (n at : ℕ) → at < n → x ≡ f (n - at) → x ≡ f (suc (n - (at + 1)))
one_more f n at below e = let turn : n - at ≡ suc (n - (at + 1)) = omega arith in e ∙ ap f turn

pub no_more : {X : Type 0} {x : X} (f : ℕ → X) (n at : ℕ) → n ≤ at → x ≡ f (n - at) → x ≡ f 0
no_more f n at done e = let none : n - at ≡ 0 = omega arith in e ∙ ap f none

pub deeper : {X : Type 0} (f : ℕ → X) (n : ℕ) → 0 < n → f n ≡ f (suc (n - 1))
deeper f n some = let e : n ≡ suc (n - 1) = omega arith in ap f e

pub ok_then : {A B : Type 0} (o : Outcome A) (a : A) (rest : List Token) (f : A → Parser B) (r : Outcome B) → o ≡ Ok (a, rest) → f a rest ≡ r → and_then o f ≡ r
ok_then o a rest f r e h = ap (λ z. and_then z f) e ∙ h

-- ---- separators

any_then : Bool → Outcome Bool → Outcome Bool
any_then any o = and_then o (λ b. pure (any || b))

any_true : (o : Outcome Bool) → any_then true o ≡ and_then o (λ b. pure true)
unfolding any_then
any_true (Ok p) = refl
any_true (Err e) = refl

or-true : (any : Bool) → true ≡ any || true
or-true true = refl
or-true false = refl

or-false : (any : Bool) → any ≡ any || false
or-false true = refl
or-false false = refl

any_after : (any : Bool) (o : Outcome Bool) → and_then o (λ b. pure true) ≡ any_then any (and_then o (λ b. pure true))
unfolding any_then
any_after any (Ok p) = ap (λ z. Ok (z, p.1)) (or-true any)
any_after any (Err e) = refl

gap_turn : (n : ℕ) → ((any : Bool) (ts : List Token) → gap_from n any ts ≡ any_then any (gap n ts)) → (any : Bool) (ts : List Token) (b : Bool)
    → cond b (and_then (skip ts) (λ _. gap_from n true)) (Ok (any, ts)) ≡ any_then any (cond b (and_then (skip ts) (λ _. gap n >>= λ _. pure true)) (Ok (false, ts)))
unfolding any_then
gap_turn n rec any [] true = refl
gap_turn n rec any (t ∷ ts) true = rec true ts ∙ (any_true (gap n ts) ∙ any_after any (gap n ts))
gap_turn n rec any ts false = ap (λ z. Ok (z, ts)) (or-false any)

gap_found : (n : ℕ) (any : Bool) (ts : List Token) → gap_from n any ts ≡ any_then any (gap n ts)
unfolding gap gap_from any_then
gap_found zero any ts = refl
gap_found (suc n) any ts = gap_turn n (gap_found n) any ts (is_separator (kind_of ts))

any_false : (o : Outcome Bool) → any_then false o ≡ o
unfolding any_then
any_false (Ok p) = refl
any_false (Err e) = refl

pub gap_start : (n : ℕ) (ts : List Token) → gap_from n false ts ≡ gap n ts
gap_start n ts = gap_found n false ts ∙ any_false (gap n ts)

pub gap_goes : (n at : ℕ) (any : Bool) (ts ts1 : List Token) (t : Token) {o : Outcome Bool} → at < n → is_separator (kind_of ts) ≡ true → skip ts ≡ Ok (t, ts1) → o ≡ gap_from (n - at) any ts → o ≡ gap_from (n - (at + 1)) true ts1
unfolding gap_from
gap_goes n at any ts ts1 t below h skips i = one_more (λ k. gap_from k any ts) n at below i ∙ rw h (ok_then (skip ts) t ts1 _ _ skips refl)
