-- A rule looks no further than the token at which it is refused, and more turns and openers change no outcome that didn't want them: what holds of each way to put rules together.
use Rattle.std.proofs.Common.{◌≡◌, ℕ, zero, suc, ◌+◌, ◌<◌, ◌≤◌, ◌⊎◌, inl, inr, Bool, true, false, List, [], ◌∷◌, ◌++◌, length, Ok, Err, cond, refl, sym, ap, subst, length-append, arith}
use Rattle.jt_syntax.specs.Tree.{Tree}
use Rattle.jt_syntax.specs.Tree as tree
use Rattle.jt_syntax.specs.declared.operator.Class.{Class}
use Rattle.jt_syntax.specs.declared.token.Sign.{Sign}
use Rattle.jt_syntax.specs.declared.token.Sign.TheVariants as sign
use Rattle.jt_syntax.specs.declared.token.Token.{Token}
use Rattle.jt_syntax.specs.declared.token.TokenKind.{TokenKind}
use Rattle.jt_syntax.specs.declared.token.TokenKind.TheVariants as kind
use Rattle.jt_grammar.specs.Joined.{demanded}
use Rattle.jt_grammar.proofs.Signs.{is-true}
use Rattle.jt_grammar.specs.Reader.{Mismatch, unexpected, deep, spent, Outcome, Parser, and_then, ◌>>=◌, ◌>>◌, pure, refuse, kind_of, place_of, is, skip, by_kind, on, expect, enter, opening, operates, operator_of, joined_chain, terms, chained, is_jump, guarded_terms, commas, comma_list, is_separator, gap, ends, list_of, body_of, tail_of}

-- ---- an outcome leaves no more tokens than there were

abbrev pub Shorter : {A : Type 0} → List Token → Outcome A → Type 0
Shorter ts (Ok p) = length p.1 ≤ length ts
Shorter ts (Err (unexpected at)) = at ≤ length ts
Shorter ts (Err (deep at)) = at ≤ length ts
Shorter ts (Err spent) = Unit {0}

shorter_than : {A : Type 0} (ts rest : List Token) (o : Outcome A) → length rest ≤ length ts → Shorter rest o → Shorter ts o
shorter_than ts rest (Ok p) h x = omega (arith, h, x)
shorter_than ts rest (Err (unexpected at)) h x = omega (arith, h, x)
shorter_than ts rest (Err (deep at)) h x = omega (arith, h, x)
shorter_than ts rest (Err spent) h x = tt

-- a refusal
abbrev pub IsErr : {A : Type 0} → Outcome A → Type 0
IsErr o = (e : Mismatch) × (o ≡ Err e)

-- ---- two outcomes, on lists that agree up to the token t: before x in the first, before y in the second

abbrev pub Moves : {A : Type 0} → (TokenKind → Type 0) → Token → List Token → List Token → Outcome A → Outcome A → Type 0
Moves D t x y (Ok p) r = ((v : List Token) × (p.1 ≡ v ++ t ∷ x) × (r ≡ Ok (p.0, v ++ t ∷ y))) ⊎ (length p.1 ≤ length x)
Moves D t x y (Err (unexpected at)) r = ((k : ℕ) × (at ≡ k + suc (length x)) × (r ≡ Err (unexpected (k + suc (length y))))) ⊎ (at ≤ length x)
Moves D t x y (Err (deep at)) r = D t.kind → at ≡ suc (length x) → IsErr r
Moves D t x y (Err spent) r = Unit {0}

-- what is read beyond t may go otherwise
beyond : {A : Type 0} (D : TokenKind → Type 0) (t : Token) (x y rest : List Token) (o r : Outcome A) → length rest ≤ length x → Shorter rest o → Moves D t x y o r
beyond D t x y rest (Ok p) r h s = inr (omega (arith, h, s))
beyond D t x y rest (Err (unexpected at)) r h s = inr (omega (arith, h, s))
beyond D t x y rest (Err (deep at)) r h s = λ d is. absurd (omega (arith, h, s, is))
beyond D t x y rest (Err spent) r h s = tt

-- two outcomes on one list
abbrev pub Same : {A : Type 0} → Outcome A → Outcome A → Type 0
Same (Ok p) r = r ≡ Ok p
Same (Err (unexpected at)) r = r ≡ Err (unexpected at)
Same (Err (deep at)) r = Unit {0}
Same (Err spent) r = Unit {0}

-- q goes as p does. D says at which openers too many for p one is refused in q as well.
pub record Moving {A : Type 0} (D : TokenKind → Type 0) (p q : Parser A) : Type 0 where
  pub shorter : (ts : List Token) → Shorter ts (p ts)
  pub moves : (w : List Token) (t : Token) (x y : List Token) → Moves D t x y (p (w ++ t ∷ x)) (q (w ++ t ∷ y))
  pub same : (ts : List Token) → Same (p ts) (q ts)

-- ---- one rule after another

then_shorter : {A B : Type 0} (ts : List Token) (o : Outcome A) (f : A → Parser B) → Shorter ts o → ((a : A) (rest : List Token) → Shorter rest (f a rest)) → Shorter ts (and_then o f)
then_shorter ts (Ok p) f s h = shorter_than ts p.1 (f p.0 p.1) s (h p.0 p.1)
then_shorter ts (Err (unexpected at)) f s h = s
then_shorter ts (Err (deep at)) f s h = s
then_shorter ts (Err spent) f s h = tt

then_moves : {A B : Type 0} (D : TokenKind → Type 0) (f g : A → Parser B) → ((a : A) → Moving D (f a) (g a)) → (t : Token) (x y : List Token) (o r : Outcome A) → Moves D t x y o r → Moves D t x y (and_then o f) (and_then r g)
then_moves D f g m t x y (Ok p) r (inl h) =
    subst (λ z. Moves D t x y (f p.0 p.1) (and_then z g)) (sym h.2) (subst (λ z. Moves D t x y (f p.0 z) (g p.0 (h.0 ++ t ∷ y))) (sym h.1) ((m p.0).moves h.0 t x y))
then_moves D f g m t x y (Ok p) r (inr h) = beyond D t x y p.1 (f p.0 p.1) (and_then r g) h ((m p.0).shorter p.1)
then_moves D f g m t x y (Err (unexpected at)) r (inl h) = inl (h.0, h.1, ap (λ z. and_then z g) h.2)
then_moves D f g m t x y (Err (unexpected at)) r (inr h) = inr h
then_moves D f g m t x y (Err (deep at)) r h = λ d is. let e = h d is in (e.0, ap (λ z. and_then z g) e.1)
then_moves D f g m t x y (Err spent) r h = tt

then_same : {A B : Type 0} (f g : A → Parser B) (o r : Outcome A) → Same o r → ((a : A) (rest : List Token) → Same (f a rest) (g a rest)) → Same (and_then o f) (and_then r g)
then_same f g (Ok p) r h n = subst (λ z. Same (f p.0 p.1) (and_then z g)) (sym h) (n p.0 p.1)
then_same f g (Err (unexpected at)) r h n = ap (λ z. and_then z g) h
then_same f g (Err (deep at)) r h n = tt
then_same f g (Err spent) r h n = tt

pub bind : {A B : Type 0} {D : TokenKind → Type 0} {p q : Parser A} {f g : A → Parser B} → Moving D p q → ((a : A) → Moving D (f a) (g a)) → Moving D (p >>= f) (q >>= g)
bind {D = D} {p = p} {q = q} {f = f} {g = g} m n = record {
  shorter = λ ts. then_shorter ts (p ts) f (m.shorter ts) (λ a rest. (n a).shorter rest);
  moves = λ w t x y. then_moves D f g n t x y (p (w ++ t ∷ x)) (q (w ++ t ∷ y)) (m.moves w t x y);
  same = λ ts. then_same f g (p ts) (q ts) (m.same ts) (λ a rest. (n a).same rest);
}

-- what was read first is of no use behind it
pub then_moving : {A B : Type 0} {D : TokenKind → Type 0} {p q : Parser A} {p' q' : Parser B} → Moving D p q → Moving D p' q' → Moving D (p >> p') (q >> q')
then_moving m n = bind m (λ _. n)

pub pure_moving : {A : Type 0} {D : TokenKind → Type 0} (a : A) → Moving D (pure a) (pure a)
pure_moving a = record { shorter = λ ts. omega arith; moves = λ w t x y. inl (w, refl, refl); same = λ ts. refl }

-- ---- a token, a refusal, turns that are used up, an opener

skip_same : (ts : List Token) → Same (skip ts) (skip ts)
skip_same [] = refl
skip_same (t ∷ ts) = refl

skip_shorter : (ts : List Token) → Shorter ts (skip ts)
skip_shorter [] = omega arith
skip_shorter (t ∷ ts) = omega arith

skip_moves : (D : TokenKind → Type 0) (w : List Token) (t : Token) (x y : List Token) → Moves D t x y (skip (w ++ t ∷ x)) (skip (w ++ t ∷ y))
skip_moves D [] t x y = inr (omega arith)
skip_moves D (s ∷ w) t x y = inl (w, refl, refl)

pub skip_moving : {D : TokenKind → Type 0} → Moving D skip skip
skip_moving {D = D} = record { shorter = skip_shorter; moves = skip_moves D; same = skip_same }

refuse_moves : {A : Type 0} (D : TokenKind → Type 0) (w : List Token) (t : Token) (x y : List Token) → Moves {A = A} D t x y (refuse (w ++ t ∷ x)) (refuse (w ++ t ∷ y))
refuse_moves D w t x y = inl (length w, length-append w (t ∷ x), ap (λ k. Err (unexpected k)) (length-append w (t ∷ y)))

pub refuse_moving : {A : Type 0} {D : TokenKind → Type 0} → Moving {A = A} D refuse refuse
refuse_moving {D = D} = record { shorter = λ ts. omega arith; moves = refuse_moves D; same = λ ts. refl }

pub spent_moving : {A : Type 0} {D : TokenKind → Type 0} (q : Parser A) → Moving D (λ ts. Err spent) q
spent_moving q = record { shorter = λ ts. tt; moves = λ w t x y. tt; same = λ ts. tt }

-- ---- a choice

-- by the next token's kind
kind_moves : {A : Type 0} (D : TokenKind → Type 0) (f g : TokenKind → Parser A) → ((k : TokenKind) → Moving D (f k) (g k)) → (w : List Token) (t : Token) (x y : List Token)
    → Moves D t x y (f (kind_of (w ++ t ∷ x)) (w ++ t ∷ x)) (g (kind_of (w ++ t ∷ y)) (w ++ t ∷ y))
kind_moves D f g m [] t x y = (m t.kind).moves [] t x y
kind_moves D f g m (s ∷ w) t x y = (m s.kind).moves (s ∷ w) t x y

pub by_kind_moving : {A : Type 0} {D : TokenKind → Type 0} {f g : TokenKind → Parser A} → ((k : TokenKind) → Moving D (f k) (g k)) → Moving D (by_kind f) (by_kind g)
by_kind_moving {D = D} {f = f} {g = g} m = record { shorter = λ ts. (m (kind_of ts)).shorter ts; moves = kind_moves D f g m; same = λ ts. (m (kind_of ts)).same ts }

-- by the next token's place
place_moves : {A : Type 0} (D : TokenKind → Type 0) (f g : ℕ → Parser A) → ((at : ℕ) → Moving D (f at) (g at)) → (w : List Token) (t : Token) (x y : List Token)
    → Moves D t x y (f (place_of (w ++ t ∷ x)) (w ++ t ∷ x)) (g (place_of (w ++ t ∷ y)) (w ++ t ∷ y))
place_moves D f g m [] t x y = (m t.at).moves [] t x y
place_moves D f g m (s ∷ w) t x y = (m s.at).moves (s ∷ w) t x y

pub by_place_moving : {A : Type 0} {D : TokenKind → Type 0} {f g : ℕ → Parser A} → ((at : ℕ) → Moving D (f at) (g at)) → Moving D (λ ts. f (place_of ts) ts) (λ ts. g (place_of ts) ts)
by_place_moving {D = D} {f = f} {g = g} m = record { shorter = λ ts. (m (place_of ts)).shorter ts; moves = place_moves D f g m; same = λ ts. (m (place_of ts)).same ts }

pub if_moving : {A : Type 0} {D : TokenKind → Type 0} (b : Bool) {p q p' q' : Parser A} → Moving D p q → Moving D p' q' → Moving D (λ ts. cond b (p ts) (p' ts)) (λ ts. cond b (q ts) (q' ts))
if_moving true m m' = m
if_moving false m m' = m'

pub choice_moving : {A : Type 0} {D : TokenKind → Type 0} (b : Bool) {p q p' q' : Parser A} → Moving D p q → Moving D p' q' → Moving D (cond b p p') (cond b q q')
choice_moving true m m' = m
choice_moving false m m' = m'

-- by a test of the next token's kind
pub test_moving : {A : Type 0} {D : TokenKind → Type 0} (b : TokenKind → Bool) {p q p' q' : Parser A} → Moving D p q → Moving D p' q'
    → Moving D (λ ts. cond (b (kind_of ts)) (p ts) (p' ts)) (λ ts. cond (b (kind_of ts)) (q ts) (q' ts))
test_moving b {p = p} {q = q} {p' = p'} {q' = q'} m m' = by_kind_moving {f = λ k ts. cond (b k) (p ts) (p' ts)} {g = λ k ts. cond (b k) (q ts) (q' ts)} (λ k. if_moving (b k) m m')

pub on_moving : {A : Type 0} {D : TokenKind → Type 0} (s : Sign) {p q p' q' : Parser A} → Moving D p q → Moving D p' q' → Moving D (on s p p') (on s q q')
on_moving s m m' = test_moving (is s) m m'

pub expect_moving : {D : TokenKind → Type 0} (s : Sign) → Moving D (expect s) (expect s)
expect_moving s = on_moving s skip_moving refuse_moving

-- ---- an opener, with more openers allowed: too many for p, it is too many for q, or what it demands is

abbrev pub Reach : ℕ → ℕ → TokenKind → Type 0
Reach d d' k = d' ≤ demanded k + d

-- refused, whatever comes
pub record Closed {A : Type 0} (p : Parser A) : Type 0 where
  pub closed : (ts : List Token) → IsErr (p ts)

then_refused : {A B : Type 0} (o : Outcome A) (f : A → Parser B) → ((a : A) → Closed (f a)) → IsErr (and_then o f)
then_refused (Ok p) f h = (h p.0).closed p.1
then_refused (Err e) f h = (e, refl)

pub closed_behind : {A B : Type 0} (p : Parser A) {f : A → Parser B} → ((a : A) → Closed (f a)) → Closed (p >>= f)
closed_behind p {f = f} h = record { closed = λ ts. then_refused (p ts) f h }

refused_then : {A B : Type 0} (o : Outcome A) (f : A → Parser B) → IsErr o → IsErr (and_then o f)
refused_then o f h = (h.0, ap (λ z. and_then z f) h.1)

pub closed_before : {A B : Type 0} {p : Parser A} (f : A → Parser B) → Closed p → Closed (p >>= f)
closed_before {p = p} f h = record { closed = λ ts. refused_then (p ts) f (h.closed ts) }

closed_opening_by : (b : Bool) (ts : List Token) → IsErr (cond b (and_then (enter 0 ts) (λ _. skip)) (refuse ts))
closed_opening_by true ts = (deep (length ts), refl)
closed_opening_by false ts = (unexpected (length ts), refl)

pub closed_opening : (s : Sign) → Closed (opening 0 s)
closed_opening s = record { closed = λ ts. closed_opening_by (is s (kind_of ts)) ts }

-- what stands behind the opener s is refused where s was one too many, since s demands others
abbrev pub Refused : {A : Type 0} → ℕ → Sign → Parser A → Type 0
Refused d' s q = 0 < d' → d' ≤ demanded (kind.Sign s) → Closed q

first_only : (w : List Token) (t : Token) (x : List Token) → length (w ++ t ∷ x) ≡ suc (length x) → w ≡ []
first_only [] t x e = refl
first_only (r ∷ w) t x e = absurd (omega (arith, e, length-append w (t ∷ x)))

refused_at : {A : Type 0} (d' : ℕ) (s : Sign) (q : Parser A) → Refused (suc d') s q → (w : List Token) (t : Token) (x y : List Token) → (w ≡ [] → t.kind ≡ kind.Sign s)
    → Reach 0 (suc d') t.kind → length (w ++ t ∷ x) ≡ suc (length x) → IsErr (q (w ++ t ∷ y))
refused_at d' s q refused w t x y known r e = (refused (omega arith) (subst (λ k. suc d' ≤ demanded k) (known (first_only w t x e)) (omega (arith, r)))).closed (w ++ t ∷ y)

enter_shorter : (d : ℕ) (ts : List Token) → Shorter ts (enter d ts)
enter_shorter zero ts = omega arith
enter_shorter (suc d) ts = omega arith

enter_moves : {A : Type 0} (d d' : ℕ) (s : Sign) {p q : Parser A} → d ≤ d' → Refused d' s q → Moving (Reach d d') p q
    → (w : List Token) (t : Token) (x y : List Token) → (w ≡ [] → t.kind ≡ kind.Sign s) → Moves (Reach d d') t x y (and_then (enter d (w ++ t ∷ x)) (λ _. p)) (and_then (enter d' (w ++ t ∷ y)) (λ _. q))
enter_moves zero zero s h refused m w t x y known = λ r is. (deep (length (w ++ t ∷ y)), refl)
enter_moves zero (suc d') s {q = q} h refused m w t x y known = λ r is. refused_at d' s q refused w t x y known r is
enter_moves (suc d) zero s h refused m w t x y known = absurd (omega (arith, h))
enter_moves (suc d) (suc d') s h refused m w t x y known = m.moves w t x y

-- behind an opener that was seen
seen_moves : {A : Type 0} (d d' : ℕ) (s : Sign) {p q p' q' : Parser A} → d ≤ d' → Refused d' s q → Moving (Reach d d') p q → Moving (Reach d d') p' q'
    → (w : List Token) (t : Token) (x y : List Token) (b : Bool) → (b ≡ true → w ≡ [] → t.kind ≡ kind.Sign s)
    → Moves (Reach d d') t x y (cond b (and_then (enter d (w ++ t ∷ x)) (λ _. p)) (p' (w ++ t ∷ x))) (cond b (and_then (enter d' (w ++ t ∷ y)) (λ _. q)) (q' (w ++ t ∷ y)))
seen_moves d d' s h refused m m' w t x y true known = enter_moves d d' s h refused m w t x y (known refl)
seen_moves d d' s h refused m m' w t x y false known = m'.moves w t x y

seen_first : {A : Type 0} (d d' : ℕ) (s : Sign) {p q p' q' : Parser A} → d ≤ d' → Refused d' s q → Moving (Reach d d') p q → Moving (Reach d d') p' q'
    → (w : List Token) (t : Token) (x y : List Token) → Moves (Reach d d') t x y (on s (enter d >>= λ _. p) p' (w ++ t ∷ x)) (on s (enter d' >>= λ _. q) q' (w ++ t ∷ y))
seen_first d d' s h refused m m' [] t x y = seen_moves d d' s h refused m m' [] t x y (is s t.kind) (λ e n. is-true s t.kind e)
seen_first d d' s h refused m m' (r ∷ w) t x y = seen_moves d d' s h refused m m' (r ∷ w) t x y (is s r.kind) (λ e n. absurd (omega (arith, ap length n)))

seen_shorter : {A : Type 0} (d : ℕ) (p p' : Parser A) → ((ts : List Token) → Shorter ts (p ts)) → ((ts : List Token) → Shorter ts (p' ts)) → (ts : List Token) (b : Bool) → Shorter ts (cond b (and_then (enter d ts) (λ _. p)) (p' ts))
seen_shorter d p p' h h' ts true = then_shorter ts (enter d ts) (λ _. p) (enter_shorter d ts) (λ a rest. h rest)
seen_shorter d p p' h h' ts false = h' ts

seen_same : {A : Type 0} (d d' : ℕ) (p q p' q' : Parser A) → d ≤ d' → ((ts : List Token) → Same (p ts) (q ts)) → ((ts : List Token) → Same (p' ts) (q' ts)) → (ts : List Token) (b : Bool)
    → Same (cond b (and_then (enter d ts) (λ _. p)) (p' ts)) (cond b (and_then (enter d' ts) (λ _. q)) (q' ts))
seen_same zero d' p q p' q' h e e' ts true = tt
seen_same (suc d) zero p q p' q' h e e' ts true = absurd (omega (arith, h))
seen_same (suc d) (suc d') p q p' q' h e e' ts true = e ts
seen_same d d' p q p' q' h e e' ts false = e' ts

seen_moving : {A : Type 0} (d d' : ℕ) (s : Sign) {p q p' q' : Parser A} → d ≤ d' → Refused d' s q → Moving (Reach d d') p q → Moving (Reach d d') p' q' → Moving (Reach d d') (on s (enter d >>= λ _. p) p') (on s (enter d' >>= λ _. q) q')
seen_moving d d' s {p = p} {q = q} {p' = p'} {q' = q'} h refused m m' = record {
  shorter = λ ts. seen_shorter d p p' m.shorter m'.shorter ts (is s (kind_of ts));
  moves = seen_first d d' s h refused m m';
  same = λ ts. seen_same d d' p q p' q' h m.same m'.same ts (is s (kind_of ts));
}

-- an opener that demands no other
plain_refused : {A : Type 0} (d' : ℕ) (s : Sign) (q : Parser A) → demanded (kind.Sign s) ≡ 0 → Refused d' s q
plain_refused d' s q e some r = absurd (omega (arith, e, some, r))

pub entering_moving : {A : Type 0} (d d' : ℕ) (s : Sign) {p q p' q' : Parser A} → d ≤ d' → demanded (kind.Sign s) ≡ 0 → Moving (Reach d d') p q → Moving (Reach d d') p' q' → Moving (Reach d d') (on s (enter d >> (skip >> p)) p') (on s (enter d' >> (skip >> q)) q')
entering_moving d d' s {q = q} h e m m' = seen_moving d d' s h (plain_refused d' s (skip >> q) e) (then_moving skip_moving m) m'

pub plain_opening_moving : (d d' : ℕ) (s : Sign) → d ≤ d' → demanded (kind.Sign s) ≡ 0 → Moving (Reach d d') (opening d s) (opening d' s)
plain_opening_moving d d' s h e = seen_moving d d' s h (plain_refused d' s skip e) skip_moving refuse_moving

-- an opener with what stands behind it
opening_by : {A : Type 0} (d : ℕ) (f : Token → Parser A) (ts : List Token) (b : Bool) → cond b (and_then (enter d ts) (λ _. skip >>= f)) (refuse ts) ≡ and_then (cond b (and_then (enter d ts) (λ _. skip)) (refuse ts)) f
opening_by zero f ts true = refl
opening_by (suc d) f ts true = refl
opening_by d f ts false = refl

same_moving : {A : Type 0} {D : TokenKind → Type 0} (p q p' q' : Parser A) → ((ts : List Token) → p ts ≡ p' ts) → ((ts : List Token) → q ts ≡ q' ts) → Moving D p q → Moving D p' q'
same_moving {D = D} p q p' q' e f m = record {
  shorter = λ ts. subst (Shorter ts) (e ts) (m.shorter ts);
  moves = λ w t x y. subst (λ o. Moves D t x y o (q' (w ++ t ∷ y))) (e (w ++ t ∷ x)) (subst (Moves D t x y (p (w ++ t ∷ x))) (f (w ++ t ∷ y)) (m.moves w t x y));
  same = λ ts. subst (λ o. Same o (q' ts)) (e ts) (subst (Same (p ts)) (f ts) (m.same ts));
}

pub opening_moving : {A : Type 0} (d d' : ℕ) (s : Sign) {f g : Token → Parser A} → d ≤ d' → Refused d' s (skip >>= g) → ((t : Token) → Moving (Reach d d') (f t) (g t)) → Moving (Reach d d') (opening d s >>= f) (opening d' s >>= g)
opening_moving d d' s {f = f} {g = g} h refused m =
    same_moving (on s (enter d >>= λ _. skip >>= f) refuse) (on s (enter d' >>= λ _. skip >>= g) refuse) (opening d s >>= f) (opening d' s >>= g) (λ ts. opening_by d f ts (is s (kind_of ts))) (λ ts. opening_by d' g ts (is s (kind_of ts)))
    (seen_moving d d' s h refused (bind skip_moving m) refuse_moving)

-- ---- where fewer things are known of the numbers of openers

less_known : {A : Type 0} (D E : TokenKind → Type 0) (t : Token) (x y : List Token) (o r : Outcome A) → (E t.kind → D t.kind) → Moves D t x y o r → Moves E t x y o r
less_known D E t x y (Ok p) r h m = m
less_known D E t x y (Err (unexpected at)) r h m = m
less_known D E t x y (Err (deep at)) r h m = λ e. m (h e)
less_known D E t x y (Err spent) r h m = m

pub weaker : {A : Type 0} {D E : TokenKind → Type 0} {p q : Parser A} → ((k : TokenKind) → E k → D k) → Moving D p q → Moving E p q
weaker {D = D} {E = E} {p = p} {q = q} h m = record { shorter = m.shorter; moves = λ w t x y. less_known D E t x y (p (w ++ t ∷ x)) (q (w ++ t ∷ y)) (h t.kind) (m.moves w t x y); same = m.same }

-- ---- loops

module _ {D : TokenKind → Type 0} (c : Class) {item item' : Parser Tree} (item_moving : Moving D item item') where
  pub terms_moving : (k k' : ℕ) → k ≤ k' → Moving D (terms c item k) (terms c item' k')
  unfolding terms
  terms_moving zero k' h = spent_moving (terms c item' k')
  terms_moving (suc k) zero h = absurd (omega (arith, h))
  terms_moving (suc k) (suc k') h =
      test_moving (operates c) (bind skip_moving (λ t. bind item_moving (λ e. bind (terms_moving k k' (omega (arith, h))) (λ es. pure_moving (tree.term (operator_of t.kind) e es))))) (pure_moving tree.no_terms)

  pub guarded_terms_moving : (k k' : ℕ) → k ≤ k' → Moving D (guarded_terms c item k) (guarded_terms c item' k')
  unfolding guarded_terms
  guarded_terms_moving zero k' h = spent_moving (guarded_terms c item' k')
  guarded_terms_moving (suc k) zero h = absurd (omega (arith, h))
  guarded_terms_moving (suc k) (suc k') h =
      test_moving (operates c)
      (bind skip_moving (λ t. test_moving is_jump (pure_moving (tree.no_terms, true)) (bind item_moving (λ e. bind (guarded_terms_moving k k' (omega (arith, h))) (λ r. pure_moving (tree.term (operator_of t.kind) e r.0, r.1))))))
      (pure_moving (tree.no_terms, false))

  pub chained_moving : (n n' : ℕ) → n ≤ n' → Moving D (chained n c item) (chained n' c item')
  chained_moving n n' h = bind item_moving (λ e. bind (terms_moving n n' h) (λ es. pure_moving (joined_chain c e es)))

module _ {A B : Type 0} {D : TokenKind → Type 0} (n n' : ℕ) (fewer : n ≤ n') {item item' : Parser A} (item_moving : Moving D item item') (none : B) (one : A → B → B) where
  commas_moving : (k k' : ℕ) → k ≤ k' → Moving D (commas item none one k) (commas item' none one k')
  unfolding commas
  commas_moving zero k' h = spent_moving (commas item' none one k')
  commas_moving (suc k) zero h = absurd (omega (arith, h))
  commas_moving (suc k) (suc k') h =
      on_moving sign.Comma (bind skip_moving (λ t. bind item_moving (λ x. bind (commas_moving k k' (omega (arith, h))) (λ xs. pure_moving (one x xs))))) (pure_moving none)

  pub comma_list_moving : Moving D (comma_list n item none one) (comma_list n' item' none one)
  comma_list_moving = on_moving sign.Close (pure_moving none) (bind item_moving (λ x. bind (commas_moving n n' fewer) (λ xs. pure_moving (one x xs))))

gap_moving : {D : TokenKind → Type 0} (k k' : ℕ) → k ≤ k' → Moving D (gap k) (gap k')
unfolding gap
gap_moving zero k' h = spent_moving (gap k')
gap_moving (suc k) zero h = absurd (omega (arith, h))
gap_moving (suc k) (suc k') h = test_moving is_separator (then_moving skip_moving (then_moving (gap_moving k k' (omega (arith, h))) (pure_moving true))) (pure_moving false)

module _ {A B : Type 0} {D : TokenKind → Type 0} (n n' : ℕ) (fewer : n ≤ n') {item item' : Parser A} (item_moving : Moving D item item') (none : B) (one : A → B → B) where
  list_moving : (k k' : ℕ) → k ≤ k' → Moving D (list_of n item none one k) (list_of n' item' none one k')
  unfolding list_of
  list_moving zero k' h = spent_moving (list_of n' item' none one k')
  list_moving (suc k) zero h = absurd (omega (arith, h))
  list_moving (suc k) (suc k') h =
      test_moving ends (pure_moving none)
      (bind item_moving (λ x. bind (gap_moving n n' fewer) (λ apart. choice_moving apart (bind (list_moving k k' (omega (arith, h))) (λ xs. pure_moving (one x xs))) (pure_moving (one x none)))))

  pub body_moving : Moving D (body_of n item none one) (body_of n' item' none one)
  body_moving = then_moving (gap_moving n n' fewer) (list_moving n n' fewer)

  pub tail_moving : Moving D (tail_of n item none one) (tail_of n' item' none one)
  tail_moving = bind (gap_moving n n' fewer) (λ apart. choice_moving apart (list_moving n n' fewer) (pure_moving none))
