-- Rules as parts one behind the other: what each part tells is enough for the whole, and the parts that are left complete it.
use Rattle.std.proofs.Common.{◌≡◌, ℕ, zero, suc, ◌≤◌, Bool, true, false, true≢false, List, [], ◌∷◌, ◌++◌, length, Ok, Err, refl, sym, ap, subst, ◌∙◌, append-nil, cond, arith}
use Rattle.std.proofs.lemmas.Slice.Eq.{bytes_eq-Decides}
use Rattle.std.specs.Str.{bytes_eq}
use Rattle.jt_syntax.specs.declared.token.Sign.{Sign}
use Rattle.jt_syntax.specs.declared.token.Sign.TheVariants as sign
use Rattle.jt_syntax.specs.declared.token.Token.{Token}
use Rattle.jt_syntax.specs.declared.token.TokenKind.{TokenKind}
use Rattle.jt_syntax.specs.declared.token.TokenKind.TheVariants as kind
use Rattle.jt_grammar.specs.Grammar.{Rule, token, IsStop, Word, Letters, Quoted, Truth}
use Rattle.jt_grammar.specs.Joined.{is_newline, is_opener, is_last_opener}
use Rattle.jt_grammar.specs.Nesting.{Opened, Opens}
use Rattle.jt_grammar.specs.Reader.{unexpected, deep, spent, Parser, Outcome, ◌>>=◌, pure, refuse, kind_of, is, skip, expect, enter, ◌>>◌, opening, on, by_kind, word_by, word, letters_by, letters, quoted_by, quoted, truth}
use Rattle.jt_grammar.proofs.Signs.{is-true}
use Rattle.jt_grammar.proofs.Steps.{NoNewline, no_newline-append, Begins, Always, Nesting, Both, FitsBy, fits_whole, fits-after, Tells, Shows, Anyhow, tells_after, tells_more, After, after, Finishes, finish_any, finish_more, finish_fit, seq_by, seq}

-- tokens that the rule has, without newlines, and within each nesting for which the condition holds
abbrev pub Sample : {A : Type 0} → (Bool → Type 0) → (A → Rule) → Nesting A → Type 0
Sample C G K = (w : List Token) × (a : _) × G a w × ((b : Bool) → C b → K b a) × NoNewline w

-- the condition holds for both nestings
abbrev pub Given : (Bool → Type 0) → Type 0
Given C = (b : Bool) → C b

-- and one thing more
abbrev pub And : {A : Type 0} → (Bool → Type 0) → Nesting A → A → Bool → Type 0
And C K a b = C b × K b a

-- Where the condition holds, what the reader gives is explained; and there is something that it could read, with which a rule before it is completed.
pub record Reads {A : Type 0} (C : Bool → Type 0) (G : A → Rule) (K : Nesting A) (n : ℕ) (p : Parser A) : Type 0 where
  pub explains : Given C → (ts : List Token) → Shows G K n ts (p ts)
  pub sample : Sample C G K

pub given : {A : Type 0} {B C : Bool → Type 0} {G : A → Rule} {K : Nesting A} {n : ℕ} {p : Parser A} → ((b : Bool) → B b → C b) → Reads C G K n p → Reads B G K n p
given h r = record { explains = λ c. r.explains (λ b. h b (c b)); sample = let s = r.sample in (s.0, s.1, s.2, (λ b c. s.3 b (h b c)), s.4) }

pub begins_sample : {A : Type 0} {C : Bool → Type 0} {G : A → Rule} {K : Nesting A} → Sample C G K → Given C → Begins G (Both K) []
begins_sample s c = (s.0, s.1, s.2, (λ b. s.3 b (c b)), s.4)

-- the parts that are left complete what was read
pub completes : {A B : Type 0} {C : Bool → Type 0} {P : A → Rule} {K : Nesting A} (H : B → Rule) (L : Nesting B) → ((a : A) (w : List Token) → P a w → Sample (And C K a) (After w H) L) → Given C → Finishes P K H L
completes H L s c a w g = let x = s a w g in (x.0, x.1, x.2, (λ b k. x.3 b (c b, k)), x.4)

-- a part and what is behind it
pub part : {A B : Type 0} {C : Bool → Type 0} {P : A → Rule} {K : Nesting A} {H : B → Rule} {L : Nesting B} {n : ℕ} {p : Parser A} {f : A → Parser B}
    → Reads C P K n p
    → ((a : A) (w : List Token) → P a w → Reads (And C K a) (After w H) L n (f a))
    → Reads C H L n (p >>= f)
part {A} {B} {C} {P} {K} {H} {L} {n} {p} {f} r next = record {
  explains = λ c ts. seq P K H L n ts (p ts) f (r.explains c ts) (λ a w rest e g k. (next a w g).explains (λ b. (c b, k b)) rest) (completes H L (λ a w g. (next a w g).sample) c);
  sample =
      let s = r.sample in
      let x = (next s.1 s.0 s.2).sample in
      (s.0 ++ x.0, x.1, x.2, (λ b c. x.3 b (c, s.3 b c)), no_newline-append s.0 x.0 s.4 x.4);
}

-- the end of a rule
pub done : {A : Type 0} {C : Bool → Type 0} {G : A → Rule} {K : Nesting A} {n : ℕ} {a : A} → G a [] → ((b : Bool) → C b → K b a) → Reads C G K n (pure a)
done {A} {C} {G} {K} {n} {a} g k = record { explains = λ c ts. ([], refl, g, (λ b. k b (c b))); sample = ([], a, g, k, tt) }

-- how many openers may be open: as many as are allowed, or one more
abbrev pub deeper : ℕ → Bool → ℕ
deeper d false = d
deeper d true = suc d

-- an opener more may be open
abbrev pub Room : ℕ → Bool → Type 0
Room d b = Opens (deeper d b)

pub room : (k : ℕ) (b : Bool) → Room (suc k) b
room k false = tt
room k true = tt

-- where one may be open, there is a level below
pub room_is : (j : ℕ) → Opens j → (k : ℕ) × (j ≡ suc k)
room_is (suc k) r = (k, refl)
room_is zero r = absurd r

-- a part that needs an opener more: where no more may be open, it is refused at its first token
abbrev pub Bound : {A : Type 0} → (A → Rule) → Nesting A → ℕ → List Token → Type 0
Bound G K zero w = w ≡ []
Bound G K (suc d) w = FitsBy G K w

pub record Enters {A : Type 0} (G : A → Rule) (K : Nesting A) (d n : ℕ) (p : Parser A) : Type 0 where
  pub explains : (ts : List Token) → Tells G (Both K) (Bound G K d) n ts (p ts)
  pub sample : Sample (Room d) G K

bound_here : {A B : Type 0} (P : A → Rule) (K : Nesting A) (H : B → Rule) (L : Nesting B) (d : ℕ) → Begins H (Both L) [] → Finishes P K H L → (w : List Token) → Bound P K d w → FitsBy H L w
bound_here P K H L zero b fin w e = subst (FitsBy H L) (sym e) (fits_whole H L [] b)
bound_here P K H L (suc d) b fin w x = finish_fit P K H L fin w x

-- a rule that begins with an opener
pub opened : {A B : Type 0} {C : Bool → Type 0} {P : A → Rule} {K : Nesting A} {H : B → Rule} {L : Nesting B} {d n : ℕ} {p : Parser A} {f : A → Parser B}
    → Enters P K d n p
    → Sample C H L
    → ((a : A) (w : List Token) → P a w → Reads (And C K a) (After w H) L n (f a))
    → Reads C H L n (p >>= f)
opened {A} {B} {C} {P} {K} {H} {L} {d} {n} {p} {f} enters some next = record {
  explains = λ c ts.
      let fin : Finishes P K H L = completes H L (λ a w g. (next a w g).sample) c in
      seq_by P (Both K) (Bound P K d) H (Both L) (FitsBy H L) n ts (p ts) f (enters.explains ts)
      (λ a w rest e g k. (n, omega arith, tells_more (After w H) (Both L) (FitsBy (After w H) L) (λ v. FitsBy H L (w ++ v)) n n rest (f a rest) (omega arith) (fits-after H L w) ((next a w g).explains (λ b. (c b, k b)) rest)))
      (bound_here P K H L d (begins_sample some c) fin)
      (finish_any P K H L fin);
  sample = some;
}

-- a rule that begins with a word behind which an opener must come
pub demanded : {A B : Type 0} {C : Bool → Type 0} {P : A → Rule} {K : Nesting A} {H : B → Rule} {L : Nesting B} {d n : ℕ} {p : Parser A} {f : A → Parser B} (t : Token)
    → is_last_opener t.kind ≡ false
    → Enters P K d n p
    → Sample C H L
    → ((a : A) (w : List Token) → P a w → Reads (And C K a) (After w (After (t ∷ []) H)) L n (f a))
    → Given C → (ts : List Token) → Shows H L n (t ∷ ts) ((p >>= f) ts)
demanded {A} {B} {C} {P} {K} {H} {L} {d} {n} {p} {f} t quiet enters some next c ts =
    tells_after H (Both L) (FitsBy H L) n n (t ∷ ts) (t ∷ []) ts ((p >>= f) ts) (omega arith) refl
    (seq_by P (Both K) (Bound P K d) (After (t ∷ []) H) (Both L) (λ v. FitsBy H L (t ∷ v)) n ts (p ts) f (enters.explains ts)
    (λ a w rest e g k. (n, omega arith, tells_more (After w (After (t ∷ []) H)) (Both L) (FitsBy (After w (After (t ∷ []) H)) L) (λ v. FitsBy H L (t ∷ (w ++ v))) n n rest (f a rest) (omega arith) (λ v x. fits-after H L (t ∷ []) (w ++ v) (fits-after (After (t ∷ []) H) L w v x)) ((next a w g).explains (λ b. (c b, k b)) rest)))
    (fit d enters.sample)
    any)
  where
    fin : Finishes P K (After (t ∷ []) H) L
    fin = completes (After (t ∷ []) H) L (λ a w g. (next a w g).sample) c

    any : (w : List Token) → Begins P Always w → Begins (After (t ∷ []) H) Always w
    any = finish_any P K (After (t ∷ []) H) L fin

    fit : (j : ℕ) → Sample (Room j) P K → (w : List Token) → Bound P K j w → FitsBy H L (t ∷ w)
    fit zero s w e = subst (λ z. FitsBy H L (t ∷ z)) (sym e) ([], t ∷ [], refl, (some.0, some.1, some.2, some.3 false (c false), some.4), (quiet, tt), finish_more P K (After (t ∷ []) H) L fin [] (s.0, s.1, s.2, s.3 true tt, s.4))
    fit (suc j) s w x = fits-after H L (t ∷ []) w (finish_fit P K (After (t ∷ []) H) L fin w x)

-- the last part of a rule
pub last : {A B : Type 0} {C : Bool → Type 0} {P : A → Rule} {K : Nesting A} {H : B → Rule} {L : Nesting B} {n : ℕ} {p : Parser A} (f : A → B)
    → Reads C P K n p
    → ((a : A) (w : List Token) → P a w → H (f a) w)
    → ((a : A) (b : Bool) → C b → K b a → L b (f a))
    → Reads C H L n (p >>= λ a. pure (f a))
last {A} {B} {C} {P} {K} {H} {L} {n} {p} f r g k = part r (λ a w x. done (subst (H (f a)) (sym (append-nil w)) (g a w x)) (λ b c. k a b c.0 c.1))

-- ---- tokens

-- the token is this sign
abbrev pub Sits : Sign → Token → Rule
Sits s t w = w ≡ token (kind.Sign s) t.at ∷ []

-- the token is the sign that it is known to be
pub sits : {s : Sign} {t : Token} → t.kind ≡ kind.Sign s → Sits s t (t ∷ [])
sits {s} {t} e = ap (λ x. token x t.at ∷ []) e

pub expected : {C : Bool → Type 0} {n : ℕ} (s : Sign) → is_newline (kind.Sign s) ≡ false → Reads C (Sits s) Anyhow n (expect s)
expected {C} {n} s no_line = record {
  explains = λ c ts. at ts (is s (kind_of ts)) refl;
  sample = (token (kind.Sign s) 0 ∷ [], token (kind.Sign s) 0, refl, (λ b c. tt), (no_line, tt));
}
  where
    begins : FitsBy (Sits s) Anyhow []
    begins = fits_whole (Sits s) Anyhow [] (token (kind.Sign s) 0 ∷ [], token (kind.Sign s) 0, refl, (λ b. tt), (no_line, tt))

    at : (ts : List Token) (b : Bool) → is s (kind_of ts) ≡ b → Shows (Sits s) Anyhow n ts (cond b (skip ts) (Err (unexpected (length ts))))
    at [] true e = ([], [], refl, refl, begins)
    at (t ∷ ts) true e = (t ∷ [], refl, sits (is-true s t.kind e), (λ b. tt))
    at ts false e = ([], ts, refl, refl, begins)

-- an opener is refused at its first token only
pub opening_tells : (d n : ℕ) (s : Sign) → is_newline (kind.Sign s) ≡ false → is_opener (kind.Sign s) ≡ true → (ts : List Token) → Tells (Sits s) (Both (λ b t. Room d b)) (λ w. w ≡ []) n ts (opening d s ts)
opening_tells d n s no_line is_open ts = at d ts (is s (kind_of ts)) refl
  where
    at : (j : ℕ) (ts : List Token) (b : Bool) → is s (kind_of ts) ≡ b → Tells (Sits s) (Both (λ b t. Room j b)) (λ w. w ≡ []) n ts (cond b ((enter j >> skip) ts) (Err (unexpected (length ts))))
    at zero [] true e = absurd (true≢false (sym (subst (λ x. is_opener x ≡ true) (sym (is-true s (kind_of []) e)) is_open)))
    at zero (t ∷ ts) true e = ([], ts, t, refl, refl, refl, subst (λ x. is_opener x ≡ true) (sym (is-true s t.kind e)) is_open, ([], t, sits (is-true s t.kind e), tt, tt))
    at (suc k) [] true e = ([], [], refl, refl, refl)
    at (suc k) (t ∷ ts) true e = (t ∷ [], refl, sits (is-true s t.kind e), room k)
    at j ts false e = ([], ts, refl, refl, refl)

-- an opener
pub opens_with : {d n : ℕ} (s : Sign) → is_newline (kind.Sign s) ≡ false → is_opener (kind.Sign s) ≡ true → Enters (Sits s) (λ b t. Room d b) d n (opening d s)
opens_with {d} {n} s no_line is_open = record {
  explains = λ ts. tells_more (Sits s) (Both (λ b t. Room d b)) (λ w. w ≡ []) (Bound (Sits s) (λ b t. Room d b) d) n n ts (opening d s ts) (omega arith) (bound d) (opening_tells d n s no_line is_open ts);
  sample = (token (kind.Sign s) 0 ∷ [], token (kind.Sign s) 0, refl, (λ b c. c), (no_line, tt));
}
  where
    bound : (j : ℕ) (w : List Token) → w ≡ [] → Bound (Sits s) (λ b t. Room j b) j w
    bound zero w e = e
    bound (suc k) w e = subst (FitsBy (Sits s) (λ b t. Room (suc k) b)) (sym e) (fits_whole (Sits s) (λ b t. Room (suc k) b) [] (token (kind.Sign s) 0 ∷ [], token (kind.Sign s) 0, refl, room k, (no_line, tt)))

-- ---- changes of a reader's rule, turns and kind

-- with fewer turns
pub fewer : {A : Type 0} {C : Bool → Type 0} {G : A → Rule} {K : Nesting A} {m n : ℕ} {p : Parser A} → m ≤ n → Reads C G K n p → Reads C G K m p
fewer {A} {C} {G} {K} {m} {n} {p} h r = record { explains = λ c ts. tells_more G (Both K) (FitsBy G K) (FitsBy G K) m n ts (p ts) h (λ w x. x) (r.explains c ts); sample = r.sample }

begins_relaxed : {A : Type 0} (G H : A → Rule) (K L : A → Type 0) (w : List Token) → ((a : A) (w : List Token) → G a w → H a w) → ((a : A) → K a → L a) → Begins G K w → Begins H L w
begins_relaxed G H K L w g k b = (b.0, b.1, g b.1 (w ++ b.0) b.2, k b.1 b.3, b.4)

pub fits_relaxed : {A : Type 0} (G H : A → Rule) (K L : Nesting A) (w : List Token) → ((a : A) (w : List Token) → G a w → H a w) → ((a : A) (b : Bool) → K b a → L b a) → FitsBy G K w → FitsBy H L w
fits_relaxed G H K L w g k x = (x.0, x.1, x.2, begins_relaxed G H (K false) (L false) x.0 g (λ a. k a false) x.3, x.4, begins_relaxed G H (K true) (L true) w g (λ a. k a true) x.5)

pub tells_relaxed : {A : Type 0} (G H : A → Rule) (K L : Nesting A) (E F : List Token → Type 0) (n : ℕ) (ts : List Token) (o : Outcome A)
    → ((a : A) (w : List Token) → G a w → H a w) → ((a : A) (b : Bool) → K b a → L b a) → ((w : List Token) → E w → F w) → Tells G (Both K) E n ts o → Tells H (Both L) F n ts o
tells_relaxed G H K L E F n ts (Ok p) g k f x = (x.0, x.1, g p.0 x.0 x.2, (λ b. k p.0 b (x.3 b)))
tells_relaxed G H K L E F n ts (Err (unexpected at)) g k f x = (x.0, x.1, x.2, x.3, f x.0 x.4)
tells_relaxed G H K L E F n ts (Err (deep at)) g k f x = (x.0, x.1, x.2, x.3, x.4, f x.0 x.5, x.6, begins_relaxed G H Always Always (x.0 ++ x.2 ∷ []) g (λ a h. h) x.7)
tells_relaxed G H K L E F n ts (Err spent) g k f x = x

-- of a wider rule, and a wider nesting
pub relaxed : {A : Type 0} {C : Bool → Type 0} {G H : A → Rule} {K L : Nesting A} {n : ℕ} {p : Parser A} → ((a : A) (w : List Token) → G a w → H a w) → ((a : A) (b : Bool) → C b → K b a → L b a) → Reads C G K n p → Reads C H L n p
relaxed {A} {C} {G} {H} {K} {L} {n} {p} g k r = record {
  explains = λ c ts. tells_relaxed G H K L (FitsBy G K) (FitsBy H L) n ts (p ts) g (λ a b. k a b (c b)) (λ w x. fits_relaxed G H K L w g (λ a b. k a b (c b)) x) (r.explains c ts);
  sample = let s = r.sample in (s.0, s.1, g s.1 s.0 s.2, (λ b c. k s.1 b c (s.3 b c)), s.4);
}

-- ---- by the next token

-- a token that is known to come
pub skipped : {A : Type 0} {C : Bool → Type 0} {n : ℕ} (H : A → Rule) (L : Nesting A) (f : Token → Parser A) (t : Token) → Reads C (After (t ∷ []) H) L n (f t) → Given C → (ts : List Token) → Shows H L n (t ∷ ts) ((skip >>= f) (t ∷ ts))
skipped {A} {C} {n} H L f t r c ts = after H L n (t ∷ ts) (t ∷ []) ts (f t ts) refl (r.explains c ts)

-- what reads from a sign on
abbrev pub From : {A : Type 0} → Sign → (Bool → Type 0) → (A → Rule) → Nesting A → ℕ → Parser A → Type 0
From s C G K n p = Given C → (t : Token) (ts : List Token) → t.kind ≡ kind.Sign s → Shows G K n (t ∷ ts) (p (t ∷ ts))

not_stop : (s : Sign) → (IsStop (kind.Sign s) → ⊥) → is s (kind_of []) ≡ true → ⊥
not_stop s no_end e = no_end (subst IsStop (is-true s (kind_of []) e) tt)

-- one thing from a sign on, or else another
pub either : {A : Type 0} {C : Bool → Type 0} {G : A → Rule} {K : Nesting A} {n : ℕ} (s : Sign) (p q : Parser A) → (IsStop (kind.Sign s) → ⊥) → From s C G K n p → Reads C G K n q → Reads C G K n (on s p q)
either {A} {C} {G} {K} {n} s p q no_end first other = record { explains = λ c ts. at c ts (is s (kind_of ts)) refl; sample = other.sample }
  where
    at : Given C → (ts : List Token) (b : Bool) → is s (kind_of ts) ≡ b → Shows G K n ts (cond b (p ts) (q ts))
    at c [] true e = absurd (not_stop s no_end e)
    at c (t ∷ ts) true e = first c t ts (is-true s t.kind e)
    at c ts false e = other.explains c ts

-- a rule that is refused at once
pub refuses : {A : Type 0} {C : Bool → Type 0} {G : A → Rule} {K : Nesting A} {n : ℕ} → Sample C G K → Reads C G K n refuse
refuses {A} {C} {G} {K} {n} s = record { explains = λ c ts. ([], ts, refl, refl, fits_whole G K [] (begins_sample s c)); sample = s }

-- by the kind of the next token; where no token is left, as before the end token
pub kinds : {A : Type 0} {C : Bool → Type 0} {G : A → Rule} {K : Nesting A} {n : ℕ} (f : TokenKind → Parser A)
    → Sample C G K
    → (Given C → (t : Token) (ts : List Token) (k : TokenKind) → t.kind ≡ k → Shows G K n (t ∷ ts) (f k (t ∷ ts)))
    → (Given C → Shows G K n [] (f (kind.Sign sign.Stop) []))
    → Reads C G K n (by_kind f)
kinds {A} {C} {G} {K} {n} f s first none = record { explains = λ c ts. at c ts; sample = s }
  where
    at : Given C → (ts : List Token) → Shows G K n ts (by_kind f ts)
    at c [] = none c
    at c (t ∷ ts) = first c t ts t.kind refl

-- ---- names, letters, strings and truth values

some_word : {C : Bool → Type 0} → Sample C Word Anyhow
some_word = (token (kind.Name []) 0 ∷ [], record { name = []; at = 0 }, refl, (λ b c. tt), (refl, tt))

-- a name is refused at its first token only
pub word_tells : (n : ℕ) (ts : List Token) → Tells Word (Both Anyhow) (λ w. w ≡ []) n ts (word ts)
unfolding word
word_tells n ts = at ts
  where
    by : (t : Token) (ts : List Token) (k : TokenKind) → t.kind ≡ k → Tells Word (Both Anyhow) (λ w. w ≡ []) n (t ∷ ts) (word_by k (t ∷ ts))
    by t ts (kind.Name m) e = (t ∷ [], refl, ap (λ x. token x t.at ∷ []) e, (λ b. tt))
    by t ts (kind.Sign s) e = ([], t ∷ ts, refl, refl, refl)
    by t ts (kind.Number m) e = ([], t ∷ ts, refl, refl, refl)
    by t ts (kind.Text m) e = ([], t ∷ ts, refl, refl, refl)

    at : (ts : List Token) → Tells Word (Both Anyhow) (λ w. w ≡ []) n ts (by_kind word_by ts)
    at [] = ([], [], refl, refl, refl)
    at (t ∷ ts) = by t ts t.kind refl

pub word_reads : {C : Bool → Type 0} {n : ℕ} → Reads C Word Anyhow n word
word_reads {C} {n} = record {
  explains = λ c ts. tells_more Word (Both Anyhow) (λ w. w ≡ []) (FitsBy Word Anyhow) n n ts (word ts) (omega arith) (λ w e. subst (FitsBy Word Anyhow) (sym e) (fits_whole Word Anyhow [] (begins_sample (some_word {C = C}) c))) (word_tells n ts);
  sample = some_word;
}

pub letters_read : {C : Bool → Type 0} {n : ℕ} (w : List ℕ) → Reads C (λ t. Letters w) Anyhow n (letters w)
unfolding letters
letters_read {C} {n} w = kinds (letters_by w) some at none
  where
    some : Sample C (λ (t : Token). Letters w) Anyhow
    some = (token (kind.Name w) 0 ∷ [], token (kind.Name w) 0, (0, refl), (λ b c. tt), (refl, tt))

    no_word : Reads C (λ (t : Token). Letters w) Anyhow n refuse
    no_word = refuses some

    none : Given C → Shows (λ (t : Token). Letters w) Anyhow n [] (letters_by w (kind.Sign sign.Stop) [])
    none c = no_word.explains c []

    named : Given C → (t : Token) (ts : List Token) (m : List ℕ) → t.kind ≡ kind.Name m → (b : Bool) → bytes_eq m w ≡ b → Shows (λ (t : Token). Letters w) Anyhow n (t ∷ ts) (cond b (skip (t ∷ ts)) (refuse (t ∷ ts)))
    named c t ts m e true h = (t ∷ [], refl, (t.at, ap (λ x. token x t.at ∷ []) (e ∙ ap kind.Name ((bytes_eq-Decides m w).0 h))), (λ b. tt))
    named c t ts m e false h = no_word.explains c (t ∷ ts)

    at : Given C → (t : Token) (ts : List Token) (k : TokenKind) → t.kind ≡ k → Shows (λ (t : Token). Letters w) Anyhow n (t ∷ ts) (letters_by w k (t ∷ ts))
    at c t ts (kind.Name m) e = named c t ts m e (bytes_eq m w) refl
    at c t ts (kind.Sign s) e = no_word.explains c (t ∷ ts)
    at c t ts (kind.Number m) e = no_word.explains c (t ∷ ts)
    at c t ts (kind.Text m) e = no_word.explains c (t ∷ ts)

pub quoted_reads : {C : Bool → Type 0} {n : ℕ} → Reads C Quoted Anyhow n quoted
unfolding quoted
quoted_reads {C} {n} = kinds quoted_by some at none
  where
    some : Sample C Quoted Anyhow
    some = (token (kind.Text []) 0 ∷ [], [], (0, refl), (λ b c. tt), (refl, tt))

    no_text : Reads C Quoted Anyhow n refuse
    no_text = refuses some

    none : Given C → Shows Quoted Anyhow n [] (quoted_by (kind.Sign sign.Stop) [])
    none c = no_text.explains c []

    at : Given C → (t : Token) (ts : List Token) (k : TokenKind) → t.kind ≡ k → Shows Quoted Anyhow n (t ∷ ts) (quoted_by k (t ∷ ts))
    at c t ts (kind.Text m) e = (t ∷ [], refl, (t.at, ap (λ x. token x t.at ∷ []) e), (λ b. tt))
    at c t ts (kind.Sign s) e = no_text.explains c (t ∷ ts)
    at c t ts (kind.Number m) e = no_text.explains c (t ∷ ts)
    at c t ts (kind.Name m) e = no_text.explains c (t ∷ ts)

pub truth_reads : {C : Bool → Type 0} {n : ℕ} → Reads C Truth Anyhow n truth
unfolding truth
truth_reads {C} {n} = either sign.True (skip >> pure true) (expect sign.False >> pure false) (λ h. h)
    (λ c t ts e. (t ∷ [], refl, (t.at, sits e), (λ b. tt)))
    (last (λ t. false) (expected sign.False refl) (λ t w m. (t.at, m)) (λ _ _ _ _. tt))

pub from : {A : Type 0} {s : Sign} {C : Bool → Type 0} {G : A → Rule} {K : Nesting A} {n : ℕ} {p : Parser A} → Reads C G K n p → From s C G K n p
from r c t ts e = r.explains c (t ∷ ts)

-- an opener and what is behind it
pub enters_then : {A B : Type 0} {P : A → Rule} {H : B → Rule} {L : Nesting B} {d n : ℕ} {p : Parser A} {f : A → Parser B}
    → Enters P (λ b a. Room d b) d n p
    → ((a : A) (w : List Token) → P a w → Reads (Room d) (After w H) L n (f a))
    → Enters H L d n (p >>= f)
enters_then {A} {B} {P} {H} {L} {d} {n} {p} {f} r next = record { explains = λ ts. at d fin (λ a w g c rest. (next a w g).explains c rest) ts (r.explains ts); sample = some }
  where
    fin : Finishes P (λ b a. Room d b) H L
    fin a w g = let s = (next a w g).sample in (s.0, s.1, s.2, s.3, s.4)

    some : Sample (Room d) H L
    some =
        let s = r.sample in
        let x = fin s.1 s.0 s.2 in
        (s.0 ++ x.0, x.1, x.2, (λ b c. x.3 b c), no_newline-append s.0 x.0 s.4 x.4)

    at : (j : ℕ) → Finishes P (λ b a. Room j b) H L → ((a : A) (w : List Token) → P a w → Given (Room j) → (rest : List Token) → Shows (After w H) L n rest (f a rest))
        → (ts : List Token) → Tells P (Both (λ b a. Room j b)) (Bound P (λ b a. Room j b) j) n ts (p ts) → Tells H (Both L) (Bound H L j) n ts ((p >>= f) ts)
    at zero fin next ts x = seq_by P (Both (λ b a. Room 0 b)) (λ w. w ≡ []) H (Both L) (λ w. w ≡ []) n ts (p ts) f x (λ a w rest e g k. absurd (k false)) (λ w e. e) (finish_any P (λ b a. Room 0 b) H L fin)
    at (suc k) fin next ts x = seq P (λ b a. Room (suc k) b) H L n ts (p ts) f x (λ a w rest e g h. next a w g h rest) fin

-- the condition of a rule as it stands
abbrev pub Free : Bool → Type 0
Free b = Unit {0}

-- an opener that is known to come
pub entered : {A : Type 0} {C : Bool → Type 0} {n : ℕ} (s : Sign) (d : ℕ) (H : A → Rule) (L : Nesting A) (f : Token → Parser A) → is_opener (kind.Sign s) ≡ true → Sample C H L
    → ((t : Token) → t.kind ≡ kind.Sign s → Reads (λ b. C b × Room d b) (After (t ∷ []) H) L n (f t)) → From s C H L n (enter d >> (skip >>= f))
entered {A} {C} {n} s d H L f is_open some next c t ts e = at d (next t e)
  where
    at : (j : ℕ) → Reads (λ b. C b × Room j b) (After (t ∷ []) H) L n (f t) → Shows H L n (t ∷ ts) ((enter j >> (skip >>= f)) (t ∷ ts))
    at zero r = let x = r.sample in ([], ts, t, refl, refl, fits_whole H L [] (begins_sample some c), subst (λ x. is_opener x ≡ true) (sym e) is_open, (x.0, x.1, x.2, tt, x.4))
    at (suc k) r = after H L n (t ∷ ts) (t ∷ []) ts (f t ts) refl (r.explains (λ b. (c b, room k b)) ts)

-- ---- nesting

pub opened_map : (d : ℕ) (P Q : ℕ → Type 0) → ((k : ℕ) → P k → Q k) → Opened d P → Opened d Q
opened_map zero P Q f h = h
opened_map (suc d) P Q f h = f d h

pub opened_pair : (d : ℕ) (P Q : ℕ → Type 0) → Opened d P → Opened d Q → Opened d (λ k. P k × Q k)
opened_pair zero P Q h j = h
opened_pair (suc d) P Q h j = (h, j)

pub opened_triple : (d : ℕ) (P Q R : ℕ → Type 0) → Opened d P → Opened d Q → Opened d R → Opened d (λ k. P k × Q k × R k)
opened_triple zero P Q R h j l = h
opened_triple (suc d) P Q R h j l = (h, j, l)
