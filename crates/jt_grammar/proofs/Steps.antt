-- What a rule that was read tells, step by step.
use Rattle.std.proofs.Common.{◌≡◌, Bool, false, true, ℕ, suc, ◌+◌, ◌≤◌, List, [], ◌∷◌, ◌++◌, length, Ok, Err, sym, ap, subst, ◌∙◌, append_assoc, append-nil, length-append, arith}
use Rattle.jt_syntax.specs.declared.token.Token.{Token}
use Rattle.jt_grammar.specs.Joined.{is_newline, is_opener, Unopened}
use Rattle.jt_grammar.specs.Reader.{unexpected, deep, spent, Outcome, Parser, and_then}

-- no newline is among the tokens
abbrev pub NoNewline : List Token → Type 0
NoNewline [] = Unit {0}
NoNewline (t ∷ ts) = (is_newline t.kind ≡ false) × NoNewline ts

pub no_newline-append : (u v : List Token) → NoNewline u → NoNewline v → NoNewline (u ++ v)
no_newline-append [] v a b = b
no_newline-append (t ∷ u) v a b = (a.0, no_newline-append u v a.1 b)

-- some continuation without newlines is in the language
abbrev pub Begins : {A : Type 0} → (A → List Token → Type 0) → (A → Type 0) → List Token → Type 0
Begins G K w = (more : List Token) × (a : _) × G a (w ++ more) × K a × NoNewline more

abbrev pub Always : {A : Type 0} → A → Type 0
Always a = Unit {0}

-- some continuation is in the language with the second nesting, and up to the last opener one with the first
abbrev pub Fits : {A : Type 0} → (A → List Token → Type 0) → (A → Type 0) → (A → Type 0) → List Token → Type 0
Fits G K K1 w = (p q : List Token) × (w ≡ p ++ q) × Begins G K p × Unopened q × Begins G K1 w

-- What an outcome says of the tokens that were taken: they spell what was read; or, before a token that is refused, they are a front of this kind.
abbrev pub Tells : {A : Type 0} → (A → List Token → Type 0) → (A → Type 0) → (List Token → Type 0) → ℕ → List Token → Outcome A → Type 0
Tells G K F n ts (Ok p) = (w : List Token) × (ts ≡ w ++ p.1) × G p.0 w × K p.0
Tells G K F n ts (Err (unexpected at)) = (w rest : List Token) × (ts ≡ w ++ rest) × (at ≡ length rest) × F w
Tells G K F n ts (Err (deep at)) = (w rest : List Token) × (o : Token) × (ts ≡ w ++ o ∷ rest) × (at ≡ suc (length rest)) × F w × (is_opener o.kind ≡ true) × Begins G Always (w ++ o ∷ [])
Tells G K F n ts (Err spent) = (w rest : List Token) × (ts ≡ w ++ rest) × (n ≤ length w)

-- they spell what was read, within the first nesting, or they begin something that can be read
abbrev pub Explains : {A : Type 0} → (A → List Token → Type 0) → (A → Type 0) → (A → Type 0) → ℕ → List Token → Outcome A → Type 0
Explains G K K1 n ts o = Tells G K (Fits G K K1) n ts o

-- two nestings: the one that is allowed, and for `true` one with an opener more
abbrev pub Nesting : Type 0 → Type 1
Nesting A = Bool → A → Type 0

abbrev pub Both : {A : Type 0} → Nesting A → A → Type 0
Both K a = (b : Bool) → K b a

abbrev pub FitsBy : {A : Type 0} → (A → List Token → Type 0) → Nesting A → List Token → Type 0
FitsBy G K w = Fits G (K false) (K true) w

-- the same of what is read within both nestings
abbrev pub Shows : {A : Type 0} → (A → List Token → Type 0) → Nesting A → ℕ → List Token → Outcome A → Type 0
Shows G K n ts o = Tells G (Both K) (FitsBy G K) n ts o

abbrev pub Anyhow : {A : Type 0} → Nesting A
Anyhow b a = Unit {0}

abbrev pub After : {A : Type 0} → List Token → (A → List Token → Type 0) → A → List Token → Type 0
After w G a v = G a (w ++ v)

pub begins-after : {A : Type 0} (G : A → List Token → Type 0) (K : A → Type 0) (w v : List Token) → Begins (After w G) K v → Begins G K (w ++ v)
begins-after G K w v b = (b.0, b.1, subst (G b.1) (sym (append_assoc w v b.0)) b.2, b.3, b.4)

pub fits-after : {A : Type 0} (G : A → List Token → Type 0) (K : Nesting A) (w v : List Token) → FitsBy (After w G) K v → FitsBy G K (w ++ v)
fits-after G K w v f = (w ++ f.0, f.1, ap (λ z. w ++ z) f.2 ∙ sym (append_assoc w f.0 f.1), begins-after G (K false) w f.0 f.3, f.4, begins-after G (K true) w v f.5)

-- what begins within both nestings fits
pub fits_whole : {A : Type 0} (G : A → List Token → Type 0) (K : Nesting A) (w : List Token) → Begins G (Both K) w → FitsBy G K w
fits_whole G K w b = (w, [], sym (append-nil w), (b.0, b.1, b.2, b.3 false, b.4), tt, (b.0, b.1, b.2, b.3 true, b.4))

-- what was taken before may be put in front, and then fewer turns are needed
pub tells_after : {A : Type 0} (G : A → List Token → Type 0) (K : A → Type 0) (F : List Token → Type 0) (m n : ℕ) (ts w rest : List Token) (o : Outcome A)
    → n ≤ m + length w → ts ≡ w ++ rest → Tells (After w G) K (λ v. F (w ++ v)) m rest o → Tells G K F n ts o
tells_after G K F m n ts w rest (Ok p) h e x = (w ++ x.0, e ∙ ap (λ z. w ++ z) x.1 ∙ sym (append_assoc w x.0 p.1), x.2, x.3)
tells_after G K F m n ts w rest (Err (unexpected at)) h e x = (w ++ x.0, x.1, e ∙ ap (λ z. w ++ z) x.2 ∙ sym (append_assoc w x.0 x.1), x.3, x.4)
tells_after G K F m n ts w rest (Err (deep at)) h e x = (
  w ++ x.0,
  x.1,
  x.2,
  e ∙ ap (λ z. w ++ z) x.3 ∙ sym (append_assoc w x.0 (x.2 ∷ x.1)),
  x.4,
  x.5,
  x.6,
  subst (Begins G Always) (sym (append_assoc w x.0 (x.2 ∷ []))) (begins-after G Always w (x.0 ++ x.2 ∷ []) x.7),
)
tells_after G K F m n ts w rest (Err spent) h e x = (w ++ x.0, x.1, e ∙ ap (λ z. w ++ z) x.2 ∙ sym (append_assoc w x.0 x.1), omega (arith, h, length-append w x.0, x.3))

-- with fewer turns, and a weaker front
pub tells_more : {A : Type 0} (G : A → List Token → Type 0) (K : A → Type 0) (E F : List Token → Type 0) (m n : ℕ) (ts : List Token) (o : Outcome A)
    → m ≤ n → ((w : List Token) → E w → F w) → Tells G K E n ts o → Tells G K F m ts o
tells_more G K E F m n ts (Ok p) h f x = x
tells_more G K E F m n ts (Err (unexpected at)) h f x = (x.0, x.1, x.2, x.3, f x.0 x.4)
tells_more G K E F m n ts (Err (deep at)) h f x = (x.0, x.1, x.2, x.3, x.4, f x.0 x.5, x.6, x.7)
tells_more G K E F m n ts (Err spent) h f x = (x.0, x.1, x.2, omega (arith, h, x.3))

pub after_some : {A : Type 0} (G : A → List Token → Type 0) (K : Nesting A) (m n : ℕ) (ts w rest : List Token) (o : Outcome A) → n ≤ m + length w → ts ≡ w ++ rest → Shows (After w G) K m rest o → Shows G K n ts o
after_some G K m n ts w rest o h e x = tells_after G (Both K) (FitsBy G K) m n ts w rest o h e (tells_more (After w G) (Both K) (FitsBy (After w G) K) (λ v. FitsBy G K (w ++ v)) m m rest o (omega arith) (fits-after G K w) x)

pub after : {A : Type 0} (G : A → List Token → Type 0) (K : Nesting A) (n : ℕ) (ts w rest : List Token) (o : Outcome A) → ts ≡ w ++ rest → Shows (After w G) K n rest o → Shows G K n ts o
after G K n ts w rest o e x = after_some G K n n ts w rest o (omega arith) e x

-- what is read next can always be completed
abbrev pub Finishes : {A B : Type 0} → (A → List Token → Type 0) → Nesting A → (B → List Token → Type 0) → Nesting B → Type 0
Finishes G K H L = (a : _) (w : List Token) → G a w → (more : List Token) × (b : _) × H b (w ++ more) × ((i : Bool) → K i a → L i b) × NoNewline more

finish : {A B : Type 0} (G : A → List Token → Type 0) (K : Nesting A) (H : B → List Token → Type 0) (L : Nesting B) (i : Bool) → Finishes G K H L → (w : List Token) → Begins G (K i) w → Begins H (L i) w
finish G K H L i f w b =
    let x = f b.1 (w ++ b.0) b.2 in
    (b.0 ++ x.0, x.1, subst (H x.1) (append_assoc w b.0 x.0) x.2, x.3 i b.3, no_newline-append b.0 x.0 b.4 x.4)

pub finish_any : {A B : Type 0} (G : A → List Token → Type 0) (K : Nesting A) (H : B → List Token → Type 0) (L : Nesting B) → Finishes G K H L → (w : List Token) → Begins G Always w → Begins H Always w
finish_any G K H L f w b =
    let x = f b.1 (w ++ b.0) b.2 in
    (b.0 ++ x.0, x.1, subst (H x.1) (append_assoc w b.0 x.0) x.2, tt, no_newline-append b.0 x.0 b.4 x.4)

pub finish_more : {A B : Type 0} (G : A → List Token → Type 0) (K : Nesting A) (H : B → List Token → Type 0) (L : Nesting B) → Finishes G K H L → (w : List Token) → Begins G (K true) w → Begins H (L true) w
finish_more G K H L f w b = finish G K H L true f w b

pub finish_fit : {A B : Type 0} (G : A → List Token → Type 0) (K : Nesting A) (H : B → List Token → Type 0) (L : Nesting B) → Finishes G K H L → (w : List Token) → FitsBy G K w → FitsBy H L w
finish_fit G K H L f w x = (x.0, x.1, x.2, finish G K H L false f x.0 x.3, x.4, finish G K H L true f w x.5)

-- one rule after another
pub seq_by : {A B : Type 0} (G : A → List Token → Type 0) (K : A → Type 0) (E : List Token → Type 0) (H : B → List Token → Type 0) (L : B → Type 0) (F : List Token → Type 0) (n : ℕ) (ts : List Token) (o : Outcome A) (f : A → Parser B)
    → Tells G K E n ts o
    → ((a : A) (w rest : List Token) → ts ≡ w ++ rest → G a w → K a → (m : ℕ) × (n ≤ m + length w) × Tells (After w H) L (λ v. F (w ++ v)) m rest (f a rest))
    → ((w : List Token) → E w → F w)
    → ((w : List Token) → Begins G Always w → Begins H Always w)
    → Tells H L F n ts (and_then o f)
seq_by G K E H L F n ts (Ok p) f x next fit any = let y = next p.0 x.0 p.1 x.1 x.2 x.3 in tells_after H L F y.0 n ts x.0 p.1 (f p.0 p.1) y.1 x.1 y.2
seq_by G K E H L F n ts (Err (unexpected at)) f x next fit any = (x.0, x.1, x.2, x.3, fit x.0 x.4)
seq_by G K E H L F n ts (Err (deep at)) f x next fit any = (x.0, x.1, x.2, x.3, x.4, fit x.0 x.5, x.6, any (x.0 ++ x.2 ∷ []) x.7)
seq_by G K E H L F n ts (Err spent) f x next fit any = x

pub seq_some : {A B : Type 0} (G : A → List Token → Type 0) (K : Nesting A) (H : B → List Token → Type 0) (L : Nesting B) (n : ℕ) (ts : List Token) (o : Outcome A) (f : A → Parser B)
    → Shows G K n ts o
    → ((a : A) (w rest : List Token) → ts ≡ w ++ rest → G a w → Both K a → (m : ℕ) × (n ≤ m + length w) × Shows (After w H) L m rest (f a rest))
    → Finishes G K H L
    → Shows H L n ts (and_then o f)
seq_some G K H L n ts o f x next fin = seq_by G (Both K) (FitsBy G K) H (Both L) (FitsBy H L) n ts o f x
    (λ a w rest e g k. let y = next a w rest e g k in (y.0, y.1, tells_more (After w H) (Both L) (FitsBy (After w H) L) (λ v. FitsBy H L (w ++ v)) y.0 y.0 rest (f a rest) (omega arith) (fits-after H L w) y.2))
    (finish_fit G K H L fin) (finish_any G K H L fin)

pub seq : {A B : Type 0} (G : A → List Token → Type 0) (K : Nesting A) (H : B → List Token → Type 0) (L : Nesting B) (n : ℕ) (ts : List Token) (o : Outcome A) (f : A → Parser B)
    → Shows G K n ts o
    → ((a : A) (w rest : List Token) → ts ≡ w ++ rest → G a w → Both K a → Shows (After w H) L n rest (f a rest))
    → Finishes G K H L
    → Shows H L n ts (and_then o f)
seq G K H L n ts o f x next fin = seq_some G K H L n ts o f x (λ a w rest e g k. (n, omega arith, next a w rest e g k)) fin

-- what is shown is explained
pub shown : {A : Type 0} (G : A → List Token → Type 0) (K : Nesting A) (n : ℕ) (ts : List Token) (o : Outcome A) → Shows G K n ts o → Explains G (K false) (K true) n ts o
shown G K n ts (Ok p) x = (x.0, x.1, x.2, x.3 false)
shown G K n ts (Err (unexpected at)) x = x
shown G K n ts (Err (deep at)) x = x
shown G K n ts (Err spent) x = x
