-- Readers that take what a rule has and no more, part by part.
use Rattle.std.proofs.Common.{◌≡◌, ℕ, zero, suc, ◌+◌, ◌<◌, ◌≤◌, ◌⊎◌, inl, inr, true, false, List, [], ◌∷◌, ◌++◌, length, Ok, refl, sym, ap, subst, ◌∙◌, append_assoc, length-append, arith}
use Rattle.jt_syntax.specs.declared.token.Sign.{Sign}
use Rattle.jt_syntax.specs.declared.token.Token.{Token}
use Rattle.jt_syntax.specs.declared.token.TokenKind.{TokenKind}
use Rattle.jt_syntax.specs.declared.token.TokenKind.TheVariants as kind
use Rattle.jt_grammar.specs.Grammar.{token, Rule, ◌▸◌, ◌∣◌, Nothing, Mark, MarkAt}
use Rattle.jt_grammar.specs.Nesting.{Opened, Opens}
use Rattle.jt_grammar.specs.Reader.{Outcome, Parser, and_then, ◌>>=◌, pure, kind_of, is, skip, expect, enter, opening, by_kind, on}
use Rattle.jt_grammar.proofs.Signs.{same_sign-refl}

pub ok_then : {A B : Type 0} (o : Outcome A) (a : A) (rest : List Token) (f : A → Parser B) (r : Outcome B) → o ≡ Ok (a, rest) → f a rest ≡ r → and_then o f ≡ r
ok_then o a rest f r e h = ap (λ z. and_then z f) e ∙ h

-- which kinds of tokens may stand there
abbrev pub Kinds : Type 1
Kinds = TokenKind → Type 0

abbrev pub Any : Kinds
Any k = Unit {0}

-- the reader takes the rule's tokens, fewer than n, where the token behind them is one of these, and gives that
pub record Takes {A : Type 0} (n : ℕ) (P : Rule) (S : Kinds) (p : Parser A) (a : A) : Type 0 where
  pub takes : (w rest : List Token) → P w → length w < n → S (kind_of rest) → p (w ++ rest) ≡ Ok (a, rest)

-- what the first token of the rule is, or the one behind it where the rule has none
pub record Leads (P : Rule) (S M : Kinds) : Type 0 where
  pub leads : (w rest : List Token) → P w → S (kind_of rest) → M (kind_of (w ++ rest))

-- where something may be in an opener, one may be opened
pub opens_some : (K : ℕ → Type 0) (d : ℕ) → Opened d K → Opens d
opens_some K zero o = o
opens_some K (suc k) o = tt

-- ---- what comes first

pub lead_then : {P Q : Rule} {S M : Kinds} → Leads P Any M → Leads (P ▸ Q) S M
lead_then {M = M} l = record { leads = λ w rest g s. subst (λ z. M (kind_of z)) (sym (ap (λ z. z ++ rest) g.2 ∙ append_assoc g.0 g.1 rest)) (l.leads g.0 (g.1 ++ rest) g.3 tt) }

pub lead_mark : {s : Sign} {S M : Kinds} → M (kind.Sign s) → Leads (Mark s) S M
lead_mark {M = M} m = record { leads = λ w rest g s. subst (λ z. M (kind_of (z ++ rest))) (sym g.1) m }

pub lead_at : {s : Sign} {at : ℕ} {S M : Kinds} → M (kind.Sign s) → Leads (MarkAt s at) S M
lead_at {M = M} m = record { leads = λ w rest g s. subst (λ z. M (kind_of (z ++ rest))) (sym g) m }

pub lead_nothing : {S M : Kinds} → ((k : TokenKind) → S k → M k) → Leads Nothing S M
lead_nothing {M = M} m = record { leads = λ w rest g s. subst (λ z. M (kind_of (z ++ rest))) (sym g) (m (kind_of rest) s) }

pub lead_behind : {P Q : Rule} {S N M : Kinds} → Leads P N M → Leads Q S N → Leads (P ▸ Q) S M
lead_behind {M = M} l r = record { leads = λ w rest g s. subst (λ z. M (kind_of z)) (sym (ap (λ z. z ++ rest) g.2 ∙ append_assoc g.0 g.1 rest)) (l.leads g.0 (g.1 ++ rest) g.3 (r.leads g.1 rest g.4 s)) }

-- ---- marks

pub known : (s : Sign) → is s (kind.Sign s) ≡ true
known s = same_sign-refl s

pub sign_by : {A : Type 0} (s : Sign) (at : ℕ) (ts : List Token) (p q : Parser A) → on s p q (token (kind.Sign s) at ∷ ts) ≡ p (token (kind.Sign s) at ∷ ts)
sign_by s at ts p q = rw (known s) refl

pub expects : (s : Sign) (at : ℕ) (ts : List Token) → expect s (token (kind.Sign s) at ∷ ts) ≡ Ok (token (kind.Sign s) at, ts)
expects s at ts = rw (known s) refl

pub opens : (k : ℕ) (s : Sign) (at : ℕ) (ts : List Token) → opening (suc k) s (token (kind.Sign s) at ∷ ts) ≡ Ok (token (kind.Sign s) at, ts)
opens k s at ts = rw (known s) refl

-- ---- one part behind another

then_takes : {A B : Type 0} (n : ℕ) (P Q : Rule) (M S : Kinds) (p : Parser A) (f : A → Parser B) (a : A) (b : B) → Takes n P M p a → Leads Q S M → Takes n Q S (f a) b
    → (w rest : List Token) → (P ▸ Q) w → length w < n → S (kind_of rest) → (p >>= f) (w ++ rest) ≡ Ok (b, rest)
then_takes n P Q M S p f a b x l y w rest g h s =
    let u = g.0 in
    let v = g.1 in
    let size : length w ≡ length u + length v = ap length g.2 ∙ length-append u v in
    ap (λ z. and_then (p z) f) (ap (λ z. z ++ rest) g.2 ∙ append_assoc u v rest)
    ∙ ok_then (p (u ++ (v ++ rest))) a (v ++ rest) f _ (x.takes u (v ++ rest) g.3 (omega (arith, h, size)) (l.leads v rest g.4 s)) (y.takes v rest g.4 (omega (arith, h, size)) s)

module _ {A B : Type 0} {n : ℕ} {P : Rule} {M S : Kinds} {p : Parser A} {a : A} {b : B} where
  pub then : {Q : Rule} (f : A → Parser B) → Takes n P M p a → Leads Q S M → Takes n Q S (f a) b → Takes n (P ▸ Q) S (p >>= f) b
  then {Q = Q} f x l y = record { takes = then_takes n P Q M S p f a b x l y }

  -- the last part
  pub last : (f : A → Parser B) → Takes n P M p a → ((k : TokenKind) → S k → M k) → ((rest : List Token) → S (kind_of rest) → f a rest ≡ Ok (b, rest)) → Takes n P S (p >>= f) b
  last f x l y = record { takes = λ w rest g h s. ok_then (p (w ++ rest)) a rest f _ (x.takes w rest g h (l (kind_of rest) s)) (y rest s) }

-- ---- one token in front

-- the reader takes this token and gives that, whatever is behind it
abbrev pub Gives : {A : Type 0} → Parser A → Token → A → Type 0
Gives p t a = (ts : List Token) → p (t ∷ ts) ≡ Ok (a, ts)

-- one token, wherever it stands
abbrev pub Single : (ℕ → Token) → Rule
Single t w = (at : ℕ) × (w ≡ t at ∷ [])

module _ {A B : Type 0} {n : ℕ} {S : Kinds} {b : B} (p : Parser A) where
  token_then : (Q : Rule) (f : A → Parser B) (t : Token) (a : A) → Gives p t a → Takes n Q S (f a) b
      → (w u v rest : List Token) → w ≡ u ++ v → u ≡ t ∷ [] → Q v → length w < n → S (kind_of rest) → (p >>= f) (w ++ rest) ≡ Ok (b, rest)
  token_then Q f t a o y w u v rest e' i g h s =
      let e : w ≡ t ∷ v = e' ∙ ap (λ z. z ++ v) i in
      ap (λ z. and_then (p (z ++ rest)) f) e ∙ ok_then (p (t ∷ (v ++ rest))) a (v ++ rest) f _ (o (v ++ rest)) (y.takes v rest g (omega (arith, h, ap length e)) s)

  pub mark_by : {s : Sign} {Q : Rule} (f : A → Parser B) (a : ℕ → A) → ((at : ℕ) → Gives p (token (kind.Sign s) at) (a at)) → ((at : ℕ) → Takes n Q S (f (a at)) b) → Takes n (Mark s ▸ Q) S (p >>= f) b
  mark_by {s = s} {Q = Q} f a o y = record { takes = λ w rest g h s'. token_then Q f (token (kind.Sign s) g.3.0) (a g.3.0) (o g.3.0) (y g.3.0) w g.0 g.1 rest g.2 g.3.1 g.4 h s' }

  pub at_by : {s : Sign} {at : ℕ} {Q : Rule} (f : A → Parser B) (a : A) → Gives p (token (kind.Sign s) at) a → Takes n Q S (f a) b → Takes n (MarkAt s at ▸ Q) S (p >>= f) b
  at_by {s = s} {at = at} {Q = Q} f a o y = record { takes = λ w rest g h s'. token_then Q f (token (kind.Sign s) at) a o y w g.0 g.1 rest g.2 g.3 g.4 h s' }

module _ {B : Type 0} {n : ℕ} {S : Kinds} {b : B} where
  -- a sign that is expected
  pub mark : {s : Sign} {Q : Rule} (f : Token → Parser B) → ((at : ℕ) → Takes n Q S (f (token (kind.Sign s) at)) b) → Takes n (Mark s ▸ Q) S (expect s >>= f) b
  mark {s = s} f y = mark_by (expect s) f (token (kind.Sign s)) (λ at. expects s at) y

  -- a sign that was seen
  pub seen : {s : Sign} {Q : Rule} (f : Token → Parser B) → ((at : ℕ) → Takes n Q S (f (token (kind.Sign s) at)) b) → Takes n (Mark s ▸ Q) S (skip >>= f) b
  seen {s = s} f y = mark_by skip f (token (kind.Sign s)) (λ at ts. refl) y

  -- an opener, with what is in it
  pub opened : {s : Sign} {Q : Rule} (K : ℕ → Type 0) (d : ℕ) (f : Token → Parser B) → Opened d K → ((k : ℕ) → d ≡ suc k → K k → (at : ℕ) → Takes n Q S (f (token (kind.Sign s) at)) b) → Takes n (Mark s ▸ Q) S (opening d s >>= f) b
  opened K zero f o y = absurd o
  opened {s = s} K (suc k) f o y = mark_by (opening (suc k) s) f (token (kind.Sign s)) (λ at. opens k s at) (y k refl o)

  pub opened_at : {s : Sign} {at : ℕ} {Q : Rule} (K : ℕ → Type 0) (d : ℕ) (f : Token → Parser B) → Opened d K → ((k : ℕ) → d ≡ suc k → K k → Takes n Q S (f (token (kind.Sign s) at)) b) → Takes n (MarkAt s at ▸ Q) S (opening d s >>= f) b
  opened_at K zero f o y = absurd o
  opened_at {s = s} {at = at} K (suc k) f o y = at_by (opening (suc k) s) f (token (kind.Sign s) at) (opens k s at) (y k refl o)

  -- one opener more, where the token was seen
  pub entered : {P : Rule} (K : ℕ → Type 0) (d : ℕ) (f : Unit {0} → Parser B) → Opened d K → ((k : ℕ) → d ≡ suc k → K k → Takes n P S (f tt) b) → Takes n P S (enter d >>= f) b
  entered K zero f o y = absurd o
  entered K (suc k) f o y = let x = y k refl o in record { takes = x.takes }

  -- a sign as the last part
  pub mark_last : {s : Sign} (f : Token → Parser B) → ((at : ℕ) (rest : List Token) → f (token (kind.Sign s) at) rest ≡ Ok (b, rest)) → Takes n (Mark s) S (expect s >>= f) b
  mark_last {s = s} f y = record { takes = λ w rest g h s'. ap (λ z. and_then (expect s (z ++ rest)) f) g.1 ∙ ok_then (expect s (token (kind.Sign s) g.0 ∷ rest)) (token (kind.Sign s) g.0) rest f _ (expects s g.0 rest) (y g.0 rest) }

  pub seen_last : {s : Sign} (f : Token → Parser B) → ((at : ℕ) (rest : List Token) → f (token (kind.Sign s) at) rest ≡ Ok (b, rest)) → Takes n (Mark s) S (skip >>= f) b
  seen_last {s = s} f y = record { takes = λ w rest g h s'. ap (λ z. and_then (skip (z ++ rest)) f) g.1 ∙ y g.0 rest }

-- ---- by the next token

module _ {A : Type 0} {n : ℕ} {P : Rule} {S : Kinds} {b : A} where
  -- in place of a reader, one that goes alike on these tokens
  pub instead : (p q : Parser A) → ((w rest : List Token) → P w → S (kind_of rest) → p (w ++ rest) ≡ q (w ++ rest)) → Takes n P S q b → Takes n P S p b
  instead p q e x = record { takes = λ w rest g h s. e w rest g s ∙ x.takes w rest g h s }

  pub by : (g : TokenKind → Parser A) (k : TokenKind) → Leads P S (λ x. x ≡ k) → Takes n P S (g k) b → Takes n P S (by_kind g) b
  by g k l x = instead (by_kind g) (g k) (λ w rest p s. ap (λ z. g z (w ++ rest)) (l.leads w rest p s)) x

  pub by_same : (g : TokenKind → Parser A) (q : Parser A) → Leads P S (λ k. g k ≡ q) → Takes n P S q b → Takes n P S (by_kind g) b
  by_same g q l x = instead (by_kind g) q (λ w rest p s. ap (λ z. z (w ++ rest)) (l.leads w rest p s)) x

  pub on_yes : (s : Sign) (p q : Parser A) → Leads P S (λ k. is s k ≡ true) → Takes n P S p b → Takes n P S (on s p q) b
  on_yes s p q l x = instead (on s p q) p (λ w rest g s'. rw (l.leads w rest g s') refl) x

  pub on_no : (s : Sign) (p q : Parser A) → Leads P S (λ k. is s k ≡ false) → Takes n P S q b → Takes n P S (on s p q) b
  on_no s p q l x = instead (on s p q) q (λ w rest g s'. rw (l.leads w rest g s') refl) x

-- nothing, where the reader takes nothing
pub nothing : {A : Type 0} {n : ℕ} {S : Kinds} (p : Parser A) (b : A) → ((rest : List Token) → S (kind_of rest) → p rest ≡ Ok (b, rest)) → Takes n Nothing S p b
nothing p b e = record { takes = λ w rest g h s. ap (λ z. p (z ++ rest)) g ∙ e rest s }

-- whatever is behind
pub always : {A : Type 0} {n : ℕ} {P : Rule} {S : Kinds} {p : Parser A} {b : A} → Takes n P Any p b → Takes n P S p b
always x = record { takes = λ w rest g h s. x.takes w rest g h tt }

-- fewer kinds of tokens behind
pub narrower : {A : Type 0} {n : ℕ} {P : Rule} {S M : Kinds} {p : Parser A} {b : A} → ((k : TokenKind) → S k → M k) → Takes n P M p b → Takes n P S p b
narrower l x = record { takes = λ w rest g h s. x.takes w rest g h (l (kind_of rest) s) }

pub anything : {Q : Rule} {S : Kinds} → Leads Q S Any
anything = record { leads = λ w rest g s. tt }

-- ---- one token alone

pub single : {A : Type 0} {n : ℕ} (t : Token) (p : Parser A) (a : A) → Gives p t a → Takes n (λ w. w ≡ t ∷ []) Any p a
single t p a o = record { takes = λ w rest g h s. ap (λ z. p (z ++ rest)) g ∙ o rest }

pub somewhere : {A : Type 0} {n : ℕ} (t : ℕ → Token) (p : Parser A) (a : A) → ((at : ℕ) → Gives p (t at) a) → Takes n (Single t) Any p a
somewhere t p a o = record { takes = λ w rest g h s. ap (λ z. p (z ++ rest)) g.1 ∙ o g.0 rest }

-- ---- a part of which it doesn't count what it gives

pub record Passes {A : Type 0} (n : ℕ) (P : Rule) (S : Kinds) (p : Parser A) : Type 0 where
  pub passes : (w rest : List Token) → P w → length w < n → S (kind_of rest) → (a : A) × (p (w ++ rest) ≡ Ok (a, rest))

passed_takes : {A B : Type 0} (n : ℕ) (P Q : Rule) (M S : Kinds) (p : Parser A) (f : A → Parser B) (b : B) → Passes n P M p → Leads Q S M → ((a : A) → Takes n Q S (f a) b)
    → (w rest : List Token) → (P ▸ Q) w → length w < n → S (kind_of rest) → (p >>= f) (w ++ rest) ≡ Ok (b, rest)
passed_takes n P Q M S p f b x l y w rest g h s =
    let u = g.0 in
    let v = g.1 in
    let size : length w ≡ length u + length v = ap length g.2 ∙ length-append u v in
    let r = x.passes u (v ++ rest) g.3 (omega (arith, h, size)) (l.leads v rest g.4 s) in
    ap (λ z. and_then (p z) f) (ap (λ z. z ++ rest) g.2 ∙ append_assoc u v rest)
    ∙ ok_then (p (u ++ (v ++ rest))) r.0 (v ++ rest) f _ r.1 ((y r.0).takes v rest g.4 (omega (arith, h, size)) s)

pub passed : {A B : Type 0} {n : ℕ} {P Q : Rule} {M S : Kinds} {p : Parser A} {b : B} (f : A → Parser B) → Passes n P M p → Leads Q S M → ((a : A) → Takes n Q S (f a) b) → Takes n (P ▸ Q) S (p >>= f) b
passed {n = n} {P = P} {Q = Q} {M = M} {S = S} {p = p} {b = b} f x l y = record { takes = passed_takes n P Q M S p f b x l y }

-- ---- other wordings of a rule

pub respell : {A : Type 0} {n : ℕ} {P : Rule} (Q : Rule) {S : Kinds} {p : Parser A} {a : A} → ((w : List Token) → P w → Q w) → Takes n Q S p a → Takes n P S p a
respell Q m x = record { takes = λ w rest g h s. x.takes w rest (m w g) h s }

pub either : {A : Type 0} {n : ℕ} (P Q : Rule) {S : Kinds} {p : Parser A} {a : A} → Takes n P S p a → Takes n Q S p a → Takes n (P ∣ Q) S p a
either {A = A} {n = n} P Q {S = S} {p = p} {a = a} x y = record { takes = λ w rest g h s. go w rest h s g }
  where
    go : (w rest : List Token) → length w < n → S (kind_of rest) → P w ⊎ Q w → p (w ++ rest) ≡ Ok (a, rest)
    go w rest h s (inl g) = x.takes w rest g h s
    go w rest h s (inr g) = y.takes w rest g h s

pub each : {A X : Type 0} {n : ℕ} (P : X → Rule) {S : Kinds} {p : Parser A} {a : A} → ((x : X) → Takes n (P x) S p a) → Takes n (λ w. (x : X) × P x w) S p a
each P y = record { takes = λ w rest g h s. (y g.0).takes w rest g.1 h s }

-- ---- with what is known of the tokens, or of their number

pub knowing : {A X : Type 0} {n : ℕ} {P : Rule} {S : Kinds} {p : Parser A} {a : A} → ((w : List Token) → P w → X) → (X → Takes n P S p a) → Takes n P S p a
knowing x f = record { takes = λ w rest g h s. (f (x w g)).takes w rest g h s }

-- fewer tokens
pub fewer : {A : Type 0} {n : ℕ} (k : ℕ) {P : Rule} {S : Kinds} {p : Parser A} {a : A} → k ≤ n → Takes n P S p a → Takes k P S p a
fewer k h x = record { takes = λ w rest g l s. x.takes w rest g (omega (arith, l, h)) s }

-- behind a sign that was seen there are fewer
pub seen_less : {B : Type 0} {k : ℕ} {S : Kinds} {b : B} {s : Sign} {Q : Rule} (f : Token → Parser B) → ((at : ℕ) → Takes k Q S (f (token (kind.Sign s) at)) b) → Takes (suc k) (Mark s ▸ Q) S (skip >>= f) b
seen_less {s = s} f y = record {
  takes = λ w rest g h s'.
      let e : w ≡ token (kind.Sign s) g.3.0 ∷ g.1 = g.2 ∙ ap (λ z. z ++ g.1) g.3.1 in
      ap (λ z. and_then (skip (z ++ rest)) f) e ∙ (y g.3.0).takes g.1 rest g.4 (omega (arith, h, ap length e)) s';
}

-- the last part, of which it doesn't count what it gives
pub ignored : {A B : Type 0} {n : ℕ} {P : Rule} {S : Kinds} {p : Parser A} (b : B) → Passes n P S p → Takes n P S (p >>= λ _. pure b) b
ignored b x = record { takes = λ w rest g h s. let r = x.passes w rest g h s in ap (λ z. and_then z (λ _. pure b)) r.1 }

-- of what comes first, less
pub lead_more : {P : Rule} {S M N : Kinds} → ((k : TokenKind) → M k → N k) → Leads P S M → Leads P S N
lead_more m l = record { leads = λ w rest g s. m (kind_of (w ++ rest)) (l.leads w rest g s) }

-- where the rule has a token, whatever is behind it
pub whatever : {P : Rule} {S M : Kinds} → Leads P Any M → Leads P S M
whatever l = record { leads = λ w rest g s. l.leads w rest g tt }

pub regroup : (P Q R T : Rule) (w : List Token) → (P ▸ Q ▸ R ▸ T) w → ((P ▸ Q ▸ R) ▸ T) w
regroup P Q R T w g =
    let p = g.0 in
    let q = g.4.0 in
    let r = g.4.4.0 in
    let t = g.4.4.1 in (
      p ++ (q ++ r),
      t,
      g.2 ∙ (ap (λ z. p ++ z) (g.4.2 ∙ (ap (λ z. q ++ z) g.4.4.2 ∙ sym (append_assoc q r t))) ∙ sym (append_assoc p (q ++ r) t)),
      (p, q ++ r, refl, g.3, (q, r, refl, g.4.3, g.4.4.3)),
      g.4.4.4,
    )
