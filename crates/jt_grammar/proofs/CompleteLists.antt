-- Lists with commas between, and lists with separators.
use Rattle.std.proofs.Common.{◌≡◌, ℕ, zero, suc, ◌+◌, ◌<◌, ◌≤◌, ◌⊎◌, inl, inr, Bool, true, false, true≢false, ◌||◌, cond, List, [], ◌∷◌, ◌++◌, length, Ok, refl, sym, ap, subst, ◌∙◌, append_assoc, length-append, arith}
use Rattle.jt_syntax.specs.declared.token.Sign.TheVariants as sign
use Rattle.jt_syntax.specs.declared.token.Token.{Token}
use Rattle.jt_syntax.specs.declared.token.TokenKind.{TokenKind}
use Rattle.jt_syntax.specs.declared.token.TokenKind.TheVariants as kind
use Rattle.jt_grammar.specs.Grammar.{token, Rule, ◌▸◌, Mark, IsSeparator, Gap, SomeGap}
use Rattle.jt_grammar.specs.Reader.{Parser, and_then, ◌>>=◌, pure, kind_of, is, skip, commas, comma_list, is_separator, gap, ends, list_of, body_of, tail_of}
use Rattle.jt_grammar.proofs.CompleteParts.{Kinds, Any, Takes, Leads, ok_then, sign_by}
use Rattle.jt_grammar.proofs.Front.{Closes, closes}

-- ---- commas

-- nothing, or an item behind a comma and more of them
abbrev pub MoreItems : {A B : Type 0} → (A → Rule) → (B → Rule) → B → (A → B → B) → B → List Token → Type 0
MoreItems {A = A} {B = B} G Others none one xs w = ((xs ≡ none) × (w ≡ [])) ⊎ ((x : A) × (ys : B) × (xs ≡ one x ys) × (Mark sign.Comma ▸ G x ▸ Others ys) w)

abbrev pub Items : {A B : Type 0} → (A → Rule) → (B → Rule) → B → (A → B → B) → B → List Token → Type 0
Items {A = A} {B = B} G Others none one xs w = ((xs ≡ none) × (w ≡ [])) ⊎ ((x : A) × (ys : B) × (xs ≡ one x ys) × (G x ▸ Others ys) w)

module _ {A B : Type 0} (G : A → Rule) (Others : B → Rule) (K : A → Type 0) (L : B → Type 0) (none : B) (one : A → B → B)
    (view : (xs : B) (w : List Token) → Others xs w → MoreItems G Others none one xs w)
    (both : (x : A) (xs : B) → L (one x xs) → K x × L xs)
    (n : ℕ) (S : Kinds) (comma : S (kind.Sign sign.Comma)) (item : Parser A) (complete : (x : A) → K x → Takes n (G x) S item x) where
  comma_turn : (k at : ℕ) (ts : List Token) → commas item none one (suc k) (token (kind.Sign sign.Comma) at ∷ ts) ≡ and_then (item ts) (λ x. commas item none one k >>= λ xs. pure (one x xs))
  unfolding commas
  comma_turn k at ts = sign_by sign.Comma at ts (skip >>= λ _. item >>= λ x. commas item none one k >>= λ xs. pure (one x xs)) (pure none)

  comma_stop : (k : ℕ) (ts : List Token) → is sign.Comma (kind_of ts) ≡ false → 0 < k → commas item none one k ts ≡ Ok (none, ts)
  unfolding commas
  comma_stop zero ts e h = absurd (omega (arith, h))
  comma_stop (suc k) ts e h = rw e refl

  more_lead : (xs : B) (w rest : List Token) → MoreItems G Others none one xs w → S (kind_of rest) → S (kind_of (w ++ rest))
  more_lead xs w rest (inl a) s = subst (λ z. S (kind_of (z ++ rest))) (sym a.1) s
  more_lead xs w rest (inr a) s = subst (λ z. S (kind_of (z ++ rest))) (sym (a.3.2 ∙ ap (λ z. z ++ a.3.1) a.3.3.1)) comma

  commas_complete : (k : ℕ) → k ≤ n → (xs : B) → L xs → (w rest : List Token) → MoreItems G Others none one xs w → length w < k → S (kind_of rest) → is sign.Comma (kind_of rest) ≡ false → commas item none one k (w ++ rest) ≡ Ok (xs, rest)
  commas_complete k kn xs l w rest (inl a) h s c = ap (λ z. commas item none one k (z ++ rest)) a.1 ∙ (comma_stop k rest c (omega (arith, h)) ∙ ap (λ z. Ok (z, rest)) (sym a.0))
  commas_complete zero kn xs l w rest (inr a) h s c = absurd (omega (arith, h))
  commas_complete (suc k) kn xs l w rest (inr a) h s c =
      let x = a.0 in
      let ys = a.1 in
      let t = token (kind.Sign sign.Comma) a.3.3.0 in
      let u = a.3.4.0 in
      let v = a.3.4.1 in
      let ls = both x ys (subst L a.2 l) in
      let shape : w ≡ t ∷ (u ++ v) = a.3.2 ∙ (ap (λ z. z ++ a.3.1) a.3.3.1 ∙ ap (λ z. t ∷ z) a.3.4.2) in
      let size : length w ≡ suc (length u + length v) = ap length shape ∙ ap suc (length-append u v) in
      let more = view ys v a.3.4.4 in
      ap (commas item none one (suc k)) (ap (λ z. z ++ rest) shape ∙ ap (λ z. t ∷ z) (append_assoc u v rest))
      ∙ (comma_turn k a.3.3.0 (u ++ (v ++ rest))
      ∙ (ok_then (item (u ++ (v ++ rest))) x (v ++ rest) _ _ ((complete x ls.0).takes u (v ++ rest) a.3.4.3 (omega (arith, size, h, kn)) (more_lead ys v rest more s))
      (ok_then (commas item none one k (v ++ rest)) ys rest _ _ (commas_complete k (omega (arith, kn)) ys ls.1 v rest more (omega (arith, size, h)) s c) refl)
      ∙ ap (λ z. Ok (z, rest)) (sym a.2)))

  list_some : (ts : List Token) → is sign.Close (kind_of ts) ≡ false → comma_list n item none one ts ≡ and_then (item ts) (λ x. commas item none one n >>= λ xs. pure (one x xs))
  list_some ts e = rw e refl

  list_none : (ts : List Token) → is sign.Close (kind_of ts) ≡ true → comma_list n item none one ts ≡ Ok (none, ts)
  list_none ts e = rw e refl

  -- a list up to a token that is no comma; where it is empty, that token is a closing parenthesis
  module _ (item_first : (x : A) → Leads (G x) Any (λ k. is sign.Close k ≡ false)) where
    pub items_complete : (xs : B) → L xs → (w rest : List Token) → Items G Others none one xs w → length w < n → S (kind_of rest) → is sign.Comma (kind_of rest) ≡ false → (xs ≡ none → is sign.Close (kind_of rest) ≡ true) → comma_list n item none one (w ++ rest) ≡ Ok (xs, rest)
    items_complete xs l w rest (inl a) h s c empty = ap (λ z. comma_list n item none one (z ++ rest)) a.1 ∙ (list_none rest (empty a.0) ∙ ap (λ z. Ok (z, rest)) (sym a.0))
    items_complete xs l w rest (inr a) h s c empty =
        let x = a.0 in
        let ys = a.1 in
        let u = a.3.0 in
        let v = a.3.1 in
        let ls = both x ys (subst L a.2 l) in
        let size : length w ≡ length u + length v = ap length a.3.2 ∙ length-append u v in
        let more = view ys v a.3.4 in
        ap (comma_list n item none one) (ap (λ z. z ++ rest) a.3.2 ∙ append_assoc u v rest)
        ∙ (list_some (u ++ (v ++ rest)) ((item_first x).leads u (v ++ rest) a.3.3 tt)
        ∙ (ok_then (item (u ++ (v ++ rest))) x (v ++ rest) _ _ ((complete x ls.0).takes u (v ++ rest) a.3.3 (omega (arith, size, h)) (more_lead ys v rest more s))
        (ok_then (commas item none one n (v ++ rest)) ys rest _ _ (commas_complete n (omega arith) ys ls.1 v rest more (omega (arith, size, h)) s c) refl)
        ∙ ap (λ z. Ok (z, rest)) (sym a.2)))

-- ---- separators

abbrev pub Ends : Kinds
Ends k = ends k ≡ true

ends-no_separator : (k : TokenKind) → Ends k → is_separator k ≡ false
ends-no_separator (kind.Sign sign.End) e = refl
ends-no_separator (kind.Sign sign.Else) e = refl
ends-no_separator (kind.Sign sign.ElseIf) e = refl
ends-no_separator (kind.Sign sign.Stop) e = refl
ends-no_separator (kind.Sign _) e = absurd (true≢false (sym e))
ends-no_separator (kind.Number _) e = absurd (true≢false (sym e))
ends-no_separator (kind.Name _) e = absurd (true≢false (sym e))
ends-no_separator (kind.Text _) e = absurd (true≢false (sym e))

ends-closes : (k : TokenKind) → Ends k → Closes k
ends-closes k e = ap (λ b. b || is_separator k) e

pub or_true : (a b : Bool) → b ≡ true → (a || b) ≡ true
or_true true b e = refl
or_true false b e = e

pub neither : (a b : Bool) → (a || b) ≡ false → (a ≡ false) × (b ≡ false)
neither true b e = absurd (true≢false e)
neither false b e = (refl, e)

separator-is : (k : TokenKind) → IsSeparator k → is_separator k ≡ true
separator-is (kind.Sign sign.Semicolon) h = refl
separator-is (kind.Sign sign.Newline) h = refl
separator-is (kind.Sign _) h = absurd h
separator-is (kind.Number _) h = absurd h
separator-is (kind.Name _) h = absurd h
separator-is (kind.Text _) h = absurd h

separator-closes : (k : TokenKind) → IsSeparator k → Closes k
separator-closes k h = or_true (ends k) (is_separator k) (separator-is k h)

abbrev some : List Token → Bool
some [] = false
some (t ∷ ts) = true

some-true : (g : List Token) → 0 < length g → some g ≡ true
some-true [] h = absurd (omega (arith, h))
some-true (t ∷ g) h = refl

gap_goes : (k : ℕ) (t : Token) (ts : List Token) → is_separator t.kind ≡ true → gap (suc k) (t ∷ ts) ≡ and_then (gap k ts) (λ _. pure true)
unfolding gap
gap_goes k t ts e = rw e refl

gap_stops : (k : ℕ) (ts : List Token) → is_separator (kind_of ts) ≡ false → gap (suc k) ts ≡ Ok (false, ts)
unfolding gap
gap_stops k ts e = rw e refl

gap_complete : (g rest : List Token) (k : ℕ) → Gap g → length g < k → is_separator (kind_of rest) ≡ false → gap k (g ++ rest) ≡ Ok (some g, rest)
gap_complete g rest zero a h e = absurd (omega (arith, h))
gap_complete [] rest (suc k) a h e = gap_stops k rest e
gap_complete (t ∷ g) rest (suc k) a h e = gap_goes k t (g ++ rest) (separator-is t.kind a.0) ∙ ok_then (gap k (g ++ rest)) (some g) rest _ _ (gap_complete g rest k a.1 (omega (arith, h)) e) refl

gap_closes : (g rest : List Token) → Gap g → Closes (kind_of rest) → Closes (kind_of (g ++ rest))
gap_closes [] rest a e = e
gap_closes (t ∷ g) rest a e = separator-closes t.kind a.0

some_gap_closes : (g rest : List Token) → SomeGap g → Closes (kind_of (g ++ rest))
some_gap_closes [] rest a = absurd (omega (arith, a.0))
some_gap_closes (t ∷ g) rest a = separator-closes t.kind a.1.0

-- separators alone, or an item behind a gap and more of them
abbrev pub Gapped : {A B : Type 0} → Rule → (A → Rule) → (B → Rule) → B → (A → B → B) → B → List Token → Type 0
Gapped {A = A} {B = B} Front G Others none one xs w = ((xs ≡ none) × Gap w) ⊎ ((x : A) × (ys : B) × (xs ≡ one x ys) × (Front ▸ G x ▸ Others ys) w)

module _ {A B : Type 0} (G : A → Rule) (Others Whole : B → Rule) (K : A → Type 0) (L : B → Type 0) (none : B) (one : A → B → B)
    (others_view : (xs : B) (w : List Token) → Others xs w → Gapped SomeGap G Others none one xs w)
    (whole_view : (xs : B) (w : List Token) → Whole xs w → Gapped Gap G Others none one xs w)
    (both : (x : A) (xs : B) → L (one x xs) → K x × L xs) (n : ℕ) (item : Parser A) where
  others_close : (xs : B) (w rest : List Token) → Gapped SomeGap G Others none one xs w → Closes (kind_of rest) → Closes (kind_of (w ++ rest))
  others_close xs w rest (inl a) e = gap_closes w rest a.1 e
  others_close xs w rest (inr a) e = subst (λ z. Closes (kind_of z)) (sym (ap (λ z. z ++ rest) a.3.2 ∙ append_assoc a.3.0 a.3.1 rest)) (some_gap_closes a.3.0 (a.3.1 ++ rest) a.3.3)

  -- what stands first in a tail may stand behind a statement
  pub tail_leads : (xs : B) → Leads (Others xs) Ends Closes
  tail_leads xs = record { leads = λ w rest g e. others_close xs w rest (others_view xs w g) (ends-closes (kind_of rest) e) }

  abbrev again : ℕ → A → Bool → Parser B
  again k x apart = cond apart (list_of n item none one k >>= λ xs. pure (one x xs)) (pure (one x none))

  list_end : (k : ℕ) (rest : List Token) → 0 < k → Ends (kind_of rest) → list_of n item none one k rest ≡ Ok (none, rest)
  unfolding list_of
  list_end zero rest h e = absurd (omega (arith, h))
  list_end (suc k) rest h e = rw e refl

  list_goes : (k : ℕ) (ts : List Token) → ends (kind_of ts) ≡ false → list_of n item none one (suc k) ts ≡ and_then (item ts) (λ x. gap n >>= again k x)
  unfolding list_of
  list_goes k ts e = rw e refl

  module _ (first : (x : A) → Leads (G x) Any (λ k. closes k ≡ false)) (complete : (x : A) → K x → Takes n (G x) Closes item x) where
    first_at : (x : A) (ys : B) (w rest : List Token) → (G x ▸ Others ys) w → (ends (kind_of (w ++ rest)) ≡ false) × (is_separator (kind_of (w ++ rest)) ≡ false)
    first_at x ys w rest g =
        let low : closes (kind_of (w ++ rest)) ≡ false = subst (λ z. closes (kind_of z) ≡ false) (sym (ap (λ z. z ++ rest) g.2 ∙ append_assoc g.0 g.1 rest)) ((first x).leads g.0 (g.1 ++ rest) g.3 tt) in
        neither (ends (kind_of (w ++ rest))) (is_separator (kind_of (w ++ rest))) low

    -- an item takes at least a token
    item_some : (x : A) (u : List Token) → G x u → 0 < length u
    item_some x [] g = absurd (true≢false ((first x).leads [] [] g tt))
    item_some x (t ∷ u) g = omega arith

    -- behind an item: separators, and what is left of the list
    rest_of : (k : ℕ) (x : A) (ys : B) (v rest : List Token) → Ends (kind_of rest) → length v < n → length v < k → k ≤ n
        → ((zs : B) (w : List Token) → L zs → length w < k → Items G Others none one zs w → list_of n item none one k (w ++ rest) ≡ Ok (zs, rest)) → L ys
        → Gapped SomeGap G Others none one ys v
        → and_then (gap n (v ++ rest)) (again k x) ≡ Ok (one x ys, rest)
    rest_of k x ys v rest e h hk kn rec l (inl a) = ok_then (gap n (v ++ rest)) (some v) rest _ _ (gap_complete v rest n a.1 h (ends-no_separator (kind_of rest) e)) (go v hk)
      where
        go : (v : List Token) → length v < k → again k x (some v) rest ≡ Ok (one x ys, rest)
        go [] h = ap (λ z. Ok (one x z, rest)) (sym a.0)
        go (t ∷ v) h = ok_then (list_of n item none one k rest) ys rest _ _ (rec ys [] l (omega (arith, h)) (inl (a.0, refl))) refl
    rest_of k x ys v rest e h hk kn rec l (inr a) =
        let g = a.3.0 in
        let w = a.3.1 in
        let size : length v ≡ length g + length w = ap length a.3.2 ∙ length-append g w in
        let some_gap : 0 < length g = a.3.3.0 in
        let no_more : is_separator (kind_of (w ++ rest)) ≡ false = (first_at a.0 a.1 w rest a.3.4).1 in
        let read_gap : gap n (v ++ rest) ≡ Ok (true, w ++ rest) = ap (gap n) (ap (λ z. z ++ rest) a.3.2 ∙ append_assoc g w rest) ∙ (gap_complete g (w ++ rest) n a.3.3.1 (omega (arith, size, h)) no_more ∙ ap (λ b. Ok (b, w ++ rest)) (some-true g some_gap)) in
        ok_then (gap n (v ++ rest)) true (w ++ rest) _ _ read_gap
        (ok_then (list_of n item none one k (w ++ rest)) ys rest _ _ (rec ys w l (omega (arith, size, hk, some_gap)) (inr (a.0, a.1, a.2, a.3.4))) refl)

    list_complete : (k : ℕ) → k ≤ n → (rest : List Token) → Ends (kind_of rest) → (xs : B) (w : List Token) → L xs → length w < k → Items G Others none one xs w → list_of n item none one k (w ++ rest) ≡ Ok (xs, rest)
    list_complete k kn rest e xs w l h (inl b) = ap (λ z. list_of n item none one k (z ++ rest)) b.1 ∙ (list_end k rest (omega (arith, h)) e ∙ ap (λ z. Ok (z, rest)) (sym b.0))
    list_complete zero kn rest e xs w l h (inr b) = absurd (omega (arith, h))
    list_complete (suc k) kn rest e xs w l h (inr b) =
        let x = b.0 in
        let ys = b.1 in
        let u = b.3.0 in
        let v = b.3.1 in
        let size : length w ≡ length u + length v = ap length b.3.2 ∙ length-append u v in
        let some_item : 0 < length u = item_some x u b.3.3 in
        let ls = both x ys (subst L b.2 l) in
        let shape : w ++ rest ≡ u ++ (v ++ rest) = ap (λ z. z ++ rest) b.3.2 ∙ append_assoc u v rest in
        let view = others_view ys v b.3.4 in
        list_goes k (w ++ rest) (first_at x ys w rest b.3).0
        ∙ (ap (λ z. and_then (item z) (λ x. gap n >>= again k x)) shape
        ∙ (ok_then (item (u ++ (v ++ rest))) x (v ++ rest) _ _ ((complete x ls.0).takes u (v ++ rest) b.3.3 (omega (arith, size, h, kn)) (others_close ys v rest view (ends-closes (kind_of rest) e)))
        (rest_of k x ys v rest e (omega (arith, size, h, kn)) (omega (arith, size, some_item, h)) (omega (arith, kn)) (λ zs z l' h' b'. list_complete k (omega (arith, kn)) rest e zs z l' h' b') ls.1 view)
        ∙ ap (λ z. Ok (z, rest)) (sym b.2)))

    -- behind the first separators
    list_behind : (xs : B) (w rest : List Token) → L xs → length w < n → Ends (kind_of rest) → (x : A) (ys : B) → xs ≡ one x ys → (G x ▸ Others ys) w → list_of n item none one n (w ++ rest) ≡ Ok (xs, rest)
    list_behind xs w rest l h e x ys same g = list_complete n (omega arith) rest e xs w l h (inr (x, ys, same, g))

    body_at : (xs : B) (w rest : List Token) → L xs → length w < n → Ends (kind_of rest) → Gapped Gap G Others none one xs w → body_of n item none one (w ++ rest) ≡ Ok (xs, rest)
    body_at xs w rest l h e (inl a) =
        ok_then (gap n (w ++ rest)) (some w) rest _ _ (gap_complete w rest n a.1 h (ends-no_separator (kind_of rest) e))
        (list_end n rest (omega (arith, h)) e ∙ ap (λ z. Ok (z, rest)) (sym a.0))
    body_at xs w rest l h e (inr a) =
        let g = a.3.0 in
        let v = a.3.1 in
        let size : length w ≡ length g + length v = ap length a.3.2 ∙ length-append g v in
        ap (body_of n item none one) (ap (λ z. z ++ rest) a.3.2 ∙ append_assoc g v rest)
        ∙ ok_then (gap n (g ++ (v ++ rest))) (some g) (v ++ rest) _ _ (gap_complete g (v ++ rest) n a.3.3 (omega (arith, size, h)) (first_at a.0 a.1 v rest a.3.4).1)
        (list_behind xs v rest l (omega (arith, size, h)) e a.0 a.1 a.2 a.3.4)

    tail_at : (xs : B) (w rest : List Token) → L xs → length w < n → Ends (kind_of rest) → Gapped SomeGap G Others none one xs w → tail_of n item none one (w ++ rest) ≡ Ok (xs, rest)
    tail_at xs w rest l h e (inl a) = ok_then (gap n (w ++ rest)) (some w) rest _ _ (gap_complete w rest n a.1 h (ends-no_separator (kind_of rest) e)) (go (some w))
      where
        go : (b : Bool) → cond b (list_of n item none one n) (pure none) rest ≡ Ok (xs, rest)
        go true = list_end n rest (omega (arith, h)) e ∙ ap (λ z. Ok (z, rest)) (sym a.0)
        go false = ap (λ z. Ok (z, rest)) (sym a.0)
    tail_at xs w rest l h e (inr a) =
        let g = a.3.0 in
        let v = a.3.1 in
        let size : length w ≡ length g + length v = ap length a.3.2 ∙ length-append g v in
        let read_gap : gap n (w ++ rest) ≡ Ok (true, v ++ rest) = ap (gap n) (ap (λ z. z ++ rest) a.3.2 ∙ append_assoc g v rest) ∙ (gap_complete g (v ++ rest) n a.3.3.1 (omega (arith, size, h)) (first_at a.0 a.1 v rest a.3.4).1 ∙ ap (λ b. Ok (b, v ++ rest)) (some-true g a.3.3.0)) in
        ok_then (gap n (w ++ rest)) true (v ++ rest) _ _ read_gap (list_behind xs v rest l (omega (arith, size, h)) e a.0 a.1 a.2 a.3.4)

    pub body_complete : (xs : B) → L xs → Takes n (Whole xs) Ends (body_of n item none one) xs
    body_complete xs l = record { takes = λ w rest g h e. body_at xs w rest l h e (whole_view xs w g) }

    pub tail_complete : (xs : B) → L xs → Takes n (Others xs) Ends (tail_of n item none one) xs
    tail_complete xs l = record { takes = λ w rest g h e. tail_at xs w rest l h e (others_view xs w g) }
