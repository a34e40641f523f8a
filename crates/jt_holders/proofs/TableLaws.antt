-- What a write to the table changes.
use Rattle.std.proofs.Common.{◌≡◌, ℕ, ◌+◌, ◌<◌, nat_eq, Bool, true, false, List, [], ◌∷◌, ◌++◌, length, reverse, get_or, take, Option, Some, None, Result, Ok, Err, OnOk, OnErr, if◌then◌else◌, refl, sym, ap, ◌∙◌, cond}
use Rattle.std.proofs.lemmas.List.{take_more, reverse-append}
use Rattle.std.specs.Cmp.Lexicographic.{pointwise}
use Rattle.std.specs.HashMap.{HashMap, UpdatesBy}
use Rattle.std.specs.Option.{unwrap_or, MatchOption}
use Rattle.std.specs.declared.vec.Vec.{Vec}
use Rattle.jt_syntax.specs.declared.script.Identifier.{Identifier}
use Rattle.jt_syntax.specs.Bytes.{same_bytes}
use Rattle.jt_names.specs.Lookup.{found}
use Rattle.jt_names.specs.Names.{Name, is_named}
use Rattle.jt_holders.specs.Table.{depths_in, pushed, popped, taken}
use Rattle.jt_names.proofs.Lookup.{same_name, found_written}

-- ---- one name

module _ {Z S : Type 0} (m w : HashMap (Vec ℕ Z) (List ℕ) S) (n : Name) (i : Identifier) (same : n ≡ i.name) where
  -- w is m with these depths of the name
  abbrev pub Puts : List ℕ → Type 0
  Puts ds = UpdatesBy (λ a b. pointwise nat_eq a.items b.items) (λ k. pointwise nat_eq n k.items) m w (Some ds)

  -- the depths of this name
  own : (x : Name) → is_named x i ≡ true → depths_in m.entries n ≡ depths_in m.entries x
  own x t = ap (depths_in m.entries) (same ∙ same_name i.name x t)

  read_put : (ds : List ℕ) → Puts ds → (x : Name) → depths_in w.entries x ≡ (if is_named x i then reverse ds else depths_in m.entries x)
  read_put ds u x = ap (λ z. reverse (unwrap_or z [])) (found_written m w n ds u x) ∙ (by (same_bytes n x) ∙ ap (λ z. cond (same_bytes z x) (reverse ds) (depths_in m.entries x)) same)
    where
      by : (b : Bool) → reverse (unwrap_or (cond b (Some ds) (found m.entries x)) []) ≡ cond b (reverse ds) (depths_in m.entries x)
      by true = refl
      by false = refl

  pub put_more : (ds es : List ℕ) (d : ℕ) → ds ≡ unwrap_or (found m.entries n) [] → es ≡ ds ++ d ∷ [] → Puts es → (x : Name) → depths_in w.entries x ≡ pushed (i ∷ []) d (depths_in m.entries x) x
  put_more ds es d e f u x = read_put es u x ∙ by (is_named x i) refl
    where
      by : (b : Bool) → is_named x i ≡ b → cond b (reverse es) (depths_in m.entries x) ≡ cond b (d ∷ depths_in m.entries x) (depths_in m.entries x)
      by true t = ap reverse f ∙ (reverse-append ds (d ∷ []) ∙ ap (λ z. d ∷ z) (ap reverse e ∙ own x t))
      by false t = refl

  pub put_same : (ds es : List ℕ) → ds ≡ unwrap_or (found m.entries n) [] → es ≡ ds → Puts es → (x : Name) → depths_in w.entries x ≡ depths_in m.entries x
  put_same ds es e f u x = read_put es u x ∙ by (is_named x i) refl
    where
      by : (b : Bool) → is_named x i ≡ b → cond b (reverse es) (depths_in m.entries x) ≡ depths_in m.entries x
      by true t = ap reverse (f ∙ e) ∙ own x t
      by false t = refl

  pub take_one : (ds es : List ℕ) (r : Option ℕ) → Some ds ≡ found m.entries n → MatchOption r ((ds ≡ []) × (es ≡ [])) (λ d. ds ≡ es ++ d ∷ []) → Puts es → (x : Name) → depths_in w.entries x ≡ taken (i ∷ []) (depths_in m.entries x) x
  take_one ds es r e f u x = read_put es u x ∙ by (is_named x i) refl
    where
      fewer : (r : Option ℕ) → MatchOption r ((ds ≡ []) × (es ≡ [])) (λ d. ds ≡ es ++ d ∷ []) → reverse es ≡ popped (reverse ds)
      fewer None f = ap reverse f.1 ∙ sym (ap (λ z. popped (reverse z)) f.0)
      fewer (Some d) f = sym (ap popped (ap reverse f ∙ reverse-append es (d ∷ [])))

      by : (b : Bool) → is_named x i ≡ b → cond b (reverse es) (depths_in m.entries x) ≡ cond b (popped (depths_in m.entries x)) (depths_in m.entries x)
      by true t = fewer r f ∙ ap popped (ap (λ z. reverse (unwrap_or z [])) e ∙ own x t)
      by false t = refl

-- ---- all names of a list

pub pushed_more : (is : List Identifier) (i : Identifier) (d : ℕ) (ds : List ℕ) (x : Name) → pushed (is ++ i ∷ []) d ds x ≡ pushed (i ∷ []) d (pushed is d ds x) x
pushed_more [] i d ds x = refl
pushed_more (j ∷ is) i d ds x = by (is_named x j) (is_named x i) (pushed_more is i d ds x)
  where
    by : (b t : Bool) → pushed (is ++ i ∷ []) d ds x ≡ cond t (d ∷ pushed is d ds x) (pushed is d ds x)
        → cond b (d ∷ pushed (is ++ i ∷ []) d ds x) (pushed (is ++ i ∷ []) d ds x) ≡ cond t (d ∷ cond b (d ∷ pushed is d ds x) (pushed is d ds x)) (cond b (d ∷ pushed is d ds x) (pushed is d ds x))
    by true true e = ap (λ z. d ∷ z) e
    by true false e = ap (λ z. d ∷ z) e
    by false true e = e
    by false false e = e

-- one more name of the list
pub pushed_next : (is : List Identifier) (k d : ℕ) (i : Identifier) (ds new old : List ℕ) (x : Name) → k < length is → get_or is k i ≡ i → new ≡ pushed (i ∷ []) d old x → old ≡ pushed (take k is) d ds x → new ≡ pushed (take (k + 1) is) d ds x
pushed_next is k d i ds new old x h at e f =
    e ∙ (ap (λ z. pushed (i ∷ []) d z x) f ∙ (sym (pushed_more (take k is) i d ds x) ∙ ap (λ z. pushed z d ds x) (sym (take_more is k i h ∙ ap (λ z. take k is ++ z ∷ []) at))))

-- what was put is taken again
pub taken_pushed : (is : List Identifier) (d : ℕ) (ds : List ℕ) (x : Name) → taken is (pushed is d ds x) x ≡ ds
taken_pushed [] d ds x = refl
taken_pushed (i ∷ is) d ds x = by (is_named x i) (taken_pushed is d ds x)
  where
    by : (b : Bool) → taken is (pushed is d ds x) x ≡ ds → taken is (cond b (popped (cond b (d ∷ pushed is d ds x) (pushed is d ds x))) (cond b (d ∷ pushed is d ds x) (pushed is d ds x))) x ≡ ds
    by true e = e
    by false e = e

pub taken_back : (is : List Identifier) (d : ℕ) (ds old new last : List ℕ) (x : Name) → old ≡ pushed is d ds x → last ≡ old → new ≡ taken is last x → new ≡ ds
taken_back is d ds old new last x e f g = g ∙ (ap (λ z. taken is z x) (f ∙ e) ∙ taken_pushed is d ds x)

-- ---- answers

pub on_ok : {A E : Type 0} (r : Result A E) (P Q : Type 0) → (P → Q) → OnOk r P → OnOk r Q
on_ok (Ok v) P Q f p = f p
on_ok (Err v) P Q f p = p

pub on_err : {A E : Type 0} (r : Result A E) (P Q : Type 0) → (P → Q) → OnErr r P → OnErr r Q
on_err (Ok v) P Q f p = p
on_err (Err v) P Q f p = f p
