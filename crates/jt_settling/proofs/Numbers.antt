-- The numbers of names that are found, set, cleared and set back.
use Rattle.std.proofs.Common.{◌≡◌, ℕ, nat_eq, Bool, true, false, ◌||◌, List, [], ◌∷◌, map, Option, Some, None, refl, sym, ap, ◌∙◌, if◌then◌else◌, cond, suc, zero, ◌+◌, ◌<◌, length, drop, get_or, drop-cons, arith}
use Rattle.std.specs.Cmp.Lexicographic.{pointwise, bytes_decides, nat_list_eq_equiv}
use Rattle.std.specs.Map.{lookup}
use Rattle.std.specs.declared.vec.Vec.{Vec}
use Rattle.indexmap.specs.IndexMap.{insert_entry}
use Rattle.jt_syntax.specs.declared.script.Identifier.{Identifier}
use Rattle.jt_names.specs.Names.{Name, is_named, member}
use Rattle.jt_settling.specs.Counting.{number, with_number, cleared, restored, first_number, later_numbers}
use Rattle.jt_scopes.proofs.Members.{named_same}

-- ---- numbers with keys

abbrev pub or_none : Option ℕ → ℕ
or_none None = 0
or_none (Some n) = n

pub number_found : {Z : Type 0} (es : List (Vec ℕ Z × ℕ)) (x : Name) → number (map (λ e. (e.0.items, e.1)) es) x ≡ or_none (lookup (λ k. pointwise nat_eq x k.items) es)
number_found [] x = refl
number_found (e ∷ es) x = step (pointwise nat_eq x e.0.items) (number_found es x)
  where
    step : (b : Bool) → number (map (λ e. (e.0.items, e.1)) es) x ≡ or_none (lookup (λ k. pointwise nat_eq x k.items) es)
        → (if b then e.1 else number (map (λ e. (e.0.items, e.1)) es) x) ≡ or_none (cond b (Some e.1) (lookup (λ k. pointwise nat_eq x k.items) es))
    step true h = refl
    step false h = h

put_under : {Z : Type 0} (es : List (Vec ℕ Z × ℕ)) (k : Vec ℕ Z) (i : Identifier) (v : ℕ) → k.items ≡ i.name
    → map (λ e. (e.0.items, e.1)) (insert_entry (λ a b. pointwise nat_eq a.items b.items) es k v) ≡ with_number (map (λ e. (e.0.items, e.1)) es) i v
put_under [] k i v h = ap (λ z. (z, v) ∷ []) h
put_under (e ∷ es) k i v h = step (pointwise nat_eq k.items e.0.items) (put_under es k i v h)
    ∙ ap (λ z. if pointwise nat_eq z e.0.items then (e.0.items, v) ∷ map (λ e. (e.0.items, e.1)) es else (e.0.items, e.1) ∷ with_number (map (λ e. (e.0.items, e.1)) es) i v) h
  where
    step : (b : Bool) → map (λ e. (e.0.items, e.1)) (insert_entry (λ a b. pointwise nat_eq a.items b.items) es k v) ≡ with_number (map (λ e. (e.0.items, e.1)) es) i v
        → map (λ e. (e.0.items, e.1)) (cond b ((e.0, v) ∷ es) (e ∷ insert_entry (λ a b. pointwise nat_eq a.items b.items) es k v))
        ≡ (if b then (e.0.items, v) ∷ map (λ e. (e.0.items, e.1)) es else (e.0.items, e.1) ∷ with_number (map (λ e. (e.0.items, e.1)) es) i v)
    step true r = refl
    step false r = ap (λ z. (e.0.items, e.1) ∷ z) r

-- a number put under a key
pub number_put : {Z : Type 0} (es news : List (Vec ℕ Z × ℕ)) (k : Vec ℕ Z) (i : Identifier) (v : ℕ) → k.items ≡ i.name → news ≡ insert_entry (λ a b. pointwise nat_eq a.items b.items) es k v
    → map (λ e. (e.0.items, e.1)) news ≡ with_number (map (λ e. (e.0.items, e.1)) es) i v
number_put es news k i v h n = ap (map (λ e. (e.0.items, e.1))) n ∙ put_under es k i v h

-- ---- numbers of names

same_test : (x : Name) (i : Identifier) → pointwise nat_eq x i.name ≡ is_named x i
same_test x i = nat_list_eq_equiv.symm x i.name

pub number_with : (es : List (Name × ℕ)) (i : Identifier) (v : ℕ) (x : Name) → number (with_number es i v) x ≡ (if is_named x i then v else number es x)
number_with [] i v x = ap (λ z. if z then v else 0) (same_test x i)
number_with (e ∷ es) i v x = step (pointwise nat_eq i.name e.0) refl (is_named x i) refl (pointwise nat_eq x e.0) refl (number_with es i v x)
  where
    step : (b : Bool) → pointwise nat_eq i.name e.0 ≡ b → (t : Bool) → is_named x i ≡ t → (u : Bool) → pointwise nat_eq x e.0 ≡ u
        → number (with_number es i v) x ≡ (if is_named x i then v else number es x)
        → number (if b then (e.0, v) ∷ es else e ∷ with_number es i v) x ≡ (if t then v else (if u then e.1 else number es x))
    step true p t q u r h = both t u (sym q ∙ (sym (same_test x i) ∙ (ap (pointwise nat_eq x) ((bytes_decides i.name e.0).0 p) ∙ r))) r
      where
        both : (t u : Bool) → t ≡ u → pointwise nat_eq x e.0 ≡ u → (if pointwise nat_eq x e.0 then v else number es x) ≡ (if t then v else (if u then e.1 else number es x))
        both true true p r = ap (λ z. if z then v else number es x) r
        both false false p r = ap (λ z. if z then v else number es x) r
        both true false p r = absurd (cc)
        both false true p r = absurd (cc)
    step false p true q true r h = absurd (let same : i.name ≡ e.0 = sym (named_same x i q) ∙ (bytes_decides x e.0).0 r in
        let yes : pointwise nat_eq i.name e.0 ≡ true = (bytes_decides i.name e.0).1 same in cc)
    step false p true q false r h = ap (λ z. if z then e.1 else number (with_number es i v) x) r ∙ (h ∙ ap (λ z. if z then v else number es x) q)
    step false p false q true r h = ap (λ z. if z then e.1 else number (with_number es i v) x) r
    step false p false q false r h = ap (λ z. if z then e.1 else number (with_number es i v) x) r ∙ (h ∙ ap (λ z. if z then v else number es x) q)

pub cleared_at : (c : List (Name × ℕ)) (is : List Identifier) (x : Name) → number (cleared c is) x ≡ (if member is x then 0 else number c x)
cleared_at c [] x = refl
cleared_at c (i ∷ is) x = cleared_at (with_number c i 0) is x ∙ (ap (λ z. if member is x then 0 else z) (number_with c i 0 x) ∙ step (is_named x i) (member is x))
  where
    step : (a b : Bool) → (if b then 0 else (if a then 0 else number c x)) ≡ (if (a || b) then 0 else number c x)
    step true true = refl
    step true false = refl
    step false b = refl

pub restored_at : (c : List (Name × ℕ)) (d : Name → ℕ) (is : List Identifier) (x : Name) → number (restored c is (map (λ (i : Identifier). d i.name) is)) x ≡ (if member is x then d x else number c x)
restored_at c d [] x = refl
restored_at c d (i ∷ is) x = restored_at (with_number c i (d i.name)) d is x
    ∙ (ap (λ z. if member is x then d x else z) (number_with c i (d i.name) x) ∙ step (is_named x i) refl (member is x))
  where
    step : (a : Bool) → is_named x i ≡ a → (b : Bool) → (if b then d x else (if a then d i.name else number c x)) ≡ (if (a || b) then d x else number c x)
    step true e true = refl
    step true e false = ap d (sym (named_same x i e))
    step false e b = refl

-- ---- one name after the other

later_suc : (ns : List ℕ) (k : ℕ) → drop (suc k) ns ≡ later_numbers (drop k ns)
later_suc [] zero = refl
later_suc [] (suc k) = refl
later_suc (n ∷ ns) zero = refl
later_suc (n ∷ ns) (suc k) = later_suc ns k

pub restored_step : (c : List (Name × ℕ)) (is : List Identifier) (ns : List ℕ) (k : ℕ) (i : Identifier) → i ≡ get_or is k i → k < length is
    → restored (with_number c i (first_number (drop k ns))) (drop (k + 1) is) (drop (k + 1) ns) ≡ restored c (drop k is) (drop k ns)
restored_step c is ns k i e h =
    let one : k + 1 ≡ suc k = omega arith in
    let whole : drop k is ≡ i ∷ drop (suc k) is = drop-cons is k i h ∙ ap (λ z. z ∷ drop (suc k) is) (sym e) in
    ap (λ z. restored (with_number c i (first_number (drop k ns))) (drop z is) (drop z ns)) one
    ∙ (ap (λ z. restored (with_number c i (first_number (drop k ns))) (drop (suc k) is) z) (later_suc ns k) ∙ sym (ap (λ z. restored c z (drop k ns)) whole))
