-- What is found by a key is what is found by its name.
use Rattle.std.proofs.Common.{◌≡◌, ℕ, suc, ◌+◌, ◌<◌, nat_eq, nat_lt, Bool, true, false, not, ◌||◌, List, [], ◌∷◌, ◌++◌, length, Option, Some, None, is_some, option_map, if◌then◌else◌, refl, sym, ap, ◌∙◌, cond, arith}
use Rattle.std.proofs.lemmas.Bool.Decides.{nat_tests, Decides-eqb}
use Rattle.std.proofs.lemmas.List.{map-append}
use Rattle.std.proofs.lemmas.List.Quantifiers.{position-Some}
use Rattle.std.proofs.lemmas.Slice.Eq.{slice_eq-Decides}
use Rattle.std.specs.Cmp.Lexicographic.{pointwise, nat_list_eq_equiv}
use Rattle.std.specs.HashMap.{HashMap, UpdatesBy}
use Rattle.std.specs.List.{position_or_len, slice_get}
use Rattle.std.specs.Map.{KeepsOthers}
use Rattle.std.specs.Option.{option_or, unwrap_or}
use Rattle.std.specs.declared.vec.Vec.{Vec}
use Rattle.jt_syntax.specs.declared.script.Identifier.{Identifier}
use Rattle.jt_syntax.specs.Bytes.{same_bytes}
use Rattle.jt_names.specs.declared.functions.Signature.{Signature}
use Rattle.jt_names.specs.Lookup.{found, AreFirstsOf, names_of}
use Rattle.jt_names.specs.Names.{Name, is_named, member, index, place_of}
use Rattle.jt_names.specs.Tops.{signature_of, function_index}

-- ---- keys

pub same_name : (n x : Name) → same_bytes n x ≡ true → n ≡ x
same_name n x t = (slice_eq-Decides Decides-eqb n x (same_bytes n x) refl).0 t

-- what is written under a name is found there, and under the others what was there
pub found_written : {Z V S : Type 0} (m w : HashMap (Vec ℕ Z) V S) (n : Name) (v : V) → UpdatesBy (λ a b. pointwise nat_eq a.items b.items) (λ k. pointwise nat_eq n k.items) m w (Some v)
    → (x : Name) → found w.entries x ≡ (if same_bytes n x then Some v else found m.entries x)
unfolding KeepsOthers
found_written m w n v u x = by (same_bytes n x) refl
  where
    by : (b : Bool) → same_bytes n x ≡ b → found w.entries x ≡ cond b (Some v) (found m.entries x)
    by true t = ap (found w.entries) (sym (same_name n x t)) ∙ u.1
    by false t = u.3 (λ k. pointwise nat_eq x k.items) (λ j k h. nat_list_eq_equiv.congr x j.items k.items h)
        (λ k h. nat_list_eq_equiv.symm x k.items ∙ (sym (nat_list_eq_equiv.congr n k.items x h) ∙ t))

-- a name is there from the first time on
pub first_added : {Z S : Type 0} (m w : HashMap (Vec ℕ Z) ℕ S) (k n : Name) (p v : ℕ) → k ≡ n → v ≡ unwrap_or (found m.entries k) p → UpdatesBy (λ a b. pointwise nat_eq a.items b.items) (λ b. pointwise nat_eq k b.items) m w (Some v)
    → (x : Name) → found w.entries x ≡ option_or (found m.entries x) (if same_bytes n x then Some p else None)
first_added m w k n p v e f u x = found_written m w k v u x ∙ (by (same_bytes k x) refl ∙ ap (λ z. option_or (found m.entries x) (cond (same_bytes z x) (Some p) None)) e)
  where
    here : (o : Option ℕ) → v ≡ unwrap_or o p → Some v ≡ option_or o (Some p)
    here None h = ap Some h
    here (Some j) h = ap Some h

    others : (o : Option ℕ) → o ≡ option_or o None
    others None = refl
    others (Some j) = refl

    by : (b : Bool) → same_bytes k x ≡ b → cond b (Some v) (found m.entries x) ≡ option_or (found m.entries x) (cond b (Some p) None)
    by true t = here (found m.entries x) (f ∙ ap (λ z. unwrap_or (found m.entries z) p) (same_name k x t))
    by false t = others (found m.entries x)

-- ---- how many names stand before one

one_more : (n : ℕ) → 1 + n ≡ suc n
one_more n = omega arith

suc_test : (m n : ℕ) → nat_lt (suc m) (suc n) ≡ nat_lt m n
suc_test m n = grind (arith, nat_tests)

zero_test : (n : ℕ) → nat_lt 0 (suc n) ≡ true
zero_test n = grind (arith, nat_tests)

index_cons : (i : Identifier) (is : List Identifier) (x : Name) → index (i ∷ is) x ≡ cond (is_named x i) (Some 0) (option_map suc (index is x))
index_cons i is x = by (is_named x i) (position_or_len (is_named x) is) (length is)
  where
    last : (b : Bool) (m : ℕ) → cond b (Some (1 + m)) None ≡ option_map suc (cond b (Some m) None)
    last true m = ap Some (one_more m)
    last false m = refl

    same_test : (m n : ℕ) → nat_lt (1 + m) (suc n) ≡ nat_lt m n
    same_test m n = ap (λ z. nat_lt z (suc n)) (one_more m) ∙ suc_test m n

    by : (b : Bool) (m n : ℕ) → cond (nat_lt (cond (not b) (1 + m) 0) (suc n)) (Some (cond (not b) (1 + m) 0)) None ≡ cond b (Some 0) (option_map suc (cond (nat_lt m n) (Some m) None))
    by true m n = ap (λ u. cond u (Some 0) None) (zero_test n)
    by false m n = ap (λ u. cond u (Some (1 + m)) None) (same_test m n) ∙ last (nat_lt m n) m

-- a list that has the name has it at an index
abbrev pub Indexed : Bool → Option ℕ → Type 0
Indexed true o = (i : ℕ) × (o ≡ Some i)
Indexed false o = o ≡ None

pub indexed : (is : List Identifier) (x : Name) → Indexed (member is x) (index is x)
indexed [] x = refl
indexed (i ∷ is) x = by (is_named x i) (member is x) (index_cons i is x) (indexed is x)
  where
    by : (b m : Bool) → index (i ∷ is) x ≡ cond b (Some 0) (option_map suc (index is x)) → Indexed m (index is x) → Indexed (b || m) (index (i ∷ is) x)
    by true m e h = (0, e)
    by false true e h = (suc h.0, e ∙ ap (option_map suc) h.1)
    by false false e h = e ∙ ap (option_map suc) h

pub has_index : (is : List Identifier) (x : Name) → is_some (index is x) ≡ member is x
has_index is x = by (member is x) (indexed is x)
  where
    by : (b : Bool) → Indexed b (index is x) → is_some (index is x) ≡ b
    by true h = ap is_some h.1
    by false h = ap is_some h

pub index_below : (is : List Identifier) (x : Name) (n : ℕ) → index is x ≡ Some n → n < length is
index_below is x n e = (position-Some (is_named x) is n (record { name = []; at = 0 }) e).0

next_or : (r s : Option ℕ) → option_map suc (option_or r s) ≡ option_or (option_map suc r) (option_map suc s)
next_or None s = refl
next_or (Some k) s = refl

-- a name behind the others stands first where none of them is the same
index_push : (is : List Identifier) (i : Identifier) (x : Name) → index (is ++ i ∷ []) x ≡ option_or (index is x) (cond (is_named x i) (Some (length is)) None)
index_push [] i x = index_cons i [] x ∙ by (is_named x i)
  where
    by : (b : Bool) → cond b (Some 0) (option_map suc (index [] x)) ≡ option_or (index [] x) (cond b (Some (length {A = Identifier} [])) None)
    by b = refl
index_push (j ∷ is) i x = index_cons j (is ++ i ∷ []) x ∙ (by (is_named x j) (is_named x i) (index_push is i x) ∙ ap (λ r. option_or r (cond (is_named x i) (Some (suc (length is))) None)) (sym (index_cons j is x)))
  where
    by : (b t : Bool) → index (is ++ i ∷ []) x ≡ option_or (index is x) (cond t (Some (length is)) None)
        → cond b (Some 0) (option_map suc (index (is ++ i ∷ []) x)) ≡ option_or (cond b (Some 0) (option_map suc (index is x))) (cond t (Some (suc (length is))) None)
    by true t e = refl
    by false true e = ap (option_map suc) e ∙ next_or (index is x) (Some (length is))
    by false false e = ap (option_map suc) e ∙ next_or (index is x) None

-- k names, and one more behind them
pub more_firsts : {Z : Type 0} (es fs : List (Vec ℕ Z × ℕ)) (is js : List Identifier) (i : Identifier) (n : Name) (k : ℕ) → AreFirstsOf es is → js ≡ is ++ i ∷ [] → n ≡ i.name → k ≡ length is
    → ((x : Name) → found fs x ≡ option_or (found es x) (if same_bytes n x then Some k else None)) → AreFirstsOf fs js
more_firsts es fs is js i n k h j e l p x =
    p x ∙ (ap (λ r. option_or r (cond (same_bytes n x) (Some k) None)) (h x) ∙ (ap (λ z. option_or (index is x) (cond (same_bytes z x) (Some k) None)) e
    ∙ (ap (λ z. option_or (index is x) (cond (is_named x i) (Some z) None)) l ∙ (sym (index_push is i x) ∙ ap (λ z. index z x) (sym j)))))

-- ---- what stands behind so many others

abbrev pub behind : {T : Type 0} → List T → Option ℕ → Option T
behind ts None = None
behind ts (Some k) = slice_get ts k

next_behind : {T : Type 0} (t : T) (ts : List T) (r : Option ℕ) → behind (t ∷ ts) (option_map suc r) ≡ behind ts r
next_behind t ts None = refl
next_behind t ts (Some k) = refl

pub place_found : (is : List Identifier) (x : Name) → option_map (λ (i : Identifier). i.at) (behind is (index is x)) ≡ place_of is x
place_found [] x = refl
place_found (i ∷ is) x = ap (λ r. option_map (λ (i : Identifier). i.at) (behind (i ∷ is) r)) (index_cons i is x) ∙ by (is_named x i) (place_found is x)
  where
    by : (b : Bool) → option_map (λ (i : Identifier). i.at) (behind is (index is x)) ≡ place_of is x
        → option_map (λ (i : Identifier). i.at) (behind (i ∷ is) (cond b (Some 0) (option_map suc (index is x)))) ≡ cond b (Some i.at) (place_of is x)
    by true e = refl
    by false e = ap (option_map (λ (i : Identifier). i.at)) (next_behind i is (index is x)) ∙ e

pub function_found : (fs : List Signature) (x : Name) → index (names_of fs) x ≡ function_index fs x
function_found [] x = refl
function_found (f ∷ fs) x = index_cons f.name (names_of fs) x ∙ ap (λ r. cond (is_named x f.name) (Some 0) (option_map suc r)) (function_found fs x)

pub signature_found : (fs : List Signature) (x : Name) → behind fs (function_index fs x) ≡ signature_of fs x
signature_found [] x = refl
signature_found (f ∷ fs) x = by (is_named x f.name) (signature_found fs x)
  where
    by : (b : Bool) → behind fs (function_index fs x) ≡ signature_of fs x → behind (f ∷ fs) (cond b (Some 0) (option_map suc (function_index fs x))) ≡ cond b (Some f) (signature_of fs x)
    by true e = refl
    by false e = next_behind f fs (function_index fs x) ∙ e

pub names_more : (fs : List Signature) (f : Signature) → names_of (fs ++ f ∷ []) ≡ names_of fs ++ f.name ∷ []
names_more fs f = map-append (λ (g : Signature). g.name) fs (f ∷ [])
