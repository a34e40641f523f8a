-- The map of the entries of a hash map with paths as keys.
use Rattle.std.proofs.Common.{◌≡◌, ℕ, List, [], ◌∷◌, Some, None, Bool, true, false, refl, sym, ap, subst, ◌∙◌, cond}
use Rattle.std.specs.Prelude.{nat_eq, IfSome}
use Rattle.std.specs.Ordering.{nat_cmp, eq_by_cmp}
use Rattle.std.specs.Map.{lookup}
use Rattle.std.specs.FinMap as map
use Rattle.std.specs.FinMap.{FinMap, from_entries, get-from_entries, get-insert, get-remove, same_map, nat_cmp-IsAntisymmetric, slice_cmp-IsAntisymmetric}
use Rattle.std.specs.FinMap.Entries.{find}
use Rattle.std.specs.Cmp.Lexicographic.{pointwise, slice_cmp, texts_ties, nat_list_eq_equiv, nat_list_cmp_total}
use Rattle.jt_laws.specs.Entries.{same_path}
use Rattle.jt_conditions.proofs.Holders.{pointwise_same}

abbrev pub by_path : List ℕ → List ℕ → Bool
by_path p q = pointwise nat_eq p q

pub found : {X : Type 0} (q : List ℕ) (es : List (List ℕ × X)) → find (slice_cmp nat_cmp) q es ≡ lookup (by_path q) es
found q [] = refl
found q (e ∷ es) =
    ap (λ o. cond (eq_by_cmp (slice_cmp nat_cmp) q e.0) (Some e.1) o) (found q es) ∙ ap (λ b. cond b (Some e.1) (lookup (by_path q) es)) (sym (texts_ties q e.0))

-- what the map of the entries has at a path
pub get_entries : {X : Type 0} (q : List ℕ) (es : List (List ℕ × X)) → map.get (from_entries {R = slice_cmp nat_cmp} es) q ≡ lookup (by_path q) es
get_entries q es = get-from_entries nat_list_cmp_total es q ∙ found q es

pub equal_maps : {X : Type 0} (m n : FinMap (slice_cmp nat_cmp) X) → ((q : List ℕ) → map.get m q ≡ map.get n q) → m ≡ n
equal_maps m n f = same_map nat_list_cmp_total (slice_cmp-IsAntisymmetric nat_cmp-IsAntisymmetric) m n f

turned : (p q : List ℕ) → by_path p q ≡ eq_by_cmp (slice_cmp nat_cmp) q p
turned p q = nat_list_eq_equiv.symm p q ∙ texts_ties q p

-- after an insert and after a removal
pub inserted : {X : Type 0} (old new : List (List ℕ × X)) (k : List ℕ) (v : X) → ((q : List ℕ) → lookup (by_path q) new ≡ cond (by_path k q) (Some v) (lookup (by_path q) old)) → from_entries {R = slice_cmp nat_cmp} new ≡ map.insert (from_entries old) k v
inserted old new k v f =
    equal_maps _ _ (λ q.
    get_entries q new ∙ f q ∙ ap (λ b. cond b (Some v) (lookup (by_path q) old)) (turned k q) ∙ ap (cond (eq_by_cmp (slice_cmp nat_cmp) q k) (Some v)) (sym (get_entries q old)) ∙ sym (get-insert nat_list_cmp_total (from_entries old) k v q))

pub removed : {X : Type 0} (old new : List (List ℕ × X)) (k : List ℕ) → ((q : List ℕ) → lookup (by_path q) new ≡ cond (by_path k q) None (lookup (by_path q) old)) → from_entries {R = slice_cmp nat_cmp} new ≡ map.remove (from_entries old) k
removed old new k f =
    equal_maps _ _ (λ q.
    get_entries q new ∙ f q ∙ ap (λ b. cond b None (lookup (by_path q) old)) (turned k q) ∙ ap (cond (eq_by_cmp (slice_cmp nat_cmp) q k) None) (sym (get_entries q old)) ∙ sym (get-remove nat_list_cmp_total (from_entries old) k q))

pub reordered : {X : Type 0} (old new : List (List ℕ × X)) → ((q : List ℕ) → lookup (by_path q) new ≡ lookup (by_path q) old) → from_entries {R = slice_cmp nat_cmp} new ≡ from_entries old
reordered old new f = equal_maps _ _ (λ q. get_entries q new ∙ f q ∙ sym (get_entries q old))

-- a map with one more entry, or one less
pub get_put : {X : Type 0} (m : FinMap (slice_cmp nat_cmp) X) (k : List ℕ) (v : X) (q : List ℕ) → map.get (map.insert m k v) q ≡ cond (same_path k q) (Some v) (map.get m q)
get_put m k v q =
    get-insert nat_list_cmp_total m k v q ∙ ap (λ b. cond b (Some v) (map.get m q)) (sym (turned k q) ∙ pointwise_same k q)

pub get_less : {X : Type 0} (m : FinMap (slice_cmp nat_cmp) X) (k q : List ℕ) → map.get (map.remove m k) q ≡ cond (same_path k q) None (map.get m q)
get_less m k q =
    get-remove nat_list_cmp_total m k q ∙ ap (λ b. cond b None (map.get m q)) (sym (turned k q) ∙ pointwise_same k q)

-- what holds of all that is there holds after an insert of another such value, and after a removal
pub all_inserted : {X : Type 0} (P : X → Type 0) (old new : List (List ℕ × X)) (k : List ℕ) (v : X) → ((q : List ℕ) → lookup (by_path q) new ≡ cond (by_path k q) (Some v) (lookup (by_path q) old)) → ((q : List ℕ) → IfSome (lookup (by_path q) old) P) → P v → (q : List ℕ) → IfSome (lookup (by_path q) new) P
all_inserted P old new k v f all here q =
    subst (λ o. IfSome o P) (sym (f q)) (elim (by_path k q) as (λ b. IfSome (cond b (Some v) (lookup (by_path q) old)) P) [
      | true ↦ here
      | false ↦ all q
    ])

pub all_removed : {X : Type 0} (P : X → Type 0) (old new : List (List ℕ × X)) (k : List ℕ) → ((q : List ℕ) → lookup (by_path q) new ≡ cond (by_path k q) None (lookup (by_path q) old)) → ((q : List ℕ) → IfSome (lookup (by_path q) old) P) → (q : List ℕ) → IfSome (lookup (by_path q) new) P
all_removed P old new k f all q =
    subst (λ o. IfSome o P) (sym (f q)) (elim (by_path k q) as (λ b. IfSome (cond b None (lookup (by_path q) old)) P) [
      | true ↦ tt
      | false ↦ all q
    ])
