-- What is known of any kind of job gives the laws of its worlds.
use Rattle.std.proofs.Common.{◌≡◌, ℕ, List, [], ◌∷◌, ◌++◌, Option, Some, None, true, false, refl, sym, ap, ◌∙◌}
use Rattle.std.proofs.lemmas.Bool.{false≢true}
use Rattle.jt_base.specs.declared.operation.Op.{Op}
use Rattle.jt_base.specs.declared.operation.Op.TheVariants.{Begin, Spawn}
use Rattle.jt_base.specs.declared.operation.Reply.{Reply}
use Rattle.jt_base.specs.Coming.{Next, Needs, Spawns, Over, op_of, is_spawn, spawned_by, SpawnsChild}
use Rattle.jt_laws.specs.Entries.{spawns}
use Rattle.jt_laws.specs.Histories.{World}
use Rattle.jt_laws.proofs.Paths.{same_itself, same_equal}
use Rattle.jt_histories.specs.Kept.{Laws, made_path}

is_spawn_of : (op : Op) (child : List ℕ) → spawns op child ≡ true → is_spawn op ≡ true
is_spawn_of (Spawn path how) child e = refl
is_spawn_of op child e = absurd (false≢true e)

not_spawn : (op : Op) → is_spawn op ≡ false → (child : List ℕ) → spawns op child ≡ false
not_spawn (Spawn path how) n child = absurd (cc)
not_spawn op n child = refl

module _ (S : Type 0) (w : World S)
    (begins : (path : List ℕ) (start : S) (n : Next S) → w.next path start [] ≡ Some n → n ≡ Needs Begin)
    (no_spawn : (path : List ℕ) (start : S) (rs : List Reply) (op : Op) → w.next path start rs ≡ Some (Needs op) → is_spawn op ≡ false)
    (names : (path : List ℕ) (start : S) (rs : List Reply) (op : Op) (t : S) → w.next path start rs ≡ Some (Spawns op t) → SpawnsChild path (spawned_by (w.next path start) rs) op) where
  first : (path : List ℕ) (start : S) (op : Op) (next : Option (Next S)) → w.next path start [] ≡ next → op_of next ≡ Some op → op ≡ Begin
  first path start op None e o = absurd (cc)
  first path start op (Some (Needs p)) e o = let q = begins path start (Needs p) e in cc
  first path start op (Some (Spawns p t)) e o = absurd (let q = begins path start (Spawns p t) e in cc)
  first path start op (Some Over) e o = absurd (cc)

  named : (path : List ℕ) (start : S) (rs : List Reply) (op : Op) (child : List ℕ) (next : Option (Next S)) → w.next path start rs ≡ next → op_of next ≡ Some op → spawns op child ≡ true → (k : ℕ) × (child ≡ path ++ k ∷ [])
  named path start rs op child None e o s = absurd (cc)
  named path start rs op child (Some (Needs p)) e o s =
      let q : p ≡ op = cc in
      absurd (false≢true (sym (not_spawn p (no_spawn path start rs p e) child) ∙ ap (λ x. spawns x child) q ∙ s))
  named path start rs op child (Some (Spawns p t)) e o s =
      let q : p ≡ op = cc in
      let n = names path start rs p t e in
      let k : ℕ = spawned_by (w.next path start) rs in
      (k, sym (same_equal (path ++ k ∷ []) child (ap (λ x. spawns x child) (sym n.1 ∙ q) ∙ s)))
  named path start rs op child (Some Over) e o s = absurd (cc)

  pub laws_of : Laws S w
  laws_of = record {
    begins = λ path start op e. first path start op (w.next path start []) refl e;
    names = λ path start rs op child e s. named path start rs op child (w.next path start rs) refl e s;
    makes = λ path start rs op t e.
        let n = names path start rs op t e in
        let k : ℕ = spawned_by (w.next path start) rs in
        ap (λ x. spawns x (made_path x)) n.1 ∙ same_itself (path ++ k ∷ []);
    no_spawn = λ path start rs op e child. not_spawn op (no_spawn path start rs op e) child;
  }
