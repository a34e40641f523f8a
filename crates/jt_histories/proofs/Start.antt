-- At the beginning: sixteen empty logs, and main's job.
use Rattle.std.proofs.Common.{◌≡◌, ℕ, zero, suc, List, [], ◌∷◌, None, inl, refl, sym, ap, subst, get_or, replicate}
use Rattle.std.proofs.lemmas.List.{length-replicate}
use Rattle.jt_base.specs.declared.entry.Entry.{Entry}
use Rattle.jt_laws.specs.Histories.{World}
use Rattle.jt_histories.specs.Merges.{IsMerge}
use Rattle.jt_base.specs.Jobs.{Held}
use Rattle.jt_histories.specs.Jobs.{Belongs, Holds, main_job}
use Rattle.jt_histories.proofs.Lists.{or_else}

none_at : (n k : ℕ) → (e : List Entry) → e ≡ [] → [] ≡ get_or (replicate n e) k []
none_at zero k e p = refl
none_at (suc n) zero e p = sym p
none_at (suc n) (suc k) e p = none_at n k e p

pub start_merged : IsMerge (replicate 16 []) []
start_merged = record { ordered = tt; logged = λ k. none_at 16 k [] refl }

pub holds_start : (S : Type 0) (w : World S) → Holds S w (replicate 16 []) (main_job S w ∷ [])
holds_start S w = record {
  history = [];
  sixteen = (let empty : List Entry = [] in length-replicate 16 empty);
  merged = start_merged;
  legal = record { legal = tt; stamped = tt; ordered = tt };
  belong = λ j h. or_else h
      (λ p. subst (Belongs S w []) p (record { birth = record { start = w.main; maker = None }; born = refl; started = refl; seated = refl; noted = refl }))
      (λ z. absurd z);
  one_path = ((λ k h. absurd h), tt);
  live = λ p v. (main_job S w, inl refl, or_else v.made (λ q. sym q) (λ x. absurd x.1));
  only_live = λ j h. or_else h
      (λ p. record { made = inl (sym (ap (λ (z : Held S). z.path) p)); goes_on = λ x i t. absurd i })
      (λ z. absurd z);
}
