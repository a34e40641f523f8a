-- What is left to do falls.
use Rattle.std.proofs.Common.{◌≡◌, ℕ, ◌+◌, ◌-◌, ◌*◌, ◌<◌, ◌≤◌, ◌⊎◌, inl, inr, List, ◌∷◌, ◌++◌, refl, sym, subst, arith, length}
use Rattle.std.specs.List.Sorted.{IsPermutation}
use Rattle.std.proofs.Math.Nat.{mul-le-mul_left}
use Rattle.std.proofs.lemmas.List.{length-append}
use Rattle.std.proofs.lemmas.List.Sorted.{IsPermutation-append_left, length_permutation}
use Rattle.jt_base.specs.declared.run.Seeds.{Seeds}
use Rattle.jt_shard.specs.Shards.{ShardState}
use Rattle.jt_meaning.specs.Run.{Run}
use Rattle.jt_step.specs.Tasks.{Task}
use Rattle.jt_machine.specs.declared.progress.Progress.{Progress}
use Rattle.jt_machine.specs.declared.progress.Progress.TheVariants as progress
use Rattle.jt_machine.specs.Machines.{waiting_in, AreSettled, Runs, Falls, Grows, stamps_left, jobs_in}
use Rattle.jt_machine.specs.Advancing.{Leaves, CarriesOn}
use Rattle.jt_machine.proofs.Following.{runs_permuted}

falls_further : (a : List (ShardState Task)) (xs : List Task) (l : ℕ) (b : List (ShardState Task)) (ys : List Task) (m : ℕ) (c : List (ShardState Task)) (zs : List Task) (n : ℕ) → Falls a xs l b ys m → Falls b ys m c zs n → Falls a xs l c zs n
falls_further a xs l b ys m c zs n f g = record { total = (let x = f.total in let y = g.total in omega (arith, x, y)); fewer = either f.fewer g.fewer }
  where
    either : (stamps_left b < stamps_left a) ⊎ ((stamps_left b ≡ stamps_left a) × (m ≤ l)) → (stamps_left c < stamps_left b) ⊎ ((stamps_left c ≡ stamps_left b) × (n ≤ m)) → (stamps_left c < stamps_left a) ⊎ ((stamps_left c ≡ stamps_left a) × (n ≤ l))
    either (inl x) (inl y) = inl (omega (arith, x, y))
    either (inl x) (inr y) = let z = y.0 in inl (omega (arith, x, z))
    either (inr x) (inl y) = let z = x.0 in inl (omega (arith, y, z))
    either (inr x) (inr y) = let z = x.0 in let v = y.0 in let w = x.1 in let u = y.1 in inr (omega (arith, z, v), omega (arith, w, u))

-- ---- one slice

module _ (run : Run) (seeds : Seeds) (shards0 : List (ShardState Task)) (ready0 : List Task) (job0 : Task) where
  pub slice_begins : Runs run seeds shards0 (job0 ∷ ready0) → AreSettled shards0 → Leaves run seeds shards0 ready0 job0 shards0 (job0 ∷ ready0) (length ready0)
  slice_begins r s = record { runs = r; settled = s; grows = λ l g. g; falls = record { total = omega arith; fewer = inr (refl, omega arith) } }

  module _ (shards : List (ShardState Task)) (ready : List Task) (job : Task) (sofar : Leaves run seeds shards0 ready0 job0 shards (job ∷ ready) (length ready)) where
    pub slice_goes_on : (job' : Task) (shards' : List (ShardState Task)) (ready' : List Task) → CarriesOn run seeds shards ready job (progress.GoesOn job') shards' ready' → Leaves run seeds shards0 ready0 job0 shards' (job' ∷ ready') (length ready')
    slice_goes_on job' shards' ready' t = record {
      runs = t.0.runs;
      settled = t.0.settled;
      grows = λ l g. t.0.grows l (sofar.grows l g);
      falls = falls_further shards0 (job0 ∷ ready0) (length ready0) shards (job ∷ ready) (length ready) shards' (job' ∷ ready') (length ready') sofar.falls t.0.falls;
    }

    pub slice_is_over : (shards' : List (ShardState Task)) (ready' : List Task) → CarriesOn run seeds shards ready job progress.Left shards' ready' → Leaves run seeds shards0 ready0 job0 shards' ready' (length ready')
    slice_is_over shards' ready' t = record {
      runs = t.runs;
      settled = t.settled;
      grows = λ l g. t.grows l (sofar.grows l g);
      falls = falls_further shards0 (job0 ∷ ready0) (length ready0) shards (job ∷ ready) (length ready) shards' ready' (length ready') sofar.falls t.falls;
    }

-- stamps, and for each all turns; and the turns that are left
pub slice_smaller : (limit s s' t t' : ℕ) → (s' < s) ⊎ ((s' ≡ s) × (limit - t' < limit - t)) → s' * (limit + 1) + (limit - t') < s * (limit + 1) + (limit - t)
slice_smaller limit s s' t t' (inl h) =
    let next : s' + 1 ≤ s = omega (arith, h) in
    let more : (limit + 1) * (s' + 1) ≤ (limit + 1) * s = mul-le-mul_left (limit + 1) next in omega (arith, more)
slice_smaller limit s s' t t' (inr h) =
    let same : (limit + 1) * s' ≤ (limit + 1) * s = mul-le-mul_left (limit + 1) (let e = h.0 in omega (arith, e)) in
    let less = h.1 in omega (arith, same, less)

-- ---- all slices

run_falls : (s t r s' t' r' r1 : ℕ) → s' + t' ≤ s + t → r' ≤ t' → r ≡ r1 + 1 → (s' < s) ⊎ ((s' ≡ s) × (r' ≤ r1)) → s' * (s' + t' + 1) + r' < s * (s + t + 1) + r
run_falls s t r s' t' r' r1 total within one (inl h) =
    let most : s' * (s' + t' + 1) ≤ s' * (s + t + 1) = mul-le-mul_left s' (omega (arith, total)) in
    let next : s' + 1 ≤ s = omega (arith, h) in
    let more : (s + t + 1) * (s' + 1) ≤ (s + t + 1) * s = mul-le-mul_left (s + t + 1) next in
    omega (arith, most, more, total, within)
run_falls s t r s' t' r' r1 total within one (inr h) =
    let most : s' * (s' + t' + 1) ≤ s' * (s + t + 1) = mul-le-mul_left s' (omega (arith, total)) in
    let same : (s + t + 1) * s' ≤ (s + t + 1) * s = mul-le-mul_left (s + t + 1) (let e = h.0 in omega (arith, e)) in
    let less = h.1 in
    omega (arith, most, same, less, one)

abbrev pub work_left : List (ShardState Task) → List Task → ℕ
work_left shards ready = stamps_left shards * (stamps_left shards + jobs_in shards ready + 1) + length ready

module _ (run : Run) (seeds : Seeds) (shards : List (ShardState Task)) (ready : List Task) (job : Task) (ready1 : List Task) (picked : IsPermutation ready (job ∷ ready1)) where
  pub picked_runs : Runs run seeds shards ready → Runs run seeds shards (job ∷ ready1)
  picked_runs r = runs_permuted run seeds shards ready (job ∷ ready1) picked r

  pub work_falls : (shards' : List (ShardState Task)) (ready' : List Task) → Leaves run seeds shards ready1 job shards' ready' (length ready') → work_left shards' ready' < work_left shards ready
  work_falls shards' ready' l =
      let one = length_permutation ready (job ∷ ready1) picked in
      let all = length_permutation (ready ++ waiting_in shards) ((job ∷ ready1) ++ waiting_in shards) (IsPermutation-append_left (waiting_in shards) ready (job ∷ ready1) picked) in
      let within = length-append ready' (waiting_in shards') in
      let total = l.falls.total in
      run_falls (stamps_left shards) (jobs_in shards ready) (length ready) (stamps_left shards') (jobs_in shards' ready') (length ready') (length ready1)
      (omega (arith, total, all)) (omega (arith, within)) (omega (arith, one)) l.falls.fewer

-- ---- as the code finds it

-- a step by its answer
pub progress_at : (run : Run) (seeds : Seeds) (shards : List (ShardState Task)) (ready : List Task) (job : Task) (shards' : List (ShardState Task)) (ready' : List Task) (t u : Progress) → t ≡ u → CarriesOn run seeds shards ready job t shards' ready' → CarriesOn run seeds shards ready job u shards' ready'
progress_at run seeds shards ready job shards' ready' t u e x = subst (λ v. CarriesOn run seeds shards ready job v shards' ready') e x

module _ (run : Run) (seeds : Seeds) (shards : List (ShardState Task)) (ready : List Task) (job : Task) (ready1 : List Task) (picked : IsPermutation ready (job ∷ ready1)) (shards1 : List (ShardState Task)) (same : shards1 ≡ shards) where
  pub picked_now : Runs run seeds shards ready → Runs run seeds shards1 (job ∷ ready1)
  picked_now r = subst (λ l. Runs run seeds l (job ∷ ready1)) (sym same) (picked_runs run seeds shards ready job ready1 picked r)

  pub work_now : (shards' : List (ShardState Task)) (ready' : List Task) → Leaves run seeds shards1 ready1 job shards' ready' (length ready') → work_left shards' ready' < work_left shards ready
  work_now shards' ready' l = work_falls run seeds shards ready job ready1 picked shards' ready' (subst (λ b. Leaves run seeds b ready1 job shards' ready' (length ready')) same l)

-- what the logs have grown from, through what changes no shard
pub grows_through : (run : Run) (seeds : Seeds) (shards0 shards shards1 shards' : List (ShardState Task)) → Grows run seeds shards0 shards → shards1 ≡ shards → Grows run seeds shards1 shards' → Grows run seeds shards0 shards'
grows_through run seeds shards0 shards shards1 shards' a e b l g = b l (subst (λ s. Grows run seeds shards0 s) (sym e) a l g)
