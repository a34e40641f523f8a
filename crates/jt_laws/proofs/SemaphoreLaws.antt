-- A semaphore is released no more often than it is acquired, and held no more often than its count.
use Rattle.std.proofs.Common.{◌≡◌, ℕ, ◌+◌, ◌<◌, ◌≤◌, List, [], ◌∷◌, ◌++◌, length, Some, true, false, refl, sym, ap, ◌∙◌, arith}
use Rattle.std.specs.Prelude.{filter, nat_eq, nat_lt, if◌then◌else◌}
use Rattle.std.proofs.lemmas.Bool.Decides.{nat_tests}
use Rattle.jt_base.specs.declared.operation.Op.{Op}
use Rattle.jt_base.specs.declared.operation.Op.TheVariants.{Acquire, Release}
use Rattle.jt_base.specs.declared.operation.Reply.{Reply}
use Rattle.jt_base.specs.declared.operation.Reply.TheVariants as reply
use Rattle.jt_base.specs.declared.entry.Entry.{Entry}
use Rattle.jt_base.specs.declared.name.Name.{Name}
use Rattle.jt_laws.specs.Locks.{is_ok}
use Rattle.jt_laws.specs.Tasks.{ok_if}
use Rattle.jt_laws.specs.Semaphores.{count_of, is_acquire, is_release, held_of, acquire_reply, release_reply}
use Rattle.jt_laws.specs.Objects.{reply_after, IsLawful}
use Rattle.jt_laws.proofs.Counts.{count_more, count_same}
use Rattle.jt_laws.proofs.Lawful.{along, of_kind}
use Rattle.jt_laws.proofs.TaskLaws.{when_ok}

abbrev pub acquires : List Entry → ℕ
acquires own = length (filter (λ e. is_acquire e.op e.reply) own)

abbrev pub releases : List Entry → ℕ
releases own = length (filter (λ e. is_release e.op e.reply) own)

-- how often it is held after one more entry
pub record Balanced (own : List Entry) : Type 0 where
  pub released : releases own ≤ acquires own
  pub within : (count : ℕ) → count_of own ≡ Some count → acquires own ≤ releases own + count

pub count_before : (own : List Entry) (e : Entry) (count : ℕ) → count_of own ≡ Some count → count_of (own ++ e ∷ []) ≡ Some count
count_before [] e count q = absurd (cc)
count_before (x ∷ xs) e count q = q

within_yet : (own : List Entry) (e : Entry) (count : ℕ) → Balanced own → count_of (own ++ e ∷ []) ≡ Some count → acquires own ≤ releases own + count
within_yet [] e count b q = omega arith
within_yet (x ∷ xs) e count b q = b.within count q

-- an acquire is allowed while it is held less often than its count, and a release replies ok while it is held
pub acquired : (own : List Entry) (r : Reply) → acquire_reply own ≡ Some r → (count : ℕ) × (count_of own ≡ Some count) × (held_of own < count) × (r ≡ reply.Ok)
acquired own r a =
    let k = of_kind (count_of own) (λ c. ok_if (nat_lt (held_of own) c)) r a in
    let h = when_ok (nat_lt (held_of own) k.0) r k.2 in
    (k.0, k.1, grind (arith, nat_tests), let e : ok_if true ≡ Some r = ap ok_if (sym h) ∙ k.2 in cc)

pub released_ok : (own : List Entry) → release_reply own ≡ Some reply.Ok → 0 < held_of own
released_ok own a =
    let k = of_kind (count_of own) (λ c. Some (if nat_eq (held_of own) 0 then reply.NotHeld else reply.Ok)) reply.Ok a in
    elim (nat_eq (held_of own) 0) as (λ b. nat_eq (held_of own) 0 ≡ b → Some (if b then reply.NotHeld else reply.Ok) ≡ Some reply.Ok → 0 < held_of own) [
      | true ↦ λ q g. absurd (cc)
      | false ↦ λ q g. grind (arith, nat_tests)
    ] refl k.2

ok_is : (r : Reply) → is_ok r ≡ true → r ≡ reply.Ok
ok_is reply.Ok e = refl
ok_is r e = absurd (cc)

-- one more entry
unchanged : (own : List Entry) (e : Entry) → Balanced own → is_acquire e.op e.reply ≡ false → is_release e.op e.reply ≡ false → Balanced (own ++ e ∷ [])
unchanged own e b p q =
    let a = count_same (λ (x : Entry). is_acquire x.op x.reply) own e p in
    let r = count_same (λ (x : Entry). is_release x.op x.reply) own e q in
    record {
      released = let h = b.released in omega (arith, a, r, h);
      within = λ count c. let h = within_yet own e count b c in omega (arith, a, r, h);
    }

one_acquired : (own : List Entry) (e : Entry) (name : Name) → e.op ≡ Acquire name → Balanced own → acquire_reply own ≡ Some e.reply → Balanced (own ++ e ∷ [])
one_acquired own e name q b given =
    let k = acquired own e.reply given in
    let a = count_more (λ (x : Entry). is_acquire x.op x.reply) own e (ap (λ o. is_acquire o e.reply) q ∙ ap is_ok k.3) in
    let r = count_same (λ (x : Entry). is_release x.op x.reply) own e (ap (λ o. is_release o e.reply) q) in
    let below : held_of own < k.0 = k.2 in
    let more : releases own ≤ acquires own = b.released in
    record {
      released = omega (arith, a, r, more);
      within = λ count c.
          let same : Some k.0 ≡ Some count = sym (count_before own e k.0 k.1) ∙ c in
          let n : k.0 ≡ count = cc in
          omega (arith, a, r, more, below, n);
    }

one_released : (own : List Entry) (e : Entry) (name : Name) → e.op ≡ Release name → Balanced own → release_reply own ≡ Some e.reply → Balanced (own ++ e ∷ [])
one_released own e name q b given =
    elim (is_ok e.reply) as (λ v. is_ok e.reply ≡ v → Balanced (own ++ e ∷ [])) [
      | false ↦ λ h.
          unchanged own e b (ap (λ o. is_acquire o e.reply) q) (ap (λ o. is_release o e.reply) q ∙ h)
      | true ↦ λ h.
          let held : 0 < held_of own = released_ok own (given ∙ ap Some (ok_is e.reply h)) in
          let a = count_same (λ (x : Entry). is_acquire x.op x.reply) own e (ap (λ o. is_acquire o e.reply) q) in
          let r = count_more (λ (x : Entry). is_release x.op x.reply) own e (ap (λ o. is_release o e.reply) q ∙ h) in
          record {
            released = omega (arith, a, r, held);
            within = λ count c. let w = within_yet own e count b c in omega (arith, a, r, w);
          }
    ] refl

one_more : (op : Op) (own : List Entry) (e : Entry) → e.op ≡ op → Balanced own → reply_after own e.task op ≡ Some e.reply → Balanced (own ++ e ∷ [])
one_more (Acquire name) own e q b a = one_acquired own e name q b a
one_more (Release name) own e q b a = one_released own e name q b a
one_more op own e q b a =
    unchanged own e b (ap (λ o. is_acquire o e.reply) q) (ap (λ o. is_release o e.reply) q)

pub balanced : (own : List Entry) → IsLawful own → Balanced own
balanced own l =
    along Balanced (λ past e b a. one_more e.op past e refl b a) [] own (record { released = omega arith; within = λ count c. absurd (cc) }) l

pub within_count : (own : List Entry) (count : ℕ) → IsLawful own → count_of own ≡ Some count → held_of own ≤ count
within_count own count l c = let h = (balanced own l).within count c in omega (arith, h)
