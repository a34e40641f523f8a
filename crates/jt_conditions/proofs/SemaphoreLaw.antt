-- A semaphore answers by its law.
use Rattle.std.proofs.Common.{◌≡◌, ℕ, ◌+◌, ◌-◌, ◌<◌, ◌≤◌, List, [], ◌∷◌, ◌++◌, Some, None, Bool, true, false, refl, sym, ap, ◌∙◌, arith}
use Rattle.std.specs.Prelude.{if◌then◌else◌, nat_eq, nat_lt, option_map, option_and_then}
use Rattle.std.proofs.lemmas.Bool.Decides.{nat_tests}
use Rattle.jt_base.specs.declared.operation.Op.TheVariants.{Acquire, Release}
use Rattle.jt_base.specs.declared.operation.Reply.TheVariants as reply
use Rattle.jt_base.specs.declared.entry.Entry.{Entry}
use Rattle.jt_base.specs.declared.entry.Ask.TheVariants.{Done, NotYet}
use Rattle.jt_base.specs.declared.name.Name.{Name}
use Rattle.jt_laws.specs.Tasks.{ok_if}
use Rattle.jt_laws.specs.Locks.{is_ok}
use Rattle.jt_laws.specs.Semaphores.{count_of, held_of, is_acquire, is_release, acquire_reply, release_reply}
use Rattle.jt_laws.specs.Objects.{IsLawful, answer_of, Asked}
use Rattle.jt_laws.proofs.Counts.{count_more, count_same}
use Rattle.jt_laws.proofs.SemaphoreLaws.{balanced, acquired, acquires, releases}
use Rattle.jt_conditions.specs.Semaphores.{Semaphore, semaphore_left_by, acquire_answer, after_acquire, release_answer, after_release}

-- a semaphore is made by its first entry
found : (own : List Entry) (before : Semaphore) → semaphore_left_by own ≡ Some before → (count_of own ≡ Some before.count) × (held_of own ≡ before.held)
found own before e =
    elim (count_of own) as (λ o. option_map (λ (count : ℕ). record { count = count; held = held_of own }) o ≡ Some before → (o ≡ Some before.count) × (held_of own ≡ before.held)) [
      | None ↦ λ q. absurd (cc)
      | Some count ↦ λ q.
          let same : ◌≡◌ {A = Semaphore} (record { count = count; held = held_of own }) before = cc in
          (ap (λ s. Some s.count) same, ap (λ s. s.held) same)
    ] e

left : (past : List Entry) (e : Entry) (count held : ℕ) → count_of past ≡ Some count → held_of (past ++ e ∷ []) ≡ held → semaphore_left_by (past ++ e ∷ []) ≡ Some (record { count = count; held = held })
left [] e count held a s = absurd (cc)
left (x ∷ xs) e count held a s =
    ap (λ o. option_map (λ (n : ℕ). record { count = n; held = held_of (x ∷ xs ++ e ∷ []) }) o) a
    ∙ ap (λ n. Some (record { count = count; held = n })) s

-- an acquire
may_acquire : (b : Bool) → answer_of (ok_if b) ≡ (if b then Done reply.Ok else NotYet)
may_acquire true = refl
may_acquire false = refl

acquire_answers : (past : List Entry) (count held : ℕ) → count_of past ≡ Some count → held_of past ≡ held → (if nat_lt held count then Done reply.Ok else NotYet) ≡ answer_of (acquire_reply past)
acquire_answers past count held a s =
    sym (may_acquire (nat_lt held count)) ∙ ap (λ n. answer_of (ok_if (nat_lt n count))) (sym s) ∙ ap (λ o. answer_of (option_and_then (λ (c : ℕ). ok_if (nat_lt (held_of past) c)) o)) (sym a)

acquire_moves : (past : List Entry) (e : Entry) (before : Semaphore) (n : Name) → IsLawful past → count_of past ≡ Some before.count → held_of past ≡ before.held → e.op ≡ Acquire n → acquire_reply past ≡ Some e.reply → semaphore_left_by (past ++ e ∷ []) ≡ Some (after_acquire before)
acquire_moves past e before n l a s q given =
    let k = acquired past e.reply given in
    let more = count_more (λ (x : Entry). is_acquire x.op x.reply) past e (ap (λ o. is_acquire o e.reply) q ∙ ap is_ok k.3) in
    let same = count_same (λ (x : Entry). is_release x.op x.reply) past e (ap (λ o. is_release o e.reply) q) in
    let fewer : releases past ≤ acquires past = (balanced past l).released in
    let count : Some k.0 ≡ Some before.count = sym k.1 ∙ a in
    let c : k.0 ≡ before.count = cc in
    let below : held_of past < k.0 = k.2 in
    let now : held_of (past ++ e ∷ []) ≡ before.held + 1 = omega (arith, more, same, fewer, s) in
    let free : nat_lt before.held before.count ≡ true = let h : before.held < before.count = omega (arith, below, s, c) in grind (arith, nat_tests) in
    left past e before.count (before.held + 1) a now ∙ ap (λ b. Some (if b then record { count = before.count; held = before.held + 1 } else before)) (sym free)

acquire_stays : (s : Semaphore) → acquire_answer s ≡ NotYet → after_acquire s ≡ s
acquire_stays s h =
    elim (nat_lt s.held s.count) as (λ b. (if b then Done reply.Ok else NotYet) ≡ NotYet → ◌≡◌ {A = Semaphore} (if b then record { count = s.count; held = s.held + 1 } else s) s) [
      | true ↦ λ g. absurd (cc)
      | false ↦ λ g. refl
    ] h

pub acquire_asked : (task : List ℕ) (n : Name) (before : Semaphore) → Asked Semaphore semaphore_left_by task (Acquire n) before (acquire_answer before) (after_acquire before)
acquire_asked task n before = record {
  answers = λ past l s. let f = found past before s in acquire_answers past before.count before.held f.0 f.1;
  moves = λ past e l s by q a. let f = found past before s in acquire_moves past e before n l f.0 f.1 q a;
  stays = acquire_stays before;
}

-- a release
release_answers : (past : List Entry) (count held : ℕ) → count_of past ≡ Some count → held_of past ≡ held → Done (if nat_eq held 0 then reply.NotHeld else reply.Ok) ≡ answer_of (release_reply past)
release_answers past count held a s =
    ap (λ n. Done (if nat_eq n 0 then reply.NotHeld else reply.Ok)) (sym s) ∙ ap (λ o. answer_of (option_and_then (λ (c : ℕ). Some (if nat_eq (held_of past) 0 then reply.NotHeld else reply.Ok)) o)) (sym a)

release_moves : (past : List Entry) (e : Entry) (before : Semaphore) (n : Name) → IsLawful past → count_of past ≡ Some before.count → held_of past ≡ before.held → e.op ≡ Release n → release_reply past ≡ Some e.reply → semaphore_left_by (past ++ e ∷ []) ≡ Some (after_release before)
release_moves past e before n l a s q given =
    let same = count_same (λ (x : Entry). is_acquire x.op x.reply) past e (ap (λ o. is_acquire o e.reply) q) in
    let reply_now : Some (if nat_eq (held_of past) 0 then reply.NotHeld else reply.Ok) ≡ Some e.reply =
    ap (λ o. option_and_then (λ (c : ℕ). Some (if nat_eq (held_of past) 0 then reply.NotHeld else reply.Ok)) o) (sym a) ∙ given in
    elim (nat_eq (held_of past) 0) as (λ b. nat_eq (held_of past) 0 ≡ b → Some (if b then reply.NotHeld else reply.Ok) ≡ Some e.reply → semaphore_left_by (past ++ e ∷ []) ≡ Some (after_release before)) [
      | true ↦ λ z g.
          let r : reply.NotHeld ≡ e.reply = cc in
          let kept = count_same (λ (x : Entry). is_release x.op x.reply) past e (ap (λ o. is_release o e.reply) q ∙ ap is_ok (sym r)) in
          let none : held_of past ≡ 0 = grind (arith, nat_tests) in
          left past e before.count (before.held - 1) a (omega (arith, same, kept, none, s))
      | false ↦ λ z g.
          let r : reply.Ok ≡ e.reply = cc in
          let more = count_more (λ (x : Entry). is_release x.op x.reply) past e (ap (λ o. is_release o e.reply) q ∙ ap is_ok (sym r)) in
          left past e before.count (before.held - 1) a (omega (arith, same, more, s))
    ] refl reply_now

pub release_asked : (task : List ℕ) (n : Name) (before : Semaphore) → Asked Semaphore semaphore_left_by task (Release n) before (release_answer before) (after_release before)
release_asked task n before = record {
  answers = λ past l s. let f = found past before s in release_answers past before.count before.held f.0 f.1;
  moves = λ past e l s by q a. let f = found past before s in release_moves past e before n l f.0 f.1 q a;
  stays = λ h. absurd (cc);
}
