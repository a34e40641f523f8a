-- A task begins and ends at most once, and a fetch replies its result.
use Rattle.std.proofs.Common.{◌≡◌, ℕ, ◌<◌, List, [], ◌∷◌, ◌++◌, inl, inr, length, Some, Bool, true, false, refl, cond, arith}
use Rattle.std.specs.Prelude.{◌||◌, not, filter, find, option_and_then}
use Rattle.std.specs.List.{list_any}
use Rattle.jt_base.specs.declared.operation.Op.{Op}
use Rattle.jt_base.specs.declared.operation.Op.TheVariants.{Begin, End, Fail}
use Rattle.jt_base.specs.declared.operation.Reply.{Reply}
use Rattle.jt_base.specs.declared.entry.Entry.{Entry}
use Rattle.jt_laws.specs.Entries.{ends}
use Rattle.jt_laws.specs.Tasks.{is_begin, is_spawned, has_begun, has_ended, fetch_of, fetch_reply}
use Rattle.jt_laws.specs.TaskLaws.{begins_of, BeginsAndEndsOnce, IsResultOf, HasResult}
use Rattle.jt_laws.specs.Objects.{reply_after, IsLawful}
use Rattle.jt_laws.proofs.Counts.{count_more, count_same}
use Rattle.jt_laws.proofs.Lawful.{along}
use Rattle.jt_laws.proofs.TaskLaws.{when_ok, both_true, ends_running}

none_counted : (p : Entry → Bool) (own : List Entry) → list_any p own ≡ false → length (filter p own) ≡ 0
none_counted p [] h = refl
none_counted p (x ∷ xs) h =
    elim (p x) as (λ b. (b || list_any p xs) ≡ false → length (cond b (x ∷ filter p xs) (filter p xs)) ≡ 0) [
      | true ↦ λ g. absurd (cc)
      | false ↦ λ g. none_counted p xs g
    ] h

some_counted : (p : Entry → Bool) (own : List Entry) → list_any p own ≡ true → 0 < length (filter p own)
some_counted p [] h = absurd (cc)
some_counted p (x ∷ xs) h =
    elim (p x) as (λ b. (b || list_any p xs) ≡ true → 0 < length (cond b (x ∷ filter p xs) (filter p xs))) [
      | true ↦ λ g. omega arith
      | false ↦ λ g. some_counted p xs g
    ] h

not_true : (b : Bool) → not b ≡ true → b ≡ false
not_true true e = absurd (cc)
not_true false e = refl

begins_now : (own : List Entry) (task : List ℕ) (op : Op) (r : Reply) → reply_after own task op ≡ Some r → is_begin op ≡ true → begins_of own ≡ 0
begins_now own task Begin r a h =
    none_counted (λ (x : Entry). is_begin x.op) own (not_true (has_begun own) (both_true (is_spawned own task) (not (has_begun own)) (when_ok _ r a)).1)
begins_now own task op r a h = absurd (cc)

not_both : (op : Op) → is_begin op ≡ true → ends op ≡ false
not_both Begin h = refl
not_both op h = absurd (cc)

one_more : (own : List Entry) (e : Entry) → BeginsAndEndsOnce own → reply_after own e.task e.op ≡ Some e.reply → BeginsAndEndsOnce (own ++ e ∷ [])
one_more own e o a =
    let few = o.begins in
    let fewer = o.ends in
    elim (is_begin e.op) as (λ b. is_begin e.op ≡ b → BeginsAndEndsOnce (own ++ e ∷ [])) [
      | true ↦ λ h.
          let zero = begins_now own e.task e.op e.reply a h in
          let more = count_more (λ (x : Entry). is_begin x.op) own e h in
          let same = count_same (λ (x : Entry). ends x.op) own e (not_both e.op h) in
          record { begins = omega (arith, zero, more); ends = omega (arith, zero, more, same, fewer) }
      | false ↦ λ h.
          let begun = count_same (λ (x : Entry). is_begin x.op) own e h in
          elim (ends e.op) as (λ b. ends e.op ≡ b → BeginsAndEndsOnce (own ++ e ∷ [])) [
            | true ↦ λ g.
                let run = both_true (has_begun own) (not (has_ended own)) (ends_running own e.task e.op e.reply a g) in
                let there = some_counted (λ (x : Entry). is_begin x.op) own run.0 in
                let none = none_counted (λ (x : Entry). ends x.op) own (not_true (has_ended own) run.1) in
                let more = count_more (λ (x : Entry). ends x.op) own e g in
                record { begins = omega (arith, begun, few); ends = omega (arith, begun, there, none, more) }
            | false ↦ λ g.
                let same = count_same (λ (x : Entry). ends x.op) own e g in
                record { begins = omega (arith, begun, few); ends = omega (arith, begun, same, fewer) }
          ] refl
    ] refl

pub begins_and_ends_once : (own : List Entry) → IsLawful own → BeginsAndEndsOnce own
begins_and_ends_once own l =
    along BeginsAndEndsOnce (λ past e o a. one_more past e o a) [] own (record { begins = omega arith; ends = omega arith }) l

result : (op : Op) (r : Reply) → fetch_of op ≡ Some r → IsResultOf op r
result (End value) r e = cc
result (Fail fault) r e = cc
result op r e = absurd (cc)

fetched : (own : List Entry) (r : Reply) → fetch_reply own ≡ Some r → HasResult own r
fetched [] r e = absurd (cc)
fetched (x ∷ xs) r e =
    elim (ends x.op) as (λ b. option_and_then (λ (y : Entry). fetch_of y.op) (cond b (Some x) (find (λ y. ends y.op) xs)) ≡ Some r → HasResult (x ∷ xs) r) [
      | true ↦ λ g. (x, (inl refl, result x.op r g))
      | false ↦ λ g. let f = fetched xs r g in (f.0, (inr f.1.0, f.1.1))
    ] e

pub fetch_replies : (own : List Entry) (r : Reply) → fetch_reply own ≡ Some r → HasResult own r
fetch_replies own r e = fetched own r e
