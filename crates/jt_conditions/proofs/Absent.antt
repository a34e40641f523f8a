-- The tasks that are away from a condition, by the entries.
use Rattle.std.proofs.Common.{◌≡◌, ℕ, ◌-◌, ◌<◌, List, [], ◌∷◌, inl, inr, length, map, Option, Some, None, true, false, refl, sym, ap, ◌∙◌, cond, arith}
use Rattle.std.specs.Prelude.{nat_lt, filter, if◌then◌else◌}
use Rattle.std.specs.Map.{lookup}
use Rattle.std.specs.FinMap as finite
use Rattle.std.proofs.lemmas.Bool.Decides.{nat_tests}
use Rattle.jt_base.specs.declared.entry.Entry.{Entry}
use Rattle.jt_laws.specs.Entries.{same_path, In}
use Rattle.jt_laws.specs.Locks.{levels_of, waits_of, backs_of, places_of, is_wait}
use Rattle.jt_laws.proofs.LockLaws.{entry_of}
use Rattle.jt_laws.proofs.Paths.{same_equal, same_of}
use Rattle.jt_conditions.specs.declared.absence.Absence.{Absence}
use Rattle.jt_conditions.specs.Absences.{AbsentTasks}
use Rattle.jt_conditions.specs.Conditions.{unanswered, absence_of, absences}
use Rattle.jt_conditions.proofs.Holders.{pointwise_same}
use Rattle.jt_conditions.proofs.Keys.{by_path, get_entries, equal_maps}

-- what is kept of a task, by its level before its last wait, its waits, its returns and its places in the waiting list
abbrev pub kept : ℕ → ℕ → ℕ → ℕ → Option Absence
kept level waits backs places =
    if nat_lt 0 (waits - backs) then Some (record { level = level; waits = waits - backs; notified = waits - backs - places }) else None

abbrev pub kept_of : List ℕ → List Entry → Option Absence
kept_of path own = kept (levels_of path own).before_wait (waits_of path own) (backs_of path own) (places_of path own)

path_test : (p q : List ℕ) → by_path p q ≡ same_path p q
path_test p q = pointwise_same p q

-- in a part of the entries, a task is found by any entry of it
abbrev shown : List Entry → List Entry → List (List ℕ × Absence)
shown own part = map (λ (e : Entry). (e.task, absence_of e.task own)) (filter (λ e. nat_lt 0 (unanswered e.task own)) part)

shown_none : (own part : List Entry) (q : List ℕ) → nat_lt 0 (unanswered q own) ≡ false → lookup (by_path q) (shown own part) ≡ None
shown_none own [] q n = refl
shown_none own (x ∷ xs) q n =
    elim (nat_lt 0 (unanswered x.task own)) as (λ b. nat_lt 0 (unanswered x.task own) ≡ b → lookup (by_path q) (map (λ (e : Entry). (e.task, absence_of e.task own)) (cond b (x ∷ filter (λ e. nat_lt 0 (unanswered e.task own)) xs) (filter (λ e. nat_lt 0 (unanswered e.task own)) xs))) ≡ None) [
      | false ↦ λ h. shown_none own xs q n
      | true ↦ λ h. elim (by_path q x.task) as (λ b. by_path q x.task ≡ b → cond b (Some (absence_of x.task own)) (lookup (by_path q) (shown own xs)) ≡ None) [
        | true ↦ λ s. absurd (let same = same_equal q x.task (sym (path_test q x.task) ∙ s) in let clash : true ≡ false = sym h ∙ ap (λ p. nat_lt 0 (unanswered p own)) (sym same) ∙ n in cc)
        | false ↦ λ s. shown_none own xs q n
      ] refl
    ] refl

shown_some : (own part : List Entry) (q : List ℕ) (e : Entry) → In e part → e.task ≡ q → nat_lt 0 (unanswered q own) ≡ true → lookup (by_path q) (shown own part) ≡ Some (absence_of q own)
shown_some own [] q e i t n = absurd i
shown_some own (x ∷ xs) q e i t n =
    elim (by_path q x.task) as (λ b. by_path q x.task ≡ b → lookup (by_path q) (shown own (x ∷ xs)) ≡ Some (absence_of q own)) [
      | true ↦ λ s.
          let same = same_equal q x.task (sym (path_test q x.task) ∙ s) in
          ap (λ b. lookup (by_path q) (map (λ (e : Entry). (e.task, absence_of e.task own)) (cond b (x ∷ filter (λ e. nat_lt 0 (unanswered e.task own)) xs) (filter (λ e. nat_lt 0 (unanswered e.task own)) xs)))) (ap (λ p. nat_lt 0 (unanswered p own)) (sym same) ∙ n)
          ∙ ap (λ b. cond b (Some (absence_of x.task own)) (lookup (by_path q) (shown own xs))) s ∙ ap (λ p. Some (absence_of p own)) (sym same)
      | false ↦ λ s.
          let later : In e xs = elim i as (λ v. In e xs) [
            | inl f ↦ absurd (let clash : by_path q x.task ≡ true = path_test q x.task ∙ same_of q x.task (sym t ∙ ap (λ y. y.task) (sym f)) in let no : true ≡ false = sym clash ∙ s in cc)
            | inr j ↦ j
          ] in
          elim (nat_lt 0 (unanswered x.task own)) as (λ b. lookup (by_path q) (map (λ (y : Entry). (y.task, absence_of y.task own)) (cond b (x ∷ filter (λ y. nat_lt 0 (unanswered y.task own)) xs) (filter (λ y. nat_lt 0 (unanswered y.task own)) xs))) ≡ Some (absence_of q own)) [
            | false ↦ shown_some own xs q e later t n
            | true ↦ ap (λ b. cond b (Some (absence_of x.task own)) (lookup (by_path q) (shown own xs))) s ∙ shown_some own xs q e later t n
          ]
    ] refl

-- what is kept of each task
pub get_absences : (own : List Entry) (q : List ℕ) → finite.get (absences own) q ≡ kept_of q own
get_absences own q =
    get_entries q (shown own own) ∙ elim (nat_lt 0 (unanswered q own)) as (λ b. nat_lt 0 (unanswered q own) ≡ b → lookup (by_path q) (shown own own) ≡ (if b then Some (absence_of q own) else None)) [
      | false ↦ λ n. shown_none own own q n
      | true ↦ λ n. elim (entry_of q own) as (λ v. lookup (by_path q) (shown own own) ≡ Some (absence_of q own)) [
        | inl none ↦ absurd (let z : waits_of q own ≡ 0 = ap (λ l. length (filter (λ e. is_wait e.op e.reply) l)) none in let p : 0 < unanswered q own = grind (arith, nat_tests) in omega (arith, z, p))
        | inr e ↦ shown_some own own q e.0 e.1.0 e.1.1 n
      ]
    ] refl

-- a map that answers so is the map of the entries
pub absences_are : (own : List Entry) (m : AbsentTasks) → ((q : List ℕ) → finite.get m q ≡ kept_of q own) → absences own ≡ m
absences_are own m f = equal_maps (absences own) m (λ q. get_absences own q ∙ sym (f q))
