-- What is kept of the tasks that gave a condition's lock up and are not back, by path.
use Rattle.std.specs.Prelude.{ℕ, ◌≤◌, List, map, Option, nat_eq, nat_le, if◌then◌else◌, refl}
use Rattle.std.specs.Ordering.{nat_cmp}
use Rattle.std.specs.Cmp.Lexicographic.{slice_cmp, pointwise}
use Rattle.std.specs.Coded.{Coded, code_by, coded×, coded_list, coded_ℕ}
use Rattle.std.specs.FinMap as finite
use Rattle.std.specs.Map.{lookup}
use Rattle.jt_laws.specs.Objects.{WithRoom}
use Rattle.jt_conditions.specs.declared.absence.Absence.{Absence}
use Rattle.jt_conditions.specs.declared.absence.Kept.{Kept}

abbrev pub AbsentTasks : Type 0
AbsentTasks = finite.FinMap (slice_cmp nat_cmp) Absence

-- what a list of entries has at a path
abbrev pub kept_at : {X : Type 0} → List (List ℕ × X) → List ℕ → Option X
kept_at entries path = lookup (pointwise nat_eq path) entries

-- a task of which all waits were notified
abbrev pub wholly_notified : Absence → Absence
wholly_notified a = record { level = a.level; waits = a.waits; notified = a.waits }

-- a stored absence, where all waits up to a number were notified at once
abbrev pub seen : ℕ → Kept → Absence
seen woken k = if nat_le k.last woken then wholly_notified k.absence else k.absence

abbrev pub all_seen : ℕ → List (List ℕ × Kept) → List (List ℕ × Absence)
all_seen woken entries = map (λ e. (e.0, seen woken e.1)) entries

-- the tasks that are away, by what is stored
abbrev pub away : ℕ → List (List ℕ × Kept) → AbsentTasks
away woken entries = finite.from_entries (all_seen woken entries)

-- its last wait is one of those that were made, and it has no more waits than were made
pub record Numbered (made : ℕ) (k : Kept) : Type 0 where
  pub last : k.last ≤ made
  pub waits : k.absence.waits ≤ made

-- how contracts store them
abbrev pub absence_code : Coded Absence
absence_code =
    code_by (ℕ × (ℕ × ℕ)) (coded× coded_ℕ (coded× coded_ℕ coded_ℕ)) (λ a. (a.level, (a.waits, a.notified))) (λ p. record { level = p.0; waits = p.1.0; notified = p.1.1 }) (λ _. refl)

abbrev pub absent_code : Coded AbsentTasks
absent_code = finite.code (coded_list coded_ℕ) absence_code

abbrev pub with_room_code : {S : Type 0} → Coded S → Coded (WithRoom S)
with_room_code {S} c =
    code_by (S × ℕ) (coded× c coded_ℕ) (λ w. (w.state, w.room)) (λ p. record { state = p.0; room = p.1 }) (λ _. refl)
