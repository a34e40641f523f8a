-- What is held of a task, as plain data.
use Rattle.std.specs.Prelude.{◌≡◌, ◌≤◌, ℕ, List, [], ◌∷◌, ◌++◌, Option, Some}
use Rattle.jt_base.specs.declared.entry.Note.{Note}
use Rattle.jt_base.specs.declared.operation.Reply.{Reply}
use Rattle.jt_base.specs.declared.run.Pool.{Pool}

-- the pool of a task's workers, and the worker to which the task is bound
pub record Seat : Type 0 where
  pub pool : Pool
  pub bound : Option ℕ

-- a task: its path, its start, its seat, and the notes of its entries
pub record Held (S : Type 0) : Type 0 where
  pub path : List ℕ
  pub start : S
  pub seat : Seat
  pub log : List Note

abbrev pub note_reply : Note → Reply
note_reply n = n.reply

-- the stamp of the last note, or 0
abbrev pub last_note_from : ℕ → List Note → ℕ
last_note_from stamp [] = stamp
last_note_from stamp (n ∷ ns) = last_note_from n.stamp ns

abbrev pub last_note : List Note → ℕ
last_note notes = last_note_from 0 notes

module _ {S : Type 0} where
  -- with one note more
  abbrev pub noted : Held S → ℕ → Reply → Held S
  noted j stamp reply = record { path = j.path; start = j.start; seat = j.seat; log = j.log ++ record { stamp = stamp; reply = reply } ∷ [] }

  -- bound to this worker
  abbrev pub bound_to : Held S → ℕ → Held S
  bound_to j worker = record { path = j.path; start = j.start; seat = record { pool = j.seat.pool; bound = Some worker }; log = j.log }
