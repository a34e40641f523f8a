-- The fronts of logs that are merged: which entry is taken next, and what is left then.
use Rattle.std.specs.Prelude.{◌≡◌, ◌≢◌, ◌<◌, ◌≤◌, ℕ, suc, ◌+◌, List, [], ◌∷◌, Option, Some, None, length, get_or, set}
use Rattle.jt_base.specs.declared.entry.Entry.{Entry}

-- the stamp of a log's first entry
abbrev pub first_stamp : List Entry → Option ℕ
first_stamp [] = None
first_stamp (e ∷ es) = Some e.stamp

-- a stamp, where there is one, is none below this bound
abbrev pub From : ℕ → Option ℕ → Type 0
From bound None = Unit {0}
From bound (Some stamp) = bound ≤ stamp

-- of the first n stamps, this one is the smallest, and of equal ones the first
pub record IsLeast (stamps : List (Option ℕ)) (n at stamp : ℕ) : Type 0 where
  pub there : get_or stamps at None ≡ Some stamp
  pub before : (k : ℕ) → k < at → From (suc stamp) (get_or stamps k None)
  pub behind : (k : ℕ) → k < n → From stamp (get_or stamps k None)

-- here stands the smallest stamp of all, of equal ones the first
pub record IsFirst (stamps : List (Option ℕ)) (at : ℕ) : Type 0 where
  pub within : at < length stamps
  pub stamp : ℕ
  pub least : IsLeast stamps (length stamps) at stamp

-- The first entry of one log is taken: no log before this one begins with an entry of its stamp or of a
-- smaller one, and no log behind with one of a smaller stamp.
pub record Takes (left : List (List Entry)) (e : Entry) (after : List (List Entry)) : Type 0 where
  pub at : ℕ
  pub rest : List Entry
  pub there : get_or left at [] ≡ e ∷ rest
  pub taken : after ≡ set left at rest
  pub before : (k : ℕ) → k < at → From (suc e.stamp) (first_stamp (get_or left k []))
  pub behind : (k : ℕ) → From e.stamp (first_stamp (get_or left k []))

-- no other log has entries
pub record IsOnlyFilled (logs : List (List Entry)) (at : ℕ) : Type 0 where
  pub within : at < length logs
  pub others : (k : ℕ) → k ≢ at → get_or logs k [] ≡ []

-- how many entries the logs have
abbrev pub count_of : List (List Entry) → ℕ
count_of [] = 0
count_of (log ∷ logs) = length log + count_of logs
