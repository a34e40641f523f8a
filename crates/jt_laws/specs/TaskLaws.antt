-- What follows for every lawful list of a task's entries.
use Rattle.std.specs.Prelude.{◌≡◌, ℕ, ◌≤◌, List, length, filter}
use Rattle.jt_base.specs.declared.operation.Op.{Op}
use Rattle.jt_base.specs.declared.operation.Op.TheVariants.{End, Fail}
use Rattle.jt_base.specs.declared.operation.Reply.{Reply}
use Rattle.jt_base.specs.declared.operation.Reply.TheVariants as reply
use Rattle.jt_base.specs.declared.entry.Entry.{Entry}
use Rattle.jt_laws.specs.Entries.{In, ends}
use Rattle.jt_laws.specs.Tasks.{is_begin}

-- how often the task begins, and how often it ends or fails
abbrev pub begins_of : List Entry → ℕ
begins_of own = length (filter (λ e. is_begin e.op) own)

abbrev pub ends_of : List Entry → ℕ
ends_of own = length (filter (λ e. ends e.op) own)

-- it begins at most once, and ends no more often than it begins
pub record BeginsAndEndsOnce (own : List Entry) : Type 0 where
  pub begins : begins_of own ≤ 1
  pub ends : ends_of own ≤ begins_of own

-- the result of the task's last operation
abbrev pub IsResultOf : Op → Reply → Type 0
IsResultOf (End value) r = r ≡ reply.Val value
IsResultOf (Fail fault) r = r ≡ reply.Failed
IsResultOf op r = ⊥

-- the list has the entry that ends the task, with this result
abbrev pub HasResult : List Entry → Reply → Type 0
HasResult own r = (e : Entry) × (In e own × IsResultOf e.op r)
