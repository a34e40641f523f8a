-- What a list of a condition's entries leaves, and how the condition answers.
use Rattle.std.specs.Prelude.{ℕ, ◌+◌, ◌-◌, pos, List, [], ◌∷◌, ◌++◌, length, take, drop, map, min, filter, fold, Option, Some, None, Bool, true, false, if◌then◌else◌, nat_le, nat_lt, refl}
use Rattle.std.specs.Coded.{Coded, code_by, coded×, coded_list, coded_option, coded_ℕ}
use Rattle.std.specs.FinMap as finite
use Rattle.jt_base.specs.declared.operation.Op.{Op}
use Rattle.jt_base.specs.declared.operation.Op.TheVariants as op
use Rattle.jt_base.specs.declared.operation.Reply.TheVariants as reply
use Rattle.jt_base.specs.declared.entry.Entry.{Entry}
use Rattle.jt_base.specs.declared.entry.Ask.{Ask}
use Rattle.jt_base.specs.declared.entry.Ask.TheVariants.{Done, NotYet}
use Rattle.jt_laws.specs.Entries.{same_path}
use Rattle.jt_laws.specs.Locks.{levels_of, waits_of, backs_of, places_of, waiting_of, is_condition}
use Rattle.jt_conditions.specs.declared.absence.Absence.{Absence}
use Rattle.jt_conditions.specs.Absences.{AbsentTasks, absent_code, wholly_notified}
use Rattle.jt_conditions.specs.Locks.{Holder, holder_of, reply_to}

-- the operations on conditions
abbrev pub is_condition_op : Op → Bool
is_condition_op (op.Lock name) = true
is_condition_op (op.Unlock name) = true
is_condition_op (op.CWait name) = true
is_condition_op (op.CBack name) = true
is_condition_op (op.CNotify name all) = true
is_condition_op o = false

-- who holds the lock, who waits, and what is kept of the tasks that aren't back
pub record Condition : Type 0 where
  pub holder : Option Holder
  pub waiting : List (List ℕ)
  pub absent : AbsentTasks

-- from how many of its waits a task isn't back
abbrev pub unanswered : List ℕ → List Entry → ℕ
unanswered path own = waits_of path own - backs_of path own

-- its level before the last of them, and how many of them were notified: those that are in the waiting list no more
abbrev pub absence_of : List ℕ → List Entry → Absence
absence_of path own = record {
  level = (levels_of path own).before_wait;
  waits = unanswered path own;
  notified = unanswered path own - places_of path own;
}

abbrev pub absences : List Entry → AbsentTasks
absences own =
    finite.from_entries (map (λ (e : Entry). (e.task, absence_of e.task own)) (filter (λ e. nat_lt 0 (unanswered e.task own)) own))

abbrev pub condition_of : List Entry → Condition
condition_of own =
    record { holder = holder_of own; waiting = waiting_of own; absent = absences own }

abbrev pub condition_left_by : List Entry → Option Condition
condition_left_by own = if is_condition own then Some (condition_of own) else None

-- how contracts store it
abbrev pub holder_code : Coded Holder
holder_code =
    code_by (List ℕ × ℕ) (coded× (coded_list coded_ℕ) coded_ℕ) (λ h. (h.task, h.level)) (λ p. record { task = p.0; level = p.1 }) (λ _. refl)

abbrev pub condition_code : Coded Condition
condition_code =
    code_by (Option Holder × (List (List ℕ) × AbsentTasks)) (coded× (coded_option holder_code) (coded× (coded_list (coded_list coded_ℕ)) absent_code)) (λ c. (c.holder, (c.waiting, c.absent))) (λ p. record { holder = p.0; waiting = p.1.0; absent = p.1.1 }) (λ _. refl)

-- with another holder
abbrev pub held_by : Condition → Option Holder → Condition
held_by c holder = record { holder = holder; waiting = c.waiting; absent = c.absent }

-- a wait gives the lock up and joins the waiting list
abbrev pub one_more_wait : Option Absence → ℕ → Absence
one_more_wait None level = record { level = level; waits = 1; notified = 0 }
one_more_wait (Some a) level =
    record { level = level; waits = a.waits + 1; notified = a.notified }

abbrev pub waits_in : AbsentTasks → List ℕ → ℕ
waits_in absent task = (one_more_wait (finite.get absent task) 0).waits - 1

abbrev pub gone : Condition → List ℕ → ℕ → Condition
gone c task level = record {
  holder = None;
  waiting = c.waiting ++ task ∷ [];
  absent = finite.insert c.absent task (one_more_wait (finite.get c.absent task) level);
}

abbrev pub gone_by : Condition → Option Holder → List ℕ → Condition
gone_by c None task = c
gone_by c (Some h) task = if same_path h.task task then gone c task h.level else c

abbrev pub after_wait : Condition → List ℕ → Condition
after_wait c task = gone_by c c.holder task

-- a notify takes tasks from the front of the waiting list
abbrev pub notified_once : Absence → Absence
notified_once a = record {
  level = a.level;
  waits = a.waits;
  notified = if nat_lt a.notified a.waits then a.notified + 1 else a.notified;
}

abbrev pub put_notified : AbsentTasks → List ℕ → Option Absence → AbsentTasks
put_notified absent task None = absent
put_notified absent task (Some a) = finite.insert absent task (notified_once a)

abbrev pub with_notified : AbsentTasks → List ℕ → AbsentTasks
with_notified absent task = put_notified absent task (finite.get absent task)

abbrev pub how_many : Bool → List (List ℕ) → ℕ
how_many true waiting = length waiting
how_many false waiting = min 1 (length waiting)

-- a notify of all notifies every wait
abbrev pub all_notified : AbsentTasks → AbsentTasks
all_notified absent = finite.from_entries (map (λ e. (e.0, wholly_notified e.1)) (finite.entries absent))

abbrev pub woken : Bool → Condition → Condition
woken true c = record { holder = c.holder; waiting = []; absent = all_notified c.absent }
woken false c = record {
  holder = c.holder;
  waiting = drop 1 c.waiting;
  absent = fold with_notified c.absent (take 1 c.waiting);
}

abbrev pub notify_answer : Condition → List ℕ → Bool → Ask
notify_answer c task all = Done (reply_to c.holder task (reply.Int (pos (how_many all c.waiting))))

abbrev pub woken_by : Condition → Option Holder → List ℕ → Bool → Condition
woken_by c None task all = c
woken_by c (Some h) task all = if same_path h.task task then woken all c else c

abbrev pub after_notify : Condition → List ℕ → Bool → Condition
after_notify c task all = woken_by c c.holder task all

-- a task that was notified comes back while the lock is free, with the levels that it gave up
abbrev pub one_less_wait : AbsentTasks → List ℕ → Absence → AbsentTasks
one_less_wait absent task a =
    if nat_le a.waits 1 then finite.remove absent task else finite.insert absent task (record { level = a.level; waits = a.waits - 1; notified = a.notified - 1 })

-- what is kept of it where it may come back
abbrev pub returning_by : Option Holder → Option Absence → Option Absence
returning_by None None = None
returning_by None (Some a) = if nat_lt 0 a.notified then Some a else None
returning_by (Some h) a = None

abbrev pub returning : Condition → List ℕ → Option Absence
returning c task = returning_by c.holder (finite.get c.absent task)

abbrev pub back_by : Option Absence → Ask
back_by None = NotYet
back_by (Some a) = Done reply.Ok

abbrev pub back_answer : Condition → List ℕ → Ask
back_answer c task = back_by (returning c task)

abbrev pub back : Condition → List ℕ → Absence → Condition
back c task a = record {
  holder = Some (record { task = task; level = a.level });
  waiting = c.waiting;
  absent = one_less_wait c.absent task a;
}

abbrev pub back_with : Condition → List ℕ → Option Absence → Condition
back_with c task None = c
back_with c task (Some a) = back c task a

abbrev pub after_back : Condition → List ℕ → Condition
after_back c task = back_with c task (returning c task)
