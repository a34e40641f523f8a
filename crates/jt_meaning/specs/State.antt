-- What a part of a task goes by, and how it ends.
use Rattle.std.specs.Prelude.{ℕ, zero, suc, ◌+◌, List, [], ◌∷◌, ◌++◌, Option, Some, None, Bool, true, false, take, replicate, slice_set, nat_lt}
use Rattle.jt_base.specs.declared.value.Value.{Value}
use Rattle.jt_base.specs.declared.value.Value.TheVariants.{Nothing, Task}
use Rattle.jt_base.specs.declared.operation.Fault.{Fault}
use Rattle.jt_base.specs.declared.operation.Fault.TheVariants.{TurnLimit, StackLimit, TaskFailed}
use Rattle.jt_base.specs.declared.operation.Op.{Op}
use Rattle.jt_base.specs.declared.operation.Op.TheVariants.{Begin, End, Fail, Spawn, Fetch, Wait, Yield, Print}
use Rattle.jt_base.specs.declared.operation.Reply.{Reply}
use Rattle.jt_base.specs.declared.operation.Reply.TheVariants as reply
use Rattle.jt_base.specs.Limits.{most_calls}
use Rattle.jt_meaning.specs.declared.start.Start.{Start}

-- a task inside a tree: its path, the variables of the open call, the constants, the replies that are
-- not yet taken, the turns that are left, how many calls are open, how many tasks it has made, those
-- that the innermost `@sync` waits for, and the words of its random stream
pub record State : Type 0 where
  pub path : List ℕ
  pub variables : List (Option Value)
  pub constants : List (Option Value)
  pub replies : List Reply
  pub turns : ℕ
  pub open_calls : ℕ
  pub spawned : ℕ
  pub awaited : List (List ℕ)
  pub stream : List ℕ

-- how a part of a task ends
pub data Out : Type 0 where
  -- with a value, and the task goes on
  Gave : (value : Value) (s : State) → Out
  -- with the value of the open call
  Returned : (value : Value) (s : State) → Out
  -- the innermost loop is left
  Broke : (s : State) → Out
  -- the innermost loop goes on to its next turn
  Continued : (s : State) → Out
  -- the task fails
  Faulted : (fault : Fault) (s : State) → Out
  -- an operation that has no reply yet; a spawn with the child's start
  Asks : (op : Op) (start : Option Start) (s : State) → Out
  -- a reply that its operation can't have
  Unfit : Out

-- the turns that are left at the end
abbrev pub turns_of : Out → ℕ
turns_of (Gave value s) = s.turns
turns_of (Returned value s) = s.turns
turns_of (Broke s) = s.turns
turns_of (Continued s) = s.turns
turns_of (Faulted fault s) = s.turns
turns_of (Asks op start s) = s.turns
turns_of Unfit = 0

-- a part of a task; by value, so a choice of two parts is a choice of two functions
abbrev pub TaskPart : Type 0
TaskPart = State → Out

-- goes on with k where a value is given
abbrev pub bind : Out → (Value → TaskPart) → Out
bind (Gave value s) k = k value s
bind (Returned value s) k = Returned value s
bind (Broke s) k = Broke s
bind (Continued s) k = Continued s
bind (Faulted fault s) k = Faulted fault s
bind (Asks op start s) k = Asks op start s
bind Unfit k = Unfit

-- ---- operations

-- what an operation gives by its reply: a value, a fault, or nothing where it can't have the reply
pub data Given : Type 0 where
  value : Value → Given
  fault : Fault → Given
  unfit : Given

abbrev pub given : Op → Reply → Given
given Begin reply.Ok = value Nothing
given (End v) reply.Ok = value Nothing
given (Fail f) reply.Ok = value Nothing
given (Print text) reply.Ok = value Nothing
given (Spawn path how) reply.Ok = value (Task path)
given (Fetch path) (reply.Val v) = value v
given (Fetch path) reply.Failed = fault (TaskFailed path)
given (Wait path) reply.Ok = value Nothing
given (Wait path) reply.Failed = fault (TaskFailed path)
given Yield reply.Ok = value Nothing
given op r = unfit

abbrev pub answered : Given → TaskPart
answered (value v) s = Gave v s
answered (fault f) s = Faulted f s
answered unfit s = Unfit

abbrev pub ask_with : Op → Option Start → State → List Reply → Out
ask_with op start s [] = Asks op start s
ask_with op start s (r ∷ rs) = answered (given op r) (record s { replies = rs })

-- an operation takes the next reply, or waits for it
abbrev pub ask : Op → Option Start → TaskPart
ask op start s = ask_with op start s s.replies

-- ---- turns

-- one turn, where one is left
abbrev pub turn_with : ℕ → TaskPart → TaskPart
turn_with zero k s = Faulted TurnLimit s
turn_with (suc t) k s = k (record s { turns = t })

abbrev pub turn : TaskPart → TaskPart
turn k s = turn_with s.turns k s

-- one turn that opens a call. Where no turn is left and the calls are too many, the turns count, and
-- a call that is refused takes none.
abbrev pub enter_with : ℕ → Bool → TaskPart → TaskPart
enter_with zero free k s = Faulted TurnLimit s
enter_with (suc t) false k s = Faulted StackLimit s
enter_with (suc t) true k s = k (record s { turns = t; open_calls = s.open_calls + 1 })

abbrev pub enter : TaskPart → TaskPart
enter k s = enter_with s.turns (nat_lt s.open_calls most_calls) k s

-- ---- variables

-- a loop's own variables, count of them from the slot first on, have no value at a turn's beginning
abbrev pub renewed : ℕ → ℕ → List (Option Value) → List (Option Value)
renewed first count variables = take first variables ++ replicate count None

abbrev pub renew : ℕ → ℕ → State → State
renew first count s = record s { variables = renewed first count s.variables }

-- the same, and the first of them has this value
abbrev pub renew_with : ℕ → ℕ → Value → State → State
renew_with first count v s = record s { variables = slice_set (renewed first count s.variables) first (Some v) }
