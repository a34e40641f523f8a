-- Tasks: what a task's own completion replies. Its entries are the Spawn that makes it (none for
-- the main task), its Begin, and its End or Fail, beside the yields of the task and the waits of
-- others.
use Rattle.std.specs.Prelude.{ℕ, List, [], ◌∷◌, Option, Some, None, Bool, true, false, ◌&&◌, not, find, option_and_then}
use Rattle.std.specs.List.{list_any}
use Rattle.jt_base.specs.declared.operation.Op.{Op}
use Rattle.jt_base.specs.declared.operation.Op.TheVariants.{Begin, End, Fail}
use Rattle.jt_base.specs.declared.operation.Reply.{Reply}
use Rattle.jt_base.specs.declared.operation.Reply.TheVariants as reply
use Rattle.jt_base.specs.declared.entry.Entry.{Entry}
use Rattle.jt_laws.specs.Entries.{same_path, spawns, ends}

-- the reply `ok` under a condition
abbrev pub ok_if : Bool → Option Reply
ok_if true = Some reply.Ok
ok_if false = None

-- nothing was done to the object yet
abbrev pub is_new : List Entry → Bool
is_new [] = true
is_new (e ∷ es) = false

abbrev pub is_main : List ℕ → Bool
is_main path = same_path path []

abbrev pub is_begin : Op → Bool
is_begin Begin = true
is_begin op = false

-- the task is there: it is the main task, or its Spawn stands first
abbrev pub is_spawned : List Entry → List ℕ → Bool
is_spawned [] path = is_main path
is_spawned (e ∷ es) path = spawns e.op path

abbrev pub has_begun : List Entry → Bool
has_begun own = list_any (λ e. is_begin e.op) own

abbrev pub has_ended : List Entry → Bool
has_ended own = list_any (λ e. ends e.op) own

-- between its Begin and its End or Fail
abbrev pub is_running : List Entry → Bool
is_running own = has_begun own && not (has_ended own)

-- what a fetch and a wait reply of a task with this last operation
abbrev pub fetch_of : Op → Option Reply
fetch_of (End value) = Some (reply.Val value)
fetch_of (Fail fault) = Some reply.Failed
fetch_of op = None

abbrev pub wait_of : Op → Option Reply
wait_of (End value) = Some reply.Ok
wait_of (Fail fault) = Some reply.Failed
wait_of op = None

-- a task is made once, and the main task never
abbrev pub spawn_reply : List Entry → List ℕ → Option Reply
spawn_reply own path = ok_if (is_new own && not (is_main path))

-- it begins once
abbrev pub begin_reply : List Entry → List ℕ → Option Reply
begin_reply own path = ok_if (is_spawned own path && not (has_begun own))

-- it ends, fails and yields after its Begin, and does nothing after its End or Fail
abbrev pub own_reply : List Entry → Option Reply
own_reply own = ok_if (is_running own)

abbrev pub fetch_reply : List Entry → Option Reply
fetch_reply own = option_and_then (λ (e : Entry). fetch_of e.op) (find (λ e. ends e.op) own)

abbrev pub wait_reply : List Entry → Option Reply
wait_reply own = option_and_then (λ (e : Entry). wait_of e.op) (find (λ e. ends e.op) own)
