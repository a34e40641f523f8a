-- The objects of operations: the printer, the tasks' completions, and the objects with names.
use Rattle.std.specs.Prelude.{ℕ, List, [], ◌∷◌, ◌++◌}
use Rattle.jt_base.specs.declared.name.Name.{Name}
use Rattle.jt_base.specs.declared.object.Object.{Object}
use Rattle.jt_base.specs.declared.object.Object.TheVariants.{Printer, Task, Named}
use Rattle.jt_base.specs.declared.operation.Op.{Op}
use Rattle.jt_base.specs.declared.operation.Op.TheVariants.{Begin, End, Fail, Spawn, Fetch, Wait, Yield, Print, NewChannel, NewAtomic, NewEvent, NewCondition, NewLock, NewSemaphore, Put, Offer, Landed, Take, Next, Close, IsOpen, IsReady, Notify, Reset, EWait, Lock, Unlock, CWait, CBack, CNotify, Acquire, Release, AGet, ASet, AAdd, ASub, AXchg, ACas}
use Rattle.jt_base.specs.Names.{shard_of}

-- the object of a task's operation
abbrev pub object_of : List ℕ → Op → Object
object_of task Begin = Task task
object_of task (End value) = Task task
object_of task (Fail fault) = Task task
object_of task (Spawn path how) = Task path
object_of task (Fetch path) = Task path
object_of task (Wait path) = Task path
object_of task Yield = Task task
object_of task (Print text) = Printer
object_of task (NewChannel name v) = Named name
object_of task (NewAtomic name v) = Named name
object_of task (NewEvent name v) = Named name
object_of task (NewCondition name) = Named name
object_of task (NewLock name) = Named name
object_of task (NewSemaphore name v) = Named name
object_of task (Put name v) = Named name
object_of task (Offer name v) = Named name
object_of task (Landed name v) = Named name
object_of task (Take name) = Named name
object_of task (Next name) = Named name
object_of task (Close name) = Named name
object_of task (IsOpen name) = Named name
object_of task (IsReady name) = Named name
object_of task (Notify name) = Named name
object_of task (Reset name) = Named name
object_of task (EWait name) = Named name
object_of task (Lock name) = Named name
object_of task (Unlock name) = Named name
object_of task (CWait name) = Named name
object_of task (CBack name) = Named name
object_of task (CNotify name v) = Named name
object_of task (Acquire name) = Named name
object_of task (Release name) = Named name
object_of task (AGet name) = Named name
object_of task (ASet name v) = Named name
object_of task (AAdd name v) = Named name
object_of task (ASub name v) = Named name
object_of task (AXchg name v) = Named name
object_of task (ACas name v w) = Named name

-- the shard of an object: that of its numbers, and 0 for the printer
abbrev pub shard_of_object : Object → ℕ
shard_of_object Printer = 0
shard_of_object (Task path) = shard_of path
shard_of_object (Named name) = shard_of (name.path ++ name.number ∷ [])
