-- The longest words.
use Rattle.jt_trace.proofs.write_operations.operation.Goals as goal

pub returns-in-NewChannel : goal.returns-in-NewChannel
returns-in-NewChannel c = rw c.in-NewChannel.is c.object_and_number.ensures

pub returns-in-NewSemaphore : goal.returns-in-NewSemaphore
returns-in-NewSemaphore c = rw c.in-NewSemaphore.is c.object_and_number-in-NewSemaphore.ensures
