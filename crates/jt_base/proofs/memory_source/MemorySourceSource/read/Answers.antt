-- What a read copied into the buffer is what the source lost.
use Rattle.std.proofs.Common.{◌≡◌, ◌≤◌, ◌-◌, length, take, drop, min, arith}
use Rattle.std.proofs.lemmas.List.{take_rest}
use Rattle.jt_base.proofs.Moves.{copied_front, nothing_left}
use Rattle.jt_base.proofs.memory_source.MemorySourceSource.read.Goals as goal

pub returns-clause-bytes : goal.returns-clause-bytes
returns-clause-bytes c =
    let xs = c.self.inside.bytes.items in
    let at = c.self.inside.position in
    let n = c.min-count.result in
    let view : c.args.self.now.left ≡ drop at xs = cc in
    let rest : take (length c.deref-2.result.now - at) (drop at c.deref-2.result.now) ≡ drop at xs = rw c.deref-2.ensures.value (take_rest xs at) in
    let count : n ≡ min (min (length (drop at xs)) (length c.args.buf.now)) c.self.inside.most = cc in
    let chunk : c.copy_from_slice.new.self ≡ take n (drop at xs) = cc in
    let fits : n ≤ length (drop at xs) = omega arith in (
      rw view (copied_front xs c.copy_from_slice.new.self (drop n c.args.buf.now) at n chunk fits),
      λ none room. nothing_left xs at (length c.args.buf.now) c.self.inside.most n count none (omega (arith, room)) (omega arith),
    )
