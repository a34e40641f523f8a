use Rattle.std.proofs.Common.{◌≡◌, ◌-◌, ◌≤◌, ◌++◌}
use Rattle.std.specs.List.{range_with_len}
use Rattle.jt_sleep_core.proofs.numbers.Numbers.push_range.Given as goal

abbrev pub invariant-loop-number : goal.invariant-loop-number
invariant-loop-number l =
    record {
      inside : l.number ≤ l.fn.end;
      so_far : l.self ≡ l.fn.self ++ range_with_len l.fn.start (l.number - l.fn.start);
    }
