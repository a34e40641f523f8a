-- The limits of scripts and of their runs.
use Rattle.std.specs.Prelude.{ℕ}
use Rattle.jt_base.specs.declared.run.Limits.{Limits}

-- the most bytes of a script
abbrev pub most_script : ℕ
most_script = 1048576

-- the most openers of a script that may be open at once
abbrev pub most_open : ℕ
most_open = 200

-- the most calls of a task that may be open at once
abbrev pub most_calls : ℕ
most_calls = 10000

-- the most turns of a task, and the greatest stamp, where no others are chosen
abbrev pub default_limits : Limits
default_limits = record { turns = 100000000; events = 262144 }
