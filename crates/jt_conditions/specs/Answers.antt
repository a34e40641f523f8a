-- Which answers are replies.
use Rattle.std.specs.Prelude.{Bool, true, false}
use Rattle.jt_base.specs.declared.entry.Ask.{Ask}
use Rattle.jt_base.specs.declared.entry.Ask.TheVariants.{Done, NotYet}

abbrev pub is_done : Ask → Bool
is_done (Done r) = true
is_done NotYet = false
