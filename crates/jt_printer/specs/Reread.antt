-- What it means that a script which was printed is there again.
use Rattle.std.specs.Prelude.{◌≡◌, ℕ, ◌<◌, List, length, Result, Ok, Err}
use Rattle.jt_base.specs.Limits.{most_script, most_open}
use Rattle.jt_syntax.specs.Tree.{TopTree}
use Rattle.jt_syntax.specs.View.{script_view}
use Rattle.jt_syntax.specs.declared.script.Script.{Script}
use Rattle.jt_lexer.specs.Spelled.{spelled}
use Rattle.jt_grammar.specs.Printed.{script_kinds, bare_script}
use Rattle.jt_printer.specs.Again.{WasRead}
use Rattle.jt_printer.specs.declared.reading.RereadError.{RereadError}
use Rattle.jt_printer.specs.declared.reading.RereadError.TheVariants as error

-- the same script but for its places, unless the printed text is too long or there was no memory
abbrev pub IsReread : List TopTree → Result Script RereadError → Type 0
IsReread tops (Ok script) = bare_script (script_view script) ≡ bare_script tops
IsReread tops (Err error.TooLong) = most_script < length (spelled (script_kinds tops))
IsReread tops (Err error.NoScript) = ⊥
IsReread tops (Err error.OutOfMemory) = Unit {0}

-- what an error says of the script, whether or not it was read from a text
abbrev pub RefusesReread : List TopTree → RereadError → Type 0
RefusesReread tops error.TooLong = most_script < length (spelled (script_kinds tops))
RefusesReread tops error.NoScript = ¬ WasRead most_open tops
RefusesReread tops error.OutOfMemory = Unit {0}

-- it isn't that the printed text is too long
abbrev pub IsShort : RereadError → Type 0
IsShort error.TooLong = ⊥
IsShort error.NoScript = Unit {0}
IsShort error.OutOfMemory = Unit {0}
