-- The options that the words are, as a function that goes word by word as clap does.
use Rattle.std.specs.Prelude.{◌++◌, ◌∷◌, [], Bool, true, false, List, Option, Some, None, if◌then◌else◌}
use Rattle.clap.specs.Lexer.{long_of, is_long_word}
use Rattle.jt_words.specs.Options.{Choice, GivenOption, Text, is_given, takes_value}
use Rattle.jt_words.specs.Parser.{are_readable}

-- between two options, of which the last is held: clap adds it, or refuses it as given twice, only at the next option or the
-- end; or behind a name whose value comes next
pub data Waiting : Type 0 where
  next : Option (Text × Text) → Waiting
  value : Text → Waiting

-- with one more option, which isn't given before
abbrev pub added : List GivenOption → GivenOption → Option (List GivenOption)
added done option = if is_given option.0 done then None else Some (done ++ option ∷ [])

-- with the option that is held
abbrev pub with_held : List GivenOption → Option (Text × Text) → Option (List GivenOption)
with_held done None = Some done
with_held done (Some p) = added done (p.0, Some p.1)

abbrev pub Go : Type 0
Go = List GivenOption → Waiting → Option (List GivenOption)

abbrev pub go_on : Option (List GivenOption) → Go → Option (List GivenOption)
go_on None go = None
go_on (Some done) go = go done (next None)

-- an option's name, whether it takes a value, and what is joined to it by `=`
abbrev pub named : List GivenOption → Text → Option Bool → Option Text → Go → Option (List GivenOption)
named done name None joined go = None
named done name (Some true) None go = go done (value name)
named done name (Some true) (Some v) go = go_on (added done (name, Some v)) go
named done name (Some false) None go = go_on (added done (name, None)) go
named done name (Some false) (Some v) go = None

-- a word, as the name of an option and what is joined to it
abbrev pub met : List Choice → Option (List GivenOption) → Option (Text × Option Text) → Go → Option (List GivenOption)
met choices None long go = None
met choices (Some done) None go = None
met choices (Some done) (Some p) go = named done p.0 (takes_value choices p.0) p.1 go

abbrev pub options_from : List Choice → List GivenOption → Waiting → List Text → Option (List GivenOption)
options_from choices done (next held) [] = with_held done held
options_from choices done (value name) [] = None
options_from choices done (next held) (w ∷ ws) = met choices (with_held done held) (long_of w) (λ d s. options_from choices d s ws)
options_from choices done (value name) (w ∷ ws) = if is_long_word w then None else options_from choices done (next (Some (name, w))) ws

-- the options of the words, where they are options of the command that are given once
abbrev pub options_of : List Choice → List Text → Option (List GivenOption)
options_of choices words = if are_readable words then options_from choices [] (next None) words else None
