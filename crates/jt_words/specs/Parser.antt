-- What clap is told of a command, and what it answers.
use Rattle.std.specs.Prelude.{◌≡◌, ◌==◌, ◌||◌, List, [], ◌∷◌, Option, Some, None, Bool, true, false, not, is_some, map, codes, if◌then◌else◌}
use Rattle.std.specs.List.{list_all}
use Rattle.clap.specs.Faults.{is_simple_and_free}
use Rattle.clap.specs.Lexer.{has_byte}
use Rattle.clap.specs.Words.{App, Rule, first_value, found_of, matched_of, new_app, new_rule}
use Rattle.clap.specs.declared.builder.action.ArgAction.TheVariants.{Set}
use Rattle.clap.specs.declared.parser.matches.ArgMatches.{ArgMatches}
use Rattle.jt_words.specs.Commands.{draws_choices, gen_choices, run_choices}
use Rattle.jt_words.specs.Options.{Choice, GivenOption, Spell, Text, is_given, value_of}

-- a word that begins with a hyphen begins with two and goes on
abbrev pub is_readable : Text → Bool
is_readable [] = true
is_readable (a ∷ []) = not (a == 45)
is_readable (a ∷ b ∷ []) = not (a == 45)
is_readable (a ∷ b ∷ c ∷ rest) = not (a == 45) || b == 45

abbrev pub are_readable : List Text → Bool
are_readable words = list_all is_readable words

-- an option that takes one value
abbrev pub option_rule : Text → Rule
option_rule name = record (new_rule name) { long = Some name }

-- an option that takes none
abbrev pub flag_rule : Text → Rule
flag_rule name = record (new_rule name) {
  long = Some name;
  action = Some Set;
  range = Some (record { start_inclusive = 0; end_inclusive = 0 });
}

abbrev pub rule_told : Choice → Rule
rule_told choice = if choice.takes_value then option_rule choice.name else flag_rule choice.name

-- a command that has these options alone
abbrev pub parser_of : Text → List Choice → App
parser_of name choices = record (new_app name) {
  top = record (new_app name).top {
    no_binary_name = true;
    disable_help_flag = true;
    disable_version_flag = true;
    rules = map rule_told choices;
  };
}

abbrev pub run_parser : App
run_parser = parser_of (codes "run") run_choices

abbrev pub draws_parser : App
draws_parser = parser_of (codes "draws") draws_choices

abbrev pub gen_parser : App
gen_parser = parser_of (codes "gen") gen_choices

-- the matches are there exactly where the words spell options of these choices, and have what is given
abbrev pub Parsed : List Choice → List Text → Option ArgMatches → Type 0
Parsed choices words None = (options : List GivenOption) → Spell choices [] options words → ⊥
Parsed choices words (Some matches) = (options : List GivenOption) × Spell choices [] options words
    × ((name : Text) → first_value (found_of matches) name ≡ value_of name options)
    × ((name : Text) → is_some (matched_of (found_of matches) name) ≡ is_given name options)

-- a name that an option may have: it isn't empty, and has no `=`
abbrev pub is_option_name : Text → Bool
is_option_name [] = false
is_option_name (x ∷ xs) = not (has_byte 61 (x ∷ xs))

-- a command that clap reads as it is told
abbrev pub IsPlain : Text → List Choice → Type 0
IsPlain name choices = (is_simple_and_free (parser_of name choices) ≡ true) × (list_all (λ choice. is_option_name choice.name) choices ≡ true)
