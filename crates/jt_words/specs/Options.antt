-- The options of a command line.
use Rattle.std.specs.Prelude.{◌≡◌, ◌⊎◌, ◌++◌, ◌∷◌, [], ℕ, Bool, true, false, List, Option, Some, None, is_some, if◌then◌else◌, codes}
use Rattle.std.specs.List.{list_any}
use Rattle.std.specs.Str.{bytes_eq}

abbrev pub Text : Type 0
Text = List ℕ

-- an option that a command has: its name, and whether it takes a value; one that doesn't is a flag
pub record Choice : Type 0 where
  pub name : Text
  pub takes_value : Bool

abbrev pub valued : Text → Choice
valued name = record { name = name; takes_value = true }

abbrev pub flag : Text → Choice
flag name = record { name = name; takes_value = false }

-- an option as it is given: its name, and its value, which a flag doesn't have
abbrev pub GivenOption : Type 0
GivenOption = Text × Option Text

abbrev pub BeginsWithHyphen : Text → Type 0
BeginsWithHyphen word = (rest : Text) × (word ≡ codes "-" ++ rest)

-- the words begin with this option, as `--name value` or `--name=value`, or `--name` of a flag, and go on with the rest
abbrev pub StartWith : Text → Option Text → List Text → List Text → Type 0
StartWith name (Some value) words rest =
    ((words ≡ (codes "--" ++ name) ∷ value ∷ rest) × (BeginsWithHyphen value → ⊥))
    ⊎ (words ≡ (codes "--" ++ (name ++ (codes "=" ++ value))) ∷ rest)
StartWith name None words rest = words ≡ (codes "--" ++ name) ∷ rest

-- whether the option of this name takes a value, if the command has one
abbrev pub takes_value : List Choice → Text → Option Bool
takes_value [] name = None
takes_value (choice ∷ choices) name = if bytes_eq choice.name name then Some choice.takes_value else takes_value choices name

-- an option of this name is given
abbrev pub is_given : Text → List GivenOption → Bool
is_given name options = list_any (λ option. bytes_eq option.0 name) options

-- behind the options before them, the words spell these: they begin with the first, which is one of the command's and
-- isn't given before, and go on with the others
abbrev pub Spell : List Choice → List GivenOption → List GivenOption → List Text → Type 0
Spell choices before [] words = words ≡ []
Spell choices before (option ∷ options) words =
    (rest : List Text) × StartWith option.0 option.1 words rest × (takes_value choices option.0 ≡ Some (is_some option.1))
    × (is_given option.0 before ≡ false) × Spell choices (before ++ option ∷ []) options rest

-- the value that is given to the option of this name, if there is one
abbrev pub value_of : Text → List GivenOption → Option Text
value_of name [] = None
value_of name (option ∷ options) = if bytes_eq option.0 name then option.1 else value_of name options
