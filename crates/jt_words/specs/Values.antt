-- What the value of an option says.
use Rattle.std.specs.Prelude.{ℕ, ◌+◌, ◌*◌, ◌-◌, ◌==◌, List, [], ◌∷◌, Bool, ◌&&◌, Option, Some, None, length, nat_le, if◌then◌else◌}
use Rattle.std.specs.List.{slice_split}
use Rattle.jt_base.specs.declared.run.Sizes.{Sizes}
use Rattle.jt_words.specs.Options.{Text}
use Rattle.jt_words.specs.declared.ancestry.Ancestor.{Ancestor}

-- ---- numbers

-- a decimal digit
abbrev pub is_digit : ℕ → Bool
is_digit c = nat_le 48 c && nat_le c 57

-- the number that these digits go on with
abbrev pub number_from : ℕ → Text → Option ℕ
number_from n [] = Some n
number_from n (c ∷ cs) = if is_digit c then number_from (n * 10 + (c - 48)) cs else None

-- the same from a number that is there, or not
abbrev pub number_with : Option ℕ → Text → Option ℕ
number_with None cs = None
number_with (Some n) cs = number_from n cs

-- a number has 1 to 20 digits; leading zeros are allowed
abbrev pub number_named : Text → Option ℕ
number_named [] = None
number_named (c ∷ cs) = if nat_le (length cs) 19 then number_from 0 (c ∷ cs) else None

-- in a range
abbrev pub within : ℕ → ℕ → Option ℕ → Option ℕ
within least most None = None
within least most (Some n) = if nat_le least n && nat_le n most then Some n else None

abbrev pub number : ℕ → ℕ → Text → Option ℕ
number least most text = within least most (number_named text)

-- ---- lists

-- the texts between the separators
abbrev pub fields : ℕ → Text → List Text
fields separator text = slice_split (λ b. b == separator) text

abbrev pub first_and_more : {X : Type 0} → Option X → Option (List X) → Option (List X)
first_and_more (Some x) (Some xs) = Some (x ∷ xs)
first_and_more (Some x) None = None
first_and_more None xs = None

-- what each text says, if each says something
abbrev pub each : {X : Type 0} → (Text → Option X) → List Text → Option (List X)
each read [] = Some []
each read (text ∷ texts) = first_and_more (read text) (each read texts)

-- ---- options that may be missing, and options that may not

abbrev pub or_default : {X : Type 0} → X → (Text → Option X) → Option Text → Option X
or_default default read None = Some default
or_default default read (Some text) = read text

abbrev pub required : {X : Type 0} → (Text → Option X) → Option Text → Option X
required read None = None
required read (Some text) = read text

-- ---- numbers of workers

-- one default worker, and no interactive one
abbrev pub one_worker : Sizes
one_worker = record { default = 1; interactive = 0 }

abbrev pub sizes_with : Option ℕ → Option ℕ → Option Sizes
sizes_with (Some n) (Some m) = Some (record { default = n; interactive = m })
sizes_with (Some n) None = None
sizes_with None m = None

-- `N` or `N,M`: the default workers, and the interactive ones, none where the number is missing
abbrev pub sizes_in : List Text → Option Sizes
sizes_in [] = None
sizes_in (n ∷ []) = sizes_with (number 1 64 n) (Some 0)
sizes_in (n ∷ m ∷ []) = sizes_with (number 1 64 n) (number 0 16 m)
sizes_in (n ∷ m ∷ more ∷ rest) = None

abbrev pub sizes_named : Text → Option Sizes
sizes_named text = sizes_in (fields 44 text)

-- ---- seed words

abbrev pub default_seed : List ℕ
default_seed = 1 ∷ 2 ∷ 3 ∷ 4 ∷ 5 ∷ []

abbrev pub seed_word : Text → Option ℕ
seed_word text = number 0 18446744073709551615 text

abbrev pub five : Option ℕ → Option ℕ → Option ℕ → Option ℕ → Option ℕ → Option (List ℕ)
five (Some a) (Some b) (Some c) (Some d) (Some e) = Some (a ∷ b ∷ c ∷ d ∷ e ∷ [])
five a b c d e = None

-- `A,B,C,D,E`
abbrev pub seed_in : List Text → Option (List ℕ)
seed_in (a ∷ b ∷ c ∷ d ∷ e ∷ []) = five (seed_word a) (seed_word b) (seed_word c) (seed_word d) (seed_word e)
seed_in fields = None

abbrev pub seed_named : Text → Option (List ℕ)
seed_named text = seed_in (fields 44 text)

-- ---- the ancestors of a task

abbrev pub ancestor_with : Option ℕ → Option ℕ → Option Ancestor
ancestor_with (Some d) (Some f) = Some (record { draws = d; forks = f })
ancestor_with (Some d) None = None
ancestor_with None f = None

-- `D:F`
abbrev pub ancestor_in : List Text → Option Ancestor
ancestor_in [] = None
ancestor_in (d ∷ []) = None
ancestor_in (d ∷ f ∷ []) = ancestor_with (number 0 1000000 d) (number 0 1000000 f)
ancestor_in (d ∷ f ∷ more ∷ rest) = None

abbrev pub ancestor_named : Text → Option Ancestor
ancestor_named text = ancestor_in (fields 58 text)

-- all draws and forks
abbrev pub total : List Ancestor → ℕ
total [] = 0
total (a ∷ ancestors) = a.draws + a.forks + total ancestors

-- at most 48 ancestors, whose draws and forks are 1,000,000 together at most
abbrev pub short : Option (List Ancestor) → Option (List Ancestor)
short None = None
short (Some ancestors) = if nat_le (length ancestors) 48 && nat_le (total ancestors) 1000000 then Some ancestors else None

-- `D:F,D:F` and so on
abbrev pub ancestry_named : Text → Option (List Ancestor)
ancestry_named text = short (each ancestor_named (fields 44 text))
