-- The words of each command.
use Rattle.std.specs.Prelude.{◌≡◌, ◌≤◌, ⊤, List, [], ◌∷◌, Option, Some, None, codes, length}
use Rattle.jt_base.specs.Limits.{default_limits}
use Rattle.jt_words.specs.Options.{Choice, GivenOption, Spell, Text, flag, is_given, value_of, valued}
use Rattle.jt_words.specs.Values.{ancestry_named, default_seed, number, one_worker, or_default, required, seed_named, sizes_named, total}
use Rattle.jt_words.specs.declared.command.RunOptions.{RunOptions}
use Rattle.jt_words.specs.declared.command.DrawsOptions.{DrawsOptions}
use Rattle.jt_words.specs.declared.command.GenOptions.{GenOptions}
use Rattle.jt_words.specs.declared.command.Command.{Command}
use Rattle.jt_words.specs.declared.command.Command.TheVariants.{Run, Trace, Check, Draws, Gen}

abbrev pub run_choices : List Choice
run_choices = valued (codes "threads") ∷ valued (codes "seed") ∷ valued (codes "picks") ∷ valued (codes "max-turns") ∷ valued (codes "max-events") ∷ []

-- the words are options of `run` or `trace`, and say this
pub record AreRunOptions (words : List Text) (run : RunOptions) : Type 0 where
  pub options : List GivenOption
  pub spell : Spell run_choices [] options words
  pub threads : or_default one_worker sizes_named (value_of (codes "threads") options) ≡ Some run.sizes
  pub seed : or_default default_seed seed_named (value_of (codes "seed") options) ≡ Some run.seeds.words
  pub picks : or_default 0 (number 0 18446744073709551615) (value_of (codes "picks") options) ≡ Some run.picks
  pub turns : or_default default_limits.turns (number 1 1000000000) (value_of (codes "max-turns") options) ≡ Some run.limits.turns
  pub events : or_default default_limits.events (number 1 262144) (value_of (codes "max-events") options) ≡ Some run.limits.events

abbrev pub draws_choices : List Choice
draws_choices = valued (codes "seed") ∷ valued (codes "count") ∷ valued (codes "path") ∷ []

-- the words are options of `draws`, and say this
pub record AreDrawsOptions (words : List Text) (draws : DrawsOptions) : Type 0 where
  pub options : List GivenOption
  pub spell : Spell draws_choices [] options words
  pub seed : or_default default_seed seed_named (value_of (codes "seed") options) ≡ Some draws.seeds.words
  pub count : required (number 1 1000) (value_of (codes "count") options) ≡ Some draws.count
  pub path : or_default [] ancestry_named (value_of (codes "path") options) ≡ Some draws.ancestry

abbrev pub gen_choices : List Choice
gen_choices = valued (codes "size") ∷ flag (codes "text") ∷ []

-- the words are options of `gen`, and say this
pub record AreGenOptions (words : List Text) (gen : GenOptions) : Type 0 where
  pub options : List GivenOption
  pub spell : Spell gen_choices [] options words
  pub size : required (number 1 80) (value_of (codes "size") options) ≡ Some gen.size
  pub text : is_given (codes "text") options ≡ gen.text

-- `check` has no options
abbrev pub check_of : List Text → Option Command
check_of [] = Some Check
check_of (word ∷ words) = None

-- the first word names the command, and the others are its options
abbrev pub IsCommand : List Text → Command → Type 0
IsCommand [] command = ⊥
IsCommand (first ∷ words) (Run run) = (first ≡ codes "run") × AreRunOptions words run
IsCommand (first ∷ words) (Trace run) = (first ≡ codes "trace") × AreRunOptions words run
IsCommand (first ∷ words) Check = (first ≡ codes "check") × (words ≡ [])
IsCommand (first ∷ words) (Draws draws) = (first ≡ codes "draws") × AreDrawsOptions words draws
IsCommand (first ∷ words) (Gen gen) = (first ≡ codes "gen") × AreGenOptions words gen

-- the numbers of a run lie within their limits
pub record IsRunWithinLimits (run : RunOptions) : Type 0 where
  pub default : (1 ≤ run.sizes.default) × (run.sizes.default ≤ 64)
  pub interactive : run.sizes.interactive ≤ 16
  pub turns : (1 ≤ run.limits.turns) × (run.limits.turns ≤ 1000000000)
  pub events : (1 ≤ run.limits.events) × (run.limits.events ≤ 262144)

-- the numbers of a command lie within their limits
abbrev pub IsWithinLimits : Command → Type 0
IsWithinLimits (Run run) = IsRunWithinLimits run
IsWithinLimits (Trace run) = IsRunWithinLimits run
IsWithinLimits Check = ⊤
IsWithinLimits (Draws draws) = ((1 ≤ draws.count) × (draws.count ≤ 1000)) × (length draws.ancestry ≤ 48) × (total draws.ancestry ≤ 1000000)
IsWithinLimits (Gen gen) = (1 ≤ gen.size) × (gen.size ≤ 80)

-- what the words say, or nothing exactly where they say nothing
abbrev pub Exactly : {X : Type 0} → (X → Type 0) → Option X → Type 0
Exactly says (Some x) = says x
Exactly {X} says None = (x : X) → says x → ⊥
