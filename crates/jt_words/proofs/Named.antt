-- A command is that of its first word.
use Rattle.std.proofs.Common.{◌≡◌, ◌∙◌, List, [], ◌∷◌, Option, Some, None, Bool, true, false, refl, sym, ap, codes, true≢false}
use Rattle.std.specs.Prelude.{option_map}
use Rattle.std.specs.Str.{bytes_eq}
use Rattle.jt_words.specs.Options.{Text}
use Rattle.jt_words.specs.Commands.{Exactly, IsCommand, AreDrawsOptions, AreGenOptions, AreRunOptions, check_of}
use Rattle.jt_words.specs.declared.command.DrawsOptions.{DrawsOptions}
use Rattle.jt_words.specs.declared.command.GenOptions.{GenOptions}
use Rattle.jt_words.specs.declared.command.RunOptions.{RunOptions}
use Rattle.jt_words.specs.declared.command.Command.{Command}
use Rattle.jt_words.specs.declared.command.Command.TheVariants.{Run, Trace, Check, Draws, Gen}
use Rattle.jt_words.proofs.Answered.{one_draws, one_gen, one_run}

-- a text is no two words
differs : {X : Type 0} (first a b : Text) → bytes_eq a a ≡ true → bytes_eq a b ≡ false → first ≡ a → first ≡ b → X
differs first a b same other is_a is_b = absurd (true≢false (sym same ∙ ap (bytes_eq a) (sym is_a ∙ is_b) ∙ other))

-- ---- what stands behind each word

pub behind_run : (first : Text) (words : List Text) → first ≡ codes "run" → (c : Command) → IsCommand (first ∷ words) c → (run : RunOptions) × (c ≡ Run run) × AreRunOptions words run
behind_run first words is (Run run) (named, says) = (run, refl, says)
behind_run first words is (Trace run) (named, says) = differs first (codes "run") (codes "trace") refl refl is named
behind_run first words is Check (named, says) = differs first (codes "run") (codes "check") refl refl is named
behind_run first words is (Draws draws) (named, says) = differs first (codes "run") (codes "draws") refl refl is named
behind_run first words is (Gen gen) (named, says) = differs first (codes "run") (codes "gen") refl refl is named

pub behind_trace : (first : Text) (words : List Text) → first ≡ codes "trace" → (c : Command) → IsCommand (first ∷ words) c → (run : RunOptions) × (c ≡ Trace run) × AreRunOptions words run
behind_trace first words is (Run run) (named, says) = differs first (codes "trace") (codes "run") refl refl is named
behind_trace first words is (Trace run) (named, says) = (run, refl, says)
behind_trace first words is Check (named, says) = differs first (codes "trace") (codes "check") refl refl is named
behind_trace first words is (Draws draws) (named, says) = differs first (codes "trace") (codes "draws") refl refl is named
behind_trace first words is (Gen gen) (named, says) = differs first (codes "trace") (codes "gen") refl refl is named

pub behind_check : (first : Text) (words : List Text) → first ≡ codes "check" → (c : Command) → IsCommand (first ∷ words) c → (c ≡ Check) × (words ≡ [])
behind_check first words is (Run run) (named, says) = differs first (codes "check") (codes "run") refl refl is named
behind_check first words is (Trace run) (named, says) = differs first (codes "check") (codes "trace") refl refl is named
behind_check first words is Check (named, says) = (refl, says)
behind_check first words is (Draws draws) (named, says) = differs first (codes "check") (codes "draws") refl refl is named
behind_check first words is (Gen gen) (named, says) = differs first (codes "check") (codes "gen") refl refl is named

pub behind_draws : (first : Text) (words : List Text) → first ≡ codes "draws" → (c : Command) → IsCommand (first ∷ words) c → (draws : DrawsOptions) × (c ≡ Draws draws) × AreDrawsOptions words draws
behind_draws first words is (Run run) (named, says) = differs first (codes "draws") (codes "run") refl refl is named
behind_draws first words is (Trace run) (named, says) = differs first (codes "draws") (codes "trace") refl refl is named
behind_draws first words is Check (named, says) = differs first (codes "draws") (codes "check") refl refl is named
behind_draws first words is (Draws draws) (named, says) = (draws, refl, says)
behind_draws first words is (Gen gen) (named, says) = differs first (codes "draws") (codes "gen") refl refl is named

pub behind_gen : (first : Text) (words : List Text) → first ≡ codes "gen" → (c : Command) → IsCommand (first ∷ words) c → (gen : GenOptions) × (c ≡ Gen gen) × AreGenOptions words gen
behind_gen first words is (Run run) (named, says) = differs first (codes "gen") (codes "run") refl refl is named
behind_gen first words is (Trace run) (named, says) = differs first (codes "gen") (codes "trace") refl refl is named
behind_gen first words is Check (named, says) = differs first (codes "gen") (codes "check") refl refl is named
behind_gen first words is (Draws draws) (named, says) = differs first (codes "gen") (codes "draws") refl refl is named
behind_gen first words is (Gen gen) (named, says) = (gen, refl, says)

-- ---- the answers

pub run_says : (first : Text) (words : List Text) (run : Option RunOptions) → first ≡ codes "run" → Exactly (AreRunOptions words) run → Exactly (IsCommand (first ∷ words)) (option_map Run run)
run_says first words (Some run) is says = (is, says)
run_says first words None is none = λ c says. let (run, same, is_run) = behind_run first words is c says in none run is_run

pub trace_says : (first : Text) (words : List Text) (run : Option RunOptions) → first ≡ codes "trace" → Exactly (AreRunOptions words) run → Exactly (IsCommand (first ∷ words)) (option_map Trace run)
trace_says first words (Some run) is says = (is, says)
trace_says first words None is none = λ c says. let (run, same, is_run) = behind_trace first words is c says in none run is_run

pub check_says : (first : Text) (words : List Text) → first ≡ codes "check" → Exactly (IsCommand (first ∷ words)) (check_of words)
check_says first [] is = (is, refl)
check_says first (w ∷ ws) is = λ c says. true≢false (ap is_empty (sym (behind_check first (w ∷ ws) is c says).1))
  where
    is_empty : List Text → Bool
    is_empty [] = true
    is_empty (x ∷ xs) = false

pub draws_says : (first : Text) (words : List Text) (draws : Option DrawsOptions) → first ≡ codes "draws" → Exactly (AreDrawsOptions words) draws → Exactly (IsCommand (first ∷ words)) (option_map Draws draws)
draws_says first words (Some draws) is says = (is, says)
draws_says first words None is none = λ c says. let (draws, same, is_draws) = behind_draws first words is c says in none draws is_draws

pub gen_says : (first : Text) (words : List Text) (gen : Option GenOptions) → first ≡ codes "gen" → Exactly (AreGenOptions words) gen → Exactly (IsCommand (first ∷ words)) (option_map Gen gen)
gen_says first words (Some gen) is says = (is, says)
gen_says first words None is none = λ c says. let (gen, same, is_gen) = behind_gen first words is c says in none gen is_gen

-- ---- the law

pub one_command : (words : List Text) (a b : Command) → IsCommand words a → IsCommand words b → a ≡ b
one_command [] a b says others = absurd says
one_command (first ∷ words) (Run run) b (named, says) others =
    let (other, is, is_run) = behind_run first words named b others in ap Run (one_run words run other says is_run) ∙ sym is
one_command (first ∷ words) (Trace run) b (named, says) others =
    let (other, is, is_run) = behind_trace first words named b others in ap Trace (one_run words run other says is_run) ∙ sym is
one_command (first ∷ words) Check b (named, says) others = sym (behind_check first words named b others).0
one_command (first ∷ words) (Draws draws) b (named, says) others =
    let (other, is, is_draws) = behind_draws first words named b others in ap Draws (one_draws words draws other says is_draws) ∙ sym is
one_command (first ∷ words) (Gen gen) b (named, says) others =
    let (other, is, is_gen) = behind_gen first words named b others in ap Gen (one_gen words gen other says is_gen) ∙ sym is
