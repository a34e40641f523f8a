-- What the words of a command say, and that they say one thing.
use Rattle.std.proofs.Common.{◌≡◌, ◌∙◌, ℕ, List, [], Option, Some, None, Bool, refl, sym, ap, codes, IfSome, IfNone}
use Rattle.std.specs.Prelude.{is_some, unwrap_or}
use Rattle.clap.specs.Matches.{first_value, found_of, matched_of}
use Rattle.clap.proofs.OnLiterals.{clap_on_literals}
use Rattle.clap.specs.declared.parser.matches.ArgMatches.{ArgMatches}
use Rattle.jt_base.specs.Limits.{default_limits}
use Rattle.jt_base.specs.declared.run.Sizes.{Sizes}
use Rattle.jt_words.specs.Commands.{Exactly, AreDrawsOptions, AreGenOptions, AreRunOptions, draws_choices, gen_choices, run_choices}
use Rattle.jt_words.specs.Options.{Choice, GivenOption, Spell, Text, is_given, value_of}
use Rattle.jt_words.specs.Parser.{IsPlain, Parsed}
use Rattle.jt_words.specs.Values.{ancestry_named, default_seed, number, one_worker, or_default, required, seed_named, sizes_named}
use Rattle.jt_words.specs.declared.ancestry.Ancestor.{Ancestor}
use Rattle.jt_words.specs.declared.command.DrawsOptions.{DrawsOptions}
use Rattle.jt_words.specs.declared.command.GenOptions.{GenOptions}
use Rattle.jt_words.specs.declared.command.RunOptions.{RunOptions}
use Rattle.jt_words.proofs.Spelling.{spelled_back}

pub run_is_plain : IsPlain (codes "run") run_choices
unfolding clap_on_literals
run_is_plain = (refl, refl)

pub draws_is_plain : IsPlain (codes "draws") draws_choices
unfolding clap_on_literals
draws_is_plain = (refl, refl)

pub gen_is_plain : IsPlain (codes "gen") gen_choices
unfolding clap_on_literals
gen_is_plain = (refl, refl)

-- ---- options

-- no words are two lists of options
one_spelling : (name : Text) (choices : List Choice) (words : List Text) (a b : List GivenOption) → IsPlain name choices → Spell choices [] a words → Spell choices [] b words → a ≡ b
one_spelling name choices words a b plain first second =
    ap (λ o. unwrap_or o a) (sym (spelled_back choices words a plain.1 first) ∙ spelled_back choices words b plain.1 second)

-- what a reader makes of the value of an option is one thing
one : {X : Type 0} (f : Option Text → Option X) (name : Text) (xs ys : List GivenOption) (x y : X) → xs ≡ ys
    → f (value_of name xs) ≡ Some x → f (value_of name ys) ≡ Some y → x ≡ y
one f name xs ys x y same first second = ap (λ o. unwrap_or o x) (sym first ∙ ap (λ o. f (value_of name o)) same ∙ second)

-- what is made of clap's value is what is made of the option's
read : {X : Type 0} (m : ArgMatches) (options : List GivenOption) (f : Option Text → Option X) (name : Text) {o : Option X} {x : X}
    → ((name : Text) → first_value (found_of m) name ≡ value_of name options)
    → o ≡ f (first_value (found_of m) name) → o ≡ Some x → f (value_of name options) ≡ Some x
read m options f name values is e = ap f (sym (values name)) ∙ sym is ∙ e

-- and the other way round
read_back : {X : Type 0} (m : ArgMatches) (options others : List GivenOption) (f : Option Text → Option X) (name : Text) {o : Option X} {x : X}
    → ((name : Text) → first_value (found_of m) name ≡ value_of name options) → others ≡ options
    → o ≡ f (first_value (found_of m) name) → f (value_of name others) ≡ Some x → o ≡ Some x
read_back m options others f name values same is e = is ∙ ap f (values name) ∙ ap (λ o. f (value_of name o)) (sym same) ∙ e

-- ---- run and trace

pub one_run : (words : List Text) (a b : RunOptions) → AreRunOptions words a → AreRunOptions words b → a ≡ b
one_run words a b first second =
    let same = one_spelling (codes "run") run_choices words first.options second.options run_is_plain first.spell second.spell in
    ap (λ x. record a { sizes = x }) (one (or_default one_worker sizes_named) (codes "threads") _ _ a.sizes b.sizes same first.threads second.threads)
    ∙ ap (λ x. record a { sizes = b.sizes; seeds = record { words = x } }) (one (or_default default_seed seed_named) (codes "seed") _ _ a.seeds.words b.seeds.words same first.seed second.seed)
    ∙ ap (λ x. record b { picks = x; limits = a.limits }) (one (or_default 0 (number 0 18446744073709551615)) (codes "picks") _ _ a.picks b.picks same first.picks second.picks)
    ∙ ap (λ x. record b { limits = record a.limits { turns = x } }) (one (or_default default_limits.turns (number 1 1000000000)) (codes "max-turns") _ _ a.limits.turns b.limits.turns same first.turns second.turns)
    ∙ ap (λ x. record b { limits = record b.limits { events = x } }) (one (or_default default_limits.events (number 1 262144)) (codes "max-events") _ _ a.limits.events b.limits.events same first.events second.events)

pub run_answered : (words : List Text) (m : ArgMatches) (r : Option RunOptions) (sizes : Option Sizes) (seed : Option (List ℕ)) (picks turns events : Option ℕ)
    → Parsed run_choices words (Some m)
    → sizes ≡ or_default one_worker sizes_named (first_value (found_of m) (codes "threads"))
    → seed ≡ or_default default_seed seed_named (first_value (found_of m) (codes "seed"))
    → picks ≡ or_default 0 (number 0 18446744073709551615) (first_value (found_of m) (codes "picks"))
    → turns ≡ or_default default_limits.turns (number 1 1000000000) (first_value (found_of m) (codes "max-turns"))
    → events ≡ or_default default_limits.events (number 1 262144) (first_value (found_of m) (codes "max-events"))
    → IfSome r (λ r. (sizes ≡ Some r.sizes) × (seed ≡ Some r.seeds.words) × (picks ≡ Some r.picks) × (turns ≡ Some r.limits.turns) × (events ≡ Some r.limits.events))
    → IfNone r ((r : RunOptions) → sizes ≡ Some r.sizes → seed ≡ Some r.seeds.words → picks ≡ Some r.picks → turns ≡ Some r.limits.turns → events ≡ Some r.limits.events → ⊥)
    → Exactly (AreRunOptions words) r
run_answered words m (Some r) sizes seed picks turns events (options, spell, values, given) sizes_is seed_is picks_is turns_is events_is some none =
    record {
      options = options;
      spell = spell;
      threads = read m options (or_default one_worker sizes_named) (codes "threads") values sizes_is some.0;
      seed = read m options (or_default default_seed seed_named) (codes "seed") values seed_is some.1;
      picks = read m options (or_default 0 (number 0 18446744073709551615)) (codes "picks") values picks_is some.2;
      turns = read m options (or_default default_limits.turns (number 1 1000000000)) (codes "max-turns") values turns_is some.3;
      events = read m options (or_default default_limits.events (number 1 262144)) (codes "max-events") values events_is some.4;
    }
run_answered words m None sizes seed picks turns events (options, spell, values, given) sizes_is seed_is picks_is turns_is events_is some none = λ r run.
    let same : run.options ≡ options = one_spelling (codes "run") run_choices words run.options options run_is_plain run.spell spell in
    none r
    (read_back m options run.options (or_default one_worker sizes_named) (codes "threads") values same sizes_is run.threads)
    (read_back m options run.options (or_default default_seed seed_named) (codes "seed") values same seed_is run.seed)
    (read_back m options run.options (or_default 0 (number 0 18446744073709551615)) (codes "picks") values same picks_is run.picks)
    (read_back m options run.options (or_default default_limits.turns (number 1 1000000000)) (codes "max-turns") values same turns_is run.turns)
    (read_back m options run.options (or_default default_limits.events (number 1 262144)) (codes "max-events") values same events_is run.events)

-- ---- draws

pub one_draws : (words : List Text) (a b : DrawsOptions) → AreDrawsOptions words a → AreDrawsOptions words b → a ≡ b
one_draws words a b first second =
    let same = one_spelling (codes "draws") draws_choices words first.options second.options draws_is_plain first.spell second.spell in
    ap (λ x. record a { seeds = record { words = x } }) (one (or_default default_seed seed_named) (codes "seed") _ _ a.seeds.words b.seeds.words same first.seed second.seed)
    ∙ ap (λ x. record b { count = x; ancestry = a.ancestry }) (one (required (number 1 1000)) (codes "count") _ _ a.count b.count same first.count second.count)
    ∙ ap (λ x. record b { ancestry = x }) (one (or_default [] ancestry_named) (codes "path") _ _ a.ancestry b.ancestry same first.path second.path)

pub draws_answered : (words : List Text) (m : ArgMatches) (r : Option DrawsOptions) (seed : Option (List ℕ)) (count : Option ℕ) (ancestry : Option (List Ancestor))
    → Parsed draws_choices words (Some m)
    → seed ≡ or_default default_seed seed_named (first_value (found_of m) (codes "seed"))
    → count ≡ required (number 1 1000) (first_value (found_of m) (codes "count"))
    → ancestry ≡ or_default [] ancestry_named (first_value (found_of m) (codes "path"))
    → IfSome r (λ d. (seed ≡ Some d.seeds.words) × (count ≡ Some d.count) × (ancestry ≡ Some d.ancestry))
    → IfNone r ((d : DrawsOptions) → seed ≡ Some d.seeds.words → count ≡ Some d.count → ancestry ≡ Some d.ancestry → ⊥)
    → Exactly (AreDrawsOptions words) r
draws_answered words m (Some d) seed count ancestry (options, spell, values, given) seed_is count_is ancestry_is some none = record {
  options = options;
  spell = spell;
  seed = read m options (or_default default_seed seed_named) (codes "seed") values seed_is some.0;
  count = read m options (required (number 1 1000)) (codes "count") values count_is some.1;
  path = read m options (or_default [] ancestry_named) (codes "path") values ancestry_is some.2;
}
draws_answered words m None seed count ancestry (options, spell, values, given) seed_is count_is ancestry_is some none = λ d draws.
    let same : draws.options ≡ options = one_spelling (codes "draws") draws_choices words draws.options options draws_is_plain draws.spell spell in
    none d
    (read_back m options draws.options (or_default default_seed seed_named) (codes "seed") values same seed_is draws.seed)
    (read_back m options draws.options (required (number 1 1000)) (codes "count") values same count_is draws.count)
    (read_back m options draws.options (or_default [] ancestry_named) (codes "path") values same ancestry_is draws.path)

-- ---- gen

pub one_gen : (words : List Text) (a b : GenOptions) → AreGenOptions words a → AreGenOptions words b → a ≡ b
one_gen words a b first second =
    let same = one_spelling (codes "gen") gen_choices words first.options second.options gen_is_plain first.spell second.spell in
    ap (λ x. record a { size = x }) (one (required (number 1 80)) (codes "size") _ _ a.size b.size same first.size second.size)
    ∙ ap (λ x. record b { text = x }) (sym first.text ∙ ap (λ o. is_given (codes "text") o) same ∙ second.text)

pub gen_answered : (words : List Text) (m : ArgMatches) (r : Option GenOptions) (size : Option ℕ) (text : Bool)
    → Parsed gen_choices words (Some m)
    → size ≡ required (number 1 80) (first_value (found_of m) (codes "size"))
    → text ≡ is_some (matched_of (found_of m) (codes "text"))
    → IfSome r (λ g. (size ≡ Some g.size) × (text ≡ g.text))
    → IfNone r ((g : GenOptions) → size ≡ Some g.size → ⊥)
    → Exactly (AreGenOptions words) r
gen_answered words m (Some g) size text (options, spell, values, given) size_is text_is some none = record {
  options = options;
  spell = spell;
  size = read m options (required (number 1 80)) (codes "size") values size_is some.0;
  text = sym (given (codes "text")) ∙ sym text_is ∙ some.1;
}
gen_answered words m None size text (options, spell, values, given) size_is text_is some none = λ g gen.
    let same : gen.options ≡ options = one_spelling (codes "gen") gen_choices words gen.options options gen_is_plain gen.spell spell in
    none g (read_back m options gen.options (required (number 1 80)) (codes "size") values same size_is gen.size)
