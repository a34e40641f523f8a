-- Worked examples of the definitions.
use Rattle.std.proofs.Common.{◌≡◌, ◌∙◌, List, [], ◌∷◌, Some, None, Bool, true, false, inl, inr, refl, sym, ap, codes, true≢false}
use Rattle.std.specs.Str.{bytes_eq}
use Rattle.std.specs.Prelude.{take}
use Rattle.jt_words.specs.Options.{BeginsWithHyphen, Text}
use Rattle.jt_words.specs.Commands.{IsCommand, gen_choices, run_choices}
use Rattle.jt_words.specs.Values.{ancestry_named, number, number_named, seed_named, sizes_named}
use Rattle.jt_words.specs.declared.command.Command.{Command}
use Rattle.jt_words.specs.declared.command.Command.TheVariants.{Run, Trace, Check, Draws, Gen}
use Rattle.jt_words.proofs.Answered.{gen_is_plain, run_is_plain}
use Rattle.jt_words.proofs.Named.{behind_check, behind_gen, behind_run}
use Rattle.jt_words.proofs.Spelling.{spelled_none}
use Rattle.jt_words.proofs.Walking.{options_of}

-- ---- Numbers

leading_zeros : number_named (codes "00000000000000000007") ≡ Some 7
leading_zeros = refl

too_many_digits : number_named (codes "000000000000000000007") ≡ None
too_many_digits = refl

no_digits : number_named [] ≡ None
no_digits = refl

no_sign : number_named (codes "+1") ≡ None
no_sign = refl

greatest_word : number 0 18446744073709551615 (codes "18446744073709551615") ≡ Some 18446744073709551615
greatest_word = refl

beyond_a_word : number 0 18446744073709551615 (codes "18446744073709551616") ≡ None
beyond_a_word = refl

-- ---- Values

four_and_one : sizes_named (codes "4,1") ≡ Some (record { default = 4; interactive = 1 })
four_and_one = refl

four_alone : sizes_named (codes "4") ≡ Some (record { default = 4; interactive = 0 })
four_alone = refl

no_default_worker : sizes_named (codes "0") ≡ None
no_default_worker = refl

missing_number : sizes_named (codes "4,") ≡ None
missing_number = refl

third_number : sizes_named (codes "4,1,1") ≡ None
third_number = refl

most_workers : sizes_named (codes "64,16") ≡ Some (record { default = 64; interactive = 16 })
most_workers = refl

too_many_workers : sizes_named (codes "64,17") ≡ None
too_many_workers = refl

five_words : seed_named (codes "1,2,3,4,0") ≡ Some (1 ∷ 2 ∷ 3 ∷ 4 ∷ 0 ∷ [])
five_words = refl

two_words : seed_named (codes "1,2") ≡ None
two_words = refl

two_ancestors : ancestry_named (codes "1:2,3:4") ≡ Some (record { draws = 1; forks = 2 } ∷ record { draws = 3; forks = 4 } ∷ [])
two_ancestors = refl

most_draws : ancestry_named (codes "1000000:0") ≡ Some (record { draws = 1000000; forks = 0 } ∷ [])
most_draws = refl

too_many_steps : ancestry_named (codes "1000000:0,0:1") ≡ None
too_many_steps = refl

no_ancestors : ancestry_named [] ≡ None
no_ancestors = refl

-- ---- Commands

no_hyphen : (word : Text) → bytes_eq (take 1 word) (codes "-") ≡ false → BeginsWithHyphen word → ⊥
no_hyphen word other (rest, is) = true≢false (sym (ap (λ w. bytes_eq (take 1 w) (codes "-")) is) ∙ other)

run_alone : IsCommand (codes "run" ∷ []) (Run (record {
  sizes = record { default = 1; interactive = 0 };
  seeds = record { words = 1 ∷ 2 ∷ 3 ∷ 4 ∷ 5 ∷ [] };
  picks = 0;
  limits = record { turns = 100000000; events = 262144 };
}))
run_alone = (refl, record { options = []; spell = refl; threads = refl; seed = refl; picks = refl; turns = refl; events = refl })

-- options in any order, apart or joined
trace_with_options : IsCommand (codes "trace" ∷ codes "--picks=7" ∷ codes "--threads" ∷ codes "4,1" ∷ codes "--max-turns" ∷ codes "1000" ∷ []) (Trace (record {
  sizes = record { default = 4; interactive = 1 };
  seeds = record { words = 1 ∷ 2 ∷ 3 ∷ 4 ∷ 5 ∷ [] };
  picks = 7;
  limits = record { turns = 1000; events = 262144 };
}))
trace_with_options = (
  refl,
  record {
    options = (codes "picks", Some (codes "7")) ∷ (codes "threads", Some (codes "4,1")) ∷ (codes "max-turns", Some (codes "1000")) ∷ [];
    spell = (_, inr refl, refl, refl, (_, inl (refl, no_hyphen _ refl), refl, refl, (_, inl (refl, no_hyphen _ refl), refl, refl, refl)));
    threads = refl;
    seed = refl;
    picks = refl;
    turns = refl;
    events = refl;
  },
)

check_alone : IsCommand (codes "check" ∷ []) Check
check_alone = (refl, refl)

draws_of_a_task : IsCommand (codes "draws" ∷ codes "--path" ∷ codes "0:1" ∷ codes "--count=2" ∷ []) (Draws (record {
  seeds = record { words = 1 ∷ 2 ∷ 3 ∷ 4 ∷ 5 ∷ [] };
  count = 2;
  ancestry = record { draws = 0; forks = 1 } ∷ [];
}))
draws_of_a_task = (
  refl,
  record {
    options = (codes "path", Some (codes "0:1")) ∷ (codes "count", Some (codes "2")) ∷ [];
    spell = (_, inl (refl, no_hyphen _ refl), refl, refl, (_, inr refl, refl, refl, refl));
    seed = refl;
    count = refl;
    path = refl;
  },
)

gen_of_a_text : IsCommand (codes "gen" ∷ codes "--text" ∷ codes "--size" ∷ codes "80" ∷ []) (Gen (record { size = 80; text = true }))
gen_of_a_text = (
  refl,
  record {
    options = (codes "text", None) ∷ (codes "size", Some (codes "80")) ∷ [];
    spell = (_, refl, refl, refl, (_, inl (refl, no_hyphen _ refl), refl, refl, refl));
    size = refl;
    text = refl;
  },
)

gen_of_lines : IsCommand (codes "gen" ∷ codes "--size=2" ∷ []) (Gen (record { size = 2; text = false }))
gen_of_lines = (
  refl,
  record {
    options = (codes "size", Some (codes "2")) ∷ [];
    spell = (_, inr refl, refl, refl, refl);
    size = refl;
    text = refl;
  },
)

-- ---- Words that are no command

not_run : (words : List Text) → options_of run_choices words ≡ None → (c : Command) → IsCommand (codes "run" ∷ words) c → ⊥
not_run words none c says =
    let (run, same, is_run) = behind_run (codes "run") words refl c says in
    spelled_none run_choices words run_is_plain.1 none is_run.options is_run.spell

not_gen : (words : List Text) → options_of gen_choices words ≡ None → (c : Command) → IsCommand (codes "gen" ∷ words) c → ⊥
not_gen words none c says =
    let (gen, same, is_gen) = behind_gen (codes "gen") words refl c says in
    spelled_none gen_choices words gen_is_plain.1 none is_gen.options is_gen.spell

no_words : (c : Command) → IsCommand [] c → ⊥
no_words c says = says

hyphens_alone : (c : Command) → IsCommand (codes "run" ∷ codes "--" ∷ []) c → ⊥
hyphens_alone = not_run _ refl

value_with_a_hyphen : (c : Command) → IsCommand (codes "run" ∷ codes "--picks" ∷ codes "-1" ∷ []) c → ⊥
value_with_a_hyphen = not_run _ refl

option_for_a_value : (c : Command) → IsCommand (codes "run" ∷ codes "--picks" ∷ codes "--seed" ∷ codes "1,2,3,4,5" ∷ []) c → ⊥
option_for_a_value = not_run _ refl

no_value : (c : Command) → IsCommand (codes "run" ∷ codes "--picks" ∷ []) c → ⊥
no_value = not_run _ refl

abbreviated : (c : Command) → IsCommand (codes "run" ∷ codes "--pick" ∷ codes "7" ∷ []) c → ⊥
abbreviated = not_run _ refl

given_twice : (c : Command) → IsCommand (codes "run" ∷ codes "--picks=7" ∷ codes "--picks" ∷ codes "7" ∷ []) c → ⊥
given_twice = not_run _ refl

help : (c : Command) → IsCommand (codes "run" ∷ codes "--help" ∷ []) c → ⊥
help = not_run _ refl

stray_word : (c : Command) → IsCommand (codes "run" ∷ codes "x" ∷ []) c → ⊥
stray_word = not_run _ refl

flag_with_a_value : (c : Command) → IsCommand (codes "gen" ∷ codes "--size=2" ∷ codes "--text=" ∷ []) c → ⊥
flag_with_a_value = not_gen _ refl

flag_twice : (c : Command) → IsCommand (codes "gen" ∷ codes "--text" ∷ codes "--size=2" ∷ codes "--text" ∷ []) c → ⊥
flag_twice = not_gen _ refl

flag_before_a_value : (c : Command) → IsCommand (codes "gen" ∷ codes "--size" ∷ codes "--text" ∷ codes "2" ∷ []) c → ⊥
flag_before_a_value = not_gen _ refl

check_of_something : (c : Command) → IsCommand (codes "check" ∷ codes "x" ∷ []) c → ⊥
check_of_something c says = true≢false (ap is_empty (sym (behind_check (codes "check") (codes "x" ∷ []) refl c says).1))
  where
    is_empty : List Text → Bool
    is_empty [] = true
    is_empty (x ∷ xs) = false
