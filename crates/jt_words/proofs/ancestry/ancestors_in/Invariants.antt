use Rattle.std.proofs.Common.{◌≡◌, ◌++◌, drop, map}
use Rattle.std.specs.Option.{option_map}
use Rattle.jt_words.specs.Values as spec
use Rattle.jt_words.proofs.ancestry.ancestors_in.Given as goal

abbrev pub invariant-loop-field : goal.invariant-loop-field
invariant-loop-field l =
    option_map (λ rest. l.ancestors.items ++ rest) (spec.each spec.ancestor_named (map (λ f. f.now) (drop l.field-index l.fields))) ≡ spec.each spec.ancestor_named (map (λ f. f.now) l.fields)
