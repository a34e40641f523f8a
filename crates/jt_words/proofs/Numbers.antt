-- A number doesn't become smaller by further digits.
use Rattle.std.proofs.Common.{◌≡◌, ℕ, ◌+◌, ◌*◌, ◌-◌, ◌<◌, List, [], ◌∷◌, Some, None, Bool, true, false, ◌&&◌, refl, ap, ◌∙◌, arith}
use Rattle.std.specs.Prelude.{nat_le, if◌then◌else◌}
use Rattle.std.proofs.lemmas.Bool.{lt-leb}
use Rattle.jt_words.specs.Values.{is_digit, number_from, within}

pub too_large : (most n : ℕ) (cs : List ℕ) → most < n → within 0 most (number_from n cs) ≡ None
too_large most n [] h = ap (λ b. if nat_le 0 n && b then Some n else None) (lt-leb n most h) ∙ none_by (nat_le 0 n) n
  where
    none_by : (b : Bool) (n : ℕ) → (if b && false then Some n else None) ≡ None
    none_by true n = refl
    none_by false n = refl
too_large most n (c ∷ cs) h = by_digit (is_digit c) (too_large most (n * 10 + (c - 48)) cs (omega arith))
  where
    by_digit : (b : Bool) → within 0 most (number_from (n * 10 + (c - 48)) cs) ≡ None → within 0 most (if b then number_from (n * 10 + (c - 48)) cs else None) ≡ None
    by_digit true e = e
    by_digit false e = refl
