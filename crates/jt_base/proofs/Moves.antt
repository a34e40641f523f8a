-- Bytes that are moved between lists.
use Rattle.std.proofs.Common.{◌≡◌, ℕ, ◌+◌, ◌<◌, ◌≤◌, List, [], ◌++◌, length, take, drop, min, sym, ap, ◌∙◌, arith, take-append-drop, drop-drop, length-drop}
use Rattle.std.proofs.lemmas.List.{take_at, length-take-le, drop_all}

-- what stands at the front of a buffer, as it was copied from the bytes at a place, and what lies behind those
pub copied_front : (xs chunk rest : List ℕ) (at n : ℕ) → chunk ≡ take n (drop at xs) → n ≤ length (drop at xs)
    → drop at xs ≡ take n (chunk ++ rest) ++ drop (at + n) xs
copied_front xs chunk rest at n e h =
    let whole : length chunk ≡ n = ap length e ∙ length-take-le n (drop at xs) h in
    rw (take_at chunk rest n whole, ← drop-drop n at xs, e) (sym (take-append-drop n (drop at xs)))

-- where a move of as many bytes as may be moves none though there is room for one, none is left
pub nothing_left : (xs : List ℕ) (at room most n : ℕ) → n ≡ min (min (length (drop at xs)) room) most → n ≡ 0 → 0 < room → 0 < most
    → drop (at + n) xs ≡ []
nothing_left xs at room most n e z r m = drop_all (at + n) xs (omega (arith, length-drop at xs))
