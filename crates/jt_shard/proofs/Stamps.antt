-- The last stamp of a log.
use Rattle.std.proofs.Common.{◌≡◌, ℕ, suc, ◌+◌, ◌-◌, ◌<◌, ◌≤◌, ◌^◌, List, [], ◌∷◌, ◌++◌, Some, None, refl, sym, ap, ◌∙◌, subst, arith, length, max}
use Rattle.std.specs.Prelude.{slice_get}
use Rattle.jt_base.specs.declared.entry.Entry.{Entry}
use Rattle.jt_histories.specs.Jobs.{last_entry_from, last_entry}
use Rattle.std.proofs.lemmas.List.{length-append}
use Rattle.jt_shard.specs.Posts.{IsStamped}

step : (x y : Entry) (ys : List Entry) → slice_get (x ∷ y ∷ ys) (length (x ∷ y ∷ ys) - 1) ≡ slice_get (y ∷ ys) (length (y ∷ ys) - 1)
step x y ys = let e : length (x ∷ y ∷ ys) - 1 ≡ suc (length (y ∷ ys) - 1) = omega arith in ap (slice_get (x ∷ y ∷ ys)) e

last_from : (s : ℕ) (x : Entry) (xs : List Entry) (y : Entry) → slice_get (x ∷ xs) (length (x ∷ xs) - 1) ≡ Some y → last_entry_from s (x ∷ xs) ≡ y.stamp
last_from s x [] y e = let p : x ≡ y = cc in ap (λ (v : Entry). v.stamp) p
last_from s x (z ∷ zs) y e = last_from x.stamp z zs y (sym (step x z zs) ∙ e)

not_none : (x : Entry) (xs : List Entry) → None ≡ slice_get (x ∷ xs) (length (x ∷ xs) - 1) → ⊥
not_none x [] e = absurd (cc)
not_none x (z ∷ zs) e = not_none z zs (e ∙ step x z zs)

pub last_some : (log : List Entry) (y : Entry) → Some y ≡ slice_get log (length log - 1) → y.stamp ≡ last_entry log
last_some [] y e = absurd (cc)
last_some (x ∷ xs) y e = sym (last_from 0 x xs y (sym e))

pub last_none : (log : List Entry) → None ≡ slice_get log (length log - 1) → 0 ≡ last_entry log
last_none [] e = refl
last_none (x ∷ xs) e = absurd (not_none x xs e)

-- one more entry, with a greater stamp
push_from : (s : ℕ) (log : List Entry) (e : Entry) → last_entry_from s (log ++ e ∷ []) ≡ e.stamp
push_from s [] e = refl
push_from s (x ∷ xs) e = push_from x.stamp xs e

pub stamped_more : (log : List Entry) (e : Entry) → IsStamped log → last_entry log < e.stamp → IsStamped (log ++ e ∷ [])
stamped_more log e s l =
    let n : length (log ++ e ∷ []) ≡ length log + 1 = length-append log (e ∷ []) in
    subst (λ x. length (log ++ e ∷ []) ≤ x) (sym (push_from 0 log e)) (omega (arith, n, s, l))

-- the stamp after those of a log
pub after_last : (last before stamp : ℕ) → stamp ≡ max last before + 1 → before < stamp
after_last last before stamp e = omega (arith, e)

pub few_entries : (log : List Entry) (stamp : ℕ) → IsStamped log → last_entry log < stamp → stamp < 2 ^ 32 → length log < 2 ^ 32
few_entries log stamp s l b = omega (arith, s, l, b)
