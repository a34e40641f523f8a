-- Five fields, no fewer and no more.
use Rattle.std.proofs.Common.{◌≡◌, ◌<◌, ◌≤◌, List, [], ◌∷◌, None, refl, map, length, arith, Bor}
use Rattle.jt_words.specs.Options.{Text}
use Rattle.jt_words.specs.Values.{seed_in}

pub fewer : (ts : List (Bor Text)) → length ts < 5 → None ≡ seed_in (map (λ f. f.now) ts)
fewer [] h = refl
fewer (a ∷ []) h = refl
fewer (a ∷ b ∷ []) h = refl
fewer (a ∷ b ∷ c ∷ []) h = refl
fewer (a ∷ b ∷ c ∷ d ∷ []) h = refl
fewer (a ∷ b ∷ c ∷ d ∷ e ∷ ts) h = absurd (omega arith)

pub more : (ts : List (Bor Text)) → 6 ≤ length ts → None ≡ seed_in (map (λ f. f.now) ts)
more [] h = absurd (omega arith)
more (a ∷ []) h = absurd (omega arith)
more (a ∷ b ∷ []) h = absurd (omega arith)
more (a ∷ b ∷ c ∷ []) h = absurd (omega arith)
more (a ∷ b ∷ c ∷ d ∷ []) h = absurd (omega arith)
more (a ∷ b ∷ c ∷ d ∷ e ∷ []) h = absurd (omega arith)
more (a ∷ b ∷ c ∷ d ∷ e ∷ f ∷ ts) h = refl
