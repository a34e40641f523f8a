-- The items left of a channel, while it is open and after its close.
use Rattle.std.proofs.Common.{◌≡◌, ℕ, List, [], ◌∷◌, ◌++◌, Bool, true, false, ◌&&◌, refl, sym, ap, ◌∙◌}
use Rattle.std.specs.Prelude.{ℤ, if◌then◌else◌, nat_eq}
use Rattle.jt_channels.specs.Steps.{left_in}

pub open_left : (closed : Bool) (capacity : ℕ) (items : List ℤ) → closed ≡ false → left_in closed capacity items ≡ items
open_left closed capacity items h = ap (λ b. if b && nat_eq capacity 0 then [] else items) h

-- with one more item, while the channel is open
pub left_with : (closed : Bool) (capacity : ℕ) (items now : List ℤ) (v : ℤ) → closed ≡ false → now ≡ items ++ v ∷ [] → left_in closed capacity items ++ v ∷ [] ≡ left_in closed capacity now
left_with closed capacity items now v h e =
    ap (λ l. l ++ v ∷ []) (open_left closed capacity items h) ∙ sym e ∙ sym (open_left closed capacity now h)

pub closed_left : (closed : Bool) (capacity : ℕ) (items : List ℤ) → (if nat_eq capacity 0 then [] else left_in closed capacity items) ≡ left_in true capacity items
closed_left true capacity items = twice (nat_eq capacity 0) items
  where
    twice : (b : Bool) (items : List ℤ) → (if b then [] else if b then [] else items) ≡ (if b then [] else items)
    twice true items = refl
    twice false items = refl
closed_left false capacity items = refl
