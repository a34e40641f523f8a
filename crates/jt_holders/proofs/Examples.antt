-- The depths of names in a few open lists.
use Rattle.std.proofs.Common.{◌≡◌, List, [], ◌∷◌, refl}
use Rattle.std.specs.Prelude.{codes}
use Rattle.jt_syntax.specs.declared.script.Identifier.{Identifier}
use Rattle.jt_names.specs.Names.{Name}
use Rattle.jt_holders.specs.Holding.{depths, innermost, innermost_within}

abbrev named : Name → Identifier
named x = record { name = x; at = 0 }

-- three lists, the outermost one last
abbrev lists : List (List Identifier)
lists = (named (codes "x") ∷ []) ∷ (named (codes "y") ∷ named (codes "x") ∷ []) ∷ (named (codes "z") ∷ named (codes "y") ∷ []) ∷ []

x_is_in_two : depths lists (codes "x") ≡ 3 ∷ 2 ∷ []
x_is_in_two = refl

innermost_y : innermost lists (codes "y") ≡ 2
innermost_y = refl

innermost_w : innermost lists (codes "w") ≡ 0
innermost_w = refl

-- among the two outermost lists
innermost_x : innermost_within 2 lists (codes "x") ≡ 2
innermost_x = refl

outermost_x : innermost_within 1 lists (codes "x") ≡ 0
outermost_x = refl
