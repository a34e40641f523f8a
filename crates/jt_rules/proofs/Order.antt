-- Broken rules are in one order.
use Rattle.std.proofs.Common.{◌≡◌, true, false, arith}
use Rattle.std.proofs.lemmas.Bool.Decides.{nat_tests}
use Rattle.jt_naming.specs.Rules.{below}
use Rattle.jt_naming.specs.declared.rules.Broken.{Broken}

pub below_self : (a : Broken) → below a a ≡ false
below_self a = grind (arith, nat_tests)

pub below_through : (x a b : Broken) → below x a ≡ true → below x b ≡ false → below a b ≡ false
below_through x a b p q = grind (arith, nat_tests)

pub below_other : (x a b : Broken) → below x a ≡ false → below a b ≡ false → below x b ≡ false
below_other x a b p q = grind (arith, nat_tests)
