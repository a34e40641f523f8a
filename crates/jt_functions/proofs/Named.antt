-- The name of each function of the language leads back to it.
use Rattle.std.proofs.Common.{◌≡◌, Some, refl}
use Rattle.jt_functions.specs.Functions.{row_of, named, language_functions}
use Rattle.jt_functions.specs.declared.function.Function.{Function}
use Rattle.jt_functions.specs.declared.function.Function.TheVariants as function

-- by computing, for each function
pub named_again : (f : Function) → named (row_of f).name ≡ Some f
unfolding language_functions
named_again function.Div = refl
named_again f = refl

pub name_alone : (f g : Function) → (row_of g).name ≡ (row_of f).name → g ≡ f
name_alone f g same = let back = named_again f in let other = named_again g in cc
