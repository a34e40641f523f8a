-- What a refusal says of a script.
use Rattle.std.specs.Prelude.{ℕ, List}
use Rattle.jt_syntax.specs.Tree.{TopTree}
use Rattle.jt_naming.specs.declared.rules.Broken.{Broken}
use Rattle.jt_naming.specs.declared.rules.Rule.{Rule}
use Rattle.jt_naming.specs.declared.rules.Rule.TheVariants as rule
use Rattle.jt_naming.specs.Rules.{broken}
use Rattle.jt_naming.specs.Scripts.{Breaks}
use Rattle.jt_naming.specs.declared.error.NameError.{NameError}
use Rattle.jt_naming.specs.declared.error.NameError.TheVariants as error

-- the rule is the one that counts, and is broken there
abbrev pub RefusesNames : List TopTree → NameError → Type 0
RefusesNames tops (error.UnknownName at) = Breaks tops (broken at rule.UnknownName)
RefusesNames tops (error.CapturedAssigned at) = Breaks tops (broken at rule.CapturedAssigned)
RefusesNames tops (error.AmbiguousGlobal at) = Breaks tops (broken at rule.AmbiguousGlobal)
RefusesNames tops (error.TwiceDefined at) = Breaks tops (broken at rule.TwiceDefined)
RefusesNames tops (error.WrongCount at) = Breaks tops (broken at rule.WrongCount)
RefusesNames tops (error.NoConstant at) = Breaks tops (broken at rule.NoConstant)
RefusesNames tops (error.BadJump at) = Breaks tops (broken at rule.BadJump)
RefusesNames tops error.OutOfMemory = Unit {0}

-- the error for a rule that is broken at this place
abbrev pub refusal_at : ℕ → Rule → NameError
refusal_at at rule.UnknownName = error.UnknownName at
refusal_at at rule.CapturedAssigned = error.CapturedAssigned at
refusal_at at rule.AmbiguousGlobal = error.AmbiguousGlobal at
refusal_at at rule.TwiceDefined = error.TwiceDefined at
refusal_at at rule.WrongCount = error.WrongCount at
refusal_at at rule.NoConstant = error.NoConstant at
refusal_at at rule.BadJump = error.BadJump at

abbrev pub refusal_of : Broken → NameError
refusal_of b = refusal_at b.at b.rule
