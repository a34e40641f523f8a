-- The error for the rule that counts says of the script what is so.
use Rattle.std.proofs.Common.{ℕ, List}
use Rattle.jt_syntax.specs.Tree.{TopTree}
use Rattle.jt_naming.specs.declared.rules.Broken.{Broken}
use Rattle.jt_naming.specs.declared.rules.Rule.{Rule}
use Rattle.jt_naming.specs.declared.rules.Rule.TheVariants as rule
use Rattle.jt_naming.specs.Rules.{broken}
use Rattle.jt_naming.specs.Scripts.{Breaks}
use Rattle.jt_naming.specs.Refusals.{RefusesNames, refusal_at, refusal_of}

refused_at : (ts : List TopTree) (at : ℕ) (r : Rule) → Breaks ts (broken at r) → RefusesNames ts (refusal_at at r)
refused_at ts at rule.UnknownName h = h
refused_at ts at rule.CapturedAssigned h = h
refused_at ts at rule.AmbiguousGlobal h = h
refused_at ts at rule.TwiceDefined h = h
refused_at ts at rule.WrongCount h = h
refused_at ts at rule.NoConstant h = h
refused_at ts at rule.BadJump h = h

pub refused : (ts : List TopTree) (b : Broken) → Breaks ts b → RefusesNames ts (refusal_of b)
refused ts b h = refused_at ts b.at b.rule h
