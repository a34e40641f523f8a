-- What is read is in the grammar and within the nesting, and where it is refused, what was taken begins something in the grammar.
use Rattle.std.proofs.Common.{◌≡◌, ℕ, zero, suc, ◌≤◌, Bool, true, false, List, [], ◌∷◌, refl, subst, arith, lit≤}
use Rattle.jt_syntax.specs.Tree.{Tree, Step, TopTree}
use Rattle.jt_syntax.specs.Tree as tree
use Rattle.jt_syntax.specs.declared.token.Sign.TheVariants as sign
use Rattle.jt_syntax.specs.declared.token.Token.{Token}
use Rattle.jt_syntax.specs.declared.token.TokenKind.TheVariants as kind
use Rattle.jt_grammar.specs.declared.Level.TheVariants as levels
use Rattle.jt_grammar.specs.Grammar.{token, At, StepSpells, TopSpells, TopsTail, TopsBody, ScriptSpells}
use Rattle.jt_grammar.specs.Nesting.{TopsWithin}
use Rattle.jt_grammar.specs.Reader.{Parser, read, read_step, read_top, script}
use Rattle.jt_grammar.proofs.Steps.{Nesting, Explains, shown}
use Rattle.jt_grammar.proofs.SoundParts.{Reads, given, part, last, deeper, Room, Enters, expected, relaxed, Free}
use Rattle.jt_grammar.proofs.SoundLists.{body_reads}
use Rattle.jt_grammar.proofs.SoundCalls.{Inner, InnerStep, WithinBy, Looped, Below}
use Rattle.jt_grammar.proofs.SoundOperators.{operand_reads, sum_reads, condition_reads}
use Rattle.jt_grammar.proofs.SoundBlocks.{range_loop_enters}
use Rattle.jt_grammar.proofs.SoundMacros.{whole_reads}
use Rattle.jt_grammar.proofs.SoundSteps.{StepBy, stepped_reads}
use Rattle.jt_grammar.proofs.SoundTops.{TopBy, topped_reads}

-- what the readers explain with at most d openers open
pub record LevelsExplained (n d : ℕ) : Type 0 where
  pub whole : Reads Free (At 1) (WithinBy d) n (read n (suc d) levels.Whole)
  pub condition : Reads Free (At 2) (WithinBy d) n (read n (suc d) levels.Condition)
  pub sum : Reads Free (At 6) (WithinBy d) n (read n (suc d) levels.Sum)
  pub operand : Reads Free (At 9) (WithinBy d) n (read n (suc d) levels.Operand)
  pub loop : Enters Looped (WithinBy d) d n (read n (suc d) levels.Loop)
  pub step : Reads Free StepSpells (StepBy d) n (read_step n (suc d))

from_below : (n d : ℕ) → Below n d (read n d) (read_step n d) → LevelsExplained n d
unfolding read
from_below n d below = record {
  whole = whole_reads n d (read n d) (read_step n d) below;
  condition = condition_reads n d (read n d) (read_step n d) below;
  sum = sum_reads n d (read n d) (read_step n d) below;
  operand = operand_reads n d (read n d) (read_step n d) below;
  loop = range_loop_enters n d (read n d) (read_step n d) below;
  step = stepped_reads n d (read n d) (read_step n d) below;
}

-- where no opener may be open, none of the readers of what is in one is asked
not_asked : (n l : ℕ) → l ≤ 11 → (p : Parser Tree) → Reads (Room 0) (At l) (Inner 0) n p
not_asked n l h p = record { explains = λ c ts. absurd (c false); sample = (token (kind.Number 0) 0 ∷ [], tree.number 0, (h, (0, refl)), (λ b c. c), (refl, tt)) }

below_none : (n : ℕ) → Below n 0 (read n 0) (read_step n 0)
below_none n = record {
  whole = not_asked n 1 (lit≤ tt) (read n 0 levels.Whole);
  condition = not_asked n 2 (lit≤ tt) (read n 0 levels.Condition);
  sum = not_asked n 6 (lit≤ tt) (read n 0 levels.Sum);
  operand = not_asked n 9 (lit≤ tt) (read n 0 levels.Operand);
  loop = λ k e. absurd (omega (arith, e));
  step = record { explains = λ c ts. absurd (c false); sample = (token (kind.Number 0) 0 ∷ [], tree.value (tree.number 0), (lit≤ tt, (0, refl)), (λ b c. c), (refl, tt)) };
}

-- one level up
inner_of : (d : ℕ) (e : Tree) (b : Bool) → WithinBy d b e → Inner (suc d) b e
inner_of d e false k = k
inner_of d e true k = k

inner_step_of : (d : ℕ) (s : Step) (b : Bool) → StepBy d b s → InnerStep (suc d) b s
inner_step_of d s false k = k
inner_step_of d s true k = k

above : (n d l : ℕ) (p : Parser Tree) → Reads Free (At l) (WithinBy d) n p → Reads (Room (suc d)) (At l) (Inner (suc d)) n p
above n d l p r = relaxed (λ e w a. a) (λ e b c k. inner_of d e b k) (given (λ b c. tt) r)

below_some : (n d : ℕ) → LevelsExplained n d → Below n (suc d) (read n (suc d)) (read_step n (suc d))
below_some n d all = record {
  whole = above n d 1 (read n (suc d) levels.Whole) all.whole;
  condition = above n d 2 (read n (suc d) levels.Condition) all.condition;
  sum = above n d 6 (read n (suc d) levels.Sum) all.sum;
  operand = above n d 9 (read n (suc d) levels.Operand) all.operand;
  loop = λ k e. let same : d ≡ k = omega (arith, e) in subst (λ j. Enters Looped (WithinBy j) j n (read n (suc d) levels.Loop)) same all.loop;
  step = relaxed (λ s w a. a) (λ s b c k. inner_step_of d s b k) (given (λ b c. tt) all.step);
}

below_read : (n d : ℕ) → Below n d (read n d) (read_step n d)
below_read n zero = below_none n
below_read n (suc d) = below_some n d (from_below n d (below_read n d))

pub read_explains : (n d : ℕ) → LevelsExplained n d
read_explains n d = from_below n d (below_read n d)

-- ---- scripts

abbrev TopsBy : ℕ → Nesting (List TopTree)
TopsBy d b tops = TopsWithin (deeper d b) tops

top_reads : (n d : ℕ) → Reads Free TopSpells (TopBy d) n (read_top n d)
unfolding read_top
top_reads n d = topped_reads n d (read n d) (read_step n d) (below_read n d)

script_reads : (n d : ℕ) → Reads Free ScriptSpells (TopsBy d) n (script n d)
unfolding script
script_reads n d = part (body_reads TopSpells (TopBy d) TopsTail TopsBody (TopsBy d) [] (λ x xs. x ∷ xs) (λ w h. h) (λ x xs w h. h) (λ w h. h) (λ x xs w h. h) (λ b c. tt) (λ x xs b k l. (k, l)) n (read_top n d) (top_reads n d))
    (λ tops w g. last (λ _. tops) (expected sign.Stop refl) (λ t z m. (w, z, refl, g, (t.at, m))) (λ _ b c _. c.1))

pub script_explains : (n d : ℕ) (ts : List Token) → Explains ScriptSpells (TopsWithin d) (TopsWithin (suc d)) n ts (script n d ts)
script_explains n d ts = shown ScriptSpells (TopsBy d) n ts (script n d ts) ((script_reads n d).explains (λ b. tt) ts)
