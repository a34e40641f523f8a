-- The end token stands in no tree.
use Rattle.std.proofs.Common.{ℕ, ◌∷◌, ◌++◌, [], List, inl, inr, Bool, true, false, Option, Some, None, sym, subst}
use Rattle.jt_syntax.specs.Tree.{Tree, Trees, Terms, Arms, Leap, Step, Steps, Form, TopTree}
use Rattle.jt_syntax.specs.Tree as tree
use Rattle.jt_syntax.specs.View.{connective_class}
use Rattle.jt_syntax.specs.declared.operator.AssignmentOperator.{AssignmentOperator}
use Rattle.jt_syntax.specs.declared.operator.AssignmentOperator.TheVariants as assignment
use Rattle.jt_syntax.specs.declared.operator.BinaryOperator.TheVariants as binary
use Rattle.jt_syntax.specs.declared.operator.Class.{Class}
use Rattle.jt_syntax.specs.declared.operator.UnaryOperator.{UnaryOperator}
use Rattle.jt_syntax.specs.declared.operator.UnaryOperator.TheVariants as unary
use Rattle.jt_syntax.specs.declared.script.Identifier.{Identifier}
use Rattle.jt_syntax.specs.declared.script.PoolName.{PoolName}
use Rattle.jt_syntax.specs.declared.script.Schedule.{Schedule}
use Rattle.jt_syntax.specs.declared.token.Sign.{Sign}
use Rattle.jt_syntax.specs.declared.token.Sign.TheVariants as sign
use Rattle.jt_syntax.specs.declared.token.Token.{Token}
use Rattle.jt_syntax.specs.declared.token.TokenKind.{TokenKind}
use Rattle.jt_syntax.specs.declared.token.TokenKind.TheVariants as kind
use Rattle.jt_grammar.specs.Grammar.{unary_sign, power_sign, assignment_sign, Rule, ◌▸◌, ◌∣◌, Nothing, Mark, MarkAt, Word, Letters, Quoted, Truth, IsSeparator, Gap, SomeGap, OfInt64, InOrAssign, pool_word, PoolWord, schedule_word, ScheduleWord, Held, Spells, Listed, Commas, Follow, ArmsSpell, LeapSpells, StepSpells, Body, Tail, MoreNames, Names, FormSpells, TopSpells, TopsTail, TopsBody, IsStop, NoStop}

-- what a rule has is without the end token
pub record Free (P : Rule) : Type 0 where
  pub free : (w : List Token) → P w → NoStop w

no_stop-append : (u v : List Token) → NoStop u → NoStop v → NoStop (u ++ v)
no_stop-append [] v a b = b
no_stop-append (t ∷ u) v a b = (a.0, no_stop-append u v a.1 b)

no : ⊥ → ⊥
no h = h

parts : {P Q : Rule} → Free P → Free Q → Free (P ▸ Q)
parts p q = record { free = λ w a. subst NoStop (sym a.2) (no_stop-append a.0 a.1 (p.free a.0 a.3) (q.free a.1 a.4)) }

either_part : {P Q : Rule} (w : List Token) → Free P → Free Q → (P ∣ Q) w → NoStop w
either_part w p q (inl a) = p.free w a
either_part w p q (inr a) = q.free w a

one_of : {P Q : Rule} → Free P → Free Q → Free (P ∣ Q)
one_of p q = record { free = λ w a. either_part w p q a }

nothing : Free Nothing
nothing = record { free = λ w a. subst NoStop (sym a) tt }

mark : (s : Sign) → (IsStop (kind.Sign s) → ⊥) → Free (Mark s)
mark s h = record { free = λ w a. subst NoStop (sym a.1) (h, tt) }

mark_at : (s : Sign) (at : ℕ) → (IsStop (kind.Sign s) → ⊥) → Free (MarkAt s at)
mark_at s at h = record { free = λ w a. subst NoStop (sym a) (h, tt) }

word : (i : Identifier) → Free (Word i)
word i = record { free = λ w a. subst NoStop (sym a) (no, tt) }

letters : (n : List ℕ) → Free (Letters n)
letters n = record { free = λ w a. subst NoStop (sym a.1) (no, tt) }

quoted : (t : List ℕ) → Free (Quoted t)
quoted t = record { free = λ w a. subst NoStop (sym a.1) (no, tt) }

truth : (b : Bool) → Free (Truth b)
truth true = mark sign.True no
truth false = mark sign.False no

separator : (k : TokenKind) → IsSeparator k → IsStop k → ⊥
separator (kind.Sign sign.Stop) h s = h
separator (kind.Sign _) h s = s
separator (kind.Number _) h s = s
separator (kind.Name _) h s = s
separator (kind.Text _) h s = s

gap_free : (g : List Token) → Gap g → NoStop g
gap_free [] a = tt
gap_free (t ∷ g) a = (separator t.kind a.0, gap_free g a.1)

gap : Free Gap
gap = record { free = gap_free }

some_gap : Free SomeGap
some_gap = record { free = λ w a. gap_free w a.1 }

held : {P : Rule} (l : ℕ) (e : Tree) → Free P → Free (Held l e P)
held l e p = record { free = λ w a. p.free w a.1 }

of_int64 : Free OfInt64
of_int64 = parts (mark sign.OpenCurly no) (parts (mark sign.Int64 no) (mark sign.CloseCurly no))

in_or_assign : Free InOrAssign
in_or_assign = one_of (mark sign.In no) (mark sign.Assign no)

pool : (o : Option PoolName) → Free (PoolWord o)
pool None = nothing
pool (Some p) = parts (mark sign.Colon no) (letters (pool_word p))

schedule : (o : Option Schedule) → Free (ScheduleWord o)
schedule None = nothing
schedule (Some s) = parts (mark sign.Colon no) (letters (schedule_word s))

-- ---- operators

unary_free : (o : UnaryOperator) → Free (Mark (unary_sign o))
unary_free unary.Minus = mark (unary_sign unary.Minus) no
unary_free unary.Plus = mark (unary_sign unary.Plus) no
unary_free unary.Not = mark sign.Not no
unary_free unary.Complement = mark sign.Tilde no

assignment_free : (o : AssignmentOperator) → Free (Mark (assignment_sign o))
assignment_free assignment.Plain = mark sign.Assign no
assignment_free assignment.Plus = mark sign.PlusAssign no
assignment_free assignment.Minus = mark sign.MinusAssign no
assignment_free assignment.Times = mark sign.StarAssign no
assignment_free assignment.Divide = mark sign.DivideAssign no
assignment_free assignment.Remainder = mark sign.PercentAssign no

-- ---- the forms

open_mark : Free (Mark sign.Open)
open_mark = mark sign.Open no

close_mark : Free (Mark sign.Close)
close_mark = mark sign.Close no

end_mark : Free (Mark sign.End)
end_mark = mark sign.End no

mutual
  tree_free : (e : Tree) → Free (Spells e)
  tree_free (tree.text t) = quoted t
  tree_free (tree.number n) = record { free = λ w a. subst NoStop (sym a.1) (no, tt) }
  tree_free (tree.truth b) = truth b
  tree_free (tree.name i) = word i
  tree_free (tree.interpolation at i) = parts (mark_at sign.Dollar at no) (word i)
  tree_free (tree.group e) = parts open_mark (parts (held 1 e (tree_free e)) close_mark)
  tree_free (tree.call i es) = parts (word i) (parts open_mark (parts (listed_free 1 es) close_mark))
  tree_free (tree.println es) = parts (mark sign.Println no) (parts open_mark (parts (listed_free 0 es) close_mark))
  tree_free (tree.error t) = parts (mark sign.Error no) (parts open_mark (parts (quoted t) close_mark))
  tree_free tree.unbuffered = parts (mark sign.Channel no) (parts of_int64 (parts open_mark close_mark))
  tree_free (tree.channel e) = parts (mark sign.Channel no) (parts of_int64 (parts open_mark (parts (held 1 e (tree_free e)) close_mark)))
  tree_free (tree.atomic e) = parts (mark sign.Atomic no) (parts of_int64 (parts open_mark (parts (held 1 e (tree_free e)) close_mark)))
  tree_free tree.least = parts (mark sign.TypeMin no) (parts open_mark (parts (mark sign.Int64 no) close_mark))
  tree_free tree.greatest = parts (mark sign.TypeMax no) (parts open_mark (parts (mark sign.Int64 no) close_mark))
  tree_free tree.random = parts (mark sign.Rand no) (parts open_mark (parts (mark sign.Int64 no) close_mark))
  tree_free (tree.random_in a b) =
      parts (mark sign.Rand no) (parts open_mark (parts (held 6 a (tree_free a)) (parts (mark sign.Colon no) (parts (held 6 b (tree_free b)) close_mark))))
  tree_free (tree.notify e b) =
      parts (letters _) (parts open_mark (parts (held 1 e (tree_free e)) (parts (one_of (mark sign.Comma no) (mark sign.Semicolon no)) (parts (letters _) (parts (mark sign.Assign no) (parts (truth b) close_mark))))))
  tree_free (tree.read i) = parts (word i) (parts (mark sign.OpenSquare no) (mark sign.CloseSquare no))
  tree_free (tree.power a b) = parts (held 11 a (tree_free a)) (parts (mark power_sign no) (held 9 b (tree_free b)))
  tree_free (tree.unary o e) = parts (unary_free o) (held 9 e (tree_free e))
  tree_free (tree.chain c e es) = record { free = λ w a. (parts (held _ e (tree_free e)) (follow_free c es)).free w a.1 }
  tree_free (tree.conditional c a b) = parts (held 3 c (tree_free c)) (parts (mark sign.Question no) (parts (held 2 a (tree_free a)) (parts (mark sign.Colon no) (held 2 b (tree_free b)))))
  tree_free (tree.block ss) = parts (mark sign.Begin no) (parts (body_free ss) end_mark)
  tree_free (tree.branches c ss arms) = parts (mark sign.If no) (parts (held 2 c (tree_free c)) (parts (tail_free ss) (parts (arms_free arms) end_mark)))
  tree_free (tree.while c ss) = parts (mark sign.While no) (parts (held 2 c (tree_free c)) (parts (tail_free ss) end_mark))
  tree_free (tree.for_range i a b ss) =
      parts (mark sign.For no) (parts (word i) (parts in_or_assign (parts (held 6 a (tree_free a)) (parts (mark sign.Colon no) (parts (held 6 b (tree_free b)) (parts (tail_free ss) end_mark))))))
  tree_free (tree.for_each i e ss) = parts (mark sign.For no) (parts (word i) (parts in_or_assign (parts (held 2 e (tree_free e)) (parts (tail_free ss) end_mark))))
  tree_free (tree.spawn at p e) = parts (mark_at sign.Spawn at no) (parts (pool p) (held 1 e (tree_free e)))
  tree_free (tree.async at e) = parts (mark_at sign.Async at no) (held 1 e (tree_free e))
  tree_free (tree.sync e) = parts (mark sign.Sync no) (held 1 e (tree_free e))
  tree_free (tree.threads at s i a b ss) =
      parts (mark_at sign.Threads at no) (parts (schedule s) (parts (mark sign.For no) (parts (word i) (parts in_or_assign (parts (held 6 a (tree_free a)) (parts (mark sign.Colon no) (parts (held 6 b (tree_free b)) (parts (tail_free ss) end_mark))))))))

  listed_free : (l : ℕ) (es : Trees) → Free (Listed l es)
  listed_free l tree.no_trees = nothing
  listed_free l (tree.tree e es) = parts (held l e (tree_free e)) (commas_free l es)

  commas_free : (l : ℕ) (es : Trees) → Free (Commas l es)
  commas_free l tree.no_trees = nothing
  commas_free l (tree.tree e es) = parts (mark sign.Comma no) (parts (held l e (tree_free e)) (commas_free l es))

  follow_free : (c : Class) (es : Terms) → Free (Follow c es)
  follow_free c tree.no_terms = nothing
  follow_free c (tree.term o e es) = record { free = λ w a. (parts (mark (sign.Binary o) no) (parts (held _ e (tree_free e)) (follow_free c es))).free w a.1 }

  arms_free : (arms : Arms) → Free (ArmsSpell arms)
  arms_free tree.no_arms = nothing
  arms_free (tree.otherwise ss) = parts (mark sign.Else no) (body_free ss)
  arms_free (tree.arm c ss arms) = parts (mark sign.ElseIf no) (parts (held 2 c (tree_free c)) (parts (tail_free ss) (arms_free arms)))

  leap_free : (j : Leap) → Free (LeapSpells j)
  leap_free (tree.return_nothing at) = mark_at sign.Return at no
  leap_free (tree.return_value at e) = parts (mark_at sign.Return at no) (held 1 e (tree_free e))
  leap_free (tree.break_loop at) = mark_at sign.Break at no
  leap_free (tree.continue_loop at) = mark_at sign.Continue at no

  step_free : (x : Step) → Free (StepSpells x)
  step_free (tree.assign i o e) = parts (word i) (parts (assignment_free o) (held 1 e (tree_free e)))
  step_free (tree.store i e) = parts (word i) (parts (mark sign.OpenSquare no) (parts (mark sign.CloseSquare no) (parts (mark sign.Assign no) (held 1 e (tree_free e)))))
  step_free (tree.jump j) = leap_free j
  step_free (tree.guard c e es j) = parts (held _ e (tree_free e)) (parts (follow_free (connective_class c) es) (parts (mark (sign.Binary (binary.Connective c)) no) (leap_free j)))
  step_free (tree.value e) = held 1 e (tree_free e)

  body_free : (xs : Steps) → Free (Body xs)
  body_free tree.no_steps = gap
  body_free (tree.step x xs) = parts gap (parts (step_free x) (tail_free xs))

  tail_free : (xs : Steps) → Free (Tail xs)
  tail_free tree.no_steps = gap
  tail_free (tree.step x xs) = parts some_gap (parts (step_free x) (tail_free xs))

-- ---- what stands between two separators of a script

more_names_free : (is : List Identifier) → Free (MoreNames is)
more_names_free [] = nothing
more_names_free (i ∷ is) = parts (mark sign.Comma no) (parts (word i) (more_names_free is))

names_free : (is : List Identifier) → Free (Names is)
names_free [] = nothing
names_free (i ∷ is) = parts (word i) (more_names_free is)

form_free : (f : Form) → Free (FormSpells f)
form_free tree.using_threads = parts (mark sign.Using no) (mark sign.BaseThreads no)
form_free (tree.constant i e) = parts (mark sign.Const no) (parts (word i) (parts (mark sign.Assign no) (held 1 e (tree_free e))))
form_free (tree.function i is ss) = parts (mark sign.Function no) (parts (word i) (parts open_mark (parts (names_free is) (parts close_mark (parts (tail_free ss) end_mark)))))
form_free (tree.short i is e) = parts (word i) (parts open_mark (parts (names_free is) (parts close_mark (parts (mark sign.Assign no) (held 1 e (tree_free e))))))
form_free (tree.plain s) = step_free s

top_free : (x : TopTree) → Free (TopSpells x)
top_free x = record { free = λ w a. (form_free x.1).free w a.1 }

tops_tail_free : (xs : List TopTree) → Free (TopsTail xs)
tops_tail_free [] = gap
tops_tail_free (x ∷ xs) = parts some_gap (parts (top_free x) (tops_tail_free xs))

pub tops_free : (xs : List TopTree) → Free (TopsBody xs)
tops_free [] = gap
tops_free (x ∷ xs) = parts gap (parts (top_free x) (tops_tail_free xs))
