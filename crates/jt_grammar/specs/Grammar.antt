-- The grammar, apart from how it is read: which lists of tokens spell a tree.
use Rattle.std.specs.Prelude.{◌≡◌, ℕ, suc, ◌≤◌, ◌<◌, Bool, true, false, ◌⊎◌, List, [], ◌∷◌, ◌++◌, length, Option, Some, None, codes}
use Rattle.jt_syntax.specs.Tree.{Tree, Trees, Terms, Arms, Leap, Step, Steps, Form, TopTree}
use Rattle.jt_syntax.specs.Tree as tree
use Rattle.jt_syntax.specs.View.{connective_class, operator_class}
use Rattle.jt_syntax.specs.declared.operator.ArithmeticOperator.TheVariants as arithmetic
use Rattle.jt_syntax.specs.declared.operator.AssignmentOperator.{AssignmentOperator}
use Rattle.jt_syntax.specs.declared.operator.AssignmentOperator.TheVariants as assignment
use Rattle.jt_syntax.specs.declared.operator.BinaryOperator.TheVariants as binary
use Rattle.jt_syntax.specs.declared.operator.Class.{Class}
use Rattle.jt_syntax.specs.declared.operator.Class.TheVariants as class
use Rattle.jt_syntax.specs.declared.operator.UnaryOperator.{UnaryOperator}
use Rattle.jt_syntax.specs.declared.operator.UnaryOperator.TheVariants as unary
use Rattle.jt_syntax.specs.declared.script.Identifier.{Identifier}
use Rattle.jt_syntax.specs.declared.script.PoolName.{PoolName}
use Rattle.jt_syntax.specs.declared.script.PoolName.TheVariants as pool
use Rattle.jt_syntax.specs.declared.script.Schedule.{Schedule}
use Rattle.jt_syntax.specs.declared.script.Schedule.TheVariants as schedule
use Rattle.jt_syntax.specs.declared.token.Sign.{Sign}
use Rattle.jt_syntax.specs.declared.token.Sign.TheVariants as sign
use Rattle.jt_syntax.specs.declared.token.Token.{Token}
use Rattle.jt_syntax.specs.declared.token.TokenKind.{TokenKind}
use Rattle.jt_syntax.specs.declared.token.TokenKind.TheVariants as kind

abbrev pub token : TokenKind → ℕ → Token
token k at = record { kind = k; at = at }

-- ---- operators

abbrev pub unary_sign : UnaryOperator → Sign
unary_sign unary.Minus = sign.Binary (binary.Arithmetic arithmetic.Subtract)
unary_sign unary.Plus = sign.Binary (binary.Arithmetic arithmetic.Add)
unary_sign unary.Not = sign.Not
unary_sign unary.Complement = sign.Tilde

-- `^`
abbrev pub power_sign : Sign
power_sign = sign.Binary (binary.Arithmetic arithmetic.Power)

abbrev pub assignment_sign : AssignmentOperator → Sign
assignment_sign assignment.Plain = sign.Assign
assignment_sign assignment.Plus = sign.PlusAssign
assignment_sign assignment.Minus = sign.MinusAssign
assignment_sign assignment.Times = sign.StarAssign
assignment_sign assignment.Divide = sign.DivideAssign
assignment_sign assignment.Remainder = sign.PercentAssign

-- ---- how tightly a form holds together; an operand must hold more tightly than its operator

abbrev pub class_level : Class → ℕ
class_level class.Or = 3
class_level class.And = 4
class_level class.Comparison = 5
class_level class.Sum = 6
class_level class.Product = 7
class_level class.Shift = 8

abbrev pub level : Tree → ℕ
level (tree.text t) = 0
level (tree.block ss) = 1
level (tree.branches c ss arms) = 1
level (tree.while c ss) = 1
level (tree.for_range i a b ss) = 1
level (tree.for_each i e ss) = 1
level (tree.spawn at p e) = 1
level (tree.async at e) = 1
level (tree.sync e) = 1
level (tree.threads at s i a b ss) = 1
level (tree.conditional c a b) = 2
level (tree.chain c e es) = class_level c
level (tree.unary o e) = 9
level (tree.power a b) = 10
level (tree.number n) = 11
level (tree.truth b) = 11
level (tree.name i) = 11
level (tree.interpolation at i) = 11
level (tree.group e) = 11
level (tree.call i es) = 11
level (tree.println es) = 11
level (tree.error t) = 11
level tree.unbuffered = 11
level (tree.channel e) = 11
level (tree.atomic e) = 11
level tree.least = 11
level tree.greatest = 11
level tree.random = 11
level (tree.random_in a b) = 11
level (tree.notify e b) = 11
level (tree.read i) = 11

-- ---- rules, and how they are put together

-- which lists of tokens a rule has
abbrev pub Rule : Type 1
Rule = List Token → Type 0

-- one behind the other
infixr 10 ◌▸◌
abbrev pub ◌▸◌ : Rule → Rule → Rule
P ▸ Q = λ w. (u v : List Token) × (w ≡ u ++ v) × P u × Q v

-- one of the two
infixr 5 ◌∣◌
abbrev pub ◌∣◌ : Rule → Rule → Rule
P ∣ Q = λ w. P w ⊎ Q w

abbrev pub Nothing : Rule
Nothing w = w ≡ []

-- a sign, wherever it stands
abbrev pub Mark : Sign → Rule
Mark s w = (at : ℕ) × (w ≡ token (kind.Sign s) at ∷ [])

-- a sign that stands there
abbrev pub MarkAt : Sign → ℕ → Rule
MarkAt s at w = w ≡ token (kind.Sign s) at ∷ []

-- a name where it stands
abbrev pub Word : Identifier → Rule
Word i w = w ≡ token (kind.Name i.name) i.at ∷ []

-- these letters as a name, wherever they stand
abbrev pub Letters : List ℕ → Rule
Letters n w = (at : ℕ) × (w ≡ token (kind.Name n) at ∷ [])

abbrev pub Number : ℕ → Rule
Number n w = (at : ℕ) × (w ≡ token (kind.Number n) at ∷ [])

abbrev pub Quoted : List ℕ → Rule
Quoted t w = (at : ℕ) × (w ≡ token (kind.Text t) at ∷ [])

abbrev pub Truth : Bool → Rule
Truth true = Mark sign.True
Truth false = Mark sign.False

-- separators alone
abbrev pub IsSeparator : TokenKind → Type 0
IsSeparator (kind.Sign sign.Semicolon) = Unit {0}
IsSeparator (kind.Sign sign.Newline) = Unit {0}
IsSeparator (kind.Sign _) = ⊥
IsSeparator (kind.Number _) = ⊥
IsSeparator (kind.Name _) = ⊥
IsSeparator (kind.Text _) = ⊥

abbrev pub Gap : Rule
Gap [] = Unit {0}
Gap (t ∷ ts) = IsSeparator t.kind × Gap ts

-- at least one separator
abbrev pub SomeGap : Rule
SomeGap w = (0 < length w) × Gap w

abbrev pub OfInt64 : Rule
OfInt64 = Mark sign.OpenCurly ▸ Mark sign.Int64 ▸ Mark sign.CloseCurly

abbrev pub InOrAssign : Rule
InOrAssign = Mark sign.In ∣ Mark sign.Assign

abbrev pub pool_word : PoolName → List ℕ
pool_word pool.Default = codes "default"
pool_word pool.Interactive = codes "interactive"

abbrev pub PoolWord : Option PoolName → Rule
PoolWord None = Nothing
PoolWord (Some p) = Mark sign.Colon ▸ Letters (pool_word p)

abbrev pub schedule_word : Schedule → List ℕ
schedule_word schedule.Static = codes "static"
schedule_word schedule.Dynamic = codes "dynamic"

abbrev pub ScheduleWord : Option Schedule → Rule
ScheduleWord None = Nothing
ScheduleWord (Some s) = Mark sign.Colon ▸ Letters (schedule_word s)

abbrev pub IsSome : Terms → Type 0
IsSome tree.no_terms = ⊥
IsSome (tree.term o e es) = Unit {0}

-- what the tree spells, where it holds that tightly
abbrev pub Held : ℕ → Tree → Rule → Rule
Held l e P = λ w. (l ≤ level e) × P w

-- ---- the rules of the grammar, one for each form of a tree

abbrev mutual
  pub Spells : Tree → Rule
  Spells (tree.text t) = Quoted t
  Spells (tree.number n) = Number n
  Spells (tree.truth b) = Truth b
  Spells (tree.name i) = Word i
  Spells (tree.interpolation at i) = MarkAt sign.Dollar at ▸ Word i
  Spells (tree.group e) = Mark sign.Open ▸ Held 1 e (Spells e) ▸ Mark sign.Close
  Spells (tree.call i es) = Word i ▸ Mark sign.Open ▸ Listed 1 es ▸ Mark sign.Close
  Spells (tree.println es) = Mark sign.Println ▸ Mark sign.Open ▸ Listed 0 es ▸ Mark sign.Close
  Spells (tree.error t) = Mark sign.Error ▸ Mark sign.Open ▸ Quoted t ▸ Mark sign.Close
  Spells tree.unbuffered = Mark sign.Channel ▸ OfInt64 ▸ Mark sign.Open ▸ Mark sign.Close
  Spells (tree.channel e) = Mark sign.Channel ▸ OfInt64 ▸ Mark sign.Open ▸ Held 1 e (Spells e) ▸ Mark sign.Close
  Spells (tree.atomic e) = Mark sign.Atomic ▸ OfInt64 ▸ Mark sign.Open ▸ Held 1 e (Spells e) ▸ Mark sign.Close
  Spells tree.least = Mark sign.TypeMin ▸ Mark sign.Open ▸ Mark sign.Int64 ▸ Mark sign.Close
  Spells tree.greatest = Mark sign.TypeMax ▸ Mark sign.Open ▸ Mark sign.Int64 ▸ Mark sign.Close
  Spells tree.random = Mark sign.Rand ▸ Mark sign.Open ▸ Mark sign.Int64 ▸ Mark sign.Close
  Spells (tree.random_in a b) = Mark sign.Rand ▸ Mark sign.Open ▸ Held 6 a (Spells a) ▸ Mark sign.Colon ▸ Held 6 b (Spells b) ▸ Mark sign.Close
  Spells (tree.notify e b) = Letters (codes "notify") ▸ Mark sign.Open ▸ Held 1 e (Spells e) ▸ (Mark sign.Comma ∣ Mark sign.Semicolon) ▸ Letters (codes "all") ▸ Mark sign.Assign ▸ Truth b ▸ Mark sign.Close
  Spells (tree.read i) = Word i ▸ Mark sign.OpenSquare ▸ Mark sign.CloseSquare
  Spells (tree.power a b) = Held 11 a (Spells a) ▸ Mark power_sign ▸ Held 9 b (Spells b)
  Spells (tree.unary o e) = Mark (unary_sign o) ▸ Held 9 e (Spells e)
  Spells (tree.chain c e es) = λ w. IsSome es × (Held (suc (class_level c)) e (Spells e) ▸ Follow c es) w
  Spells (tree.conditional c a b) = Held 3 c (Spells c) ▸ Mark sign.Question ▸ Held 2 a (Spells a) ▸ Mark sign.Colon ▸ Held 2 b (Spells b)
  Spells (tree.block ss) = Mark sign.Begin ▸ Body ss ▸ Mark sign.End
  Spells (tree.branches c ss arms) = Mark sign.If ▸ Held 2 c (Spells c) ▸ Tail ss ▸ ArmsSpell arms ▸ Mark sign.End
  Spells (tree.while c ss) = Mark sign.While ▸ Held 2 c (Spells c) ▸ Tail ss ▸ Mark sign.End
  Spells (tree.for_range i a b ss) = Mark sign.For ▸ Word i ▸ InOrAssign ▸ Held 6 a (Spells a) ▸ Mark sign.Colon ▸ Held 6 b (Spells b) ▸ Tail ss ▸ Mark sign.End
  Spells (tree.for_each i e ss) = Mark sign.For ▸ Word i ▸ InOrAssign ▸ Held 2 e (Spells e) ▸ Tail ss ▸ Mark sign.End
  Spells (tree.spawn at p e) = MarkAt sign.Spawn at ▸ PoolWord p ▸ Held 1 e (Spells e)
  Spells (tree.async at e) = MarkAt sign.Async at ▸ Held 1 e (Spells e)
  Spells (tree.sync e) = Mark sign.Sync ▸ Held 1 e (Spells e)
  Spells (tree.threads at s i a b ss) = MarkAt sign.Threads at ▸ ScheduleWord s ▸ Mark sign.For ▸ Word i ▸ InOrAssign ▸ Held 6 a (Spells a) ▸ Mark sign.Colon ▸ Held 6 b (Spells b) ▸ Tail ss ▸ Mark sign.End

  -- expressions of a level with commas between
  pub Listed : ℕ → Trees → Rule
  Listed l tree.no_trees = Nothing
  Listed l (tree.tree e es) = Held l e (Spells e) ▸ Commas l es

  pub Commas : ℕ → Trees → Rule
  Commas l tree.no_trees = Nothing
  Commas l (tree.tree e es) = Mark sign.Comma ▸ Held l e (Spells e) ▸ Commas l es

  -- an operator of the class and an operand, any number of times
  pub Follow : Class → Terms → Rule
  Follow c tree.no_terms = Nothing
  Follow c (tree.term o e es) = λ w. (operator_class o ≡ Some c) × (Mark (sign.Binary o) ▸ Held (suc (class_level c)) e (Spells e) ▸ Follow c es) w

  -- the arms of an `if` behind its first one
  pub ArmsSpell : Arms → Rule
  ArmsSpell tree.no_arms = Nothing
  ArmsSpell (tree.otherwise ss) = Mark sign.Else ▸ Body ss
  ArmsSpell (tree.arm c ss arms) = Mark sign.ElseIf ▸ Held 2 c (Spells c) ▸ Tail ss ▸ ArmsSpell arms

  pub LeapSpells : Leap → Rule
  LeapSpells (tree.return_nothing at) = MarkAt sign.Return at
  LeapSpells (tree.return_value at e) = MarkAt sign.Return at ▸ Held 1 e (Spells e)
  LeapSpells (tree.break_loop at) = MarkAt sign.Break at
  LeapSpells (tree.continue_loop at) = MarkAt sign.Continue at

  pub StepSpells : Step → Rule
  StepSpells (tree.assign i o e) = Word i ▸ Mark (assignment_sign o) ▸ Held 1 e (Spells e)
  StepSpells (tree.store i e) = Word i ▸ Mark sign.OpenSquare ▸ Mark sign.CloseSquare ▸ Mark sign.Assign ▸ Held 1 e (Spells e)
  StepSpells (tree.jump j) = LeapSpells j
  StepSpells (tree.guard k e es j) = Held (suc (class_level (connective_class k))) e (Spells e) ▸ Follow (connective_class k) es ▸ Mark (sign.Binary (binary.Connective k)) ▸ LeapSpells j
  StepSpells (tree.value e) = Held 1 e (Spells e)

  -- statements with separators between, and perhaps around them
  pub Body : Steps → Rule
  Body tree.no_steps = Gap
  Body (tree.step x xs) = Gap ▸ StepSpells x ▸ Tail xs

  -- statements, each behind separators, and perhaps separators behind them
  pub Tail : Steps → Rule
  Tail tree.no_steps = Gap
  Tail (tree.step x xs) = SomeGap ▸ StepSpells x ▸ Tail xs

-- of this level or a tighter one
abbrev pub At : ℕ → Tree → Rule
At l e = Held l e (Spells e)

-- parameters with commas between
abbrev pub MoreNames : List Identifier → Rule
MoreNames [] = Nothing
MoreNames (i ∷ is) = Mark sign.Comma ▸ Word i ▸ MoreNames is

abbrev pub Names : List Identifier → Rule
Names [] = Nothing
Names (i ∷ is) = Word i ▸ MoreNames is

abbrev pub FormSpells : Form → Rule
FormSpells tree.using_threads = Mark sign.Using ▸ Mark sign.BaseThreads
FormSpells (tree.constant i e) = Mark sign.Const ▸ Word i ▸ Mark sign.Assign ▸ At 1 e
FormSpells (tree.function i is ss) = Mark sign.Function ▸ Word i ▸ Mark sign.Open ▸ Names is ▸ Mark sign.Close ▸ Tail ss ▸ Mark sign.End
FormSpells (tree.short i is e) = Word i ▸ Mark sign.Open ▸ Names is ▸ Mark sign.Close ▸ Mark sign.Assign ▸ At 1 e
FormSpells (tree.plain s) = StepSpells s

-- the first token stands there
abbrev pub StartsAt : ℕ → Rule
StartsAt at [] = ⊥
StartsAt at (t ∷ ts) = at ≡ t.at

abbrev pub TopSpells : TopTree → Rule
TopSpells top = λ w. StartsAt top.0 w × FormSpells top.1 w

abbrev pub TopsTail : List TopTree → Rule
TopsTail [] = Gap
TopsTail (x ∷ xs) = SomeGap ▸ TopSpells x ▸ TopsTail xs

abbrev pub TopsBody : List TopTree → Rule
TopsBody [] = Gap
TopsBody (x ∷ xs) = Gap ▸ TopSpells x ▸ TopsTail xs

-- a script, with the end token
abbrev pub ScriptSpells : List TopTree → Rule
ScriptSpells tops = TopsBody tops ▸ Mark sign.Stop

-- ---- tokens that end with the end token, which stands nowhere else

abbrev pub IsStop : TokenKind → Type 0
IsStop (kind.Sign sign.Stop) = Unit {0}
IsStop (kind.Sign _) = ⊥
IsStop (kind.Number _) = ⊥
IsStop (kind.Name _) = ⊥
IsStop (kind.Text _) = ⊥

abbrev pub NoStop : Rule
NoStop [] = Unit {0}
NoStop (t ∷ ts) = (IsStop t.kind → ⊥) × NoStop ts

abbrev pub EndsWithStop : Rule
EndsWithStop = NoStop ▸ Mark sign.Stop
