-- The plain data that a `Script` stands for.
use Rattle.std.specs.Prelude.{ℕ, List, [], ◌∷◌, map, Option, Some, None}
use Rattle.jt_syntax.specs.Tree.{Tree, Trees, Terms, Arms, Leap, Step, Steps, Form, TopTree}
use Rattle.jt_syntax.specs.Tree as tree
use Rattle.jt_syntax.specs.declared.operator.ArithmeticOperator.TheVariants as arithmetic
use Rattle.jt_syntax.specs.declared.operator.BinaryOperator.{BinaryOperator}
use Rattle.jt_syntax.specs.declared.operator.BinaryOperator.TheVariants as binary
use Rattle.jt_syntax.specs.declared.operator.Class.{Class}
use Rattle.jt_syntax.specs.declared.operator.Class.TheVariants as class
use Rattle.jt_syntax.specs.declared.operator.Connective.{Connective}
use Rattle.jt_syntax.specs.declared.operator.Connective.TheVariants as connective
use Rattle.jt_syntax.specs.declared.script.Expr.{Expr}
use Rattle.jt_syntax.specs.declared.script.Expr.TheOpen.{Expr-F, Item-F, Arm-F, Jump-F, Stmt-F}
use Rattle.jt_syntax.specs.declared.script.Expr.TheFolds.{fold-Expr, fold-Item, fold-Arm, fold-Jump, fold-Stmt}
use Rattle.jt_syntax.specs.declared.script.Item.{Item}
use Rattle.jt_syntax.specs.declared.script.Arm.{Arm}
use Rattle.jt_syntax.specs.declared.script.Jump.{Jump}
use Rattle.jt_syntax.specs.declared.script.Stmt.{Stmt}
use Rattle.jt_syntax.specs.declared.script.Top.{Top}
use Rattle.jt_syntax.specs.declared.script.TopForm.{TopForm}
use Rattle.jt_syntax.specs.declared.script.TopForm.TheVariants as form
use Rattle.jt_syntax.specs.declared.script.Script.{Script}

-- ---- the classes of operators

abbrev pub connective_class : Connective → Class
connective_class connective.And = class.And
connective_class connective.Or = class.Or

-- the class of an operator; `^` is of none
abbrev pub operator_class : BinaryOperator → Option Class
operator_class (binary.Arithmetic arithmetic.Add) = Some class.Sum
operator_class (binary.Arithmetic arithmetic.Subtract) = Some class.Sum
operator_class (binary.Arithmetic arithmetic.Or) = Some class.Sum
operator_class (binary.Arithmetic arithmetic.Xor) = Some class.Sum
operator_class (binary.Arithmetic arithmetic.Multiply) = Some class.Product
operator_class (binary.Arithmetic arithmetic.Divide) = Some class.Product
operator_class (binary.Arithmetic arithmetic.Remainder) = Some class.Product
operator_class (binary.Arithmetic arithmetic.And) = Some class.Product
operator_class (binary.Arithmetic arithmetic.ShiftLeft) = Some class.Shift
operator_class (binary.Arithmetic arithmetic.ShiftRight) = Some class.Shift
operator_class (binary.Arithmetic arithmetic.ShiftRightZero) = Some class.Shift
operator_class (binary.Arithmetic arithmetic.Power) = None
operator_class (binary.Comparison o) = Some class.Comparison
operator_class (binary.Connective o) = Some (connective_class o)

-- ---- lists

abbrev pub trees_of : List Tree → Trees
trees_of [] = tree.no_trees
trees_of (t ∷ ts) = tree.tree t (trees_of ts)

-- operands, each behind its operator
abbrev pub terms_of : List (BinaryOperator × Tree) → Terms
terms_of [] = tree.no_terms
terms_of (t ∷ ts) = tree.term t.0 t.1 (terms_of ts)

abbrev pub steps_of : List Step → Steps
steps_of [] = tree.no_steps
steps_of (s ∷ ss) = tree.step s (steps_of ss)

abbrev pub last_arm : Option (List Step) → Arms
last_arm None = tree.no_arms
last_arm (Some ss) = tree.otherwise (steps_of ss)

abbrev pub arms_of : List (Tree × Steps) → Arms → Arms
arms_of [] last = last
arms_of (a ∷ arms) last = tree.arm a.0 a.1 (arms_of arms last)

abbrev pub channel_of : Option Tree → Tree
channel_of None = tree.unbuffered
channel_of (Some e) = tree.channel e

abbrev pub return_of : ℕ → Option Tree → Leap
return_of at None = tree.return_nothing at
return_of at (Some e) = tree.return_value at e

-- ---- layer by layer

abbrev pub expr_layer : Expr-F Tree Tree Leap Step (Tree × Steps) → Tree
expr_layer (Expr-F.Number n) = tree.number n
expr_layer (Expr-F.Truth b) = tree.truth b
expr_layer (Expr-F.Name i) = tree.name i
expr_layer (Expr-F.Interpolation at i) = tree.interpolation at i
expr_layer (Expr-F.Group e) = tree.group e
expr_layer (Expr-F.Call i es) = tree.call i (trees_of es)
expr_layer (Expr-F.Println es) = tree.println (trees_of es)
expr_layer (Expr-F.Error t) = tree.error t
expr_layer (Expr-F.Channel e) = channel_of e
expr_layer (Expr-F.Atomic e) = tree.atomic e
expr_layer Expr-F.Least = tree.least
expr_layer Expr-F.Greatest = tree.greatest
expr_layer Expr-F.Random = tree.random
expr_layer (Expr-F.RandomIn a b) = tree.random_in a b
expr_layer (Expr-F.Notify e b) = tree.notify e b
expr_layer (Expr-F.Read i) = tree.read i
expr_layer (Expr-F.Power a b) = tree.power a b
expr_layer (Expr-F.Unary o e) = tree.unary o e
expr_layer (Expr-F.Chain k e es) = tree.chain k e (terms_of es)
expr_layer (Expr-F.Conditional c a b) = tree.conditional c a b
expr_layer (Expr-F.Block ss) = tree.block (steps_of ss)
expr_layer (Expr-F.If c ss arms last) = tree.branches c (steps_of ss) (arms_of arms (last_arm last))
expr_layer (Expr-F.While c ss) = tree.while c (steps_of ss)
expr_layer (Expr-F.ForRange i a b ss) = tree.for_range i a b (steps_of ss)
expr_layer (Expr-F.ForEach i e ss) = tree.for_each i e (steps_of ss)
expr_layer (Expr-F.Spawn at p e) = tree.spawn at p e
expr_layer (Expr-F.Async at e) = tree.async at e
expr_layer (Expr-F.Sync e) = tree.sync e
expr_layer (Expr-F.Threads at s i a b ss) = tree.threads at s i a b (steps_of ss)

abbrev pub item_layer : Item-F Tree Tree Leap Step (Tree × Steps) → Tree
item_layer (Item-F.Value e) = e
item_layer (Item-F.Text t) = tree.text t

abbrev pub arm_layer : Arm-F Tree Tree Leap Step (Tree × Steps) → Tree × Steps
arm_layer a = (a.condition, steps_of a.body)

abbrev pub jump_layer : Jump-F Tree Tree Leap Step (Tree × Steps) → Leap
jump_layer (Jump-F.Return at e) = return_of at e
jump_layer (Jump-F.Break at) = tree.break_loop at
jump_layer (Jump-F.Continue at) = tree.continue_loop at

abbrev pub stmt_layer : Stmt-F Tree Tree Leap Step (Tree × Steps) → Step
stmt_layer (Stmt-F.Assign i o e) = tree.assign i o e
stmt_layer (Stmt-F.Store i e) = tree.store i e
stmt_layer (Stmt-F.Jump j) = tree.jump j
stmt_layer (Stmt-F.Guard c e es j) = tree.guard c e (terms_of es) j
stmt_layer (Stmt-F.Expression e) = tree.value e

-- ---- whole trees

-- an expression
abbrev pub view : Expr → Tree
view = fold-Expr Tree Tree Leap Step (Tree × Steps) expr_layer item_layer jump_layer stmt_layer arm_layer

-- an item of `println`
abbrev pub item_view : Item → Tree
item_view = fold-Item Tree Tree Leap Step (Tree × Steps) expr_layer item_layer jump_layer stmt_layer arm_layer

abbrev pub arm_view : Arm → Tree × Steps
arm_view = fold-Arm Tree Tree Leap Step (Tree × Steps) expr_layer item_layer jump_layer stmt_layer arm_layer

abbrev pub jump_view : Jump → Leap
jump_view = fold-Jump Tree Tree Leap Step (Tree × Steps) expr_layer item_layer jump_layer stmt_layer arm_layer

-- a statement
abbrev pub stmt_view : Stmt → Step
stmt_view = fold-Stmt Tree Tree Leap Step (Tree × Steps) expr_layer item_layer jump_layer stmt_layer arm_layer

abbrev pub views : List Expr → Trees
views es = trees_of (map view es)

abbrev pub item_views : List Item → Trees
item_views es = trees_of (map item_view es)

-- an operand behind its operator
abbrev pub term_view : BinaryOperator × Expr → BinaryOperator × Tree
term_view t = (t.0, view t.1)

abbrev pub stmt_views : List Stmt → Steps
stmt_views ss = steps_of (map stmt_view ss)

abbrev pub form_view : TopForm → Form
form_view form.Using = tree.using_threads
form_view (form.Constant i e) = tree.constant i (view e)
form_view (form.Function i is ss) = tree.function i is (stmt_views ss)
form_view (form.ShortFunction i is e) = tree.short i is (view e)
form_view (form.Stmt s) = tree.plain (stmt_view s)

abbrev pub top_view : Top → TopTree
top_view t = (t.at, form_view t.form)

abbrev pub top_views : List Top → List TopTree
top_views = map top_view

-- a script
abbrev pub script_view : Script → List TopTree
script_view s = top_views s.tops
