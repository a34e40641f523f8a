-- Worked examples: which newlines are dropped, and what is read of tokens or where they are refused.
use Rattle.std.proofs.Common.{◌≡◌, ℕ, suc, List, [], ◌∷◌, ◌++◌, Ok, Err, Some, None, true, codes, refl}
use Rattle.jt_syntax.specs.Tree.{Form, TopTree}
use Rattle.jt_syntax.specs.Tree as tree
use Rattle.jt_syntax.specs.declared.operator.ArithmeticOperator.TheVariants as arithmetic
use Rattle.jt_syntax.specs.declared.operator.AssignmentOperator.TheVariants as assignment
use Rattle.jt_syntax.specs.declared.operator.BinaryOperator.TheVariants as binary
use Rattle.jt_syntax.specs.declared.operator.Class.TheVariants as class
use Rattle.jt_syntax.specs.declared.operator.Connective.TheVariants as connective
use Rattle.jt_syntax.specs.declared.operator.UnaryOperator.TheVariants as unary
use Rattle.jt_syntax.specs.declared.script.Identifier.{Identifier}
use Rattle.jt_syntax.specs.declared.script.PoolName.TheVariants as pools
use Rattle.jt_syntax.specs.declared.token.Sign.{Sign}
use Rattle.jt_syntax.specs.declared.token.Sign.TheVariants as sign
use Rattle.jt_syntax.specs.declared.token.Token.{Token}
use Rattle.jt_syntax.specs.declared.token.TokenKind.{TokenKind}
use Rattle.jt_syntax.specs.declared.token.TokenKind.TheVariants as kind
use Rattle.jt_grammar.specs.Grammar.{token, power_sign}
use Rattle.jt_grammar.specs.Joined.{joined}
use Rattle.jt_grammar.specs.Reader.{Outcome, unexpected, deep, read_top, read, read_step, script}
use Rattle.jt_grammar.specs.Reader as r

-- tokens of these kinds, whose places are counted
abbrev placed : ℕ → List TokenKind → List Token
placed n [] = []
placed n (k ∷ ks) = token k n ∷ placed (suc n) ks

abbrev mark : Sign → TokenKind
mark s = kind.Sign s

abbrev plus : Sign
plus = sign.Binary (binary.Arithmetic arithmetic.Add)

abbrev minus : Sign
minus = sign.Binary (binary.Arithmetic arithmetic.Subtract)

abbrev and_also : Sign
and_also = sign.Binary (binary.Connective connective.And)

abbrev letter : TokenKind
letter = kind.Name (codes "a")

abbrev at : ℕ → Identifier
at n = record { name = codes "a"; at = n }

-- ---- joined lines

-- behind an operator a newline is dropped, before one it ends the line; in parentheses newlines are dropped, but not in a block in them; `]` doesn't close `(`
pub joined_lines : (joined (placed 0 (letter ∷ mark plus ∷ mark sign.Newline ∷ kind.Number 1 ∷ [])) ≡ token letter 0 ∷ token (mark plus) 1 ∷ token (kind.Number 1) 3 ∷ [])
    × (joined (placed 0 (letter ∷ mark sign.Newline ∷ mark plus ∷ kind.Number 1 ∷ [])) ≡ placed 0 (letter ∷ mark sign.Newline ∷ mark plus ∷ kind.Number 1 ∷ []))
    × (joined (placed 0 (mark sign.Open ∷ mark sign.Newline ∷ mark sign.Begin ∷ mark sign.Newline ∷ mark sign.End ∷ mark sign.Newline ∷ mark sign.Close ∷ []))
    ≡ token (mark sign.Open) 0 ∷ token (mark sign.Begin) 2 ∷ token (mark sign.Newline) 3 ∷ token (mark sign.End) 4 ∷ token (mark sign.Close) 6 ∷ [])
    × (joined (placed 0 (mark sign.Open ∷ mark sign.CloseSquare ∷ mark sign.Newline ∷ mark sign.Close ∷ mark sign.Newline ∷ []))
    ≡ token (mark sign.Open) 0 ∷ token (mark sign.CloseSquare) 1 ∷ token (mark sign.Close) 3 ∷ token (mark sign.Newline) 4 ∷ [])
joined_lines = (refl, refl, refl, refl)

-- ---- what is read, or where it is refused: by how many tokens are left there

-- with so many openers allowed, the tokens of these kinds and an end token
abbrev Reads : ℕ → List TokenKind → Outcome (List TopTree) → Type 0
Reads d ks o = script 20 d (placed 0 (ks ++ mark sign.Stop ∷ [])) ≡ o

-- one statement, at the first token
abbrev one : Form → Outcome (List TopTree)
one f = Ok ((0, f) ∷ [], [])

abbrev threads_loop : List TokenKind
threads_loop = mark sign.Threads ∷ mark sign.For ∷ letter ∷ mark sign.Assign ∷ kind.Number 1 ∷ mark sign.Colon ∷ kind.Number 2 ∷ mark sign.Semicolon ∷ mark sign.End ∷ []

-- a word that demands a parenthesis is no opener: `println 5` is refused at the number, `println()` at the parenthesis; `@threads` is one, and its `for` another
pub openers : Reads 0 (mark sign.Println ∷ kind.Number 5 ∷ []) (Err (unexpected 2))
    × Reads 0 (mark sign.Println ∷ mark sign.Open ∷ mark sign.Close ∷ []) (Err (deep 3))
    × Reads 0 threads_loop (Err (deep 10))
    × Reads 1 threads_loop (Err (deep 9))
    × Reads 2 threads_loop (one (tree.plain (tree.value (tree.threads 0 None (at 2) (tree.number 1) (tree.number 2) tree.no_steps))))
unfolding script read_top read read_step r.topped r.stepped r.whole r.condition r.disjunction r.conjunction r.comparison r.sum r.product r.shift r.operand r.power r.primary r.range_loop r.schedule r.word r.gap r.list_of r.commas r.terms r.guarded_terms r.same_sign r.same_class
openers = (refl, refl, refl, refl, refl)

-- `a(a) = 1` is a function, `a(1) = 1` is refused at the `=`; a jump may stand behind `&&` in a statement, but not in parentheses; one node for a chain, and a power holds more tightly than its sign
pub statements : Reads 1 (letter ∷ mark sign.Open ∷ letter ∷ mark sign.Close ∷ mark sign.Assign ∷ kind.Number 1 ∷ []) (one (tree.short (at 0) (at 2 ∷ []) (tree.number 1)))
    × Reads 1 (letter ∷ mark sign.Open ∷ kind.Number 1 ∷ mark sign.Close ∷ mark sign.Assign ∷ kind.Number 1 ∷ []) (Err (unexpected 3))
    × Reads 1 (letter ∷ mark and_also ∷ mark sign.Break ∷ []) (one (tree.plain (tree.guard connective.And (tree.name (at 0)) tree.no_terms (tree.break_loop 2))))
    × Reads 1 (mark sign.Open ∷ letter ∷ mark and_also ∷ mark sign.Break ∷ mark sign.Close ∷ []) (Err (unexpected 3))
    × Reads 1 (kind.Number 1 ∷ mark plus ∷ kind.Number 2 ∷ mark minus ∷ kind.Number 3 ∷ [])
    (one (tree.plain (tree.value (tree.chain class.Sum (tree.number 1) (tree.term (binary.Arithmetic arithmetic.Add) (tree.number 2) (tree.term (binary.Arithmetic arithmetic.Subtract) (tree.number 3) tree.no_terms))))))
    × Reads 2 (mark minus ∷ letter ∷ mark power_sign ∷ kind.Number 2 ∷ []) (one (tree.plain (tree.value (tree.unary unary.Minus (tree.power (tree.name (at 1)) (tree.number 2))))))
unfolding script read_top read read_step r.topped r.stepped r.whole r.condition r.disjunction r.conjunction r.comparison r.sum r.product r.shift r.operand r.power r.primary r.leap r.word r.gap r.list_of r.commas r.terms r.guarded_terms r.same_sign r.same_class
statements = (refl, refl, refl, refl, refl, refl)

-- a condition with both its branches; calls with a word of their own; what is spawned, with its pool
pub expressions : Reads 1 (letter ∷ mark sign.Question ∷ kind.Number 1 ∷ mark sign.Colon ∷ kind.Number 2 ∷ []) (one (tree.plain (tree.value (tree.conditional (tree.name (at 0)) (tree.number 1) (tree.number 2)))))
    × Reads 1 (kind.Name (codes "notify") ∷ mark sign.Open ∷ letter ∷ mark sign.Comma ∷ kind.Name (codes "all") ∷ mark sign.Assign ∷ mark sign.True ∷ mark sign.Close ∷ [])
    (one (tree.plain (tree.value (tree.notify (tree.name (at 2)) true))))
    × Reads 1 (letter ∷ mark sign.Open ∷ letter ∷ mark sign.Comma ∷ kind.Name (codes "all") ∷ mark sign.Assign ∷ mark sign.True ∷ mark sign.Close ∷ []) (Err (unexpected 4))
    × Reads 1 (mark sign.Println ∷ mark sign.Open ∷ kind.Text (codes "a") ∷ mark sign.Comma ∷ kind.Number 1 ∷ mark sign.Close ∷ [])
    (one (tree.plain (tree.value (tree.println (tree.tree (tree.text (codes "a")) (tree.tree (tree.number 1) tree.no_trees))))))
    × Reads 1 (mark sign.Channel ∷ mark sign.OpenCurly ∷ mark sign.Int64 ∷ mark sign.CloseCurly ∷ mark sign.Open ∷ kind.Number 3 ∷ mark sign.Close ∷ []) (one (tree.plain (tree.value (tree.channel (tree.number 3)))))
    × Reads 1 (mark sign.Rand ∷ mark sign.Open ∷ kind.Number 1 ∷ mark sign.Colon ∷ kind.Number 2 ∷ mark sign.Close ∷ []) (one (tree.plain (tree.value (tree.random_in (tree.number 1) (tree.number 2)))))
    × Reads 2 (mark sign.Spawn ∷ mark sign.Colon ∷ kind.Name (codes "interactive") ∷ letter ∷ mark sign.Open ∷ mark sign.Close ∷ [])
    (one (tree.plain (tree.value (tree.spawn 0 (Some pools.Interactive) (tree.call (at 3) tree.no_trees)))))
unfolding script read_top read read_step r.topped r.stepped r.whole r.condition r.disjunction r.conjunction r.comparison r.sum r.product r.shift r.operand r.power r.primary r.item r.pool r.word r.letters r.quoted r.truth r.gap r.list_of r.commas r.terms r.guarded_terms r.same_sign r.same_class
expressions = (refl, refl, refl, refl, refl, refl, refl)

-- `if a; 1; elseif a; else 2 end`, `for a in a; end`, `begin a[] = 1; end`, and `begin 1 2 end`, where a separator is missing
pub blocks : Reads 1
    (mark sign.If ∷ letter ∷ mark sign.Semicolon ∷ kind.Number 1 ∷ mark sign.Semicolon ∷ mark sign.ElseIf ∷ letter ∷ mark sign.Semicolon ∷ mark sign.Else ∷ kind.Number 2 ∷ mark sign.End ∷ [])
    (one (tree.plain (tree.value (tree.branches (tree.name (at 1)) (tree.step (tree.value (tree.number 1)) tree.no_steps)
    (tree.arm (tree.name (at 6)) tree.no_steps (tree.otherwise (tree.step (tree.value (tree.number 2)) tree.no_steps)))))))
    × Reads 1 (mark sign.For ∷ letter ∷ mark sign.In ∷ letter ∷ mark sign.Semicolon ∷ mark sign.End ∷ []) (one (tree.plain (tree.value (tree.for_each (at 1) (tree.name (at 3)) tree.no_steps))))
    × Reads 2 (mark sign.Begin ∷ letter ∷ mark sign.OpenSquare ∷ mark sign.CloseSquare ∷ mark sign.Assign ∷ kind.Number 1 ∷ mark sign.Semicolon ∷ mark sign.End ∷ [])
    (one (tree.plain (tree.value (tree.block (tree.step (tree.store (at 1) (tree.number 1)) tree.no_steps)))))
    × Reads 1 (mark sign.Begin ∷ kind.Number 1 ∷ kind.Number 2 ∷ mark sign.End ∷ []) (Err (unexpected 3))
unfolding script read_top read read_step r.topped r.stepped r.whole r.condition r.disjunction r.conjunction r.comparison r.sum r.product r.shift r.operand r.power r.primary r.is_sum r.arms r.word r.gap r.list_of r.commas r.terms r.guarded_terms r.same_sign r.same_class
blocks = (refl, refl, refl, refl)

-- `using Base.Threads`; `const a = 1`; `function a(a, a); a; end`, whose parenthesis is one opener more; two statements on lines of their own
pub tops : Reads 0 (mark sign.Using ∷ mark sign.BaseThreads ∷ []) (one tree.using_threads)
    × Reads 0 (mark sign.Const ∷ letter ∷ mark sign.Assign ∷ kind.Number 1 ∷ []) (one (tree.constant (at 1) (tree.number 1)))
    × Reads 1 (mark sign.Function ∷ letter ∷ mark sign.Open ∷ letter ∷ mark sign.Comma ∷ letter ∷ mark sign.Close ∷ mark sign.Semicolon ∷ letter ∷ mark sign.Semicolon ∷ mark sign.End ∷ []) (Err (deep 10))
    × Reads 2 (mark sign.Function ∷ letter ∷ mark sign.Open ∷ letter ∷ mark sign.Comma ∷ letter ∷ mark sign.Close ∷ mark sign.Semicolon ∷ letter ∷ mark sign.Semicolon ∷ mark sign.End ∷ [])
    (one (tree.function (at 1) (at 3 ∷ at 5 ∷ []) (tree.step (tree.value (tree.name (at 8))) tree.no_steps)))
    × Reads 0 (letter ∷ mark sign.Assign ∷ kind.Number 1 ∷ mark sign.Newline ∷ letter ∷ mark sign.PlusAssign ∷ kind.Number 2 ∷ [])
    (Ok ((0, tree.plain (tree.assign (at 0) assignment.Plain (tree.number 1))) ∷ (4, tree.plain (tree.assign (at 4) assignment.Plus (tree.number 2))) ∷ [], []))
    × Reads 0 (mark sign.Return ∷ mark sign.Semicolon ∷ mark sign.Return ∷ kind.Number 1 ∷ []) (Ok ((0, tree.plain (tree.jump (tree.return_nothing 0))) ∷ (2, tree.plain (tree.jump (tree.return_value 2 (tree.number 1)))) ∷ [], []))
unfolding script read_top read read_step r.topped r.stepped r.whole r.condition r.disjunction r.conjunction r.comparison r.sum r.product r.shift r.operand r.power r.primary r.leap r.word r.gap r.list_of r.commas r.terms r.guarded_terms r.same_sign r.same_class
tops = (refl, refl, refl, refl, refl, refl)
