-- Reading a list of tokens from its front: what each rule takes, or where it is refused.
use Rattle.std.specs.Prelude.{ℕ, zero, suc, ◌-◌, nat_lt, Bool, true, false, ◌&&◌, if◌then◌else◌, List, [], ◌∷◌, ◌++◌, length, Result, Ok, Err, Option, Some, None, option_map, codes}
use Rattle.std.specs.Str.{bytes_eq}
use denote.Enum.Bare.{sameb}
use Rattle.jt_syntax.specs.Tree.{Tree, Trees, Terms, Arms, Leap, Step, Steps, Form, TopTree}
use Rattle.jt_syntax.specs.Tree as tree
use Rattle.jt_syntax.specs.View.{arms_of, operator_class, terms_of}
use Rattle.jt_syntax.specs.contracts.operator.Class.{the_type}
use Rattle.jt_syntax.specs.contracts.token.SignPartialEq.TheImpl as sign_eq
use Rattle.jt_syntax.specs.declared.operator.ArithmeticOperator.TheVariants as arithmetic
use Rattle.jt_syntax.specs.declared.operator.AssignmentOperator.{AssignmentOperator}
use Rattle.jt_syntax.specs.declared.operator.AssignmentOperator.TheVariants as assignment
use Rattle.jt_syntax.specs.declared.operator.BinaryOperator.{BinaryOperator}
use Rattle.jt_syntax.specs.declared.operator.BinaryOperator.TheVariants as binary
use Rattle.jt_syntax.specs.declared.operator.Class.{Class}
use Rattle.jt_syntax.specs.declared.operator.Class.TheVariants as class
use Rattle.jt_syntax.specs.declared.operator.Connective.TheVariants as connective
use Rattle.jt_syntax.specs.declared.operator.UnaryOperator.{UnaryOperator}
use Rattle.jt_syntax.specs.declared.operator.UnaryOperator.TheVariants as unary_operator
use Rattle.jt_syntax.specs.declared.script.Identifier.{Identifier}
use Rattle.jt_syntax.specs.declared.script.PoolName.{PoolName}
use Rattle.jt_syntax.specs.declared.script.PoolName.TheVariants as pools
use Rattle.jt_syntax.specs.declared.script.Schedule.{Schedule}
use Rattle.jt_syntax.specs.declared.script.Schedule.TheVariants as schedules
use Rattle.jt_syntax.specs.declared.token.Sign.{Sign}
use Rattle.jt_syntax.specs.declared.token.Sign.TheVariants as sign
use Rattle.jt_syntax.specs.declared.token.Token.{Token}
use Rattle.jt_syntax.specs.declared.token.TokenKind.{TokenKind}
use Rattle.jt_syntax.specs.declared.token.TokenKind.TheVariants as kind
use Rattle.jt_grammar.specs.declared.Level.{Level}
use Rattle.jt_grammar.specs.declared.Level.TheVariants as levels
use Rattle.jt_grammar.specs.declared.Target.{Target}
use Rattle.jt_grammar.specs.declared.Target.TheVariants as targets
use Rattle.jt_grammar.specs.Grammar.{unary_sign, power_sign, level}

-- Why a list is refused, by how many tokens are left: the next token fits no rule, it is an opener too many, or the turns are used up.
pub data Mismatch : Type 0 where
  unexpected : ℕ → Mismatch
  deep : ℕ → Mismatch
  spent : Mismatch

abbrev pub Outcome : Type 0 → Type 0
Outcome A = Result (A × List Token) Mismatch

abbrev pub Parser : Type 0 → Type 0
Parser A = List Token → Outcome A

abbrev pub and_then : {A B : Type 0} → Outcome A → (A → Parser B) → Outcome B
and_then (Ok p) f = f p.0 p.1
and_then (Err e) f = Err e

infixl 10 ◌>>=◌
abbrev pub ◌>>=◌ : {A B : Type 0} → Parser A → (A → Parser B) → Parser B
p >>= f = λ ts. and_then (p ts) f

infixl 10 ◌>>◌
abbrev pub ◌>>◌ : {A B : Type 0} → Parser A → Parser B → Parser B
p >> q = p >>= (λ _. q)

abbrev pub pure : {A : Type 0} → A → Parser A
pure a = λ ts. Ok (a, ts)

abbrev pub refuse : {A : Type 0} → Parser A
refuse = λ ts. Err (unexpected (length ts))

-- ---- tokens

-- the kind of the next token; behind the last one it is the end token's
abbrev pub kind_of : List Token → TokenKind
kind_of [] = kind.Sign sign.Stop
kind_of (t ∷ ts) = t.kind

abbrev pub place_of : List Token → ℕ
place_of [] = 0
place_of (t ∷ ts) = t.at

unfoldable pub same_sign : Sign → Sign → Bool
same_sign = (sign_eq.ghosts).eq

abbrev pub is : Sign → TokenKind → Bool
is s (kind.Sign r) = same_sign r s
is s (kind.Number n) = false
is s (kind.Name n) = false
is s (kind.Text t) = false

abbrev pub skip : Parser Token
skip [] = Err (unexpected 0)
skip (t ∷ ts) = Ok (t, ts)

-- by the kind of the next token
abbrev pub by_kind : {A : Type 0} → (TokenKind → Parser A) → Parser A
by_kind f = λ ts. f (kind_of ts) ts

-- by whether the next token is this sign
abbrev pub on : {A : Type 0} → Sign → Parser A → Parser A → Parser A
on s p q = λ ts. if is s (kind_of ts) then p ts else q ts

abbrev pub expect : Sign → Parser Token
expect s = on s skip refuse

abbrev pub word_by : TokenKind → Parser Identifier
word_by (kind.Name n) = skip >>= λ t. pure (record { name = n; at = t.at })
word_by (kind.Sign _) = refuse
word_by (kind.Number _) = refuse
word_by (kind.Text _) = refuse

-- a name
unfoldable pub word : Parser Identifier
word = by_kind word_by

abbrev pub letters_by : List ℕ → TokenKind → Parser Token
letters_by w (kind.Name n) = λ ts. if bytes_eq n w then skip ts else refuse ts
letters_by w (kind.Sign _) = refuse
letters_by w (kind.Number _) = refuse
letters_by w (kind.Text _) = refuse

-- these letters as a name
unfoldable pub letters : List ℕ → Parser Token
letters w = by_kind (letters_by w)

abbrev pub quoted_by : TokenKind → Parser (List ℕ)
quoted_by (kind.Text t) = skip >> pure t
quoted_by (kind.Sign _) = refuse
quoted_by (kind.Number _) = refuse
quoted_by (kind.Name _) = refuse

-- a string
unfoldable pub quoted : Parser (List ℕ)
quoted = by_kind quoted_by

-- `true` or `false`
unfoldable pub truth : Parser Bool
truth = on sign.True (skip >> pure true) (expect sign.False >> pure false)

-- one opener more, where so many may still be open
abbrev pub enter : ℕ → Parser (Unit {0})
enter zero = λ ts. Err (deep (length ts))
enter (suc depth) = λ ts. Ok (tt, ts)

-- an opener that is expected
abbrev pub opening : ℕ → Sign → Parser Token
opening depth s = on s (enter depth >> skip) refuse

-- ---- chains of one class of operators

-- the operator that a token is; `^`, which makes no chain, where it is none
abbrev pub operator_of : TokenKind → BinaryOperator
operator_of (kind.Sign (sign.Binary o)) = o
operator_of (kind.Sign _) = binary.Arithmetic arithmetic.Power
operator_of (kind.Number _) = binary.Arithmetic arithmetic.Power
operator_of (kind.Name _) = binary.Arithmetic arithmetic.Power
operator_of (kind.Text _) = binary.Arithmetic arithmetic.Power

unfoldable pub same_class : Class → Class → Bool
same_class = sameb the_type

abbrev pub is_of : Class → Option Class → Bool
is_of c None = false
is_of c (Some d) = same_class d c

-- whether the token is an operator of the class
abbrev pub operates : Class → TokenKind → Bool
operates c (kind.Sign (sign.Binary o)) = is_of c (operator_class o)
operates c (kind.Sign _) = false
operates c (kind.Number _) = false
operates c (kind.Name _) = false
operates c (kind.Text _) = false

abbrev pub joined_chain : Class → Tree → Terms → Tree
joined_chain c e tree.no_terms = e
joined_chain c e (tree.term o x xs) = tree.chain c e (tree.term o x xs)

-- operators of the class with their operands, as long as they come
unfoldable pub terms : Class → Parser Tree → ℕ → Parser Terms
terms c item zero = λ ts. Err spent
terms c item (suc n) = λ ts. if operates c (kind_of ts) then (do t ← skip; e ← item; es ← terms c item n; pure (tree.term (operator_of t.kind) e es)) ts else Ok (tree.no_terms, ts)

-- the same, behind what was found before
unfoldable pub terms_from : Class → Parser Tree → ℕ → List (BinaryOperator × Tree) → Parser Terms
terms_from c item zero found = λ ts. Err spent
terms_from c item (suc n) found = λ ts. if operates c (kind_of ts) then (do t ← skip; e ← item; terms_from c item n (found ++ (operator_of t.kind, e) ∷ [])) ts else Ok (terms_of found, ts)

abbrev pub chained : ℕ → Class → Parser Tree → Parser Tree
chained turns c item = do
  e ← item
  es ← terms c item turns
  pure (joined_chain c e es)

abbrev pub is_jump : TokenKind → Bool
is_jump (kind.Sign sign.Return) = true
is_jump (kind.Sign sign.Break) = true
is_jump (kind.Sign sign.Continue) = true
is_jump (kind.Sign _) = false
is_jump (kind.Number _) = false
is_jump (kind.Name _) = false
is_jump (kind.Text _) = false

-- the same as `terms`, but that an operator may have a jump behind it, which ends them: whether it has
unfoldable pub guarded_terms : Class → Parser Tree → ℕ → Parser (Terms × Bool)
guarded_terms c item zero = λ ts. Err spent
guarded_terms c item (suc n) = λ ts. if operates c (kind_of ts)
    then (do t ← skip; by_kind (λ k ts. if is_jump k then Ok ((tree.no_terms, true), ts) else (do e ← item; r ← guarded_terms c item n; pure (tree.term (operator_of t.kind) e r.0, r.1)) ts)) ts
    else Ok ((tree.no_terms, false), ts)

unfoldable pub guarded_from : Class → Parser Tree → ℕ → List (BinaryOperator × Tree) → Parser (Terms × Bool)
guarded_from c item zero found = λ ts. Err spent
guarded_from c item (suc n) found = λ ts. if operates c (kind_of ts)
    then (do t ← skip; by_kind (λ k ts. if is_jump k then Ok ((terms_of found, true), ts) else (do e ← item; guarded_from c item n (found ++ (operator_of t.kind, e) ∷ [])) ts)) ts
    else Ok ((terms_of found, false), ts)

-- ---- lists with commas

unfoldable pub commas : {A B : Type 0} → Parser A → B → (A → B → B) → ℕ → Parser B
commas item none one zero = λ ts. Err spent
commas item none one (suc n) = on sign.Comma (do skip; x ← item; xs ← commas item none one n; pure (one x xs)) (pure none)

-- a list by its constructors
abbrev pub gather : {A B : Type 0} → (A → B → B) → B → List A → B
gather one none [] = none
gather one none (x ∷ xs) = one x (gather one none xs)

-- the same, behind what was found before
unfoldable pub commas_from : {A B : Type 0} → Parser A → B → (A → B → B) → ℕ → List A → Parser B
commas_from item none one zero found = λ ts. Err spent
commas_from item none one (suc n) found = on sign.Comma (do skip; x ← item; commas_from item none one n (found ++ x ∷ [])) (pure (gather one none found))

-- items with commas between, up to a closing parenthesis
abbrev pub comma_list : {A B : Type 0} → ℕ → Parser A → B → (A → B → B) → Parser B
comma_list turns item none one = on sign.Close (pure none) (do x ← item; xs ← commas item none one turns; pure (one x xs))

-- ---- lists with separators

abbrev pub is_separator : TokenKind → Bool
is_separator (kind.Sign sign.Semicolon) = true
is_separator (kind.Sign sign.Newline) = true
is_separator (kind.Sign _) = false
is_separator (kind.Number _) = false
is_separator (kind.Name _) = false
is_separator (kind.Text _) = false

-- the separators that come next; whether there are any
unfoldable pub gap : ℕ → Parser Bool
gap zero = λ ts. Err spent
gap (suc n) = λ ts. if is_separator (kind_of ts) then (do skip; gap n; pure true) ts else Ok (false, ts)

-- the same, where some came before
unfoldable pub gap_from : ℕ → Bool → Parser Bool
gap_from zero any = λ ts. Err spent
gap_from (suc n) any = λ ts. if is_separator (kind_of ts) then (skip >> gap_from n true) ts else Ok (any, ts)

-- whether a list of statements ends before the token
abbrev pub ends : TokenKind → Bool
ends (kind.Sign sign.End) = true
ends (kind.Sign sign.Else) = true
ends (kind.Sign sign.ElseIf) = true
ends (kind.Sign sign.Stop) = true
ends (kind.Sign _) = false
ends (kind.Number _) = false
ends (kind.Name _) = false
ends (kind.Text _) = false

-- items up to a token that ends a list, from behind the first separators on
unfoldable pub list_of : {A B : Type 0} → ℕ → Parser A → B → (A → B → B) → ℕ → Parser B
list_of turns item none one zero = λ ts. Err spent
list_of turns item none one (suc n) = λ ts. if ends (kind_of ts) then Ok (none, ts) else (do
  x ← item
  apart ← gap turns
  if apart then (do xs ← list_of turns item none one n; pure (one x xs)) else pure (one x none)) ts

-- the same, behind what was found before
unfoldable pub list_from : {A B : Type 0} → ℕ → Parser A → B → (A → B → B) → ℕ → List A → Parser B
list_from turns item none one zero found = λ ts. Err spent
list_from turns item none one (suc n) found = λ ts. if ends (kind_of ts) then Ok (gather one none found, ts) else (do
  x ← item
  apart ← gap turns
  if apart then list_from turns item none one n (found ++ x ∷ []) else pure (gather one none (found ++ x ∷ []))) ts

abbrev pub body_of : {A B : Type 0} → ℕ → Parser A → B → (A → B → B) → Parser B
body_of turns item none one = gap turns >> list_of turns item none one turns

abbrev pub tail_of : {A B : Type 0} → ℕ → Parser A → B → (A → B → B) → Parser B
tail_of turns item none one = gap turns >>= λ apart. if apart then list_of turns item none one turns else pure none

-- ---- what an expression is on the left of an assignment operator

-- the names that the arguments are, if they are names
abbrev pub parameters : Trees → Option (List Identifier)
parameters tree.no_trees = Some []
parameters (tree.tree (tree.name i) es) = option_map (λ is. i ∷ is) (parameters es)
parameters (tree.tree _ es) = None

abbrev pub function_of : Identifier → Option (List Identifier) → Target
function_of i (Some is) = targets.Function i is
function_of i None = targets.Other

abbrev pub target : Tree → Target
target (tree.name i) = targets.Variable i
target (tree.read i) = targets.Element i
target (tree.call i es) = function_of i (parameters es)
target _ = targets.Other

abbrev pub step_target : Step → Target
step_target (tree.value e) = target e
step_target (tree.assign i o e) = targets.Other
step_target (tree.store i e) = targets.Other
step_target (tree.jump j) = targets.Other
step_target (tree.guard k e es j) = targets.Other

abbrev pub assignment_of : TokenKind → Option AssignmentOperator
assignment_of (kind.Sign sign.Assign) = Some assignment.Plain
assignment_of (kind.Sign sign.PlusAssign) = Some assignment.Plus
assignment_of (kind.Sign sign.MinusAssign) = Some assignment.Minus
assignment_of (kind.Sign sign.StarAssign) = Some assignment.Times
assignment_of (kind.Sign sign.DivideAssign) = Some assignment.Divide
assignment_of (kind.Sign sign.PercentAssign) = Some assignment.Remainder
assignment_of (kind.Sign _) = None
assignment_of (kind.Number _) = None
assignment_of (kind.Name _) = None
assignment_of (kind.Text _) = None

-- ---- calls of `notify` with `all`

-- what is notified, where the arguments so far are it and the name `all`
abbrev pub notified_with_all : Identifier → Trees → Option Tree
notified_with_all i (tree.tree e (tree.tree (tree.name all) tree.no_trees)) = if bytes_eq i.name (codes "notify") && bytes_eq all.name (codes "all") then Some e else None
notified_with_all i _ = None

-- what is notified, where it is the one argument so far
abbrev pub notified_alone : Identifier → Trees → Option Tree
notified_alone i (tree.tree e tree.no_trees) = if bytes_eq i.name (codes "notify") then Some e else None
notified_alone i _ = None

-- ---- the rules, with what reads the next level of nesting

module _ (turns depth : ℕ) (expr_in : Level → Parser Tree) (step_in : Parser Step) where
  abbrev pub grouped : Parser Tree
  grouped = do
    opening depth sign.Open
    e ← expr_in levels.Whole
    expect sign.Close
    pure (tree.group e)

  abbrev pub negated : Sign → UnaryOperator → Parser Tree
  negated s o = do
    opening depth s
    e ← expr_in levels.Operand
    pure (tree.unary o e)

  abbrev pub arguments : Parser Trees
  arguments = comma_list turns (expr_in levels.Whole) tree.no_trees tree.tree

  abbrev pub notify_all : Tree → Parser Tree
  notify_all e = do
    expect sign.Assign
    b ← truth
    expect sign.Close
    pure (tree.notify e b)

  abbrev pub with_all : Option Tree → Parser Tree
  with_all (Some e) = notify_all e
  with_all None = refuse

  abbrev pub alone : Option Tree → Parser Tree
  alone (Some e) = skip >> (letters (codes "all") >> notify_all e)
  alone None = refuse

  -- behind the arguments of a call
  abbrev pub call_ended : Identifier → Trees → Parser Tree
  call_ended i es = on sign.Close (skip >> pure (tree.call i es)) (on sign.Assign (with_all (notified_with_all i es)) (on sign.Semicolon (alone (notified_alone i es)) refuse))

  abbrev pub called : Identifier → Parser Tree
  called i = do
    opening depth sign.Open
    es ← arguments
    call_ended i es

  abbrev pub element : Identifier → Parser Tree
  element i = do
    opening depth sign.OpenSquare
    expect sign.CloseSquare
    pure (tree.read i)

  abbrev pub named_by : Identifier → Parser Tree
  named_by i = on sign.Open (called i) (on sign.OpenSquare (element i) (pure (tree.name i)))

  abbrev pub named : Parser Tree
  named = word >>= named_by

  abbrev pub interpolated : Parser Tree
  interpolated = do
    t ← skip
    i ← word
    pure (tree.interpolation t.at i)

  abbrev pub item_by : TokenKind → Parser Tree
  item_by (kind.Text t) = skip >> pure (tree.text t)
  item_by (kind.Sign _) = expr_in levels.Whole
  item_by (kind.Number _) = expr_in levels.Whole
  item_by (kind.Name _) = expr_in levels.Whole

  -- an item of `println`
  unfoldable pub item : Parser Tree
  item = by_kind item_by

  abbrev pub printed : Parser Tree
  printed = do
    skip
    opening depth sign.Open
    es ← comma_list turns item tree.no_trees tree.tree
    expect sign.Close
    pure (tree.println es)

  abbrev pub failing : Parser Tree
  failing = do
    skip
    opening depth sign.Open
    t ← quoted
    expect sign.Close
    pure (tree.error t)

  -- `{Int64}`
  abbrev pub of_int64 : Parser Token
  of_int64 = opening depth sign.OpenCurly >> (expect sign.Int64 >> expect sign.CloseCurly)

  abbrev pub channelled : Parser Tree
  channelled = do
    skip
    of_int64
    opening depth sign.Open
    on sign.Close (skip >> pure tree.unbuffered) (do e ← expr_in levels.Whole; expect sign.Close; pure (tree.channel e))

  abbrev pub atomic_made : Parser Tree
  atomic_made = do
    skip
    of_int64
    opening depth sign.Open
    e ← expr_in levels.Whole
    expect sign.Close
    pure (tree.atomic e)

  abbrev pub limit : Tree → Parser Tree
  limit e = do
    skip
    opening depth sign.Open
    expect sign.Int64
    expect sign.Close
    pure e

  abbrev pub ranged : Parser Tree
  ranged = do
    a ← expr_in levels.Sum
    expect sign.Colon
    b ← expr_in levels.Sum
    expect sign.Close
    pure (tree.random_in a b)

  abbrev pub drawn : Parser Tree
  drawn = do
    skip
    opening depth sign.Open
    on sign.Int64 (skip >> (expect sign.Close >> pure tree.random)) ranged

  abbrev pub primary_by : TokenKind → Parser Tree
  primary_by (kind.Number n) = skip >> pure (tree.number n)
  primary_by (kind.Name n) = named
  primary_by (kind.Text t) = refuse
  primary_by (kind.Sign sign.True) = skip >> pure (tree.truth true)
  primary_by (kind.Sign sign.False) = skip >> pure (tree.truth false)
  primary_by (kind.Sign sign.Dollar) = interpolated
  primary_by (kind.Sign sign.Open) = grouped
  primary_by (kind.Sign sign.Println) = printed
  primary_by (kind.Sign sign.Error) = failing
  primary_by (kind.Sign sign.Channel) = channelled
  primary_by (kind.Sign sign.Atomic) = atomic_made
  primary_by (kind.Sign sign.TypeMin) = limit tree.least
  primary_by (kind.Sign sign.TypeMax) = limit tree.greatest
  primary_by (kind.Sign sign.Rand) = drawn
  primary_by (kind.Sign _) = refuse

  -- the tightest forms
  unfoldable pub primary : Parser Tree
  primary = by_kind primary_by

  abbrev pub raised : Tree → Parser Tree
  raised a = on power_sign (do enter depth; skip; b ← expr_in levels.Operand; pure (tree.power a b)) (pure a)

  unfoldable pub power : Parser Tree
  power = primary >>= raised

  abbrev pub operand_by : TokenKind → Parser Tree
  operand_by (kind.Sign (sign.Binary (binary.Arithmetic arithmetic.Subtract))) = negated (unary_sign unary_operator.Minus) unary_operator.Minus
  operand_by (kind.Sign (sign.Binary (binary.Arithmetic arithmetic.Add))) = negated (unary_sign unary_operator.Plus) unary_operator.Plus
  operand_by (kind.Sign sign.Not) = negated sign.Not unary_operator.Not
  operand_by (kind.Sign sign.Tilde) = negated sign.Tilde unary_operator.Complement
  operand_by (kind.Sign _) = power
  operand_by (kind.Number _) = power
  operand_by (kind.Name _) = power
  operand_by (kind.Text _) = power

  unfoldable pub operand : Parser Tree
  operand = by_kind operand_by

  unfoldable pub shift : Parser Tree
  shift = chained turns class.Shift operand

  unfoldable pub product : Parser Tree
  product = chained turns class.Product shift

  unfoldable pub sum : Parser Tree
  sum = chained turns class.Sum product

  unfoldable pub comparison : Parser Tree
  comparison = chained turns class.Comparison sum

  unfoldable pub conjunction : Parser Tree
  conjunction = chained turns class.And comparison

  unfoldable pub disjunction : Parser Tree
  disjunction = chained turns class.Or conjunction

  -- behind what may be the condition of a `?`
  abbrev pub chosen : Tree → Parser Tree
  chosen c = on sign.Question (do enter depth; skip; a ← expr_in levels.Condition; expect sign.Colon; b ← expr_in levels.Condition; pure (tree.conditional c a b)) (pure c)

  unfoldable pub condition : Parser Tree
  condition = disjunction >>= chosen

  -- ---- blocks

  abbrev pub body : Parser Steps
  body = body_of turns step_in tree.no_steps tree.step

  abbrev pub tail : Parser Steps
  tail = tail_of turns step_in tree.no_steps tree.step

  abbrev pub blocked : Parser Tree
  blocked = do
    opening depth sign.Begin
    ss ← body
    expect sign.End
    pure (tree.block ss)

  unfoldable pub arms : ℕ → Parser Arms
  arms zero = λ ts. Err spent
  arms (suc n) = on sign.ElseIf (do skip; c ← expr_in levels.Condition; ss ← tail; rest ← arms n; pure (tree.arm c ss rest)) (on sign.Else (do skip; ss ← body; pure (tree.otherwise ss)) (pure tree.no_arms))

  -- the same, behind what was found before
  unfoldable pub arms_from : ℕ → List (Tree × Steps) → Parser Arms
  arms_from zero found = λ ts. Err spent
  arms_from (suc n) found = on sign.ElseIf (do skip; c ← expr_in levels.Condition; ss ← tail; arms_from n (found ++ (c, ss) ∷ [])) (on sign.Else (do skip; ss ← body; pure (arms_of found (tree.otherwise ss))) (pure (arms_of found tree.no_arms)))

  abbrev pub branched : Parser Tree
  branched = do
    opening depth sign.If
    c ← expr_in levels.Condition
    ss ← tail
    rest ← arms turns
    expect sign.End
    pure (tree.branches c ss rest)

  abbrev pub repeated : Parser Tree
  repeated = do
    opening depth sign.While
    c ← expr_in levels.Condition
    ss ← tail
    expect sign.End
    pure (tree.while c ss)

  -- `for name in`, or with `=`
  abbrev pub loop_header : Parser Identifier
  loop_header = do
    opening depth sign.For
    i ← word
    on sign.In skip (expect sign.Assign)
    pure i

  abbrev pub each_looped : Identifier → Tree → Parser Tree
  each_looped i e = do
    ss ← tail
    expect sign.End
    pure (tree.for_each i e ss)

  abbrev pub range_looped : Identifier → Tree → Parser Tree
  range_looped i a = do
    expect sign.Colon
    b ← expr_in levels.Sum
    ss ← tail
    expect sign.End
    pure (tree.for_range i a b ss)

  unfoldable pub is_sum : Tree → Bool
  is_sum e = nat_lt 5 (level e)

  abbrev pub looped_over : Identifier → Tree → Parser Tree
  looped_over i e = on sign.Colon (if is_sum e then range_looped i e else each_looped i e) (each_looped i e)

  -- a loop of any kind
  abbrev pub looped : Parser Tree
  looped = do
    i ← loop_header
    e ← expr_in levels.Condition
    looped_over i e

  -- a loop over a range of numbers
  unfoldable pub range_loop : Parser Tree
  range_loop = do
    i ← loop_header
    a ← expr_in levels.Sum
    range_looped i a

  -- ---- macros

  abbrev pub pool_named : List ℕ → Parser (Option PoolName)
  pool_named n = if bytes_eq n (codes "default") then (skip >> pure (Some pools.Default)) else (if bytes_eq n (codes "interactive") then (skip >> pure (Some pools.Interactive)) else refuse)

  abbrev pub pool_by : TokenKind → Parser (Option PoolName)
  pool_by (kind.Name n) = pool_named n
  pool_by (kind.Sign _) = refuse
  pool_by (kind.Number _) = refuse
  pool_by (kind.Text _) = refuse

  unfoldable pub pool : Parser (Option PoolName)
  pool = on sign.Colon (skip >> by_kind pool_by) (pure None)

  abbrev pub schedule_named : List ℕ → Parser (Option Schedule)
  schedule_named n = if bytes_eq n (codes "static") then (skip >> pure (Some schedules.Static)) else (if bytes_eq n (codes "dynamic") then (skip >> pure (Some schedules.Dynamic)) else refuse)

  abbrev pub schedule_by : TokenKind → Parser (Option Schedule)
  schedule_by (kind.Name n) = schedule_named n
  schedule_by (kind.Sign _) = refuse
  schedule_by (kind.Number _) = refuse
  schedule_by (kind.Text _) = refuse

  unfoldable pub schedule : Parser (Option Schedule)
  schedule = on sign.Colon (skip >> by_kind schedule_by) (pure None)

  abbrev pub spawned : Parser Tree
  spawned = do
    t ← opening depth sign.Spawn
    p ← pool
    e ← expr_in levels.Whole
    pure (tree.spawn t.at p e)

  abbrev pub async_spawned : Parser Tree
  async_spawned = do
    t ← opening depth sign.Async
    e ← expr_in levels.Whole
    pure (tree.async t.at e)

  abbrev pub awaited : Parser Tree
  awaited = do
    opening depth sign.Sync
    e ← expr_in levels.Whole
    pure (tree.sync e)

  -- a loop as the iterations of `@threads`
  abbrev pub threads_of : ℕ → Option Schedule → Tree → Parser Tree
  threads_of at s (tree.for_range i a b ss) = pure (tree.threads at s i a b ss)
  threads_of at s _ = refuse

  abbrev pub threaded : Parser Tree
  threaded = do
    t ← opening depth sign.Threads
    s ← schedule
    e ← expr_in levels.Loop
    threads_of t.at s e

  abbrev pub whole_by : TokenKind → Parser Tree
  whole_by (kind.Sign sign.Begin) = blocked
  whole_by (kind.Sign sign.If) = branched
  whole_by (kind.Sign sign.While) = repeated
  whole_by (kind.Sign sign.For) = looped
  whole_by (kind.Sign sign.Spawn) = spawned
  whole_by (kind.Sign sign.Async) = async_spawned
  whole_by (kind.Sign sign.Sync) = awaited
  whole_by (kind.Sign sign.Threads) = threaded
  whole_by (kind.Sign _) = condition
  whole_by (kind.Number _) = condition
  whole_by (kind.Name _) = condition
  whole_by (kind.Text _) = condition

  -- any expression
  unfoldable pub whole : Parser Tree
  whole = by_kind whole_by

  abbrev pub rule : Level → Parser Tree
  rule levels.Operand = operand
  rule levels.Sum = sum
  rule levels.Condition = condition
  rule levels.Loop = range_loop
  rule levels.Whole = whole

  -- ---- statements

  abbrev pub returned : Parser Leap
  returned = do
    t ← skip
    by_kind (λ k ts. if ends k then Ok (tree.return_nothing t.at, ts) else (if is_separator k then Ok (tree.return_nothing t.at, ts) else (do e ← whole; pure (tree.return_value t.at e)) ts))

  abbrev pub leap_by : TokenKind → Parser Leap
  leap_by (kind.Sign sign.Return) = returned
  leap_by (kind.Sign sign.Break) = skip >>= λ t. pure (tree.break_loop t.at)
  leap_by (kind.Sign sign.Continue) = skip >>= λ t. pure (tree.continue_loop t.at)
  leap_by (kind.Sign _) = refuse
  leap_by (kind.Number _) = refuse
  leap_by (kind.Name _) = refuse
  leap_by (kind.Text _) = refuse

  -- a jump
  unfoldable pub leap : Parser Leap
  leap = by_kind leap_by

  abbrev pub assigned_to : Tree → AssignmentOperator → Target → Parser Step
  assigned_to e o (targets.Variable i) = do skip; v ← whole; pure (tree.assign i o v)
  assigned_to e assignment.Plain (targets.Element i) = do skip; v ← whole; pure (tree.store i v)
  assigned_to e o (targets.Element i) = pure (tree.value e)
  assigned_to e o (targets.Function i is) = pure (tree.value e)
  assigned_to e o targets.Other = pure (tree.value e)

  abbrev pub assigned_by : Tree → Option AssignmentOperator → Parser Step
  assigned_by e (Some o) = assigned_to e o (target e)
  assigned_by e None = pure (tree.value e)

  -- behind what may be the left side of an assignment
  abbrev pub assigned : Tree → Parser Step
  assigned e = by_kind (λ k. assigned_by e (assignment_of k))

  -- behind a chain of `||`, and perhaps the operator before a jump
  abbrev pub or_guarded : Tree → Terms × Bool → Parser Step
  or_guarded e r = if r.1 then (do j ← leap; pure (tree.guard connective.Or e r.0 j)) else (chosen (joined_chain class.Or e r.0) >>= assigned)

  abbrev pub and_guarded : Tree → Terms × Bool → Parser Step
  and_guarded e r = if r.1 then (do j ← leap; pure (tree.guard connective.And e r.0 j)) else (guarded_terms class.Or conjunction turns >>= or_guarded (joined_chain class.And e r.0))

  abbrev pub plain_step : Parser Step
  plain_step = do
    e ← comparison
    r ← guarded_terms class.And comparison turns
    and_guarded e r

  abbrev pub step_by : TokenKind → Parser Step
  step_by (kind.Sign sign.Return) = leap >>= λ j. pure (tree.jump j)
  step_by (kind.Sign sign.Break) = leap >>= λ j. pure (tree.jump j)
  step_by (kind.Sign sign.Continue) = leap >>= λ j. pure (tree.jump j)
  step_by (kind.Sign sign.Begin) = whole >>= λ e. pure (tree.value e)
  step_by (kind.Sign sign.If) = whole >>= λ e. pure (tree.value e)
  step_by (kind.Sign sign.While) = whole >>= λ e. pure (tree.value e)
  step_by (kind.Sign sign.For) = whole >>= λ e. pure (tree.value e)
  step_by (kind.Sign sign.Spawn) = whole >>= λ e. pure (tree.value e)
  step_by (kind.Sign sign.Async) = whole >>= λ e. pure (tree.value e)
  step_by (kind.Sign sign.Sync) = whole >>= λ e. pure (tree.value e)
  step_by (kind.Sign sign.Threads) = whole >>= λ e. pure (tree.value e)
  step_by (kind.Sign _) = plain_step
  step_by (kind.Number _) = plain_step
  step_by (kind.Name _) = plain_step
  step_by (kind.Text _) = plain_step

  -- a statement
  unfoldable pub stepped : Parser Step
  stepped = by_kind step_by

  -- ---- what stands between two separators of a script

  abbrev pub using_read : Parser Form
  using_read = do
    skip
    expect sign.BaseThreads
    pure tree.using_threads

  abbrev pub constant_read : Parser Form
  constant_read = do
    skip
    i ← word
    expect sign.Assign
    e ← whole
    pure (tree.constant i e)

  abbrev pub names : Parser (List Identifier)
  names = comma_list turns word [] (λ i is. i ∷ is)

  abbrev pub function_read : Parser Form
  function_read = do
    opening depth sign.Function
    i ← word
    opening (depth - 1) sign.Open
    is ← names
    expect sign.Close
    ss ← tail
    expect sign.End
    pure (tree.function i is ss)

  abbrev pub short_by : Step → Target → Parser Form
  short_by s (targets.Function i is) = do skip; e ← whole; pure (tree.short i is e)
  short_by s (targets.Variable i) = pure (tree.plain s)
  short_by s (targets.Element i) = pure (tree.plain s)
  short_by s targets.Other = pure (tree.plain s)

  -- behind a statement, which may be the left side of a short function
  abbrev pub shortened : Step → Parser Form
  shortened s = on sign.Assign (short_by s (step_target s)) (pure (tree.plain s))

  abbrev pub form_by : TokenKind → Parser Form
  form_by (kind.Sign sign.Using) = using_read
  form_by (kind.Sign sign.Const) = constant_read
  form_by (kind.Sign sign.Function) = function_read
  form_by (kind.Sign _) = stepped >>= shortened
  form_by (kind.Number _) = stepped >>= shortened
  form_by (kind.Name _) = stepped >>= shortened
  form_by (kind.Text _) = stepped >>= shortened

  unfoldable pub topped : Parser TopTree
  topped = λ ts. (by_kind form_by >>= λ f. pure (place_of ts, f)) ts

-- ---- with fewer openers open than that

unfoldable mutual
  pub read : ℕ → ℕ → Level → Parser Tree
  read turns zero l = λ ts. Err spent
  read turns (suc depth) l = rule turns depth (read turns depth) (read_step turns depth) l

  pub read_step : ℕ → ℕ → Parser Step
  read_step turns zero = λ ts. Err spent
  read_step turns (suc depth) = stepped turns depth (read turns depth) (read_step turns depth)

-- ---- scripts

unfoldable pub read_top : ℕ → ℕ → Parser TopTree
read_top turns depth = topped turns depth (read turns depth) (read_step turns depth)

unfoldable pub script : ℕ → ℕ → Parser (List TopTree)
script turns depth = do
  tops ← body_of turns (read_top turns depth) [] (λ x xs. x ∷ xs)
  expect sign.Stop
  pure tops
