-- The first token of a tree, and what may stand behind one.
use Rattle.std.proofs.Common.{◌≡◌, ℕ, suc, ◌≤◌, ◌<◌, Bool, true, false, true≢false, ◌||◌, List, ◌++◌, Option, Some, None, refl, sym, ap, subst, ◌∙◌, lit≤, arith}
use Rattle.jt_syntax.specs.Tree.{Tree}
use Rattle.jt_syntax.specs.Tree as tree
use Rattle.jt_syntax.specs.View.{operator_class}
use Rattle.jt_syntax.specs.declared.operator.ArithmeticOperator.TheVariants as arithmetic
use Rattle.jt_syntax.specs.declared.operator.BinaryOperator.{BinaryOperator}
use Rattle.jt_syntax.specs.declared.operator.BinaryOperator.TheVariants as binary
use Rattle.jt_syntax.specs.declared.operator.Class.{Class}
use Rattle.jt_syntax.specs.declared.operator.Class.TheVariants as class
use Rattle.jt_syntax.specs.declared.operator.UnaryOperator.{UnaryOperator}
use Rattle.jt_syntax.specs.declared.operator.UnaryOperator.TheVariants as unary
use Rattle.jt_syntax.specs.declared.script.Identifier.{Identifier}
use Rattle.jt_syntax.specs.declared.token.Sign.{Sign}
use Rattle.jt_syntax.specs.declared.token.Sign.TheVariants as sign
use Rattle.jt_syntax.specs.declared.token.TokenKind.{TokenKind}
use Rattle.jt_syntax.specs.declared.token.TokenKind.TheVariants as kind
use Rattle.jt_grammar.specs.Grammar.{class_level, level, Mark, Word, Letters, Number, Quoted, Truth, Held, Spells, unary_sign}
use Rattle.jt_grammar.specs.Reader.{kind_of, is, is_of, operates, is_separator, ends}
use Rattle.jt_grammar.proofs.Signs.{is-true, same_class-true, same_class-refl}
use Rattle.jt_grammar.proofs.CompleteParts.{Kinds, Any, Leads, lead_then, lead_mark, lead_at}

-- ---- what goes on with an expression

abbrev other_binds : Sign → ℕ
other_binds sign.Question = 2
other_binds sign.Open = 12
other_binds sign.OpenSquare = 12
other_binds _ = 0

-- `^` alone is of no class
abbrev operator_binds : Option Class → ℕ
operator_binds (Some c) = class_level c
operator_binds None = 10

-- the level of the loosest rule that could go on with the token
abbrev pub binds : TokenKind → ℕ
binds (kind.Sign (sign.Binary o)) = operator_binds (operator_class o)
binds (kind.Sign s) = other_binds s
binds (kind.Number _) = 0
binds (kind.Name _) = 0
binds (kind.Text _) = 0

-- no rule of this level or a tighter one goes on with the token
abbrev pub Stops : ℕ → Kinds
Stops l k = binds k < l

pub stops_looser : (l m : ℕ) → l ≤ m → (k : TokenKind) → Stops l k → Stops m k
stops_looser l m h k s = omega (arith, h, s)

-- a sign that binds this tightly isn't next
pub no_sign : (s : Sign) (l : ℕ) (k : TokenKind) → l ≤ binds (kind.Sign s) → Stops l k → is s k ≡ false
no_sign s l k binding stops = go (is s k) refl
  where
    go : (b : Bool) → is s k ≡ b → b ≡ false
    go false e = refl
    go true e = absurd (omega (arith, binding, ap binds (is-true s k e), stops))

-- kinds that a test lets through are no sign that it doesn't
pub not_sign : (ok : TokenKind → Bool) (s : Sign) (k : TokenKind) → ok (kind.Sign s) ≡ false → ok k ≡ true → is s k ≡ false
not_sign ok s k without with_it = go (is s k) refl
  where
    go : (b : Bool) → is s k ≡ b → b ≡ false
    go false e = refl
    go true e = absurd (true≢false (sym with_it ∙ (ap ok (is-true s k e) ∙ without)))

-- ---- classes of operators

pub class_least : (c : Class) → 3 ≤ class_level c
class_least class.Or = lit≤ tt
class_least class.And = lit≤ tt
class_least class.Comparison = lit≤ tt
class_least class.Sum = lit≤ tt
class_least class.Product = lit≤ tt
class_least class.Shift = lit≤ tt

pub class_most : (c : Class) → class_level c ≤ 8
class_most class.Or = lit≤ tt
class_most class.And = lit≤ tt
class_most class.Comparison = lit≤ tt
class_most class.Sum = lit≤ tt
class_most class.Product = lit≤ tt
class_most class.Shift = lit≤ tt

-- an operator of the class
pub operator-operates : (c : Class) (o : BinaryOperator) → operator_class o ≡ Some c → operates c (kind.Sign (sign.Binary o)) ≡ true
operator-operates c o e = ap (is_of c) e ∙ same_class-refl c

pub operator-binds : (c : Class) (o : BinaryOperator) → operator_class o ≡ Some c → binds (kind.Sign (sign.Binary o)) ≡ class_level c
operator-binds c o e = ap operator_binds e

class_binds : (c : Class) (o : Option Class) → is_of c o ≡ true → operator_binds o ≡ class_level c
class_binds c None e = absurd (true≢false (sym e))
class_binds c (Some d) e = ap class_level (same_class-true d c e)

operates-binds : (c : Class) (k : TokenKind) → operates c k ≡ true → binds k ≡ class_level c
operates-binds c (kind.Sign (sign.Binary o)) e = class_binds c (operator_class o) e
operates-binds c (kind.Sign _) e = absurd (true≢false (sym e))
operates-binds c (kind.Number _) e = absurd (true≢false (sym e))
operates-binds c (kind.Name _) e = absurd (true≢false (sym e))
operates-binds c (kind.Text _) e = absurd (true≢false (sym e))

-- no operator of the class is next
pub no_operator : (c : Class) (k : TokenKind) → Stops (class_level c) k → operates c k ≡ false
no_operator c k stops = go (operates c k) refl
  where
    go : (b : Bool) → operates c k ≡ b → b ≡ false
    go false e = refl
    go true e = absurd (omega (arith, operates-binds c k e, stops))

-- ---- first tokens

-- of the tightest forms
abbrev pub starts_primary : TokenKind → Bool
starts_primary (kind.Number _) = true
starts_primary (kind.Name _) = true
starts_primary (kind.Text _) = false
starts_primary (kind.Sign sign.True) = true
starts_primary (kind.Sign sign.False) = true
starts_primary (kind.Sign sign.Dollar) = true
starts_primary (kind.Sign sign.Open) = true
starts_primary (kind.Sign sign.Println) = true
starts_primary (kind.Sign sign.Error) = true
starts_primary (kind.Sign sign.Channel) = true
starts_primary (kind.Sign sign.Atomic) = true
starts_primary (kind.Sign sign.TypeMin) = true
starts_primary (kind.Sign sign.TypeMax) = true
starts_primary (kind.Sign sign.Rand) = true
starts_primary (kind.Sign _) = false

-- of operands
abbrev pub starts_operand : TokenKind → Bool
starts_operand (kind.Sign (sign.Binary (binary.Arithmetic arithmetic.Subtract))) = true
starts_operand (kind.Sign (sign.Binary (binary.Arithmetic arithmetic.Add))) = true
starts_operand (kind.Sign sign.Not) = true
starts_operand (kind.Sign sign.Tilde) = true
starts_operand k = starts_primary k

-- of blocks and macros
abbrev pub starts_block : TokenKind → Bool
starts_block (kind.Sign sign.Begin) = true
starts_block (kind.Sign sign.If) = true
starts_block (kind.Sign sign.While) = true
starts_block (kind.Sign sign.For) = true
starts_block (kind.Sign sign.Spawn) = true
starts_block (kind.Sign sign.Async) = true
starts_block (kind.Sign sign.Sync) = true
starts_block (kind.Sign sign.Threads) = true
starts_block (kind.Sign _) = false
starts_block (kind.Number _) = false
starts_block (kind.Name _) = false
starts_block (kind.Text _) = false

-- of expressions
abbrev pub starts : TokenKind → Bool
starts k = starts_block k || starts_operand k

abbrev pub starts_text : TokenKind → Bool
starts_text (kind.Text _) = true
starts_text (kind.Sign _) = false
starts_text (kind.Number _) = false
starts_text (kind.Name _) = false

-- of this form
abbrev starts_form : Tree → TokenKind → Bool
starts_form (tree.text _) = starts_text
starts_form (tree.block _) = starts_block
starts_form (tree.branches _ _ _) = starts_block
starts_form (tree.while _ _) = starts_block
starts_form (tree.for_range _ _ _ _) = starts_block
starts_form (tree.for_each _ _ _) = starts_block
starts_form (tree.spawn _ _ _) = starts_block
starts_form (tree.async _ _) = starts_block
starts_form (tree.sync _) = starts_block
starts_form (tree.threads _ _ _ _ _ _) = starts_block
starts_form (tree.conditional _ _ _) = starts_operand
starts_form (tree.chain _ _ _) = starts_operand
starts_form (tree.unary _ _) = starts_operand
starts_form _ = starts_primary

primary-operand : (k : TokenKind) → starts_primary k ≡ true → starts_operand k ≡ true
primary-operand (kind.Sign (sign.Binary (binary.Arithmetic arithmetic.Subtract))) e = refl
primary-operand (kind.Sign (sign.Binary (binary.Arithmetic arithmetic.Add))) e = refl
primary-operand (kind.Sign sign.Not) e = refl
primary-operand (kind.Sign sign.Tilde) e = refl
primary-operand (kind.Sign _) e = e
primary-operand (kind.Number _) e = refl
primary-operand (kind.Name _) e = refl
primary-operand (kind.Text _) e = e

or_left : (a b : Bool) → a ≡ true → (a || b) ≡ true
or_left true b e = refl
or_left false b e = absurd (true≢false (sym e))

or_right : (a b : Bool) → b ≡ true → (a || b) ≡ true
or_right true b e = refl
or_right false b e = e

-- an operand's form begins with an operand's token
form-operand : (e : Tree) → 2 ≤ level e → (k : TokenKind) → starts_form e k ≡ true → starts_operand k ≡ true
form-operand (tree.text _) h k s = absurd (omega (arith, h))
form-operand (tree.block _) h k s = absurd (omega (arith, h))
form-operand (tree.branches _ _ _) h k s = absurd (omega (arith, h))
form-operand (tree.while _ _) h k s = absurd (omega (arith, h))
form-operand (tree.for_range _ _ _ _) h k s = absurd (omega (arith, h))
form-operand (tree.for_each _ _ _) h k s = absurd (omega (arith, h))
form-operand (tree.spawn _ _ _) h k s = absurd (omega (arith, h))
form-operand (tree.async _ _) h k s = absurd (omega (arith, h))
form-operand (tree.sync _) h k s = absurd (omega (arith, h))
form-operand (tree.threads _ _ _ _ _ _) h k s = absurd (omega (arith, h))
form-operand (tree.conditional _ _ _) h k s = s
form-operand (tree.chain _ _ _) h k s = s
form-operand (tree.unary _ _) h k s = s
form-operand _ h k s = primary-operand k s

form-primary : (e : Tree) → 10 ≤ level e → (k : TokenKind) → starts_form e k ≡ true → starts_primary k ≡ true
form-primary (tree.text _) h k s = absurd (omega (arith, h))
form-primary (tree.block _) h k s = absurd (omega (arith, h))
form-primary (tree.branches _ _ _) h k s = absurd (omega (arith, h))
form-primary (tree.while _ _) h k s = absurd (omega (arith, h))
form-primary (tree.for_range _ _ _ _) h k s = absurd (omega (arith, h))
form-primary (tree.for_each _ _ _) h k s = absurd (omega (arith, h))
form-primary (tree.spawn _ _ _) h k s = absurd (omega (arith, h))
form-primary (tree.async _ _) h k s = absurd (omega (arith, h))
form-primary (tree.sync _) h k s = absurd (omega (arith, h))
form-primary (tree.threads _ _ _ _ _ _) h k s = absurd (omega (arith, h))
form-primary (tree.conditional _ _ _) h k s = absurd (omega (arith, h))
form-primary (tree.chain c _ _) h k s = absurd (omega (arith, h, class_most c))
form-primary (tree.unary _ _) h k s = absurd (omega (arith, h))
form-primary _ h k s = s

form-any : (e : Tree) → 1 ≤ level e → (k : TokenKind) → starts_form e k ≡ true → starts k ≡ true
form-any (tree.text _) h k s = absurd (omega (arith, h))
form-any (tree.block _) h k s = or_left _ _ s
form-any (tree.branches _ _ _) h k s = or_left _ _ s
form-any (tree.while _ _) h k s = or_left _ _ s
form-any (tree.for_range _ _ _ _) h k s = or_left _ _ s
form-any (tree.for_each _ _ _) h k s = or_left _ _ s
form-any (tree.spawn _ _ _) h k s = or_left _ _ s
form-any (tree.async _ _) h k s = or_left _ _ s
form-any (tree.sync _) h k s = or_left _ _ s
form-any (tree.threads _ _ _ _ _ _) h k s = or_left _ _ s
form-any (tree.conditional _ _ _) h k s = or_right _ _ s
form-any (tree.chain c _ _) h k s = or_right _ _ s
form-any (tree.unary _ _) h k s = or_right _ _ s
form-any _ h k s = or_right _ _ (primary-operand k s)

-- ---- the first token of a tree

pub lead_word : {i : Identifier} {S M : Kinds} → M (kind.Name i.name) → Leads (Word i) S M
lead_word {M = M} m = record { leads = λ w rest g s. subst (λ z. M (kind_of (z ++ rest))) (sym g) m }

pub lead_letters : {n : List ℕ} {S M : Kinds} → M (kind.Name n) → Leads (Letters n) S M
lead_letters {M = M} m = record { leads = λ w rest g s. subst (λ z. M (kind_of (z ++ rest))) (sym g.1) m }

pub lead_number : {n : ℕ} {S M : Kinds} → M (kind.Number n) → Leads (Number n) S M
lead_number {M = M} m = record { leads = λ w rest g s. subst (λ z. M (kind_of (z ++ rest))) (sym g.1) m }

pub lead_quoted : {t : List ℕ} {S M : Kinds} → M (kind.Text t) → Leads (Quoted t) S M
lead_quoted {M = M} m = record { leads = λ w rest g s. subst (λ z. M (kind_of (z ++ rest))) (sym g.1) m }

pub lead_truth : (b : Bool) {S : Kinds} → Leads (Truth b) S (λ k. starts_primary k ≡ true)
lead_truth true = lead_mark refl
lead_truth false = lead_mark refl

pub lead_unary : (o : UnaryOperator) {S : Kinds} → Leads (Mark (unary_sign o)) S (λ k. starts_operand k ≡ true)
lead_unary unary.Minus = lead_mark refl
lead_unary unary.Plus = lead_mark refl
lead_unary unary.Not = lead_mark refl
lead_unary unary.Complement = lead_mark refl

-- a form that holds as tightly as that
abbrev Starts : Tree → Type 0
Starts e = Leads (Spells e) Any (λ k. starts_form e k ≡ true)

held_operand : (l : ℕ) (e : Tree) → 2 ≤ l → Starts e → Leads (Held l e (Spells e)) Any (λ k. starts_operand k ≡ true)
held_operand l e h x = record { leads = λ w rest g s. form-operand e (omega (arith, h, g.0)) (kind_of (w ++ rest)) (x.leads w rest g.1 tt) }

held_primary : (l : ℕ) (e : Tree) → 10 ≤ l → Starts e → Leads (Held l e (Spells e)) Any (λ k. starts_primary k ≡ true)
held_primary l e h x = record { leads = λ w rest g s. form-primary e (omega (arith, h, g.0)) (kind_of (w ++ rest)) (x.leads w rest g.1 tt) }

tree_starts : (e : Tree) → Starts e
tree_starts (tree.text t) = lead_quoted refl
tree_starts (tree.number n) = lead_number refl
tree_starts (tree.truth b) = lead_truth b
tree_starts (tree.name i) = lead_word refl
tree_starts (tree.interpolation at i) = lead_then (lead_at refl)
tree_starts (tree.group e) = lead_then (lead_mark refl)
tree_starts (tree.call i es) = lead_then (lead_word refl)
tree_starts (tree.println es) = lead_then (lead_mark refl)
tree_starts (tree.error t) = lead_then (lead_mark refl)
tree_starts tree.unbuffered = lead_then (lead_mark refl)
tree_starts (tree.channel e) = lead_then (lead_mark refl)
tree_starts (tree.atomic e) = lead_then (lead_mark refl)
tree_starts tree.least = lead_then (lead_mark refl)
tree_starts tree.greatest = lead_then (lead_mark refl)
tree_starts tree.random = lead_then (lead_mark refl)
tree_starts (tree.random_in a b) = lead_then (lead_mark refl)
tree_starts (tree.notify e b) = lead_then (lead_letters refl)
tree_starts (tree.read i) = lead_then (lead_word refl)
tree_starts (tree.power a b) = lead_then (held_primary 11 a (lit≤ tt) (tree_starts a))
tree_starts (tree.unary o e) = lead_then (lead_unary o)
tree_starts (tree.chain c e es) = record { leads = λ w rest g s. (lead_then {S = Any} (held_operand (suc (class_level c)) e (omega (arith, class_least c)) (tree_starts e))).leads w rest g.1 s }
tree_starts (tree.conditional c a b) = lead_then (held_operand 3 c (lit≤ tt) (tree_starts c))
tree_starts (tree.block ss) = lead_then (lead_mark refl)
tree_starts (tree.branches c ss arms) = lead_then (lead_mark refl)
tree_starts (tree.while c ss) = lead_then (lead_mark refl)
tree_starts (tree.for_range i a b ss) = lead_then (lead_mark refl)
tree_starts (tree.for_each i e ss) = lead_then (lead_mark refl)
tree_starts (tree.spawn at p e) = lead_then (lead_at refl)
tree_starts (tree.async at e) = lead_then (lead_at refl)
tree_starts (tree.sync e) = lead_then (lead_mark refl)
tree_starts (tree.threads at s i a b ss) = lead_then (lead_at refl)

-- what is true of each kind that an expression of the level may begin with
pub lead_primary : {l : ℕ} (e : Tree) {S M : Kinds} → 10 ≤ l → ((k : TokenKind) → starts_primary k ≡ true → M k) → Leads (Held l e (Spells e)) S M
lead_primary {l = l} e h m = record { leads = λ w rest g s. m (kind_of (w ++ rest)) ((held_primary l e h (tree_starts e)).leads w rest g tt) }

pub lead_operand : {l : ℕ} (e : Tree) {S M : Kinds} → 2 ≤ l → ((k : TokenKind) → starts_operand k ≡ true → M k) → Leads (Held l e (Spells e)) S M
lead_operand {l = l} e h m = record { leads = λ w rest g s. m (kind_of (w ++ rest)) ((held_operand l e h (tree_starts e)).leads w rest g tt) }

pub lead_any : {l : ℕ} (e : Tree) {S M : Kinds} → 1 ≤ l → ((k : TokenKind) → starts k ≡ true → M k) → Leads (Held l e (Spells e)) S M
lead_any {l = l} e h m = record { leads = λ w rest g s. m (kind_of (w ++ rest)) (form-any e (omega (arith, h, g.0)) (kind_of (w ++ rest)) ((tree_starts e).leads w rest g.1 tt)) }

form-block : (e : Tree) → level e ≡ 1 → (k : TokenKind) → starts_form e k ≡ true → starts_block k ≡ true
form-block (tree.block _) h k s = s
form-block (tree.branches _ _ _) h k s = s
form-block (tree.while _ _) h k s = s
form-block (tree.for_range _ _ _ _) h k s = s
form-block (tree.for_each _ _ _) h k s = s
form-block (tree.spawn _ _ _) h k s = s
form-block (tree.async _ _) h k s = s
form-block (tree.sync _) h k s = s
form-block (tree.threads _ _ _ _ _ _) h k s = s
form-block (tree.chain c _ _) h k s = absurd (omega (arith, h, class_least c))
form-block _ h k s = absurd (omega (arith, h))

-- what is true of each kind that a block or macro may begin with
pub lead_block : {l : ℕ} (e : Tree) {S M : Kinds} → level e ≡ 1 → ((k : TokenKind) → starts_block k ≡ true → M k) → Leads (Held l e (Spells e)) S M
lead_block e h m = record { leads = λ w rest g s. m (kind_of (w ++ rest)) (form-block e h (kind_of (w ++ rest)) ((tree_starts e).leads w rest g.1 tt)) }

-- ---- what may stand behind a statement

abbrev pub closes : TokenKind → Bool
closes k = ends k || is_separator k

abbrev pub Closes : Kinds
Closes k = closes k ≡ true

pub closes-stops : (k : TokenKind) → Closes k → binds k ≡ 0
closes-stops (kind.Sign sign.Semicolon) e = refl
closes-stops (kind.Sign sign.Newline) e = refl
closes-stops (kind.Sign sign.End) e = refl
closes-stops (kind.Sign sign.Else) e = refl
closes-stops (kind.Sign sign.ElseIf) e = refl
closes-stops (kind.Sign sign.Stop) e = refl
closes-stops (kind.Sign _) e = absurd (true≢false (sym e))
closes-stops (kind.Number _) e = absurd (true≢false (sym e))
closes-stops (kind.Name _) e = absurd (true≢false (sym e))
closes-stops (kind.Text _) e = absurd (true≢false (sym e))

-- no expression begins with what stands behind a statement
pub starts-closes : (k : TokenKind) → starts k ≡ true → closes k ≡ false
starts-closes (kind.Sign sign.Semicolon) e = absurd (true≢false (sym e))
starts-closes (kind.Sign sign.Newline) e = absurd (true≢false (sym e))
starts-closes (kind.Sign sign.End) e = absurd (true≢false (sym e))
starts-closes (kind.Sign sign.Else) e = absurd (true≢false (sym e))
starts-closes (kind.Sign sign.ElseIf) e = absurd (true≢false (sym e))
starts-closes (kind.Sign sign.Stop) e = absurd (true≢false (sym e))
starts-closes (kind.Sign _) e = refl
starts-closes (kind.Number _) e = refl
starts-closes (kind.Name _) e = refl
starts-closes (kind.Text _) e = refl

-- no expression begins with a closing parenthesis
pub no_close : (k : TokenKind) → starts k ≡ true → is sign.Close k ≡ false
no_close k = not_sign starts sign.Close k refl
