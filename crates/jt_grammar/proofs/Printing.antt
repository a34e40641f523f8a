-- What is printed spells the tree that was printed, its places apart; and a law of the kinds that it was read from, which all
-- printed signs keep, holds of what is printed.
use Rattle.std.proofs.Common.{◌≡◌, ℕ, ◌≤◌, Bool, true, false, inl, List, [], ◌∷◌, ◌++◌, map, Option, Some, None, refl, sym, subst, codes, arith}
use Rattle.std.proofs.lemmas.List.{map-append}
use Rattle.jt_syntax.specs.Tree.{Tree, Trees, Terms, Arms, Leap, Step, Steps, Form, TopTree}
use Rattle.jt_syntax.specs.Tree as tree
use Rattle.jt_syntax.specs.View.{connective_class}
use Rattle.jt_syntax.specs.declared.operator.AssignmentOperator.{AssignmentOperator}
use Rattle.jt_syntax.specs.declared.operator.AssignmentOperator.TheVariants as assignment
use Rattle.jt_syntax.specs.declared.operator.BinaryOperator.TheVariants as binary
use Rattle.jt_syntax.specs.declared.operator.Class.{Class}
use Rattle.jt_syntax.specs.declared.operator.UnaryOperator.{UnaryOperator}
use Rattle.jt_syntax.specs.declared.operator.UnaryOperator.TheVariants as unary
use Rattle.jt_syntax.specs.declared.script.Identifier.{Identifier}
use Rattle.jt_syntax.specs.declared.script.PoolName.{PoolName}
use Rattle.jt_syntax.specs.declared.script.PoolName.TheVariants as pool
use Rattle.jt_syntax.specs.declared.script.Schedule.{Schedule}
use Rattle.jt_syntax.specs.declared.script.Schedule.TheVariants as schedule
use Rattle.jt_syntax.specs.declared.token.Sign.{Sign}
use Rattle.jt_syntax.specs.declared.token.Sign.TheVariants as sign
use Rattle.jt_syntax.specs.declared.token.Token.{Token}
use Rattle.jt_syntax.specs.declared.token.TokenKind.{TokenKind}
use Rattle.jt_syntax.specs.declared.token.TokenKind.TheVariants as kind
use Rattle.jt_grammar.specs.Grammar as grammar
use Rattle.jt_grammar.specs.Grammar.{token, Rule, ◌▸◌, ◌∣◌, Mark, MarkAt, Word, Letters, Held, IsSome, level, unary_sign, power_sign, assignment_sign, Spells, Listed, Commas, Follow, ArmsSpell, LeapSpells, StepSpells, Body, Tail, MoreNames, Names, FormSpells, TopSpells, TopsTail, TopsBody, ScriptSpells, OfInt64, InOrAssign, PoolWord, ScheduleWord, StartsAt}
use Rattle.jt_grammar.specs.Joined.{is_newline}
use Rattle.jt_grammar.specs.Printed.{◌⁀◌, bare_script, script_kinds, mark, word, quoted, truth_kinds, of_int64, pool_kinds, schedule_kinds, tree_kinds, list_kinds, comma_kinds, term_kinds, arms_kinds, leap_kinds, step_kinds, steps_kinds, more_names_kinds, names_kinds, form_kinds, bare_identifier, bare, bare_trees, bare_terms, bare_arms, bare_leap, bare_step, bare_steps, bare_form}
use Rattle.jt_grammar.proofs.Steps.{NoNewline}

-- tokens of these kinds, each at place 0
abbrev pub unplaced : List TokenKind → List Token
unplaced ks = map (λ k. token k 0) ks

-- ---- a law of kinds

abbrev pub Each : {A : Type 0} → (A → Type 0) → List A → Type 0
Each P [] = Unit {0}
Each P (x ∷ xs) = P x × Each P xs

pub each-append : {A : Type 0} (P : A → Type 0) (xs ys : List A) → Each P xs → Each P ys → Each P (xs ++ ys)
each-append P [] ys a b = b
each-append P (x ∷ xs) ys a b = (a.0, each-append P xs ys a.1 b)

each-left : {A : Type 0} (P : A → Type 0) (xs ys : List A) → Each P (xs ++ ys) → Each P xs
each-left P [] ys a = tt
each-left P (x ∷ xs) ys a = (a.0, each-left P xs ys a.1)

each-right : {A : Type 0} (P : A → Type 0) (xs ys : List A) → Each P (xs ++ ys) → Each P ys
each-right P [] ys a = a
each-right P (x ∷ xs) ys a = each-right P xs ys a.1

-- a sign that stands somewhere in a printed text
abbrev pub IsPrinted : Sign → Type 0
IsPrinted sign.Reserved = ⊥
IsPrinted sign.Newline = ⊥
IsPrinted sign.Stop = ⊥
IsPrinted s = Unit {0}

-- P holds of each printed sign, and of the words that stand for themselves
pub record Allows (P : TokenKind → Type 0) : Type 0 where
  pub signs : (s : Sign) → IsPrinted s → P (kind.Sign s)
  pub notify : P (kind.Name (codes "notify"))
  pub all : P (kind.Name (codes "all"))
  pub default : P (kind.Name (codes "default"))
  pub interactive : P (kind.Name (codes "interactive"))
  pub static : P (kind.Name (codes "static"))
  pub dynamic : P (kind.Name (codes "dynamic"))

abbrev pub HasContent : TokenKind → Type 0
HasContent (kind.Sign s) = ⊥
HasContent (kind.Number n) = Unit {0}
HasContent (kind.Name n) = Unit {0}
HasContent (kind.Text t) = Unit {0}

-- P holds of the names, numbers and strings among the tokens
abbrev pub Allowed : (TokenKind → Type 0) → List Token → Type 0
Allowed P w = Each (λ t. HasContent t.kind → P t.kind) w

-- tokens of the rule, of whose names, numbers and strings P holds
pub record Given (P : TokenKind → Type 0) (R : Rule) : Type 0 where
  tokens : List Token
  spelled : R tokens
  allowed : Allowed P tokens

-- the rule has tokens of these kinds, of which P holds
pub record Prints (P : TokenKind → Type 0) (R : Rule) (ks : List TokenKind) : Type 0 where
  spells : R (unplaced ks)
  kept : Each P ks

unary_printed : (o : UnaryOperator) → IsPrinted (unary_sign o)
unary_printed unary.Minus = tt
unary_printed o = tt

assignment_printed : (o : AssignmentOperator) → IsPrinted (assignment_sign o)
assignment_printed assignment.Plain = tt
assignment_printed o = tt

pub level-bare : (e : Tree) → level (bare e) ≡ level e
level-bare (tree.text t) = refl
level-bare e = refl

pub is_some-bare : (es : Terms) → IsSome es → IsSome (bare_terms es)
is_some-bare tree.no_terms a = a
is_some-bare (tree.term o e es) a = tt

-- ---- something is printed for each form

abbrev pub IsFull : List TokenKind → Type 0
IsFull [] = ⊥
IsFull (k ∷ ks) = Unit {0}

full-append : (ks ls : List TokenKind) → IsFull ks → IsFull (ks ++ ls)
full-append [] ls a = absurd a
full-append (k ∷ ks) ls a = tt

tree-full : (e : Tree) → IsFull (tree_kinds e)
tree-full (tree.truth true) = tt
tree-full (tree.truth false) = tt
tree-full (tree.power a b) = full-append (tree_kinds a) _ (tree-full a)
tree-full (tree.chain c e es) = full-append (tree_kinds e) _ (tree-full e)
tree-full (tree.conditional c a b) = full-append (tree_kinds c) _ (tree-full c)
tree-full e = tt

leap-full : (j : Leap) → IsFull (leap_kinds j)
leap-full (tree.break_loop at) = tt
leap-full j = tt

step-full : (x : Step) → IsFull (step_kinds x)
step-full (tree.assign i o e) = tt
step-full (tree.store i e) = tt
step-full (tree.jump j) = leap-full j
step-full (tree.guard c e es j) = full-append (tree_kinds e) _ (tree-full e)
step-full (tree.value e) = tree-full e

form-full : (f : Form) → IsFull (form_kinds f)
form-full (tree.plain s) = step-full s
form-full f = tt

starts_at_zero : (ks : List TokenKind) → IsFull ks → StartsAt 0 (unplaced ks)
starts_at_zero [] a = a
starts_at_zero (k ∷ ks) a = refl

module _ (P : TokenKind → Type 0) (allows : Allows P) where
  -- ---- rules put together

  first : {Q R : Rule} → Given P (Q ▸ R) → Given P Q
  first g = record {
    tokens = g.spelled.0;
    spelled = g.spelled.3;
    allowed = each-left (λ t. HasContent t.kind → P t.kind) g.spelled.0 g.spelled.1 (subst (Allowed P) g.spelled.2 g.allowed);
  }

  rest : {Q R : Rule} → Given P (Q ▸ R) → Given P R
  rest g = record {
    tokens = g.spelled.1;
    spelled = g.spelled.4;
    allowed = each-right (λ t. HasContent t.kind → P t.kind) g.spelled.0 g.spelled.1 (subst (Allowed P) g.spelled.2 g.allowed);
  }

  seq : {Q R : Rule} {ks ls : List TokenKind} → Prints P Q ks → Prints P R ls → Prints P (Q ▸ R) (ks ++ ls)
  seq {ks} {ls} a b = record {
    spells = (unplaced ks, unplaced ls, map-append _ ks ls, a.spells, b.spells);
    kept = each-append P ks ls a.kept b.kept;
  }

  -- beside a fact
  under : {A : Type 0} {R : Rule} → Given P (λ w. A × R w) → Given P R
  under g = record { tokens = g.tokens; spelled = g.spelled.1; allowed = g.allowed }

  beside : {A : Type 0} {R : Rule} {ks : List TokenKind} → A → Prints P R ks → Prints P (λ w. A × R w) ks
  beside a p = record { spells = (a, p.spells); kept = p.kept }

  held : (l : ℕ) (e : Tree) → (Given P (Spells e) → Prints P (Spells (bare e)) (tree_kinds e)) → Given P (Held l e (Spells e)) → Prints P (Held l (bare e) (Spells (bare e))) (tree_kinds e)
  held l e f g = beside (subst (λ n. l ≤ n) (sym (level-bare e)) g.spelled.0) (f (under g))

  -- ---- single tokens

  sign_at : (s : Sign) → IsPrinted s → Prints P (Mark s) (mark s)
  sign_at s p = record { spells = (0, refl); kept = (allows.signs s p, tt) }

  sign_at_start : (s : Sign) → IsPrinted s → Prints P (MarkAt s 0) (mark s)
  sign_at_start s p = record { spells = refl; kept = (allows.signs s p, tt) }

  letters : (n : List ℕ) → P (kind.Name n) → Prints P (Letters n) (word n)
  letters n p = record { spells = (0, refl); kept = (p, tt) }

  of_one : (k : TokenKind) (at : ℕ) (w : List Token) → HasContent k → Allowed P w → w ≡ token k at ∷ [] → P k
  of_one k at w h a e = (subst (Allowed P) e a).0 h

  identifier : (i : Identifier) → Given P (Word i) → Prints P (Word (bare_identifier i)) (word i.name)
  identifier i g = record { spells = refl; kept = (of_one (kind.Name i.name) i.at g.tokens tt g.allowed g.spelled, tt) }

  string : (t : List ℕ) → Given P (grammar.Quoted t) → Prints P (grammar.Quoted t) (quoted t)
  string t g = record { spells = (0, refl); kept = (of_one (kind.Text t) g.spelled.0 g.tokens tt g.allowed g.spelled.1, tt) }

  number : (n : ℕ) → Given P (grammar.Number n) → Prints P (grammar.Number n) (kind.Number n ∷ [])
  number n g = record { spells = (0, refl); kept = (of_one (kind.Number n) g.spelled.0 g.tokens tt g.allowed g.spelled.1, tt) }

  truth : (b : Bool) → Prints P (grammar.Truth b) (truth_kinds b)
  truth true = sign_at sign.True tt
  truth false = sign_at sign.False tt

  open_at : Prints P (Mark sign.Open) (mark sign.Open)
  open_at = sign_at sign.Open tt

  close_at : Prints P (Mark sign.Close) (mark sign.Close)
  close_at = sign_at sign.Close tt

  colon_at : Prints P (Mark sign.Colon) (mark sign.Colon)
  colon_at = sign_at sign.Colon tt

  end_at : Prints P (Mark sign.End) (mark sign.End)
  end_at = sign_at sign.End tt

  in_at : Prints P InOrAssign (mark sign.In)
  in_at = record { spells = inl (0, refl); kept = (allows.signs sign.In tt, tt) }

  comma_at : Prints P (Mark sign.Comma ∣ Mark sign.Semicolon) (mark sign.Comma)
  comma_at = record { spells = inl (0, refl); kept = (allows.signs sign.Comma tt, tt) }

  gap_at : Prints P grammar.Gap (mark sign.Semicolon)
  gap_at = record { spells = (tt, tt); kept = (allows.signs sign.Semicolon tt, tt) }

  no_gap : Prints P grammar.Gap []
  no_gap = record { spells = tt; kept = tt }

  some_gap_at : Prints P grammar.SomeGap (mark sign.Semicolon)
  some_gap_at = record { spells = (omega arith, (tt, tt)); kept = (allows.signs sign.Semicolon tt, tt) }

  nothing_at : Prints P grammar.Nothing []
  nothing_at = record { spells = refl; kept = tt }

  int64_at : Prints P OfInt64 of_int64
  int64_at = seq (sign_at sign.OpenCurly tt) (seq (sign_at sign.Int64 tt) (sign_at sign.CloseCurly tt))

  pool_at : (p : Option PoolName) → Prints P (PoolWord p) (pool_kinds p)
  pool_at None = nothing_at
  pool_at (Some pool.Default) = seq colon_at (letters (codes "default") allows.default)
  pool_at (Some pool.Interactive) = seq colon_at (letters (codes "interactive") allows.interactive)

  schedule_at : (s : Option Schedule) → Prints P (ScheduleWord s) (schedule_kinds s)
  schedule_at None = nothing_at
  schedule_at (Some schedule.Static) = seq colon_at (letters (codes "static") allows.static)
  schedule_at (Some schedule.Dynamic) = seq colon_at (letters (codes "dynamic") allows.dynamic)

  -- ---- trees

  -- behind the `for` of a loop over a range
  range_printed : (i : Identifier) (a b : Tree) (ss : Steps) → (Given P (Spells a) → Prints P (Spells (bare a)) (tree_kinds a)) → (Given P (Spells b) → Prints P (Spells (bare b)) (tree_kinds b)) → (Given P (Tail ss) → Prints P (Tail (bare_steps ss)) (mark sign.Semicolon ⁀ steps_kinds ss))
      → Given P (Word i ▸ InOrAssign ▸ Held 6 a (Spells a) ▸ Mark sign.Colon ▸ Held 6 b (Spells b) ▸ Tail ss ▸ Mark sign.End)
      → Prints P (Word (bare_identifier i) ▸ InOrAssign ▸ Held 6 (bare a) (Spells (bare a)) ▸ Mark sign.Colon ▸ Held 6 (bare b) (Spells (bare b)) ▸ Tail (bare_steps ss) ▸ Mark sign.End) (word i.name ⁀ mark sign.In ⁀ tree_kinds a ⁀ mark sign.Colon ⁀ tree_kinds b ⁀ mark sign.Semicolon ⁀ steps_kinds ss ⁀ mark sign.End)
  range_printed i a b ss of_a of_b of_ss g = seq (identifier i (first g)) (seq in_at (seq (held 6 a of_a (first (rest (rest g)))) (seq colon_at (seq (held 6 b of_b (first (rest (rest (rest (rest g)))))) (seq (of_ss (first (rest (rest (rest (rest (rest g))))))) end_at)))))

  mutual
    pub tree_printed : (e : Tree) → Given P (Spells e) → Prints P (Spells (bare e)) (tree_kinds e)
    tree_printed (tree.text t) g = string t g
    tree_printed (tree.number n) g = number n g
    tree_printed (tree.truth b) g = truth b
    tree_printed (tree.name i) g = identifier i g
    tree_printed (tree.interpolation at i) g = seq (sign_at_start sign.Dollar tt) (identifier i (rest g))
    tree_printed (tree.group e) g = seq open_at (seq (held 1 e (tree_printed e) (first (rest g))) close_at)
    tree_printed (tree.call i es) g = seq (identifier i (first g)) (seq open_at (seq (list_printed 1 es (first (rest (rest g)))) close_at))
    tree_printed (tree.println es) g = seq (sign_at sign.Println tt) (seq open_at (seq (list_printed 0 es (first (rest (rest g)))) close_at))
    tree_printed (tree.error t) g = seq (sign_at sign.Error tt) (seq open_at (seq (string t (first (rest (rest g)))) close_at))
    tree_printed tree.unbuffered g = seq (sign_at sign.Channel tt) (seq int64_at (seq open_at close_at))
    tree_printed (tree.channel e) g = seq (sign_at sign.Channel tt) (seq int64_at (seq open_at (seq (held 1 e (tree_printed e) (first (rest (rest (rest g))))) close_at)))
    tree_printed (tree.atomic e) g = seq (sign_at sign.Atomic tt) (seq int64_at (seq open_at (seq (held 1 e (tree_printed e) (first (rest (rest (rest g))))) close_at)))
    tree_printed tree.least g = seq (sign_at sign.TypeMin tt) (seq open_at (seq (sign_at sign.Int64 tt) close_at))
    tree_printed tree.greatest g = seq (sign_at sign.TypeMax tt) (seq open_at (seq (sign_at sign.Int64 tt) close_at))
    tree_printed tree.random g = seq (sign_at sign.Rand tt) (seq open_at (seq (sign_at sign.Int64 tt) close_at))
    tree_printed (tree.random_in a b) g = seq (sign_at sign.Rand tt) (seq open_at (seq (held 6 a (tree_printed a) (first (rest (rest g)))) (seq colon_at (seq (held 6 b (tree_printed b) (first (rest (rest (rest (rest g)))))) close_at))))
    tree_printed (tree.notify e b) g = seq (letters (codes "notify") allows.notify) (seq open_at (seq (held 1 e (tree_printed e) (first (rest (rest g)))) (seq comma_at (seq (letters (codes "all") allows.all) (seq (sign_at sign.Assign tt) (seq (truth b) close_at))))))
    tree_printed (tree.read i) g = seq (identifier i (first g)) (seq (sign_at sign.OpenSquare tt) (sign_at sign.CloseSquare tt))
    tree_printed (tree.power a b) g = seq (held 11 a (tree_printed a) (first g)) (seq (sign_at power_sign tt) (held 9 b (tree_printed b) (rest (rest g))))
    tree_printed (tree.unary o e) g = seq (sign_at (unary_sign o) (unary_printed o)) (held 9 e (tree_printed e) (rest g))
    tree_printed (tree.chain c e es) g = beside (is_some-bare es g.spelled.0) (seq (held _ e (tree_printed e) (first (under g))) (terms_printed c es (rest (under g))))
    tree_printed (tree.conditional c a b) g = seq (held 3 c (tree_printed c) (first g)) (seq (sign_at sign.Question tt) (seq (held 2 a (tree_printed a) (first (rest (rest g)))) (seq colon_at (held 2 b (tree_printed b) (rest (rest (rest (rest g))))))))
    tree_printed (tree.block ss) g = seq (sign_at sign.Begin tt) (seq (steps_printed ss (first (rest g))) end_at)
    tree_printed (tree.branches c ss arms) g = seq (sign_at sign.If tt) (seq (held 2 c (tree_printed c) (first (rest g))) (seq (tail_printed ss (first (rest (rest g)))) (seq (arms_printed arms (first (rest (rest (rest g))))) end_at)))
    tree_printed (tree.while c ss) g = seq (sign_at sign.While tt) (seq (held 2 c (tree_printed c) (first (rest g))) (seq (tail_printed ss (first (rest (rest g)))) end_at))
    tree_printed (tree.for_range i a b ss) g = seq (sign_at sign.For tt) (range_printed i a b ss (tree_printed a) (tree_printed b) (tail_printed ss) (rest g))
    tree_printed (tree.for_each i e ss) g = seq (sign_at sign.For tt) (seq (identifier i (first (rest g))) (seq in_at (seq (held 2 e (tree_printed e) (first (rest (rest (rest g))))) (seq (tail_printed ss (first (rest (rest (rest (rest g)))))) end_at))))
    tree_printed (tree.spawn at p e) g = seq (sign_at_start sign.Spawn tt) (seq (pool_at p) (held 1 e (tree_printed e) (rest (rest g))))
    tree_printed (tree.async at e) g = seq (sign_at_start sign.Async tt) (held 1 e (tree_printed e) (rest g))
    tree_printed (tree.sync e) g = seq (sign_at sign.Sync tt) (held 1 e (tree_printed e) (rest g))
    tree_printed (tree.threads at s i a b ss) g = seq (sign_at_start sign.Threads tt) (seq (schedule_at s) (seq (sign_at sign.For tt) (range_printed i a b ss (tree_printed a) (tree_printed b) (tail_printed ss) (rest (rest (rest g))))))

    list_printed : (l : ℕ) (es : Trees) → Given P (Listed l es) → Prints P (Listed l (bare_trees es)) (list_kinds es)
    list_printed l tree.no_trees g = nothing_at
    list_printed l (tree.tree e es) g = seq (held l e (tree_printed e) (first g)) (commas_printed l es (rest g))

    commas_printed : (l : ℕ) (es : Trees) → Given P (Commas l es) → Prints P (Commas l (bare_trees es)) (comma_kinds es)
    commas_printed l tree.no_trees g = nothing_at
    commas_printed l (tree.tree e es) g = seq (sign_at sign.Comma tt) (seq (held l e (tree_printed e) (first (rest g))) (commas_printed l es (rest (rest g))))

    terms_printed : (c : Class) (es : Terms) → Given P (Follow c es) → Prints P (Follow c (bare_terms es)) (term_kinds es)
    terms_printed c tree.no_terms g = nothing_at
    terms_printed c (tree.term o e es) g = beside g.spelled.0 (seq (sign_at (sign.Binary o) tt) (seq (held _ e (tree_printed e) (first (rest (under g)))) (terms_printed c es (rest (rest (under g))))))

    arms_printed : (arms : Arms) → Given P (ArmsSpell arms) → Prints P (ArmsSpell (bare_arms arms)) (arms_kinds arms)
    arms_printed tree.no_arms g = nothing_at
    arms_printed (tree.otherwise ss) g = seq (sign_at sign.Else tt) (steps_printed ss (rest g))
    arms_printed (tree.arm c ss arms) g = seq (sign_at sign.ElseIf tt) (seq (held 2 c (tree_printed c) (first (rest g))) (seq (tail_printed ss (first (rest (rest g)))) (arms_printed arms (rest (rest (rest g))))))

    leap_printed : (j : Leap) → Given P (LeapSpells j) → Prints P (LeapSpells (bare_leap j)) (leap_kinds j)
    leap_printed (tree.return_nothing at) g = sign_at_start sign.Return tt
    leap_printed (tree.return_value at e) g = seq (sign_at_start sign.Return tt) (held 1 e (tree_printed e) (rest g))
    leap_printed (tree.break_loop at) g = sign_at_start sign.Break tt
    leap_printed (tree.continue_loop at) g = sign_at_start sign.Continue tt

    step_printed : (x : Step) → Given P (StepSpells x) → Prints P (StepSpells (bare_step x)) (step_kinds x)
    step_printed (tree.assign i o e) g = seq (identifier i (first g)) (seq (sign_at (assignment_sign o) (assignment_printed o)) (held 1 e (tree_printed e) (rest (rest g))))
    step_printed (tree.store i e) g = seq (identifier i (first g)) (seq (sign_at sign.OpenSquare tt) (seq (sign_at sign.CloseSquare tt) (seq (sign_at sign.Assign tt) (held 1 e (tree_printed e) (rest (rest (rest (rest g))))))))
    step_printed (tree.jump j) g = leap_printed j g
    step_printed (tree.guard c e es j) g = seq (held _ e (tree_printed e) (first g)) (seq (terms_printed (connective_class c) es (first (rest g))) (seq (sign_at (sign.Binary (binary.Connective c)) tt) (leap_printed j (rest (rest (rest g))))))
    step_printed (tree.value e) g = held 1 e (tree_printed e) g

    steps_printed : (xs : Steps) → Given P (Body xs) → Prints P (Body (bare_steps xs)) (steps_kinds xs)
    steps_printed tree.no_steps g = no_gap
    steps_printed (tree.step x xs) g = seq no_gap (seq (step_printed x (first (rest g))) (tail_printed xs (rest (rest g))))

    tail_printed : (xs : Steps) → Given P (Tail xs) → Prints P (Tail (bare_steps xs)) (mark sign.Semicolon ⁀ steps_kinds xs)
    tail_printed tree.no_steps g = gap_at
    tail_printed (tree.step x xs) g = seq some_gap_at (seq (step_printed x (first (rest g))) (tail_printed xs (rest (rest g))))

  -- ---- scripts

  more_names_printed : (is : List Identifier) → Given P (MoreNames is) → Prints P (MoreNames (map bare_identifier is)) (more_names_kinds is)
  more_names_printed [] g = nothing_at
  more_names_printed (i ∷ is) g = seq (sign_at sign.Comma tt) (seq (identifier i (first (rest g))) (more_names_printed is (rest (rest g))))

  names_printed : (is : List Identifier) → Given P (Names is) → Prints P (Names (map bare_identifier is)) (names_kinds is)
  names_printed [] g = nothing_at
  names_printed (i ∷ is) g = seq (identifier i (first g)) (more_names_printed is (rest g))

  form_printed : (f : Form) → Given P (FormSpells f) → Prints P (FormSpells (bare_form f)) (form_kinds f)
  form_printed tree.using_threads g = seq (sign_at sign.Using tt) (sign_at sign.BaseThreads tt)
  form_printed (tree.constant i e) g = seq (sign_at sign.Const tt) (seq (identifier i (first (rest g))) (seq (sign_at sign.Assign tt) (held 1 e (tree_printed e) (rest (rest (rest g))))))
  form_printed (tree.function i is ss) g = seq (sign_at sign.Function tt) (seq (identifier i (first (rest g))) (seq open_at (seq (names_printed is (first (rest (rest (rest g))))) (seq close_at (seq (tail_printed ss (first (rest (rest (rest (rest (rest g))))))) end_at)))))
  form_printed (tree.short i is e) g = seq (identifier i (first g)) (seq open_at (seq (names_printed is (first (rest (rest g)))) (seq close_at (seq (sign_at sign.Assign tt) (held 1 e (tree_printed e) (rest (rest (rest (rest (rest g))))))))))
  form_printed (tree.plain s) g = step_printed s g

  top_printed : (x : TopTree) → Given P (TopSpells x) → Prints P (TopSpells (0, bare_form x.1)) (form_kinds x.1)
  top_printed x g =
      let p = form_printed x.1 (record { tokens = g.tokens; spelled = g.spelled.1; allowed = g.allowed }) in
      record { spells = (starts_at_zero (form_kinds x.1) (form-full x.1), p.spells); kept = p.kept }

  tops_tail_printed : (tops : List TopTree) → Given P (TopsTail tops) → Prints P (TopsTail (bare_script tops)) (mark sign.Semicolon ⁀ script_kinds tops)
  tops_tail_printed [] g = gap_at
  tops_tail_printed (x ∷ tops) g = seq some_gap_at (seq (top_printed x (first (rest g))) (tops_tail_printed tops (rest (rest g))))

  tops_printed : (tops : List TopTree) → Given P (TopsBody tops) → Prints P (TopsBody (bare_script tops)) (script_kinds tops)
  tops_printed [] g = no_gap
  tops_printed (x ∷ tops) g = seq no_gap (seq (top_printed x (first (rest g))) (tops_tail_printed tops (rest (rest g))))

-- ---- no newlines

abbrev NoLine : TokenKind → Type 0
NoLine k = is_newline k ≡ false

no_line_signs : (s : Sign) → IsPrinted s → NoLine (kind.Sign s)
no_line_signs sign.Newline p = absurd p
no_line_signs s p = refl

no_line_allowed : (w : List Token) → Allowed NoLine w
no_line_allowed [] = tt
no_line_allowed (t ∷ w) = (no_line_content t.kind, no_line_allowed w)
  where
    no_line_content : (k : TokenKind) → HasContent k → NoLine k
    no_line_content (kind.Sign s) h = absurd h
    no_line_content (kind.Number n) h = refl
    no_line_content (kind.Name n) h = refl
    no_line_content (kind.Text t) h = refl

no_line_allows : Allows NoLine
no_line_allows = record { signs = no_line_signs; notify = refl; all = refl; default = refl; interactive = refl; static = refl; dynamic = refl }

-- ---- the whole script

-- what is printed, with the end token behind it
abbrev pub printed_tokens : List TopTree → List Token
printed_tokens tops = unplaced (script_kinds tops) ++ token (kind.Sign sign.Stop) 0 ∷ []

no_newline-printed : (ks : List TokenKind) → Each NoLine ks → NoNewline (unplaced ks ++ token (kind.Sign sign.Stop) 0 ∷ [])
no_newline-printed [] a = (refl, tt)
no_newline-printed (k ∷ ks) a = (a.0, no_newline-printed ks a.1)

-- the kinds that are printed for a script have what its tokens' names, numbers and strings have, where all printed signs have it
pub script_kinds-keep : (P : TokenKind → Type 0) → Allows P → (tops : List TopTree) (w : List Token) → ScriptSpells tops w → Allowed P w → Each P (script_kinds tops)
script_kinds-keep P allows tops w a h = (tops_printed P allows tops (first P allows (record { tokens = w; spelled = a; allowed = h }))).kept

pub script_printed : (tops : List TopTree) (w : List Token) → ScriptSpells tops w → ScriptSpells (bare_script tops) (printed_tokens tops)
script_printed tops w a = (unplaced (script_kinds tops), token (kind.Sign sign.Stop) 0 ∷ [], refl, (tops_printed NoLine no_line_allows tops (first NoLine no_line_allows (record { tokens = w; spelled = a; allowed = no_line_allowed w }))).spells, (0, refl))

pub no_newline-script : (tops : List TopTree) (w : List Token) → ScriptSpells tops w → NoNewline (printed_tokens tops)
no_newline-script tops w a = no_newline-printed (script_kinds tops) (script_kinds-keep NoLine no_line_allows tops w a (no_line_allowed w))
