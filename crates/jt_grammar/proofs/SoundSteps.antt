-- What statements explain: jumps, assignments, tests that guard a jump, and expressions.
use Rattle.std.proofs.Common.{◌≡◌, ℕ, suc, ◌<◌, ◌⊎◌, inl, inr, Bool, true, false, true≢false, is_some, cond, List, [], ◌∷◌, ◌++◌, Ok, Option, Some, None, option_map, refl, sym, ap, subst, ◌∙◌, append_assoc, append-nil, arith, lit<}
use Rattle.jt_syntax.specs.Tree.{Tree, Trees, Terms, Leap, Step}
use Rattle.jt_syntax.specs.Tree as tree
use Rattle.jt_syntax.specs.View.{connective_class}
use Rattle.jt_syntax.specs.declared.operator.AssignmentOperator.{AssignmentOperator}
use Rattle.jt_syntax.specs.declared.operator.AssignmentOperator.TheVariants as assignment
use Rattle.jt_syntax.specs.declared.operator.Class.TheVariants as class
use Rattle.jt_syntax.specs.declared.operator.Connective.{Connective}
use Rattle.jt_syntax.specs.declared.operator.Connective.TheVariants as connective
use Rattle.jt_syntax.specs.declared.script.Identifier.{Identifier}
use Rattle.jt_syntax.specs.declared.token.Sign.TheVariants as sign
use Rattle.jt_syntax.specs.declared.token.Token.{Token}
use Rattle.jt_syntax.specs.declared.token.TokenKind.{TokenKind}
use Rattle.jt_syntax.specs.declared.token.TokenKind.TheVariants as kind
use Rattle.jt_grammar.specs.declared.Level.{Level}
use Rattle.jt_grammar.specs.declared.Target.{Target}
use Rattle.jt_grammar.specs.declared.Target.TheVariants as targets
use Rattle.jt_grammar.specs.Grammar.{Rule, token, class_level, At, LeapSpells, StepSpells, assignment_sign}
use Rattle.jt_grammar.specs.Nesting.{TermsWithin, LeapWithin, StepWithin}
use Rattle.jt_grammar.specs.Reader.{Parser, ◌>>=◌, pure, refuse, by_kind, kind_of, ends, is_separator, parameters, function_of, target, assignment_of, joined_chain, comparison, conjunction, whole, leap_by, leap, assigned_to, assigned_by, assigned, or_guarded, and_guarded, plain_step, step_by, stepped}
use Rattle.jt_grammar.proofs.Steps.{Nesting, Shows, After}
use Rattle.jt_grammar.proofs.SoundParts.{Sample, Given, Reads, given, part, done, last, deeper, Free, sits, skipped, refuses, kinds}
use Rattle.jt_grammar.proofs.SoundChains.{TermsOr, joined_spells, joined_within, guarded_read}
use Rattle.jt_grammar.proofs.SoundCalls.{WithinBy, Below, marks}
use Rattle.jt_grammar.proofs.SoundOperators.{comparison_reads, conjunction_reads, chosen_reads}
use Rattle.jt_grammar.proofs.SoundMacros.{whole_reads}

-- ---- what an expression is on the left of an assignment operator

pub none-some : {X A : Type 0} (b : A) → None ≡ Some b → X
none-some b e = absurd (true≢false (sym (ap is_some e)))

names_in : Option (List Identifier) → List Identifier
names_in None = []
names_in (Some is) = is

pub some-same : (a b : List Identifier) → Some a ≡ Some b → a ≡ b
unfolding names_in
some-same a b e = ap names_in e

pub mapped_is : (i : Identifier) (o : Option (List Identifier)) (is : List Identifier) → option_map (λ is. i ∷ is) o ≡ Some is → (js : List Identifier) × (o ≡ Some js) × (is ≡ i ∷ js)
mapped_is i None is e = none-some is e
mapped_is i (Some js) is e = (js, refl, sym (some-same (i ∷ js) is e))

target_code : Target → ℕ
target_code (targets.Variable i) = 0
target_code (targets.Element i) = 1
target_code (targets.Function i is) = 2
target_code targets.Other = 3

targets_differ : {X : Type 0} (a b : Target) → a ≡ b → (target_code a < target_code b) ⊎ (target_code b < target_code a) → X
targets_differ a b e (inl h) = absurd (omega (arith, ap target_code e, h))
targets_differ a b e (inr h) = absurd (omega (arith, ap target_code e, h))

identifier_in : Target → Identifier
identifier_in (targets.Variable i) = i
identifier_in (targets.Element i) = i
identifier_in (targets.Function i is) = i
identifier_in targets.Other = record { name = []; at = 0 }

parameters_in : Target → List Identifier
parameters_in (targets.Function i is) = is
parameters_in _ = []

variable_is_none : {X : Type 0} (j : Identifier) (o : Option (List Identifier)) (i : Identifier) → function_of j o ≡ targets.Variable i → X
unfolding target_code
variable_is_none j (Some is) i e = targets_differ (targets.Function j is) (targets.Variable i) e (inr (lit< tt))
variable_is_none j None i e = targets_differ targets.Other (targets.Variable i) e (inr (lit< tt))

element_is_none : {X : Type 0} (j : Identifier) (o : Option (List Identifier)) (i : Identifier) → function_of j o ≡ targets.Element i → X
unfolding target_code
element_is_none j (Some is) i e = targets_differ (targets.Function j is) (targets.Element i) e (inr (lit< tt))
element_is_none j None i e = targets_differ targets.Other (targets.Element i) e (inr (lit< tt))

pub variable_is : (e : Tree) (i : Identifier) → target e ≡ targets.Variable i → e ≡ tree.name i
unfolding target_code identifier_in
variable_is (tree.name j) i e = ap (λ x. tree.name (identifier_in x)) e
variable_is (tree.read j) i e = targets_differ (targets.Element j) (targets.Variable i) e (inr (lit< tt))
variable_is (tree.call j es) i e = variable_is_none j (parameters es) i e
variable_is _ i e = targets_differ targets.Other (targets.Variable i) e (inr (lit< tt))

pub element_is : (e : Tree) (i : Identifier) → target e ≡ targets.Element i → e ≡ tree.read i
unfolding target_code identifier_in
element_is (tree.name j) i e = targets_differ (targets.Variable j) (targets.Element i) e (inl (lit< tt))
element_is (tree.read j) i e = ap (λ x. tree.read (identifier_in x)) e
element_is (tree.call j es) i e = element_is_none j (parameters es) i e
element_is _ i e = targets_differ targets.Other (targets.Element i) e (inr (lit< tt))

-- a call whose arguments are these names
abbrev pub IsCallOf : Tree → Identifier → List Identifier → Type 0
IsCallOf e i is = (es : Trees) × (e ≡ tree.call i es) × (parameters es ≡ Some is)

function_is_of : (j : Identifier) (es : Trees) (o : Option (List Identifier)) → parameters es ≡ o → (i : Identifier) (is : List Identifier) → function_of j o ≡ targets.Function i is → IsCallOf (tree.call j es) i is
unfolding target_code identifier_in parameters_in
function_is_of j es None h i is e = targets_differ targets.Other (targets.Function i is) e (inr (lit< tt))
function_is_of j es (Some js) h i is e = (es, ap (λ x. tree.call (identifier_in x) es) e, h ∙ ap (λ x. Some (parameters_in x)) e)

pub function_is : (e : Tree) (i : Identifier) (is : List Identifier) → target e ≡ targets.Function i is → IsCallOf e i is
unfolding target_code
function_is (tree.name j) i is e = targets_differ (targets.Variable j) (targets.Function i is) e (inl (lit< tt))
function_is (tree.read j) i is e = targets_differ (targets.Element j) (targets.Function i is) e (inl (lit< tt))
function_is (tree.call j es) i is e = function_is_of j es (parameters es) refl i is e
function_is _ i is e = targets_differ targets.Other (targets.Function i is) e (inr (lit< tt))

pub no_function : {X : Type 0} (i : Identifier) (is : List Identifier) → targets.Other ≡ targets.Function i is → X
unfolding target_code
no_function i is e = targets_differ targets.Other (targets.Function i is) e (inr (lit< tt))

kind_by : Option AssignmentOperator → TokenKind
kind_by None = kind.Sign sign.Stop
kind_by (Some o) = kind.Sign (assignment_sign o)

assignment_is : (k : TokenKind) (o : AssignmentOperator) → assignment_of k ≡ Some o → k ≡ kind.Sign (assignment_sign o)
unfolding kind_by
assignment_is (kind.Sign sign.Assign) o e = ap kind_by e
assignment_is (kind.Sign sign.PlusAssign) o e = ap kind_by e
assignment_is (kind.Sign sign.MinusAssign) o e = ap kind_by e
assignment_is (kind.Sign sign.StarAssign) o e = ap kind_by e
assignment_is (kind.Sign sign.DivideAssign) o e = ap kind_by e
assignment_is (kind.Sign sign.PercentAssign) o e = ap kind_by e
assignment_is (kind.Sign _) o e = none-some o e
assignment_is (kind.Number m) o e = none-some o e
assignment_is (kind.Name m) o e = none-some o e
assignment_is (kind.Text m) o e = none-some o e

-- ---- statements

abbrev pub StepBy : ℕ → Nesting Step
StepBy d b = StepWithin (deeper d b)

abbrev pub LeapBy : ℕ → Nesting Leap
LeapBy d b = LeapWithin (deeper d b)

module _ (n d : ℕ) (expr_in : Level → Parser Tree) (step_in : Parser Step) (below : Below n d expr_in step_in) where
  -- ---- jumps

  some_break : {C : Bool → Type 0} → Sample C LeapSpells (LeapBy d)
  some_break = (token (kind.Sign sign.Break) 0 ∷ [], tree.break_loop 0, refl, (λ b c. tt), (refl, tt))

  abbrev behind_return : Token → TokenKind → Parser Leap
  behind_return t k ts = cond (ends k) (Ok (tree.return_nothing t.at, ts)) (cond (is_separator k) (Ok (tree.return_nothing t.at, ts)) ((whole n d expr_in step_in >>= λ e. pure (tree.return_value t.at e)) ts))

  returned_from : (t : Token) → t.kind ≡ kind.Sign sign.Return → Reads Free (After (t ∷ []) LeapSpells) (LeapBy d) n (by_kind (behind_return t))
  returned_from t e = record { explains = λ c ts. first c ts (ends (kind_of ts)); sample = ([], tree.return_nothing t.at, sits e, (λ b c. tt), tt) }
    where
      value_reads : Reads Free (After (t ∷ []) LeapSpells) (LeapBy d) n (whole n d expr_in step_in >>= λ e. pure (tree.return_value t.at e))
      value_reads = last (λ e. tree.return_value t.at e) (whole_reads n d expr_in step_in below) (λ x w g. (t ∷ [], w, refl, sits e, g)) (λ x b c k. k)

      second : Given Free → (ts : List Token) (b : Bool) → Shows (After (t ∷ []) LeapSpells) (LeapBy d) n ts (cond b (Ok (tree.return_nothing t.at, ts)) ((whole n d expr_in step_in >>= λ e. pure (tree.return_value t.at e)) ts))
      second c ts true = ([], refl, sits e, (λ b. tt))
      second c ts false = value_reads.explains c ts

      first : Given Free → (ts : List Token) (b : Bool) → Shows (After (t ∷ []) LeapSpells) (LeapBy d) n ts (cond b (Ok (tree.return_nothing t.at, ts)) (cond (is_separator (kind_of ts)) (Ok (tree.return_nothing t.at, ts)) ((whole n d expr_in step_in >>= λ e. pure (tree.return_value t.at e)) ts)))
      first c ts true = ([], refl, sits e, (λ b. tt))
      first c ts false = second c ts (is_separator (kind_of ts))

  leap_refused : Reads Free LeapSpells (LeapBy d) n refuse
  leap_refused = refuses some_break

  leap_at : Given Free → (t : Token) (ts : List Token) (k : TokenKind) → t.kind ≡ k → Shows LeapSpells (LeapBy d) n (t ∷ ts) (leap_by n d expr_in step_in k (t ∷ ts))
  leap_at c t ts (kind.Sign sign.Return) e = skipped LeapSpells (LeapBy d) (λ t. by_kind (behind_return t)) t (returned_from t e) c ts
  leap_at c t ts (kind.Sign sign.Break) e = (t ∷ [], refl, sits e, (λ b. tt))
  leap_at c t ts (kind.Sign sign.Continue) e = (t ∷ [], refl, sits e, (λ b. tt))
  leap_at c t ts (kind.Sign s) e = leap_refused.explains c (t ∷ ts)
  leap_at c t ts (kind.Number m) e = leap_refused.explains c (t ∷ ts)
  leap_at c t ts (kind.Name m) e = leap_refused.explains c (t ∷ ts)
  leap_at c t ts (kind.Text m) e = leap_refused.explains c (t ∷ ts)

  leap_reads : Reads Free LeapSpells (LeapBy d) n (leap n d expr_in step_in)
  unfolding leap
  leap_reads = kinds (leap_by n d expr_in step_in) some_break leap_at (λ c. leap_refused.explains c [])

  -- ---- assignments

  -- behind the tokens w of e, of which H tells
  module _ {C : Bool → Type 0} {H : Step → Rule} (e : Tree) (w : List Token) (g : At 1 e w) (within : (b : Bool) → C b → WithinBy d b e) (lift : (x : Step) (y : List Token) → StepSpells x (w ++ y) → H x y) where
    value_is : H (tree.value e) []
    value_is = lift (tree.value e) [] (subst (At 1 e) (sym (append-nil w)) g)

    valued : Reads C H (StepBy d) n (pure (tree.value e))
    valued = done value_is within

    abbrev Here : AssignmentOperator → Token → Target → Type 0
    Here o t a = Given C → (ts : List Token) → Shows H (StepBy d) n (t ∷ ts) (assigned_to n d expr_in step_in e o a (t ∷ ts))

    to_variable : (o : AssignmentOperator) (i : Identifier) → e ≡ tree.name i → (t : Token) → t.kind ≡ kind.Sign (assignment_sign o) → Here o t (targets.Variable i)
    to_variable o i is t k c ts = skipped H (StepBy d) (λ _. whole n d expr_in step_in >>= λ v. pure (tree.assign i o v)) t
        (last (λ v. tree.assign i o v) (whole_reads n d expr_in step_in below) (λ v z h. lift (tree.assign i o v) (t ∷ z) (w, _, refl, (subst (λ x. At 1 x w) is g).1, (t ∷ [], z, refl, marks k, h))) (λ v b c k. k)) c ts

    to_element : (i : Identifier) → e ≡ tree.read i → (t : Token) → t.kind ≡ kind.Sign sign.Assign → Here assignment.Plain t (targets.Element i)
    to_element i is t k c ts = skipped H (StepBy d) (λ _. whole n d expr_in step_in >>= λ v. pure (tree.store i v)) t
        (last (λ v. tree.store i v) (whole_reads n d expr_in step_in below) (λ v z h. lift (tree.store i v) (t ∷ z) (stored v z h)) (λ v b c k. (subst (WithinBy d b) is (within b c), k))) c ts
      where
        stored : (v : Tree) (z : List Token) → At 1 v z → StepSpells (tree.store i v) (w ++ (t ∷ z))
        stored v z h =
            let x = (subst (λ x. At 1 x w) is g).1 in
            let y = x.4 in
            (x.0, x.1 ++ (t ∷ z), ap (λ q. q ++ (t ∷ z)) x.2 ∙ append_assoc x.0 x.1 (t ∷ z), x.3, (y.0, y.1 ++ (t ∷ z), ap (λ q. q ++ (t ∷ z)) y.2 ∙ append_assoc y.0 y.1 (t ∷ z), y.3, (y.1, t ∷ z, refl, y.4, (t ∷ [], z, refl, marks k, h))))

    to_target : (o : AssignmentOperator) (a : Target) → target e ≡ a → (t : Token) → t.kind ≡ kind.Sign (assignment_sign o) → Here o t a
    to_target o (targets.Variable i) is t k c ts = to_variable o i (variable_is e i is) t k c ts
    to_target assignment.Plain (targets.Element i) is t k c ts = to_element i (element_is e i is) t k c ts
    to_target assignment.Plus (targets.Element i) is t k c ts = valued.explains c (t ∷ ts)
    to_target assignment.Minus (targets.Element i) is t k c ts = valued.explains c (t ∷ ts)
    to_target assignment.Times (targets.Element i) is t k c ts = valued.explains c (t ∷ ts)
    to_target assignment.Divide (targets.Element i) is t k c ts = valued.explains c (t ∷ ts)
    to_target assignment.Remainder (targets.Element i) is t k c ts = valued.explains c (t ∷ ts)
    to_target o (targets.Function i js) is t k c ts = valued.explains c (t ∷ ts)
    to_target o targets.Other is t k c ts = valued.explains c (t ∷ ts)

    assigned_at : (t : Token) (o : Option AssignmentOperator) → assignment_of t.kind ≡ o → Given C → (ts : List Token) → Shows H (StepBy d) n (t ∷ ts) (assigned_by n d expr_in step_in e o (t ∷ ts))
    assigned_at t None is c ts = valued.explains c (t ∷ ts)
    assigned_at t (Some o) is c ts = to_target o (target e) refl t (assignment_is t.kind o is) c ts

    assigned_reads : Reads C H (StepBy d) n (assigned n d expr_in step_in e)
    assigned_reads = record { explains = λ c ts. at c ts; sample = valued.sample }
      where
        at : Given C → (ts : List Token) → Shows H (StepBy d) n ts (assigned n d expr_in step_in e ts)
        at c [] = valued.explains c []
        at c (t ∷ ts) = assigned_at t (assignment_of t.kind) refl c ts

  -- ---- tests that guard a jump

  abbrev WithinTerms : Bool → Terms → Type 0
  WithinTerms b es = TermsWithin (deeper d b) es

  guard_is : (c : Connective) (e : Tree) (es : Terms) (j : Leap) (w v z : List Token) → At (suc (class_level (connective_class c))) e w → TermsOr c es true v → LeapSpells j z → StepSpells (tree.guard c e es j) (w ++ (v ++ z))
  guard_is c e es j w v z g h l = (w, v ++ z, refl, g, (h.0, h.1 ++ z, ap (λ q. q ++ z) h.2 ∙ append_assoc h.0 h.1 z, h.3, (h.1, z, refl, h.4, l)))

  module _ {C : Bool → Type 0} {H : Step → Rule} (e : Tree) (w : List Token) (g : At 4 e w) (within : (b : Bool) → C b → WithinBy d b e) (lift : (x : Step) (y : List Token) → StepSpells x (w ++ y) → H x y)
      (es : Terms) (u : List Token) (terms_within : (b : Bool) → C b → WithinTerms b es) where
    or_behind : (b : Bool) → TermsOr connective.Or es b u → Reads C (After u H) (StepBy d) n (or_guarded n d expr_in step_in e (es, b))
    or_behind true h = last (λ j. tree.guard connective.Or e es j) (given (λ b c. tt) leap_reads) (λ j z l. lift (tree.guard connective.Or e es j) (u ++ z) (guard_is connective.Or e es j w u z g h l)) (λ j b c k. (within b c, terms_within b c, k))
    or_behind false h = part (chosen_reads n d expr_in step_in below (joined_chain class.Or e es) (w ++ u) (joined_spells (deeper d) n class.Or (conjunction n d expr_in step_in) (conjunction_reads n d expr_in step_in below) e es w u g h)
        (λ b c. joined_within (deeper d) n class.Or (conjunction n d expr_in step_in) (conjunction_reads n d expr_in step_in below) e es b (within b c) (terms_within b c)))
        (λ x z k. assigned_reads x ((w ++ u) ++ z) (omega (arith, k.0), k.1) (λ b c. c.1) (λ y q s. lift y (u ++ (z ++ q)) (subst (StepSpells y) (append_assoc (w ++ u) z q ∙ append_assoc w u (z ++ q)) s)))

  module _ (e : Tree) (w : List Token) (g : At 5 e w) where
    and_behind : (es : Terms) (b : Bool) (v : List Token) → TermsOr connective.And es b v → Reads (λ b. (Unit {0} × WithinBy d b e) × WithinTerms b es) (After v (After w StepSpells)) (StepBy d) n (and_guarded n d expr_in step_in e (es, b))
    and_behind es true v h = last (λ j. tree.guard connective.And e es j) (given (λ b c. tt) leap_reads) (λ j z l. guard_is connective.And e es j w v z g h l) (λ j b c k. (c.0.1, c.1, k))
    and_behind es false v h = part (guarded_read (deeper d) n connective.Or (conjunction n d expr_in step_in) (given (λ b c. tt) (conjunction_reads n d expr_in step_in below)))
        (λ r u k. or_behind (joined_chain class.And e es) (w ++ v) (joined_spells (deeper d) n class.And (comparison n d expr_in step_in) (comparison_reads n d expr_in step_in below) e es w v g h)
        (λ b c. joined_within (deeper d) n class.And (comparison n d expr_in step_in) (comparison_reads n d expr_in step_in below) e es b c.0.0.1 c.0.1)
        (λ x y s. subst (StepSpells x) (append_assoc w v y) s) r.0 u (λ b c. c.1) r.1 k)

  plain_reads : Reads Free StepSpells (StepBy d) n (plain_step n d expr_in step_in)
  plain_reads = part (comparison_reads n d expr_in step_in below)
      (λ e w g. part (guarded_read (deeper d) n connective.And (comparison n d expr_in step_in) (given (λ b c. tt) (comparison_reads n d expr_in step_in below)))
      (λ r v h. and_behind e w g r.0 r.1 v h))

  -- ---- statements

  value_reads : Reads Free StepSpells (StepBy d) n (whole n d expr_in step_in >>= λ e. pure (tree.value e))
  value_reads = last (λ e. tree.value e) (whole_reads n d expr_in step_in below) (λ e w g. g) (λ e b c k. k)

  jump_reads : Reads Free StepSpells (StepBy d) n (leap n d expr_in step_in >>= λ j. pure (tree.jump j))
  jump_reads = last (λ j. tree.jump j) leap_reads (λ j w l. l) (λ j b c k. k)

  step_at : Given Free → (t : Token) (ts : List Token) (k : TokenKind) → t.kind ≡ k → Shows StepSpells (StepBy d) n (t ∷ ts) (step_by n d expr_in step_in k (t ∷ ts))
  step_at c t ts (kind.Sign sign.Return) e = jump_reads.explains c (t ∷ ts)
  step_at c t ts (kind.Sign sign.Break) e = jump_reads.explains c (t ∷ ts)
  step_at c t ts (kind.Sign sign.Continue) e = jump_reads.explains c (t ∷ ts)
  step_at c t ts (kind.Sign sign.Begin) e = value_reads.explains c (t ∷ ts)
  step_at c t ts (kind.Sign sign.If) e = value_reads.explains c (t ∷ ts)
  step_at c t ts (kind.Sign sign.While) e = value_reads.explains c (t ∷ ts)
  step_at c t ts (kind.Sign sign.For) e = value_reads.explains c (t ∷ ts)
  step_at c t ts (kind.Sign sign.Spawn) e = value_reads.explains c (t ∷ ts)
  step_at c t ts (kind.Sign sign.Async) e = value_reads.explains c (t ∷ ts)
  step_at c t ts (kind.Sign sign.Sync) e = value_reads.explains c (t ∷ ts)
  step_at c t ts (kind.Sign sign.Threads) e = value_reads.explains c (t ∷ ts)
  step_at c t ts (kind.Sign s) e = plain_reads.explains c (t ∷ ts)
  step_at c t ts (kind.Number m) e = plain_reads.explains c (t ∷ ts)
  step_at c t ts (kind.Name m) e = plain_reads.explains c (t ∷ ts)
  step_at c t ts (kind.Text m) e = plain_reads.explains c (t ∷ ts)

  pub stepped_reads : Reads Free StepSpells (StepBy d) n (stepped n d expr_in step_in)
  unfolding stepped
  stepped_reads = kinds (step_by n d expr_in step_in) value_reads.sample step_at (λ c. plain_reads.explains c [])
