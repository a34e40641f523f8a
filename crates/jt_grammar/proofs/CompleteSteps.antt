-- Statements are read.
use Rattle.std.proofs.Common.{◌≡◌, ℕ, suc, ◌+◌, ◌≤◌, ◌<◌, Bool, true, false, true≢false, ◌||◌, cond, List, [], ◌∷◌, ◌++◌, length, Some, None, Ok, refl, sym, ap, subst, ◌∙◌, append_assoc, append-nil, length-append, lit≤, lit<, arith}
use Rattle.jt_syntax.specs.Tree.{Tree, Terms, Leap, Step}
use Rattle.jt_syntax.specs.Tree as tree
use Rattle.jt_syntax.specs.View.{connective_class}
use Rattle.jt_syntax.specs.declared.operator.AssignmentOperator.{AssignmentOperator}
use Rattle.jt_syntax.specs.declared.operator.AssignmentOperator.TheVariants as assignment
use Rattle.jt_syntax.specs.declared.operator.BinaryOperator.TheVariants as binary
use Rattle.jt_syntax.specs.declared.operator.Class.TheVariants as class
use Rattle.jt_syntax.specs.declared.operator.Connective.{Connective}
use Rattle.jt_syntax.specs.declared.operator.Connective.TheVariants as connective
use Rattle.jt_syntax.specs.declared.script.Identifier.{Identifier}
use Rattle.jt_syntax.specs.declared.token.Sign.TheVariants as sign
use Rattle.jt_syntax.specs.declared.token.Token.{Token}
use Rattle.jt_syntax.specs.declared.token.TokenKind.{TokenKind}
use Rattle.jt_syntax.specs.declared.token.TokenKind.TheVariants as kind
use Rattle.jt_grammar.specs.declared.Level.{Level}
use Rattle.jt_grammar.specs.Grammar.{token, Rule, ◌▸◌, Nothing, Mark, MarkAt, Word, Held, Spells, level, class_level, assignment_sign, Follow, LeapSpells, StepSpells}
use Rattle.jt_grammar.specs.Nesting.{Within, TermsWithin, LeapWithin, StepWithin}
use Rattle.jt_grammar.specs.Reader.{Parser, ◌>>=◌, pure, kind_of, skip, ends, is_separator, is_jump, guarded_terms, comparison, conjunction, chosen, whole, returned, leap_by, leap, assignment_of, assigned_by, assigned, or_guarded, and_guarded, plain_step, step_by, stepped}
use Rattle.jt_grammar.proofs.CompleteParts.{Kinds, Any, Takes, Leads, ok_then, last, seen, at_by, by, by_same, nothing, single, respell, regroup, lead_then, lead_mark, lead_at, lead_nothing}
use Rattle.jt_grammar.proofs.CompleteChains.{IsComplete, Splits, splits, behind, Ending, guarded_complete}
use Rattle.jt_grammar.proofs.CompleteLists.{neither}
use Rattle.jt_grammar.proofs.CompleteLevels.{AllRead}
use Rattle.jt_grammar.proofs.CompleteExpressions.{comparison_complete, conjunction_complete, chosen_complete, not_chosen}
use Rattle.jt_grammar.proofs.CompleteMacros.{whole_complete}
use Rattle.jt_grammar.proofs.CompleteBlocks.{closes-stop, leap_is}
use Rattle.jt_grammar.proofs.Front.{Stops, Closes, starts, starts-closes, starts_operand, starts_block, lead_any, lead_operand, lead_block, no_operator, class_least}

-- ---- kinds of tokens

operand-no_jump : (k : TokenKind) → starts_operand k ≡ true → is_jump k ≡ false
operand-no_jump (kind.Sign sign.Return) s = absurd (true≢false (sym s))
operand-no_jump (kind.Sign sign.Break) s = absurd (true≢false (sym s))
operand-no_jump (kind.Sign sign.Continue) s = absurd (true≢false (sym s))
operand-no_jump (kind.Sign _) s = refl
operand-no_jump (kind.Number _) s = refl
operand-no_jump (kind.Name _) s = refl
operand-no_jump (kind.Text _) s = refl

closes-no_assignment : (k : TokenKind) → Closes k → assignment_of k ≡ None
closes-no_assignment (kind.Sign sign.Assign) e = absurd (true≢false (sym e))
closes-no_assignment (kind.Sign sign.PlusAssign) e = absurd (true≢false (sym e))
closes-no_assignment (kind.Sign sign.MinusAssign) e = absurd (true≢false (sym e))
closes-no_assignment (kind.Sign sign.StarAssign) e = absurd (true≢false (sym e))
closes-no_assignment (kind.Sign sign.DivideAssign) e = absurd (true≢false (sym e))
closes-no_assignment (kind.Sign sign.PercentAssign) e = absurd (true≢false (sym e))
closes-no_assignment (kind.Sign _) e = refl
closes-no_assignment (kind.Number _) e = refl
closes-no_assignment (kind.Name _) e = refl
closes-no_assignment (kind.Text _) e = refl

assignment_known : (o : AssignmentOperator) → assignment_of (kind.Sign (assignment_sign o)) ≡ Some o
assignment_known assignment.Plain = refl
assignment_known assignment.Plus = refl
assignment_known assignment.Minus = refl
assignment_known assignment.Times = refl
assignment_known assignment.Divide = refl
assignment_known assignment.Remainder = refl

assignment_stops : (o : AssignmentOperator) → Stops 2 (kind.Sign (assignment_sign o))
assignment_stops assignment.Plain = lit< tt
assignment_stops assignment.Plus = lit< tt
assignment_stops assignment.Minus = lit< tt
assignment_stops assignment.Times = lit< tt
assignment_stops assignment.Divide = lit< tt
assignment_stops assignment.Remainder = lit< tt

-- no operand begins with a jump's word
no_jump : (l : ℕ) → 2 ≤ l → (e : Tree) (u rest : List Token) → Held l e (Spells e) u → is_jump (kind_of (u ++ rest)) ≡ false
no_jump l h e u rest g = let x : Leads (Held l e (Spells e)) Any (λ k. is_jump k ≡ false) = lead_operand e h operand-no_jump in x.leads u rest g tt

module _ (n d : ℕ) (expr_in : Level → Parser Tree) (step_in : Parser Step) (below : (k : ℕ) → d ≡ suc k → AllRead n k expr_in step_in) where
  -- ---- jumps

  nothing_returned : (at : ℕ) (rest : List Token) → Closes (kind_of rest) → returned n d expr_in step_in (token (kind.Sign sign.Return) at ∷ rest) ≡ Ok (tree.return_nothing at, rest)
  nothing_returned at rest s = go (ends (kind_of rest)) (is_separator (kind_of rest)) s
    where
      go : (a b : Bool) → (a || b) ≡ true
          → cond a (Ok (tree.return_nothing at, rest)) (cond b (Ok (tree.return_nothing at, rest)) ((whole n d expr_in step_in >>= λ e. pure (tree.return_value at e)) rest)) ≡ Ok (tree.return_nothing at, rest)
      go true b s = refl
      go false true s = refl
      go false false s = absurd (true≢false (sym s))

  starts-neither : (k : TokenKind) → starts k ≡ true → (ends k ≡ false) × (is_separator k ≡ false)
  starts-neither k s = neither (ends k) (is_separator k) (starts-closes k s)

  abbrev behind_return : ℕ → TokenKind → Parser Leap
  behind_return at k = λ ts. cond (ends k) (Ok (tree.return_nothing at, ts)) (cond (is_separator k) (Ok (tree.return_nothing at, ts)) ((whole n d expr_in step_in >>= λ e. pure (tree.return_value at e)) ts))

  returns_value : (at : ℕ) (k : TokenKind) → starts k ≡ true → behind_return at k ≡ (whole n d expr_in step_in >>= λ e. pure (tree.return_value at e))
  returns_value at k s = go (ends k) (is_separator k) (starts-neither k s).0 (starts-neither k s).1
    where
      go : (a b : Bool) → a ≡ false → b ≡ false
          → (λ ts. cond a (Ok (tree.return_nothing at, ts)) (cond b (Ok (tree.return_nothing at, ts)) ((whole n d expr_in step_in >>= λ e. pure (tree.return_value at e)) ts))) ≡ (whole n d expr_in step_in >>= λ e. pure (tree.return_value at e))
      go true b e f = absurd (true≢false e)
      go false true e f = absurd (true≢false f)
      go false false e f = refl

  value_returned : (at : ℕ) (e : Tree) → Within d e → Takes n (MarkAt sign.Return at ▸ Held 1 e (Spells e)) Closes (returned n d expr_in step_in) (tree.return_value at e)
  value_returned at e o = at_by skip _ (token (kind.Sign sign.Return) at) (λ ts. refl)
      (by_same (behind_return at) (whole n d expr_in step_in >>= λ e. pure (tree.return_value at e)) (lead_any e (lit≤ tt) (returns_value at))
      (last _ (whole_complete n d expr_in step_in below e o) (closes-stop 1 (lit≤ tt)) (λ rest s. refl)))

  leap_complete : (j : Leap) → LeapWithin d j → Takes n (LeapSpells j) Closes (leap n d expr_in step_in) j
  unfolding leap
  leap_complete (tree.return_nothing at) o = by (leap_by n d expr_in step_in) (kind.Sign sign.Return) (lead_at refl)
      (last _ (single (token (kind.Sign sign.Return) at) skip (token (kind.Sign sign.Return) at) (λ ts. refl)) (λ k s. tt) (λ rest s. nothing_returned at rest s))
  leap_complete (tree.return_value at e) o = by (leap_by n d expr_in step_in) (kind.Sign sign.Return) (lead_then (lead_at refl)) (value_returned at e o)
  leap_complete (tree.break_loop at) o = by (leap_by n d expr_in step_in) (kind.Sign sign.Break) (lead_at refl)
      (last _ (single (token (kind.Sign sign.Break) at) skip (token (kind.Sign sign.Break) at) (λ ts. refl)) (λ k s. tt) (λ rest s. refl))
  leap_complete (tree.continue_loop at) o = by (leap_by n d expr_in step_in) (kind.Sign sign.Continue) (lead_at refl)
      (last _ (single (token (kind.Sign sign.Continue) at) skip (token (kind.Sign sign.Continue) at) (λ ts. refl)) (λ k s. tt) (λ rest s. refl))

  -- ---- the front of a statement: an expression, read as far as a jump could follow

  abbrev plain : Parser Step
  plain = plain_step n d expr_in step_in

  abbrev or_next : Tree → Parser Step
  or_next e = guarded_terms class.Or (conjunction n d expr_in step_in) n >>= or_guarded n d expr_in step_in e

  abbrev chosen_next : Tree → Parser Step
  chosen_next e = chosen n d expr_in step_in e >>= assigned n d expr_in step_in

  below_and : IsComplete (suc (class_level class.And)) d n (comparison n d expr_in step_in)
  below_and = comparison_complete n d expr_in step_in below

  below_or : IsComplete (suc (class_level class.Or)) d n (conjunction n d expr_in step_in)
  below_or = conjunction_complete n d expr_in step_in below

  -- the operands of `&&` behind the first one, and perhaps `&&` before a jump
  and_terms : (first : Tree) → Within d first → (es : Terms) → TermsWithin d es → (b : Bool) (u v x rest : List Token) → Held 5 first (Spells first) u → Follow class.And es v → length u + length v < n
      → Stops 5 (kind_of (x ++ rest)) → Ending class.And b x rest
      → plain (u ++ (v ++ (x ++ rest))) ≡ and_guarded n d expr_in step_in first (es, b) rest
  and_terms first wf es ws b u v x rest g f h s o =
      ok_then (comparison n d expr_in step_in (u ++ (v ++ (x ++ rest)))) first (v ++ (x ++ rest)) _ _ ((below_and first wf).takes u (v ++ (x ++ rest)) g (omega (arith, h)) (behind class.And d n (comparison n d expr_in step_in) below_and es v (x ++ rest) f s))
      (ok_then (guarded_terms class.And (comparison n d expr_in step_in) n (v ++ (x ++ rest))) (es, b) rest _ _
      (guarded_complete class.And d n (comparison n d expr_in step_in) below_and (no_jump 5 (lit≤ tt)) n (omega arith) es ws b v x rest f (omega (arith, h)) s o) refl)

  and_front : (e : Tree) → Within d e → (w rest : List Token) → Held 4 e (Spells e) w → length w < n → Stops 4 (kind_of rest) → plain (w ++ rest) ≡ or_next e rest
  and_front e o w rest a h s = go (splits class.And e w a)
    where
      go : Splits class.And e w → plain (w ++ rest) ≡ or_next e rest
      go x =
          let u = x.2 in
          let v = x.3 in
          let ks = x.8 d o in
          let size : length w ≡ length u + length v = ap length x.5 ∙ length-append u v in
          ap plain (ap (λ z. z ++ rest) x.5 ∙ append_assoc u v rest)
          ∙ (and_terms x.0 ks.0 x.1 ks.1 false u v [] rest x.6 x.7 (omega (arith, size, h)) (omega (arith, s)) (refl, no_operator class.And (kind_of rest) s)
          ∙ ap (λ z. or_next z rest) (sym x.4))

  or_terms : (first : Tree) → Within d first → (es : Terms) → TermsWithin d es → (b : Bool) (u v x rest : List Token) → Held 4 first (Spells first) u → Follow class.Or es v → length u + length v < n
      → Stops 4 (kind_of (x ++ rest)) → Ending class.Or b x rest
      → plain (u ++ (v ++ (x ++ rest))) ≡ or_guarded n d expr_in step_in first (es, b) rest
  or_terms first wf es ws b u v x rest g f h s o =
      and_front first wf u (v ++ (x ++ rest)) g (omega (arith, h)) (behind class.Or d n (conjunction n d expr_in step_in) below_or es v (x ++ rest) f s)
      ∙ ok_then (guarded_terms class.Or (conjunction n d expr_in step_in) n (v ++ (x ++ rest))) (es, b) rest _ _
      (guarded_complete class.Or d n (conjunction n d expr_in step_in) below_or (no_jump 4 (lit≤ tt)) n (omega arith) es ws b v x rest f (omega (arith, h)) s o) refl

  or_front : (e : Tree) → Within d e → (w rest : List Token) → Held 3 e (Spells e) w → length w < n → Stops 3 (kind_of rest) → plain (w ++ rest) ≡ chosen_next e rest
  or_front e o w rest a h s = go (splits class.Or e w a)
    where
      go : Splits class.Or e w → plain (w ++ rest) ≡ chosen_next e rest
      go x =
          let u = x.2 in
          let v = x.3 in
          let ks = x.8 d o in
          let size : length w ≡ length u + length v = ap length x.5 ∙ length-append u v in
          ap plain (ap (λ z. z ++ rest) x.5 ∙ append_assoc u v rest)
          ∙ (or_terms x.0 ks.0 x.1 ks.1 false u v [] rest x.6 x.7 (omega (arith, size, h)) (omega (arith, s)) (refl, no_operator class.Or (kind_of rest) s)
          ∙ ap (λ z. chosen_next z rest) (sym x.4))

  plain_front : (e : Tree) → 3 ≤ level e → Within d e → (w rest : List Token) → Spells e w → length w < n → Stops 2 (kind_of rest) → plain (w ++ rest) ≡ assigned n d expr_in step_in e rest
  plain_front e l o w rest a h s = or_front e o w rest (l, a) h (omega (arith, s)) ∙ ok_then (chosen n d expr_in step_in e rest) e rest _ _ (not_chosen n d expr_in step_in below e rest s) refl

  front : (e : Tree) → 2 ≤ level e → Within d e → (w rest : List Token) → Spells e w → length w < n → Stops 2 (kind_of rest) → plain (w ++ rest) ≡ assigned n d expr_in step_in e rest
  front (tree.conditional c a b) l o w rest g h s =
      let u = g.0 in
      let v = g.1 in
      let size : length w ≡ length u + length v = ap length g.2 ∙ length-append u v in
      let question : Stops 3 (kind_of (v ++ rest)) = subst (λ z. Stops 3 (kind_of (z ++ rest))) (sym (g.4.2 ∙ ap (λ z. z ++ g.4.1) g.4.3.1)) (lit< tt) in
      ap plain (ap (λ z. z ++ rest) g.2 ∙ append_assoc u v rest)
      ∙ (or_front c o.0 u (v ++ rest) g.3 (omega (arith, size, h)) question
      ∙ ok_then (chosen n d expr_in step_in c (v ++ rest)) (tree.conditional c a b) rest _ _ ((chosen_complete n d expr_in step_in below c a b o).takes v rest g.4 (omega (arith, size, h)) s) refl)
  front (tree.chain c e es) l o w rest a h s = plain_front (tree.chain c e es) (omega (arith, class_least c)) o w rest a h s
  front e l o w rest a h s = plain_front e (omega (arith, l)) o w rest a h s

  -- what stands behind the expression decides
  front_then : (e : Tree) → Within d e → (Q : Rule) {S : Kinds} {b : Step} → Leads Q S (Stops 2) → Takes n Q S (assigned n d expr_in step_in e) b → Takes n (Held 2 e (Spells e) ▸ Q) S (plain_step n d expr_in step_in) b
  front_then e o Q l x = record {
    takes = λ w rest g h s.
        let u = g.0 in
        let v = g.1 in
        let size : length w ≡ length u + length v = ap length g.2 ∙ length-append u v in
        ap plain (ap (λ z. z ++ rest) g.2 ∙ append_assoc u v rest)
        ∙ (front e g.3.0 o u (v ++ rest) g.3.1 (omega (arith, size, h)) (l.leads v rest g.4 s)
        ∙ x.takes v rest g.4 (omega (arith, size, h)) s);
  }

  -- ---- assignments

  assigned_to_name : (i : Identifier) (o : AssignmentOperator) (e : Tree) → Within d e → Takes n (Mark (assignment_sign o) ▸ Held 1 e (Spells e)) Closes (assigned n d expr_in step_in (tree.name i)) (tree.assign i o e)
  assigned_to_name i o e k = by (λ k. assigned_by n d expr_in step_in (tree.name i) (assignment_of k)) (kind.Sign (assignment_sign o)) (lead_then (lead_mark refl))
      (subst (λ z. Takes n (Mark (assignment_sign o) ▸ Held 1 e (Spells e)) Closes (assigned_by n d expr_in step_in (tree.name i) z) (tree.assign i o e)) (sym (assignment_known o))
      (seen _ (λ at. last _ (whole_complete n d expr_in step_in below e k) (closes-stop 1 (lit≤ tt)) (λ rest s. refl))))

  assigned_to_element : (i : Identifier) (e : Tree) → Within d e → Takes n (Mark sign.Assign ▸ Held 1 e (Spells e)) Closes (assigned n d expr_in step_in (tree.read i)) (tree.store i e)
  assigned_to_element i e k = by (λ k. assigned_by n d expr_in step_in (tree.read i) (assignment_of k)) (kind.Sign sign.Assign) (lead_then (lead_mark refl))
      (seen _ (λ at. last _ (whole_complete n d expr_in step_in below e k) (closes-stop 1 (lit≤ tt)) (λ rest s. refl)))

  not_assigned : (e : Tree) → Takes n Nothing Closes (assigned n d expr_in step_in e) (tree.value e)
  not_assigned e = nothing (assigned n d expr_in step_in e) (tree.value e) (λ rest s. ap (λ o. assigned_by n d expr_in step_in e o rest) (closes-no_assignment (kind_of rest) s))

  -- ---- whole statements

  operand-plain : (k : TokenKind) → starts_operand k ≡ true → step_by n d expr_in step_in k ≡ plain_step n d expr_in step_in
  operand-plain (kind.Sign sign.Return) s = absurd (true≢false (sym s))
  operand-plain (kind.Sign sign.Break) s = absurd (true≢false (sym s))
  operand-plain (kind.Sign sign.Continue) s = absurd (true≢false (sym s))
  operand-plain (kind.Sign sign.Begin) s = absurd (true≢false (sym s))
  operand-plain (kind.Sign sign.If) s = absurd (true≢false (sym s))
  operand-plain (kind.Sign sign.While) s = absurd (true≢false (sym s))
  operand-plain (kind.Sign sign.For) s = absurd (true≢false (sym s))
  operand-plain (kind.Sign sign.Spawn) s = absurd (true≢false (sym s))
  operand-plain (kind.Sign sign.Async) s = absurd (true≢false (sym s))
  operand-plain (kind.Sign sign.Sync) s = absurd (true≢false (sym s))
  operand-plain (kind.Sign sign.Threads) s = absurd (true≢false (sym s))
  operand-plain (kind.Sign _) s = refl
  operand-plain (kind.Number _) s = refl
  operand-plain (kind.Name _) s = refl
  operand-plain (kind.Text _) s = refl

  block-value : (k : TokenKind) → starts_block k ≡ true → step_by n d expr_in step_in k ≡ (whole n d expr_in step_in >>= λ e. pure (tree.value e))
  block-value (kind.Sign sign.Begin) s = refl
  block-value (kind.Sign sign.If) s = refl
  block-value (kind.Sign sign.While) s = refl
  block-value (kind.Sign sign.For) s = refl
  block-value (kind.Sign sign.Spawn) s = refl
  block-value (kind.Sign sign.Async) s = refl
  block-value (kind.Sign sign.Sync) s = refl
  block-value (kind.Sign sign.Threads) s = refl
  block-value (kind.Sign _) s = absurd (true≢false (sym s))
  block-value (kind.Number _) s = absurd (true≢false (sym s))
  block-value (kind.Name _) s = absurd (true≢false (sym s))
  block-value (kind.Text _) s = absurd (true≢false (sym s))

  -- a statement that begins with an expression of operands
  pub stepped_then : (e : Tree) → Within d e → (Q : Rule) {S : Kinds} {b : Step} → Leads Q S (Stops 2) → Takes n Q S (assigned n d expr_in step_in e) b → Takes n (Held 2 e (Spells e) ▸ Q) S (stepped n d expr_in step_in) b
  unfolding stepped
  stepped_then e o Q l x = by_same (step_by n d expr_in step_in) (plain_step n d expr_in step_in) (lead_then (lead_operand e (lit≤ tt) operand-plain)) (front_then e o Q l x)

  value_plain : (e : Tree) → 2 ≤ level e → Within d e → Takes n (StepSpells (tree.value e)) Closes (stepped n d expr_in step_in) (tree.value e)
  value_plain e h o = respell (Held 2 e (Spells e) ▸ Nothing) (λ w g. (w, [], sym (append-nil w), (h, g.1), refl)) (stepped_then e o Nothing (lead_nothing (closes-stop 2 (lit≤ tt))) (not_assigned e))

  value_block : (e : Tree) → level e ≡ 1 → Within d e → Takes n (StepSpells (tree.value e)) Closes (stepped n d expr_in step_in) (tree.value e)
  unfolding stepped
  value_block e h o = by_same (step_by n d expr_in step_in) (whole n d expr_in step_in >>= λ e. pure (tree.value e)) (lead_block e h block-value) (last _ (whole_complete n d expr_in step_in below e o) (closes-stop 1 (lit≤ tt)) (λ rest s. refl))

  value_complete : (e : Tree) → Within d e → Takes n (StepSpells (tree.value e)) Closes (stepped n d expr_in step_in) (tree.value e)
  value_complete (tree.text t) o = record { takes = λ w rest g h s. absurd (omega (arith, g.0)) }
  value_complete (tree.block ss) o = value_block (tree.block ss) refl o
  value_complete (tree.branches c ss xs) o = value_block (tree.branches c ss xs) refl o
  value_complete (tree.while c ss) o = value_block (tree.while c ss) refl o
  value_complete (tree.for_range i a b ss) o = value_block (tree.for_range i a b ss) refl o
  value_complete (tree.for_each i e ss) o = value_block (tree.for_each i e ss) refl o
  value_complete (tree.spawn at p e) o = value_block (tree.spawn at p e) refl o
  value_complete (tree.async at e) o = value_block (tree.async at e) refl o
  value_complete (tree.sync e) o = value_block (tree.sync e) refl o
  value_complete (tree.threads at s i a b ss) o = value_block (tree.threads at s i a b ss) refl o
  value_complete (tree.chain c e es) o = value_plain (tree.chain c e es) (omega (arith, class_least c)) o
  value_complete e o = value_plain e (omega arith) o

  -- ---- chains that end in a jump

  -- where the expression and the operands are read, up to the jump
  jump_by : (c : Connective) (e : Tree) (es : Terms) (j : Leap) → LeapWithin d j
      → ((u v x rest : List Token) → Held (suc (class_level (connective_class c))) e (Spells e) u → Follow (connective_class c) es v → length u + length v < n → Stops (suc (class_level (connective_class c))) (kind_of (x ++ rest)) → Ending (connective_class c) true x rest
      → plain (u ++ (v ++ (x ++ rest))) ≡ (leap n d expr_in step_in >>= λ j. pure (tree.guard c e es j)) rest)
      → Takes n (StepSpells (tree.guard c e es j)) Closes (plain_step n d expr_in step_in) (tree.guard c e es j)
  jump_by c e es j wj up_to = record {
    takes = λ w rest g h k.
        let u = g.0 in
        let v = g.4.0 in
        let x = g.4.4.0 in
        let y = g.4.4.1 in
        let shape : w ++ rest ≡ u ++ (v ++ (x ++ (y ++ rest))) =
        ap (λ z. z ++ rest) (g.2 ∙ ap (λ z. u ++ z) (g.4.2 ∙ ap (λ z. v ++ z) g.4.4.2))
        ∙ (append_assoc u (v ++ (x ++ y)) rest ∙ (ap (λ z. u ++ z) (append_assoc v (x ++ y) rest) ∙ ap (λ z. u ++ (v ++ z)) (append_assoc x y rest))) in
        let size : length w ≡ length u + (length v + (length x + length y)) =
        ap length g.2 ∙ (length-append u g.1 ∙ ap (λ z. length u + z) (ap length g.4.2 ∙ (length-append v g.4.1 ∙ ap (λ z. length v + z) (ap length g.4.4.2 ∙ length-append x y)))) in
        let sign_stops : Stops (suc (class_level (connective_class c))) (kind_of (x ++ (y ++ rest))) = subst (λ z. Stops (suc (class_level (connective_class c))) (kind_of (z ++ (y ++ rest)))) (sym g.4.4.3.1) (omega arith) in
        ap plain shape
        ∙ (up_to u v x (y ++ rest) g.3 g.4.3 (omega (arith, size, h)) sign_stops (binary.Connective c, g.4.4.3.0, refl, g.4.4.3.1, (leap_is j).leads y rest g.4.4.4 tt)
        ∙ ok_then (leap n d expr_in step_in (y ++ rest)) j rest _ _ ((leap_complete j wj).takes y rest g.4.4.4 (omega (arith, size, h)) k) refl);
  }

  jump_form : (c : Connective) (e : Tree) (es : Terms) (j : Leap) → StepWithin d (tree.guard c e es j) → Takes n (StepSpells (tree.guard c e es j)) Closes (plain_step n d expr_in step_in) (tree.guard c e es j)
  jump_form connective.Or e es j o = jump_by connective.Or e es j o.2 (or_terms e o.0 es o.1 true)
  jump_form connective.And e es j o = jump_by connective.And e es j o.2 (and_terms e o.0 es o.1 true)

  guard_complete : (c : Connective) (e : Tree) (es : Terms) (j : Leap) → StepWithin d (tree.guard c e es j) → Takes n (StepSpells (tree.guard c e es j)) Closes (stepped n d expr_in step_in) (tree.guard c e es j)
  unfolding stepped
  guard_complete c e es j o = by_same (step_by n d expr_in step_in) (plain_step n d expr_in step_in) (lead_then (lead_operand e (omega (arith, class_least (connective_class c))) operand-plain)) (jump_form c e es j o)

  jump_complete : (j : Leap) → LeapWithin d j → Takes n (LeapSpells j) Closes (stepped n d expr_in step_in) (tree.jump j)
  unfolding stepped
  jump_complete (tree.return_nothing at) o = by (step_by n d expr_in step_in) (kind.Sign sign.Return) (lead_at refl) (last _ (leap_complete (tree.return_nothing at) o) (λ k s. s) (λ rest s. refl))
  jump_complete (tree.return_value at e) o = by (step_by n d expr_in step_in) (kind.Sign sign.Return) (lead_then (lead_at refl)) (last _ (leap_complete (tree.return_value at e) o) (λ k s. s) (λ rest s. refl))
  jump_complete (tree.break_loop at) o = by (step_by n d expr_in step_in) (kind.Sign sign.Break) (lead_at refl) (last _ (leap_complete (tree.break_loop at) o) (λ k s. s) (λ rest s. refl))
  jump_complete (tree.continue_loop at) o = by (step_by n d expr_in step_in) (kind.Sign sign.Continue) (lead_at refl) (last _ (leap_complete (tree.continue_loop at) o) (λ k s. s) (λ rest s. refl))

  pub stepped_complete : (x : Step) → StepWithin d x → Takes n (StepSpells x) Closes (stepped n d expr_in step_in) x
  stepped_complete (tree.assign i o e) k = respell (Held 2 (tree.name i) (Word i) ▸ Mark (assignment_sign o) ▸ Held 1 e (Spells e)) (λ w g. (g.0, g.1, g.2, (lit≤ tt, g.3), g.4))
      (stepped_then (tree.name i) tt (Mark (assignment_sign o) ▸ Held 1 e (Spells e)) (lead_then (lead_mark (assignment_stops o))) (assigned_to_name i o e k))
  stepped_complete (tree.store i e) k = respell (Held 2 (tree.read i) (Spells (tree.read i)) ▸ Mark sign.Assign ▸ Held 1 e (Spells e)) (λ w g. held_first (Spells (tree.read i)) (Mark sign.Assign ▸ Held 1 e (Spells e)) w (regroup (Word i) (Mark sign.OpenSquare) (Mark sign.CloseSquare) (Mark sign.Assign ▸ Held 1 e (Spells e)) w g))
      (stepped_then (tree.read i) k.0 (Mark sign.Assign ▸ Held 1 e (Spells e)) (lead_then (lead_mark (lit< tt))) (assigned_to_element i e k.1))
    where
      held_first : (P Q : Rule) (w : List Token) → (P ▸ Q) w → (Held 2 (tree.read i) P ▸ Q) w
      held_first P Q w g = (g.0, g.1, g.2, (lit≤ tt, g.3), g.4)
  stepped_complete (tree.jump j) k = jump_complete j k
  stepped_complete (tree.guard c e es j) k = guard_complete c e es j k
  stepped_complete (tree.value e) k = value_complete e k
