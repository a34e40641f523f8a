-- Chains of operators: loops beside the reader's recursions, and how a chain is seen.
use Rattle.std.proofs.Common.{◌≡◌, ℕ, zero, suc, ◌+◌, ◌-◌, ◌<◌, ◌≤◌, Bool, true, false, true≢false, IsTrue, ◌↔◌, List, [], ◌∷◌, ◌++◌, Some, None, Ok, Err, cond, refl, sym, ap, map, ◌∙◌}
use Rattle.std.proofs.lemmas.List.{map-append}
use Rattle.jt_syntax.specs.Tree.{Tree, Terms, Step}
use Rattle.jt_syntax.specs.Tree as tree
use Rattle.jt_syntax.specs.View.{view, operator_class, term_view, terms_of}
use Rattle.jt_syntax.specs.declared.operator.BinaryOperator.{BinaryOperator}
use Rattle.jt_syntax.specs.declared.operator.Class.{Class}
use Rattle.jt_syntax.specs.declared.operator.Class.TheVariants as class
use Rattle.jt_syntax.specs.declared.script.Expr.{Expr}
use Rattle.jt_syntax.specs.declared.token.Sign.{Sign}
use Rattle.jt_syntax.specs.declared.token.Sign.TheVariants as sign
use Rattle.jt_syntax.specs.declared.token.Token.{Token}
use Rattle.jt_syntax.specs.declared.token.TokenKind.{TokenKind}
use Rattle.jt_syntax.specs.declared.token.TokenKind.TheVariants as kind
use Rattle.jt_grammar.specs.declared.Level.{Level}
use Rattle.jt_grammar.specs.Reader.{Outcome, Parser, spent, and_then, ◌>>=◌, pure, kind_of, skip, is_of, operator_of, operates, terms, terms_from, guarded_terms, guarded_from, is_jump, chained, joined_chain, shift, product, sum, comparison, conjunction, disjunction}
use Rattle.jt_cursor.specs.Operators.{operator_in}
use Rattle.jt_expressions.specs.Chains.{chain_of, terms_view, tighter_than}
use Rattle.jt_cursor.specs.declared.failure.Failure.{Failure}
use Rattle.jt_cursor.specs.declared.failure.Failure.TheVariants as failure
use Rattle.jt_cursor.specs.Parses.{Fails}
use Rattle.jt_cursor.proofs.Starts.{ok_then, one_more, no_more}

-- ---- a chain is longer than what stands beside its operators

abbrev pub height : Class → ℕ
height class.Or = 15
height class.And = 12
height class.Comparison = 9
height class.Sum = 6
height class.Product = 3
height class.Shift = 0

-- ---- operators among the tokens

none_if : (b : Bool) (o : BinaryOperator) → None ≡ cond b (Some o) None → b ≡ false
none_if true o h = cc
none_if false o h = refl

some_if : (b : Bool) (o p : BinaryOperator) → Some p ≡ cond b (Some o) None → (b ≡ true) × (p ≡ o)
some_if true o p h = (refl, cc)
some_if false o p h = cc

no_sign : (c : Class) (s : Sign) → None ≡ operator_in c (kind.Sign s) → operates c (kind.Sign s) ≡ false
no_sign c (sign.Binary o) h = none_if (is_of c (operator_class o)) o h
no_sign c _ h = refl

pub no_operator : (c : Class) (k : TokenKind) → None ≡ operator_in c k → operates c k ≡ false
no_operator c (kind.Sign s) h = no_sign c s h
no_operator c (kind.Number n) h = refl
no_operator c (kind.Name n) h = refl
no_operator c (kind.Text t) h = refl

sign_found : (c : Class) (s : Sign) (o : BinaryOperator) → Some o ≡ operator_in c (kind.Sign s) → (operates c (kind.Sign s) ≡ true) × (o ≡ operator_of (kind.Sign s))
sign_found c (sign.Binary p) o h = some_if (is_of c (operator_class p)) p o h
sign_found c _ o h = cc

pub operator_found : (c : Class) (k : TokenKind) (o : BinaryOperator) → Some o ≡ operator_in c k → (operates c k ≡ true) × (o ≡ operator_of k)
operator_found c (kind.Sign s) o h = sign_found c s o h
operator_found c (kind.Number n) o h = cc
operator_found c (kind.Name n) o h = cc
operator_found c (kind.Text t) o h = cc

-- ---- what was found before stands in front

abbrev behind : {A B : Type 0} → (A → B) → Outcome A → Outcome B
behind f o = and_then o (λ a. pure (f a))

abbrev prepend : List (BinaryOperator × Tree) → Terms → Terms
prepend [] es = es
prepend (x ∷ xs) es = tree.term x.0 x.1 (prepend xs es)

prepend-none : (xs : List (BinaryOperator × Tree)) → terms_of xs ≡ prepend xs tree.no_terms
prepend-none [] = refl
prepend-none (x ∷ xs) = ap (tree.term x.0 x.1) (prepend-none xs)

prepend-last : (xs : List (BinaryOperator × Tree)) (o : BinaryOperator) (e : Tree) (es : Terms) → prepend (xs ++ (o, e) ∷ []) es ≡ prepend xs (tree.term o e es)
prepend-last [] o e es = refl
prepend-last (x ∷ xs) o e es = ap (tree.term x.0 x.1) (prepend-last xs o e es)

behind-last : (xs : List (BinaryOperator × Tree)) (s : BinaryOperator) (e : Tree) (o : Outcome Terms) → behind (prepend (xs ++ (s, e) ∷ [])) o ≡ behind (prepend xs) (and_then o (λ es. pure (tree.term s e es)))
behind-last xs s e (Ok p) = ap (λ z. Ok (z, p.1)) (prepend-last xs s e p.0)
behind-last xs s e (Err x) = refl

behind-none : (o : Outcome Terms) → behind (prepend []) o ≡ o
behind-none (Ok p) = refl
behind-none (Err x) = refl

module _ (c : Class) (item : Parser Tree) (n : ℕ) (rec : (found : List (BinaryOperator × Tree)) (ts : List Token) → terms_from c item n found ts ≡ behind (prepend found) (terms c item n ts)) where
  after_operand : (found : List (BinaryOperator × Tree)) (s : BinaryOperator) (o : Outcome Tree)
      → and_then o (λ e. terms_from c item n (found ++ (s, e) ∷ [])) ≡ behind (prepend found) (and_then o (λ e. terms c item n >>= λ es. pure (tree.term s e es)))
  after_operand found s (Ok p) = rec (found ++ (s, p.0) ∷ []) p.1 ∙ behind-last found s p.0 (terms c item n p.1)
  after_operand found s (Err e) = refl

  terms_turn : (found : List (BinaryOperator × Tree)) (ts : List Token) (b : Bool)
      → cond b (and_then (skip ts) (λ t. item >>= λ e. terms_from c item n (found ++ (operator_of t.kind, e) ∷ []))) (Ok (terms_of found, ts))
      ≡ behind (prepend found) (cond b (and_then (skip ts) (λ t. item >>= λ e. terms c item n >>= λ es. pure (tree.term (operator_of t.kind) e es))) (Ok (tree.no_terms, ts)))
  terms_turn found [] true = refl
  terms_turn found (t ∷ ts) true = after_operand found (operator_of t.kind) (item ts)
  terms_turn found ts false = ap (λ z. Ok (z, ts)) (prepend-none found)

terms_found : (c : Class) (item : Parser Tree) (n : ℕ) (found : List (BinaryOperator × Tree)) (ts : List Token) → terms_from c item n found ts ≡ behind (prepend found) (terms c item n ts)
unfolding terms terms_from
terms_found c item zero found ts = refl
terms_found c item (suc n) found ts = terms_turn c item n (terms_found c item n) found ts (operates c (kind_of ts))

pub terms_start : (c : Class) (item : Parser Tree) (n : ℕ) (ts : List Token) → terms_from c item n [] ts ≡ terms c item n ts
terms_start c item n ts = terms_found c item n [] ts ∙ behind-none (terms c item n ts)

abbrev taken : Outcome Token → TokenKind → TokenKind
taken (Ok p) k = p.0.kind
taken (Err e) k = k

pub skip_kind : (ts ts1 : List Token) (t : Token) → skip ts ≡ Ok (t, ts1) → kind_of ts ≡ t.kind
skip_kind [] ts1 t e = ap (λ o. taken o (kind_of [])) e
skip_kind (u ∷ ts) ts1 t e = ap (λ o. taken o u.kind) e

-- what was found is seen as the reader's, once the operand behind its operator is pushed
pushed : (found new : List (BinaryOperator × Expr)) (s : BinaryOperator) (e : Expr) (ts ts1 : List Token) (t : Token)
    → s ≡ operator_of (kind_of ts) → skip ts ≡ Ok (t, ts1) → new ≡ found ++ (s, e) ∷ [] → map term_view found ++ (operator_of t.kind, view e) ∷ [] ≡ map term_view new
pushed found new s e ts ts1 t signs skips pushes =
    ap (λ z. map term_view found ++ (z, view e) ∷ []) (sym (signs ∙ ap operator_of (skip_kind ts ts1 t skips))) ∙ sym (ap (map term_view) pushes ∙ map-append term_view found ((s, e) ∷ []))

-- a turn of the loop over operands
terms_turned : (c : Class) (item : Parser Tree) (k : ℕ) (found : List (BinaryOperator × Tree)) (ts ts1 ts2 : List Token) (t : Token) (e : Tree)
    → operates c (kind_of ts) ≡ true → skip ts ≡ Ok (t, ts1) → item ts1 ≡ Ok (e, ts2) → terms_from c item (suc k) found ts ≡ terms_from c item k (found ++ (operator_of t.kind, e) ∷ []) ts2
unfolding terms_from
terms_turned c item k found ts ts1 ts2 t e h skips reads = rw h (ok_then (skip ts) t ts1 _ _ skips (ok_then (item ts1) e ts2 _ _ reads refl))

-- a turn of the loop that reads operands
module _ (c : Class) (item : Parser Tree) (n at : ℕ) (found : List (BinaryOperator × Expr)) (ts : List Token) (o : Outcome Terms) (inv : o ≡ terms_from c item (n - at) (map term_view found) ts) where
  pub terms_spent : n ≤ at → o ≡ Err spent
  unfolding terms_from
  terms_spent done = no_more (λ k. terms_from c item k (map term_view found) ts) n at done inv

  module _ (below : at < n) where
    terms_next : o ≡ terms_from c item (suc (n - (at + 1))) (map term_view found) ts
    terms_next = one_more (λ k. terms_from c item k (map term_view found) ts) n at below inv

    pub terms_done : None ≡ operator_in c (kind_of ts) → o ≡ Ok (terms_view found, ts)
    unfolding terms_from
    terms_done none = let h : operates c (kind_of ts) ≡ false = no_operator c (kind_of ts) none in terms_next ∙ rw h

    module _ (s : BinaryOperator) (some : Some s ≡ operator_in c (kind_of ts)) where
      terms_sign : operates c (kind_of ts) ≡ true
      terms_sign = (operator_found c (kind_of ts) s some).0

      pub operator_refused : (f : Failure) → Fails f (skip ts) → Fails f o
      unfolding terms_from
      operator_refused failure.OutOfMemory h = tt
      operator_refused (failure.Unexpected left) h = terms_next ∙ rw (terms_sign, h)
      operator_refused (failure.TooDeep left) h = terms_next ∙ rw (terms_sign, h)
      operator_refused failure.Spent h = terms_next ∙ rw (terms_sign, h)

      module _ (t : Token) (ts1 : List Token) (skips : skip ts ≡ Ok (t, ts1)) where
        pub operand_refused : (f : Failure) → Fails f (item ts1) → Fails f o
        unfolding terms_from
        operand_refused failure.OutOfMemory h = tt
        operand_refused (failure.Unexpected left) h = terms_next ∙ rw (terms_sign, skips, h)
        operand_refused (failure.TooDeep left) h = terms_next ∙ rw (terms_sign, skips, h)
        operand_refused failure.Spent h = terms_next ∙ rw (terms_sign, skips, h)

        pub terms_go : (e : Expr) (ts2 : List Token) → item ts1 ≡ Ok (view e, ts2) → (new : List (BinaryOperator × Expr)) → new ≡ found ++ (s, e) ∷ [] → o ≡ terms_from c item (n - (at + 1)) (map term_view new) ts2
        terms_go e ts2 reads new pushes =
            terms_next
            ∙ (terms_turned c item (n - (at + 1)) (map term_view found) ts ts1 ts2 t (view e) terms_sign skips reads
            ∙ ap (λ z. terms_from c item (n - (at + 1)) z ts2) (pushed found new s e ts ts1 t (operator_found c (kind_of ts) s some).1 skips pushes))

-- ---- a chain, class by class

module _ (turns depth : ℕ) (expr_in : Level → Parser Tree) (step_in : Parser Step) where
  pub chain_reads : (c : Class) (ts : List Token) → chain_of turns depth expr_in step_in c ts ≡ chained turns c (tighter_than turns depth expr_in step_in c) ts
  unfolding shift product sum comparison conjunction disjunction
  chain_reads class.Or ts = refl
  chain_reads class.And ts = refl
  chain_reads class.Comparison ts = refl
  chain_reads class.Sum ts = refl
  chain_reads class.Product ts = refl
  chain_reads class.Shift ts = refl

  -- behind the first operand
  pub chain_goes : (c : Class) (ts ts1 : List Token) (e : Tree) → tighter_than turns depth expr_in step_in c ts ≡ Ok (e, ts1)
      → chain_of turns depth expr_in step_in c ts ≡ and_then (terms_from c (tighter_than turns depth expr_in step_in c) turns [] ts1) (λ es. pure (joined_chain c e es))
  chain_goes c ts ts1 e reads =
      chain_reads c ts
      ∙ ok_then (tighter_than turns depth expr_in step_in c ts) e ts1 _ _ reads (ap (λ o. and_then o (λ es. pure (joined_chain c e es))) (sym (terms_start c (tighter_than turns depth expr_in step_in c) turns ts1)))

  pub chain_refused : (c : Class) (ts : List Token) (f : Failure) → Fails f (tighter_than turns depth expr_in step_in c ts) → Fails f (chain_of turns depth expr_in step_in c ts)
  chain_refused c ts failure.OutOfMemory h = tt
  chain_refused c ts (failure.Unexpected left) h = rw (chain_reads c ts, h)
  chain_refused c ts (failure.TooDeep left) h = rw (chain_reads c ts, h)
  chain_refused c ts failure.Spent h = rw (chain_reads c ts, h)

pub joined_views : (c : Class) (e : Tree) (es : List (BinaryOperator × Expr)) (b : Bool) → b ≡ false → IsTrue b ↔ (es ≡ []) → tree.chain c e (terms_view es) ≡ joined_chain c e (terms_view es)
joined_views c e es true h i = absurd (true≢false h)
joined_views c e [] false h i = absurd (true≢false (sym (i.1 refl)))
joined_views c e (x ∷ xs) false h i = refl

-- ---- operands, behind which a jump may stand

guard_front : List (BinaryOperator × Tree) → Terms × Bool → Terms × Bool
guard_front xs r = (prepend xs r.0, r.1)

guard-last : (xs : List (BinaryOperator × Tree)) (s : BinaryOperator) (e : Tree) (o : Outcome (Terms × Bool)) → behind (guard_front (xs ++ (s, e) ∷ [])) o ≡ behind (guard_front xs) (and_then o (λ r. pure (tree.term s e r.0, r.1)))
unfolding guard_front
guard-last xs s e (Ok p) = ap (λ z. Ok ((z, p.0.1), p.1)) (prepend-last xs s e p.0.0)
guard-last xs s e (Err x) = refl

guard-none : (o : Outcome (Terms × Bool)) → behind (guard_front []) o ≡ o
unfolding guard_front
guard-none (Ok p) = refl
guard-none (Err x) = refl

module _ (c : Class) (item : Parser Tree) (n : ℕ) (rec : (found : List (BinaryOperator × Tree)) (ts : List Token) → guarded_from c item n found ts ≡ behind (guard_front found) (guarded_terms c item n ts)) where
  after_guarded : (found : List (BinaryOperator × Tree)) (s : BinaryOperator) (o : Outcome Tree)
      → and_then o (λ e. guarded_from c item n (found ++ (s, e) ∷ [])) ≡ behind (guard_front found) (and_then o (λ e. guarded_terms c item n >>= λ r. pure (tree.term s e r.0, r.1)))
  after_guarded found s (Ok p) = rec (found ++ (s, p.0) ∷ []) p.1 ∙ guard-last found s p.0 (guarded_terms c item n p.1)
  after_guarded found s (Err e) = refl

  after_sign : (found : List (BinaryOperator × Tree)) (s : BinaryOperator) (ts : List Token) (b : Bool)
      → cond b (Ok ((terms_of found, true), ts)) (and_then (item ts) (λ e. guarded_from c item n (found ++ (s, e) ∷ [])))
      ≡ behind (guard_front found) (cond b (Ok ((tree.no_terms, true), ts)) (and_then (item ts) (λ e. guarded_terms c item n >>= λ r. pure (tree.term s e r.0, r.1))))
  unfolding guard_front
  after_sign found s ts true = ap (λ z. Ok ((z, true), ts)) (prepend-none found)
  after_sign found s ts false = after_guarded found s (item ts)

  guarded_turn : (found : List (BinaryOperator × Tree)) (ts : List Token) (b : Bool)
      → cond b (and_then (skip ts) (λ t ts1. cond (is_jump (kind_of ts1)) (Ok ((terms_of found, true), ts1)) (and_then (item ts1) (λ e. guarded_from c item n (found ++ (operator_of t.kind, e) ∷ []))))) (Ok ((terms_of found, false), ts))
      ≡ behind (guard_front found) (cond b (and_then (skip ts) (λ t ts1. cond (is_jump (kind_of ts1)) (Ok ((tree.no_terms, true), ts1)) (and_then (item ts1) (λ e. guarded_terms c item n >>= λ r. pure (tree.term (operator_of t.kind) e r.0, r.1))))) (Ok ((tree.no_terms, false), ts)))
  unfolding guard_front
  guarded_turn found [] true = refl
  guarded_turn found (t ∷ ts) true = after_sign found (operator_of t.kind) ts (is_jump (kind_of ts))
  guarded_turn found ts false = ap (λ z. Ok ((z, false), ts)) (prepend-none found)

guarded_found : (c : Class) (item : Parser Tree) (n : ℕ) (found : List (BinaryOperator × Tree)) (ts : List Token) → guarded_from c item n found ts ≡ behind (guard_front found) (guarded_terms c item n ts)
unfolding guarded_terms guarded_from
guarded_found c item zero found ts = refl
guarded_found c item (suc n) found ts = guarded_turn c item n (guarded_found c item n) found ts (operates c (kind_of ts))

pub guarded_start : (c : Class) (item : Parser Tree) (n : ℕ) (ts : List Token) → guarded_from c item n [] ts ≡ guarded_terms c item n ts
guarded_start c item n ts = guarded_found c item n [] ts ∙ guard-none (guarded_terms c item n ts)

guarded_turned : (c : Class) (item : Parser Tree) (k : ℕ) (found : List (BinaryOperator × Tree)) (ts ts1 ts2 : List Token) (t : Token) (e : Tree)
    → operates c (kind_of ts) ≡ true → skip ts ≡ Ok (t, ts1) → is_jump (kind_of ts1) ≡ false → item ts1 ≡ Ok (e, ts2) → guarded_from c item (suc k) found ts ≡ guarded_from c item k (found ++ (operator_of t.kind, e) ∷ []) ts2
unfolding guarded_from
guarded_turned c item k found ts ts1 ts2 t e h skips jumps reads = rw (h, skips, jumps, reads) refl

-- a turn of the loop that reads operands up to a jump
module _ (c : Class) (item : Parser Tree) (n at : ℕ) (found : List (BinaryOperator × Expr)) (ts : List Token) (o : Outcome (Terms × Bool)) (inv : o ≡ guarded_from c item (n - at) (map term_view found) ts) where
  pub guarded_spent : n ≤ at → o ≡ Err spent
  unfolding guarded_from
  guarded_spent done = no_more (λ k. guarded_from c item k (map term_view found) ts) n at done inv

  module _ (below : at < n) where
    guarded_next : o ≡ guarded_from c item (suc (n - (at + 1))) (map term_view found) ts
    guarded_next = one_more (λ k. guarded_from c item k (map term_view found) ts) n at below inv

    pub guarded_done : None ≡ operator_in c (kind_of ts) → o ≡ Ok ((terms_view found, false), ts)
    unfolding guarded_from
    guarded_done none = let h : operates c (kind_of ts) ≡ false = no_operator c (kind_of ts) none in guarded_next ∙ rw h

    module _ (s : BinaryOperator) (some : Some s ≡ operator_in c (kind_of ts)) where
      guarded_sign : operates c (kind_of ts) ≡ true
      guarded_sign = (operator_found c (kind_of ts) s some).0

      pub connective_refused : (f : Failure) → Fails f (skip ts) → Fails f o
      unfolding guarded_from
      connective_refused failure.OutOfMemory h = tt
      connective_refused (failure.Unexpected left) h = guarded_next ∙ rw (guarded_sign, h)
      connective_refused (failure.TooDeep left) h = guarded_next ∙ rw (guarded_sign, h)
      connective_refused failure.Spent h = guarded_next ∙ rw (guarded_sign, h)

      module _ (t : Token) (ts1 : List Token) (skips : skip ts ≡ Ok (t, ts1)) where
        pub guarded_jumps : is_jump (kind_of ts1) ≡ true → o ≡ Ok ((terms_view found, true), ts1)
        unfolding guarded_from
        guarded_jumps jumps = guarded_next ∙ rw (guarded_sign, skips, jumps)

        module _ (stays : is_jump (kind_of ts1) ≡ false) where
          pub guarded_refused : (f : Failure) → Fails f (item ts1) → Fails f o
          unfolding guarded_from
          guarded_refused failure.OutOfMemory h = tt
          guarded_refused (failure.Unexpected left) h = guarded_next ∙ rw (guarded_sign, skips, stays, h)
          guarded_refused (failure.TooDeep left) h = guarded_next ∙ rw (guarded_sign, skips, stays, h)
          guarded_refused failure.Spent h = guarded_next ∙ rw (guarded_sign, skips, stays, h)

          pub guarded_go : (e : Expr) (ts2 : List Token) → item ts1 ≡ Ok (view e, ts2) → (new : List (BinaryOperator × Expr)) → new ≡ found ++ (s, e) ∷ [] → o ≡ guarded_from c item (n - (at + 1)) (map term_view new) ts2
          guarded_go e ts2 reads new pushes =
              guarded_next
              ∙ (guarded_turned c item (n - (at + 1)) (map term_view found) ts ts1 ts2 t (view e) guarded_sign skips stays reads
              ∙ ap (λ z. guarded_from c item (n - (at + 1)) z ts2) (pushed found new s e ts ts1 t (operator_found c (kind_of ts) s some).1 skips pushes))
