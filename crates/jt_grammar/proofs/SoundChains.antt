-- What chains of operators explain, and the chains of tests that may end in a jump.
use Rattle.std.proofs.Common.{◌≡◌, ℕ, zero, suc, ◌≤◌, Bool, true, false, true≢false, List, [], ◌∷◌, ◌++◌, Ok, Some, None, refl, sym, ap, subst, ◌∙◌, append_assoc, append-nil, cond, arith, Option}
use Rattle.jt_syntax.specs.Tree.{Tree, Terms}
use Rattle.jt_syntax.specs.Tree as tree
use Rattle.jt_syntax.specs.View.{connective_class, operator_class}
use Rattle.jt_syntax.specs.declared.operator.ArithmeticOperator.TheVariants as arithmetic
use Rattle.jt_syntax.specs.declared.operator.BinaryOperator.{BinaryOperator}
use Rattle.jt_syntax.specs.declared.operator.BinaryOperator.TheVariants as binary
use Rattle.jt_syntax.specs.declared.operator.Class.{Class}
use Rattle.jt_syntax.specs.declared.operator.Class.TheVariants as class
use Rattle.jt_syntax.specs.declared.operator.Connective.{Connective}
use Rattle.jt_syntax.specs.declared.operator.Connective.TheVariants as connective
use Rattle.jt_syntax.specs.declared.token.Sign.TheVariants as sign
use Rattle.jt_syntax.specs.declared.token.Token.{Token}
use Rattle.jt_syntax.specs.declared.token.TokenKind.{TokenKind}
use Rattle.jt_syntax.specs.declared.token.TokenKind.TheVariants as kind
use Rattle.jt_grammar.specs.Grammar.{Rule, token, Mark, ◌▸◌, class_level, Follow, At}
use Rattle.jt_grammar.specs.Nesting.{Within, TermsWithin}
use Rattle.jt_grammar.specs.Reader.{Parser, ◌>>=◌, pure, kind_of, skip, is_of, operator_of, operates, joined_chain, terms, chained, is_jump, guarded_terms, by_kind}
use Rattle.jt_grammar.proofs.Signs.{same_class-true}
use Rattle.jt_grammar.proofs.Steps.{Shows, After, after_some}
use Rattle.jt_grammar.proofs.SoundParts.{Sample, Given, Reads, given, part, last, fewer}

is_of-true : (c : Class) (o : Option Class) → is_of c o ≡ true → o ≡ Some c
is_of-true c None e = absurd (true≢false (sym e))
is_of-true c (Some d) e = ap Some (same_class-true d c e)

-- an operator of the class
abbrev pub IsOperator : Class → BinaryOperator → Rule
IsOperator c o w = (operator_class o ≡ Some c) × Mark (sign.Binary o) w

is_operator : (c : Class) (k : TokenKind) (at : ℕ) → operates c k ≡ true → IsOperator c (operator_of k) (token k at ∷ [])
is_operator c (kind.Sign (sign.Binary o)) at e = (is_of-true c (operator_class o) e, (at, refl))
is_operator c (kind.Sign _) at e = absurd (true≢false (sym e))
is_operator c (kind.Number m) at e = absurd (true≢false (sym e))
is_operator c (kind.Name m) at e = absurd (true≢false (sym e))
is_operator c (kind.Text m) at e = absurd (true≢false (sym e))

module _ {C : Bool → Type 0} (d : Bool → ℕ) (n : ℕ) (c : Class) (item : Parser Tree) (reads : Reads C (At (suc (class_level c))) (λ b. Within (d b)) n item) where
  abbrev term_then : ℕ → Token → Parser Terms
  term_then k t = item >>= λ e. terms c item k >>= λ es. pure (tree.term (operator_of t.kind) e es)

  terms_turn : (k : ℕ) → suc k ≤ n → Reads C (Follow c) (λ b. TermsWithin (d b)) k (terms c item k) → Given C → (ts : List Token) (b : Bool) → operates c (kind_of ts) ≡ b
      → Shows (Follow c) (λ b. TermsWithin (d b)) (suc k) ts (cond b ((skip >>= term_then k) ts) (Ok (tree.no_terms, ts)))
  terms_turn k h rest x [] true e = absurd (true≢false (sym e))
  terms_turn k h rest x (t ∷ ts) true e = after_some (Follow c) (λ b. TermsWithin (d b)) k (suc k) (t ∷ ts) (t ∷ []) ts (term_then k t ts) (omega arith) refl (behind.explains x ts)
    where
      behind : Reads C (After (t ∷ []) (Follow c)) (λ b. TermsWithin (d b)) k (term_then k t)
      behind = part (fewer (omega (arith, h)) reads) (λ e' u g. last (tree.term (operator_of t.kind) e') (given (λ _ c. c.0) rest)
          (λ es v f. let o = is_operator c t.kind t.at e in (o.0, (t ∷ [], u ++ v, refl, o.1, (u, v, refl, g, f)))) (λ es b c k. (c.1, k)))
  terms_turn k h rest x ts false e = ([], refl, refl, (λ b. tt))

  terms_at : Given C → (k : ℕ) → k ≤ n → (ts : List Token) → Shows (Follow c) (λ b. TermsWithin (d b)) k ts (terms c item k ts)
  unfolding terms
  terms_at x zero h ts = ([], ts, refl, omega arith)
  terms_at x (suc k) h ts = terms_turn k h (record { explains = λ x. terms_at x k (omega (arith, h)); sample = ([], tree.no_terms, refl, (λ b x. tt), tt) }) x ts (operates c (kind_of ts)) refl

  pub terms_read : (k : ℕ) → k ≤ n → Reads C (Follow c) (λ b. TermsWithin (d b)) k (terms c item k)
  terms_read k h = record { explains = λ x. terms_at x k h; sample = ([], tree.no_terms, refl, (λ b x. tt), tt) }

  pub joined_spells : (e : Tree) (es : Terms) (u v : List Token) → At (suc (class_level c)) e u → Follow c es v → At (class_level c) (joined_chain c e es) (u ++ v)
  joined_spells e tree.no_terms u v a f = subst (λ z. At (class_level c) e (u ++ z)) (sym f) (subst (At (class_level c) e) (sym (append-nil u)) (omega (arith, a.0), a.1))
  joined_spells e (tree.term o x xs) u v a f = (omega arith, (tt, (u, v, refl, a, f)))

  pub joined_within : (e : Tree) (es : Terms) (b : Bool) → Within (d b) e → TermsWithin (d b) es → Within (d b) (joined_chain c e es)
  joined_within e tree.no_terms b w ws = w
  joined_within e (tree.term o x xs) b w ws = (w, ws)

  pub chained_reads : Reads C (At (class_level c)) (λ b. Within (d b)) n (chained n c item)
  chained_reads = part reads (λ e u g. last (joined_chain c e) (given (λ _ c. c.0) (terms_read n (omega arith))) (λ es v f. joined_spells e es u v g f) (λ es b c k. joined_within e es b c.1 k))

-- ---- chains of tests that may end in a jump

-- an operator of a connective's class is that connective
abbrev IsConnective : Option Class → BinaryOperator → Type 0
IsConnective (Some class.Or) o = o ≡ binary.Connective connective.Or
IsConnective (Some class.And) o = o ≡ binary.Connective connective.And
IsConnective _ o = Unit {0}

is_connective : (o : BinaryOperator) → IsConnective (operator_class o) o
is_connective (binary.Connective connective.Or) = refl
is_connective (binary.Connective connective.And) = refl
is_connective (binary.Arithmetic arithmetic.Power) = tt
is_connective _ = tt

connects : (c : Connective) (o : BinaryOperator) → operator_class o ≡ Some (connective_class c) → o ≡ binary.Connective c
connects connective.Or o e = subst (λ z. IsConnective z o) e (is_connective o)
connects connective.And o e = subst (λ z. IsConnective z o) e (is_connective o)

-- the terms, and at a jump the connective before it
abbrev pub TermsOr : Connective → Terms → Bool → Rule
TermsOr c es true = Follow (connective_class c) es ▸ Mark (sign.Binary (binary.Connective c))
TermsOr c es false = Follow (connective_class c) es

abbrev pub Guarded : Connective → Terms × Bool → Rule
Guarded c r = TermsOr c r.0 r.1

abbrev pub GuardedWithin : ℕ → Terms × Bool → Type 0
GuardedWithin d r = TermsWithin d r.0

module _ {C : Bool → Type 0} (d : Bool → ℕ) (n : ℕ) (c : Connective) (item : Parser Tree) (reads : Reads C (At (suc (class_level (connective_class c)))) (λ b. Within (d b)) n item) where
  abbrev jump_or : ℕ → Token → TokenKind → Parser (Terms × Bool)
  jump_or k t j ts = cond (is_jump j) (Ok ((tree.no_terms, true), ts)) ((item >>= λ e. guarded_terms (connective_class c) item k >>= λ r. pure (tree.term (operator_of t.kind) e r.0, r.1)) ts)

  grow : (t : Token) → IsOperator (connective_class c) (operator_of t.kind) (t ∷ []) → (e : Tree) (es : Terms) (b : Bool) (u v : List Token) → At (suc (class_level (connective_class c))) e u → TermsOr c es b v → TermsOr c (tree.term (operator_of t.kind) e es) b (t ∷ (u ++ v))
  grow t o e es true u v a f =
      (t ∷ (u ++ f.0), f.1, ap (λ z. t ∷ (u ++ z)) f.2 ∙ ap (λ z. t ∷ z) (sym (append_assoc u f.0 f.1)), (o.0, (t ∷ [], u ++ f.0, refl, o.1, (u, f.0, refl, a, f.3))), f.4)
  grow t o e es false u v a f = (o.0, (t ∷ [], u ++ v, refl, o.1, (u, v, refl, a, f)))

  no_terms_yet : Sample C (Guarded c) (λ b. GuardedWithin (d b))
  no_terms_yet = ([], (tree.no_terms, false), refl, (λ b x. tt), tt)

  guarded_turn : (k : ℕ) → suc k ≤ n → Reads C (Guarded c) (λ b. GuardedWithin (d b)) k (guarded_terms (connective_class c) item k) → Given C → (ts : List Token) (b : Bool) → operates (connective_class c) (kind_of ts) ≡ b
      → Shows (Guarded c) (λ b. GuardedWithin (d b)) (suc k) ts (cond b ((skip >>= λ t. by_kind (jump_or k t)) ts) (Ok ((tree.no_terms, false), ts)))
  guarded_turn k h rest x [] true e = absurd (true≢false (sym e))
  guarded_turn k h rest x (t ∷ ts) true e = after_some (Guarded c) (λ b. GuardedWithin (d b)) k (suc k) (t ∷ ts) (t ∷ []) ts (jump_or k t (kind_of ts) ts) (omega arith) refl (behind (is_jump (kind_of ts)))
    where
      operator : IsOperator (connective_class c) (operator_of t.kind) (t ∷ [])
      operator = is_operator (connective_class c) t.kind t.at e

      item_reads : Reads C (After (t ∷ []) (Guarded c)) (λ b. GuardedWithin (d b)) k (item >>= λ e. guarded_terms (connective_class c) item k >>= λ r. pure (tree.term (operator_of t.kind) e r.0, r.1))
      item_reads = part (fewer (omega (arith, h)) reads) (λ e u g. last (λ r. (tree.term (operator_of t.kind) e r.0, r.1)) (given (λ _ c. c.0) rest) (λ r v f. grow t operator e r.0 r.1 u v g f) (λ r b c k. (c.1, k)))

      jumped : TermsOr c tree.no_terms true (t ∷ [])
      jumped = ([], t ∷ [], refl, refl, subst (λ o. Mark (sign.Binary o) (t ∷ [])) (connects c (operator_of t.kind) operator.0) operator.1)

      behind : (b : Bool) → Shows (After (t ∷ []) (Guarded c)) (λ b. GuardedWithin (d b)) k ts (cond b (Ok ((tree.no_terms, true), ts)) ((item >>= λ e. guarded_terms (connective_class c) item k >>= λ r. pure (tree.term (operator_of t.kind) e r.0, r.1)) ts))
      behind true = ([], refl, jumped, (λ b. tt))
      behind false = item_reads.explains x ts
  guarded_turn k h rest x ts false e = ([], refl, refl, (λ b. tt))

  guarded_at : Given C → (k : ℕ) → k ≤ n → (ts : List Token) → Shows (Guarded c) (λ b. GuardedWithin (d b)) k ts (guarded_terms (connective_class c) item k ts)
  unfolding guarded_terms
  guarded_at x zero h ts = ([], ts, refl, omega arith)
  guarded_at x (suc k) h ts = guarded_turn k h (record { explains = λ x. guarded_at x k (omega (arith, h)); sample = no_terms_yet }) x ts (operates (connective_class c) (kind_of ts)) refl

  pub guarded_read : Reads C (Guarded c) (λ b. GuardedWithin (d b)) n (guarded_terms (connective_class c) item n)
  guarded_read = record { explains = λ x. guarded_at x n (omega arith); sample = no_terms_yet }
