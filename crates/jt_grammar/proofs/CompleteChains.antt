-- Chains of operators of one class are read, and so are chains that end in a jump.
use Rattle.std.proofs.Common.{◌≡◌, ℕ, zero, suc, ◌+◌, ◌<◌, ◌≤◌, ◌⊎◌, inl, inr, Bool, true, false, List, [], ◌∷◌, ◌++◌, length, Ok, Some, refl, sym, ap, subst, ◌∙◌, append_assoc, append-nil, length-append, arith}
use Rattle.jt_syntax.specs.Tree.{Tree, Terms}
use Rattle.jt_syntax.specs.Tree as tree
use Rattle.jt_syntax.specs.View.{operator_class}
use Rattle.jt_syntax.specs.declared.operator.BinaryOperator.{BinaryOperator}
use Rattle.jt_syntax.specs.declared.operator.Class.{Class}
use Rattle.jt_syntax.specs.declared.operator.Class.TheVariants as class
use Rattle.jt_syntax.specs.declared.token.Sign.TheVariants as sign
use Rattle.jt_syntax.specs.declared.token.Token.{Token}
use Rattle.jt_syntax.specs.declared.token.TokenKind.TheVariants as kind
use Rattle.jt_grammar.specs.Grammar.{token, class_level, level, Held, Spells, Follow}
use Rattle.jt_grammar.specs.Nesting.{Within, TermsWithin}
use Rattle.jt_grammar.specs.Reader.{Parser, and_then, ◌>>=◌, pure, kind_of, operates, operator_of, terms, chained, joined_chain, is_jump, guarded_terms}
use Rattle.jt_grammar.proofs.CompleteParts.{Takes, ok_then}
use Rattle.jt_grammar.proofs.Front.{class_least, class_most, Stops, operator-operates, operator-binds, no_operator}

-- every tree of the level or a tighter one is read, with no more openers than that, where nothing goes on with it
abbrev pub IsComplete : ℕ → ℕ → ℕ → Parser Tree → Type 0
IsComplete l d n p = (e : Tree) → Within d e → Takes n (Held l e (Spells e)) (Stops l) p e

class_apart : (b c : Class) → class_level c ≤ class_level b → (b ≡ c) ⊎ (suc (class_level c) ≤ class_level b)
class_apart class.Or class.Or h = inl refl
class_apart class.And class.And h = inl refl
class_apart class.Comparison class.Comparison h = inl refl
class_apart class.Sum class.Sum h = inl refl
class_apart class.Product class.Product h = inl refl
class_apart class.Shift class.Shift h = inl refl
class_apart _ _ h = inr (omega (arith, h))

-- a tree as a chain of the class: its first operand, and the others if there are any
abbrev pub Splits : Class → Tree → List Token → Type 0
Splits c e w = (first : Tree) × (es : Terms) × (u v : List Token) × (e ≡ joined_chain c first es) × (w ≡ u ++ v) × Held (suc (class_level c)) first (Spells first) u × Follow c es v × ((d : ℕ) → Within d e → Within d first × TermsWithin d es)

tighter : (c : Class) (e : Tree) (w : List Token) → suc (class_level c) ≤ level e → Spells e w → Splits c e w
tighter c e w h g = (e, tree.no_terms, w, [], refl, sym (append-nil w), (h, g), refl, λ d k. (k, tt))

split_chain : (c b : Class) (e : Tree) (es : Terms) (w : List Token) → Spells (tree.chain b e es) w → (b ≡ c) ⊎ (suc (class_level c) ≤ class_level b) → Splits c (tree.chain b e es) w
split_chain c b e tree.no_terms w g a = absurd g.0
split_chain c b e (tree.term o x xs) w g (inl same) =
    subst (λ z. Splits z (tree.chain b e (tree.term o x xs)) w) same (e, tree.term o x xs, g.1.0, g.1.1, refl, g.1.2, g.1.3, g.1.4, λ d k. k)
split_chain c b e (tree.term o x xs) w g (inr h) = tighter c (tree.chain b e (tree.term o x xs)) w h g

pub splits : (c : Class) (e : Tree) (w : List Token) → Held (class_level c) e (Spells e) w → Splits c e w
splits c (tree.chain b e es) w a = split_chain c b e es w a.1 (class_apart b c a.0)
splits c e w a = tighter c e w (omega (arith, a.0, class_least c, class_most c)) a.1

-- what stands behind a chain: no operator, or one with a jump's word behind it
abbrev pub Ending : Class → Bool → List Token → List Token → Type 0
Ending c false w rest = (w ≡ []) × (operates c (kind_of rest) ≡ false)
Ending c true w rest = (o : BinaryOperator) × (at : ℕ) × (operator_class o ≡ Some c) × (w ≡ token (kind.Sign (sign.Binary o)) at ∷ []) × (is_jump (kind_of rest) ≡ true)

module _ (c : Class) (d n : ℕ) (item : Parser Tree) (complete : IsComplete (suc (class_level c)) d n item) where
  abbrev below : ℕ
  below = suc (class_level c)

  -- behind an operand there is an operator of the class, or what is behind the chain
  pub behind : (es : Terms) (v rest : List Token) → Follow c es v → Stops below (kind_of rest) → Stops below (kind_of (v ++ rest))
  behind tree.no_terms v rest f s = subst (λ z. Stops below (kind_of (z ++ rest))) (sym f) s
  behind (tree.term o e es) v rest f s = subst (λ z. Stops below (kind_of (z ++ rest))) (sym (f.1.2 ∙ ap (λ z. z ++ f.1.1) f.1.3.1)) (omega (arith, operator-binds c o f.0))

  turn : (k : ℕ) (t : Token) (ts : List Token) → operates c t.kind ≡ true → terms c item (suc k) (t ∷ ts) ≡ and_then (item ts) (λ e. terms c item k >>= λ es. pure (tree.term (operator_of t.kind) e es))
  unfolding terms
  turn k t ts e = rw e refl

  stop : (k : ℕ) (rest : List Token) → operates c (kind_of rest) ≡ false → 0 < k → terms c item k rest ≡ Ok (tree.no_terms, rest)
  unfolding terms
  stop zero rest e h = absurd (omega (arith, h))
  stop (suc k) rest e h = rw e refl

  pub terms_complete : (k : ℕ) → k ≤ n → (es : Terms) → TermsWithin d es → (w rest : List Token) → Follow c es w → length w < k → Stops below (kind_of rest) → operates c (kind_of rest) ≡ false → terms c item k (w ++ rest) ≡ Ok (es, rest)
  terms_complete k kn tree.no_terms ws w rest f h s o = ap (λ z. terms c item k (z ++ rest)) f ∙ stop k rest o (omega (arith, h))
  terms_complete zero kn (tree.term r e es) ws w rest f h s o = absurd (omega (arith, h))
  terms_complete (suc k) kn (tree.term r e es) ws w rest f h s o =
      let t = token (kind.Sign (sign.Binary r)) f.1.3.0 in
      let u = f.1.4.0 in
      let v = f.1.4.1 in
      let shape : w ≡ t ∷ (u ++ v) = f.1.2 ∙ (ap (λ z. z ++ f.1.1) f.1.3.1 ∙ ap (λ z. t ∷ z) f.1.4.2) in
      let size : length w ≡ suc (length u + length v) = ap length shape ∙ ap suc (length-append u v) in
      let first : item (u ++ (v ++ rest)) ≡ Ok (e, v ++ rest) = (complete e ws.0).takes u (v ++ rest) f.1.4.3 (omega (arith, size, h, kn)) (behind es v rest f.1.4.4 s) in
      let others : terms c item k (v ++ rest) ≡ Ok (es, rest) = terms_complete k (omega (arith, kn)) es ws.1 v rest f.1.4.4 (omega (arith, size, h)) s o in
      ap (terms c item (suc k)) (ap (λ z. z ++ rest) shape ∙ ap (λ z. t ∷ z) (append_assoc u v rest))
      ∙ (turn k t (u ++ (v ++ rest)) (operator-operates c r f.0)
      ∙ ok_then (item (u ++ (v ++ rest))) e (v ++ rest) _ _ first (ok_then (terms c item k (v ++ rest)) es rest _ _ others refl))

  -- ---- with a jump behind

  -- no operand begins with a jump's word
  module _ (no_jump : (e : Tree) (u rest : List Token) → Held below e (Spells e) u → is_jump (kind_of (u ++ rest)) ≡ false) where
    ended : (b : Bool) (w rest : List Token) (k : ℕ) → Ending c b w rest → 0 < k → guarded_terms c item k (w ++ rest) ≡ Ok ((tree.no_terms, b), rest)
    unfolding guarded_terms
    ended b w rest zero a h = absurd (omega (arith, h))
    ended false w rest (suc k) a h = subst (λ z. guarded_terms c item (suc k) (z ++ rest) ≡ Ok ((tree.no_terms, false), rest)) (sym a.0) (rw a.1 refl)
    ended true w rest (suc k) a h = subst (λ z. guarded_terms c item (suc k) (z ++ rest) ≡ Ok ((tree.no_terms, true), rest)) (sym a.3) (rw (operator-operates c a.0 a.2, a.4) refl)

    guarded_turn : (k : ℕ) (t : Token) (ts : List Token) → operates c t.kind ≡ true → is_jump (kind_of ts) ≡ false
        → guarded_terms c item (suc k) (t ∷ ts) ≡ and_then (item ts) (λ e. guarded_terms c item k >>= λ r. pure (tree.term (operator_of t.kind) e r.0, r.1))
    unfolding guarded_terms
    guarded_turn k t ts e f = rw (e, f) refl

    pub guarded_complete : (k : ℕ) → k ≤ n → (es : Terms) → TermsWithin d es → (b : Bool) (w x rest : List Token) → Follow c es w → length w < k → Stops below (kind_of (x ++ rest)) → Ending c b x rest
        → guarded_terms c item k (w ++ (x ++ rest)) ≡ Ok ((es, b), rest)
    guarded_complete k kn tree.no_terms ws b w x rest f h s o = ap (λ z. guarded_terms c item k (z ++ (x ++ rest))) f ∙ ended b x rest k o (omega (arith, h))
    guarded_complete zero kn (tree.term r e es) ws b w x rest f h s o = absurd (omega (arith, h))
    guarded_complete (suc k) kn (tree.term r e es) ws b w x rest f h s o =
        let t = token (kind.Sign (sign.Binary r)) f.1.3.0 in
        let u = f.1.4.0 in
        let v = f.1.4.1 in
        let after = v ++ (x ++ rest) in
        let shape : w ≡ t ∷ (u ++ v) = f.1.2 ∙ (ap (λ z. z ++ f.1.1) f.1.3.1 ∙ ap (λ z. t ∷ z) f.1.4.2) in
        let size : length w ≡ suc (length u + length v) = ap length shape ∙ ap suc (length-append u v) in
        let first : item (u ++ after) ≡ Ok (e, after) = (complete e ws.0).takes u after f.1.4.3 (omega (arith, size, h, kn)) (behind es v (x ++ rest) f.1.4.4 s) in
        let others : guarded_terms c item k after ≡ Ok ((es, b), rest) = guarded_complete k (omega (arith, kn)) es ws.1 b v x rest f.1.4.4 (omega (arith, size, h)) s o in
        ap (guarded_terms c item (suc k)) (ap (λ z. z ++ (x ++ rest)) shape ∙ ap (λ z. t ∷ z) (append_assoc u v (x ++ rest)))
        ∙ (guarded_turn k t (u ++ after) (operator-operates c r f.0) (no_jump e u after f.1.4.3)
        ∙ ok_then (item (u ++ after)) e after _ _ first (ok_then (guarded_terms c item k after) (es, b) rest _ _ others refl))

  -- ---- the whole chain

  pub chain_complete : IsComplete (class_level c) d n (chained n c item)
  chain_complete e k = record { takes = λ w rest a h s. at e w rest k h s (splits c e w a) }
    where
      at : (e : Tree) (w rest : List Token) → Within d e → length w < n → Stops (class_level c) (kind_of rest) → Splits c e w → chained n c item (w ++ rest) ≡ Ok (e, rest)
      at e w rest k h s x =
          let first = x.0 in
          let es = x.1 in
          let u = x.2 in
          let v = x.3 in
          let ks = x.8 d k in
          let size : length w ≡ length u + length v = ap length x.5 ∙ length-append u v in
          ap (chained n c item) (ap (λ z. z ++ rest) x.5 ∙ append_assoc u v rest)
          ∙ ok_then (item (u ++ (v ++ rest))) first (v ++ rest) _ _ ((complete first ks.0).takes u (v ++ rest) x.6 (omega (arith, size, h)) (behind es v rest x.7 (omega (arith, s))))
          (ok_then (terms c item n (v ++ rest)) es rest _ _ (terms_complete n (omega arith) es ks.1 v rest x.7 (omega (arith, size, h)) (omega (arith, s)) (no_operator c (kind_of rest) s))
          (ap (λ z. Ok (z, rest)) (sym x.4)))
