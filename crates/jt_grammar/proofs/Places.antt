-- Tokens of the same kinds spell trees that are equal up to places.
use Rattle.std.proofs.Common.{◌≡◌, ℕ, suc, ◌≤◌, ◌<◌, Bool, true, false, inl, inr, List, [], ◌∷◌, ◌++◌, map, length, Option, Some, None, refl, sym, ap, subst, ◌∙◌, codes, arith}
use Rattle.jt_syntax.specs.Tree.{Tree, Trees, Terms, Arms, Leap, Step, Steps, Form, TopTree}
use Rattle.jt_syntax.specs.Tree as tree
use Rattle.jt_syntax.specs.View.{connective_class}
use Rattle.jt_syntax.specs.declared.operator.Class.{Class}
use Rattle.jt_syntax.specs.declared.script.Identifier.{Identifier}
use Rattle.jt_syntax.specs.declared.script.PoolName.{PoolName}
use Rattle.jt_syntax.specs.declared.script.Schedule.{Schedule}
use Rattle.jt_syntax.specs.declared.token.Sign.{Sign}
use Rattle.jt_syntax.specs.declared.token.Sign.TheVariants as sign
use Rattle.jt_syntax.specs.declared.token.Token.{Token}
use Rattle.jt_syntax.specs.declared.token.TokenKind.{TokenKind}
use Rattle.jt_syntax.specs.declared.token.TokenKind.TheVariants as kind
use Rattle.jt_grammar.specs.Grammar.{token, Rule, ◌▸◌, ◌∣◌, Nothing, Mark, Word, Letters, Truth, IsSeparator, Gap, SomeGap, OfInt64, InOrAssign, PoolWord, ScheduleWord, IsSome, Held, level, class_level, Spells, Listed, Commas, Follow, ArmsSpell, LeapSpells, StepSpells, Body, Tail, MoreNames, Names, FormSpells, StartsAt, TopSpells, TopsTail, TopsBody, ScriptSpells}
use Rattle.jt_grammar.specs.Printed.{bare_identifier, bare, bare_trees, bare_terms, bare_arms, bare_leap, bare_step, bare_steps, bare_form, bare_script}
use Rattle.jt_grammar.proofs.Printing.{level-bare}

abbrev pub kinds : List Token → List TokenKind
kinds w = map (λ t. t.kind) w

abbrev pub Alike : List Token → List Token → Type 0
Alike w v = kinds v ≡ kinds w

first_kind : TokenKind → List TokenKind → TokenKind
first_kind d [] = d
first_kind d (k ∷ ks) = k

later_kinds : List TokenKind → List TokenKind
later_kinds [] = []
later_kinds (k ∷ ks) = ks

pub alike_none : (v : List Token) → Alike [] v → v ≡ []
alike_none [] e = refl
alike_none (t ∷ v) e = absurd (omega (arith, ap length e))

pub alike_one : (t : Token) (w v : List Token) → Alike (t ∷ w) v → (r : Token) × (u : List Token) × (v ≡ r ∷ u) × (r.kind ≡ t.kind) × Alike w u
unfolding first_kind later_kinds
alike_one t w [] e = absurd (omega (arith, ap length e))
alike_one t w (r ∷ u) e = (r, u, refl, ap (first_kind r.kind) e, ap later_kinds e)

pub alike_split : (a b v : List Token) → Alike (a ++ b) v → (c d : List Token) × (v ≡ c ++ d) × Alike a c × Alike b d
alike_split [] b v e = ([], v, refl, refl, e)
alike_split (t ∷ a) b v e =
    let x = alike_one t (a ++ b) v e in
    let y = alike_split a b x.1 x.4 in
    (x.0 ∷ y.0, y.1, x.2 ∙ ap (λ z. x.0 ∷ z) y.2, ap (λ k. k ∷ kinds y.0) x.3 ∙ ap (λ z. t.kind ∷ z) y.3, y.4)

-- ---- tokens of a rule, and others of the same kinds

pub record Shifted (R : Rule) : Type 0 where
  from : List Token
  to : List Token
  spelled : R from
  alike : Alike from to

first : {P Q : Rule} → Shifted (P ▸ Q) → Shifted P
first g =
    let y = alike_split g.spelled.0 g.spelled.1 g.to (g.alike ∙ ap kinds g.spelled.2) in
    record { from = g.spelled.0; to = y.0; spelled = g.spelled.3; alike = y.3 }

rest : {P Q : Rule} → Shifted (P ▸ Q) → Shifted Q
rest g =
    let y = alike_split g.spelled.0 g.spelled.1 g.to (g.alike ∙ ap kinds g.spelled.2) in
    record { from = g.spelled.1; to = y.1; spelled = g.spelled.4; alike = y.4 }

-- the parts of the others, put together
both : {P Q : Rule} (g : Shifted (P ▸ Q)) {R S : Rule} → R (first g).to → S (rest g).to → (R ▸ S) g.to
unfolding first rest
both g r s =
    let y = alike_split g.spelled.0 g.spelled.1 g.to (g.alike ∙ ap kinds g.spelled.2) in
    (y.0, y.1, y.2, r, s)

abbrev under : {A : Type 0} {R : Rule} → Shifted (λ w. A × R w) → Shifted R
under g = record { from = g.from; to = g.to; spelled = g.spelled.1; alike = g.alike }

-- the others are of the rule for some x that differs in places alone
abbrev pub Found : {A : Type 0} → (A → Rule) → (A → A) → A → List Token → Type 0
Found G b x v = (y : _) × G y v × (b y ≡ b x)

-- equal parts make equals
pub ap2 : {A B R : Type 0} (f : A → B → R) {a a' : A} {b b' : B} → a ≡ a' → b ≡ b' → f a b ≡ f a' b'
ap2 f {a'} {b} p q = ap (λ x. f x b) p ∙ ap (f a') q

pub ap3 : {A B C R : Type 0} (f : A → B → C → R) {a a' : A} {b b' : B} {c c' : C} → a ≡ a' → b ≡ b' → c ≡ c' → f a b c ≡ f a' b' c'
ap3 f {a'} {b} {c} p q r = ap (λ x. f x b c) p ∙ ap2 (f a') q r

pub ap4 : {A B C D R : Type 0} (f : A → B → C → D → R) {a a' : A} {b b' : B} {c c' : C} {d d' : D} → a ≡ a' → b ≡ b' → c ≡ c' → d ≡ d' → f a b c d ≡ f a' b' c' d'
ap4 f {a'} {b} {c} {d} p q r s = ap (λ x. f x b c d) p ∙ ap3 (f a') q r s

-- ---- single tokens

one_kind : (k : TokenKind) (at : ℕ) (w v : List Token) → w ≡ token k at ∷ [] → Alike w v → (to : ℕ) × (v ≡ token k to ∷ [])
one_kind k at w v e h =
    let x = alike_one (token k at) [] v (h ∙ ap kinds e) in
    (x.0.at, x.2 ∙ (ap (λ z. x.0 ∷ z) (alike_none x.1 x.4) ∙ ap (λ z. token z x.0.at ∷ []) x.3))

one : {k : TokenKind} (g : Shifted (λ w. (at : ℕ) × (w ≡ token k at ∷ []))) → (at : ℕ) × (g.to ≡ token k at ∷ [])
one {k} g = one_kind k g.spelled.0 g.from g.to g.spelled.1 g.alike

one_at : {k : TokenKind} {at : ℕ} (g : Shifted (λ w. w ≡ token k at ∷ [])) → (to : ℕ) × (g.to ≡ token k to ∷ [])
one_at {k} {at} g = one_kind k at g.from g.to g.spelled g.alike

identifier : (i : Identifier) (g : Shifted (Word i)) → Found Word bare_identifier i g.to
identifier i g = let x = one_kind (kind.Name i.name) i.at g.from g.to g.spelled g.alike in (record { name = i.name; at = x.0 }, x.1, refl)

either : {k l : TokenKind} (g : Shifted ((λ w. (at : ℕ) × (w ≡ token k at ∷ [])) ∣ (λ w. (at : ℕ) × (w ≡ token l at ∷ [])))) → ((λ w. (at : ℕ) × (w ≡ token k at ∷ [])) ∣ (λ w. (at : ℕ) × (w ≡ token l at ∷ []))) g.to
either {k} {l} g = either_of k l g.from g.to g.alike g.spelled
  where
    either_of : (k l : TokenKind) (w v : List Token) → Alike w v → ((λ w. (at : ℕ) × (w ≡ token k at ∷ [])) ∣ (λ w. (at : ℕ) × (w ≡ token l at ∷ []))) w → ((λ w. (at : ℕ) × (w ≡ token k at ∷ [])) ∣ (λ w. (at : ℕ) × (w ≡ token l at ∷ []))) v
    either_of k l w v h (inl a) = inl (one_kind k a.0 w v a.1 h)
    either_of k l w v h (inr a) = inr (one_kind l a.0 w v a.1 h)

truth : (b : Bool) (g : Shifted (Truth b)) → Truth b g.to
truth true g = one g
truth false g = one g

nothing : (g : Shifted Nothing) → Nothing g.to
nothing g = alike_none g.to (g.alike ∙ ap kinds g.spelled)

int64 : (g : Shifted OfInt64) → OfInt64 g.to
int64 g = both g (one (first g)) (both (rest g) (one (first (rest g))) (one (rest (rest g))))

pool_word : (p : Option PoolName) (g : Shifted (PoolWord p)) → PoolWord p g.to
pool_word None g = nothing g
pool_word (Some p) g = both g (one (first g)) (one (rest g))

schedule_word : (s : Option Schedule) (g : Shifted (ScheduleWord s)) → ScheduleWord s g.to
schedule_word None g = nothing g
schedule_word (Some s) g = both g (one (first g)) (one (rest g))

gap_moved : (w v : List Token) → Gap w → Alike w v → Gap v
gap_moved [] v a h = subst Gap (sym (alike_none v h)) tt
gap_moved (t ∷ w) v a h =
    let x = alike_one t w v h in
    subst Gap (sym x.2) (subst IsSeparator (sym x.3) a.0, gap_moved w x.1 a.1 x.4)

longer : (w v : List Token) → Alike w v → 0 < length w → 0 < length v
longer [] v h l = absurd (omega (arith, l))
longer (t ∷ w) v h l = let x = alike_one t w v h in subst (λ z. 0 < length z) (sym x.2) (omega arith)

gap : (g : Shifted Gap) → Gap g.to
gap g = gap_moved g.from g.to g.spelled g.alike

some_gap : (g : Shifted SomeGap) → SomeGap g.to
some_gap g = (longer g.from g.to g.alike g.spelled.0, gap_moved g.from g.to g.spelled.1 g.alike)

-- ---- trees

same-level : (a b : Tree) → bare a ≡ bare b → level a ≡ level b
same-level a b e = sym (level-bare a) ∙ (ap level e ∙ level-bare b)

held : (l : ℕ) (e : Tree) → ((g : Shifted (Spells e)) → Found Spells bare e g.to) → (g : Shifted (Held l e (Spells e))) → Found (λ f. Held l f (Spells f)) bare e g.to
held l e moved g =
    let f = moved (under g) in
    (f.0, (subst (λ n. l ≤ n) (sym (same-level f.0 e f.2)) g.spelled.0, f.1), f.2)

same-some : (es fs : Terms) → bare_terms es ≡ bare_terms fs → IsSome fs → IsSome es
same-some tree.no_terms tree.no_terms e s = s
same-some tree.no_terms (tree.term r f fs) e s = absurd (omega (arith, ap full e))
  where
    full : Terms → ℕ
    full tree.no_terms = 0
    full (tree.term r f fs) = 1
same-some (tree.term r e es) fs h s = tt

-- a call with the word `Int64` for its argument
int64_call : {s : Sign} (g : Shifted (Mark s ▸ Mark sign.Open ▸ Mark sign.Int64 ▸ Mark sign.Close)) → (Mark s ▸ Mark sign.Open ▸ Mark sign.Int64 ▸ Mark sign.Close) g.to
int64_call g = both g (one (first g)) (both (rest g) (one (first (rest g))) (both (rest (rest g)) (one (first (rest (rest g)))) (one (rest (rest (rest g))))))

-- the end of a call of `notify`
abbrev AllSpells : Bool → Rule
AllSpells b = (Mark sign.Comma ∣ Mark sign.Semicolon) ▸ Letters (codes "all") ▸ Mark sign.Assign ▸ Truth b ▸ Mark sign.Close

all_moved : (b : Bool) (g : Shifted (AllSpells b)) → AllSpells b g.to
all_moved b g = both g (either (first g)) (both (rest g) (one (first (rest g))) (both (rest (rest g)) (one (first (rest (rest g)))) (both (rest (rest (rest g))) (truth b (first (rest (rest (rest g))))) (one (rest (rest (rest (rest g))))))))

-- what stands behind the `for` of a loop over a range
abbrev RangeSpells : Identifier → Tree → Tree → Steps → Rule
RangeSpells i a b ss = Word i ▸ InOrAssign ▸ Held 6 a (Spells a) ▸ Mark sign.Colon ▸ Held 6 b (Spells b) ▸ Tail ss ▸ Mark sign.End

range : (i : Identifier) (a b : Tree) (ss : Steps) (j : Identifier) (f h : Tree) (fs : Steps) (r : Shifted (RangeSpells i a b ss)) → Word j (first r).to → Held 6 f (Spells f) (first (rest (rest r))).to → Held 6 h (Spells h) (first (rest (rest (rest (rest r))))).to → Tail fs (first (rest (rest (rest (rest (rest r)))))).to
    → RangeSpells j f h fs r.to
range i a b ss j f h fs r of_j of_f of_h of_fs = both r of_j (both (rest r) (either (first (rest r))) (both (rest (rest r)) of_f (both (rest (rest (rest r))) (one (first (rest (rest (rest r))))) (both (rest (rest (rest (rest r)))) of_h (both (rest (rest (rest (rest (rest r))))) of_fs (one (rest (rest (rest (rest (rest (rest r))))))))))))

mutual
  pub tree_moved : (e : Tree) (g : Shifted (Spells e)) → Found Spells bare e g.to
  tree_moved (tree.text t) g = (tree.text t, one g, refl)
  tree_moved (tree.number n) g = (tree.number n, one g, refl)
  tree_moved (tree.truth b) g = (tree.truth b, truth b g, refl)
  tree_moved (tree.name i) g = let j = identifier i g in (tree.name j.0, j.1, ap tree.name j.2)
  tree_moved (tree.interpolation at i) g =
      let d = one_at (first g) in
      let j = identifier i (rest g) in
      (tree.interpolation d.0 j.0, both g d.1 j.1, ap (tree.interpolation 0) j.2)
  tree_moved (tree.group e) g =
      let f = held 1 e (tree_moved e) (first (rest g)) in
      (tree.group f.0, both g (one (first g)) (both (rest g) f.1 (one (rest (rest g)))), ap tree.group f.2)
  tree_moved (tree.call i es) g =
      let j = identifier i (first g) in
      let fs = list_moved 1 es (first (rest (rest g))) in
      (tree.call j.0 fs.0, both g j.1 (both (rest g) (one (first (rest g))) (both (rest (rest g)) fs.1 (one (rest (rest (rest g)))))), ap2 tree.call j.2 fs.2)
  tree_moved (tree.println es) g =
      let fs = list_moved 0 es (first (rest (rest g))) in
      (tree.println fs.0, both g (one (first g)) (both (rest g) (one (first (rest g))) (both (rest (rest g)) fs.1 (one (rest (rest (rest g)))))), ap tree.println fs.2)
  tree_moved (tree.error t) g = (tree.error t, both g (one (first g)) (both (rest g) (one (first (rest g))) (both (rest (rest g)) (one (first (rest (rest g)))) (one (rest (rest (rest g)))))), refl)
  tree_moved tree.unbuffered g = (tree.unbuffered, both g (one (first g)) (both (rest g) (int64 (first (rest g))) (both (rest (rest g)) (one (first (rest (rest g)))) (one (rest (rest (rest g)))))), refl)
  tree_moved (tree.channel e) g =
      let f = held 1 e (tree_moved e) (first (rest (rest (rest g)))) in
      (tree.channel f.0, both g (one (first g)) (both (rest g) (int64 (first (rest g))) (both (rest (rest g)) (one (first (rest (rest g)))) (both (rest (rest (rest g))) f.1 (one (rest (rest (rest (rest g)))))))), ap tree.channel f.2)
  tree_moved (tree.atomic e) g =
      let f = held 1 e (tree_moved e) (first (rest (rest (rest g)))) in
      (tree.atomic f.0, both g (one (first g)) (both (rest g) (int64 (first (rest g))) (both (rest (rest g)) (one (first (rest (rest g)))) (both (rest (rest (rest g))) f.1 (one (rest (rest (rest (rest g)))))))), ap tree.atomic f.2)
  tree_moved tree.least g = (tree.least, int64_call g, refl)
  tree_moved tree.greatest g = (tree.greatest, int64_call g, refl)
  tree_moved tree.random g = (tree.random, int64_call g, refl)
  tree_moved (tree.random_in a b) g =
      let f = held 6 a (tree_moved a) (first (rest (rest g))) in
      let h = held 6 b (tree_moved b) (first (rest (rest (rest (rest g))))) in
      (tree.random_in f.0 h.0, both g (one (first g)) (both (rest g) (one (first (rest g))) (both (rest (rest g)) f.1 (both (rest (rest (rest g))) (one (first (rest (rest (rest g))))) (both (rest (rest (rest (rest g)))) h.1 (one (rest (rest (rest (rest (rest g)))))))))), ap2 tree.random_in f.2 h.2)
  tree_moved (tree.notify e b) g =
      let f = held 1 e (tree_moved e) (first (rest (rest g))) in
      (tree.notify f.0 b, both g (one (first g)) (both (rest g) (one (first (rest g))) (both (rest (rest g)) f.1 (all_moved b (rest (rest (rest g)))))), ap (λ z. tree.notify z b) f.2)
  tree_moved (tree.read i) g =
      let j = identifier i (first g) in
      (tree.read j.0, both g j.1 (both (rest g) (one (first (rest g))) (one (rest (rest g)))), ap tree.read j.2)
  tree_moved (tree.power a b) g =
      let f = held 11 a (tree_moved a) (first g) in
      let h = held 9 b (tree_moved b) (rest (rest g)) in
      (tree.power f.0 h.0, both g f.1 (both (rest g) (one (first (rest g))) h.1), ap2 tree.power f.2 h.2)
  tree_moved (tree.unary o e) g =
      let f = held 9 e (tree_moved e) (rest g) in
      (tree.unary o f.0, both g (one (first g)) f.1, ap (tree.unary o) f.2)
  tree_moved (tree.chain c e es) g =
      let f = held (suc (class_level c)) e (tree_moved e) (first (under g)) in
      let fs = terms_moved c es (rest (under g)) in
      (tree.chain c f.0 fs.0, (same-some fs.0 es fs.2 g.spelled.0, both (under g) f.1 fs.1), ap2 (tree.chain c) f.2 fs.2)
  tree_moved (tree.conditional c a b) g =
      let k = held 3 c (tree_moved c) (first g) in
      let f = held 2 a (tree_moved a) (first (rest (rest g))) in
      let h = held 2 b (tree_moved b) (rest (rest (rest (rest g)))) in
      (tree.conditional k.0 f.0 h.0, both g k.1 (both (rest g) (one (first (rest g))) (both (rest (rest g)) f.1 (both (rest (rest (rest g))) (one (first (rest (rest (rest g))))) h.1))), ap3 tree.conditional k.2 f.2 h.2)
  tree_moved (tree.block ss) g =
      let fs = steps_moved ss (first (rest g)) in
      (tree.block fs.0, both g (one (first g)) (both (rest g) fs.1 (one (rest (rest g)))), ap tree.block fs.2)
  tree_moved (tree.branches c ss arms) g =
      let k = held 2 c (tree_moved c) (first (rest g)) in
      let fs = tail_moved ss (first (rest (rest g))) in
      let hs = arms_moved arms (first (rest (rest (rest g)))) in
      (tree.branches k.0 fs.0 hs.0, both g (one (first g)) (both (rest g) k.1 (both (rest (rest g)) fs.1 (both (rest (rest (rest g))) hs.1 (one (rest (rest (rest (rest g)))))))), ap3 tree.branches k.2 fs.2 hs.2)
  tree_moved (tree.while c ss) g =
      let k = held 2 c (tree_moved c) (first (rest g)) in
      let fs = tail_moved ss (first (rest (rest g))) in
      (tree.while k.0 fs.0, both g (one (first g)) (both (rest g) k.1 (both (rest (rest g)) fs.1 (one (rest (rest (rest g)))))), ap2 tree.while k.2 fs.2)
  tree_moved (tree.for_range i a b ss) g =
      let r = rest g in
      let j = identifier i (first r) in
      let f = held 6 a (tree_moved a) (first (rest (rest r))) in
      let h = held 6 b (tree_moved b) (first (rest (rest (rest (rest r))))) in
      let fs = tail_moved ss (first (rest (rest (rest (rest (rest r)))))) in
      (tree.for_range j.0 f.0 h.0 fs.0, both g (one (first g)) (range i a b ss j.0 f.0 h.0 fs.0 r j.1 f.1 h.1 fs.1), ap4 tree.for_range j.2 f.2 h.2 fs.2)
  tree_moved (tree.for_each i e ss) g =
      let r = rest g in
      let j = identifier i (first r) in
      let f = held 2 e (tree_moved e) (first (rest (rest r))) in
      let fs = tail_moved ss (first (rest (rest (rest r)))) in
      (tree.for_each j.0 f.0 fs.0, both g (one (first g)) (both r j.1 (both (rest r) (either (first (rest r))) (both (rest (rest r)) f.1 (both (rest (rest (rest r))) fs.1 (one (rest (rest (rest (rest r))))))))), ap3 tree.for_each j.2 f.2 fs.2)
  tree_moved (tree.spawn at p e) g =
      let d = one_at (first g) in
      let f = held 1 e (tree_moved e) (rest (rest g)) in
      (tree.spawn d.0 p f.0, both g d.1 (both (rest g) (pool_word p (first (rest g))) f.1), ap (tree.spawn 0 p) f.2)
  tree_moved (tree.async at e) g =
      let d = one_at (first g) in
      let f = held 1 e (tree_moved e) (rest g) in
      (tree.async d.0 f.0, both g d.1 f.1, ap (tree.async 0) f.2)
  tree_moved (tree.sync e) g =
      let f = held 1 e (tree_moved e) (rest g) in
      (tree.sync f.0, both g (one (first g)) f.1, ap tree.sync f.2)
  tree_moved (tree.threads at s i a b ss) g =
      let d = one_at (first g) in
      let r = rest (rest (rest g)) in
      let j = identifier i (first r) in
      let f = held 6 a (tree_moved a) (first (rest (rest r))) in
      let h = held 6 b (tree_moved b) (first (rest (rest (rest (rest r))))) in
      let fs = tail_moved ss (first (rest (rest (rest (rest (rest r)))))) in
      (tree.threads d.0 s j.0 f.0 h.0 fs.0, both g d.1 (both (rest g) (schedule_word s (first (rest g))) (both (rest (rest g)) (one (first (rest (rest g)))) (range i a b ss j.0 f.0 h.0 fs.0 r j.1 f.1 h.1 fs.1))), ap4 (tree.threads 0 s) j.2 f.2 h.2 fs.2)

  list_moved : (l : ℕ) (es : Trees) (g : Shifted (Listed l es)) → Found (Listed l) bare_trees es g.to
  list_moved l tree.no_trees g = (tree.no_trees, nothing g, refl)
  list_moved l (tree.tree e es) g =
      let f = held l e (tree_moved e) (first g) in
      let fs = commas_moved l es (rest g) in
      (tree.tree f.0 fs.0, both g f.1 fs.1, ap2 tree.tree f.2 fs.2)

  commas_moved : (l : ℕ) (es : Trees) (g : Shifted (Commas l es)) → Found (Commas l) bare_trees es g.to
  commas_moved l tree.no_trees g = (tree.no_trees, nothing g, refl)
  commas_moved l (tree.tree e es) g =
      let f = held l e (tree_moved e) (first (rest g)) in
      let fs = commas_moved l es (rest (rest g)) in
      (tree.tree f.0 fs.0, both g (one (first g)) (both (rest g) f.1 fs.1), ap2 tree.tree f.2 fs.2)

  terms_moved : (c : Class) (es : Terms) (g : Shifted (Follow c es)) → Found (Follow c) bare_terms es g.to
  terms_moved c tree.no_terms g = (tree.no_terms, nothing g, refl)
  terms_moved c (tree.term o e es) g =
      let r = rest (under g) in
      let f = held (suc (class_level c)) e (tree_moved e) (first r) in
      let fs = terms_moved c es (rest r) in
      (tree.term o f.0 fs.0, (g.spelled.0, both (under g) (one (first (under g))) (both r f.1 fs.1)), ap2 (tree.term o) f.2 fs.2)

  arms_moved : (arms : Arms) (g : Shifted (ArmsSpell arms)) → Found ArmsSpell bare_arms arms g.to
  arms_moved tree.no_arms g = (tree.no_arms, nothing g, refl)
  arms_moved (tree.otherwise ss) g =
      let fs = steps_moved ss (rest g) in
      (tree.otherwise fs.0, both g (one (first g)) fs.1, ap tree.otherwise fs.2)
  arms_moved (tree.arm c ss arms) g =
      let k = held 2 c (tree_moved c) (first (rest g)) in
      let fs = tail_moved ss (first (rest (rest g))) in
      let hs = arms_moved arms (rest (rest (rest g))) in
      (tree.arm k.0 fs.0 hs.0, both g (one (first g)) (both (rest g) k.1 (both (rest (rest g)) fs.1 hs.1)), ap3 tree.arm k.2 fs.2 hs.2)

  leap_moved : (j : Leap) (g : Shifted (LeapSpells j)) → Found LeapSpells bare_leap j g.to
  leap_moved (tree.return_nothing at) g = let d = one_at g in (tree.return_nothing d.0, d.1, refl)
  leap_moved (tree.return_value at e) g =
      let d = one_at (first g) in
      let f = held 1 e (tree_moved e) (rest g) in
      (tree.return_value d.0 f.0, both g d.1 f.1, ap (tree.return_value 0) f.2)
  leap_moved (tree.break_loop at) g = let d = one_at g in (tree.break_loop d.0, d.1, refl)
  leap_moved (tree.continue_loop at) g = let d = one_at g in (tree.continue_loop d.0, d.1, refl)

  step_moved : (x : Step) (g : Shifted (StepSpells x)) → Found StepSpells bare_step x g.to
  step_moved (tree.assign i o e) g =
      let j = identifier i (first g) in
      let f = held 1 e (tree_moved e) (rest (rest g)) in
      (tree.assign j.0 o f.0, both g j.1 (both (rest g) (one (first (rest g))) f.1), ap2 (λ z. tree.assign z o) j.2 f.2)
  step_moved (tree.store i e) g =
      let j = identifier i (first g) in
      let f = held 1 e (tree_moved e) (rest (rest (rest (rest g)))) in
      (tree.store j.0 f.0, both g j.1 (both (rest g) (one (first (rest g))) (both (rest (rest g)) (one (first (rest (rest g)))) (both (rest (rest (rest g))) (one (first (rest (rest (rest g))))) f.1))), ap2 tree.store j.2 f.2)
  step_moved (tree.jump j) g = let l = leap_moved j g in (tree.jump l.0, l.1, ap tree.jump l.2)
  step_moved (tree.guard c e es j) g =
      let f = held (suc (class_level (connective_class c))) e (tree_moved e) (first g) in
      let fs = terms_moved (connective_class c) es (first (rest g)) in
      let l = leap_moved j (rest (rest (rest g))) in
      (tree.guard c f.0 fs.0 l.0, both g f.1 (both (rest g) fs.1 (both (rest (rest g)) (one (first (rest (rest g)))) l.1)), ap3 (tree.guard c) f.2 fs.2 l.2)
  step_moved (tree.value e) g = let f = held 1 e (tree_moved e) g in (tree.value f.0, f.1, ap tree.value f.2)

  steps_moved : (xs : Steps) (g : Shifted (Body xs)) → Found Body bare_steps xs g.to
  steps_moved tree.no_steps g = (tree.no_steps, gap g, refl)
  steps_moved (tree.step x xs) g =
      let f = step_moved x (first (rest g)) in
      let fs = tail_moved xs (rest (rest g)) in
      (tree.step f.0 fs.0, both g (gap (first g)) (both (rest g) f.1 fs.1), ap2 tree.step f.2 fs.2)

  tail_moved : (xs : Steps) (g : Shifted (Tail xs)) → Found Tail bare_steps xs g.to
  tail_moved tree.no_steps g = (tree.no_steps, gap g, refl)
  tail_moved (tree.step x xs) g =
      let f = step_moved x (first (rest g)) in
      let fs = tail_moved xs (rest (rest g)) in
      (tree.step f.0 fs.0, both g (some_gap (first g)) (both (rest g) f.1 fs.1), ap2 tree.step f.2 fs.2)

-- ---- scripts

more_names_moved : (is : List Identifier) (g : Shifted (MoreNames is)) → Found MoreNames (map bare_identifier) is g.to
more_names_moved [] g = ([], nothing g, refl)
more_names_moved (i ∷ is) g =
    let j = identifier i (first (rest g)) in
    let js = more_names_moved is (rest (rest g)) in
    (j.0 ∷ js.0, both g (one (first g)) (both (rest g) j.1 js.1), ap2 (λ z zs. z ∷ zs) j.2 js.2)

names_moved : (is : List Identifier) (g : Shifted (Names is)) → Found Names (map bare_identifier) is g.to
names_moved [] g = ([], nothing g, refl)
names_moved (i ∷ is) g =
    let j = identifier i (first g) in
    let js = more_names_moved is (rest g) in
    (j.0 ∷ js.0, both g j.1 js.1, ap2 (λ z zs. z ∷ zs) j.2 js.2)

form_moved : (f : Form) (g : Shifted (FormSpells f)) → Found FormSpells bare_form f g.to
form_moved tree.using_threads g = (tree.using_threads, both g (one (first g)) (one (rest g)), refl)
form_moved (tree.constant i e) g =
    let j = identifier i (first (rest g)) in
    let f = held 1 e (tree_moved e) (rest (rest (rest g))) in
    (tree.constant j.0 f.0, both g (one (first g)) (both (rest g) j.1 (both (rest (rest g)) (one (first (rest (rest g)))) f.1)), ap2 tree.constant j.2 f.2)
form_moved (tree.function i is ss) g =
    let j = identifier i (first (rest g)) in
    let r = rest (rest g) in
    let js = names_moved is (first (rest r)) in
    let fs = tail_moved ss (first (rest (rest (rest r)))) in
    (tree.function j.0 js.0 fs.0, both g (one (first g)) (both (rest g) j.1 (both r (one (first r)) (both (rest r) js.1 (both (rest (rest r)) (one (first (rest (rest r)))) (both (rest (rest (rest r))) fs.1 (one (rest (rest (rest (rest r)))))))))), ap3 tree.function j.2 js.2 fs.2)
form_moved (tree.short i is e) g =
    let j = identifier i (first g) in
    let r = rest g in
    let js = names_moved is (first (rest r)) in
    let f = held 1 e (tree_moved e) (rest (rest (rest (rest r)))) in
    (tree.short j.0 js.0 f.0, both g j.1 (both r (one (first r)) (both (rest r) js.1 (both (rest (rest r)) (one (first (rest (rest r)))) (both (rest (rest (rest r))) (one (first (rest (rest (rest r))))) f.1)))), ap3 tree.short j.2 js.2 f.2)
form_moved (tree.plain s) g = let f = step_moved s g in (tree.plain f.0, f.1, ap tree.plain f.2)

-- where the others begin
starts : (at : ℕ) (w v : List Token) → StartsAt at w → Alike w v → (to : ℕ) × StartsAt to v
starts at [] v a h = absurd a
starts at (t ∷ w) v a h = let x = alike_one t w v h in (x.0.at, subst (StartsAt x.0.at) (sym x.2) refl)

abbrev bare_top : TopTree → TopTree
bare_top x = (0, bare_form x.1)

top_moved : (x : TopTree) (g : Shifted (TopSpells x)) → Found TopSpells bare_top x g.to
top_moved x g =
    let to = starts x.0 g.from g.to g.spelled.0 g.alike in
    let f = form_moved x.1 (record { from = g.from; to = g.to; spelled = g.spelled.1; alike = g.alike }) in
    ((to.0, f.0), (to.1, f.1), ap (λ z. (0, z)) f.2)

tops_tail_moved : (tops : List TopTree) (g : Shifted (TopsTail tops)) → Found TopsTail bare_script tops g.to
tops_tail_moved [] g = ([], gap g, refl)
tops_tail_moved (x ∷ tops) g =
    let f = top_moved x (first (rest g)) in
    let fs = tops_tail_moved tops (rest (rest g)) in
    (f.0 ∷ fs.0, both g (some_gap (first g)) (both (rest g) f.1 fs.1), ap2 (λ z zs. z ∷ zs) f.2 fs.2)

tops_moved : (tops : List TopTree) (g : Shifted (TopsBody tops)) → Found TopsBody bare_script tops g.to
tops_moved [] g = ([], gap g, refl)
tops_moved (x ∷ tops) g =
    let f = top_moved x (first (rest g)) in
    let fs = tops_tail_moved tops (rest (rest g)) in
    (f.0 ∷ fs.0, both g (gap (first g)) (both (rest g) f.1 fs.1), ap2 (λ z zs. z ∷ zs) f.2 fs.2)

-- tokens of the same kinds are a script that is equal up to places
pub script_moved : (tops : List TopTree) (w v : List Token) → ScriptSpells tops w → Alike w v → (others : List TopTree) × ScriptSpells others v × (bare_script others ≡ bare_script tops)
script_moved tops w v a h =
    let g : Shifted (ScriptSpells tops) = record { from = w; to = v; spelled = a; alike = h } in
    let fs = tops_moved tops (first g) in
    (fs.0, both g fs.1 (one (rest g)), fs.2)
