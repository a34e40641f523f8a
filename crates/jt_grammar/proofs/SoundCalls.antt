-- What the tightest forms explain: literals, names, calls and the words with a rule of their own.
use Rattle.std.proofs.Common.{◌≡◌, ℕ, suc, ◌≤◌, Bool, true, false, ◌&&◌, true≢false, is_some, List, [], ◌∷◌, ◌++◌, Option, Some, None, codes, inl, inr, refl, sym, ap, subst, ◌∙◌, append_assoc, append-nil, cond, arith, lit≤}
use Rattle.std.proofs.lemmas.Slice.Eq.{bytes_eq-Decides}
use Rattle.std.specs.Str.{bytes_eq}
use Rattle.jt_syntax.specs.Tree.{Tree, Trees, Step}
use Rattle.jt_syntax.specs.Tree as tree
use Rattle.jt_syntax.specs.declared.script.Identifier.{Identifier}
use Rattle.jt_syntax.specs.declared.token.Sign.{Sign}
use Rattle.jt_syntax.specs.declared.token.Sign.TheVariants as sign
use Rattle.jt_syntax.specs.declared.token.Token.{Token}
use Rattle.jt_syntax.specs.declared.token.TokenKind.{TokenKind}
use Rattle.jt_syntax.specs.declared.token.TokenKind.TheVariants as kind
use Rattle.jt_grammar.specs.declared.Level.{Level}
use Rattle.jt_grammar.specs.declared.Level.TheVariants as levels
use Rattle.jt_grammar.specs.Grammar.{Rule, token, ◌▸◌, ◌∣◌, Mark, Word, Letters, Truth, OfInt64, At, Spells, Listed, Commas, StepSpells}
use Rattle.jt_grammar.specs.Joined.{is_last_opener}
use Rattle.jt_grammar.specs.Nesting.{Opened, Within, AllWithin, StepWithin}
use Rattle.jt_grammar.specs.Reader.{Parser, ◌>>=◌, ◌>>◌, pure, refuse, expect, word, letters, comma_list, grouped, arguments, notified_with_all, notified_alone, notify_all, with_all, alone, call_ended, called, element, named_by, named, interpolated, item_by, item, printed, failing, of_int64, channelled, atomic_made, limit, drawn, primary_by, primary}
use Rattle.jt_grammar.proofs.Steps.{Nesting, Anyhow, Shows, After}
use Rattle.jt_grammar.proofs.SoundParts.{Sample, Given, And, Reads, given, part, done, deeper, Room, Enters, opened, demanded, last, expected, opens_with, relaxed, skipped, From, either, sits, refuses, kinds, word_reads, letters_read, quoted_reads, truth_reads, from, enters_then, Free, opened_map, opened_pair}
use Rattle.jt_grammar.proofs.SoundLists.{comma_list_reads}

-- within the nesting of what an opener opens
abbrev pub Inner : ℕ → Nesting Tree
Inner d b e = Opened (deeper d b) (λ k. Within k e)

abbrev pub InnerStep : ℕ → Nesting Step
InnerStep d b s = Opened (deeper d b) (λ k. StepWithin k s)

abbrev pub WithinBy : ℕ → Nesting Tree
WithinBy d b = Within (deeper d b)

abbrev pub IsRange : Tree → Type 0
IsRange (tree.for_range i a b ss) = Unit {0}
IsRange _ = ⊥

-- a loop over a range of numbers
abbrev pub Looped : Tree → Rule
Looped e w = IsRange e × Spells e w

-- what the readers of the next level explain
pub record Below (n d : ℕ) (expr_in : Level → Parser Tree) (step_in : Parser Step) : Type 0 where
  pub whole : Reads (Room d) (At 1) (Inner d) n (expr_in levels.Whole)
  pub condition : Reads (Room d) (At 2) (Inner d) n (expr_in levels.Condition)
  pub sum : Reads (Room d) (At 6) (Inner d) n (expr_in levels.Sum)
  pub operand : Reads (Room d) (At 9) (Inner d) n (expr_in levels.Operand)
  pub loop : (k : ℕ) → d ≡ suc k → Enters Looped (WithinBy k) k n (expr_in levels.Loop)
  pub step : Reads (Room d) StepSpells (InnerStep d) n step_in

pub zero_sample : {C : Bool → Type 0} (d l : ℕ) → l ≤ 11 → Sample C (At l) (WithinBy d)
zero_sample d l h = (token (kind.Number 0) 0 ∷ [], tree.number 0, (h, (0, refl)), (λ b c. tt), (refl, tt))

-- a sign that is known to stand there
pub marks : {s : Sign} {t : Token} → t.kind ≡ kind.Sign s → Mark s (t ∷ [])
marks {s} {t} e = (t.at, sits e)

-- ---- calls of `notify` with `all`

and-true : (a b : Bool) → a && b ≡ true → (a ≡ true) × (b ≡ true)
and-true true true e = (refl, refl)
and-true true false e = absurd (true≢false (sym e))
and-true false b e = absurd (true≢false (sym e))

some-tree : Option Tree → Tree
some-tree None = tree.least
some-tree (Some e) = e

if-some : (b : Bool) (x e : Tree) → cond b (Some x) None ≡ Some e → (b ≡ true) × (x ≡ e)
unfolding some-tree
if-some true x e h = (refl, ap some-tree h)
if-some false x e h = absurd (true≢false (sym (ap is_some h)))

none-some : {X : Type 0} (e : Tree) → None ≡ Some e → X
none-some e h = absurd (true≢false (sym (ap is_some h)))

-- the name is these letters, and the arguments are e and the name `all`
abbrev IsWithAll : Identifier → Trees → Tree → Type 0
IsWithAll i es e = (all : Identifier) × (es ≡ tree.tree e (tree.tree (tree.name all) tree.no_trees)) × (i.name ≡ codes "notify") × (all.name ≡ codes "all")

with_all_is : (i : Identifier) (es : Trees) (e : Tree) → notified_with_all i es ≡ Some e → IsWithAll i es e
with_all_is i (tree.tree x (tree.tree (tree.name all) tree.no_trees)) e h =
    let y = if-some (bytes_eq i.name (codes "notify") && bytes_eq all.name (codes "all")) x e h in
    let z = and-true (bytes_eq i.name (codes "notify")) (bytes_eq all.name (codes "all")) y.0 in
    (all, ap (λ v. tree.tree v (tree.tree (tree.name all) tree.no_trees)) y.1, (bytes_eq-Decides i.name (codes "notify")).0 z.0, (bytes_eq-Decides all.name (codes "all")).0 z.1)
with_all_is i _ e h = none-some e h

alone_is : (i : Identifier) (es : Trees) (e : Tree) → notified_alone i es ≡ Some e → (es ≡ tree.tree e tree.no_trees) × (i.name ≡ codes "notify")
alone_is i (tree.tree x tree.no_trees) e h =
    let y = if-some (bytes_eq i.name (codes "notify")) x e h in
    (ap (λ v. tree.tree v tree.no_trees) y.1, (bytes_eq-Decides i.name (codes "notify")).0 y.0)
alone_is i _ e h = none-some e h

letters_of : (n : List ℕ) (i : Identifier) (w : List Token) → i.name ≡ n → Word i w → Letters n w
letters_of n i w e g = (i.at, g ∙ ap (λ x. token (kind.Name x) i.at ∷ []) e)

notify_is : (e : Tree) (x : Bool) (w v u c l a b z : List Token) → Letters (codes "notify") w → Mark sign.Open v → At 1 e u → (Mark sign.Comma ∣ Mark sign.Semicolon) c → Letters (codes "all") l → Mark sign.Assign a → Truth x b → Mark sign.Close z
    → At 11 (tree.notify e x) (w ++ (v ++ (u ++ (c ++ (l ++ (a ++ (b ++ z)))))))
notify_is e x w v u c l a b z p1 p2 p3 p4 p5 p6 p7 p8 = (lit≤ tt, (w, _, refl, p1, (v, _, refl, p2, (u, _, refl, p3, (c, _, refl, p4, (l, _, refl, p5, (a, _, refl, p6, (b, z, refl, p7, p8))))))))

module _ (n d : ℕ) (expr_in : Level → Parser Tree) (step_in : Parser Step) (below : Below n d expr_in step_in) where
  pub grouped_reads : Reads Free (At 11) (WithinBy d) n (grouped n d expr_in step_in)
  grouped_reads = opened (opens_with sign.Open refl refl) (zero_sample d 11 (lit≤ tt))
      (λ o u x. part (given (λ _ c. c.1) below.whole)
      (λ e v y. last (λ c. tree.group e) (expected sign.Close refl)
      (λ c w z. (lit≤ tt, (_, _, refl, (o.at, x), (_, _, refl, y, (c.at, z))))) (λ _ _ c _. c.1)))

  -- ---- calls

  abbrev pub InnerAll : Nesting Trees
  InnerAll b es = Opened (deeper d b) (λ k. AllWithin k es)

  pub arguments_read : Reads (Room d) (Listed 1) InnerAll n (arguments n d expr_in step_in)
  arguments_read = comma_list_reads (At 1) (Inner d) (Commas 1) (Listed 1) InnerAll tree.no_trees tree.tree refl (λ x xs w h. h) refl (λ x xs w h. h) (λ b c. c)
      (λ x xs b k l. opened_pair (deeper d b) (λ j. Within j x) (λ j. AllWithin j xs) k l) n (expr_in levels.Whole) below.whole

  -- behind what a call of `notify` has before its `=`
  pub notify_all_reads : {C : Bool → Type 0} {H : Tree → Rule} (e : Tree) → ((x : Bool) (a b z : List Token) → Mark sign.Assign a → Truth x b → Mark sign.Close z → H (tree.notify e x) (a ++ (b ++ z))) → ((b : Bool) → C b → Inner d b e)
      → Reads C H (WithinBy d) n (notify_all n d expr_in step_in e)
  notify_all_reads e spells within = part (expected sign.Assign refl) (λ s a m. part truth_reads (λ x b g. last (λ c. tree.notify e x) (expected sign.Close refl) (λ c z m'. spells x a b z (s.at, m) g (c.at, m')) (λ _ b c _. within b c.0.0)))

  module _ {C : Bool → Type 0} (i : Identifier) (w v u : List Token) (es : Trees) (is_name : Word i w) (opens : Mark sign.Open v) (args : Listed 1 es u) (room : (b : Bool) → C b → InnerAll b es) where
    abbrev Behind : Tree → Rule
    Behind e z = At 11 e (w ++ (v ++ (u ++ z)))

    call_is : (z : List Token) → Mark sign.Close z → Behind (tree.call i es) z
    call_is z m = (lit≤ tt, (w, _, refl, is_name, (v, _, refl, opens, (u, z, refl, args, m))))

    some_call : Sample C Behind (WithinBy d)
    some_call = (token (kind.Sign sign.Close) 0 ∷ [], tree.call i es, call_is (token (kind.Sign sign.Close) 0 ∷ []) (0, refl), room, (refl, tt))

    with_all_spells : (e : Tree) → IsWithAll i es e → (x : Bool) (a b z : List Token) → Mark sign.Assign a → Truth x b → Mark sign.Close z → Behind (tree.notify e x) (a ++ (b ++ z))
    with_all_spells e is x a b z p q r =
        let f : Listed 1 (tree.tree e (tree.tree (tree.name is.0) tree.no_trees)) u = subst (λ y. Listed 1 y u) is.1 args in
        let g = f.4 in
        let h = g.4 in
        let rest = a ++ (b ++ z) in
        let last_one : g.1 ≡ h.0 = h.2 ∙ (ap (λ y. h.0 ++ y) h.4 ∙ append-nil h.0) in
        let shape : u ++ rest ≡ f.0 ++ (g.0 ++ (h.0 ++ rest)) = ap (λ y. y ++ rest) (f.2 ∙ ap (λ y. f.0 ++ y) (g.2 ∙ ap (λ y. g.0 ++ y) last_one)) ∙ (append_assoc f.0 (g.0 ++ h.0) rest ∙ ap (λ y. f.0 ++ y) (append_assoc g.0 h.0 rest)) in
        subst (λ y. At 11 (tree.notify e x) (w ++ (v ++ y))) (sym shape)
        (notify_is e x w v f.0 g.0 h.0 a b z (letters_of (codes "notify") i w is.2 is_name) opens f.3 (inl g.3) (letters_of (codes "all") is.0 h.0 is.3 h.3.1) p q r)

    with_all_at : (o : Option Tree) → notified_with_all i es ≡ o → Reads C Behind (WithinBy d) n (with_all n d expr_in step_in o)
    with_all_at None e = refuses some_call
    with_all_at (Some x) e =
        let is = with_all_is i es x e in
        notify_all_reads x (with_all_spells x is) (λ b c. opened_map (deeper d b) (λ k. AllWithin k (tree.tree x (tree.tree (tree.name is.0) tree.no_trees))) (λ k. Within k x) (λ k h. h.0) (subst (InnerAll b) is.1 (room b c)))

    alone_spells : (e : Tree) → (es ≡ tree.tree e tree.no_trees) × (i.name ≡ codes "notify") → (t : Token) → t.kind ≡ kind.Sign sign.Semicolon → (l : List Token) → Letters (codes "all") l
        → (x : Bool) (a b z : List Token) → Mark sign.Assign a → Truth x b → Mark sign.Close z → Behind (tree.notify e x) (t ∷ (l ++ (a ++ (b ++ z))))
    alone_spells e is t k l g x a b z p q r =
        let f : Listed 1 (tree.tree e tree.no_trees) u = subst (λ y. Listed 1 y u) is.0 args in
        let all_of : u ≡ f.0 = f.2 ∙ (ap (λ y. f.0 ++ y) f.4 ∙ append-nil f.0) in
        notify_is e x w v u (t ∷ []) l a b z (letters_of (codes "notify") i w is.1 is_name) opens (subst (At 1 e) (sym all_of) f.3) (inr (marks k)) g p q r

    alone_at : (o : Option Tree) → notified_alone i es ≡ o → From sign.Semicolon C Behind (WithinBy d) n (alone n d expr_in step_in o)
    alone_at None e c t ts k = let r : Reads C Behind (WithinBy d) n refuse = refuses some_call in r.explains c (t ∷ ts)
    alone_at (Some x) e c t ts k =
        let is = alone_is i es x e in
        skipped Behind (WithinBy d) (λ _. letters (codes "all") >> notify_all n d expr_in step_in x) t
        (part (letters_read (codes "all")) (λ _ l g. notify_all_reads x (alone_spells x is t k l g) (λ b c. opened_map (deeper d b) (λ k. AllWithin k (tree.tree x tree.no_trees)) (λ k. Within k x) (λ k h. h.0) (subst (InnerAll b) is.0 (room b c.0))))) c ts

    call_ended_reads : Reads C Behind (WithinBy d) n (call_ended n d expr_in step_in i es)
    call_ended_reads = either sign.Close _ _ (λ h. h) (λ c t ts e. (t ∷ [], refl, call_is (t ∷ []) (marks e), (λ b. room b (c b))))
        (either sign.Assign _ _ (λ h. h) (from (with_all_at (notified_with_all i es) refl))
        (either sign.Semicolon _ _ (λ h. h) (alone_at (notified_alone i es) refl) (refuses some_call)))

  called_reads : (i : Identifier) (w : List Token) → Word i w → Reads (And Free Anyhow i) (After w (At 11)) (WithinBy d) n (called n d expr_in step_in i)
  called_reads i w g = opened (opens_with sign.Open refl refl) (bare_name i w g)
      (λ o v x. part (given (λ _ c. c.1) arguments_read) (λ es u y. call_ended_reads i w v u es g (o.at, x) y (λ _ c. c.1)))
    where
      bare_name : (i : Identifier) (w : List Token) → Word i w → Sample (And Free Anyhow i) (After w (At 11)) (WithinBy d)
      bare_name i w g = ([], tree.name i, (lit≤ tt, subst (Word i) (sym (append-nil w)) g), (λ b c. tt), tt)

  element_reads : (i : Identifier) (w : List Token) → Word i w → Reads (And Free Anyhow i) (After w (At 11)) (WithinBy d) n (element n d expr_in step_in i)
  element_reads i w g = opened (opens_with sign.OpenSquare refl refl) ([], tree.name i, (lit≤ tt, subst (Word i) (sym (append-nil w)) g), (λ b c. tt), tt)
      (λ o v x. last (λ _. tree.read i) (expected sign.CloseSquare refl) (λ c z y. (lit≤ tt, (w, _, refl, g, (v, z, refl, (o.at, x), (c.at, y))))) (λ _ _ c _. c.1))

  named_by_reads : (i : Identifier) (w : List Token) → Word i w → Reads (And Free Anyhow i) (After w (At 11)) (WithinBy d) n (named_by n d expr_in step_in i)
  named_by_reads i w g = either sign.Open _ _ (λ h. h) (from (called_reads i w g))
      (either sign.OpenSquare _ _ (λ h. h) (from (element_reads i w g)) (done (lit≤ tt, subst (Word i) (sym (append-nil w)) g) (λ b c. tt)))

  named_reads : Reads Free (At 11) (WithinBy d) n (named n d expr_in step_in)
  named_reads = part word_reads named_by_reads

  -- ---- words with a rule of their own, from the word on

  abbrev Begun : Sign → Parser Tree → Type 0
  Begun s p = From s Free (At 11) (WithinBy d) n p

  interpolated_from : Begun sign.Dollar (interpolated n d expr_in step_in)
  interpolated_from c t ts k = skipped (At 11) (WithinBy d) (λ t. word >>= λ i. pure (tree.interpolation t.at i)) t
      (last (λ i. tree.interpolation t.at i) word_reads (λ i w g. (lit≤ tt, (t ∷ [], w, refl, sits k, g))) (λ _ _ _ _. tt)) c ts

  item_reads : Reads (Room d) (At 0) (Inner d) n (item n d expr_in step_in)
  unfolding item
  item_reads = kinds (item_by n d expr_in step_in) some at (λ c. expr.explains c [])
    where
      expr : Reads (Room d) (At 0) (Inner d) n (expr_in levels.Whole)
      expr = relaxed (λ e w a. (omega arith, a.1)) (λ e b c k. k) below.whole

      some : Sample (Room d) (At 0) (Inner d)
      some = expr.sample

      at : Given (Room d) → (t : Token) (ts : List Token) (k : TokenKind) → t.kind ≡ k → Shows (At 0) (Inner d) n (t ∷ ts) (item_by n d expr_in step_in k (t ∷ ts))
      at c t ts (kind.Text x) e = (t ∷ [], refl, (omega arith, (t.at, ap (λ x. token x t.at ∷ []) e)), (λ b. opened_map (deeper d b) (λ k. Unit {0}) (λ k. Within k (tree.text x)) (λ k h. h) (c b)))
      at c t ts (kind.Sign s) e = expr.explains c (t ∷ ts)
      at c t ts (kind.Number x) e = expr.explains c (t ∷ ts)
      at c t ts (kind.Name x) e = expr.explains c (t ∷ ts)

  printed_from : Begun sign.Println (printed n d expr_in step_in)
  printed_from c t ts k = demanded t (ap is_last_opener k) (opens_with sign.Open refl refl) (zero_sample d 11 (lit≤ tt))
      (λ o v x. part (given (λ _ c. c.1) items_read)
      (λ es u y. last (λ _. tree.println es) (expected sign.Close refl)
      (λ z w m. (lit≤ tt, (t ∷ [], _, refl, marks k, (v, _, refl, (o.at, x), (u, w, refl, y, (z.at, m)))))) (λ _ _ c _. c.1))) c ts
    where
      items_read : Reads (Room d) (Listed 0) InnerAll n (comma_list n (item n d expr_in step_in) tree.no_trees tree.tree)
      items_read = comma_list_reads (At 0) (Inner d) (Commas 0) (Listed 0) InnerAll tree.no_trees tree.tree refl (λ x xs w h. h) refl (λ x xs w h. h) (λ b c. c)
          (λ x xs b k l. opened_pair (deeper d b) (λ j. Within j x) (λ j. AllWithin j xs) k l) n (item n d expr_in step_in) item_reads

  failing_from : Begun sign.Error (failing n d expr_in step_in)
  failing_from c t ts k = demanded t (ap is_last_opener k) (opens_with sign.Open refl refl) (zero_sample d 11 (lit≤ tt))
      (λ o v x. part quoted_reads
      (λ q u y. last (λ _. tree.error q) (expected sign.Close refl)
      (λ z w m. (lit≤ tt, (t ∷ [], _, refl, marks k, (v, _, refl, (o.at, x), (u, w, refl, y, (z.at, m)))))) (λ _ _ c _. c.0.1))) c ts

  of_int64_enters : Enters (λ (t : Token). OfInt64) (λ b t. Room d b) d n (of_int64 n d expr_in step_in)
  of_int64_enters = enters_then (opens_with sign.OpenCurly refl refl)
      (λ o v x. part (expected sign.Int64 refl) (λ i u y. relaxed (λ c w z. (v, _, refl, (o.at, x), (u, w, refl, (i.at, y), (c.at, z)))) (λ _ _ c _. c.0) (expected sign.CloseCurly refl)))

  channelled_from : Begun sign.Channel (channelled n d expr_in step_in)
  channelled_from c t ts k = demanded t (ap is_last_opener k) of_int64_enters (zero_sample d 11 (lit≤ tt))
      (λ _ p x. opened (opens_with sign.Open refl refl) (token (kind.Sign sign.Open) 0 ∷ token (kind.Sign sign.Close) 0 ∷ [], tree.unbuffered, unbuffered_is p x _ _ (0, refl) (0, refl), (λ b c. c.1), (refl, (refl, tt)))
      (λ o v y. either sign.Close _ _ (λ h. h) (λ c z ts e. (z ∷ [], refl, unbuffered_is p x v (z ∷ []) (o.at, y) (marks e), (λ b. (c b).1)))
      (part (given (λ _ c. c.1) below.whole)
      (λ e u g. last (λ _. tree.channel e) (expected sign.Close refl)
      (λ z w m. (lit≤ tt, (t ∷ [], _, refl, marks k, (p, _, refl, x, (v, _, refl, (o.at, y), (u, w, refl, g, (z.at, m))))))) (λ _ _ c _. c.1))))) c ts
    where
      unbuffered_is : (p : List Token) → OfInt64 p → (v w : List Token) → Mark sign.Open v → Mark sign.Close w → At 11 tree.unbuffered (t ∷ (p ++ (v ++ w)))
      unbuffered_is p x v w m m' = (lit≤ tt, (t ∷ [], _, refl, marks k, (p, _, refl, x, (v, w, refl, m, m'))))

  atomic_from : Begun sign.Atomic (atomic_made n d expr_in step_in)
  atomic_from c t ts k = demanded t (ap is_last_opener k) of_int64_enters (zero_sample d 11 (lit≤ tt))
      (λ _ p x. opened (opens_with sign.Open refl refl) (token (kind.Sign sign.Open) 0 ∷ token (kind.Number 0) 0 ∷ token (kind.Sign sign.Close) 0 ∷ [], tree.atomic (tree.number 0), (lit≤ tt, (t ∷ [], _, refl, marks k, (p, _, refl, x, (token (kind.Sign sign.Open) 0 ∷ [], _, refl, (0, refl), (token (kind.Number 0) 0 ∷ [], _, refl, (lit≤ tt, (0, refl)), (0, refl)))))), (λ b c. c.1), (refl, (refl, (refl, tt))))
      (λ o v y. part (given (λ _ c. c.1) below.whole)
      (λ e u g. last (λ _. tree.atomic e) (expected sign.Close refl)
      (λ z w m. (lit≤ tt, (t ∷ [], _, refl, marks k, (p, _, refl, x, (v, _, refl, (o.at, y), (u, w, refl, g, (z.at, m))))))) (λ _ _ c _. c.1)))) c ts

  limit_from : (s : Sign) (e : Tree) → is_last_opener (kind.Sign s) ≡ false → ((w : List Token) → (Mark s ▸ Mark sign.Open ▸ Mark sign.Int64 ▸ Mark sign.Close) w → At 11 e w) → ((b : Bool) → Room d b → WithinBy d b e) → Begun s (limit n d expr_in step_in e)
  limit_from s e quiet spells within c t ts k = demanded t (ap is_last_opener k ∙ quiet) (opens_with sign.Open refl refl) (zero_sample d 11 (lit≤ tt))
      (λ o v x. part (expected sign.Int64 refl)
      (λ i u y. last (λ _. e) (expected sign.Close refl)
      (λ z w m. spells (t ∷ (v ++ (u ++ w))) (t ∷ [], _, refl, marks k, (v, _, refl, (o.at, x), (u, w, refl, (i.at, y), (z.at, m))))) (λ _ b c _. within b c.0.1))) c ts

  drawn_from : Begun sign.Rand (drawn n d expr_in step_in)
  drawn_from c t ts k = demanded t (ap is_last_opener k) (opens_with sign.Open refl refl) (zero_sample d 11 (lit≤ tt))
      (λ o v x. either sign.Int64 _ _ (λ h. h)
      (λ c i ts e. skipped (After v (After (t ∷ []) (At 11))) (WithinBy d) (λ _. expect sign.Close >> pure tree.random) i
      (last (λ _. tree.random) (expected sign.Close refl) (λ z w m. (lit≤ tt, (t ∷ [], _, refl, marks k, (v, _, refl, (o.at, x), (i ∷ [], w, refl, marks e, (z.at, m)))))) (λ _ _ c _. c.1)) c ts)
      (part (given (λ _ c. c.1) below.sum)
      (λ a u g. part (expected sign.Colon refl)
      (λ q y m. part (given (λ _ c. c.0.0.1) below.sum)
      (λ b z h. last (λ _. tree.random_in a b) (expected sign.Close refl)
      (λ r w j. (lit≤ tt, (t ∷ [], _, refl, marks k, (v, _, refl, (o.at, x), (u, _, refl, g, (y, _, refl, (q.at, m), (z, w, refl, h, (r.at, j)))))))) (λ _ i c _. opened_pair (deeper d i) (λ k. Within k a) (λ k. Within k b) c.0.0.1 c.1)))))) c ts

  -- ---- the tightest forms

  primary_refused : Reads Free (At 11) (WithinBy d) n refuse
  primary_refused = refuses (zero_sample d 11 (lit≤ tt))

  primary_at : Given Free → (t : Token) (ts : List Token) (k : TokenKind) → t.kind ≡ k → Shows (At 11) (WithinBy d) n (t ∷ ts) (primary_by n d expr_in step_in k (t ∷ ts))
  primary_at c t ts (kind.Number m) e = (t ∷ [], refl, (lit≤ tt, (t.at, ap (λ x. token x t.at ∷ []) e)), (λ b. tt))
  primary_at c t ts (kind.Name m) e = named_reads.explains c (t ∷ ts)
  primary_at c t ts (kind.Text m) e = primary_refused.explains c (t ∷ ts)
  primary_at c t ts (kind.Sign sign.True) e = (t ∷ [], refl, (lit≤ tt, marks e), (λ b. tt))
  primary_at c t ts (kind.Sign sign.False) e = (t ∷ [], refl, (lit≤ tt, marks e), (λ b. tt))
  primary_at c t ts (kind.Sign sign.Dollar) e = interpolated_from c t ts e
  primary_at c t ts (kind.Sign sign.Open) e = grouped_reads.explains c (t ∷ ts)
  primary_at c t ts (kind.Sign sign.Println) e = printed_from c t ts e
  primary_at c t ts (kind.Sign sign.Error) e = failing_from c t ts e
  primary_at c t ts (kind.Sign sign.Channel) e = channelled_from c t ts e
  primary_at c t ts (kind.Sign sign.Atomic) e = atomic_from c t ts e
  primary_at c t ts (kind.Sign sign.TypeMin) e = limit_from sign.TypeMin tree.least refl (λ w x. (lit≤ tt, x)) (λ b r. r) c t ts e
  primary_at c t ts (kind.Sign sign.TypeMax) e = limit_from sign.TypeMax tree.greatest refl (λ w x. (lit≤ tt, x)) (λ b r. r) c t ts e
  primary_at c t ts (kind.Sign sign.Rand) e = drawn_from c t ts e
  primary_at c t ts (kind.Sign s) e = primary_refused.explains c (t ∷ ts)

  pub primary_reads : Reads Free (At 11) (WithinBy d) n (primary n d expr_in step_in)
  unfolding primary
  primary_reads = kinds (primary_by n d expr_in step_in) (zero_sample d 11 (lit≤ tt)) primary_at (λ c. primary_refused.explains c [])
