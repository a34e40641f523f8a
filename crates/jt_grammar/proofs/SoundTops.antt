-- What stands between two separators of a script explains: directives, constants, functions and statements.
use Rattle.std.proofs.Common.{◌≡◌, ℕ, suc, ◌-◌, Bool, true, false, true≢false, List, [], ◌∷◌, ◌++◌, length, Ok, Err, Some, refl, sym, ap, subst, ◌∙◌, append_assoc, append-nil, length-append, arith, lit≤}
use Rattle.jt_syntax.specs.Tree.{Tree, Trees, Step, Steps, Form, TopTree}
use Rattle.jt_syntax.specs.Tree as tree
use Rattle.jt_syntax.specs.declared.script.Identifier.{Identifier}
use Rattle.jt_syntax.specs.declared.token.Sign.TheVariants as sign
use Rattle.jt_syntax.specs.declared.token.Token.{Token}
use Rattle.jt_syntax.specs.declared.token.TokenKind.{TokenKind}
use Rattle.jt_syntax.specs.declared.token.TokenKind.TheVariants as kind
use Rattle.jt_grammar.specs.declared.Level.{Level}
use Rattle.jt_grammar.specs.declared.Target.{Target}
use Rattle.jt_grammar.specs.declared.Target.TheVariants as targets
use Rattle.jt_grammar.specs.Grammar.{token, Mark, Word, At, Listed, Commas, StepSpells, Tail, MoreNames, Names, FormSpells, StartsAt, TopSpells}
use Rattle.jt_grammar.specs.Joined.{Unopened}
use Rattle.jt_grammar.specs.Nesting.{Opened, Opens, AllWithin, StepsWithin, FormWithin}
use Rattle.jt_grammar.specs.Reader.{unexpected, deep, spent, Outcome, Parser, and_then, ◌>>=◌, ◌>>◌, pure, by_kind, place_of, word, expect, opening, parameters, step_target, whole, tail, stepped, using_read, constant_read, names, function_read, short_by, shortened, form_by, topped}
use Rattle.jt_grammar.proofs.CompleteBlocks.{step_first}
use Rattle.jt_grammar.proofs.Steps.{Nesting, Both, Begins, Always, FitsBy, fits_whole, fits-after, Tells, Shows, Anyhow, tells_more, After, Finishes, finish_any, seq_by}
use Rattle.jt_grammar.proofs.SoundParts.{Sample, Given, And, Reads, given, part, done, last, deeper, Room, room, room_is, Free, Sits, expected, skipped, From, either, kinds, word_tells, word_reads, opening_tells, opened_map, opened_pair}
use Rattle.jt_grammar.proofs.SoundLists.{comma_list_reads}
use Rattle.jt_grammar.proofs.SoundCalls.{WithinBy, Below, marks}
use Rattle.jt_grammar.proofs.SoundBlocks.{InnerSteps, inner_tail}
use Rattle.jt_grammar.proofs.SoundMacros.{whole_reads}
use Rattle.jt_grammar.proofs.SoundSteps.{StepBy, mapped_is, none-some, some-same, IsCallOf, no_function, function_is, stepped_reads}

-- ---- arguments that are names

more_names : (es : Trees) (is : List Identifier) (w : List Token) → parameters es ≡ Some is → Commas 1 es w → MoreNames is w
more_names tree.no_trees is w e f = subst (λ z. MoreNames z w) (some-same [] is e) f
more_names (tree.tree (tree.name i) es) is w e f =
    let x = mapped_is i (parameters es) is e in
    subst (λ z. MoreNames z w) (sym x.2) (f.0, f.1, f.2, f.3, (f.4.0, f.4.1, f.4.2, f.4.3.1, more_names es x.0 f.4.1 x.1 f.4.4))
more_names (tree.tree _ es) is w e f = none-some is e

names_are : (es : Trees) (is : List Identifier) (w : List Token) → parameters es ≡ Some is → Listed 1 es w → Names is w
names_are tree.no_trees is w e f = subst (λ z. Names z w) (some-same [] is e) f
names_are (tree.tree (tree.name i) es) is w e f =
    let x = mapped_is i (parameters es) is e in
    subst (λ z. Names z w) (sym x.2) (f.0, f.1, f.2, f.3.1, more_names es x.0 f.1 x.1 f.4)
names_are (tree.tree _ es) is w e f = none-some is e

-- a statement that is a call of these names
step_function : (s : Step) (i : Identifier) (is : List Identifier) → step_target s ≡ targets.Function i is → (e : Tree) × (s ≡ tree.value e) × IsCallOf e i is
step_function (tree.value e) i is h = (e, refl, function_is e i is h)
step_function (tree.assign j o e) i is h = no_function i is h
step_function (tree.store j e) i is h = no_function i is h
step_function (tree.jump j) i is h = no_function i is h
step_function (tree.guard c e es j) i is h = no_function i is h

abbrev pub FormBy : ℕ → Nesting Form
FormBy d b = FormWithin (deeper d b)

function_spells : (i : Identifier) (is : List Identifier) (ss : Steps) (w v o p c s e : List Token) → Mark sign.Function w → Word i v → Mark sign.Open o → Names is p → Mark sign.Close c → Tail ss s → Mark sign.End e
    → FormSpells (tree.function i is ss) (w ++ (v ++ (o ++ (p ++ (c ++ (s ++ e))))))
function_spells i is ss w v o p c s e x1 x2 x3 x4 x5 x6 x7 = (w, _, refl, x1, (v, _, refl, x2, (o, _, refl, x3, (p, _, refl, x4, (c, _, refl, x5, (s, e, refl, x6, x7))))))

module _ (n d : ℕ) (expr_in : Level → Parser Tree) (step_in : Parser Step) (below : Below n d expr_in step_in) where
  some_form : {C : Bool → Type 0} → Sample C FormSpells (FormBy d)
  some_form = (token (kind.Number 0) 0 ∷ [], tree.plain (tree.value (tree.number 0)), (lit≤ tt, (0, refl)), (λ b c. tt), (refl, tt))

  some_front : Begins FormSpells (FormBy d false) []
  some_front = let s = some_form {C = Free} in (s.0, s.1, s.2, s.3 false tt, s.4)

  using_from : From sign.Using Free FormSpells (FormBy d) n (using_read n d expr_in step_in)
  using_from c t ts k = skipped FormSpells (FormBy d) (λ _. expect sign.BaseThreads >> pure tree.using_threads) t
      (last (λ _. tree.using_threads) (expected sign.BaseThreads refl) (λ z w m. (t ∷ [], w, refl, marks k, (z.at, m))) (λ _ _ _ _. tt)) c ts

  constant_from : From sign.Const Free FormSpells (FormBy d) n (constant_read n d expr_in step_in)
  constant_from c t ts k = skipped FormSpells (FormBy d) (λ _. word >>= λ i. expect sign.Assign >>= λ _. whole n d expr_in step_in >>= λ e. pure (tree.constant i e)) t
      (part word_reads
      (λ i v g. part (expected sign.Assign refl)
      (λ a u m. last (λ e. tree.constant i e) (whole_reads n d expr_in step_in below) (λ e w h. (t ∷ [], _, refl, marks k, (v, _, refl, g, (u, w, refl, (a.at, m), h)))) (λ _ _ _ k. k)))) c ts

  -- ---- functions

  names_reads : {C : Bool → Type 0} → Reads C Names Anyhow n (names n d expr_in step_in)
  names_reads = comma_list_reads Word Anyhow MoreNames Names Anyhow [] (λ i is. i ∷ is) refl (λ x xs w h. h) refl (λ x xs w h. h) (λ b c. tt) (λ x xs b k l. tt) n word word_reads

  room_of : (j m : ℕ) → j ≡ suc m → (b : Bool) → Room j b
  room_of j m e b = subst (λ x. Room x b) (sym e) (room m b)

  inner_room : (j m : ℕ) → j ≡ suc m → (b : Bool) → Room m b → Opened (deeper j b) Opens
  inner_room j m e b r = subst (λ x. Opened (deeper x b) Opens) (sym e) (at b r)
    where
      at : (b : Bool) → Room m b → Opened (deeper (suc m) b) Opens
      at false r = r
      at true r = r

  function_within : (m : ℕ) → d ≡ suc m → (b : Bool) → Room m b → (i : Identifier) (is : List Identifier) (ss : Steps) → InnerSteps d b ss → FormBy d b (tree.function i is ss)
  function_within m e b r i is ss k = opened_pair (deeper d b) Opens (λ j. StepsWithin j ss) (inner_room d m e b r) k

  -- behind the word, where an opener more may be open within it than in m
  module _ (m : ℕ) (is_d : d ≡ suc m) (t : Token) (w : List Token) (x : Sits sign.Function t w) where
    abbrev Front : List Token → Type 0
    Front v = FitsBy FormSpells (FormBy d) (w ++ v)

    -- from the parameters on
    parameters_read : (i : Identifier) (v : List Token) → Word i v → (o : Token) (z : List Token) → Sits sign.Open o z
        → Reads (Room m) (After z (After v (After w FormSpells))) (FormBy d) n (names n d expr_in step_in >>= λ is. expect sign.Close >>= λ _. tail n d expr_in step_in >>= λ ss. expect sign.End >>= λ _. pure (tree.function i is ss))
    parameters_read i v g o z y = part names_reads
        (λ is p h. part (expected sign.Close refl)
        (λ c q k. part (given (λ b c. room_of d m is_d b) (inner_tail n d expr_in step_in below))
        (λ ss s l. last (λ _. tree.function i is ss) (expected sign.End refl)
        (λ e r j. function_spells i is ss w v z p q s r (t.at, x) g (o.at, y) h (c.at, k) l (e.at, j)) (λ _ b c _. function_within m is_d b c.0.0.0 i is ss c.1))))

    abbrev close_end : List Token
    close_end = token (kind.Sign sign.Close) 0 ∷ token (kind.Sign sign.End) 0 ∷ []

    empty_spells : (i : Identifier) (v : List Token) → Word i v → (z : List Token) → Mark sign.Open z → FormSpells (tree.function i [] tree.no_steps) (w ++ (v ++ (z ++ close_end)))
    empty_spells i v g z y = function_spells i [] tree.no_steps w v z [] (token (kind.Sign sign.Close) 0 ∷ []) [] (token (kind.Sign sign.End) 0 ∷ []) (t.at, x) g y refl (0, refl) tt (0, refl)

    open_token : List Token
    open_token = token (kind.Sign sign.Open) 0 ∷ []

    -- an opener more is enough
    deep_within : (i : Identifier) → FormBy d true (tree.function i [] tree.no_steps)
    deep_within i = subst (λ j. FormWithin (suc j) (tree.function i [] tree.no_steps)) (sym is_d) (tt, tt)

    word_fit : (v : List Token) → v ≡ [] → Front v
    unfolding open_token
    word_fit v e = subst Front (sym e) (
      [],
      w ++ [],
      refl,
      some_front,
      subst Unopened (sym (append-nil w ∙ x)) (refl, tt),
      (token (kind.Name []) 0 ∷ (open_token ++ close_end), tree.function nobody [] tree.no_steps, subst (λ y. FormSpells (tree.function nobody [] tree.no_steps) (y ++ (token (kind.Name []) 0 ∷ (open_token ++ close_end)))) (sym (append-nil w)) (empty_spells nobody (token (kind.Name []) 0 ∷ []) refl open_token (0, refl)), deep_within nobody, (refl, (refl, (refl, (refl, tt))))),
    )
      where
        nobody : Identifier
        nobody = record { name = []; at = 0 }

    open_fit : (i : Identifier) (v : List Token) → Word i v → (z : List Token) → z ≡ [] → Front (v ++ z)
    unfolding open_token
    open_fit i v g z e = subst (λ y. Front (v ++ y)) (sym e) (subst Front (sym (append-nil v)) (
      [],
      w ++ v,
      refl,
      some_front,
      subst Unopened (sym (ap (λ y. y ++ v) x ∙ ap (λ y. token (kind.Sign sign.Function) t.at ∷ y) g)) (refl, (refl, tt)),
      (open_token ++ close_end, tree.function i [] tree.no_steps, subst (FormSpells (tree.function i [] tree.no_steps)) (sym (append_assoc w v (open_token ++ close_end))) (empty_spells i v g open_token (0, refl)), deep_within i, (refl, (refl, (refl, tt)))),
    ))

    word_finish : Finishes Word Anyhow (After w FormSpells) Anyhow
    unfolding open_token
    word_finish i v g = (open_token ++ close_end, tree.function i [] tree.no_steps, empty_spells i v g open_token (0, refl), (λ b k. tt), (refl, (refl, (refl, tt))))

    open_finish : (i : Identifier) (v : List Token) → Word i v → Finishes (Sits sign.Open) Anyhow (After v (After w FormSpells)) Anyhow
    open_finish i v g o z y = (close_end, tree.function i [] tree.no_steps, empty_spells i v g z (o.at, y), (λ b k. tt), (refl, (refl, tt)))

    abbrev from_names : Identifier → Parser Form
    from_names i = names n d expr_in step_in >>= λ is. expect sign.Close >>= λ _. tail n d expr_in step_in >>= λ ss. expect sign.End >>= λ _. pure (tree.function i is ss)

    behind_word : m ≡ d - 1 → (rest : List Token) → Tells (After w FormSpells) (Both (FormBy d)) Front n rest ((word >>= λ i. opening (d - 1) sign.Open >>= λ _. from_names i) rest)
    behind_word same rest = seq_by Word (Both Anyhow) (λ v. v ≡ []) (After w FormSpells) (Both (FormBy d)) Front n rest (word rest) (λ i. opening (d - 1) sign.Open >>= λ _. from_names i) (word_tells n rest)
        (λ i v rest' e g _. (
          n,
          omega arith,
          seq_by (Sits sign.Open) (Both (λ b o. Room (d - 1) b)) (λ z. z ≡ []) (After v (After w FormSpells)) (Both (FormBy d)) (λ z. Front (v ++ z)) n rest' (opening (d - 1) sign.Open rest') (λ _. from_names i)
              (opening_tells (d - 1) n sign.Open refl refl rest')
              (λ o z rest'' eq y r. (
                n,
                omega arith,
                tells_more (After z (After v (After w FormSpells))) (Both (FormBy d)) (FitsBy (After z (After v (After w FormSpells))) (FormBy d)) (λ q. Front (v ++ (z ++ q))) n n rest'' (from_names i rest'') (omega arith)
                    (λ q f. fits-after FormSpells (FormBy d) w (v ++ (z ++ q)) (fits-after (After w FormSpells) (FormBy d) v (z ++ q) (fits-after (After v (After w FormSpells)) (FormBy d) z q f)))
                    ((parameters_read i v g o z y).explains (λ b. subst (λ k. Room k b) (sym same) (r b)) rest''),
              ))
              (open_fit i v g) (finish_any (Sits sign.Open) Anyhow (After v (After w FormSpells)) Anyhow (open_finish i v g)),
        ))
        word_fit (finish_any Word Anyhow (After w FormSpells) Anyhow word_finish)

  function_reads : Reads Free FormSpells (FormBy d) n (function_read n d expr_in step_in)
  function_reads = record { explains = λ c ts. at ts; sample = some_form }
    where
      any : Finishes (Sits sign.Function) Anyhow FormSpells Anyhow
      any t w x = (
        token (kind.Name []) 0 ∷ token (kind.Sign sign.Open) 0 ∷ token (kind.Sign sign.Close) 0 ∷ token (kind.Sign sign.End) 0 ∷ [],
        tree.function (record { name = []; at = 0 }) [] tree.no_steps,
        function_spells (record { name = []; at = 0 }) [] tree.no_steps w (token (kind.Name []) 0 ∷ []) (token (kind.Sign sign.Open) 0 ∷ []) [] (token (kind.Sign sign.Close) 0 ∷ []) [] (token (kind.Sign sign.End) 0 ∷ []) (t.at, x) refl (0, refl) refl (0, refl) tt (0, refl),
        (λ b k. tt),
        (refl, (refl, (refl, (refl, tt)))),
      )

      behind : (t : Token) (w rest : List Token) → Sits sign.Function t w → (k : ℕ) × (d ≡ suc k)
          → Tells (After w FormSpells) (Both (FormBy d)) (λ v. FitsBy FormSpells (FormBy d) (w ++ v)) n rest ((word >>= λ i. opening (d - 1) sign.Open >>= λ _. names n d expr_in step_in >>= λ is. expect sign.Close >>= λ _. tail n d expr_in step_in >>= λ ss. expect sign.End >>= λ _. pure (tree.function i is ss)) rest)
      behind t w rest x k = behind_word k.0 k.1 t w x (omega (arith, k.1)) rest

      at : (ts : List Token) → Shows FormSpells (FormBy d) n ts (function_read n d expr_in step_in ts)
      at ts = seq_by (Sits sign.Function) (Both (λ b t. Room d b)) (λ w. w ≡ []) FormSpells (Both (FormBy d)) (FitsBy FormSpells (FormBy d)) n ts (opening d sign.Function ts) (λ _. word >>= λ i. opening (d - 1) sign.Open >>= λ _. names n d expr_in step_in >>= λ is. expect sign.Close >>= λ _. tail n d expr_in step_in >>= λ ss. expect sign.End >>= λ _. pure (tree.function i is ss))
          (opening_tells d n sign.Function refl refl ts)
          (λ t w rest e x r. (n, omega arith, behind t w rest x (room_is d (r false))))
          (λ w e. subst (FitsBy FormSpells (FormBy d)) (sym e) (fits_whole FormSpells (FormBy d) [] (let s = some_form {C = Free} in (s.0, s.1, s.2, (λ b. s.3 b tt), s.4))))
          (finish_any (Sits sign.Function) Anyhow FormSpells Anyhow any)

  -- ---- short functions, and what is a statement

  short_spells : (i : Identifier) (is : List Identifier) (es : Trees) → parameters es ≡ Some is → (w : List Token) → At 1 (tree.call i es) w → (t : Token) → t.kind ≡ kind.Sign sign.Assign → (e : Tree) (z : List Token) → At 1 e z → FormSpells (tree.short i is e) (w ++ (t ∷ z))
  short_spells i is es ps w g t k e z h =
      let r = t ∷ z in
      let x = g.1 in
      let y = x.4 in
      let q = y.4 in (
        x.0,
        x.1 ++ r,
        ap (λ l. l ++ r) x.2 ∙ append_assoc x.0 x.1 r,
        x.3,
        (
          y.0,
          y.1 ++ r,
          ap (λ l. l ++ r) y.2 ∙ append_assoc y.0 y.1 r,
          y.3,
          (q.0, q.1 ++ r, ap (λ l. l ++ r) q.2 ∙ append_assoc q.0 q.1 r, names_are es is q.0 ps q.3, (q.1, r, refl, q.4, (t ∷ [], z, refl, marks k, h))),
        ),
      )

  opened_any : (j : ℕ) (P : ℕ → Type 0) → Opened j P → Opens j
  opened_any j P h = opened_map j P (λ k. Unit {0}) (λ k x. tt) h

  module _ (s : Step) (w : List Token) (g : StepSpells s w) where
    plain_reads : Reads (And Free (StepBy d) s) (After w FormSpells) (FormBy d) n (pure (tree.plain s))
    plain_reads = done (subst (StepSpells s) (sym (append-nil w)) g) (λ b c. c.1)

    abbrev Here : Target → Type 0
    Here a = Given (And Free (StepBy d) s) → (t : Token) (ts : List Token) → t.kind ≡ kind.Sign sign.Assign → Shows (After w FormSpells) (FormBy d) n (t ∷ ts) (short_by n d expr_in step_in s a (t ∷ ts))

    to_function : (i : Identifier) (is : List Identifier) → (e : Tree) × (s ≡ tree.value e) × IsCallOf e i is → Here (targets.Function i is)
    to_function i is x c t ts k = skipped (After w FormSpells) (FormBy d) (λ _. whole n d expr_in step_in >>= λ e. pure (tree.short i is e)) t
        (last (λ e. tree.short i is e) (whole_reads n d expr_in step_in below) (λ e z h. short_spells i is x.2.0 x.2.2 w (subst (λ y. At 1 y w) x.2.1 (subst (λ y. StepSpells y w) x.1 g)) t k e z h)
        (λ e b c k. (opened_any (deeper d b) (λ j. AllWithin j x.2.0) (subst (WithinBy d b) x.2.1 (subst (λ y. StepBy d b y) x.1 c.1)), k))) c ts

    to_target : (a : Target) → step_target s ≡ a → Here a
    to_target (targets.Function i is) e c t ts k = to_function i is (step_function s i is e) c t ts k
    to_target (targets.Variable i) e c t ts k = plain_reads.explains c (t ∷ ts)
    to_target (targets.Element i) e c t ts k = plain_reads.explains c (t ∷ ts)
    to_target targets.Other e c t ts k = plain_reads.explains c (t ∷ ts)

    shortened_reads : Reads (And Free (StepBy d) s) (After w FormSpells) (FormBy d) n (shortened n d expr_in step_in s)
    shortened_reads = either sign.Assign _ _ (λ h. h) (to_target (step_target s) refl) plain_reads

  statement_reads : Reads Free FormSpells (FormBy d) n (stepped n d expr_in step_in >>= shortened n d expr_in step_in)
  statement_reads = part (stepped_reads n d expr_in step_in below) shortened_reads

  -- ---- forms, and where they stand

  form_at : Given Free → (t : Token) (ts : List Token) (k : TokenKind) → t.kind ≡ k → Shows FormSpells (FormBy d) n (t ∷ ts) (form_by n d expr_in step_in k (t ∷ ts))
  form_at c t ts (kind.Sign sign.Using) e = using_from c t ts e
  form_at c t ts (kind.Sign sign.Const) e = constant_from c t ts e
  form_at c t ts (kind.Sign sign.Function) e = function_reads.explains c (t ∷ ts)
  form_at c t ts (kind.Sign s) e = statement_reads.explains c (t ∷ ts)
  form_at c t ts (kind.Number m) e = statement_reads.explains c (t ∷ ts)
  form_at c t ts (kind.Name m) e = statement_reads.explains c (t ∷ ts)
  form_at c t ts (kind.Text m) e = statement_reads.explains c (t ∷ ts)

  form_reads : Reads Free FormSpells (FormBy d) n (by_kind (form_by n d expr_in step_in))
  form_reads = kinds (form_by n d expr_in step_in) some_form form_at (λ c. statement_reads.explains c [])

-- ---- with the place of the first token

no_token : (t : Token) (u v : List Token) → [] ≡ u ++ v → u ≡ t ∷ [] → ⊥
no_token t u v e h = omega (arith, ap length e, length-append u v, ap length h)

form_some : (f : Form) → FormSpells f [] → ⊥
form_some tree.using_threads g = no_token _ g.0 g.1 g.2 g.3.1
form_some (tree.constant i e) g = no_token _ g.0 g.1 g.2 g.3.1
form_some (tree.function i is ss) g = no_token _ g.0 g.1 g.2 g.3.1
form_some (tree.short i is e) g = no_token _ g.0 g.1 g.2 g.3
form_some (tree.plain s) g = true≢false ((step_first s).leads [] [] g tt)

form_starts : (f : Form) (w rest : List Token) → FormSpells f w → StartsAt (place_of (w ++ rest)) w
form_starts f [] rest g = form_some f g
form_starts f (t ∷ w) rest g = refl

abbrev pub TopBy : ℕ → Nesting TopTree
TopBy d b top = FormWithin (deeper d b) top.1

begins_top : (K : Form → Type 0) (w : List Token) → Begins FormSpells K w → Begins TopSpells (λ top. K top.1) w
begins_top K w b =
    let at : StartsAt (place_of ((w ++ b.0) ++ [])) (w ++ b.0) = form_starts b.1 (w ++ b.0) [] b.2 in
    (b.0, (place_of ((w ++ b.0) ++ []), b.1), (at, b.2), b.3, b.4)

fits_top : (d : ℕ) (w : List Token) → FitsBy FormSpells (FormBy d) w → FitsBy TopSpells (TopBy d) w
fits_top d w f = (f.0, f.1, f.2, begins_top (FormBy d false) f.0 f.3, f.4, begins_top (FormBy d true) w f.5)

top_of : (n d : ℕ) (ts : List Token) (o : Outcome Form) → Shows FormSpells (FormBy d) n ts o → Shows TopSpells (TopBy d) n ts (and_then o (λ f. pure (place_of ts, f)))
top_of n d ts (Ok p) x = (x.0, x.1, (subst (λ z. StartsAt (place_of z) x.0) (sym x.1) (form_starts p.0 x.0 p.1 x.2), x.2), x.3)
top_of n d ts (Err (unexpected at)) x = (x.0, x.1, x.2, x.3, fits_top d x.0 x.4)
top_of n d ts (Err (deep at)) x = (x.0, x.1, x.2, x.3, x.4, fits_top d x.0 x.5, x.6, begins_top Always (x.0 ++ x.2 ∷ []) x.7)
top_of n d ts (Err spent) x = x

pub topped_reads : (n d : ℕ) (expr_in : Level → Parser Tree) (step_in : Parser Step) → Below n d expr_in step_in → Reads Free TopSpells (TopBy d) n (topped n d expr_in step_in)
unfolding topped
topped_reads n d expr_in step_in below = record {
  explains = λ c ts. top_of n d ts (by_kind (form_by n d expr_in step_in) ts) ((form_reads n d expr_in step_in below).explains c ts);
  sample = (token (kind.Number 0) 0 ∷ [], (0, tree.plain (tree.value (tree.number 0))), (refl, (lit≤ tt, (0, refl))), (λ b c. tt), (refl, tt));
}
