-- What macros explain, and with them any expression.
use Rattle.std.proofs.Common.{◌≡◌, ℕ, zero, suc, Bool, true, false, cond, List, [], ◌∷◌, ◌++◌, Option, Some, None, codes, inl, refl, sym, ap, subst, ◌∙◌, append-nil, arith, lit≤}
use Rattle.std.proofs.lemmas.Slice.Eq.{bytes_eq-Decides}
use Rattle.std.specs.Str.{bytes_eq}
use Rattle.jt_syntax.specs.Tree.{Tree, Step, Steps}
use Rattle.jt_syntax.specs.Tree as tree
use Rattle.jt_syntax.specs.declared.script.Identifier.{Identifier}
use Rattle.jt_syntax.specs.declared.script.PoolName.TheVariants as pools
use Rattle.jt_syntax.specs.declared.script.Schedule.{Schedule}
use Rattle.jt_syntax.specs.declared.script.Schedule.TheVariants as schedules
use Rattle.jt_syntax.specs.declared.token.Sign.{Sign}
use Rattle.jt_syntax.specs.declared.token.Sign.TheVariants as sign
use Rattle.jt_syntax.specs.declared.token.Token.{Token}
use Rattle.jt_syntax.specs.declared.token.TokenKind.{TokenKind}
use Rattle.jt_syntax.specs.declared.token.TokenKind.TheVariants as kind
use Rattle.jt_grammar.specs.declared.Level.{Level}
use Rattle.jt_grammar.specs.declared.Level.TheVariants as levels
use Rattle.jt_grammar.specs.Grammar.{Rule, token, ◌▸◌, Mark, Letters, PoolWord, ScheduleWord, At, Spells}
use Rattle.jt_grammar.specs.Joined.{Unopened, is_last_opener}
use Rattle.jt_grammar.specs.Nesting.{Within}
use Rattle.jt_grammar.specs.Reader.{Parser, ◌>>=◌, ◌>>◌, pure, refuse, skip, on, kind_of, is, by_kind, opening, pool_by, pool, schedule_by, schedule, spawned, async_spawned, awaited, threads_of, threaded, condition, whole_by, whole}
use Rattle.jt_grammar.proofs.Signs.{is-true}
use Rattle.jt_grammar.proofs.Steps.{NoNewline, Both, Begins, begins-after, finish_more, Always, FitsBy, fits_whole, fits-after, Tells, Shows, Anyhow, tells_more, After, Finishes, finish_any, finish_fit, seq_by}
use Rattle.jt_grammar.proofs.SoundParts.{begins_sample, Given, Reads, given, part, Room, room_is, Bound, Enters, opened, last, Sits, opening_tells, opens_with, relaxed, kinds, Free}
use Rattle.jt_grammar.proofs.SoundCalls.{WithinBy, Looped, Below, zero_sample, marks}
use Rattle.jt_grammar.proofs.SoundOperators.{condition_reads}
use Rattle.jt_grammar.proofs.SoundBlocks.{blocked_reads, branched_reads, repeated_reads, looped_reads}

-- ---- one of two words behind a colon, or nothing

-- a front without openers
abbrev Quiet : {X : Type 0} → (Option X → Rule) → List Token → Type 0
Quiet G v = Unopened v × Begins G Always v

module _ {X : Type 0} (G : Option X → Rule) (x y : X) (one other : List ℕ) (none_is : G None [])
    (x_is : (w : List Token) → (Mark sign.Colon ▸ Letters one) w → G (Some x) w) (y_is : (w : List Token) → (Mark sign.Colon ▸ Letters other) w → G (Some y) w) where
  abbrev chosen_word : List ℕ → Parser (Option X)
  chosen_word m = cond (bytes_eq m one) (skip >> pure (Some x)) (cond (bytes_eq m other) (skip >> pure (Some y)) refuse)

  colon_word : (w : List ℕ) (t z : Token) → t.kind ≡ kind.Sign sign.Colon → z.kind ≡ kind.Name w → (Mark sign.Colon ▸ Letters w) (t ∷ z ∷ [])
  colon_word w t z e k = (t ∷ [], z ∷ [], refl, marks e, (z.at, ap (λ x. token x z.at ∷ []) k))

  abbrev Behind : Token → ℕ → List Token → Parser (Option X) → Type 0
  Behind t n ts p = Tells G (Both Anyhow) (Quiet G) n (t ∷ ts) (p ts)

  no_word : (t : Token) → t.kind ≡ kind.Sign sign.Colon → (n : ℕ) (ts : List Token) → Behind t n ts refuse
  no_word t e n ts = (t ∷ [], ts, refl, refl, ((ap is_last_opener e, tt), (token (kind.Name one) 0 ∷ [], Some x, x_is (t ∷ token (kind.Name one) 0 ∷ []) (colon_word one t (token (kind.Name one) 0) e refl), tt, (refl, tt))))

  word_at : (t : Token) → t.kind ≡ kind.Sign sign.Colon → (n : ℕ) (z : Token) (ts : List Token) (m : List ℕ) → z.kind ≡ kind.Name m → Behind t n (z ∷ ts) (chosen_word m)
  word_at t e n z ts m k = first (bytes_eq m one) refl
    where
      second : (b : Bool) → bytes_eq m other ≡ b → Behind t n (z ∷ ts) (cond b (skip >> pure (Some y)) refuse)
      second true h = (t ∷ z ∷ [], refl, y_is (t ∷ z ∷ []) (colon_word other t z e (k ∙ ap kind.Name ((bytes_eq-Decides m other).0 h))), (λ b. tt))
      second false h = no_word t e n (z ∷ ts)

      first : (b : Bool) → bytes_eq m one ≡ b → Behind t n (z ∷ ts) (cond b (skip >> pure (Some x)) (cond (bytes_eq m other) (skip >> pure (Some y)) refuse))
      first true h = (t ∷ z ∷ [], refl, x_is (t ∷ z ∷ []) (colon_word one t z e (k ∙ ap kind.Name ((bytes_eq-Decides m one).0 h))), (λ b. tt))
      first false h = second (bytes_eq m other) refl

  module _ (by : TokenKind → Parser (Option X)) (by_name : (m : List ℕ) → by (kind.Name m) ≡ chosen_word m) (by_sign : (s : Sign) → by (kind.Sign s) ≡ refuse) (by_number : (m : ℕ) → by (kind.Number m) ≡ refuse) (by_text : (m : List ℕ) → by (kind.Text m) ≡ refuse) where
    behind_colon : (t : Token) → t.kind ≡ kind.Sign sign.Colon → (n : ℕ) (z : Token) (ts : List Token) (k : TokenKind) → z.kind ≡ k → Behind t n (z ∷ ts) (by k)
    behind_colon t e n z ts (kind.Name m) k = subst (Behind t n (z ∷ ts)) (sym (by_name m)) (word_at t e n z ts m k)
    behind_colon t e n z ts (kind.Sign s) k = subst (Behind t n (z ∷ ts)) (sym (by_sign s)) (no_word t e n (z ∷ ts))
    behind_colon t e n z ts (kind.Number m) k = subst (Behind t n (z ∷ ts)) (sym (by_number m)) (no_word t e n (z ∷ ts))
    behind_colon t e n z ts (kind.Text m) k = subst (Behind t n (z ∷ ts)) (sym (by_text m)) (no_word t e n (z ∷ ts))

    choice_tells : (n : ℕ) (ts : List Token) (b : Bool) → is sign.Colon (kind_of ts) ≡ b → Tells G (Both Anyhow) (Quiet G) n ts (cond b ((skip >> by_kind by) ts) (pure None ts))
    choice_tells n [] true e = ([], [], refl, refl, (tt, ([], None, none_is, tt, tt)))
    choice_tells n (t ∷ []) true e = subst (Behind t n []) (sym (by_sign sign.Stop)) (no_word t (is-true sign.Colon t.kind e) n [])
    choice_tells n (t ∷ z ∷ ts) true e = behind_colon t (is-true sign.Colon t.kind e) n z ts z.kind refl
    choice_tells n ts false e = ([], refl, none_is, (λ b. tt))

    pub choice : (n : ℕ) (ts : List Token) → Tells G (Both Anyhow) (Quiet G) n ts (on sign.Colon (skip >> by_kind by) (pure None) ts)
    choice n ts = choice_tells n ts (is sign.Colon (kind_of ts)) refl

unopened-append : (u v : List Token) → Unopened u → Unopened v → Unopened (u ++ v)
unopened-append [] v a b = b
unopened-append (t ∷ u) v a b = (a.0, unopened-append u v a.1 b)

schedule_unopened : (s : Option Schedule) (v : List Token) → ScheduleWord s v → Unopened v
schedule_unopened None v g = subst Unopened (sym g) tt
schedule_unopened (Some s) v g = subst Unopened (sym (g.2 ∙ (ap (λ y. y ++ g.1) g.3.1 ∙ ap (λ y. token (kind.Sign sign.Colon) g.3.0 ∷ y) g.4.1))) (refl, (refl, tt))

-- a loop over a range of numbers
nobody : Identifier
nobody = record { name = []; at = 0 }

some_loop : List Token
some_loop = token (kind.Sign sign.For) 0 ∷ token (kind.Name []) 0 ∷ token (kind.Sign sign.In) 0 ∷ token (kind.Number 0) 0 ∷ token (kind.Sign sign.Colon) 0 ∷ token (kind.Number 0) 0 ∷ token (kind.Sign sign.End) 0 ∷ []

some_loop_is : Looped (tree.for_range nobody (tree.number 0) (tree.number 0) tree.no_steps) some_loop
unfolding some_loop nobody
some_loop_is = (tt, (token (kind.Sign sign.For) 0 ∷ [], _, refl, (0, refl), (token (kind.Name []) 0 ∷ [], _, refl, refl, (token (kind.Sign sign.In) 0 ∷ [], _, refl, inl (0, refl), (token (kind.Number 0) 0 ∷ [], _, refl, (lit≤ tt, (0, refl)), (token (kind.Sign sign.Colon) 0 ∷ [], _, refl, (0, refl), (token (kind.Number 0) 0 ∷ [], _, refl, (lit≤ tt, (0, refl)), ([], token (kind.Sign sign.End) 0 ∷ [], refl, tt, (0, refl)))))))))

some_loop_no_newline : NoNewline some_loop
unfolding some_loop
some_loop_no_newline = (refl, (refl, (refl, (refl, (refl, (refl, (refl, tt)))))))

module _ (n d : ℕ) (expr_in : Level → Parser Tree) (step_in : Parser Step) (below : Below n d expr_in step_in) where
  abbrev pool_tells : (ts : List Token) → Tells PoolWord (Both Anyhow) (Quiet PoolWord) n ts (on sign.Colon (skip >> by_kind (pool_by n d expr_in step_in)) (pure None) ts)
  pool_tells = choice PoolWord pools.Default pools.Interactive (codes "default") (codes "interactive") refl (λ w h. h) (λ w h. h) (pool_by n d expr_in step_in) (λ m. refl) (λ s. refl) (λ m. refl) (λ m. refl) n

  pool_reads : {C : Bool → Type 0} → Reads C PoolWord Anyhow n (pool n d expr_in step_in)
  unfolding pool
  pool_reads = record {
    explains = λ c ts. tells_more PoolWord (Both Anyhow) (Quiet PoolWord) (FitsBy PoolWord Anyhow) n n ts (on sign.Colon (skip >> by_kind (pool_by n d expr_in step_in)) (pure None) ts) (omega arith) (λ w q. fits_whole PoolWord Anyhow w (q.1.0, q.1.1, q.1.2, (λ b. tt), q.1.4)) (pool_tells ts);
    sample = ([], None, refl, (λ b c. tt), tt);
  }

  schedule_tells : (ts : List Token) → Tells ScheduleWord (Both Anyhow) (Quiet ScheduleWord) n ts (schedule n d expr_in step_in ts)
  unfolding schedule
  schedule_tells = choice ScheduleWord schedules.Static schedules.Dynamic (codes "static") (codes "dynamic") refl (λ w h. h) (λ w h. h) (schedule_by n d expr_in step_in) (λ m. refl) (λ s. refl) (λ m. refl) (λ m. refl) n

  spawned_reads : Reads Free (At 1) (WithinBy d) n (spawned n d expr_in step_in)
  spawned_reads = opened (opens_with sign.Spawn refl refl) (zero_sample d 1 (lit≤ tt))
      (λ t v x. part pool_reads
      (λ p u g. last (λ e. tree.spawn t.at p e) (given (λ _ c. c.0.1) below.whole) (λ e w h. (lit≤ tt, (v, _, refl, x, (u, w, refl, g, h)))) (λ _ _ _ k. k)))

  async_reads : Reads Free (At 1) (WithinBy d) n (async_spawned n d expr_in step_in)
  async_reads = opened (opens_with sign.Async refl refl) (zero_sample d 1 (lit≤ tt))
      (λ t v x. last (λ e. tree.async t.at e) (given (λ _ c. c.1) below.whole) (λ e w h. (lit≤ tt, (v, w, refl, x, h))) (λ _ _ _ k. k))

  awaited_reads : Reads Free (At 1) (WithinBy d) n (awaited n d expr_in step_in)
  awaited_reads = opened (opens_with sign.Sync refl refl) (zero_sample d 1 (lit≤ tt))
      (λ t v x. last (λ e. tree.sync e) (given (λ _ c. c.1) below.whole) (λ e w h. (lit≤ tt, (v, w, refl, (t.at, x), h))) (λ _ _ _ k. k))

  -- ---- `@threads`, which demands a `for`

  threads_is : (t : Token) (w : List Token) → Sits sign.Threads t w → (s : Option Schedule) (u : List Token) → ScheduleWord s u → (i : Identifier) (a b : Tree) (ss : Steps) (v : List Token) → Spells (tree.for_range i a b ss) v
      → At 1 (tree.threads t.at s i a b ss) (w ++ (u ++ v))
  threads_is t w x s u g i a b ss v h = (lit≤ tt, (w, _, refl, x, (u, v, refl, g, h)))

  threads_within : (j : ℕ) (b : Bool) (at : ℕ) (s : Option Schedule) (i : Identifier) (x y : Tree) (ss : Steps) → WithinBy j b (tree.for_range i x y ss) → WithinBy (suc j) b (tree.threads at s i x y ss)
  threads_within j false at s i x y ss h = h
  threads_within j true at s i x y ss h = h

  -- behind the word, where one opener more may be open within it than j
  module _ (j : ℕ) (loop : Enters Looped (WithinBy j) j n (expr_in levels.Loop)) (t : Token) (w : List Token) (x : Sits sign.Threads t w) where
    abbrev Front : List Token → Type 0
    Front v = FitsBy (At 1) (WithinBy (suc j)) (w ++ v)

    threads_finish : Finishes ScheduleWord Anyhow (After w (At 1)) (λ b. Within (suc (suc j)))
    threads_finish s v g = (some_loop, tree.threads t.at s nobody (tree.number 0) (tree.number 0) tree.no_steps, threads_is t w x s v g nobody (tree.number 0) (tree.number 0) tree.no_steps some_loop some_loop_is.1, (λ b k. (tt, tt, tt)), some_loop_no_newline)

    threads_fit : (v : List Token) → Quiet ScheduleWord v → Front v
    threads_fit v q = (
      [],
      w ++ v,
      refl,
      (token (kind.Number 0) 0 ∷ [], tree.number 0, (lit≤ tt, (0, refl)), tt, (refl, tt)),
      unopened-append w v (subst Unopened (sym x) (refl, tt)) q.0,
      begins-after (At 1) (Within (suc (suc j))) w v (finish_more ScheduleWord Anyhow (After w (At 1)) (λ b. Within (suc (suc j))) threads_finish v q.1),
    )

    loop_finish : (s : Option Schedule) (v : List Token) → ScheduleWord s v → Finishes Looped (WithinBy j) (After v (After w (At 1))) (WithinBy (suc j))
    loop_finish s v g (tree.for_range i a b ss) z l = ([], tree.threads t.at s i a b ss, threads_is t w x s v g i a b ss (z ++ []) (subst (Spells (tree.for_range i a b ss)) (sym (append-nil z)) l.1), (λ c k. threads_within j c t.at s i a b ss k), tt)
    loop_finish s v g _ z l = absurd l.0

    loop_read : (s : Option Schedule) (v : List Token) → ScheduleWord s v → (e : Tree) (z rest : List Token) → Looped e z → Both (WithinBy j) e
        → Tells (After z (After v (After w (At 1)))) (Both (WithinBy (suc j))) (λ y. Front (v ++ (z ++ y))) n rest (threads_of n d expr_in step_in t.at s e rest)
    loop_read s v g (tree.for_range i a b ss) z rest l k = ([], refl, threads_is t w x s v g i a b ss (z ++ []) (subst (Spells (tree.for_range i a b ss)) (sym (append-nil z)) l.1), (λ c. threads_within j c t.at s i a b ss (k c)))
    loop_read s v g _ z rest l k = absurd l.0

    loop_fit : (s : Option Schedule) (v : List Token) → ScheduleWord s v → (z : List Token) → Bound Looped (WithinBy j) j z → Front (v ++ z)
    loop_fit s v g z h = bound_front j z h (λ e. threads_fit v (schedule_unopened s v g, ([], s, subst (ScheduleWord s) (sym (append-nil v)) g, tt, tt)))
        (λ f. fits-after (At 1) (WithinBy (suc j)) w (v ++ z) (fits-after (After w (At 1)) (WithinBy (suc j)) v z (finish_fit Looped (WithinBy j) (After v (After w (At 1))) (WithinBy (suc j)) (loop_finish s v g) z f)))
      where
        bound_front : (i : ℕ) (z : List Token) → Bound Looped (WithinBy j) i z → (z ≡ [] → Front v) → (FitsBy Looped (WithinBy j) z → Front (v ++ z)) → Front (v ++ z)
        bound_front zero z e f g = subst (λ y. Front (v ++ y)) (sym e) (subst Front (sym (append-nil v)) (f e))
        bound_front (suc i) z e f g = g e

    threads_behind : (rest : List Token) → Tells (After w (At 1)) (Both (WithinBy (suc j))) Front n rest ((schedule n d expr_in step_in >>= λ s. expr_in levels.Loop >>= threads_of n d expr_in step_in t.at s) rest)
    threads_behind rest = seq_by ScheduleWord (Both Anyhow) (Quiet ScheduleWord) (After w (At 1)) (Both (WithinBy (suc j))) Front n rest (schedule n d expr_in step_in rest) (λ s. expr_in levels.Loop >>= threads_of n d expr_in step_in t.at s)
        (schedule_tells rest)
        (λ s v rest' e g _. (
          n,
          omega arith,
          seq_by Looped (Both (WithinBy j)) (Bound Looped (WithinBy j) j) (After v (After w (At 1))) (Both (WithinBy (suc j))) (λ z. Front (v ++ z)) n rest' (expr_in levels.Loop rest') (threads_of n d expr_in step_in t.at s)
              (loop.explains rest') (λ e z rest'' eq l k. (n, omega arith, loop_read s v g e z rest'' l k)) (loop_fit s v g) (finish_any Looped (WithinBy j) (After v (After w (At 1))) (WithinBy (suc j)) (loop_finish s v g)),
        ))
        threads_fit
        (finish_any ScheduleWord Anyhow (After w (At 1)) (λ b. Within (suc (suc j))) threads_finish)

  threaded_reads : Reads Free (At 1) (WithinBy d) n (threaded n d expr_in step_in)
  threaded_reads = record { explains = λ c ts. at ts; sample = zero_sample d 1 (lit≤ tt) }
    where
      any : Finishes (Sits sign.Threads) Anyhow (At 1) Anyhow
      any t w x = (some_loop, tree.threads t.at None nobody (tree.number 0) (tree.number 0) tree.no_steps, threads_is t w x None [] refl nobody (tree.number 0) (tree.number 0) tree.no_steps some_loop some_loop_is.1, (λ b k. tt), some_loop_no_newline)

      behind : (t : Token) (w rest : List Token) → Sits sign.Threads t w → (k : ℕ) × (d ≡ suc k) → Tells (After w (At 1)) (Both (WithinBy d)) (λ v. FitsBy (At 1) (WithinBy d) (w ++ v)) n rest ((schedule n d expr_in step_in >>= λ s. expr_in levels.Loop >>= threads_of n d expr_in step_in t.at s) rest)
      behind t w rest x k = subst (λ j. Tells (After w (At 1)) (Both (WithinBy j)) (λ v. FitsBy (At 1) (WithinBy j) (w ++ v)) n rest ((schedule n d expr_in step_in >>= λ s. expr_in levels.Loop >>= threads_of n d expr_in step_in t.at s) rest)) (sym k.1) (threads_behind k.0 (below.loop k.0 k.1) t w x rest)

      at : (ts : List Token) → Shows (At 1) (WithinBy d) n ts (threaded n d expr_in step_in ts)
      at ts = seq_by (Sits sign.Threads) (Both (λ b t. Room d b)) (λ w. w ≡ []) (At 1) (Both (WithinBy d)) (FitsBy (At 1) (WithinBy d)) n ts (opening d sign.Threads ts) (λ t. schedule n d expr_in step_in >>= λ s. expr_in levels.Loop >>= threads_of n d expr_in step_in t.at s)
          (opening_tells d n sign.Threads refl refl ts)
          (λ t w rest e x r. (n, omega arith, behind t w rest x (room_is d (r false))))
          (λ w e. subst (FitsBy (At 1) (WithinBy d)) (sym e) (fits_whole (At 1) (WithinBy d) [] (begins_sample (zero_sample {C = Free} d 1 (lit≤ tt)) (λ b. tt))))
          (finish_any (Sits sign.Threads) Anyhow (At 1) Anyhow any)

  -- ---- any expression

  condition_whole : Reads Free (At 1) (WithinBy d) n (condition n d expr_in step_in)
  condition_whole = relaxed (λ e w a. (omega (arith, a.0), a.1)) (λ e b c k. k) (condition_reads n d expr_in step_in below)

  whole_at : Given Free → (t : Token) (ts : List Token) (k : TokenKind) → t.kind ≡ k → Shows (At 1) (WithinBy d) n (t ∷ ts) (whole_by n d expr_in step_in k (t ∷ ts))
  whole_at c t ts (kind.Sign sign.Begin) e = (blocked_reads n d expr_in step_in below).explains c (t ∷ ts)
  whole_at c t ts (kind.Sign sign.If) e = (branched_reads n d expr_in step_in below).explains c (t ∷ ts)
  whole_at c t ts (kind.Sign sign.While) e = (repeated_reads n d expr_in step_in below).explains c (t ∷ ts)
  whole_at c t ts (kind.Sign sign.For) e = (looped_reads n d expr_in step_in below).explains c (t ∷ ts)
  whole_at c t ts (kind.Sign sign.Spawn) e = spawned_reads.explains c (t ∷ ts)
  whole_at c t ts (kind.Sign sign.Async) e = async_reads.explains c (t ∷ ts)
  whole_at c t ts (kind.Sign sign.Sync) e = awaited_reads.explains c (t ∷ ts)
  whole_at c t ts (kind.Sign sign.Threads) e = threaded_reads.explains c (t ∷ ts)
  whole_at c t ts (kind.Sign s) e = condition_whole.explains c (t ∷ ts)
  whole_at c t ts (kind.Number m) e = condition_whole.explains c (t ∷ ts)
  whole_at c t ts (kind.Name m) e = condition_whole.explains c (t ∷ ts)
  whole_at c t ts (kind.Text m) e = condition_whole.explains c (t ∷ ts)

  whole_free : Reads Free (At 1) (WithinBy d) n (whole n d expr_in step_in)
  unfolding whole
  whole_free = kinds (whole_by n d expr_in step_in) (zero_sample d 1 (lit≤ tt)) whole_at (λ c. condition_whole.explains c [])

  pub whole_reads : {C : Bool → Type 0} → Reads C (At 1) (WithinBy d) n (whole n d expr_in step_in)
  whole_reads = given (λ b c. tt) whole_free
