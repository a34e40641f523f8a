-- What lists explain: with commas between their items, and with separators.
use Rattle.std.proofs.Common.{◌≡◌, ℕ, zero, suc, ◌+◌, ◌≤◌, ◌<◌, Bool, true, false, true≢false, List, [], ◌∷◌, ◌++◌, length, Ok, refl, sym, subst, append-nil, cond, arith}
use Rattle.jt_syntax.specs.declared.token.Sign.TheVariants as sign
use Rattle.jt_syntax.specs.declared.token.Token.{Token}
use Rattle.jt_syntax.specs.declared.token.TokenKind.{TokenKind}
use Rattle.jt_syntax.specs.declared.token.TokenKind.TheVariants as kind
use Rattle.jt_grammar.specs.Grammar.{Rule, Mark, ◌▸◌, IsSeparator, Gap, SomeGap}
use Rattle.jt_grammar.specs.Reader.{Parser, ◌>>=◌, pure, kind_of, skip, is_separator, gap, ends, commas, comma_list, list_of, body_of, tail_of}
use Rattle.jt_grammar.proofs.Steps.{Nesting, Both, Anyhow, Shows, After, after_some, seq, seq_some}
use Rattle.jt_grammar.proofs.SoundParts.{Given, And, Reads, given, part, done, last, fewer, relaxed, From, either, sits}

-- ---- with commas

module _ {A B : Type 0} {C : Bool → Type 0} (G : A → Rule) (K : Nesting A) (R W : B → Rule) (L : Nesting B) (none : B) (one : A → B → B)
    (r_none : R none []) (r_one : (x : A) (xs : B) (w : List Token) → (Mark sign.Comma ▸ G x ▸ R xs) w → R (one x xs) w)
    (w_none : W none []) (w_one : (x : A) (xs : B) (w : List Token) → (G x ▸ R xs) w → W (one x xs) w)
    (l_none : (b : Bool) → C b → L b none) (l_one : (x : A) (xs : B) (b : Bool) → K b x → L b xs → L b (one x xs))
    (turns : ℕ) (item : Parser A) (reads : Reads C G K turns item) where
  another : (k : ℕ) → suc k ≤ turns → Reads C R L k (commas item none one k) → From sign.Comma C R L (suc k) (skip >>= λ _. item >>= λ x. commas item none one k >>= λ xs. pure (one x xs))
  another k h rest c t ts e = after_some R L k (suc k) (t ∷ ts) (t ∷ []) ts ((item >>= λ x. commas item none one k >>= λ xs. pure (one x xs)) ts) (omega arith) refl (behind.explains c ts)
    where
      behind : Reads C (After (t ∷ []) R) L k (item >>= λ x. commas item none one k >>= λ xs. pure (one x xs))
      behind = part (fewer (omega (arith, h)) reads) (λ x u g. last (one x) (given (λ _ c. c.0) rest) (λ xs v r. r_one x xs (t ∷ (u ++ v)) (t ∷ [], u ++ v, refl, (t.at, sits e), (u, v, refl, g, r))) (λ xs b c k. l_one x xs b c.1 k))

  pub commas_read : (k : ℕ) → k ≤ turns → Reads C R L k (commas item none one k)
  unfolding commas
  commas_read zero h = record { explains = λ c ts. ([], ts, refl, omega arith); sample = ([], none, r_none, l_none, tt) }
  commas_read (suc k) h = either sign.Comma (skip >>= λ _. item >>= λ x. commas item none one k >>= λ xs. pure (one x xs)) (pure none) (λ h. h) (another k h (commas_read k (omega (arith, h)))) (done r_none l_none)

  pub comma_list_reads : Reads C W L turns (comma_list turns item none one)
  comma_list_reads = either sign.Close (pure none) (item >>= λ x. commas item none one turns >>= λ xs. pure (one x xs)) (λ h. h) (λ c t ts e. ([], refl, w_none, (λ b. l_none b (c b))))
      (part reads (λ x u g. last (one x) (given (λ _ c. c.0) (commas_read turns (omega arith))) (λ xs v r. w_one x xs (u ++ v) (u, v, refl, g, r)) (λ xs b c k. l_one x xs b c.1 k)))

-- ---- separators

separator-true : (k : TokenKind) → is_separator k ≡ true → IsSeparator k
separator-true (kind.Sign sign.Semicolon) e = tt
separator-true (kind.Sign sign.Newline) e = tt
separator-true (kind.Number _) e = absurd (true≢false (sym e))
separator-true (kind.Name _) e = absurd (true≢false (sym e))
separator-true (kind.Text _) e = absurd (true≢false (sym e))
separator-true (kind.Sign _) e = absurd (true≢false (sym e))

-- the separators, and whether there are any
abbrev pub GapOf : Bool → Rule
GapOf b w = Gap w × (b ≡ true → 0 < length w) × (b ≡ false → w ≡ [])

some_more : (t : Token) → is_separator t.kind ≡ true → (w : List Token) → Gap w → GapOf true (t ∷ w)
some_more t e w g = ((separator-true t.kind e, g), (λ _. omega arith), (λ x. absurd (true≢false x)))

pub gap_reads : {C : Bool → Type 0} (n : ℕ) → Reads C GapOf Anyhow n (gap n)
unfolding gap
gap_reads {C} n = record { explains = λ c ts. gap_at n ts; sample = ([], false, (tt, (λ x. absurd (true≢false (sym x))), (λ _. refl)), (λ b c. tt), tt) }
  where
    turn : (k : ℕ) → ((ts : List Token) → Shows GapOf Anyhow k ts (gap k ts)) → (ts : List Token) (b : Bool) → is_separator (kind_of ts) ≡ b → Shows GapOf Anyhow (suc k) ts (cond b ((skip >>= λ _. gap k >>= λ _. pure true) ts) (Ok (false, ts)))
    turn k rec [] true e = absurd (true≢false (sym e))
    turn k rec (t ∷ ts) true e = after_some GapOf Anyhow k (suc k) (t ∷ ts) (t ∷ []) ts ((gap k >>= λ _. pure true) ts) (omega arith) refl
        (seq GapOf Anyhow (After (t ∷ []) GapOf) Anyhow k ts (gap k ts) (λ _. pure true) (rec ts)
        (λ b w rest eq g h. ([], refl, some_more t e (w ++ []) (subst Gap (sym (append-nil w)) g.0), (λ b. tt)))
        (λ b w g. ([], true, some_more t e (w ++ []) (subst Gap (sym (append-nil w)) g.0), (λ b h. tt), tt)))
    turn k rec ts false e = ([], refl, (tt, (λ x. absurd (true≢false (sym x))), (λ _. refl)), (λ b. tt))

    gap_at : (k : ℕ) (ts : List Token) → Shows GapOf Anyhow k ts (gap k ts)
    gap_at zero ts = ([], ts, refl, omega arith)
    gap_at (suc k) ts = turn k (gap_at k) ts (is_separator (kind_of ts)) refl

-- ---- lists with separators

module _ {A B : Type 0} {C : Bool → Type 0} (G : A → Rule) (K : Nesting A) (TailOf BodyOf : B → Rule) (L : Nesting B) (none : B) (one : A → B → B)
    (tail_none : (w : List Token) → Gap w → TailOf none w) (tail_one : (x : A) (xs : B) (w : List Token) → (SomeGap ▸ G x ▸ TailOf xs) w → TailOf (one x xs) w)
    (body_none : (w : List Token) → Gap w → BodyOf none w) (body_one : (x : A) (xs : B) (w : List Token) → (Gap ▸ G x ▸ TailOf xs) w → BodyOf (one x xs) w)
    (l_none : (b : Bool) → C b → L b none) (l_one : (x : A) (xs : B) (b : Bool) → K b x → L b xs → L b (one x xs))
    (turns : ℕ) (item : Parser A) (reads : Reads C G K turns item) where
  -- behind separators
  abbrev Behind : B → Rule
  Behind xs w = ((g : List Token) → SomeGap g → TailOf xs (g ++ w)) × ((g : List Token) → Gap g → BodyOf xs (g ++ w))

  behind_none : Behind none []
  behind_none = ((λ g a. tail_none (g ++ []) (subst Gap (sym (append-nil g)) a.1)), (λ g a. body_none (g ++ []) (subst Gap (sym (append-nil g)) a)))

  behind_one : (x : A) (xs : B) (u v : List Token) → G x u → TailOf xs v → Behind (one x xs) (u ++ v)
  behind_one x xs u v a o = ((λ g b. tail_one x xs (g ++ (u ++ v)) (g, u ++ v, refl, b, (u, v, refl, a, o))), (λ g b. body_one x xs (g ++ (u ++ v)) (g, u ++ v, refl, b, (u, v, refl, a, o))))

  abbrev again : ℕ → A → Parser B
  again k x = list_of turns item none one k >>= λ xs. pure (one x xs)

  gap_then : (k : ℕ) → suc k ≤ turns → Given C → ((ts : List Token) → Shows Behind L k ts (list_of turns item none one k ts))
      → (x : A) (u : List Token) → G x u → Both K x → (b : Bool) (v rest : List Token) → GapOf b v
      → (m : ℕ) × (suc k ≤ m + length v) × Shows (After v (After u Behind)) L m rest (cond b (again k x) (pure (one x none)) rest)
  gap_then k h c rec x u g w true v rest a = (
    k,
    omega (arith, a.1 refl),
    seq Behind L (After v (After u Behind)) L k rest (list_of turns item none one k rest) (λ xs. pure (one x xs)) (rec rest)
        (λ xs z rest' eq g' w'. ([], refl, ended xs z g', (λ b. l_one x xs b (w b) (w' b))))
        (λ xs z g'. ([], one x xs, ended xs z g', (λ b. l_one x xs b (w b)), tt)),
  )
    where
      ended : (xs : B) (z : List Token) → Behind xs z → Behind (one x xs) (u ++ (v ++ (z ++ [])))
      ended xs z g' = behind_one x xs u (v ++ (z ++ [])) g (subst (λ y. TailOf xs (v ++ y)) (sym (append-nil z)) (g'.0 v (a.1 refl, a.0)))
  gap_then k h c rec x u g w false v rest a = (suc k, omega arith, ([], refl, behind_one x none u (v ++ []) g (tail_none (v ++ []) (subst Gap (sym (append-nil v)) a.0)), (λ b. l_one x none b (w b) (l_none b (c b)))))

  turn_of : (k : ℕ) → suc k ≤ turns → Given C → ((ts : List Token) → Shows Behind L k ts (list_of turns item none one k ts)) → (ts : List Token) (b : Bool)
      → Shows Behind L (suc k) ts (cond b (Ok (none, ts)) ((item >>= λ x. gap turns >>= λ apart. cond apart (again k x) (pure (one x none))) ts))
  turn_of k h c rec ts true = ([], refl, behind_none, (λ b. l_none b (c b)))
  turn_of k h c rec ts false = seq G K Behind L (suc k) ts (item ts) (λ x. gap turns >>= λ apart. cond apart (again k x) (pure (one x none))) ((fewer h reads).explains c ts)
      (λ x u rest eq g w. seq_some GapOf Anyhow (After u Behind) L (suc k) rest (gap turns rest) (λ apart. cond apart (again k x) (pure (one x none))) ((fewer h (gap_reads {C = C} turns)).explains c rest)
      (λ b v rest' eq' a tt'. gap_then k h c rec x u g w b v rest' a)
      (λ b v a. ([], one x none, behind_one x none u (v ++ []) g (tail_none (v ++ []) (subst Gap (sym (append-nil v)) a.0)), (λ i _. l_one x none i (w i) (l_none i (c i))), tt)))
      (λ x u g. ([], one x none, behind_one x none u [] g (tail_none [] tt), (λ i w. l_one x none i w (l_none i (c i))), tt))

  list_at : Given C → (k : ℕ) → k ≤ turns → (ts : List Token) → Shows Behind L k ts (list_of turns item none one k ts)
  unfolding list_of
  list_at c zero h ts = ([], ts, refl, omega arith)
  list_at c (suc k) h ts = turn_of k h c (list_at c k (omega (arith, h))) ts (ends (kind_of ts))

  list_reads : Reads C Behind L turns (list_of turns item none one turns)
  list_reads = record { explains = λ c. list_at c turns (omega arith); sample = ([], none, behind_none, l_none, tt) }

  pub body_reads : Reads C BodyOf L turns (body_of turns item none one)
  body_reads = part (gap_reads turns) (λ b g a. relaxed (λ xs w x. x.1 g a.0) (λ xs b c h. h) (given (λ _ c. c.0) list_reads))

  tail_behind : (g : List Token) (b : Bool) → GapOf b g → Reads (And C Anyhow b) (After g TailOf) L turns (cond b (list_of turns item none one turns) (pure none))
  tail_behind g true a = relaxed (λ xs w x. x.0 g (a.1 refl, a.0)) (λ xs b c h. h) (given (λ _ c. c.0) list_reads)
  tail_behind g false a = done (tail_none (g ++ []) (subst Gap (sym (append-nil g)) a.0)) (λ i c. l_none i c.0)

  pub tail_reads : Reads C TailOf L turns (tail_of turns item none one)
  tail_reads = part (gap_reads turns) (λ b g a. tail_behind g b a)
