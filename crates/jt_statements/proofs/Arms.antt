-- The loop over the arms of an `if`, beside the reader's recursion.
use Rattle.std.proofs.Common.{◌≡◌, ℕ, zero, suc, ◌+◌, ◌-◌, ◌<◌, ◌≤◌, Bool, true, false, List, [], ◌∷◌, ◌++◌, map, Ok, Err, cond, refl, sym, ap, ◌∙◌}
use Rattle.std.proofs.lemmas.List.{map-append}
use Rattle.jt_syntax.specs.Tree.{Tree, Arms, Step, Steps}
use Rattle.jt_syntax.specs.Tree as tree
use Rattle.jt_syntax.specs.View.{arm_view, arms_of}
use Rattle.jt_syntax.specs.declared.script.Arm.{Arm}
use Rattle.jt_syntax.specs.declared.token.Sign.TheVariants as sign
use Rattle.jt_syntax.specs.declared.token.Token.{Token}
use Rattle.jt_grammar.specs.declared.Level.{Level}
use Rattle.jt_grammar.specs.declared.Level.TheVariants as levels
use Rattle.jt_grammar.specs.Reader.{Outcome, Parser, spent, and_then, ◌>>=◌, pure, kind_of, is, skip, body, tail, arms, arms_from}
use Rattle.jt_cursor.specs.declared.failure.Failure.{Failure}
use Rattle.jt_cursor.specs.declared.failure.Failure.TheVariants as failure
use Rattle.jt_statements.specs.Arms.{arm_read, last_read}
use Rattle.jt_cursor.specs.Parses.{Fails}
use Rattle.jt_cursor.proofs.Starts.{one_more, no_more}

arms-then : (found : List (Tree × Steps)) (a : Tree × Steps) (rest : Arms) → arms_of (found ++ a ∷ []) rest ≡ arms_of found (tree.arm a.0 a.1 rest)
arms-then [] a rest = refl
arms-then (x ∷ found) a rest = ap (tree.arm x.0 x.1) (arms-then found a rest)

behind : List (Tree × Steps) → Outcome Arms → Outcome Arms
behind found o = and_then o (λ rest. pure (arms_of found rest))

behind_arm : (found : List (Tree × Steps)) (c : Tree) (ss : Steps) (o : Outcome Arms) → behind (found ++ (c, ss) ∷ []) o ≡ behind found (and_then o (λ rest. pure (tree.arm c ss rest)))
unfolding behind
behind_arm found c ss (Ok p) = ap (λ z. Ok (z, p.1)) (arms-then found (c, ss) p.0)
behind_arm found c ss (Err e) = refl

behind_none : (o : Outcome Arms) → behind [] o ≡ o
unfolding behind
behind_none (Ok p) = refl
behind_none (Err e) = refl

module _ (turns depth : ℕ) (expr_in : Level → Parser Tree) (step_in : Parser Step) where
  abbrev from : ℕ → List (Tree × Steps) → Parser Arms
  from = arms_from turns depth expr_in step_in

  abbrev plain : ℕ → Parser Arms
  plain = arms turns depth expr_in step_in

  abbrev condition : Parser Tree
  condition = expr_in levels.Condition

  abbrev rest_body : Parser Steps
  rest_body = tail turns depth expr_in step_in

  abbrev else_body : Parser Steps
  else_body = body turns depth expr_in step_in

  module _ (n : ℕ) (rec : (found : List (Tree × Steps)) (ts : List Token) → from n found ts ≡ behind found (plain n ts)) where
    after_tail : (found : List (Tree × Steps)) (c : Tree) (o : Outcome Steps)
        → and_then o (λ ss. from n (found ++ (c, ss) ∷ [])) ≡ behind found (and_then o (λ ss. plain n >>= λ rest. pure (tree.arm c ss rest)))
    unfolding behind
    after_tail found c (Ok p) = rec (found ++ (c, p.0) ∷ []) p.1 ∙ behind_arm found c p.0 (plain n p.1)
    after_tail found c (Err e) = refl

    after_condition : (found : List (Tree × Steps)) (o : Outcome Tree)
        → and_then o (λ c. rest_body >>= λ ss. from n (found ++ (c, ss) ∷ [])) ≡ behind found (and_then o (λ c. rest_body >>= λ ss. plain n >>= λ rest. pure (tree.arm c ss rest)))
    unfolding behind
    after_condition found (Ok p) = after_tail found p.0 (rest_body p.1)
    after_condition found (Err e) = refl

    after_skip : (found : List (Tree × Steps)) (o : Outcome Token)
        → and_then o (λ _. condition >>= λ c. rest_body >>= λ ss. from n (found ++ (c, ss) ∷ [])) ≡ behind found (and_then o (λ _. condition >>= λ c. rest_body >>= λ ss. plain n >>= λ rest. pure (tree.arm c ss rest)))
    unfolding behind
    after_skip found (Ok p) = after_condition found (condition p.1)
    after_skip found (Err e) = refl

    after_body : (found : List (Tree × Steps)) (o : Outcome Steps) → and_then o (λ ss. pure (arms_of found (tree.otherwise ss))) ≡ behind found (and_then o (λ ss. pure (tree.otherwise ss)))
    unfolding behind
    after_body found (Ok p) = refl
    after_body found (Err e) = refl

    after_else : (found : List (Tree × Steps)) (o : Outcome Token) → and_then o (λ _. else_body >>= λ ss. pure (arms_of found (tree.otherwise ss))) ≡ behind found (and_then o (λ _. else_body >>= λ ss. pure (tree.otherwise ss)))
    unfolding behind
    after_else found (Ok p) = after_body found (else_body p.1)
    after_else found (Err e) = refl

    by_else : (found : List (Tree × Steps)) (ts : List Token) (b : Bool)
        → cond b (and_then (skip ts) (λ _. else_body >>= λ ss. pure (arms_of found (tree.otherwise ss)))) (Ok (arms_of found tree.no_arms, ts))
        ≡ behind found (cond b (and_then (skip ts) (λ _. else_body >>= λ ss. pure (tree.otherwise ss))) (Ok (tree.no_arms, ts)))
    unfolding behind
    by_else found ts true = after_else found (skip ts)
    by_else found ts false = refl

    by_elseif : (found : List (Tree × Steps)) (ts : List Token) (b d : Bool)
        → cond b (and_then (skip ts) (λ _. condition >>= λ c. rest_body >>= λ ss. from n (found ++ (c, ss) ∷ []))) (cond d (and_then (skip ts) (λ _. else_body >>= λ ss. pure (arms_of found (tree.otherwise ss)))) (Ok (arms_of found tree.no_arms, ts)))
        ≡ behind found (cond b (and_then (skip ts) (λ _. condition >>= λ c. rest_body >>= λ ss. plain n >>= λ rest. pure (tree.arm c ss rest))) (cond d (and_then (skip ts) (λ _. else_body >>= λ ss. pure (tree.otherwise ss))) (Ok (tree.no_arms, ts))))
    unfolding behind
    by_elseif found ts true d = after_skip found (skip ts)
    by_elseif found ts false d = by_else found ts d

  arms_found : (n : ℕ) (found : List (Tree × Steps)) (ts : List Token) → from n found ts ≡ behind found (plain n ts)
  unfolding arms arms_from behind
  arms_found zero found ts = refl
  arms_found (suc n) found ts = by_elseif n (arms_found n) found ts (is sign.ElseIf (kind_of ts)) (is sign.Else (kind_of ts))

  pub arms_start : (n : ℕ) (ts : List Token) → arms_from turns depth expr_in step_in n [] ts ≡ arms turns depth expr_in step_in n ts
  arms_start n ts = arms_found n [] ts ∙ behind_none (plain n ts)

  -- a turn of the loop
  module _ (n at : ℕ) (found : List Arm) (ts : List Token) (o : Outcome Arms) (inv : o ≡ from (n - at) (map arm_view found) ts) where
    pub arms_spent : n ≤ at → o ≡ Err spent
    unfolding arms_from
    arms_spent done = no_more (λ k. from k (map arm_view found) ts) n at done inv

    module _ (below : at < n) where
      turn : o ≡ from (suc (n - (at + 1))) (map arm_view found) ts
      turn = one_more (λ k. from k (map arm_view found) ts) n at below inv

      module _ (no_elseif : is sign.ElseIf (kind_of ts) ≡ false) where
        behind_last : (b : Bool) (fs : List (Tree × Steps)) → cond b (and_then (skip ts) (λ _. else_body >>= λ ss. pure (arms_of fs (tree.otherwise ss)))) (Ok (arms_of fs tree.no_arms, ts))
            ≡ behind fs (cond b (and_then (skip ts) (λ _. else_body >>= λ ss. pure (tree.otherwise ss))) (Ok (tree.no_arms, ts)))
        unfolding behind
        behind_last true fs = after_else 0 (λ found ts. arms_found 0 found ts) fs (skip ts)
        behind_last false fs = refl

        last_turn : o ≡ behind (map arm_view found) (last_read turns depth expr_in step_in ts)
        unfolding arms_from
        last_turn = turn ∙ rw no_elseif (behind_last (is sign.Else (kind_of ts)) (map arm_view found))

        pub arms_done : (last : Arms) (ts1 : List Token) → last_read turns depth expr_in step_in ts ≡ Ok (last, ts1) → o ≡ Ok (arms_of (map arm_view found) last, ts1)
        unfolding behind
        arms_done last ts1 reads = last_turn ∙ ap (behind (map arm_view found)) reads

        pub last_refused : (f : Failure) → Fails f (last_read turns depth expr_in step_in ts) → Fails f o
        unfolding behind
        last_refused failure.OutOfMemory h = tt
        last_refused (failure.Unexpected left) h = last_turn ∙ ap (behind (map arm_view found)) h
        last_refused (failure.TooDeep left) h = last_turn ∙ ap (behind (map arm_view found)) h
        last_refused failure.Spent h = last_turn ∙ ap (behind (map arm_view found)) h

      module _ (elseif : is sign.ElseIf (kind_of ts) ≡ true) where
        arm_turn : o ≡ and_then (skip ts) (λ _. condition >>= λ c. rest_body >>= λ ss. from (n - (at + 1)) (map arm_view found ++ (c, ss) ∷ []))
        unfolding arms_from
        arm_turn = turn ∙ rw elseif

        pub skip_refused : (f : Failure) → Fails f (skip ts) → Fails f o
        skip_refused failure.OutOfMemory h = tt
        skip_refused (failure.Unexpected left) h = arm_turn ∙ ap (λ z. and_then z (λ _. condition >>= λ c. rest_body >>= λ ss. from (n - (at + 1)) (map arm_view found ++ (c, ss) ∷ []))) h
        skip_refused (failure.TooDeep left) h = arm_turn ∙ ap (λ z. and_then z (λ _. condition >>= λ c. rest_body >>= λ ss. from (n - (at + 1)) (map arm_view found ++ (c, ss) ∷ []))) h
        skip_refused failure.Spent h = arm_turn ∙ ap (λ z. and_then z (λ _. condition >>= λ c. rest_body >>= λ ss. from (n - (at + 1)) (map arm_view found ++ (c, ss) ∷ []))) h

        module _ (t : Token) (ts1 : List Token) (skips : skip ts ≡ Ok (t, ts1)) where
          tail_read : (c : Tree) (p : Outcome Steps)
              → and_then p (λ ss. from (n - (at + 1)) (map arm_view found ++ (c, ss) ∷ [])) ≡ and_then (and_then p (λ ss. pure (c, ss))) (λ a. from (n - (at + 1)) (map arm_view found ++ a ∷ []))
          tail_read c (Ok p) = refl
          tail_read c (Err e) = refl

          both_read : (p : Outcome Tree)
              → and_then p (λ c. rest_body >>= λ ss. from (n - (at + 1)) (map arm_view found ++ (c, ss) ∷ []))
              ≡ and_then (and_then p (λ c. rest_body >>= λ ss. pure (c, ss))) (λ a. from (n - (at + 1)) (map arm_view found ++ a ∷ []))
          both_read (Ok p) = tail_read p.0 (rest_body p.1)
          both_read (Err e) = refl

          read_turn : o ≡ and_then (arm_read turns depth expr_in step_in ts1) (λ a. from (n - (at + 1)) (map arm_view found ++ a ∷ []))
          read_turn = arm_turn ∙ (ap (λ z. and_then z (λ _. condition >>= λ c. rest_body >>= λ ss. from (n - (at + 1)) (map arm_view found ++ (c, ss) ∷ []))) skips ∙ both_read (condition ts1))

          pub arm_refused : (f : Failure) → Fails f (arm_read turns depth expr_in step_in ts1) → Fails f o
          arm_refused failure.OutOfMemory h = tt
          arm_refused (failure.Unexpected left) h = read_turn ∙ ap (λ z. and_then z (λ a. from (n - (at + 1)) (map arm_view found ++ a ∷ []))) h
          arm_refused (failure.TooDeep left) h = read_turn ∙ ap (λ z. and_then z (λ a. from (n - (at + 1)) (map arm_view found ++ a ∷ []))) h
          arm_refused failure.Spent h = read_turn ∙ ap (λ z. and_then z (λ a. from (n - (at + 1)) (map arm_view found ++ a ∷ []))) h

          pub arms_go : (a : Arm) (ts2 : List Token) → arm_read turns depth expr_in step_in ts1 ≡ Ok (arm_view a, ts2) → (new : List Arm) → new ≡ found ++ a ∷ [] → o ≡ from (n - (at + 1)) (map arm_view new) ts2
          arms_go a ts2 reads new pushes =
              read_turn ∙ (ap (λ z. and_then z (λ a. from (n - (at + 1)) (map arm_view found ++ a ∷ []))) reads
              ∙ ap (λ z. from (n - (at + 1)) z ts2) (sym (ap (map arm_view) pushes ∙ map-append arm_view found (a ∷ []))))
