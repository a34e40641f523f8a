-- Loops that gather items, beside the reader's recursions.
use Rattle.std.proofs.Common.{◌≡◌, ℕ, zero, suc, ◌+◌, ◌-◌, ◌<◌, ◌≤◌, Bool, true, false, List, [], ◌∷◌, ◌++◌, map, Ok, Err, cond, refl, sym, ap, ◌∙◌}
use Rattle.std.proofs.lemmas.List.{map-append}
use Rattle.jt_syntax.specs.Tree.{Step}
use Rattle.jt_syntax.specs.Tree as tree
use Rattle.jt_syntax.specs.View.{steps_of}
use Rattle.jt_syntax.specs.declared.token.Sign.TheVariants as sign
use Rattle.jt_syntax.specs.declared.token.Token.{Token}
use Rattle.jt_grammar.specs.Reader.{Outcome, Parser, spent, and_then, ◌>>=◌, pure, kind_of, is, skip, ends, gap, gather, list_of, list_from, commas, commas_from}
use Rattle.jt_cursor.specs.declared.failure.Failure.{Failure}
use Rattle.jt_cursor.specs.declared.failure.Failure.TheVariants as failure
use Rattle.jt_cursor.specs.Parses.{Fails}
use Rattle.jt_cursor.proofs.Starts.{one_more, no_more}

-- ---- what was found before stands in front

gather-then : {A B : Type 0} (one : A → B → B) (rest : B) (xs : List A) (x : A) → gather one rest (xs ++ x ∷ []) ≡ gather one (one x rest) xs
gather-then one rest [] x = refl
gather-then one rest (y ∷ xs) x = ap (one y) (gather-then one rest xs x)

behind : {A B : Type 0} → (A → B → B) → List A → Outcome B → Outcome B
behind one found o = and_then o (λ ys. pure (gather one ys found))

behind_item : {A B : Type 0} (one : A → B → B) (found : List A) (x : A) (o : Outcome B) → behind one (found ++ x ∷ []) o ≡ behind one found (and_then o (λ ys. pure (one x ys)))
unfolding behind
behind_item one found x (Ok p) = ap (λ z. Ok (z, p.1)) (gather-then one p.0 found x)
behind_item one found x (Err e) = refl

behind_none : {A B : Type 0} (one : A → B → B) (o : Outcome B) → behind one [] o ≡ o
unfolding behind
behind_none one (Ok p) = refl
behind_none one (Err e) = refl

-- ---- lists with separators

module _ {A B : Type 0} (turns : ℕ) (item : Parser A) (none : B) (one : A → B → B) where
  module _ (n : ℕ) (rec : (found : List A) (ts : List Token) → list_from turns item none one n found ts ≡ behind one found (list_of turns item none one n ts)) where
    after_gap : (found : List A) (x : A) (b : Bool) (ts : List Token)
        → cond b (list_from turns item none one n (found ++ x ∷ [])) (pure (gather one none (found ++ x ∷ []))) ts
        ≡ behind one found (cond b (list_of turns item none one n >>= λ ys. pure (one x ys)) (pure (one x none)) ts)
    unfolding behind
    after_gap found x true ts = rec (found ++ x ∷ []) ts ∙ behind_item one found x (list_of turns item none one n ts)
    after_gap found x false ts = ap (λ z. Ok (z, ts)) (gather-then one none found x)

    after_item_gap : (found : List A) (x : A) (o : Outcome Bool)
        → and_then o (λ b. cond b (list_from turns item none one n (found ++ x ∷ [])) (pure (gather one none (found ++ x ∷ []))))
        ≡ behind one found (and_then o (λ b. cond b (list_of turns item none one n >>= λ ys. pure (one x ys)) (pure (one x none))))
    unfolding behind
    after_item_gap found x (Ok p) = after_gap found x p.0 p.1
    after_item_gap found x (Err e) = refl

    after_list_item : (found : List A) (o : Outcome A)
        → and_then o (λ x. gap turns >>= λ b. cond b (list_from turns item none one n (found ++ x ∷ [])) (pure (gather one none (found ++ x ∷ []))))
        ≡ behind one found (and_then o (λ x. gap turns >>= λ b. cond b (list_of turns item none one n >>= λ ys. pure (one x ys)) (pure (one x none))))
    unfolding behind
    after_list_item found (Ok p) = after_item_gap found p.0 (gap turns p.1)
    after_list_item found (Err e) = refl

    list_turn : (found : List A) (ts : List Token) (b : Bool)
        → cond b (Ok (gather one none found, ts)) (and_then (item ts) (λ x. gap turns >>= λ b. cond b (list_from turns item none one n (found ++ x ∷ [])) (pure (gather one none (found ++ x ∷ [])))))
        ≡ behind one found (cond b (Ok (none, ts)) (and_then (item ts) (λ x. gap turns >>= λ b. cond b (list_of turns item none one n >>= λ ys. pure (one x ys)) (pure (one x none)))))
    unfolding behind
    list_turn found ts true = refl
    list_turn found ts false = after_list_item found (item ts)

  list_found : (n : ℕ) (found : List A) (ts : List Token) → list_from turns item none one n found ts ≡ behind one found (list_of turns item none one n ts)
  unfolding list_of list_from behind
  list_found zero found ts = refl
  list_found (suc n) found ts = list_turn n (list_found n) found ts (ends (kind_of ts))

  pub list_start : (n : ℕ) (ts : List Token) → list_from turns item none one n [] ts ≡ list_of turns item none one n ts
  list_start n ts = list_found n [] ts ∙ behind_none one (list_of turns item none one n ts)

-- a turn of the loop that reads such a list, whose items `view` sees as the reader's
module _ {A B X : Type 0} (view : X → A) (turns : ℕ) (item : Parser A) (none : B) (one : A → B → B) (n at : ℕ) (found : List X) (ts : List Token) (o : Outcome B)
    (inv : o ≡ list_from turns item none one (n - at) (map view found) ts) where
  pub list_spent : n ≤ at → o ≡ Err spent
  unfolding list_from
  list_spent done = no_more (λ k. list_from turns item none one k (map view found) ts) n at done inv

  module _ (below : at < n) where
    turn : o ≡ list_from turns item none one (suc (n - (at + 1))) (map view found) ts
    turn = one_more (λ k. list_from turns item none one k (map view found) ts) n at below inv

    pub list_done : ends (kind_of ts) ≡ true → o ≡ Ok (gather one none (map view found), ts)
    unfolding list_from
    list_done e = turn ∙ rw e

    module _ (open_still : ends (kind_of ts) ≡ false) where
      pub list_refused : (f : Failure) → Fails f (item ts) → Fails f o
      unfolding list_from
      list_refused failure.OutOfMemory h = tt
      list_refused (failure.Unexpected left) h = turn ∙ rw (open_still, h)
      list_refused (failure.TooDeep left) h = turn ∙ rw (open_still, h)
      list_refused failure.Spent h = turn ∙ rw (open_still, h)

      module _ (x : X) (ts1 : List Token) (reads : item ts ≡ Ok (view x, ts1)) where
        pub list_gap_refused : (f : Failure) → Fails f (gap turns ts1) → Fails f o
        unfolding list_from
        list_gap_refused failure.OutOfMemory h = tt
        list_gap_refused (failure.Unexpected left) h = turn ∙ rw (open_still, reads, h)
        list_gap_refused (failure.TooDeep left) h = turn ∙ rw (open_still, reads, h)
        list_gap_refused failure.Spent h = turn ∙ rw (open_still, reads, h)

        module _ (new : List X) (ts2 : List Token) (pushes : new ≡ found ++ x ∷ []) where
          pushed : map view new ≡ map view found ++ view x ∷ []
          pushed = ap (map view) pushes ∙ map-append view found (x ∷ [])

          pub list_goes : gap turns ts1 ≡ Ok (true, ts2) → o ≡ list_from turns item none one (n - (at + 1)) (map view new) ts2
          unfolding list_from
          list_goes gaps = turn ∙ (rw (open_still, reads, gaps) (ap (λ z. list_from turns item none one (n - (at + 1)) z ts2) (sym pushed)))

          pub list_ends : gap turns ts1 ≡ Ok (false, ts2) → o ≡ Ok (gather one none (map view new), ts2)
          unfolding list_from
          list_ends gaps = turn ∙ (rw (open_still, reads, gaps) (ap (λ z. Ok (gather one none z, ts2)) (sym pushed)))

-- ---- lists with commas

module _ {A B : Type 0} (item : Parser A) (none : B) (one : A → B → B) where
  after_comma : (n : ℕ) → ((found : List A) (ts : List Token) → commas_from item none one n found ts ≡ behind one found (commas item none one n ts)) → (found : List A) (o : Outcome A)
      → and_then o (λ x. commas_from item none one n (found ++ x ∷ [])) ≡ behind one found (and_then o (λ x. commas item none one n >>= λ xs. pure (one x xs)))
  unfolding behind
  after_comma n rec found (Ok p) = rec (found ++ p.0 ∷ []) p.1 ∙ behind_item one found p.0 (commas item none one n p.1)
  after_comma n rec found (Err e) = refl

  comma_turn : (n : ℕ) → ((found : List A) (ts : List Token) → commas_from item none one n found ts ≡ behind one found (commas item none one n ts)) → (found : List A) (ts : List Token) (b : Bool)
      → cond b (and_then (skip ts) (λ _. item >>= λ x. commas_from item none one n (found ++ x ∷ []))) (Ok (gather one none found, ts))
      ≡ behind one found (cond b (and_then (skip ts) (λ _. item >>= λ x. commas item none one n >>= λ xs. pure (one x xs))) (Ok (none, ts)))
  unfolding behind
  comma_turn n rec found [] true = refl
  comma_turn n rec found (t ∷ ts) true = after_comma n rec found (item ts)
  comma_turn n rec found ts false = refl

  commas_found : (n : ℕ) (found : List A) (ts : List Token) → commas_from item none one n found ts ≡ behind one found (commas item none one n ts)
  unfolding commas commas_from behind
  commas_found zero found ts = refl
  commas_found (suc n) found ts = comma_turn n (commas_found n) found ts (is sign.Comma (kind_of ts))

  pub commas_one : (n : ℕ) (x : A) (ts : List Token) → commas_from item none one n (x ∷ []) ts ≡ and_then (commas item none one n ts) (λ xs. pure (one x xs))
  unfolding behind
  commas_one n x ts = commas_found n (x ∷ []) ts

-- ---- what is gathered

pub steps_gathered : (xs : List Step) → gather tree.step tree.no_steps xs ≡ steps_of xs
steps_gathered [] = refl
steps_gathered (x ∷ xs) = ap (tree.step x) (steps_gathered xs)

pub list_gathered : {A : Type 0} (xs : List A) → gather (λ x ys. x ∷ ys) [] xs ≡ xs
list_gathered [] = refl
list_gathered (x ∷ xs) = ap (λ z. x ∷ z) (list_gathered xs)

-- a turn of the loop that reads a list with commas
module _ {A B : Type 0} (item : Parser A) (none : B) (one : A → B → B) (n at : ℕ) (found : List A) (ts : List Token) (o : Outcome B) (inv : o ≡ commas_from item none one (n - at) found ts) where
  pub commas_spent : n ≤ at → o ≡ Err spent
  unfolding commas_from
  commas_spent done = no_more (λ k. commas_from item none one k found ts) n at done inv

  module _ (below : at < n) where
    comma_next : o ≡ commas_from item none one (suc (n - (at + 1))) found ts
    comma_next = one_more (λ k. commas_from item none one k found ts) n at below inv

    pub commas_done : is sign.Comma (kind_of ts) ≡ false → o ≡ Ok (gather one none found, ts)
    unfolding commas_from
    commas_done e = comma_next ∙ rw e

    module _ (comma : is sign.Comma (kind_of ts) ≡ true) where
      pub comma_refused : (f : Failure) → Fails f (skip ts) → Fails f o
      unfolding commas_from
      comma_refused failure.OutOfMemory h = tt
      comma_refused (failure.Unexpected left) h = comma_next ∙ rw (comma, h)
      comma_refused (failure.TooDeep left) h = comma_next ∙ rw (comma, h)
      comma_refused failure.Spent h = comma_next ∙ rw (comma, h)

      module _ (t : Token) (ts1 : List Token) (skips : skip ts ≡ Ok (t, ts1)) where
        pub item_refused : (f : Failure) → Fails f (item ts1) → Fails f o
        unfolding commas_from
        item_refused failure.OutOfMemory h = tt
        item_refused (failure.Unexpected left) h = comma_next ∙ rw (comma, skips, h)
        item_refused (failure.TooDeep left) h = comma_next ∙ rw (comma, skips, h)
        item_refused failure.Spent h = comma_next ∙ rw (comma, skips, h)

        pub commas_go : (x : A) (ts2 : List Token) → item ts1 ≡ Ok (x, ts2) → (new : List A) → new ≡ found ++ x ∷ [] → o ≡ commas_from item none one (n - (at + 1)) new ts2
        unfolding commas_from
        commas_go x ts2 reads new pushes = comma_next ∙ rw (comma, skips, reads) (ap (λ z. commas_from item none one (n - (at + 1)) z ts2) (sym pushes))
