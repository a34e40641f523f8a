-- Turns of a loop over a list with commas, beside the reader's recursion.
use Rattle.std.proofs.Common.{◌≡◌, ℕ, suc, ◌+◌, ◌-◌, ◌<◌, ◌≤◌, true, false, List, [], ◌∷◌, ◌++◌, map, Ok, Err, refl, sym, ap, ◌∙◌}
use Rattle.std.proofs.lemmas.List.{map-append}
use Rattle.jt_syntax.specs.Tree.{Tree}
use Rattle.jt_syntax.specs.Tree as tree
use Rattle.jt_syntax.specs.View.{trees_of}
use Rattle.jt_syntax.specs.declared.token.Sign.TheVariants as sign
use Rattle.jt_syntax.specs.declared.token.Token.{Token}
use Rattle.jt_grammar.specs.Reader.{Outcome, Parser, spent, kind_of, is, skip, gather, comma_list, commas_from}
use Rattle.jt_cursor.specs.declared.failure.Failure.{Failure}
use Rattle.jt_cursor.specs.declared.failure.Failure.TheVariants as failure
use Rattle.jt_cursor.specs.Parses.{Fails}
use Rattle.jt_cursor.proofs.Lists.{commas_one}
use Rattle.jt_cursor.proofs.Starts.{one_more, no_more}

pub gather-trees : (xs : List Tree) → gather tree.tree tree.no_trees xs ≡ trees_of xs
gather-trees [] = refl
gather-trees (x ∷ xs) = ap (tree.tree x) (gather-trees xs)

pub commas_begun : {A B : Type 0} (item : Parser A) (none : B) (one : A → B → B) (n : ℕ) (ts : List Token) (x : A) (ts1 : List Token)
    → is sign.Close (kind_of ts) ≡ false → item ts ≡ Ok (x, ts1) → comma_list n item none one ts ≡ commas_from item none one n (x ∷ []) ts1
commas_begun item none one n ts x ts1 h reads = rw (h, reads) (sym (commas_one item none one n x ts1))

module _ {A B X : Type 0} (view : X → A) (item : Parser A) (none : B) (one : A → B → B) (n at : ℕ) (found : List X) (ts : List Token) (o : Outcome B)
    (inv : o ≡ commas_from item none one (n - at) (map view found) ts) where
  pub commas_spent : n ≤ at → o ≡ Err spent
  unfolding commas_from
  commas_spent done = no_more (λ k. commas_from item none one k (map view found) ts) n at done inv

  module _ (below : at < n) where
    turn : o ≡ commas_from item none one (suc (n - (at + 1))) (map view found) ts
    turn = one_more (λ k. commas_from item none one k (map view found) ts) n at below inv

    pub commas_done : is sign.Comma (kind_of ts) ≡ false → o ≡ Ok (gather one none (map view found), ts)
    unfolding commas_from
    commas_done e = turn ∙ rw e

    module _ (comma : is sign.Comma (kind_of ts) ≡ true) where
      pub comma_refused : (f : Failure) → Fails f (skip ts) → Fails f o
      unfolding commas_from
      comma_refused failure.OutOfMemory h = tt
      comma_refused (failure.Unexpected left) h = turn ∙ rw (comma, h)
      comma_refused (failure.TooDeep left) h = turn ∙ rw (comma, h)
      comma_refused failure.Spent h = turn ∙ rw (comma, h)

      module _ (t : Token) (ts1 : List Token) (skips : skip ts ≡ Ok (t, ts1)) where
        pub commas_refused : (f : Failure) → Fails f (item ts1) → Fails f o
        unfolding commas_from
        commas_refused failure.OutOfMemory h = tt
        commas_refused (failure.Unexpected left) h = turn ∙ rw (comma, skips, h)
        commas_refused (failure.TooDeep left) h = turn ∙ rw (comma, skips, h)
        commas_refused failure.Spent h = turn ∙ rw (comma, skips, h)

        pub commas_go : (x : X) (new : List X) (ts2 : List Token) → item ts1 ≡ Ok (view x, ts2) → new ≡ found ++ x ∷ [] → o ≡ commas_from item none one (n - (at + 1)) (map view new) ts2
        unfolding commas_from
        commas_go x new ts2 reads pushes =
            let pushed : map view new ≡ map view found ++ view x ∷ [] = ap (map view) pushes ∙ map-append view found (x ∷ []) in
            turn ∙ (rw (comma, skips, reads) (ap (λ z. commas_from item none one (n - (at + 1)) z ts2) (sym pushed)))
