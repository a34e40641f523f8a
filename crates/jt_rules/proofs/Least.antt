-- The worst of broken rules is the least of them.
use Rattle.std.proofs.Common.{◌≡◌, Bool, true, false, List, [], ◌∷◌, ◌++◌, Option, Some, None, refl, sym, fold, if◌then◌else◌, subst, ◌⊎◌, inl, inr}
use Rattle.std.proofs.lemmas.List.Sums.{fold-append}
use Rattle.jt_syntax.specs.Tree.{TopTree}
use Rattle.jt_naming.specs.Rules.{below}
use Rattle.jt_naming.specs.Scripts.{broken_rules, IsOneOf, NoneBelow, IsForemost}
use Rattle.jt_rules.specs.Walk.{worse, Judges}
use Rattle.jt_naming.specs.declared.rules.Broken.{Broken}
use Rattle.jt_rules.proofs.Order.{below_self, below_through, below_other}

pub worse_append : (o : Option Broken) (bs cs : List Broken) → fold worse o (bs ++ cs) ≡ fold worse (fold worse o bs) cs
worse_append o bs cs = fold-append worse o bs cs

record Worst (a : Broken) (bs : List Broken) (b : Broken) : Type 0 where
  among : (b ≡ a) ⊎ IsOneOf b bs
  first : below a b ≡ false
  least : NoneBelow b bs

worst_step : (a x : Broken) (xs : List Broken) (b : Broken) (t : Bool) → below x a ≡ t → fold worse (if t then Some x else Some a) xs ≡ Some b
    → ((y : Broken) → fold worse (Some y) xs ≡ Some b → Worst y xs b) → Worst a (x ∷ xs) b
worst_step a x xs b true h e next = let w : Worst x xs b = next x e in
    record { among = inr w.among; first = below_through x a b h w.first; least = (w.first, w.least) }
worst_step a x xs b false h e next = let w : Worst a xs b = next a e in
    record { among = elim w.among as (λ _. (b ≡ a) ⊎ IsOneOf b (x ∷ xs)) [ inl p ↦ inl p | inr q ↦ inr (inr q) ]; first = w.first; least = (below_other x a b h w.first, w.least) }

worst : (a : Broken) (bs : List Broken) (b : Broken) → fold worse (Some a) bs ≡ Some b → Worst a bs b
worst a [] b e = let same : a ≡ b = cc in subst (λ z. Worst a [] z) same (record { among = inl refl; first = below_self a; least = tt })
worst a (x ∷ xs) b e = worst_step a x xs b (below x a) refl e (λ y f. worst y xs b f)

some_stays : (bs : List Broken) (a : Broken) → fold worse (Some a) bs ≡ None → ⊥
some_stays [] a e = cc
some_stays (x ∷ xs) a e = some_step xs a x (below x a) e (λ y f. some_stays xs y f)
  where
    some_step : (xs : List Broken) (a x : Broken) (t : Bool) → fold worse (if t then Some x else Some a) xs ≡ None → ((y : Broken) → fold worse (Some y) xs ≡ None → ⊥) → ⊥
    some_step xs a x true e next = next x e
    some_step xs a x false e next = next a e

none_broken : (bs : List Broken) → fold worse None bs ≡ None → bs ≡ []
none_broken [] e = refl
none_broken (x ∷ xs) e = absurd (some_stays xs x e)

least_broken : (bs : List Broken) (b : Broken) → fold worse None bs ≡ Some b → IsForemost b bs
least_broken [] b e = absurd (cc)
least_broken (x ∷ xs) b e = let w : Worst x xs b = worst x xs b e in record { among = w.among; least = (w.first, w.least) }

pub worst_answers : (ts : List TopTree) (o : Option Broken) → o ≡ fold worse None (broken_rules ts) → Judges ts o
worst_answers ts None e = none_broken (broken_rules ts) (sym e)
worst_answers ts (Some b) e = least_broken (broken_rules ts) b (sym e)
