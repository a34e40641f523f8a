-- The table tells which of the open lists have a name.
use Rattle.std.proofs.Common.{◌≡◌, ℕ, suc, ◌≤◌, nat_le, Bool, true, false, ◌||◌, List, [], ◌∷◌, ◌++◌, length, reverse, refl, ap, ◌∙◌, cond, arith}
use Rattle.std.specs.declared.vec.Vec.{Vec}
use Rattle.std.proofs.lemmas.Bool.Decides.{nat_tests}
use Rattle.std.proofs.lemmas.List.{reverse-append}
use Rattle.jt_syntax.specs.declared.script.Identifier.{Identifier}
use Rattle.jt_names.specs.Names.{Name, is_named, member}
use Rattle.jt_holders.specs.Holding.{depths, first_of, first_within, innermost, innermost_within}
use Rattle.jt_holders.specs.Table.{depths_in, pushed, stacked, taken, IsTableOf}
use Rattle.jt_holders.proofs.TableLaws.{taken_pushed}

-- ---- a list that has a name more than once has it

within_pushed : (n : ℕ) (is : List Identifier) (d : ℕ) (ds : List ℕ) (x : Name) → first_within n (pushed is d ds x) ≡ cond (member is x) (cond (nat_le d n) d (first_within n ds)) (first_within n ds)
within_pushed n [] d ds x = refl
within_pushed n (i ∷ is) d ds x = split (is_named x i) ∙ by (is_named x i) (nat_le d n) (member is x) (within_pushed n is d ds x)
  where
    split : (b : Bool) → first_within n (cond b (d ∷ pushed is d ds x) (pushed is d ds x)) ≡ cond b (cond (nat_le d n) d (first_within n (pushed is d ds x))) (first_within n (pushed is d ds x))
    split true = refl
    split false = refl

    by : (b t m : Bool) → first_within n (pushed is d ds x) ≡ cond m (cond t d (first_within n ds)) (first_within n ds)
        → cond b (cond t d (first_within n (pushed is d ds x))) (first_within n (pushed is d ds x)) ≡ cond (b || m) (cond t d (first_within n ds)) (first_within n ds)
    by true true m e = refl
    by true false true e = e
    by true false false e = e
    by false t m e = e

within_stacked : (n : ℕ) (h : List (List Identifier)) (x : Name) → first_within n (stacked h x) ≡ innermost_within n h x
within_stacked n [] x = refl
within_stacked n (ns ∷ h) x = within_pushed n ns (suc (length h)) (stacked h x) x ∙ by (member ns x) (within_stacked n h x)
  where
    by : (b : Bool) → first_within n (stacked h x) ≡ innermost_within n h x
        → cond b (cond (nat_le (suc (length h)) n) (suc (length h)) (first_within n (stacked h x))) (first_within n (stacked h x)) ≡ first_within n (cond b (suc (length h) ∷ depths h x) (depths h x))
    by true e = ap (λ z. cond (nat_le (suc (length h)) n) (suc (length h)) z) e
    by false e = e

pub within_told : {Z : Type 0} (n : ℕ) (h : List (List Identifier)) (es : List (Vec ℕ Z × List ℕ)) (x : Name) → IsTableOf h es → first_within n (depths_in es x) ≡ innermost_within n h x
within_told n h es x t = ap (first_within n) (t x) ∙ within_stacked n h x

-- each list is among the outermost ones, where those are all
pub all_within : (h : List (List Identifier)) (x : Name) → innermost_within (length h) h x ≡ innermost h x
all_within h x = deep h (length h) (omega arith)
  where
    deep : (h : List (List Identifier)) (n : ℕ) → length h ≤ n → first_within n (depths h x) ≡ first_of (depths h x)
    deep [] n l = refl
    deep (ns ∷ h) n l = by (member ns x) (grind (arith, nat_tests, l)) (deep h n (omega (arith, l)))
      where
        by : (b : Bool) → nat_le (suc (length h)) n ≡ true → first_within n (depths h x) ≡ first_of (depths h x)
            → first_within n (cond b (suc (length h) ∷ depths h x) (depths h x)) ≡ first_of (cond b (suc (length h) ∷ depths h x) (depths h x))
        by true e i = ap (λ t. cond t (suc (length h)) (first_within n (depths h x))) e
        by false e i = i

-- ---- a list is closed

pub closed_table : {Z : Type 0} (lists : List (List Identifier)) (list : List Identifier) (es fs : List (Vec ℕ Z × List ℕ)) → IsTableOf (reverse (lists ++ list ∷ [])) es
    → ((x : Name) → depths_in fs x ≡ taken list (depths_in es x) x) → IsTableOf (reverse lists) fs
closed_table lists list es fs t p x =
    p x ∙ (ap (λ z. taken list z x) (t x ∙ ap (λ z. stacked z x) (reverse-append lists (list ∷ []))) ∙ taken_pushed list (suc (length (reverse lists))) (stacked (reverse lists) x) x)
