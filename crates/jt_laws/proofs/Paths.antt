-- The test of two paths.
use Rattle.std.proofs.Common.{◌≡◌, ℕ, List, [], ◌∷◌, true, refl, sym, ap, ◌∙◌}
use Rattle.std.specs.Prelude.{◌&&◌, nat_eq}
use Rattle.std.proofs.lemmas.Bool.{eqb-true, eq-eqb}
use Rattle.jt_laws.specs.Entries.{same_path}
use Rattle.jt_laws.proofs.TaskLaws.{both_true}

pub same_itself : (path : List ℕ) → same_path path path ≡ true
same_itself [] = refl
same_itself (x ∷ xs) = ap (λ b. b && same_path xs xs) (eq-eqb x x refl) ∙ same_itself xs

pub same_equal : (p q : List ℕ) → same_path p q ≡ true → p ≡ q
same_equal [] [] e = refl
same_equal [] (y ∷ ys) e = absurd (cc)
same_equal (x ∷ xs) [] e = absurd (cc)
same_equal (x ∷ xs) (y ∷ ys) e =
    let b = both_true (nat_eq x y) (same_path xs ys) e in
    let h : x ≡ y = eqb-true x y b.0 in
    let t : xs ≡ ys = same_equal xs ys b.1 in
    cc

pub same_of : (p q : List ℕ) → p ≡ q → same_path p q ≡ true
same_of p q e = ap (same_path p) (sym e) ∙ same_itself p
