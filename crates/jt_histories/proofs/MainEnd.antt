-- The end of the main task, whose path is empty.
use Rattle.std.proofs.Common.{◌≡◌, ℕ, List, [], ◌∷◌, true, refl, sym, ap, ◌∙◌, length, nat_eq, arith}
use Rattle.std.proofs.lemmas.Bool.{ne_eqb}
use Rattle.std.specs.Prelude.{◌&&◌}
use Rattle.jt_base.specs.declared.entry.Entry.{Entry}
use Rattle.jt_laws.specs.Entries.{ends}
use Rattle.jt_laws.specs.Tasks.{is_main}
use Rattle.jt_laws.specs.Lines.{is_main_end}

main_empty : (path : List ℕ) → nat_eq (length path) 0 ≡ is_main path
main_empty [] = refl
main_empty (k ∷ ks) = ne_eqb (length (k ∷ ks)) 0 (λ q. absurd (omega (arith, q)))

pub main_end : (e : Entry) → ends e.op ≡ true → nat_eq (length e.task) 0 ≡ is_main_end e
main_end e h = main_empty e.task ∙ ap (λ b. b && is_main e.task) (sym h)
