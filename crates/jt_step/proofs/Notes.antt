-- The last note of a task.
use Rattle.std.proofs.Common.{◌≡◌, ℕ, suc, ◌-◌, List, [], ◌∷◌, length, sym, ap, ◌∙◌, arith, Some}
use Rattle.std.specs.Prelude.{slice_get}
use Rattle.jt_base.specs.declared.entry.Note.{Note}
use Rattle.jt_base.specs.Jobs.{last_note, last_note_from}

last_from : (stamp : ℕ) (notes : List Note) (n : Note) → slice_get notes (length notes - 1) ≡ Some n → n.stamp ≡ last_note_from stamp notes
last_from stamp [] n h = cc
last_from stamp (m ∷ []) n h = cc
last_from stamp (m ∷ k ∷ ns) n h =
    let e : suc (length (k ∷ ns) - 1) ≡ length (m ∷ k ∷ ns) - 1 = omega arith in
    last_from m.stamp (k ∷ ns) n (ap (slice_get (m ∷ k ∷ ns)) e ∙ h)

pub last_stamp : (notes : List Note) (n : Note) → Some n ≡ slice_get notes (length notes - 1) → n.stamp ≡ last_note notes
last_stamp notes n h = last_from 0 notes n (sym h)
