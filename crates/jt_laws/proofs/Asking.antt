-- What the contract of an object that is asked tells whoever keeps its entries.
use Rattle.std.proofs.Common.{◌≡◌, ℕ, List, [], ◌∷◌, ◌++◌, Option, Some, None, refl, sym, ap, ◌∙◌}
use Rattle.jt_base.specs.declared.operation.Op.{Op}
use Rattle.jt_base.specs.declared.operation.Reply.{Reply}
use Rattle.jt_base.specs.declared.entry.Entry.{Entry}
use Rattle.jt_base.specs.declared.entry.Ask.{Ask}
use Rattle.jt_base.specs.declared.entry.Ask.TheVariants.{Done, NotYet}
use Rattle.jt_laws.specs.Objects.{reply_after, IsLawful, answer_of, Asked}
use Rattle.jt_laws.proofs.Lawful.{lawful_push}

pub answer_done : (o : Option Reply) (r : Reply) → Done r ≡ answer_of o → o ≡ Some r
answer_done None r e = absurd (cc)
answer_done (Some x) r e = let p : r ≡ x = cc in ap Some (sym p)

pub answer_not_yet : (o : Option Reply) → NotYet ≡ answer_of o → o ≡ None
answer_not_yet None e = refl
answer_not_yet (Some x) e = absurd (cc)

module _ (S : Type 0) (left_by : List Entry → Option S) (task : List ℕ) (op : Op) (before : S) (answer : Ask) (after : S) (asked : Asked S left_by task op before answer after) (past : List Entry) (lawful : IsLawful past) (left : left_by past ≡ Some before) where
  -- the reply is the allowed one
  pub replied : (r : Reply) → answer ≡ Done r → reply_after past task op ≡ Some r
  replied r e = answer_done (reply_after past task op) r (sym e ∙ asked.answers past lawful left)

  -- the list with the new entry is lawful and leaves the new state
  pub longer : (e : Entry) → e.task ≡ task → e.op ≡ op → answer ≡ Done e.reply → IsLawful (past ++ e ∷ []) × (left_by (past ++ e ∷ []) ≡ Some after)
  longer e t o a =
      let allowed = replied e.reply a in
      (lawful_push past e lawful (ap (λ p. reply_after past p e.op) t ∙ ap (reply_after past task) o ∙ allowed), asked.moves past e lawful left t o allowed)

  -- no reply is allowed
  pub waits : answer ≡ NotYet → reply_after past task op ≡ None
  waits e = answer_not_yet (reply_after past task op) (sym e ∙ asked.answers past lawful left)
