-- The same answer, under other names of its parts, and what an object allows that answers so.
use Rattle.std.proofs.Common.{◌≡◌, ℕ, List, Option, Some, None, Bool, refl, sym, ap, subst, ◌∙◌}
use Rattle.std.specs.Option.{is_some}
use Rattle.jt_base.specs.declared.operation.Op.{Op}
use Rattle.jt_base.specs.declared.entry.Entry.{Entry}
use Rattle.jt_base.specs.declared.entry.Ask.{Ask}
use Rattle.jt_base.specs.declared.operation.Reply.{Reply}
use Rattle.jt_laws.specs.Objects.{reply_after, answer_of, Asked, Allowed}
use Rattle.jt_conditions.specs.Answers.{is_done}

pub asked_at : (S : Type 0) (left_by : List Entry → Option S) (task : List ℕ) (op now : Op) (before : S) (given answer : Ask) (new after : S) → now ≡ op → given ≡ answer → new ≡ after → Asked S left_by task op before answer after → Asked S left_by task now before given new
asked_at S left_by task op now before given answer new after is g n a =
    subst (λ o. Asked S left_by task o before given new) (sym is)
    (subst (λ r. Asked S left_by task op before r new) (sym g)
    (subst (λ s. Asked S left_by task op before answer s) (sym n) a))

done_when : (o : Option Reply) → is_done (answer_of o) ≡ is_some o
done_when (Some r) = refl
done_when None = refl

pub allowed_by : (S : Type 0) (left_by : List Entry → Option S) (task : List ℕ) (op now : Op) (before : S) (given : Bool) (answer : Ask) (after : S) → now ≡ op → given ≡ is_done answer → Asked S left_by task op before answer after → Allowed S left_by task now before given
allowed_by S left_by task op now before given answer after is g a =
    subst (λ o. Allowed S left_by task o before given) (sym is)
    (λ past l s. g ∙ ap is_done (a.answers past l s) ∙ done_when (reply_after past task op))
