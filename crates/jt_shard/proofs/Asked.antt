-- What an object's answers say of the list of its entries.
use Rattle.std.proofs.Common.{◌≡◌, ℕ, List, Option, Some, None, Bool, true, false, refl, sym, subst}
use Rattle.std.specs.Prelude.{MatchBool}
use Rattle.std.specs.Option.{is_some}
use Rattle.jt_base.specs.declared.operation.Op.{Op}
use Rattle.jt_base.specs.declared.operation.Reply.{Reply}
use Rattle.jt_base.specs.declared.entry.Entry.{Entry}
use Rattle.jt_base.specs.declared.entry.Ask.TheVariants.{NotYet}
use Rattle.jt_base.specs.declared.object.Object.{Object}
use Rattle.jt_base.specs.Objects.{object_of}
use Rattle.jt_laws.specs.Entries.{of_object}
use Rattle.jt_laws.specs.Objects.{reply_after, AreLawful, answer_of, Allowed}
use Rattle.jt_objects.specs.States.{ObjectState, left_by}
use Rattle.jt_objects.specs.Needs.{state_of}
use Rattle.jt_objects.specs.declared.shared.Shared.{Shared}
use Rattle.jt_shard.specs.Asking.{Allows, Refuses}

-- where the answer is not yet, there is no reply
pub no_reply : (o : Option Reply) → NotYet ≡ answer_of o → o ≡ None
no_reply (Some s) e = absurd (cc)
no_reply None e = refl

has_reply : (o : Option Reply) → true ≡ is_some o → (r : Reply) × (o ≡ Some r)
has_reply (Some r) e = (r, refl)
has_reply None e = absurd (cc)

has_none : (o : Option Reply) → false ≡ is_some o → o ≡ None
has_none (Some r) e = absurd (cc)
has_none None e = refl

-- an object says yes or no
pub told_by : (s : Shared) (task : List ℕ) (op : Op) (b : Bool) → Allowed ObjectState (left_by (object_of task op)) task op (state_of s) b → MatchBool b (Allows s task op) (Refuses s task op)
told_by s task op true a = a
told_by s task op false a = a

-- the object of the operation has this state after a log, and allows the operation or refuses it
pub allowed_at : (log : List Entry) (s : Shared) (task : List ℕ) (op : Op) (o : Object) → object_of task op ≡ o → AreLawful log → left_by o (of_object o log) ≡ Some (state_of s) → Allows s task op → (r : Reply) × (reply_after (of_object o log) task op ≡ Some r)
allowed_at log s task op o is l h a =
    let mine = subst (λ x. left_by x (of_object x log) ≡ Some (state_of s)) (sym is) h in
    subst (λ x. (r : Reply) × (reply_after (of_object x log) task op ≡ Some r)) is (has_reply (reply_after (of_object (object_of task op) log) task op) (a (of_object (object_of task op) log) (l (object_of task op)) mine))

pub refused_at : (log : List Entry) (s : Shared) (task : List ℕ) (op : Op) (o : Object) → object_of task op ≡ o → AreLawful log → left_by o (of_object o log) ≡ Some (state_of s) → Refuses s task op → reply_after (of_object o log) task op ≡ None
refused_at log s task op o is l h a =
    let mine = subst (λ x. left_by x (of_object x log) ≡ Some (state_of s)) (sym is) h in
    subst (λ x. reply_after (of_object x log) task op ≡ None) is (has_none (reply_after (of_object (object_of task op) log) task op) (a (of_object (object_of task op) log) (l (object_of task op)) mine))

pub matched : {A B C D : Type 0} (b : Bool) → MatchBool b A B → (A → C) → (B → D) → MatchBool b C D
matched true m f g = f m
matched false m f g = g m
