-- What an answer that is right by the definition of one kind of object says of any object.
use Rattle.std.proofs.Common.{◌≡◌, ℕ, List, [], ◌∷◌, ◌++◌, Option, Some, None, Bool, true, false, refl, sym, ap, ◌∙◌}
use Rattle.std.specs.Prelude.{◌&&◌, if◌then◌else◌, nat_eq}
use Rattle.std.specs.Option.{is_some}
use Rattle.std.proofs.lemmas.Bool.{eq-eqb, eqb-true, and_parts, false≢true}
use Rattle.std.proofs.lemmas.List.Folds.{list_all-append}
use Rattle.jt_base.specs.declared.operation.Op.{Op}
use Rattle.jt_base.specs.declared.operation.Reply.{Reply}
use Rattle.jt_base.specs.declared.entry.Entry.{Entry}
use Rattle.jt_base.specs.declared.entry.Ask.{Ask}
use Rattle.jt_base.specs.declared.entry.Ask.TheVariants.{NotYet}
use Rattle.jt_base.specs.declared.name.Name.{Name}
use Rattle.jt_base.specs.declared.object.Object.{Object}
use Rattle.jt_base.specs.declared.object.Object.TheVariants.{Printer, Task, Named}
use Rattle.jt_base.specs.Objects.{object_of}
use Rattle.jt_laws.specs.Entries.{object, same_path, same_name, same_object}
use Rattle.jt_laws.specs.Objects.{reply_after, IsLawful, answer_of, Asked, Allowed}
use Rattle.jt_laws.proofs.Asking.{answer_not_yet}
use Rattle.jt_laws.proofs.Paths.{same_itself, same_equal}
use Rattle.jt_conditions.specs.Completions.{completion_left_by}
use Rattle.jt_objects.specs.States.{ObjectState, OfPrinter, OfTask, Unmade, are_of, named_left_by, state_of_object, left_by}
use Rattle.jt_objects.proofs.KindLeft.{kind_of, has_kind, is_made, IsKind, made}
use Rattle.jt_objects.proofs.KindLeft as by_kind

same_object_itself : (o : Object) → same_object o o ≡ true
same_object_itself Printer = refl
same_object_itself (Task p) = same_itself p
same_object_itself (Named n) = ap (λ b. b && same_path n.path n.path) (eq-eqb n.number n.number refl) ∙ same_itself n.path

abbrev name_with : List ℕ → ℕ → Name
name_with path number = record { path = path; number = number }

same_name_equal : (n m : Name) → same_name n m ≡ true → n ≡ m
same_name_equal n m e =
    let b = and_parts (nat_eq n.number m.number) (same_path n.path m.path) e in
    ap (λ k. name_with n.path k) (eqb-true n.number m.number b.0) ∙ ap (λ p. name_with p m.number) (same_equal n.path m.path b.1)

pub same_object_equal : (o q : Object) → same_object o q ≡ true → o ≡ q
same_object_equal Printer Printer e = refl
same_object_equal (Task p) (Task q) e = ap Task (same_equal p q e)
same_object_equal (Named n) (Named m) e = ap Named (same_name_equal n m e)
same_object_equal Printer (Task q) e = absurd (false≢true e)
same_object_equal Printer (Named m) e = absurd (false≢true e)
same_object_equal (Task p) Printer e = absurd (false≢true e)
same_object_equal (Task p) (Named m) e = absurd (false≢true e)
same_object_equal (Named n) Printer e = absurd (false≢true e)
same_object_equal (Named n) (Task q) e = absurd (false≢true e)

-- the entries are of the object, and one more is
pub own_more : (o : Object) (past : List Entry) (e : Entry) (task : List ℕ) (op : Op) → are_of o past ≡ true → e.task ≡ task → e.op ≡ op → object_of task op ≡ o → are_of o (past ++ e ∷ []) ≡ true
own_more o past e task op h t p is =
    let here : object e ≡ o = ap (λ q. object_of q e.op) t ∙ ap (object_of task) p ∙ is in
    list_all-append (λ (x : Entry). same_object (object x) o) past (e ∷ [])
    ∙ ap (λ b. b && (same_object (object e) o && true)) h
    ∙ ap (λ q. same_object q o && true) here ∙ ap (λ b. b && true) (same_object_itself o)

pub left_if : (o : Object) (past : List Entry) → are_of o past ≡ true → left_by o past ≡ state_of_object o past
left_if o past h = ap (λ b. if b then state_of_object o past else None) h

-- of a state that a list leaves
pub was : (o : Object) (past : List Entry) (s : ObjectState) → left_by o past ≡ Some s → (are_of o past ≡ true) × (state_of_object o past ≡ Some s)
was o past s h = by (are_of o past) (state_of_object o past) h
  where
    by : (b : Bool) (t : Option ObjectState) → (if b then t else None) ≡ Some s → (b ≡ true) × (t ≡ Some s)
    by true t h = (refl, h)
    by false t h = absurd (cc)

-- no list leaves such a state of this object
pub never : (o : Object) (task : List ℕ) (op : Op) (s : ObjectState) (answer : Ask) (t : ObjectState) → ((past : List Entry) → state_of_object o past ≡ Some s → ⊥) → (answer ≡ NotYet → t ≡ s) → Asked ObjectState (left_by o) task op s answer t
never o task op s answer t none stays = record {
  answers = λ past l h. absurd (none past (was o past s h).1);
  moves = λ past e l h p q a. absurd (none past (was o past s h).1);
  stays = stays;
}

pub not_printer : (past : List Entry) (s : ObjectState) → has_kind (kind_of s) ≡ true → state_of_object Printer past ≡ Some s → ⊥
not_printer past s k h =
    let q : OfPrinter ≡ s = cc in false≢true (ap (λ z. has_kind (kind_of z)) q ∙ k)

pub not_task : (path : List ℕ) (past : List Entry) (s : ObjectState) → has_kind (kind_of s) ≡ true → state_of_object (Task path) past ≡ Some s → ⊥
not_task path past s k h =
    let q : OfTask (completion_left_by path past) ≡ s = cc in false≢true (ap (λ z. has_kind (kind_of z)) q ∙ k)

-- a named object of no kind isn't made yet
pub not_named : (past : List Entry) (s : ObjectState) → has_kind (kind_of s) ≡ false → (s ≡ Unmade → ⊥) → named_left_by past ≡ Some s → ⊥
not_named [] s k u h = u (let q : Unmade ≡ s = cc in sym q)
not_named (e ∷ es) s k u h = false≢true (sym k ∙ is_made e.op (e ∷ es) s h)

pub unmade : (past : List Entry) → named_left_by past ≡ Some Unmade → past ≡ []
unmade [] h = refl
unmade (e ∷ es) h = absurd (false≢true (is_made e.op (e ∷ es) Unmade h))

-- an object of one kind
module _ (S : Type 0) (left : List Entry → Option S) (into : S → ObjectState) (is : IsKind S left into) where
  down : (past : List Entry) (s : S) → named_left_by past ≡ Some (into s) → left past ≡ Some s
  down [] s h =
      absurd (let q : Unmade ≡ into s = cc in false≢true (ap (λ z. has_kind (kind_of z)) q ∙ made S left into is s))
  down (e ∷ es) s h = by_kind.down S left into is e.op (e ∷ es) s h

  up : (past : List Entry) (s : S) (e : Entry) (t : S) → named_left_by past ≡ Some (into s) → left (past ++ e ∷ []) ≡ Some t → named_left_by (past ++ e ∷ []) ≡ Some (into t)
  up [] s e t h l =
      absurd (let q : Unmade ≡ into s = cc in false≢true (ap (λ z. has_kind (kind_of z)) q ∙ made S left into is s))
  up (x ∷ xs) s e t h l = by_kind.up S left into is x.op (x ∷ xs) s h (x ∷ xs ++ e ∷ []) t l

  pub left_of : (o : Object) (past : List Entry) (s : S) → left_by o past ≡ Some (into s) → left past ≡ Some s
  left_of Printer past s h = absurd (not_printer past (into s) (made S left into is s) (was Printer past (into s) h).1)
  left_of (Task path) past s h = absurd (not_task path past (into s) (made S left into is s) (was (Task path) past (into s) h).1)
  left_of (Named name) past s h = down past s (was (Named name) past (into s) h).1

  at_named : (name : Name) (task : List ℕ) (op : Op) (before : S) (answer : Ask) (after : S) → object_of task op ≡ Named name → Asked S left task op before answer after → Asked ObjectState (left_by (Named name)) task op (into before) answer (into after)
  at_named name task op before answer after n a = record {
    answers = λ past l h. a.answers past l (down past before (was (Named name) past (into before) h).1);
    moves = λ past e l h t p r.
        let w = was (Named name) past (into before) h in
        left_if (Named name) (past ++ e ∷ []) (own_more (Named name) past e task op w.0 t p n) ∙ up past before e after w.1 (a.moves past e l (down past before w.1) t p r);
    stays = λ h. ap into (a.stays h);
  }

  by_object : (o : Object) (task : List ℕ) (op : Op) (before : S) (answer : Ask) (after : S) → object_of task op ≡ o → ((name : Name) → o ≡ Named name → Asked S left task op before answer after) → (answer ≡ NotYet → after ≡ before) → Asked ObjectState (left_by o) task op (into before) answer (into after)
  by_object Printer task op before answer after n a stays =
      never Printer task op (into before) answer (into after) (λ past. not_printer past (into before) (made S left into is before)) (λ h. ap into (stays h))
  by_object (Task path) task op before answer after n a stays =
      never (Task path) task op (into before) answer (into after) (λ past. not_task path past (into before) (made S left into is before)) (λ h. ap into (stays h))
  by_object (Named name) task op before answer after n a stays = at_named name task op before answer after n (a name refl)

  pub asked : (task : List ℕ) (op : Op) (before : S) (answer : Ask) (after : S) → ((name : Name) → object_of task op ≡ Named name → Asked S left task op before answer after) → (answer ≡ NotYet → after ≡ before) → Asked ObjectState (left_by (object_of task op)) task op (into before) answer (into after)
  asked task op before answer after a stays = by_object (object_of task op) task op before answer after refl a stays

  can : (o : Object) (task : List ℕ) (op : Op) (s : S) (answer : Bool) → ((name : Name) → o ≡ Named name → Allowed S left task op s answer) → Allowed ObjectState (left_by o) task op (into s) answer
  can Printer task op s answer a past l h = absurd (not_printer past (into s) (made S left into is s) (was Printer past (into s) h).1)
  can (Task path) task op s answer a past l h =
      absurd (not_task path past (into s) (made S left into is s) (was (Task path) past (into s) h).1)
  can (Named name) task op s answer a past l h = a name refl past l (down past s (was (Named name) past (into s) h).1)

  pub allowed : (task : List ℕ) (op : Op) (s : S) (answer : Bool) → ((name : Name) → object_of task op ≡ Named name → Allowed S left task op s answer) → Allowed ObjectState (left_by (object_of task op)) task op (into s) answer
  allowed task op s answer a = can (object_of task op) task op s answer a

  -- what is answered to an operation of another kind changes nothing either
  pub stays_by : (own : Op → Bool) → ((op : Op) (task : List ℕ) → ((name : Name) → object_of task op ≡ Named name → ⊥) → own op ≡ false) → (task : List ℕ) (op : Op) (before : S) (answer : Ask) (after : S) → ((name : Name) → object_of task op ≡ Named name → Asked S left task op before answer after) → (own op ≡ false → (answer ≡ NotYet) × (after ≡ before)) → answer ≡ NotYet → after ≡ before
  stays_by own elsewhere task op before answer after a others h =
      elim (object_of task op) as (λ o. object_of task op ≡ o → after ≡ before) [
        | Named name ↦ λ q. (a name q).stays h
        | Printer ↦ λ q. (others (elsewhere op task (λ name n. absurd (let z : Printer ≡ Named name = sym q ∙ n in cc)))).1
        | Task path ↦ λ q. (others (elsewhere op task (λ name n. absurd (let z : Task path ≡ Named name = sym q ∙ n in cc)))).1
      ] refl

pub no_reply : (o : Option Reply) → is_some o ≡ false → o ≡ None
no_reply None h = refl
no_reply (Some r) h = absurd (cc)

-- what isn't allowed is answered so, and changes nothing; and the other way round
pub refused : (S : Type 0) (left : List Entry → Option S) (task : List ℕ) (op : Op) (s : S) (answer : Bool) → answer ≡ false → Allowed S left task op s answer → Asked S left task op s NotYet s
refused S left task op s answer is a =
    let none : (past : List Entry) → IsLawful past → left past ≡ Some s → reply_after past task op ≡ None = λ past l h.
    no_reply (reply_after past task op) (sym (a past l h) ∙ is) in
    record {
      answers = λ past l h. sym (ap answer_of (none past l h));
      moves = λ past e l h t p r. absurd (let z = none past l h in cc);
      stays = λ h. refl;
    }

pub waits_unallowed : (S : Type 0) (left : List Entry → Option S) (task : List ℕ) (op : Op) (s t : S) → Asked S left task op s NotYet t → Allowed S left task op s false
waits_unallowed S left task op s t a = λ past l h. sym (ap is_some (answer_not_yet (reply_after past task op) (a.answers past l h)))
