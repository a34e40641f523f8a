-- The printer, a task that need not be there yet, and a named object that isn't made yet answer by
-- their laws.
use Rattle.std.proofs.Common.{◌≡◌, ℕ, List, [], ◌∷◌, ◌++◌, Some, None, Bool, true, false, refl, sym, ap, ◌∙◌, length, subst}
use Rattle.std.specs.Prelude.{◌&&◌, ◌||◌, not, if◌then◌else◌, nat_eq}
use Rattle.std.specs.Option.{is_some}
use Rattle.std.proofs.lemmas.Bool.{false≢true, and_parts}
use Rattle.jt_base.specs.declared.operation.How.{How}
use Rattle.jt_base.specs.declared.operation.Op.{Op}
use Rattle.jt_base.specs.declared.operation.Op.TheVariants.{Begin, End, Fail, Spawn, Fetch, Wait, Yield, Print, NewChannel, NewAtomic, NewEvent, NewCondition, NewLock, NewSemaphore}
use Rattle.jt_base.specs.declared.operation.Reply.{Reply}
use Rattle.jt_base.specs.declared.operation.Reply.TheVariants as reply
use Rattle.jt_base.specs.declared.entry.Entry.{Entry}
use Rattle.jt_base.specs.declared.entry.Ask.{Ask}
use Rattle.jt_base.specs.declared.entry.Ask.TheVariants.{Done, NotYet}
use Rattle.jt_base.specs.declared.name.Name.{Name}
use Rattle.jt_base.specs.declared.object.Object.{Object}
use Rattle.jt_base.specs.declared.object.Object.TheVariants.{Printer, Task, Named}
use Rattle.jt_base.specs.Objects.{object_of}
use Rattle.jt_laws.specs.Entries.{object, same_object}
use Rattle.jt_laws.specs.Tasks.{ok_if, is_main}
use Rattle.jt_laws.specs.Objects.{reply_after, IsLawful, answer_of, Asked, Allowed, MadeBy}
use Rattle.jt_laws.proofs.Paths.{same_of}
use Rattle.jt_conditions.specs.declared.completion.Completion.{Completion}
use Rattle.jt_conditions.specs.Completions.{makes_task, stage_of, completion_left_by}
use Rattle.jt_conditions.specs.CompletionSteps.{is_completion_op}
use Rattle.jt_objects.specs.States.{ObjectState, OfPrinter, OfTask, Unmade, makes_object, are_of, named_left_by, left_by}
use Rattle.jt_objects.proofs.Left.{same_object_equal, own_more, left_if, was, never, not_named, unmade, refused}

-- the printer
prints : (op : Op) (task : List ℕ) → object_of task op ≡ Printer → (text : List ℕ) × (op ≡ Print text)
prints (Print text) task n = (text, refl)
prints op task n = absurd (cc)

pub printer_refuses : (task : List ℕ) (op : Op) → ((text : List ℕ) → op ≡ Print text → ⊥) → Asked ObjectState (left_by (object_of task op)) task op OfPrinter NotYet OfPrinter
printer_refuses task op other = at (object_of task op) refl
  where
    at : (o : Object) → object_of task op ≡ o → Asked ObjectState (left_by o) task op OfPrinter NotYet OfPrinter
    at Printer n = absurd (let p = prints op task n in other p.0 p.1)
    at (Task path) n = never (Task path) task op OfPrinter NotYet OfPrinter (λ past h. absurd (cc)) (λ h. refl)
    at (Named name) n =
        never (Named name) task op OfPrinter NotYet OfPrinter (λ past. not_named past OfPrinter refl (λ q. absurd (cc))) (λ h. refl)

-- a task that is there
own_of_task : (op : Op) (task : List ℕ) → ((path : List ℕ) → object_of task op ≡ Task path → ⊥) → is_completion_op op ≡ false
own_of_task Begin task n = absurd (n task refl)
own_of_task (End value) task n = absurd (n task refl)
own_of_task (Fail fault) task n = absurd (n task refl)
own_of_task (Fetch path) task n = absurd (n path refl)
own_of_task (Wait path) task n = absurd (n path refl)
own_of_task Yield task n = absurd (n task refl)
own_of_task op task n = refl

module _ (task : List ℕ) (op : Op) (before : Completion) (answer : Ask) (after : Completion) (law : (path task : List ℕ) → object_of task op ≡ Task path → Asked Completion (completion_left_by path) task op before answer after) (others : is_completion_op op ≡ false → (answer ≡ NotYet) × (after ≡ before)) where
  pub task_stays : answer ≡ NotYet → after ≡ before
  task_stays h =
      elim (object_of task op) as (λ o. object_of task op ≡ o → after ≡ before) [
        | Task path ↦ λ q. (law path task q).stays h
        | Printer ↦ λ q. (others (own_of_task op task (λ path n. absurd (let z : Printer ≡ Task path = sym q ∙ n in cc)))).1
        | Named name ↦ λ q. (others (own_of_task op task (λ path n. absurd (let z : Named name ≡ Task path = sym q ∙ n in cc)))).1
      ] refl

  at_task : (o : Object) → object_of task op ≡ o → Asked ObjectState (left_by o) task op (OfTask (Some before)) answer (OfTask (Some after))
  at_task Printer n =
      never Printer task op (OfTask (Some before)) answer (OfTask (Some after)) (λ past h. absurd (cc)) (λ h. ap (λ c. OfTask (Some c)) (task_stays h))
  at_task (Named name) n =
      never (Named name) task op (OfTask (Some before)) answer (OfTask (Some after)) (λ past. not_named past (OfTask (Some before)) refl (λ q. absurd (cc))) (λ h. ap (λ c. OfTask (Some c)) (task_stays h))
  at_task (Task path) n =
      let a = law path task n in
      let left : (past : List Entry) → left_by (Task path) past ≡ Some (OfTask (Some before)) → completion_left_by path past ≡ Some before = λ past h.
      let w = (was (Task path) past (OfTask (Some before)) h).1 in cc in
      record {
        answers = λ past l h. a.answers past l (left past h);
        moves = λ past e l h t p r.
            let w = was (Task path) past (OfTask (Some before)) h in
            left_if (Task path) (past ++ e ∷ []) (own_more (Task path) past e task op w.0 t p n) ∙ ap (λ c. Some (OfTask c)) (a.moves past e l (left past h) t p r);
        stays = λ h. ap (λ c. OfTask (Some c)) (task_stays h);
      }

  pub task_asked : Asked ObjectState (left_by (object_of task op)) task op (OfTask (Some before)) answer (OfTask (Some after))
  task_asked = at_task (object_of task op) refl

pub task_allowed : (task : List ℕ) (op : Op) (c : Completion) (answer : Bool) → ((path task : List ℕ) → object_of task op ≡ Task path → Allowed Completion (completion_left_by path) task op c answer) → Allowed ObjectState (left_by (object_of task op)) task op (OfTask (Some c)) answer
task_allowed task op c answer law = at (object_of task op) refl
  where
    at : (o : Object) → object_of task op ≡ o → Allowed ObjectState (left_by o) task op (OfTask (Some c)) answer
    at Printer n past l h = absurd (let w = (was Printer past (OfTask (Some c)) h).1 in cc)
    at (Named name) n past l h =
        absurd (not_named past (OfTask (Some c)) refl (λ q. absurd (cc)) (was (Named name) past (OfTask (Some c)) h).1)
    at (Task path) n past l h =
        law path task n past l (let w = (was (Task path) past (OfTask (Some c)) h).1 in cc)

-- the first entry of a task makes it
first_makes : (path task : List ℕ) (op : Op) (r : Reply) → object_of task op ≡ Task path → reply_after [] task op ≡ Some r → makes_task path op ≡ true
first_makes path task Begin r o a =
    let p : task ≡ path = cc in
    let cases : (b : Bool) → ok_if (b && true) ≡ Some r → (b && true) ≡ true = λ b.
    elim b as (λ v. ok_if (v && true) ≡ Some r → (v && true) ≡ true) [
      | true ↦ λ _. refl
      | false ↦ λ q. absurd (cc)
    ] in
    cases (is_main path) (ap (λ q. ok_if (is_main q && true)) (sym p) ∙ a)
first_makes path task (Spawn q how) r o a =
    let p : q ≡ path = cc in ap (λ b. b || (is_main path && false)) (same_of q path p)
first_makes path task op r o a = absurd (cc)

-- where the task isn't there, nothing happened to it
none_left : (b : Bool) (s : Completion) → (if b then Some s else None) ≡ None → b ≡ false
none_left true s e = absurd (cc)
none_left false s e = refl

not_spawned : (path : List ℕ) (past : List Entry) → IsLawful past → are_of (Task path) past ≡ true → completion_left_by path past ≡ None → (past ≡ []) × (is_main path ≡ false)
not_spawned path [] l own h = (refl, none_left (is_main path) (stage_of []) h)
not_spawned path (e ∷ es) l own h =
    let here = same_object_equal (object e) (Task path) (and_parts (same_object (object e) (Task path)) (are_of (Task path) es) own).0 in
    absurd (false≢true (sym (none_left (makes_task path e.op) (stage_of (e ∷ es)) h) ∙ first_makes path e.task e.op e.reply here l.0))

first_refused : (path task : List ℕ) (op : Op) → is_main path ≡ false → ((q : List ℕ) (how : How) → op ≡ Spawn q how → ⊥) → object_of task op ≡ Task path → reply_after [] task op ≡ None
first_refused path task Begin m n o =
    let p : task ≡ path = cc in ap (λ b. ok_if (b && true)) (ap is_main p ∙ m)
first_refused path task (Spawn q how) m n o = absurd (n q how refl)
first_refused path task (End value) m n o = refl
first_refused path task (Fail fault) m n o = refl
first_refused path task (Fetch q) m n o = refl
first_refused path task (Wait q) m n o = refl
first_refused path task Yield m n o = refl
first_refused path task op m n o = absurd (cc)

pub empty_past : (path : List ℕ) (past : List Entry) → IsLawful past → left_by (Task path) past ≡ Some (OfTask None) → (past ≡ []) × (is_main path ≡ false)
empty_past path past l h =
    let w = was (Task path) past (OfTask None) h in
    not_spawned path past l w.0 (let q = w.1 in cc)

-- a task that isn't there allows nothing but its Spawn
pub not_there : (task : List ℕ) (op : Op) → ((q : List ℕ) (how : How) → op ≡ Spawn q how → ⊥) → Asked ObjectState (left_by (object_of task op)) task op (OfTask None) NotYet (OfTask None)
not_there task op other = at (object_of task op) refl
  where
    at : (o : Object) → object_of task op ≡ o → Asked ObjectState (left_by o) task op (OfTask None) NotYet (OfTask None)
    at Printer n = never Printer task op (OfTask None) NotYet (OfTask None) (λ past h. absurd (cc)) (λ h. refl)
    at (Named name) n =
        never (Named name) task op (OfTask None) NotYet (OfTask None) (λ past. not_named past (OfTask None) refl (λ q. absurd (cc))) (λ h. refl)
    at (Task path) n =
        let none : (past : List Entry) → IsLawful past → left_by (Task path) past ≡ Some (OfTask None) → reply_after past task op ≡ None = λ past l h.
        let u = empty_past path past l h in
        ap (λ p. reply_after p task op) u.0 ∙ first_refused path task op u.1 other n in
        record {
          answers = λ past l h. sym (ap answer_of (none past l h));
          moves = λ past e l h t p r. absurd (let z = none past l h in cc);
          stays = λ h. refl;
        }

-- a Spawn makes the task
spawn_done : (task : List ℕ) (op : Op) (q : List ℕ) (how : How) (path : List ℕ) → op ≡ Spawn q how → q ≡ path → (past : List Entry) → IsLawful past → left_by (Task path) past ≡ Some (OfTask None) → reply_after past task op ≡ Some reply.Ok
spawn_done task op q how path is here past l h =
    let u = empty_past path past l h in
    ap (λ p. reply_after p task op) u.0 ∙ ap (λ x. reply_after [] task x) is ∙ ap (λ b. ok_if (not b)) (ap is_main here ∙ u.1)

pub can_spawn : (task : List ℕ) (op : Op) (q : List ℕ) (how : How) → op ≡ Spawn q how → Allowed ObjectState (left_by (object_of task op)) task op (OfTask None) true
can_spawn task op q how is past l h =
    let here : object_of task op ≡ Task q = ap (object_of task) is in
    sym (ap is_some (spawn_done task op q how q is refl past l (subst (λ o. left_by o past ≡ Some (OfTask None)) here h)))

pub spawned : (task : List ℕ) (op : Op) (q : List ℕ) (how : How) (c : Completion) → op ≡ Spawn q how → ((path : List ℕ) (how : How) → MadeBy Completion (completion_left_by path) (Spawn path how) c) → Asked ObjectState (left_by (object_of task op)) task op (OfTask None) (Done reply.Ok) (OfTask (Some c))
spawned task op q how c is m = at (object_of task op) refl
  where
    at : (o : Object) → object_of task op ≡ o → Asked ObjectState (left_by o) task op (OfTask None) (Done reply.Ok) (OfTask (Some c))
    at Printer n = never Printer task op (OfTask None) (Done reply.Ok) (OfTask (Some c)) (λ past h. absurd (cc)) (λ h. absurd (cc))
    at (Named name) n =
        never (Named name) task op (OfTask None) (Done reply.Ok) (OfTask (Some c)) (λ past. not_named past (OfTask None) refl (λ q. absurd (cc))) (λ h. absurd (cc))
    at (Task path) n =
        let here : q ≡ path = let z : Task q ≡ Task path = sym (ap (object_of task) is) ∙ n in cc in
        let done = spawn_done task op q how path is here in
        record {
          answers = λ past l h. sym (ap answer_of (done past l h));
          moves = λ past e l h t p r.
              let u = empty_past path past l h in
              let w = was (Task path) past (OfTask None) h in
              left_if (Task path) (past ++ e ∷ []) (own_more (Task path) past e task op w.0 t p n) ∙ ap (λ k. Some (OfTask (completion_left_by path (k ++ e ∷ [])))) u.0 ∙ ap (λ x. Some (OfTask x)) (m path how e (p ∙ is ∙ ap (λ x. Spawn x how) here));
          stays = λ h. absurd (cc);
        }

-- a named object that isn't made yet
first_ok : (op : Op) (task : List ℕ) → makes_object op ≡ true → reply_after [] task op ≡ Some reply.Ok
first_ok (NewChannel name c) task m = refl
first_ok (NewAtomic name v) task m = refl
first_ok (NewEvent name auto) task m = refl
first_ok (NewCondition name) task m = refl
first_ok (NewLock name) task m = refl
first_ok (NewSemaphore name n) task m = refl
first_ok op task m = absurd (cc)

first_some : (op : Op) (task : List ℕ) (name : Name) → object_of task op ≡ Named name → is_some (reply_after [] task op) ≡ makes_object op
first_some Begin task name n = absurd (cc)
first_some (End value) task name n = absurd (cc)
first_some (Fail fault) task name n = absurd (cc)
first_some (Spawn path how) task name n = absurd (cc)
first_some (Fetch path) task name n = absurd (cc)
first_some (Wait path) task name n = absurd (cc)
first_some Yield task name n = absurd (cc)
first_some (Print text) task name n = absurd (cc)
first_some op task name n = refl

pub unmade_allowed : (task : List ℕ) (op : Op) (answer : Bool) → answer ≡ makes_object op → Allowed ObjectState (left_by (object_of task op)) task op Unmade answer
unmade_allowed task op answer is = at (object_of task op) refl
  where
    at : (o : Object) → object_of task op ≡ o → Allowed ObjectState (left_by o) task op Unmade answer
    at Printer n past l h = absurd (let w = (was Printer past Unmade h).1 in cc)
    at (Task path) n past l h = absurd (let w = (was (Task path) past Unmade h).1 in cc)
    at (Named name) n past l h =
        is ∙ sym (first_some op task name n) ∙ ap (λ p. is_some (reply_after p task op)) (sym (unmade past (was (Named name) past Unmade h).1))

pub makes : (task : List ℕ) (op : Op) (new : ObjectState) → makes_object op ≡ true → MadeBy ObjectState named_left_by op new → Asked ObjectState (left_by (object_of task op)) task op Unmade (Done reply.Ok) new
makes task op new m made = at (object_of task op) refl
  where
    at : (o : Object) → object_of task op ≡ o → Asked ObjectState (left_by o) task op Unmade (Done reply.Ok) new
    at Printer n = never Printer task op Unmade (Done reply.Ok) new (λ past h. absurd (cc)) (λ h. absurd (cc))
    at (Task path) n = never (Task path) task op Unmade (Done reply.Ok) new (λ past h. absurd (cc)) (λ h. absurd (cc))
    at (Named name) n = record {
      answers = λ past l h.
          let z = unmade past (was (Named name) past Unmade h).1 in
          sym (ap (λ p. answer_of (reply_after p task op)) z ∙ ap answer_of (first_ok op task m));
      moves = λ past e l h t p r.
          let w = was (Named name) past Unmade h in
          left_if (Named name) (past ++ e ∷ []) (own_more (Named name) past e task op w.0 t p n) ∙ ap (λ k. named_left_by (k ++ e ∷ [])) (unmade past w.1) ∙ made e p;
      stays = λ h. absurd (cc);
    }

pub not_made : (task : List ℕ) (op : Op) → makes_object op ≡ false → Asked ObjectState (left_by (object_of task op)) task op Unmade NotYet Unmade
not_made task op m =
    refused ObjectState (left_by (object_of task op)) task op Unmade false refl (unmade_allowed task op false (sym m))

-- a task other than main without entries
pub none_first : (path : List ℕ) → nat_eq (length path) 0 ≡ false → completion_left_by path [] ≡ None
none_first [] m = absurd (cc)
none_first (k ∷ ks) m = refl
