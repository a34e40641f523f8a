-- A task's completion answers by the law of tasks.
use Rattle.std.proofs.Common.{◌≡◌, ℕ, List, [], ◌∷◌, ◌++◌, Option, Some, None, Bool, true, false, refl, sym, ap, ◌∙◌, cond}
use Rattle.std.specs.Prelude.{◌&&◌, ◌||◌, not, if◌then◌else◌, is_some, find, option_and_then}
use Rattle.std.specs.Option.{option_or}
use Rattle.std.proofs.lemmas.List.Folds.{find-append}
use Rattle.jt_base.specs.declared.operation.Op.{Op}
use Rattle.jt_base.specs.declared.operation.Op.TheVariants.{Begin, End, Fail, Spawn, Fetch, Wait, Yield}
use Rattle.jt_base.specs.declared.operation.How.{How}
use Rattle.jt_base.specs.declared.operation.Reply.{Reply}
use Rattle.jt_base.specs.declared.entry.Entry.{Entry}
use Rattle.jt_base.specs.declared.entry.Ask.{Ask}
use Rattle.jt_base.specs.declared.entry.Ask.TheVariants.{NotYet}
use Rattle.jt_base.specs.Objects.{object_of}
use Rattle.jt_laws.specs.Entries.{spawns, ends}
use Rattle.jt_base.specs.declared.object.Object.TheVariants.{Task}
use Rattle.jt_laws.specs.Tasks.{ok_if, is_new, is_main, is_begin, is_spawned, has_begun, has_ended, fetch_of, wait_of}
use Rattle.jt_laws.specs.Objects.{reply_after, IsLawful, answer_of, Asked, Allowed}
use Rattle.jt_laws.proofs.Paths.{same_itself}
use Rattle.jt_laws.proofs.TaskLaws.{begun_push, ended_begun, when_ok, both_true}
use Rattle.jt_conditions.specs.Answers.{is_done}
use Rattle.jt_conditions.specs.declared.completion.Completion.{Completion}
use Rattle.jt_conditions.specs.declared.completion.Completion.TheVariants.{Spawned, Running, Ended, Failed}
use Rattle.jt_conditions.specs.Completions.{outcome_of, stage_by, stage_of, is_there, makes_task, completion_left_by}
use Rattle.jt_conditions.specs.CompletionSteps.{begin_answer, begun, running_answer, finished, fetch_answer, wait_answer}
use Rattle.jt_conditions.proofs.Asking.{allowed_by}

-- the answer, and the state after it, by the operation
abbrev pub answer : Op → Completion → Ask
answer Begin s = begin_answer s
answer Yield s = running_answer s
answer (End value) s = running_answer s
answer (Fail fault) s = running_answer s
answer (Fetch path) s = fetch_answer s
answer (Wait path) s = wait_answer s
answer op s = NotYet

abbrev pub after : Op → Completion → Completion
after Begin s = begun s
after (End value) s = finished (Ended value) s
after (Fail fault) s = finished Failed s
after op s = s

-- what the two conditions of the state say
taken : (b : Bool) (s before : Completion) → (if b then Some s else None) ≡ Some before → (b ≡ true) × (s ≡ before)
taken true s before e = (refl, cc)
taken false s before e = absurd (cc)

found_ends : (own : List Entry) (e : Entry) → find (λ x. ends x.op) own ≡ Some e → ends e.op ≡ true
found_ends [] e f = absurd (cc)
found_ends (x ∷ xs) e f =
    elim (ends x.op) as (λ b. ends x.op ≡ b → cond b (Some x) (find (λ y. ends y.op) xs) ≡ Some e → ends e.op ≡ true) [
      | true ↦ λ q g. let same : x ≡ e = cc in ap (λ y. ends y.op) (sym same) ∙ q
      | false ↦ λ q g. found_ends xs e g
    ] refl f

found_any : (own : List Entry) → has_ended own ≡ is_some (find (λ x. ends x.op) own)
found_any [] = refl
found_any (x ∷ xs) =
    elim (ends x.op) as (λ b. (b || has_ended xs) ≡ is_some (cond b (Some x) (find (λ y. ends y.op) xs))) [
      | true ↦ refl
      | false ↦ found_any xs
    ]

-- a task that has not begun is there only by its Spawn, or as the main task
spawned_yet : (own : List Entry) (path : List ℕ) → is_there path own ≡ true → has_begun own ≡ false → is_spawned own path ≡ true
spawned_yet [] path t b = t
spawned_yet (e ∷ es) path t b =
    let cases : (s m g r : Bool) → (s || (m && g)) ≡ true → (g || r) ≡ false → s ≡ true = λ s m g r p q.
    elim s as (λ v. (v || (m && g)) ≡ true → v ≡ true) [
      | true ↦ λ _. refl
      | false ↦ λ h. absurd (let c = (both_true m g h).1 in let d : true ≡ false = ap (λ v. v || r) (sym c) ∙ q in cc)
    ] p in
    cases (spawns e.op path) (is_main path) (is_begin e.op) (has_begun es) t b

-- the answers, by the entry that ends the task and whether it has begun
over_begin : (op : Op) → begin_answer (outcome_of op) ≡ NotYet
over_begin (End value) = refl
over_begin op = refl

over_running : (op : Op) → running_answer (outcome_of op) ≡ NotYet
over_running (End value) = refl
over_running op = refl

not_again : (s : Bool) → answer_of (ok_if (s && false)) ≡ NotYet
not_again true = refl
not_again false = refl

begins : (o : Option Entry) (b s : Bool) → (is_some o ≡ true → b ≡ true) → (b ≡ false → s ≡ true) → answer_of (ok_if (s && not b)) ≡ begin_answer (stage_by o b)
begins (Some e) true s h g = not_again s ∙ sym (over_begin e.op)
begins (Some e) false s h g = absurd (let p = h refl in cc)
begins None true s h g = not_again s
begins None false s h g = ap (λ v. answer_of (ok_if (v && true))) (g refl)

runs : (o : Option Entry) (b : Bool) → answer_of (ok_if (b && not (is_some o))) ≡ running_answer (stage_by o b)
runs (Some e) true = sym (over_running e.op)
runs (Some e) false = sym (over_running e.op)
runs None true = refl
runs None false = refl

fetched : (op : Op) → ends op ≡ true → answer_of (fetch_of op) ≡ fetch_answer (outcome_of op)
fetched (End value) e = refl
fetched (Fail fault) e = refl
fetched op e = absurd (cc)

waited : (op : Op) → ends op ≡ true → answer_of (wait_of op) ≡ wait_answer (outcome_of op)
waited (End value) e = refl
waited (Fail fault) e = refl
waited op e = absurd (cc)

fetches : (o : Option Entry) (b : Bool) → ((e : Entry) → o ≡ Some e → ends e.op ≡ true) → answer_of (option_and_then (λ (e : Entry). fetch_of e.op) o) ≡ fetch_answer (stage_by o b)
fetches (Some e) b h = fetched e.op (h e refl)
fetches None true h = refl
fetches None false h = refl

waits : (o : Option Entry) (b : Bool) → ((e : Entry) → o ≡ Some e → ends e.op ≡ true) → answer_of (option_and_then (λ (e : Entry). wait_of e.op) o) ≡ wait_answer (stage_by o b)
waits (Some e) b h = waited e.op (h e refl)
waits None true h = refl
waits None false h = refl

no_spawn : (own : List Entry) (path q : List ℕ) → is_there path own ≡ true → q ≡ path → ok_if (is_new own && not (is_main q)) ≡ None
no_spawn [] path q t e = ap (λ b. ok_if (not b)) (ap is_main e ∙ t)
no_spawn (x ∷ xs) path q t e = refl

same_running : (own : List Entry) → answer_of (ok_if (has_begun own && not (has_ended own))) ≡ running_answer (stage_of own)
same_running own =
    ap (λ v. answer_of (ok_if (has_begun own && not v))) (found_any own) ∙ runs (find (λ x. ends x.op) own) (has_begun own)

pub answers : (path task : List ℕ) (op : Op) (own : List Entry) → IsLawful own → is_there path own ≡ true → object_of task op ≡ Task path → answer_of (reply_after own task op) ≡ answer op (stage_of own)
answers path task Begin own l t o =
    let p : task ≡ path = cc in
    begins (find (λ x. ends x.op) own) (has_begun own) (is_spawned own task)
    (λ h. ended_begun own l (found_any own ∙ h))
    (λ h. spawned_yet own task (ap (λ q. is_there q own) p ∙ t) h)
answers path task Yield own l t o = same_running own
answers path task (End value) own l t o = same_running own
answers path task (Fail fault) own l t o = same_running own
answers path task (Fetch q) own l t o = fetches (find (λ x. ends x.op) own) (has_begun own) (found_ends own)
answers path task (Wait q) own l t o = waits (find (λ x. ends x.op) own) (has_begun own) (found_ends own)
answers path task (Spawn q how) own l t o = let p : q ≡ path = cc in ap answer_of (no_spawn own path q t p)
answers path task op own l t o = absurd (cc)

-- one more entry
stage_push : (own : List Entry) (e : Entry) → stage_of (own ++ e ∷ []) ≡ stage_by (option_or (find (λ x. ends x.op) own) (cond (ends e.op) (Some e) None)) (has_begun own || (is_begin e.op || false))
stage_push own e =
    ap (λ o. stage_by o (has_begun (own ++ e ∷ []))) (find-append (λ (x : Entry). ends x.op) own (e ∷ []))
    ∙ ap (stage_by (option_or (find (λ x. ends x.op) own) (cond (ends e.op) (Some e) None))) (begun_push own e)

ends_now : (o : Option Entry) (b : Bool) (e : Entry) (op : Op) → (b && not (is_some o)) ≡ true → ends op ≡ true → stage_by (option_or o (cond (ends op) (Some e) None)) (b || (is_begin op || false)) ≡ outcome_of e.op
ends_now None b e op h q = ap (λ v. stage_by (cond v (Some e) None) (b || (is_begin op || false))) q
ends_now (Some x) true e op h q = absurd (cc)
ends_now (Some x) false e op h q = absurd (cc)

running_now : (o : Option Entry) (b : Bool) (outcome : Completion) → (b && not (is_some o)) ≡ true → finished outcome (stage_by o b) ≡ outcome
running_now None true outcome h = refl
running_now None false outcome h = absurd (cc)
running_now (Some x) true outcome h = absurd (cc)
running_now (Some x) false outcome h = absurd (cc)

begins_now : (o : Option Entry) (b s : Bool) → (is_some o ≡ true → b ≡ true) → (s && not b) ≡ true → stage_by (option_or o None) (b || true) ≡ begun (stage_by o b)
begins_now (Some e) true s h q = absurd (let n = (both_true s false q).1 in cc)
begins_now (Some e) false s h q = absurd (let n = h refl in cc)
begins_now None true s h q = absurd (let n = (both_true s false q).1 in cc)
begins_now None false s h q = refl

unmoved : (o : Option Entry) (b : Bool) → stage_by (option_or o None) (b || false) ≡ stage_by o b
unmoved (Some e) true = refl
unmoved (Some e) false = refl
unmoved None true = refl
unmoved None false = refl

still_running : (own : List Entry) (r : Reply) → ok_if (has_begun own && not (has_ended own)) ≡ Some r → (has_begun own && not (is_some (find (λ x. ends x.op) own))) ≡ true
still_running own r a =
    ap (λ v. has_begun own && not v) (sym (found_any own)) ∙ when_ok (has_begun own && not (has_ended own)) r a

ended_now : (own : List Entry) (e : Entry) (op : Op) (r : Reply) → e.op ≡ op → ends op ≡ true → ok_if (has_begun own && not (has_ended own)) ≡ Some r → stage_by (option_or (find (λ x. ends x.op) own) (cond (ends op) (Some e) None)) (has_begun own || (is_begin op || false)) ≡ finished (outcome_of op) (stage_of own)
ended_now own e op r q n a =
    let h = still_running own r a in
    ends_now (find (λ x. ends x.op) own) (has_begun own) e op h n ∙ ap outcome_of q ∙ sym (running_now (find (λ x. ends x.op) own) (has_begun own) (outcome_of op) h)

moved_by : (path task : List ℕ) (op : Op) (own : List Entry) (e : Entry) (r : Reply) → IsLawful own → is_there path own ≡ true → object_of task op ≡ Task path → e.op ≡ op → reply_after own task op ≡ Some r → stage_by (option_or (find (λ x. ends x.op) own) (cond (ends op) (Some e) None)) (has_begun own || (is_begin op || false)) ≡ after op (stage_of own)
moved_by path task Begin own e r l t o q a =
    begins_now (find (λ x. ends x.op) own) (has_begun own) (is_spawned own task) (λ h. ended_begun own l (found_any own ∙ h)) (when_ok (is_spawned own task && not (has_begun own)) r a)
moved_by path task Yield own e r l t o q a = unmoved (find (λ x. ends x.op) own) (has_begun own)
moved_by path task (End value) own e r l t o q a = ended_now own e (End value) r q refl a
moved_by path task (Fail fault) own e r l t o q a = ended_now own e (Fail fault) r q refl a
moved_by path task (Fetch p) own e r l t o q a = unmoved (find (λ x. ends x.op) own) (has_begun own)
moved_by path task (Wait p) own e r l t o q a = unmoved (find (λ x. ends x.op) own) (has_begun own)
moved_by path task (Spawn p how) own e r l t o q a = absurd (let s : p ≡ path = cc in let n = no_spawn own path p t s in cc)
moved_by path task op own e r l t o q a = absurd (cc)

-- the first entry of the main task is its Begin
first_begins : (path task : List ℕ) (op : Op) (r : Reply) → is_main path ≡ true → object_of task op ≡ Task path → reply_after [] task op ≡ Some r → makes_task path op ≡ true
first_begins path task Begin r m o a = ap (λ b. b && true) m
first_begins path task (Spawn q how) r m o a =
    absurd (let s : q ≡ path = cc in let n = no_spawn [] path q m s in cc)
first_begins path task op r m o a = absurd (cc)

there_yet : (path task : List ℕ) (op : Op) (own : List Entry) (e : Entry) (r : Reply) → is_there path own ≡ true → object_of task op ≡ Task path → e.op ≡ op → reply_after own task op ≡ Some r → is_there path (own ++ e ∷ []) ≡ true
there_yet path task op [] e r t o q a = ap (makes_task path) q ∙ first_begins path task op r t o a
there_yet path task op (x ∷ xs) e r t o q a = t

moves : (path task : List ℕ) (op : Op) (own : List Entry) (e : Entry) → IsLawful own → is_there path own ≡ true → object_of task op ≡ Task path → e.op ≡ op → reply_after own task op ≡ Some e.reply → completion_left_by path (own ++ e ∷ []) ≡ Some (after op (stage_of own))
moves path task op own e l t o q a =
    let s : stage_of (own ++ e ∷ []) ≡ after op (stage_of own) =
    stage_push own e ∙ ap (λ p. stage_by (option_or (find (λ x. ends x.op) own) (cond (ends p) (Some e) None)) (has_begun own || (is_begin p || false))) q ∙ moved_by path task op own e e.reply l t o q a in
    ap (λ b. if b then Some (stage_of (own ++ e ∷ [])) else None) (there_yet path task op own e e.reply t o q a) ∙ ap Some s

stays : (op : Op) (s : Completion) → answer op s ≡ NotYet → after op s ≡ s
stays Begin Spawned e = absurd (cc)
stays Begin s e = refl
stays (End value) Running e = absurd (cc)
stays (End value) s e = refl
stays (Fail fault) Running e = absurd (cc)
stays (Fail fault) s e = refl
stays op s e = refl

-- an answer as above is that of the law
pub asked : (op : Op) (before : Completion) (given : Ask) (new : Completion) → given ≡ answer op before → new ≡ after op before → (path task : List ℕ) → object_of task op ≡ Task path → Asked Completion (completion_left_by path) task op before given new
asked op before given new g n path task o = record {
  answers = λ past l s.
      let t = taken (is_there path past) (stage_of past) before s in
      g ∙ ap (answer op) (sym t.1) ∙ sym (answers path task op past l t.0 o);
  moves = λ past e l s by q a.
      let t = taken (is_there path past) (stage_of past) before s in
      moves path task op past e l t.0 o q a ∙ ap (λ b. Some (after op b)) t.1 ∙ ap Some (sym n);
  stays = λ h. n ∙ stays op before (sym g ∙ h);
}

-- and what is allowed is what it answers by a reply
pub allowed : (op : Op) (state : Completion) (given : Bool) → given ≡ is_done (answer op state) → (path task : List ℕ) → object_of task op ≡ Task path → Allowed Completion (completion_left_by path) task op state given
allowed op state given g path task o =
    allowed_by Completion (completion_left_by path) task op op state given (answer op state) (after op state) refl g (asked op state _ _ refl refl path task o)

-- the Spawn of a task leaves one that has not begun
pub made : (path : List ℕ) (how : How) (e : Entry) → e.op ≡ Spawn path how → completion_left_by path (e ∷ []) ≡ Some Spawned
made path how e q =
    let P : Op → Option Completion = λ op. if makes_task path op then Some (stage_by (cond (ends op) (Some e) None) (is_begin op || false)) else None in
    ap P q ∙ ap (λ b. if (b || (is_main path && false)) then Some Spawned else None) (same_itself path)
