-- An event answers by its law.
use Rattle.std.proofs.Common.{◌≡◌, ℕ, List, [], ◌∷◌, ◌++◌, Some, None, Bool, true, false, refl, sym, ap, ◌∙◌}
use Rattle.std.specs.Prelude.{◌&&◌, ◌||◌, not, if◌then◌else◌, option_map, option_and_then}
use Rattle.std.specs.List.{list_any}
use Rattle.std.proofs.lemmas.List.Folds.{list_any-append}
use Rattle.jt_base.specs.declared.operation.Op.TheVariants.{Notify, Reset, EWait}
use Rattle.jt_base.specs.declared.operation.Reply.{Reply}
use Rattle.jt_base.specs.declared.operation.Reply.TheVariants as reply
use Rattle.jt_base.specs.declared.entry.Entry.{Entry}
use Rattle.jt_base.specs.declared.entry.Ask.TheVariants.{Done, NotYet}
use Rattle.jt_base.specs.declared.name.Name.{Name}
use Rattle.jt_laws.specs.Tasks.{ok_if}
use Rattle.jt_laws.specs.Events.{auto_of, is_notify, unsets, is_set}
use Rattle.jt_laws.specs.Objects.{answer_of, Asked}
use Rattle.jt_laws.proofs.TaskLaws.{when_ok}
use Rattle.jt_conditions.specs.Events.{EventState, event_left_by, event_wait_answer, event_after_wait}

-- whether the event is set after one more entry
or_true : (b : Bool) → (b || true) ≡ true
or_true true = refl
or_true false = refl

and_not : (a b : Bool) → (a && not (b || (true || false))) ≡ false
and_not true true = refl
and_not true false = refl
and_not false true = refl
and_not false false = refl

or_same : (b : Bool) → (b || (false || false)) ≡ b
or_same true = refl
or_same false = refl

notified : (auto : Bool) (own : List Entry) (e : Entry) → is_notify e.op ≡ true → is_set auto (own ++ e ∷ []) ≡ true
notified auto [] e n = ap (λ b. (b && true) || false) n
notified auto (x ∷ xs) e n =
    ap (λ b. (is_notify x.op && not (list_any (λ y. unsets auto y.op) (xs ++ e ∷ []))) || b) (notified auto xs e n) ∙ or_true _

unset_now : (auto : Bool) (own : List Entry) (e : Entry) → is_notify e.op ≡ false → unsets auto e.op ≡ true → is_set auto (own ++ e ∷ []) ≡ false
unset_now auto [] e n u = ap (λ b. (b && true) || false) n
unset_now auto (x ∷ xs) e n u =
    ap (λ b. (is_notify x.op && not (list_any (λ y. unsets auto y.op) (xs ++ e ∷ []))) || b) (unset_now auto xs e n u)
    ∙ ap (λ b. (is_notify x.op && not b) || false) (list_any-append (λ (y : Entry). unsets auto y.op) xs (e ∷ []))
    ∙ ap (λ b. (is_notify x.op && not (list_any (λ y. unsets auto y.op) xs || (b || false))) || false) u
    ∙ ap (λ b. b || false) (and_not (is_notify x.op) (list_any (λ y. unsets auto y.op) xs))

set_yet : (auto : Bool) (own : List Entry) (e : Entry) → is_notify e.op ≡ false → unsets auto e.op ≡ false → is_set auto (own ++ e ∷ []) ≡ is_set auto own
set_yet auto [] e n u = ap (λ b. (b && true) || false) n
set_yet auto (x ∷ xs) e n u =
    ap (λ b. (is_notify x.op && not (list_any (λ y. unsets auto y.op) (xs ++ e ∷ []))) || b) (set_yet auto xs e n u)
    ∙ ap (λ b. (is_notify x.op && not b) || is_set auto xs) (list_any-append (λ (y : Entry). unsets auto y.op) xs (e ∷ []) ∙ ap (λ b. list_any (λ y. unsets auto y.op) xs || (b || false)) u ∙ or_same _)

-- an event is made by its first entry
found : (own : List Entry) (before : EventState) → event_left_by own ≡ Some before → (auto_of own ≡ Some before.auto) × (is_set before.auto own ≡ before.set)
found own before e =
    elim (auto_of own) as (λ o. option_map (λ (auto : Bool). record { auto = auto; set = is_set auto own }) o ≡ Some before → (o ≡ Some before.auto) × (is_set before.auto own ≡ before.set)) [
      | None ↦ λ q. absurd (cc)
      | Some auto ↦ λ q.
          let same : ◌≡◌ {A = EventState} (record { auto = auto; set = is_set auto own }) before = cc in
          (ap (λ s. Some s.auto) same, ap (λ s. is_set s own) (ap (λ s. s.auto) (sym same)) ∙ ap (λ s. s.set) same)
    ] e

still : (own : List Entry) (e : Entry) (auto : Bool) → auto_of own ≡ Some auto → auto_of (own ++ e ∷ []) ≡ Some auto
still [] e auto q = absurd (cc)
still (x ∷ xs) e auto q = q

left : (past : List Entry) (e : Entry) (auto set : Bool) → auto_of past ≡ Some auto → is_set auto (past ++ e ∷ []) ≡ set → event_left_by (past ++ e ∷ []) ≡ Some (record { auto = auto; set = set })
left past e auto set a s =
    ap (λ o. option_map (λ (b : Bool). record { auto = b; set = is_set b (past ++ e ∷ []) }) o) (still past e auto a)
    ∙ ap (λ b. Some (record { auto = auto; set = b })) s

-- a notify, a reset and a wait
pub notify_asked : (task : List ℕ) (n : Name) (before : EventState) → Asked EventState event_left_by task (Notify n) before (Done reply.Ok) (record { auto = before.auto; set = true })
notify_asked task n before = record {
  answers = λ past l s. let f = found past before s in
      ap (λ o. answer_of (option_map (λ (auto : Bool). reply.Ok) o)) (sym f.0);
  moves = λ past e l s by q a. let f = found past before s in
      left past e before.auto true f.0 (notified before.auto past e (ap is_notify q));
  stays = λ h. absurd (cc);
}

pub reset_asked : (task : List ℕ) (n : Name) (before : EventState) → Asked EventState event_left_by task (Reset n) before (Done reply.Ok) (record { auto = before.auto; set = false })
reset_asked task n before = record {
  answers = λ past l s. let f = found past before s in
      ap (λ o. answer_of (option_map (λ (auto : Bool). reply.Ok) o)) (sym f.0);
  moves = λ past e l s by q a. let f = found past before s in
      left past e before.auto false f.0 (unset_now before.auto past e (ap is_notify q) (ap (unsets before.auto) q));
  stays = λ h. absurd (cc);
}

waits : (b : Bool) → answer_of (ok_if b) ≡ (if b then Done reply.Ok else NotYet)
waits true = refl
waits false = refl

wait_answers : (past : List Entry) (auto set : Bool) → auto_of past ≡ Some auto → is_set auto past ≡ set → (if set then Done reply.Ok else NotYet) ≡ answer_of (option_and_then (λ (a : Bool). ok_if (is_set a past)) (auto_of past))
wait_answers past auto set a s =
    sym (waits set) ∙ ap (λ b. answer_of (ok_if b)) (sym s) ∙ ap (λ o. answer_of (option_and_then (λ (b : Bool). ok_if (is_set b past)) o)) (sym a)

wait_moves : (past : List Entry) (e : Entry) (auto set : Bool) (n : Name) (r : Reply) → auto_of past ≡ Some auto → is_set auto past ≡ set → e.op ≡ EWait n → option_and_then (λ (a : Bool). ok_if (is_set a past)) (auto_of past) ≡ Some r → event_left_by (past ++ e ∷ []) ≡ Some (event_after_wait (record { auto = auto; set = set }))
wait_moves past e auto set n r a s q given =
    let ok : is_set auto past ≡ true = when_ok (is_set auto past) r (ap (λ o. option_and_then (λ (b : Bool). ok_if (is_set b past)) o) (sym a) ∙ given) in
    let now : set ≡ true = sym s ∙ ok in
    let auto_now : is_set auto (past ++ e ∷ []) ≡ not auto = elim auto as (λ v. unsets auto e.op ≡ v → is_set auto (past ++ e ∷ []) ≡ not v) [
      | true ↦ λ u. unset_now auto past e (ap is_notify q) u
      | false ↦ λ u. set_yet auto past e (ap is_notify q) u ∙ ok
    ] (ap (unsets auto) q) in
    left past e auto (not auto) a auto_now ∙ ap (λ b. Some (event_after_wait (record { auto = auto; set = b }))) (sym now)

wait_stays : (s : EventState) → event_wait_answer s ≡ NotYet → event_after_wait s ≡ s
wait_stays s h =
    elim (s.set) as (λ b. s.set ≡ b → (if b then Done reply.Ok else NotYet) ≡ NotYet → ◌≡◌ {A = EventState} (if b then record { auto = s.auto; set = not s.auto } else s) s) [
      | true ↦ λ q g. absurd (cc)
      | false ↦ λ q g. refl
    ] refl h

pub wait_asked : (task : List ℕ) (n : Name) (before : EventState) → Asked EventState event_left_by task (EWait n) before (event_wait_answer before) (event_after_wait before)
wait_asked task n before = record {
  answers = λ past l s. let f = found past before s in wait_answers past before.auto before.set f.0 f.1;
  moves = λ past e l s by q a. let f = found past before s in
      wait_moves past e before.auto before.set n e.reply f.0 f.1 q a;
  stays = wait_stays before;
}
