-- A task comes back from no more waits than were notified, and a notify wakes the oldest.
use Rattle.std.proofs.Common.{◌≡◌, ℕ, ◌+◌, ◌<◌, ◌≤◌, List, [], ◌∷◌, ◌++◌, inl, inr, length, take, drop, Some, None, Bool, true, false, refl, sym, ap, subst, ◌∙◌, cond, arith}
use Rattle.std.specs.Prelude.{◌&&◌, pos, filter, if◌then◌else◌}
use Rattle.std.proofs.lemmas.Bool.Decides.{nat_tests}
use Rattle.std.proofs.lemmas.List.{take-append-drop}
use Rattle.jt_base.specs.declared.operation.Op.{Op}
use Rattle.jt_base.specs.declared.operation.Op.TheVariants.{CWait, CBack, CNotify}
use Rattle.jt_base.specs.declared.operation.Reply.{Reply}
use Rattle.jt_base.specs.declared.operation.Reply.TheVariants as reply
use Rattle.jt_base.specs.declared.entry.Entry.{Entry}
use Rattle.jt_base.specs.declared.name.Name.{Name}
use Rattle.jt_laws.specs.Entries.{same_path}
use Rattle.jt_laws.specs.Locks.{is_ok, joined, waits_of, backs_of, places_of, waiting_of, waiting_by, without_first, is_wait, is_back, is_condition, is_free, is_held_by_other, is_notified, woken_by, back_reply, notify_reply}
use Rattle.jt_laws.specs.LockLaws.{Among, WakesOldest}
use Rattle.jt_laws.specs.Objects.{reply_after, IsLawful}
use Rattle.jt_laws.proofs.Lawful.{along, split}
use Rattle.jt_laws.proofs.Paths.{same_equal, same_of}
use Rattle.jt_laws.proofs.TaskLaws.{when_ok, both_true}
use Rattle.jt_laws.proofs.Waits.{waits_more, waits_other, waits_not, backs_more, backs_other, backs_not, waiting_push, places_in, places_more, places_other, places_split, is_quiet, quiet_wait, quiet_back, quiet_waiting}

abbrev Within : List Entry → Type 0
Within own = (q : List ℕ) → backs_of q own + places_of q own ≤ waits_of q own

pub ok_is : (r : Reply) → is_ok r ≡ true → r ≡ reply.Ok
ok_is reply.Ok e = refl
ok_is r e = absurd (cc)

pub joined_not : (task : List ℕ) (r : Reply) (ws : List (List ℕ)) → is_ok r ≡ false → joined task r ws ≡ ws
joined_not task reply.Ok ws e = absurd (cc)
joined_not task r ws e = refl

-- a wait
waits_within : (own : List Entry) (e : Entry) (n : Name) → Within own → e.op ≡ CWait n → Within (own ++ e ∷ [])
waits_within own e n c q r =
    let backs = backs_not r own e (ap is_back q) in
    let before = c r in
    let list : waiting_of (own ++ e ∷ []) ≡ joined e.task e.reply (waiting_of own) = waiting_push own e ∙ ap (λ o. waiting_by o (waiting_of own) e.task e.reply) q in
    elim (is_ok e.reply) as (λ b. is_ok e.reply ≡ b → backs_of r (own ++ e ∷ []) + places_of r (own ++ e ∷ []) ≤ waits_of r (own ++ e ∷ [])) [
      | false ↦ λ k.
          let w = waits_not r own e (ap (λ o. is_wait o e.reply) q ∙ k) in
          let p : places_of r (own ++ e ∷ []) ≡ places_of r own = ap (places_in r) (list ∙ joined_not e.task e.reply (waiting_of own) k) in
          omega (arith, w, p, backs, before)
      | true ↦ λ k.
          let now : waiting_of (own ++ e ∷ []) ≡ waiting_of own ++ e.task ∷ [] = list ∙ ap (λ v. joined e.task v (waiting_of own)) (ok_is e.reply k) in
          elim (same_path e.task r) as (λ b. same_path e.task r ≡ b → backs_of r (own ++ e ∷ []) + places_of r (own ++ e ∷ []) ≤ waits_of r (own ++ e ∷ [])) [
            | false ↦ λ s.
                let w = waits_other r own e s in
                let p : places_of r (own ++ e ∷ []) ≡ places_of r own = ap (places_in r) now ∙ places_other r e.task (waiting_of own) s in
                omega (arith, w, p, backs, before)
            | true ↦ λ s.
                let w = waits_more r own e s (ap (λ o. is_wait o e.reply) q ∙ k) in
                let p : places_of r (own ++ e ∷ []) ≡ places_of r own + 1 = ap (places_in r) now ∙ places_more r e.task (waiting_of own) s in
                omega (arith, w, p, backs, before)
          ] refl
    ] refl

-- a return needs the lock to be free, and a wait that was notified
pub was_notified : (own : List Entry) (task : List ℕ) (r : Reply) → back_reply own task ≡ Some r → (is_free own ≡ true) × (backs_of task own + places_of task own < waits_of task own)
was_notified own task r given =
    let b = (both_true (is_condition own) (is_free own && is_notified task own) (when_ok _ r given)).1 in
    let f = both_true (is_free own) (is_notified task own) b in
    let n = f.1 in
    (f.0, grind (arith, nat_tests))

back_within : (own : List Entry) (e : Entry) (n : Name) → Within own → e.op ≡ CBack n → back_reply own e.task ≡ Some e.reply → Within (own ++ e ∷ [])
back_within own e n c q given r =
    let w = waits_not r own e (ap (λ o. is_wait o e.reply) q) in
    let before = c r in
    let p : places_of r (own ++ e ∷ []) ≡ places_of r own = ap (places_in r) (waiting_push own e ∙ ap (λ o. waiting_by o (waiting_of own) e.task e.reply) q) in
    elim (same_path e.task r) as (λ b. same_path e.task r ≡ b → backs_of r (own ++ e ∷ []) + places_of r (own ++ e ∷ []) ≤ waits_of r (own ++ e ∷ [])) [
      | false ↦ λ s. let b = backs_other r own e s in omega (arith, w, p, b, before)
      | true ↦ λ s.
          let b = backs_more r own e s (ap is_back q) in
          let below = subst (λ z. backs_of z own + places_of z own < waits_of z own) (same_equal e.task r s) (was_notified own e.task e.reply given).1 in
          omega (arith, w, p, b, below)
    ] refl

fewer_places : (q : List ℕ) (r : Reply) (ws : List (List ℕ)) → places_in q (without_first r ws) ≤ places_in q ws
fewer_places q (reply.Int (pos n)) ws = let s = places_split q n ws in omega (arith, s)
fewer_places q r ws = omega arith

notify_within : (own : List Entry) (e : Entry) (n : Name) (all : Bool) → Within own → e.op ≡ CNotify n all → Within (own ++ e ∷ [])
notify_within own e n all c q r =
    let p : places_of r (own ++ e ∷ []) ≡ places_in r (without_first e.reply (waiting_of own)) = ap (places_in r) (waiting_push own e ∙ ap (λ o. waiting_by o (waiting_of own) e.task e.reply) q) in
    let f = fewer_places r e.reply (waiting_of own) in
    let w = waits_not r own e (ap (λ o. is_wait o e.reply) q) in
    let b = backs_not r own e (ap is_back q) in
    let before = c r in
    omega (arith, p, f, w, b, before)

quiet_within : (own : List Entry) (e : Entry) → Within own → is_quiet e.op ≡ true → Within (own ++ e ∷ [])
quiet_within own e c k r =
    let p : places_of r (own ++ e ∷ []) ≡ places_of r own = ap (places_in r) (waiting_push own e ∙ quiet_waiting e.op (waiting_of own) e.task e.reply k) in
    let w = waits_not r own e (quiet_wait e.op e.reply k) in
    let b = backs_not r own e (quiet_back e.op k) in
    let before = c r in
    omega (arith, p, w, b, before)

one_more : (op : Op) (own : List Entry) (e : Entry) → Within own → e.op ≡ op → reply_after own e.task op ≡ Some e.reply → Within (own ++ e ∷ [])
one_more (CWait n) own e c q a = waits_within own e n c q
one_more (CBack n) own e c q a = back_within own e n c q a
one_more (CNotify n all) own e c q a = notify_within own e n all c q
one_more op own e c q a = quiet_within own e c (ap is_quiet q)

-- the returns of a task and its places in the waiting list are no more than its waits
pub backs_within : (own : List Entry) → IsLawful own → (q : List ℕ) → backs_of q own + places_of q own ≤ waits_of q own
backs_within own l =
    along Within (λ past e c a. one_more e.op past e c refl a) [] own (λ q. omega arith) l

-- how many a notify wakes
count_replied : (free other : Bool) (k n : ℕ) → Some (if free then reply.NotLocked else if other then reply.NotOwner else reply.Int (pos k)) ≡ Some (reply.Int (pos n)) → k ≡ n
count_replied true other k n e = absurd (cc)
count_replied false true k n e = absurd (cc)
count_replied false false k n e = cc

replied : (own : List Entry) (task : List ℕ) (all : Bool) (n : ℕ) → notify_reply own task all ≡ Some (reply.Int (pos n)) → woken_by all own ≡ n
replied own task all n a =
    elim (is_condition own) as (λ b. (if b then Some (if is_free own then reply.NotLocked else if is_held_by_other task own then reply.NotOwner else reply.Int (pos (woken_by all own))) else None) ≡ Some (reply.Int (pos n)) → woken_by all own ≡ n) [
      | true ↦ λ g. count_replied (is_free own) (is_held_by_other task own) (woken_by all own) n g
      | false ↦ λ g. absurd (cc)
    ] a

here : (path w : List ℕ) (ws : List (List ℕ)) → same_path w path ≡ true → 0 < places_in path (w ∷ ws)
here path w ws s =
    let n : places_in path (w ∷ ws) ≡ length (w ∷ filter (λ x. same_path x path) ws) = ap (λ b. length (cond b (w ∷ filter (λ x. same_path x path) ws) (filter (λ x. same_path x path) ws))) s in
    omega (arith, n)

among_places : (path : List ℕ) (ws : List (List ℕ)) → Among path ws → 0 < places_in path ws
among_places path [] i = absurd i
among_places path (w ∷ ws) (inl s) = here path w ws (same_of w path s)
among_places path (w ∷ ws) (inr i) =
    let h = among_places path ws i in
    elim (same_path w path) as (λ b. 0 < length (cond b (w ∷ filter (λ x. same_path x path) ws) (filter (λ x. same_path x path) ws))) [
      | true ↦ omega arith
      | false ↦ h
    ]

pub wakes_oldest : (own : List Entry) (e : Entry) (name : Name) (all : Bool) (n : ℕ) → IsLawful (own ++ e ∷ []) → e.op ≡ CNotify name all → e.reply ≡ reply.Int (pos n) → WakesOldest own e all n
wakes_oldest own e name all n l q r =
    let both = split [] own (e ∷ []) l in
    let given : notify_reply own e.task all ≡ Some (reply.Int (pos n)) = ap (reply_after own e.task) (sym q) ∙ both.1.0 ∙ ap Some r in
    let ws : waiting_of (own ++ e ∷ []) ≡ drop n (waiting_of own) =
    waiting_push own e ∙ ap (λ o. waiting_by o (waiting_of own) e.task e.reply) q ∙ ap (λ v. without_first v (waiting_of own)) r in
    record {
      number = sym (replied own e.task all n given);
      oldest = sym (take-append-drop n (waiting_of own)) ∙ ap (λ x. take n (waiting_of own) ++ x) (sym ws);
      notified = λ path i.
          let p : places_of path (own ++ e ∷ []) ≡ places_in path (drop n (waiting_of own)) = ap (places_in path) ws in
          let s = places_split path n (waiting_of own) in
          let g = among_places path (take n (waiting_of own)) i in
          let w = waits_not path own e (ap (λ o. is_wait o e.reply) q) in
          let b = backs_not path own e (ap is_back q) in
          let h = backs_within own both.0 path in
          let below : backs_of path (own ++ e ∷ []) + places_of path (own ++ e ∷ []) < waits_of path (own ++ e ∷ []) = omega (arith, p, s, g, w, b, h) in
          grind (arith, nat_tests);
    }
