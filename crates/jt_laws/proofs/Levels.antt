-- While a task neither waits nor comes back, its level changes by its locks and unlocks.
use Rattle.std.proofs.Common.{◌≡◌, ℕ, ◌+◌, ◌-◌, ◌<◌, List, [], ◌∷◌, ◌++◌, inl, inr, length, Some, None, Bool, true, false, refl, sym, ap, subst, ◌∙◌, append_assoc, arith}
use Rattle.std.specs.Prelude.{◌&&◌, nat_eq, filter, if◌then◌else◌}
use Rattle.std.specs.List.{list_all}
use Rattle.std.proofs.lemmas.Bool.Decides.{nat_tests}
use Rattle.std.proofs.lemmas.List.{append-nil}
use Rattle.jt_base.specs.declared.operation.Op.{Op}
use Rattle.jt_base.specs.declared.operation.Op.TheVariants.{Lock, Unlock, CWait, CBack}
use Rattle.jt_base.specs.declared.operation.Reply.{Reply}
use Rattle.jt_base.specs.declared.operation.Reply.TheVariants as reply
use Rattle.jt_base.specs.declared.entry.Entry.{Entry}
use Rattle.jt_base.specs.declared.name.Name.{Name}
use Rattle.jt_laws.specs.Entries.{same_path, of_task, In}
use Rattle.jt_laws.specs.Locks.{Levels, is_ok, unlocked, waits, levels_by, levels_of, level, waits_of, backs_of, is_wait, is_back, is_free, is_held_by_other, is_lock, unlock_reply}
use Rattle.jt_laws.specs.LockLaws.{is_lock_entry, is_unlock_entry, locks_of, unlocks_of, LevelsAddUp, IsWaitOf, IsReturnOf, EndsWithReturn, StartsWith, Stays, AddsUpSince, LastStart}
use Rattle.jt_laws.specs.Objects.{reply_after, LawfulFrom, IsLawful}
use Rattle.jt_laws.proofs.Counts.{count_more, count_same}
use Rattle.jt_laws.proofs.Lawful.{along, split}
use Rattle.jt_laws.proofs.LockLaws.{levels_own, levels_other, not_held_only}
use Rattle.jt_laws.proofs.Notified.{was_notified, backs_within, ok_is}
use Rattle.jt_laws.proofs.Parts.{waits_parts, backs_parts, levels_waited, returned}
use Rattle.jt_laws.proofs.Paths.{same_equal}
use Rattle.jt_laws.proofs.Waits.{of_task_own, of_task_other, waits_more, waits_other, waits_not, backs_more, backs_other, backs_not}

not_all : (p : Entry → Bool) (own : List Entry) → list_all p own ≡ false → (e : Entry) × (In e own × (p e ≡ false))
not_all p [] h = absurd (cc)
not_all p (x ∷ xs) h =
    elim (p x) as (λ b. p x ≡ b → (b && list_all p xs) ≡ false → (e : Entry) × (In e (x ∷ xs) × (p e ≡ false))) [
      | true ↦ λ q g. let r = not_all p xs g in (r.0, (inr r.1.0, r.1.1))
      | false ↦ λ q g. (x, (inl refl, q))
    ] refl h

replied_ok : (free other : Bool) → Some (if free then reply.NotLocked else if other then reply.NotOwner else reply.Ok) ≡ Some reply.Ok → (free ≡ false) × (other ≡ false)
replied_ok true other e = absurd (cc)
replied_ok false true e = absurd (cc)
replied_ok false false e = (refl, refl)

-- who gives a lock back has a level
unlock_held : (own : List Entry) (task : List ℕ) → unlock_reply own task ≡ Some reply.Ok → 0 < level task own
unlock_held own task a =
    elim (is_lock own) as (λ b. (if b then Some (if is_free own then reply.NotLocked else if is_held_by_other task own then reply.NotOwner else reply.Ok) else None) ≡ Some reply.Ok → 0 < level task own) [
      | false ↦ λ g. absurd (cc)
      | true ↦ λ g.
          let r = replied_ok (is_free own) (is_held_by_other task own) g in
          let e = not_all (λ (x : Entry). nat_eq (level x.task own) 0) own r.0 in
          let z = e.1.1 in
          let h : 0 < level e.0.task own = grind (arith, nat_tests) in
          subst (λ t. 0 < level t own) (not_held_only task own r.1 e.0.task h) h
    ] a

-- a test of the task's entries
more : (p : Entry → Bool) (q : List ℕ) (own : List Entry) (e : Entry) → same_path e.task q ≡ true → p e ≡ true → length (filter p (of_task q (own ++ e ∷ []))) ≡ length (filter p (of_task q own)) + 1
more p q own e s h = ap (λ l. length (filter p l)) (of_task_own q own e s) ∙ count_more p (of_task q own) e h

same : (p : Entry → Bool) (q : List ℕ) (own : List Entry) (e : Entry) → same_path e.task q ≡ true → p e ≡ false → length (filter p (of_task q (own ++ e ∷ []))) ≡ length (filter p (of_task q own))
same p q own e s h = ap (λ l. length (filter p l)) (of_task_own q own e s) ∙ count_same p (of_task q own) e h

other : (p : Entry → Bool) (q : List ℕ) (own : List Entry) (e : Entry) → same_path e.task q ≡ false → length (filter p (of_task q (own ++ e ∷ []))) ≡ length (filter p (of_task q own))
other p q own e s = ap (λ l. length (filter p l)) (of_task_other q own e s)

unlocked_no : (l : Levels) (r : Reply) → is_ok r ≡ false → unlocked l r ≡ l
unlocked_no l reply.Ok e = absurd (cc)
unlocked_no l r e = refl

waits_no : (l : Levels) (r : Reply) → is_ok r ≡ false → waits l r ≡ l
waits_no l reply.Ok e = absurd (cc)
waits_no l r e = refl

-- a level that the task had, and what it did since
abbrev pub Adds : List ℕ → ℕ → List Entry → List Entry → Type 0
Adds q had own since = level q own + unlocks_of q since ≡ had + locks_of q since

unlock_adds : (q : List ℕ) (had : ℕ) (own since : List Entry) (e : Entry) (n : Name) → same_path e.task q ≡ true → e.op ≡ Unlock n → unlock_reply own e.task ≡ Some e.reply → Adds q had own since → Adds q had (own ++ e ∷ []) (since ++ e ∷ [])
unlock_adds q had own since e n s op a h =
    let now : level q (own ++ e ∷ []) ≡ (unlocked (levels_of q own) e.reply).now = ap (λ l. l.now) (levels_own q own e s) ∙ ap (λ o. (levels_by o (levels_of q own) e.reply).now) op in
    let l = same (λ (x : Entry). is_lock_entry x.op) q since e s (ap is_lock_entry op) in
    elim (is_ok e.reply) as (λ b. is_ok e.reply ≡ b → Adds q had (own ++ e ∷ []) (since ++ e ∷ [])) [
      | true ↦ λ k.
          let ok = ok_is e.reply k in
          let less : level q (own ++ e ∷ []) ≡ level q own - 1 = now ∙ ap (λ r. (unlocked (levels_of q own) r).now) ok in
          let u = more (λ (x : Entry). is_unlock_entry x.op x.reply) q since e s (ap (λ o. is_unlock_entry o e.reply) op ∙ k) in
          let held : 0 < level q own = subst (λ t. 0 < level t own) (same_equal e.task q s) (unlock_held own e.task (a ∙ ap Some ok)) in
          omega (arith, less, l, u, held, h)
      | false ↦ λ k.
          let kept : level q (own ++ e ∷ []) ≡ level q own = now ∙ ap (λ v. v.now) (unlocked_no (levels_of q own) e.reply k) in
          let u = same (λ (x : Entry). is_unlock_entry x.op x.reply) q since e s (ap (λ o. is_unlock_entry o e.reply) op ∙ k) in
          omega (arith, kept, l, u, h)
    ] refl

-- operations that leave levels as they are
still : (q : List ℕ) (had : ℕ) (own since : List Entry) (e : Entry) → same_path e.task q ≡ true → ((l : Levels) → levels_by e.op l e.reply ≡ l) → is_lock_entry e.op ≡ false → is_unlock_entry e.op e.reply ≡ false → Adds q had own since → Adds q had (own ++ e ∷ []) (since ++ e ∷ [])
still q had own since e s lv a b h =
    let now : level q (own ++ e ∷ []) ≡ level q own = ap (λ l. l.now) (levels_own q own e s ∙ lv (levels_of q own)) in
    let l = same (λ (x : Entry). is_lock_entry x.op) q since e s a in
    let u = same (λ (x : Entry). is_unlock_entry x.op x.reply) q since e s b in
    omega (arith, now, l, u, h)

own_adds : (op : Op) (q : List ℕ) (had : ℕ) (own since : List Entry) (e : Entry) → same_path e.task q ≡ true → e.op ≡ op → reply_after own e.task op ≡ Some e.reply → waits_of q (e ∷ []) ≡ 0 → backs_of q (e ∷ []) ≡ 0 → Adds q had own since → Adds q had (own ++ e ∷ []) (since ++ e ∷ [])
own_adds (Lock n) q had own since e s is a w b h =
    let now : level q (own ++ e ∷ []) ≡ level q own + 1 = ap (λ l. l.now) (levels_own q own e s) ∙ ap (λ o. (levels_by o (levels_of q own) e.reply).now) is in
    let l = more (λ (x : Entry). is_lock_entry x.op) q since e s (ap is_lock_entry is) in
    let u = same (λ (x : Entry). is_unlock_entry x.op x.reply) q since e s (ap (λ o. is_unlock_entry o e.reply) is) in
    omega (arith, now, l, u, h)
own_adds (Unlock n) q had own since e s is a w b h = unlock_adds q had own since e n s is a h
own_adds (CWait n) q had own since e s is a w b h =
    elim (is_ok e.reply) as (λ v. is_ok e.reply ≡ v → Adds q had (own ++ e ∷ []) (since ++ e ∷ [])) [
      | true ↦ λ k. absurd (let m = waits_more q [] e s (ap (λ o. is_wait o e.reply) is ∙ k) in omega (arith, m, w))
      | false ↦ λ k.
          still q had own since e s (λ l. ap (λ o. levels_by o l e.reply) is ∙ waits_no l e.reply k) (ap is_lock_entry is) (ap (λ o. is_unlock_entry o e.reply) is) h
    ] refl
own_adds (CBack n) q had own since e s is a w b h =
    absurd (let m = backs_more q [] e s (ap is_back is) in omega (arith, m, b))
own_adds op q had own since e s is a w b h =
    still q had own since e s (λ l. ap (λ o. levels_by o l e.reply) is) (ap is_lock_entry is) (ap (λ o. is_unlock_entry o e.reply) is) h

one_more : (q : List ℕ) (had : ℕ) (own since : List Entry) (e : Entry) → reply_after own e.task e.op ≡ Some e.reply → waits_of q (e ∷ []) ≡ 0 → backs_of q (e ∷ []) ≡ 0 → Adds q had own since → Adds q had (own ++ e ∷ []) (since ++ e ∷ [])
one_more q had own since e a w b h =
    elim (same_path e.task q) as (λ v. same_path e.task q ≡ v → Adds q had (own ++ e ∷ []) (since ++ e ∷ [])) [
      | true ↦ λ s. own_adds e.op q had own since e s refl a w b h
      | false ↦ λ s.
          let now : level q (own ++ e ∷ []) ≡ level q own = ap (λ l. l.now) (levels_other q own e s) in
          let l = other (λ (x : Entry). is_lock_entry x.op) q since e s in
          let u = other (λ (x : Entry). is_unlock_entry x.op x.reply) q since e s in
          omega (arith, now, l, u, h)
    ] refl

adds_over : (q : List ℕ) (had : ℕ) (own since more : List Entry) → LawfulFrom own more → waits_of q more ≡ 0 → backs_of q more ≡ 0 → Adds q had own since → Adds q had (own ++ more) (since ++ more)
adds_over q had own since [] l w b h =
    subst (λ s. Adds q had (own ++ []) s) (sym (append-nil since)) (subst (λ o. Adds q had o since) (sym (append-nil own)) h)
adds_over q had own since (e ∷ es) l w b h =
    let n = waits_parts q (e ∷ []) es in
    let m = backs_parts q (e ∷ []) es in
    subst (λ s. Adds q had (own ++ e ∷ es) s) (append_assoc since (e ∷ []) es)
    (subst (λ o. Adds q had o ((since ++ e ∷ []) ++ es)) (append_assoc own (e ∷ []) es)
    (adds_over q had (own ++ e ∷ []) (since ++ e ∷ []) es l.1 (omega (arith, n, w)) (omega (arith, m, b)) (one_more q had own since e l.0 (omega (arith, n, w)) (omega (arith, m, b)) h)))

-- a task that never waited never came back
pub levels_add_up : (own : List Entry) → IsLawful own → LevelsAddUp own
levels_add_up own l q w =
    let within = backs_within own l q in
    let h = adds_over q 0 [] [] own l w (omega (arith, within, w)) refl in
    omega (arith, h)

-- the level with which a task starts anew
start_level : (q : List ℕ) (own : List Entry) (had : ℕ) → StartsWith q own had → level q own ≡ had
start_level q own had (inl s) = ap (level q) s.0 ∙ sym s.1
start_level q own had (inr (inl s)) =
    ap (level q) s.0.parts ∙ ap (λ l. l.now) (levels_waited q s.0.before s.0.wait s.0.is_wait) ∙ sym s.1
start_level q own had (inr (inr r)) = returned q own had r

pub adds_up : (q : List ℕ) (past since : List Entry) (had : ℕ) → IsLawful (past ++ since) → StartsWith q past had → Stays q since → AddsUpSince q past since had
adds_up q past since had l s t =
    let at = start_level q past had s in
    adds_over q had past [] since (split [] past since l).1 t.waits t.returns (omega (arith, at))

-- the last wait of a task
pub record LastWait (q : List ℕ) (own : List Entry) : Type 0 where
  pub before : List Entry
  pub wait : Entry
  pub between : List Entry
  pub is_wait : IsWaitOf q wait
  pub is_last : waits_of q between ≡ 0
  pub parts : own ≡ before ++ wait ∷ between

one_before : (q : List ℕ) (x : Entry) (xs : List Entry) → LastWait q xs → LastWait q (x ∷ xs)
one_before q x xs w =
    record { before = x ∷ w.before; wait = w.wait; between = w.between; is_wait = w.is_wait; is_last = w.is_last; parts = ap (λ l. x ∷ l) w.parts }

last_wait : (q : List ℕ) (own : List Entry) → 0 < waits_of q own → LastWait q own
last_wait q [] h = absurd (omega (arith, h))
last_wait q (x ∷ xs) h =
    let n = waits_parts q (x ∷ []) xs in
    elim (nat_eq (waits_of q xs) 0) as (λ b. nat_eq (waits_of q xs) 0 ≡ b → LastWait q (x ∷ xs)) [
      | false ↦ λ k.
          let z : 0 < waits_of q xs = grind (arith, nat_tests) in
          one_before q x xs (last_wait q xs z)
      | true ↦ λ k.
          let z : waits_of q xs ≡ 0 = grind (arith, nat_tests) in
          let one : 0 < waits_of q (x ∷ []) = omega (arith, n, h, z) in
          elim (same_path x.task q) as (λ b. same_path x.task q ≡ b → LastWait q (x ∷ xs)) [
            | false ↦ λ s. absurd (let m = waits_other q [] x s in omega (arith, m, one))
            | true ↦ λ s. elim (is_wait x.op x.reply) as (λ b. is_wait x.op x.reply ≡ b → LastWait q (x ∷ xs)) [
              | false ↦ λ v. absurd (let m = waits_not q [] x v in omega (arith, m, one))
              | true ↦ λ v. record { before = []; wait = x; between = xs; is_wait = record { task = same_equal x.task q s; waits = v }; is_last = z; parts = refl }
            ] refl
          ] refl
    ] refl

-- one more entry by which the task neither waits nor comes back
stays_more : (q : List ℕ) (since : List Entry) (e : Entry) → waits_of q (e ∷ []) ≡ 0 → backs_of q (e ∷ []) ≡ 0 → Stays q since → Stays q (since ++ e ∷ [])
stays_more q since e w b s =
    let n = waits_parts q since (e ∷ []) in
    let m = backs_parts q since (e ∷ []) in
    let x = s.waits in
    let y = s.returns in
    record { waits = omega (arith, n, w, x); returns = omega (arith, m, b, y) }

start_stays : (q : List ℕ) (own : List Entry) (e : Entry) → waits_of q (e ∷ []) ≡ 0 → backs_of q (e ∷ []) ≡ 0 → LastStart q own → LastStart q (own ++ e ∷ [])
start_stays q own e w b s = record {
  past = s.past;
  since = s.since ++ e ∷ [];
  had = s.had;
  parts = ap (λ l. l ++ e ∷ []) s.parts ∙ append_assoc s.past s.since (e ∷ []);
  starts = s.starts;
  stays = stays_more q s.since e w b s.stays;
}

starts_here : (q : List ℕ) (own : List Entry) (had : ℕ) → StartsWith q own had → LastStart q own
starts_here q own had s =
    record { past = own; since = []; had = had; parts = sym (append-nil own); starts = s; stays = record { waits = refl; returns = refl } }

-- a return needs a wait
ends_with_return : (q : List ℕ) (own : List Entry) (e : Entry) → IsReturnOf q e → LastWait q own → (had : ℕ) × EndsWithReturn q (own ++ e ∷ []) had
ends_with_return q own e r w =
    (level q w.before, record { before = w.before; wait = w.wait; between = w.between; back = e; is_wait = w.is_wait; is_last = w.is_last; is_return = r; level_before = refl; parts = ap (λ l. l ++ e ∷ []) w.parts })

back_waited : (op : Op) (own : List Entry) (task : List ℕ) (r : Reply) → is_back op ≡ true → reply_after own task op ≡ Some r → 0 < waits_of task own
back_waited (CBack n) own task r k a = let h = (was_notified own task r a).1 in omega (arith, h)
back_waited op own task r k a = absurd (cc)

own_start : (q : List ℕ) (own : List Entry) (e : Entry) → same_path e.task q ≡ true → reply_after own e.task e.op ≡ Some e.reply → LastStart q own → LastStart q (own ++ e ∷ [])
own_start q own e s a last =
    let task = same_equal e.task q s in
    elim (is_wait e.op e.reply) as (λ b. is_wait e.op e.reply ≡ b → LastStart q (own ++ e ∷ [])) [
      | true ↦ λ k. starts_here q (own ++ e ∷ []) 0 (inr (inl (record { before = own; wait = e; is_wait = record { task = task; waits = k }; parts = refl }, refl)))
      | false ↦ λ k. elim (is_back e.op) as (λ b. is_back e.op ≡ b → LastStart q (own ++ e ∷ [])) [
        | true ↦ λ b.
            let waited : 0 < waits_of q own = subst (λ t. 0 < waits_of t own) task (back_waited e.op own e.task e.reply b a) in
            let r = ends_with_return q own e (record { task = task; returns = b }) (last_wait q own waited) in
            starts_here q (own ++ e ∷ []) r.0 (inr (inr r.1))
        | false ↦ λ b. start_stays q own e (waits_not q [] e k) (backs_not q [] e b) last
      ] refl
    ] refl

start_more : (q : List ℕ) (own : List Entry) (e : Entry) → LastStart q own → reply_after own e.task e.op ≡ Some e.reply → LastStart q (own ++ e ∷ [])
start_more q own e last a =
    elim (same_path e.task q) as (λ b. same_path e.task q ≡ b → LastStart q (own ++ e ∷ [])) [
      | true ↦ λ s. own_start q own e s a last
      | false ↦ λ s. start_stays q own e (waits_other q [] e s) (backs_other q [] e s) last
    ] refl

pub every_list : (q : List ℕ) (own : List Entry) → IsLawful own → LastStart q own
every_list q own l = along (LastStart q) (λ past e p a. start_more q past e p a) [] own (starts_here q [] 0 (inl (refl, refl))) l
