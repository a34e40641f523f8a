-- How often a task waited and came back, and its places in the waiting list, with one more entry.
use Rattle.std.proofs.Common.{◌≡◌, ℕ, ◌+◌, List, [], ◌∷◌, ◌++◌, length, take, drop, Bool, true, false, refl, sym, ap, ◌∙◌, cond}
use Rattle.std.specs.Prelude.{filter, fold}
use Rattle.std.proofs.lemmas.List.{append-nil, length-append, take-append-drop}
use Rattle.std.proofs.lemmas.List.Elements.{filter-append}
use Rattle.jt_base.specs.declared.operation.Op.{Op}
use Rattle.jt_base.specs.declared.operation.Op.TheVariants.{Unlock, CWait, CBack, CNotify}
use Rattle.jt_base.specs.declared.operation.Reply.{Reply}
use Rattle.jt_base.specs.declared.operation.Reply.TheVariants as reply
use Rattle.jt_base.specs.declared.entry.Entry.{Entry}
use Rattle.jt_laws.specs.Entries.{same_path, of_task}
use Rattle.jt_laws.specs.Locks.{Levels, unlocked, levels_by, levels_of, waits_of, backs_of, waiting_of, waiting_by, waiting_after, is_wait, is_back}
use Rattle.jt_laws.proofs.Counts.{filter_push, count_more, count_same}
use Rattle.jt_laws.proofs.LockLaws.{levels_own, levels_other}

pub of_task_own : (q : List ℕ) (own : List Entry) (e : Entry) → same_path e.task q ≡ true → of_task q (own ++ e ∷ []) ≡ of_task q own ++ e ∷ []
of_task_own q own e s =
    filter_push (λ x. same_path x.task q) own e ∙ ap (λ b. of_task q own ++ cond b (e ∷ []) []) s

pub of_task_other : (q : List ℕ) (own : List Entry) (e : Entry) → same_path e.task q ≡ false → of_task q (own ++ e ∷ []) ≡ of_task q own
of_task_other q own e s =
    filter_push (λ x. same_path x.task q) own e ∙ ap (λ b. of_task q own ++ cond b (e ∷ []) []) s ∙ append-nil (of_task q own)

pub waits_more : (q : List ℕ) (own : List Entry) (e : Entry) → same_path e.task q ≡ true → is_wait e.op e.reply ≡ true → waits_of q (own ++ e ∷ []) ≡ waits_of q own + 1
waits_more q own e s h =
    ap (λ l. length (filter (λ (x : Entry). is_wait x.op x.reply) l)) (of_task_own q own e s) ∙ count_more (λ (x : Entry). is_wait x.op x.reply) (of_task q own) e h

pub waits_other : (q : List ℕ) (own : List Entry) (e : Entry) → same_path e.task q ≡ false → waits_of q (own ++ e ∷ []) ≡ waits_of q own
waits_other q own e s =
    ap (λ l. length (filter (λ (x : Entry). is_wait x.op x.reply) l)) (of_task_other q own e s)

pub waits_not : (q : List ℕ) (own : List Entry) (e : Entry) → is_wait e.op e.reply ≡ false → waits_of q (own ++ e ∷ []) ≡ waits_of q own
waits_not q own e h =
    elim (same_path e.task q) as (λ b. same_path e.task q ≡ b → waits_of q (own ++ e ∷ []) ≡ waits_of q own) [
      | true ↦ λ s. ap (λ l. length (filter (λ (x : Entry). is_wait x.op x.reply) l)) (of_task_own q own e s) ∙ count_same (λ (x : Entry). is_wait x.op x.reply) (of_task q own) e h
      | false ↦ λ s. waits_other q own e s
    ] refl

pub backs_more : (q : List ℕ) (own : List Entry) (e : Entry) → same_path e.task q ≡ true → is_back e.op ≡ true → backs_of q (own ++ e ∷ []) ≡ backs_of q own + 1
backs_more q own e s h =
    ap (λ l. length (filter (λ (x : Entry). is_back x.op) l)) (of_task_own q own e s) ∙ count_more (λ (x : Entry). is_back x.op) (of_task q own) e h

pub backs_other : (q : List ℕ) (own : List Entry) (e : Entry) → same_path e.task q ≡ false → backs_of q (own ++ e ∷ []) ≡ backs_of q own
backs_other q own e s =
    ap (λ l. length (filter (λ (x : Entry). is_back x.op) l)) (of_task_other q own e s)

pub backs_not : (q : List ℕ) (own : List Entry) (e : Entry) → is_back e.op ≡ false → backs_of q (own ++ e ∷ []) ≡ backs_of q own
backs_not q own e h =
    elim (same_path e.task q) as (λ b. same_path e.task q ≡ b → backs_of q (own ++ e ∷ []) ≡ backs_of q own) [
      | true ↦ λ s. ap (λ l. length (filter (λ (x : Entry). is_back x.op) l)) (of_task_own q own e s) ∙ count_same (λ (x : Entry). is_back x.op) (of_task q own) e h
      | false ↦ λ s. backs_other q own e s
    ] refl

-- the level before the last wait
abbrev pub before_of : List ℕ → List Entry → ℕ
before_of q own = (levels_of q own).before_wait

pub before_other : (q : List ℕ) (own : List Entry) (e : Entry) → same_path e.task q ≡ false → before_of q (own ++ e ∷ []) ≡ before_of q own
before_other q own e s = ap (λ l. l.before_wait) (levels_other q own e s)

pub before_same : (q : List ℕ) (own : List Entry) (e : Entry) → ((l : Levels) → (levels_by e.op l e.reply).before_wait ≡ l.before_wait) → before_of q (own ++ e ∷ []) ≡ before_of q own
before_same q own e h =
    elim (same_path e.task q) as (λ b. same_path e.task q ≡ b → before_of q (own ++ e ∷ []) ≡ before_of q own) [
      | true ↦ λ s. ap (λ l. l.before_wait) (levels_own q own e s) ∙ h (levels_of q own)
      | false ↦ λ s. before_other q own e s
    ] refl

-- the waiting list
fold_push : (w : List (List ℕ)) (xs : List Entry) (e : Entry) → fold waiting_after w (xs ++ e ∷ []) ≡ waiting_after (fold waiting_after w xs) e
fold_push w [] e = refl
fold_push w (x ∷ xs) e = fold_push (waiting_after w x) xs e

pub waiting_push : (own : List Entry) (e : Entry) → waiting_of (own ++ e ∷ []) ≡ waiting_by e.op (waiting_of own) e.task e.reply
waiting_push own e = fold_push [] own e

abbrev pub places_in : List ℕ → List (List ℕ) → ℕ
places_in q ws = length (filter (λ w. same_path w q) ws)

pub places_more : (q task : List ℕ) (ws : List (List ℕ)) → same_path task q ≡ true → places_in q (ws ++ task ∷ []) ≡ places_in q ws + 1
places_more q task ws s =
    ap length (filter-append (λ w. same_path w q) ws (task ∷ []) ∙ ap (λ b. filter (λ w. same_path w q) ws ++ cond b (task ∷ []) []) s) ∙ length-append (filter (λ w. same_path w q) ws) (task ∷ [])

pub places_other : (q task : List ℕ) (ws : List (List ℕ)) → same_path task q ≡ false → places_in q (ws ++ task ∷ []) ≡ places_in q ws
places_other q task ws s =
    ap length (filter-append (λ w. same_path w q) ws (task ∷ []) ∙ ap (λ b. filter (λ w. same_path w q) ws ++ cond b (task ∷ []) []) s ∙ append-nil (filter (λ w. same_path w q) ws))

pub places_split : (q : List ℕ) (n : ℕ) (ws : List (List ℕ)) → places_in q (take n ws) + places_in q (drop n ws) ≡ places_in q ws
places_split q n ws =
    sym (length-append (filter (λ w. same_path w q) (take n ws)) (filter (λ w. same_path w q) (drop n ws)))
    ∙ ap length (sym (filter-append (λ w. same_path w q) (take n ws) (drop n ws)))
    ∙ ap (places_in q) (take-append-drop n ws)

-- which operations leave all of these as they are
abbrev pub is_quiet : Op → Bool
is_quiet (CWait name) = false
is_quiet (CBack name) = false
is_quiet (CNotify name all) = false
is_quiet op = true

pub quiet_wait : (op : Op) (r : Reply) → is_quiet op ≡ true → is_wait op r ≡ false
quiet_wait (CWait name) r e = absurd (cc)
quiet_wait op r e = refl

pub quiet_back : (op : Op) → is_quiet op ≡ true → is_back op ≡ false
quiet_back (CBack name) e = absurd (cc)
quiet_back op e = refl

pub quiet_waiting : (op : Op) (ws : List (List ℕ)) (task : List ℕ) (r : Reply) → is_quiet op ≡ true → waiting_by op ws task r ≡ ws
quiet_waiting (CWait name) ws task r e = absurd (cc)
quiet_waiting (CNotify name all) ws task r e = absurd (cc)
quiet_waiting op ws task r e = refl

pub unlocked_before : (l : Levels) (r : Reply) → (unlocked l r).before_wait ≡ l.before_wait
unlocked_before l reply.Ok = refl
unlocked_before l r = refl

pub quiet_before : (op : Op) (l : Levels) (r : Reply) → is_quiet op ≡ true → (levels_by op l r).before_wait ≡ l.before_wait
quiet_before (CWait name) l r e = absurd (cc)
quiet_before (CBack name) l r e = absurd (cc)
quiet_before (Unlock name) l r e = unlocked_before l r
quiet_before op l r e = refl
