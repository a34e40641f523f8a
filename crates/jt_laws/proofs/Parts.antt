-- How often a task waited and came back in a list of two parts, and its level before its last wait.
use Rattle.std.proofs.Common.{◌≡◌, ℕ, ◌+◌, List, [], ◌∷◌, ◌++◌, length, Bool, true, false, refl, sym, ap, ◌∙◌, append_assoc, arith}
use Rattle.std.specs.Prelude.{filter}
use Rattle.std.proofs.lemmas.List.{append-nil, length-append}
use Rattle.std.proofs.lemmas.List.Elements.{filter-append}
use Rattle.jt_base.specs.declared.operation.Op.{Op}
use Rattle.jt_base.specs.declared.operation.Op.TheVariants.{Unlock, CWait, CBack}
use Rattle.jt_base.specs.declared.operation.Reply.{Reply}
use Rattle.jt_base.specs.declared.operation.Reply.TheVariants as reply
use Rattle.jt_base.specs.declared.entry.Entry.{Entry}
use Rattle.jt_laws.specs.Entries.{same_path, of_task}
use Rattle.jt_laws.specs.Locks.{Levels, levels_by, levels_of, level, waits_of, backs_of, is_wait, is_back}
use Rattle.jt_laws.specs.LockLaws.{IsWaitOf, IsReturnOf, EndsWithReturn}
use Rattle.jt_laws.proofs.LockLaws.{levels_own}
use Rattle.jt_laws.proofs.Paths.{same_of}
use Rattle.jt_laws.proofs.Waits.{waits_more, before_of, before_other, unlocked_before}

-- the entries of a task that pass a test
pub count_parts : (p : Entry → Bool) (q : List ℕ) (xs ys : List Entry) → length (filter p (of_task q (xs ++ ys))) ≡ length (filter p (of_task q xs)) + length (filter p (of_task q ys))
count_parts p q xs ys =
    ap (λ l. length (filter p l)) (filter-append (λ x. same_path x.task q) xs ys) ∙ ap length (filter-append p (of_task q xs) (of_task q ys)) ∙ length-append (filter p (of_task q xs)) (filter p (of_task q ys))

pub waits_parts : (q : List ℕ) (xs ys : List Entry) → waits_of q (xs ++ ys) ≡ waits_of q xs + waits_of q ys
waits_parts q xs ys = count_parts (λ (x : Entry). is_wait x.op x.reply) q xs ys

pub backs_parts : (q : List ℕ) (xs ys : List Entry) → backs_of q (xs ++ ys) ≡ backs_of q xs + backs_of q ys
backs_parts q xs ys = count_parts (λ (x : Entry). is_back x.op) q xs ys

-- a wait gives all levels up, and keeps what they were
wait_leaves : (op : Op) (l : Levels) (r : Reply) → is_wait op r ≡ true → levels_by op l r ≡ record { now = 0; before_wait = l.now }
wait_leaves (CWait n) l reply.Ok h = refl
wait_leaves op l r h = absurd (cc)

pub levels_waited : (q : List ℕ) (own : List Entry) (e : Entry) → IsWaitOf q e → levels_of q (own ++ e ∷ []) ≡ record { now = 0; before_wait = level q own }
levels_waited q own e w = levels_own q own e (same_of e.task q w.task) ∙ wait_leaves e.op (levels_of q own) e.reply w.waits

-- only a wait changes the level before it
other_before : (op : Op) (l : Levels) (r : Reply) → is_wait op r ≡ false → (levels_by op l r).before_wait ≡ l.before_wait
other_before (CWait n) l reply.Ok h = absurd (cc)
other_before (CWait n) l r h = refl
other_before (Unlock n) l r h = unlocked_before l r
other_before op l r h = refl

before_push : (q : List ℕ) (own : List Entry) (e : Entry) → waits_of q (e ∷ []) ≡ 0 → before_of q (own ++ e ∷ []) ≡ before_of q own
before_push q own e z =
    elim (same_path e.task q) as (λ b. same_path e.task q ≡ b → before_of q (own ++ e ∷ []) ≡ before_of q own) [
      | false ↦ λ s. before_other q own e s
      | true ↦ λ s. elim (is_wait e.op e.reply) as (λ b. is_wait e.op e.reply ≡ b → before_of q (own ++ e ∷ []) ≡ before_of q own) [
        | true ↦ λ k. absurd (let m = waits_more q [] e s k in omega (arith, m, z))
        | false ↦ λ k. ap (λ l. l.before_wait) (levels_own q own e s) ∙ other_before e.op (levels_of q own) e.reply k
      ] refl
    ] refl

pub before_kept : (q : List ℕ) (own more : List Entry) → waits_of q more ≡ 0 → before_of q (own ++ more) ≡ before_of q own
before_kept q own [] z = ap (before_of q) (append-nil own)
before_kept q own (e ∷ es) z =
    let n = waits_parts q (e ∷ []) es in
    ap (before_of q) (sym (append_assoc own (e ∷ []) es)) ∙ before_kept q (own ++ e ∷ []) es (omega (arith, n, z)) ∙ before_push q own e (omega (arith, n, z))

-- a return gives the levels before the last wait
back_gives : (op : Op) (l : Levels) (r : Reply) → is_back op ≡ true → (levels_by op l r).now ≡ l.before_wait
back_gives (CBack n) l r h = refl
back_gives op l r h = absurd (cc)

pub returned_before : (q : List ℕ) (own : List Entry) (e : Entry) → IsReturnOf q e → level q (own ++ e ∷ []) ≡ before_of q own
returned_before q own e b =
    ap (λ l. l.now) (levels_own q own e (same_of e.task q b.task)) ∙ back_gives e.op (levels_of q own) e.reply b.returns

pub returned : (q : List ℕ) (own : List Entry) (had : ℕ) → EndsWithReturn q own had → level q own ≡ had
returned q own had r =
    let start = r.before ++ r.wait ∷ [] in
    ap (level q) r.parts
    ∙ returned_before q (r.before ++ r.wait ∷ r.between) r.back r.is_return
    ∙ ap (before_of q) (sym (append_assoc r.before (r.wait ∷ []) r.between))
    ∙ before_kept q start r.between r.is_last
    ∙ ap (λ l. l.before_wait) (levels_waited q r.before r.wait r.is_wait)
    ∙ r.level_before
