-- The holder of a lock, by the levels of the tasks.
use Rattle.std.proofs.Common.{◌≡◌, ℕ, ◌<◌, List, [], ◌∷◌, ◌++◌, inl, inr, Option, Some, None, Bool, true, false, refl, sym, ap, subst, ◌∙◌, cond, arith}
use Rattle.std.specs.Prelude.{◌&&◌, not, nat_eq, nat_lt, nat_eq, find, if◌then◌else◌, option_map}
use Rattle.std.specs.Cmp.Lexicographic.{pointwise}
use Rattle.std.proofs.lemmas.Bool.Decides.{nat_tests}
use Rattle.jt_base.specs.declared.operation.Reply.{Reply}
use Rattle.jt_base.specs.declared.operation.Reply.TheVariants as reply
use Rattle.jt_base.specs.declared.entry.Entry.{Entry}
use Rattle.jt_laws.specs.Entries.{same_path, In}
use Rattle.jt_laws.specs.Locks.{levels_after, levels_of, level, is_free, is_held_by_other, holder_reply}
use Rattle.jt_laws.specs.Objects.{IsLawful}
use Rattle.jt_laws.proofs.LockLaws.{levels_own, levels_other, any_here, any_none, all_each, holds_entry, free_zero, one_holds}
use Rattle.jt_laws.proofs.Paths.{same_itself, same_equal, same_of}
use Rattle.jt_conditions.specs.Locks.{Holder, holder_of, level_in, reply_to}

-- the test of paths in code is that of the definitions
pub pointwise_same : (p q : List ℕ) → pointwise nat_eq p q ≡ same_path p q
pointwise_same [] [] = refl
pointwise_same [] (y ∷ ys) = refl
pointwise_same (x ∷ xs) [] = refl
pointwise_same (x ∷ xs) (y ∷ ys) = ap (λ b. nat_eq x y && b) (pointwise_same xs ys)

-- who holds a lock has a level
abbrev pub IsProper : Option Holder → Type 0
IsProper None = Unit {0}
IsProper (Some h) = 0 < h.level

-- these are the levels of all tasks
abbrev pub Levelled : List Entry → Option Holder → Type 0
Levelled own h = (q : List ℕ) → level q own ≡ level_in h q

found_true : (p : Entry → Bool) (own : List Entry) (e : Entry) → find p own ≡ Some e → p e ≡ true
found_true p [] e f = absurd (cc)
found_true p (x ∷ xs) e f =
    elim (p x) as (λ b. p x ≡ b → cond b (Some x) (find p xs) ≡ Some e → p e ≡ true) [
      | true ↦ λ q g. let same : x ≡ e = cc in ap p (sym same) ∙ q
      | false ↦ λ q g. found_true p xs e g
    ] refl f

found_none : (p : Entry → Bool) (own : List Entry) → ((e : Entry) → p e ≡ false) → find p own ≡ None
found_none p [] f = refl
found_none p (x ∷ xs) f = ap (λ b. cond b (Some x) (find p xs)) (f x) ∙ found_none p xs f

none_found : (p : Entry → Bool) (own : List Entry) (e : Entry) → In e own → find p own ≡ None → p e ≡ false
none_found p [] e i f = absurd i
none_found p (x ∷ xs) e i f =
    elim (p x) as (λ b. p x ≡ b → cond b (Some x) (find p xs) ≡ None → p e ≡ false) [
      | true ↦ λ q g. absurd (cc)
      | false ↦ λ q g. elim i as (λ v. p e ≡ false) [ inl s ↦ ap p (sym s) ∙ q | inr j ↦ none_found p xs e j g ]
    ] refl f

level_none : (q : List ℕ) (own : List Entry) → find (λ (e : Entry). nat_lt 0 (level e.task own)) own ≡ None → level q own ≡ 0
level_none q own f =
    elim (nat_lt 0 (level q own)) as (λ b. nat_lt 0 (level q own) ≡ b → level q own ≡ 0) [
      | true ↦ λ t.
          let h : 0 < level q own = grind (arith, nat_tests) in
          let e = holds_entry q own h in
          let n = none_found (λ (x : Entry). nat_lt 0 (level x.task own)) own e.0 e.1.0 f in
          let m : nat_lt 0 (level e.0.task own) ≡ true = ap (λ p. nat_lt 0 (level p own)) e.1.1 ∙ t in
          absurd (let clash : true ≡ false = sym m ∙ n in cc)
      | false ↦ λ t. grind (arith, nat_tests)
    ] refl

-- of a lawful list the holder has all levels there are
by_found : (own : List Entry) (o : Option Entry) → IsLawful own → find (λ (e : Entry). nat_lt 0 (level e.task own)) own ≡ o → Levelled own (option_map (λ (e : Entry). record { task = e.task; level = level e.task own }) o)
by_found own None l f q = level_none q own f
by_found own (Some e) l f q =
    let t = found_true (λ (x : Entry). nat_lt 0 (level x.task own)) own e f in
    let h : 0 < level e.task own = grind (arith, nat_tests) in
    elim (same_path e.task q) as (λ b. same_path e.task q ≡ b → level q own ≡ (if b then level e.task own else 0)) [
      | true ↦ λ s. ap (λ p. level p own) (sym (same_equal e.task q s))
      | false ↦ λ s. elim (nat_lt 0 (level q own)) as (λ b. nat_lt 0 (level q own) ≡ b → level q own ≡ 0) [
        | true ↦ λ n.
            let g : 0 < level q own = grind (arith, nat_tests) in
            absurd (let same = same_of e.task q (one_holds own l e.task q h g) in let clash : true ≡ false = sym same ∙ s in cc)
        | false ↦ λ n. grind (arith, nat_tests)
      ] refl
    ] refl

pub levelled : (own : List Entry) → IsLawful own → Levelled own (holder_of own)
levelled own l = by_found own _ l refl

proper_found : (own : List Entry) (o : Option Entry) → find (λ (e : Entry). nat_lt 0 (level e.task own)) own ≡ o → IsProper (option_map (λ (e : Entry). record { task = e.task; level = level e.task own }) o)
proper_found own None f = tt
proper_found own (Some e) f =
    let t = found_true (λ (x : Entry). nat_lt 0 (level x.task own)) own e f in grind (arith, nat_tests)

pub proper : (own : List Entry) → IsProper (holder_of own)
proper own = proper_found own _ refl

-- and the levels give the holder back
from_found : (own : List Entry) (h : Holder) (o : Option Entry) → Levelled own (Some h) → 0 < h.level → find (λ (e : Entry). nat_lt 0 (level e.task own)) own ≡ o → option_map (λ (e : Entry). record { task = e.task; level = level e.task own }) o ≡ Some h
from_found own h None l p f =
    absurd (let z = level_none h.task own f in let n = l h.task in let s : level_in (Some h) h.task ≡ h.level = ap (λ b. if b then h.level else 0) (same_itself h.task) in omega (arith, z, n, s, p))
from_found own h (Some e) l p f =
    let t = found_true (λ (x : Entry). nat_lt 0 (level x.task own)) own e f in
    let g : 0 < level e.task own = grind (arith, nat_tests) in
    let n : level e.task own ≡ (if same_path h.task e.task then h.level else 0) = l e.task in
    elim (same_path h.task e.task) as (λ b. same_path h.task e.task ≡ b → level e.task own ≡ (if b then h.level else 0) → ◌≡◌ {A = Option Holder} (Some (record { task = e.task; level = level e.task own })) (Some h)) [
      | true ↦ λ s m. let same = same_equal h.task e.task s in
          ap (λ k. Some (record { task = e.task; level = k })) m ∙ ap (λ q. Some (record { task = q; level = h.level })) (sym same)
      | false ↦ λ s m. absurd (omega (arith, m, g))
    ] refl n

pub holder_from : (own : List Entry) (h : Option Holder) → Levelled own h → IsProper h → holder_of own ≡ h
holder_from own None l p =
    ap (option_map (λ (e : Entry). record { task = e.task; level = level e.task own })) (found_none (λ (e : Entry). nat_lt 0 (level e.task own)) own (λ e. let z = l e.task in grind (arith, nat_tests)))
holder_from own (Some h) l p = from_found own h _ l p refl

-- after one more entry
pub holder_after : (own : List Entry) (e : Entry) (h now : Option Holder) → Levelled own h → (levels_after (levels_of e.task own) e).now ≡ level_in now e.task → ((q : List ℕ) → same_path e.task q ≡ false → level_in h q ≡ level_in now q) → IsProper now → holder_of (own ++ e ∷ []) ≡ now
holder_after own e h now l mine rest p =
    holder_from (own ++ e ∷ []) now (λ q.
    elim (same_path e.task q) as (λ b. same_path e.task q ≡ b → level q (own ++ e ∷ []) ≡ level_in now q) [
      | true ↦ λ s. subst (λ r. level r (own ++ e ∷ []) ≡ level_in now r) (same_equal e.task q s) (ap (λ k. k.now) (levels_own e.task own e (same_itself e.task)) ∙ mine)
      | false ↦ λ s. ap (λ k. k.now) (levels_other q own e s) ∙ l q ∙ rest q s
    ] refl) p

-- whether the lock is free, and whether another task holds it
abbrev pub other_in : Option Holder → List ℕ → Bool
other_in None task = false
other_in (Some h) task = not (same_path h.task task)

pub free_none : (own : List Entry) → Levelled own None → is_free own ≡ true
free_none own l = all_each (λ e. nat_eq (level e.task own) 0) own (λ e. let z = l e.task in grind (arith, nat_tests))

pub not_free : (own : List Entry) (h : Holder) → Levelled own (Some h) → 0 < h.level → is_free own ≡ false
not_free own h l p =
    elim (is_free own) as (λ b. is_free own ≡ b → b ≡ false) [
      | true ↦ λ f. absurd (let z = free_zero own f h.task in let n = l h.task in let s : level_in (Some h) h.task ≡ h.level = ap (λ b. if b then h.level else 0) (same_itself h.task) in omega (arith, z, n, s, p))
      | false ↦ λ f. refl
    ] refl

and_false : (b : Bool) → (b && false) ≡ false
and_false true = refl
and_false false = refl

none_other : (own : List Entry) (h : Holder) (task : List ℕ) → Levelled own (Some h) → h.task ≡ task → is_held_by_other task own ≡ false
none_other own h task l s =
    any_none (λ (x : Entry). not (same_path x.task task) && nat_lt 0 (level x.task own)) own (λ e.
    elim (same_path h.task e.task) as (λ b. same_path h.task e.task ≡ b → (not (same_path e.task task) && nat_lt 0 (level e.task own)) ≡ false) [
      | true ↦ λ t. ap (λ b. not b && nat_lt 0 (level e.task own)) (same_of e.task task (sym (same_equal h.task e.task t) ∙ s))
      | false ↦ λ t.
          let z : level e.task own ≡ 0 = l e.task ∙ ap (λ b. if b then h.level else 0) t in
          ap (λ n. not (same_path e.task task) && nat_lt 0 n) z ∙ and_false _
    ] refl)

some_other : (own : List Entry) (h : Holder) (task : List ℕ) → Levelled own (Some h) → 0 < h.level → same_path h.task task ≡ false → is_held_by_other task own ≡ true
some_other own h task l p s =
    let n : level h.task own ≡ h.level = l h.task ∙ ap (λ b. if b then h.level else 0) (same_itself h.task) in
    let g : 0 < level h.task own = omega (arith, n, p) in
    let e = holds_entry h.task own g in
    any_here (λ (x : Entry). not (same_path x.task task) && nat_lt 0 (level x.task own)) own e.0 e.1.0
    (ap (λ q. not (same_path q task) && nat_lt 0 (level q own)) e.1.1 ∙ ap (λ b. not b && nat_lt 0 (level h.task own)) s ∙ grind (arith, nat_tests))

pub held_other : (own : List Entry) (h : Option Holder) (task : List ℕ) → Levelled own h → IsProper h → is_held_by_other task own ≡ other_in h task
held_other own None task l p =
    any_none (λ (x : Entry). not (same_path x.task task) && nat_lt 0 (level x.task own)) own (λ e. ap (λ n. not (same_path e.task task) && nat_lt 0 n) (l e.task) ∙ and_false _)
held_other own (Some h) task l p =
    elim (same_path h.task task) as (λ b. same_path h.task task ≡ b → is_held_by_other task own ≡ not b) [
      | true ↦ λ s. none_other own h task l (same_equal h.task task s)
      | false ↦ λ s. some_other own h task l p s
    ] refl

-- the reply to what only the holder may do
reply_when : (h : Holder) (task : List ℕ) (held : Reply) (b : Bool) → same_path h.task task ≡ b → (if not b then reply.NotOwner else held) ≡ (if b then held else reply.NotOwner)
reply_when h task held true s = refl
reply_when h task held false s = refl

pub holder_replies : (own : List Entry) (h : Option Holder) (task : List ℕ) (held : Reply) → Levelled own h → IsProper h → holder_reply task own held ≡ Some (reply_to h task held)
holder_replies own None task held l p =
    ap (λ b. Some (if b then reply.NotLocked else if is_held_by_other task own then reply.NotOwner else held)) (free_none own l)
holder_replies own (Some h) task held l p =
    ap (λ b. Some (if b then reply.NotLocked else if is_held_by_other task own then reply.NotOwner else held)) (not_free own h l p)
    ∙ ap (λ b. Some (if b then reply.NotOwner else held)) (held_other own (Some h) task l p)
    ∙ ap Some (reply_when h task held _ refl)
