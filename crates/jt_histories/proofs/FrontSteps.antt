-- The smallest of stamps, and the only log with entries, step by step.
use Rattle.std.proofs.Common.{◌≡◌, ◌≢◌, ℕ, zero, suc, ◌+◌, ◌<◌, List, [], ◌∷◌, Option, Some, None, refl, sym, ap, ◌∙◌, subst, arith, length, map, get_or, set, drop, slice_get, Bool, true, nat_eq, MatchOption, Vec, vec_len, deque_items}
use Rattle.std.specs.declared.collections.VecDeque.{VecDeque}
use Rattle.std.specs.Global.{Global}
use Rattle.std.proofs.lemmas.Bool.{cases_eq, cases_lt, eqb-true}
use Rattle.std.proofs.lemmas.List.{get_or_past, get_or-map, get_or-set_same, map-set, length-map}
use Rattle.jt_base.specs.declared.entry.Entry.{Entry}
use Rattle.jt_histories.specs.Fronts.{first_stamp, From, IsLeast, IsFirst, Takes, IsOnlyFilled}
use Rattle.jt_histories.specs.Merges.{items_of}
use Rattle.jt_histories.proofs.Lists.{or_else}

-- up to the next
pub up_to_next : (P : ℕ → Type 0) (n : ℕ) → ((k : ℕ) → k < n → P k) → P n → (k : ℕ) → k < n + 1 → P k
up_to_next P n f p k l = or_else (cases_eq k n) (λ q. subst P (sym q) p) (λ d. f k (lower k n l d))
  where
    lower : (k n : ℕ) → k < n + 1 → (k ≡ n → ⊥) → k < n
    lower k n l d = grind arith

module _ (stamps : List (Option ℕ)) where
  -- the smallest of the first n, or none of them is there
  abbrev pub LeastOf : ℕ → Option (ℕ × ℕ) → Type 0
  LeastOf n found = MatchOption found ((k : ℕ) → k < n → get_or stamps k None ≡ None) (λ p. (p.0 < n) × IsLeast stamps n p.0 p.1)

-- the logs with entries among the first n: none, or only this one
module _ (logs : List (List Entry)) where
  abbrev pub OnlyOf : ℕ → Option ℕ → Type 0
  OnlyOf n found = MatchOption found ((k : ℕ) → k < n → get_or logs k [] ≡ []) (λ at. (at < n) × ((k : ℕ) → k < n → k ≢ at → get_or logs k [] ≡ []))

  pub empty_more : (n : ℕ) (found : Option ℕ) → OnlyOf n found → get_or logs n [] ≡ [] → OnlyOf (n + 1) found
  empty_more n None f e = up_to_next (λ k. get_or logs k [] ≡ []) n f e
  empty_more n (Some at) f e = (omega (arith, f.0), up_to_next (λ k. k ≢ at → get_or logs k [] ≡ []) n f.1 (λ d. e))

-- the stamps of the first entries
first_at : (left : List (List Entry)) (k : ℕ) → get_or (map first_stamp left) k None ≡ first_stamp (get_or left k [])
first_at [] k = refl
first_at (l ∷ ls) zero = refl
first_at (l ∷ ls) (suc k) = first_at ls k

pub none_left : (left : List (List Entry)) (stamps : List (Option ℕ)) → stamps ≡ map first_stamp left → ((k : ℕ) → get_or stamps k None ≡ None) → (k : ℕ) → get_or left k [] ≡ []
none_left left stamps s n k = empty (get_or left k []) (sym (first_at left k) ∙ ap (λ xs. get_or xs k None) (sym s) ∙ n k)
  where
    empty : (log : List Entry) → first_stamp log ≡ None → log ≡ []
    empty [] e = refl
    empty (x ∷ xs) e = absurd (cc e)

-- the first entry of a log is taken
take_log : (left : List (List Entry)) (stamps : List (Option ℕ)) → stamps ≡ map first_stamp left → (at : ℕ) → IsFirst stamps at → (log : List Entry) → get_or left at [] ≡ log → (r : Option Entry) → r ≡ slice_get log 0 → MatchOption r ((k : ℕ) → get_or left k [] ≡ []) (λ e. Takes left e (set left at (drop 1 log)))
take_log left stamps s at f [] t r v = absurd (gone (sym f.least.there ∙ ap (λ xs. get_or xs at None) s ∙ first_at left at ∙ ap first_stamp t))
  where
    gone : {n : ℕ} → Some n ≡ None → ⊥
    gone q = cc
take_log left stamps s at f (x ∷ xs) t r v = subst (λ o. MatchOption o ((k : ℕ) → get_or left k [] ≡ []) (λ e. Takes left e (set left at xs))) (sym v) (record {
  at = at;
  rest = xs;
  there = t;
  taken = refl;
  before = λ k l. subst (From (suc x.stamp)) (stamp_at k) (subst (λ n. From (suc n) (get_or stamps k None)) same (f.least.before k l));
  behind = λ k. subst (From x.stamp) (stamp_at k) (or_else (cases_lt k (length stamps))
      (λ l. subst (λ n. From n (get_or stamps k None)) same (f.least.behind k l))
      (λ l. subst (From x.stamp) (sym (get_or_past stamps k None l)) tt));
})
  where
    stamp_at : (k : ℕ) → get_or stamps k None ≡ first_stamp (get_or left k [])
    stamp_at k = ap (λ xs. get_or xs k None) s ∙ first_at left k

    same : f.stamp ≡ x.stamp
    same = cc (f.least.there, stamp_at at, ap first_stamp t)

module _ (logs : List (VecDeque Entry Global)) (stamps : List (Option ℕ)) (s : stamps ≡ map first_stamp (map deque_items logs)) where
  place_within : (at : ℕ) → IsFirst stamps at → at < length logs
  place_within at f = omega (arith, f.within, ap length s, length-map (map deque_items logs) first_stamp, length-map logs (deque_items {X = Entry} {Z = Global}))

  pub stamp_put : (at : ℕ) → IsFirst stamps at → (after q : VecDeque Entry Global) → q ≡ get_or (set logs at after) at q → (stamp : Option ℕ) → stamp ≡ first_stamp q.items → set stamps at stamp ≡ map first_stamp (map deque_items (set logs at after))
  stamp_put at f after q r stamp e =
      ap (λ xs. set xs at stamp) s
      ∙ ap (set (map first_stamp (map deque_items logs)) at) (e ∙ ap (λ (d : VecDeque Entry Global). first_stamp d.items) (r ∙ get_or-set_same logs at after q (place_within at f)))
      ∙ sym (map-set first_stamp (map deque_items logs) at after.items)
      ∙ ap (map first_stamp) (sym (map-set deque_items logs at after))

  pub take_first : (at : ℕ) → IsFirst stamps at → (q : VecDeque Entry Global) → q ≡ get_or logs at q → (r : Option Entry) → r ≡ slice_get q.items 0 → (after : VecDeque Entry Global) → after.items ≡ drop 1 q.items → (now : List (List Entry)) → map deque_items logs ≡ now → MatchOption r ((k : ℕ) → get_or now k [] ≡ []) (λ e. Takes now e (map deque_items (set logs at after)))
  take_first at f q t r v after d now w =
      subst (λ ls. MatchOption r ((k : ℕ) → get_or now k [] ≡ []) (λ e. Takes now e ls))
      (ap (λ ls. set ls at (drop 1 q.items)) (sym w) ∙ ap (set (map deque_items logs) at) (sym d) ∙ sym (map-set deque_items logs at after))
      (take_log now stamps (s ∙ ap (map first_stamp) w) at f q.items (ap (λ ls. get_or ls at []) (sym w) ∙ get_or-map deque_items logs at q [] (place_within at f) ∙ ap deque_items (sym t)) r v)

-- a log as it is read
module _ (logs : List (Vec Entry Global)) (k : ℕ) where
  pub no_entries : (log : Vec Entry Global) → k < length logs → log ≡ get_or logs k log → (empty : Bool) → empty ≡ nat_eq (vec_len log) 0 → empty ≡ true → get_or (map items_of logs) k [] ≡ []
  no_entries log l r empty e y =
      get_or-map items_of logs k log [] l ∙ ap items_of (sym r) ∙ of_length log.items (sym log.ok.0 ∙ eqb-true (vec_len log) 0 (sym e ∙ y))
    where
      of_length : (es : List Entry) → length es ≡ 0 → es ≡ []
      of_length [] q = refl
      of_length (x ∷ xs) q = absurd (omega (arith, q))

  pub log_read : IsOnlyFilled (map items_of logs) k → (log : Vec Entry Global) → log ≡ get_or logs k log → get_or (map items_of logs) k [] ≡ log.items
  log_read o log r = get_or-map items_of logs k log [] (omega (arith, o.within, length-map logs items_of)) ∙ ap items_of (sym r)
