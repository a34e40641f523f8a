-- Entry by entry, the first of what is left is taken: what was taken is the merge.
use Rattle.std.proofs.Common.{◌≡◌, ℕ, suc, zero, ◌+◌, ◌<◌, ◌≤◌, List, [], ◌∷◌, ◌++◌, sym, ap, ◌∙◌, subst, arith, nat_eq, append_assoc, length, get_or, set, map, take, Vec, vec_len}
use Rattle.std.specs.Global.{Global}
use Rattle.std.proofs.lemmas.Bool.{cases_eq, cases_lt, eq-eqb, ne_eqb}
use Rattle.std.proofs.lemmas.List.{append-nil, get_or_past, get_or-set_same, get_or-set_other, map_more}
use Rattle.jt_base.specs.declared.entry.Entry.{Entry}
use Rattle.jt_laws.specs.Entries.{shard, of_shard, In, Each, Rising, Ordered, key}
use Rattle.jt_histories.specs.Merges.{IsMerge, AreLogs, items_of}
use Rattle.jt_histories.specs.Fronts.{first_stamp, From, Takes, IsOnlyFilled, count_of}
use Rattle.jt_histories.proofs.Lists.{or_else, filter_yes, filter_no, filter_none, filter_all, each_in, each_from}
use Rattle.jt_histories.proofs.Orders.{key_later}
use Rattle.jt_histories.proofs.Locality.{in_shard}

-- no entry is before the first
from_first : (bound : ℕ) (log : List Entry) (x : Entry) → Rising log → From bound (first_stamp log) → In x log → bound ≤ x.stamp
from_first bound [] x r f i = absurd i
from_first bound (y ∷ ys) x r f i = or_else i
    (λ p. subst (λ (v : Entry). bound ≤ v.stamp) p f)
    (λ j. let l : y.stamp < x.stamp = each_in (λ v. y.stamp < v.stamp) ys x r.0 j in let g : bound ≤ y.stamp = f in omega arith)

key_behind : (a b : Entry) → a.stamp ≤ b.stamp → shard a < shard b → key a < key b
key_behind a b l s = omega (arith, l, s)

filled_within : (left : List (List Entry)) (at : ℕ) (e : Entry) (rest : List Entry) → get_or left at [] ≡ e ∷ rest → at < length left
filled_within left at e rest t = or_else (cases_lt at (length left)) (λ l. l) (λ l. absurd (none (sym (get_or_past left at [] l) ∙ t)))
  where
    none : [] ≡ e ∷ rest → ⊥
    none q = cc

module _ (left : List (List Entry)) (e : Entry) (after : List (List Entry)) (t : Takes left e after) where
  taken_there : get_or after t.at [] ≡ t.rest
  taken_there = ap (λ ls. get_or ls t.at []) t.taken ∙ get_or-set_same left t.at t.rest [] (filled_within left t.at e t.rest t.there)

  others_stay : (k : ℕ) → (k ≡ t.at → ⊥) → get_or after k [] ≡ get_or left k []
  others_stay k n = ap (λ ls. get_or ls k []) t.taken ∙ get_or-set_other left t.at k t.rest [] n

  pub still_logs : AreLogs left → AreLogs after
  still_logs a = record {
    shards = λ k. or_else (cases_eq k t.at)
        (λ q. let here : Each (λ x. shard x ≡ t.at) (e ∷ t.rest) = subst (Each (λ x. shard x ≡ t.at)) t.there (a.shards t.at) in
        subst (λ n. Each (λ x. shard x ≡ n) (get_or after n [])) (sym q) (subst (Each (λ x. shard x ≡ t.at)) (sym taken_there) here.1))
        (λ n. subst (Each (λ x. shard x ≡ k)) (sym (others_stay k n)) (a.shards k));
    rise = λ k. or_else (cases_eq k t.at)
        (λ q. let here : Rising (e ∷ t.rest) = subst Rising t.there (a.rise t.at) in
        subst (λ n. Rising (get_or after n [])) (sym q) (subst Rising (sym taken_there) here.1))
        (λ n. subst Rising (sym (others_stay k n)) (a.rise k));
  }

  here_shard : AreLogs left → shard e ≡ t.at
  here_shard a = let here : Each (λ x. shard x ≡ t.at) (e ∷ t.rest) = subst (Each (λ x. shard x ≡ t.at)) t.there (a.shards t.at) in here.0

  -- the entry is before all that are left
  before_rest : AreLogs left → (x : Entry) → In x (get_or after (shard x) []) → key e < key x
  before_rest a x i = or_else (cases_eq (shard x) t.at)
      (λ q. let here : Rising (e ∷ t.rest) = subst Rising t.there (a.rise t.at) in
      key_later e x (each_in (λ v. e.stamp < v.stamp) t.rest x here.0 (subst (In x) (ap (λ n. get_or after n []) q ∙ taken_there) i)))
      (λ n. let j : In x (get_or left (shard x) []) = subst (In x) (others_stay (shard x) n) i in
      or_else (cases_lt (shard x) t.at)
      (λ l. let f : suc e.stamp ≤ x.stamp = from_first (suc e.stamp) (get_or left (shard x) []) x (a.rise (shard x)) (t.before (shard x) l) j in key_later e x (omega (arith, f)))
      (λ l. let f : e.stamp ≤ x.stamp = from_first e.stamp (get_or left (shard x) []) x (a.rise (shard x)) (t.behind (shard x)) j in
      let s : shard e ≡ t.at = here_shard a in
      key_behind e x f (strict (shard e) (shard x) t.at s l n)))
    where
      strict : (a b at : ℕ) → a ≡ at → at ≤ b → (b ≡ at → ⊥) → a < b
      strict a b at s l n = grind arith

  pub with_taken : AreLogs left → (rest : List Entry) → IsMerge after rest → IsMerge left (e ∷ rest)
  with_taken a rest m = record {
    ordered = (each_from (λ x. key e < key x) rest (λ x i. before_rest a x (subst (In x) (m.logged (shard x)) (in_shard x rest i))), m.ordered);
    logged = λ k. or_else (cases_eq k t.at)
        (λ q. filter_yes (λ x. nat_eq (shard x) k) e rest (eq-eqb (shard e) k (here_shard a ∙ sym q))
        ∙ ap (λ l. e ∷ l) (m.logged k ∙ ap (λ n. get_or after n []) q ∙ taken_there)
        ∙ sym t.there ∙ ap (λ n. get_or left n []) (sym q))
        (λ n. filter_no (λ x. nat_eq (shard x) k) e rest (ne_eqb (shard e) k (λ q. n (sym q ∙ here_shard a)))
        ∙ m.logged k ∙ others_stay k n);
  }

-- what was taken, before any merge of what is left, is a merge
pub record IsMergedBefore (logs : List (List Entry)) (left : List (List Entry)) (h : List Entry) : Type 0 where
  pub are_logs : AreLogs left
  pub merges : (rest : List Entry) → IsMerge left rest → IsMerge logs (h ++ rest)

pub begin_merge : (logs : List (List Entry)) → AreLogs logs → IsMergedBefore logs logs []
begin_merge logs a = record { are_logs = a; merges = λ rest m. m }

pub take_one : (logs left : List (List Entry)) (h : List Entry) (e : Entry) (after : List (List Entry)) → IsMergedBefore logs left h → Takes left e after → IsMergedBefore logs after (h ++ e ∷ [])
take_one logs left h e after b t = record {
  are_logs = still_logs left e after t b.are_logs;
  merges = λ rest m. subst (IsMerge logs) (sym (append_assoc h (e ∷ []) rest)) (b.merges (e ∷ rest) (with_taken left e after t b.are_logs rest m));
}

pub end_merge : (logs left : List (List Entry)) (h : List Entry) → IsMergedBefore logs left h → ((k : ℕ) → get_or left k [] ≡ []) → IsMerge logs h
end_merge logs left h b n = subst (IsMerge logs) (append-nil h) (b.merges [] (record { ordered = tt; logged = λ k. sym (n k) }))

-- how many entries there are
count_set : (left : List (List Entry)) (at : ℕ) (e : Entry) (rest : List Entry) → get_or left at [] ≡ e ∷ rest → count_of (set left at rest) < count_of left
count_set [] at e rest t = absurd (omega (arith, ap length t))
count_set (l ∷ ls) zero e rest t = omega (arith, ap length t)
count_set (l ∷ ls) (suc at) e rest t = omega (arith, count_set ls at e rest t)

pub one_fewer : (left : List (List Entry)) (e : Entry) (after : List (List Entry)) → Takes left e after → count_of after < count_of left
one_fewer left e after t = subst (λ ls. count_of ls < count_of left) (sym t.taken) (count_set left t.at e t.rest t.there)

count_push : (logs : List (List Entry)) (log : List Entry) → count_of (logs ++ log ∷ []) ≡ count_of logs + length log
count_push [] log = omega arith
count_push (l ∷ ls) log = omega (arith, count_push ls log)

pub count_more : (logs : List (Vec Entry Global)) (i : ℕ) (log : Vec Entry Global) → i < length logs → log ≡ get_or logs i log → count_of (map items_of (take (i + 1) logs)) ≡ count_of (map items_of (take i logs)) + vec_len log
count_more logs i log l r =
    ap count_of (map_more items_of logs i log l) ∙ count_push (map items_of (take i logs)) (items_of (get_or logs i log))
    ∙ ap (λ n. count_of (map items_of (take i logs)) + n) (ap (λ (v : Vec Entry Global). length v.items) (sym r) ∙ sym log.ok.0)

-- one log alone is its merge
rising_ordered : (log : List Entry) → Rising log → Ordered log
rising_ordered [] r = tt
rising_ordered (e ∷ es) r = (each_from (λ x. key e < key x) es (λ x i. key_later e x (each_in (λ v. e.stamp < v.stamp) es x r.0 i)), rising_ordered es r.1)

pub only_is_merge : (logs : List (List Entry)) (at : ℕ) → AreLogs logs → IsOnlyFilled logs at → IsMerge logs (get_or logs at [])
only_is_merge logs at a o = record {
  ordered = rising_ordered (get_or logs at []) (a.rise at);
  logged = λ k. or_else (cases_eq k at)
      (λ q. subst (λ n. of_shard n (get_or logs at []) ≡ get_or logs n []) (sym q) (filter_all (λ x. nat_eq (shard x) at) (get_or logs at []) (λ x i. eq-eqb (shard x) at (each_in (λ v. shard v ≡ at) (get_or logs at []) x (a.shards at) i))))
      (λ n. filter_none (λ x. nat_eq (shard x) k) (get_or logs at []) (λ x i. ne_eqb (shard x) k (λ q. n (sym q ∙ each_in (λ v. shard v ≡ at) (get_or logs at []) x (a.shards at) i))) ∙ sym (o.others k n));
}
