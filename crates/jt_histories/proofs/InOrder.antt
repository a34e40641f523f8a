-- Lists put in the order of stamp, then shard: each part is kept, and the parts tell the list.
use Rattle.std.proofs.Common.{◌≡◌, ℕ, ◌<◌, List, [], ◌∷◌, Bool, true, false, inl, refl, sym, ap, ◌∙◌, subst, arith, nat_eq}
use Rattle.std.specs.Prelude.{filter}
use Rattle.std.proofs.lemmas.Bool.{eq-eqb}
use Rattle.jt_base.specs.declared.entry.Entry.{Entry}
use Rattle.jt_laws.specs.Entries.{same_path, shard, of_task, of_shard, In, Rising, Ordered, key}
use Rattle.jt_histories.specs.Kept.{Same}
use Rattle.jt_histories.specs.Merges.{in_order}
use Rattle.jt_histories.proofs.Lists.{or_else, by_test, filter_yes, filter_no, in_filter, each_in}
use Rattle.jt_histories.proofs.Orders.{key_later, same_key, insert_other, insert_first, insert_ordered}
use Rattle.jt_histories.proofs.Locality.{in_shard, shard_in}

-- putting in order keeps each part whose stamps rise
pub in_order_keeps : (f : Entry → Bool) (l : List Entry) → Rising (filter f l) → filter f (in_order l) ≡ filter f l
in_order_keeps f [] r = refl
in_order_keeps f (e ∷ es) r = by_test (f e)
    (λ y. let r2 : Rising (e ∷ filter f es) = subst Rising (filter_yes f e es y) r in
    let ih = in_order_keeps f es r2.1 in
    insert_first f e (in_order es) y (λ x i t. key_later e x (each_in (λ v. e.stamp < v.stamp) (filter f es) x r2.0 (subst (In x) ih (in_filter f x (in_order es) i t))))
    ∙ ap (λ l. e ∷ l) ih ∙ sym (filter_yes f e es y))
    (λ n. insert_other f e (in_order es) n ∙ in_order_keeps f es (subst Rising (filter_no f e es n) r) ∙ sym (filter_no f e es n))

pub same_in_order : (l : List Entry) → ((p : List ℕ) → Rising (of_task p l)) → ((k : ℕ) → Rising (of_shard k l)) → Same l (in_order l)
same_in_order l t s = record {
  tasks = λ p. sym (in_order_keeps (λ x. same_path x.task p) l (t p));
  shards = λ k. sym (in_order_keeps (λ x. nat_eq (shard x) k) l (s k));
}

pub rising_tail : (f : Entry → Bool) (e : Entry) (es : List Entry) → Rising (filter f (e ∷ es)) → Rising (filter f es)
rising_tail f e es r = by_test (f e)
    (λ y. let r2 : Rising (e ∷ filter f es) = subst Rising (filter_yes f e es y) r in r2.1)
    (λ n. subst Rising (filter_no f e es n) r)

pub in_order_ordered : (l : List Entry) → ((k : ℕ) → Rising (of_shard k l)) → Ordered (in_order l)
in_order_ordered [] s = tt
in_order_ordered (e ∷ es) s =
    let tail = λ (k : ℕ). rising_tail (λ x. nat_eq (shard x) k) e es (s k) in
    insert_ordered e (in_order es) (in_order_ordered es tail) (λ x i q.
    let same = same_key x e q in
    let here : nat_eq (shard e) (shard e) ≡ true = eq-eqb (shard e) (shard e) refl in
    let r2 : Rising (e ∷ of_shard (shard e) es) = subst Rising (filter_yes (λ v. nat_eq (shard v) (shard e)) e es here) (s (shard e)) in
    let j : In x (of_shard (shard e) (in_order es)) = in_filter (λ v. nat_eq (shard v) (shard e)) x (in_order es) i (eq-eqb (shard x) (shard e) same.1) in
    let k : In x (of_shard (shard e) es) = subst (In x) (in_order_keeps (λ v. nat_eq (shard v) (shard e)) es (tail (shard e))) j in
    let lt : e.stamp < x.stamp = each_in (λ v. e.stamp < v.stamp) (of_shard (shard e) es) x r2.0 k in
    let eq : x.stamp ≡ e.stamp = same.0 in
    absurd (omega arith))

-- a list in order is known by its parts
pub ordered_one : (h g : List Entry) → Ordered h → Ordered g → ((k : ℕ) → of_shard k h ≡ of_shard k g) → h ≡ g
ordered_one [] [] o p s = refl
ordered_one [] (b ∷ back) o p s = absurd (subst (In b) (sym (s (shard b))) (in_shard b (b ∷ back) (inl refl)))
ordered_one (a ∷ front) [] o p s = absurd (subst (In a) (s (shard a)) (in_shard a (a ∷ front) (inl refl)))
ordered_one (a ∷ front) (b ∷ back) o p s =
    let ia : In a (b ∷ back) = (shard_in a (shard a) (b ∷ back) (subst (In a) (s (shard a)) (in_shard a (a ∷ front) (inl refl)))).0 in
    let ib : In b (a ∷ front) = (shard_in b (shard b) (a ∷ front) (subst (In b) (sym (s (shard b))) (in_shard b (b ∷ back) (inl refl)))).0 in
    let eq : a ≡ b = or_else ia (λ q. sym q) (λ j. or_else ib (λ q. q) (λ l.
    let x : key b < key a = each_in (λ v. key b < key v) back a p.0 j in
    let y : key a < key b = each_in (λ v. key a < key v) front b o.0 l in absurd (omega arith))) in
    ap (λ z. z ∷ front) eq ∙ ap (λ zs. b ∷ zs) (ordered_one front back o.1 p.1 (λ k. by_test (nat_eq (shard a) k)
    (λ y. let yb : nat_eq (shard b) k ≡ true = ap (λ z. nat_eq (shard z) k) (sym eq) ∙ y in
    same_tail (sym (filter_yes (λ v. nat_eq (shard v) k) a front y) ∙ s k ∙ filter_yes (λ v. nat_eq (shard v) k) b back yb))
    (λ n. let nb : nat_eq (shard b) k ≡ false = ap (λ z. nat_eq (shard z) k) (sym eq) ∙ n in
    sym (filter_no (λ v. nat_eq (shard v) k) a front n) ∙ s k ∙ filter_no (λ v. nat_eq (shard v) k) b back nb)))
  where
    same_tail : {x y : Entry} {xs ys : List Entry} → x ∷ xs ≡ y ∷ ys → xs ≡ ys
    same_tail e = cc
