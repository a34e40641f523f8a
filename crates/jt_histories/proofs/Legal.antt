-- Legal and kept are the same for any list, so a legal run stays one in the order of stamp, then shard.
use Rattle.std.proofs.Common.{◌≡◌, ℕ, ◌<◌, ◌≤◌, List, [], ◌∷◌, ◌++◌, Option, Some, None, Bool, true, ◌⊎◌, inl, inr, refl, sym, ap, ◌∙◌, subst, arith, nat_eq, reverse, append_assoc}
use Rattle.std.specs.Prelude.{filter}
use Rattle.std.proofs.lemmas.Bool.{eq-eqb}
use Rattle.std.proofs.lemmas.List.{reverse-reverse, same_from_push}
use Rattle.std.proofs.lemmas.List.Elements.{filter-append}
use Rattle.jt_base.specs.declared.entry.Entry.{Entry}
use Rattle.jt_laws.specs.Entries.{same_path, shard, spawns, of_task, of_shard, below, In, Rising, Ordered}
use Rattle.jt_laws.specs.Histories.{World, Birth, born_in, born_of, birth_at, LegalFrom, StampedFrom, IsLegalRun, IsLegalHistory}
use Rattle.jt_laws.proofs.Paths.{same_itself}
use Rattle.jt_histories.specs.Kept.{Kept, Same, Laws}
use Rattle.jt_histories.specs.Merges.{in_order}
use Rattle.jt_histories.proofs.Lists.{or_else, in_filter, in_right, in_either, each_in}
use Rattle.jt_histories.proofs.Locality.{in_task, born_found, fits_moved, stamps_moved, kept_same}
use Rattle.jt_histories.proofs.Stamped.{part_below, rev_cons, made_kept, chain}
use Rattle.jt_histories.proofs.InOrder.{same_in_order, in_order_ordered, ordered_one}

pub push_not_nil : (xs : List ℕ) (k : ℕ) → xs ++ k ∷ [] ≡ [] → ⊥
push_not_nil [] k e = cc
push_not_nil (x ∷ xs) k e = cc

-- what stands before has the smaller stamp
across_lists : (xs ys : List Entry) → Rising (xs ++ ys) → (y z : Entry) → In y xs → In z ys → y.stamp < z.stamp
across_lists [] ys r y z i j = absurd i
across_lists (x ∷ xs) ys r y z i j = or_else i
    (λ p. subst (λ (v : Entry). v.stamp < z.stamp) p (each_in (λ v. x.stamp < v.stamp) (xs ++ ys) z r.0 (in_right z xs ys j)))
    (λ k. across_lists xs ys r.1 y z k j)

across : (f : Entry → Bool) (xs ys : List Entry) → Rising (filter f (xs ++ ys)) → (y z : Entry) → In y xs → In z ys → f y ≡ true → f z ≡ true → y.stamp < z.stamp
across f xs ys r y z i j a b = across_lists (filter f xs) (filter f ys) (subst Rising (filter-append f xs ys) r) y z (in_filter f y xs i a) (in_filter f z ys j b)

-- an earlier one of a part stands in front of e, if the later one stands there or is e
earlier_front : (f : Entry → Bool) (front : List Entry) (e : Entry) (back : List Entry) → Rising (filter f (front ++ e ∷ back)) → (y z : Entry) → In y front ⊎ (e ≡ y) → In z (front ++ e ∷ back) → f y ≡ true → f z ≡ true → z.stamp < y.stamp → In z front
earlier_front f front e back r y z a i fy fz l = or_else (in_either z front (e ∷ back) i)
    (λ h. h)
    (λ j. or_else a
    (λ h. let c : y.stamp < z.stamp = across f front (e ∷ back) r y z h j fy fz in absurd (omega arith))
    (λ p. or_else j
    (λ q. let c : y.stamp ≡ z.stamp = ap (λ (v : Entry). v.stamp) (sym p ∙ q) in absurd (omega arith))
    (λ h. let parts : filter f (front ++ e ∷ back) ≡ filter f ((front ++ e ∷ []) ++ back) = ap (filter f) (sym (append_assoc front (e ∷ []) back)) in
    let c : y.stamp < z.stamp = across f (front ++ e ∷ []) back (subst Rising parts r) y z (subst (λ v. In v (front ++ e ∷ [])) p (in_right e front (e ∷ []) (inl refl))) h fy fz in absurd (omega arith))))

same_or_less : (a b : ℕ) → a ≤ b → (a < b) ⊎ (a ≡ b)
same_or_less a b l = grind arith

-- where two of a rising list have one stamp they are one
one_stamp : (l : List Entry) → Rising l → (y z : Entry) → In y l → In z l → y.stamp ≡ z.stamp → y ≡ z
one_stamp [] r y z i j e = absurd i
one_stamp (x ∷ xs) r y z i j e = or_else i
    (λ p. or_else j (λ q. sym p ∙ q) (λ k. let c : x.stamp < z.stamp = each_in (λ v. x.stamp < v.stamp) xs z r.0 k in let d : x.stamp ≡ y.stamp = ap (λ (v : Entry). v.stamp) p in absurd (omega arith)))
    (λ m. or_else j (λ q. let c : x.stamp < y.stamp = each_in (λ v. x.stamp < v.stamp) xs y r.0 m in let d : x.stamp ≡ z.stamp = ap (λ (v : Entry). v.stamp) q in absurd (omega arith)) (λ k. one_stamp xs r.1 y z m k e))

module _ (S : Type 0) (w : World S) (laws : Laws S w) where
  back_step : (front back : List Entry) (k : ℕ) (up : List ℕ) (x : Entry) → In x front → x.task ≡ reverse up → spawns x.op (reverse (k ∷ up)) ≡ true → (b : Birth S) (o : Option (Birth S)) → birth_at S w (λ p. of_task p (front ++ back)) up ≡ o → ((c : Birth S) → birth_at S w (λ p. of_task p (front ++ back)) up ≡ Some c → birth_at S w (λ p. of_task p front) up ≡ Some c) → born_of w.next (reverse up) (reverse (k ∷ up)) (of_task (reverse up) (front ++ back)) o ≡ Some b → birth_at S w (λ p. of_task p front) (k ∷ up) ≡ Some b
  back_step front back k up x i t s b None q ih e = absurd (cc)
  back_step front back k up x i t s b (Some c) q ih e =
      ap (born_of w.next (reverse up) (reverse (k ∷ up)) (of_task (reverse up) front)) (ih c q)
      ∙ sym (born_found S (w.next (reverse up) c.start) (reverse (k ∷ up)) [] (of_task (reverse up) front) (of_task (reverse up) back) x
      (in_filter (λ v. same_path v.task (reverse up)) x front i (ap (λ p. same_path p (reverse up)) t ∙ same_itself (reverse up))) s)
      ∙ ap (born_in (w.next (reverse up) c.start) (reverse (k ∷ up)) []) (sym (filter-append (λ v. same_path v.task (reverse up)) front back))
      ∙ e

  births_front : (front : List Entry) (e : Entry) (back : List Entry) → Kept S w (front ++ e ∷ back) → (r : List ℕ) (y : Entry) → In y (front ++ e ∷ back) → In y front ⊎ (e ≡ y) → y.task ≡ reverse r → (b : Birth S) → birth_at S w (λ p. of_task p (front ++ e ∷ back)) r ≡ Some b → birth_at S w (λ p. of_task p front) r ≡ Some b
  births_front front e back kept [] y i a t b q = q
  births_front front e back kept (k ∷ up) y i a t b q =
      let h = front ++ e ∷ back in
      let c = chain S w laws h kept y i (λ z. push_not_nil (reverse up) k (sym (rev_cons k up) ∙ sym t ∙ z)) in
      let g = c.0 in
      let m = c.4 in
      let x = m.0 in
      let ft : same_path g.task y.task ≡ true = ap (λ p. same_path p y.task) c.2 ∙ same_itself y.task in
      let ga : In g front ⊎ (e ≡ g) = or_else (same_or_less g.stamp y.stamp c.3)
      (λ l. inl (earlier_front (λ v. same_path v.task y.task) front e back (kept.tasks_rise y.task) y g a c.1 (same_itself y.task) ft l))
      (λ s. let o = one_stamp (of_task y.task h) (kept.tasks_rise y.task) g y (in_filter (λ v. same_path v.task y.task) g h c.1 ft) (in_task y h i) s in
      or_else a (λ z. inl (subst (λ v. In v front) (sym o) z)) (λ z. inr (z ∙ sym o))) in
      let xf : In x front = earlier_front (λ v. nat_eq (shard v) (shard g)) front e back (kept.shards_rise (shard g)) g x ga m.1 (eq-eqb (shard g) (shard g) refl) (eq-eqb (shard x) (shard g) m.4) m.3 in
      let maker = same_from_push (reverse up) x.task k m.5.0 (sym (rev_cons k up) ∙ sym t ∙ m.5.1) in
      back_step front (e ∷ back) k up x xf (sym maker.0) (ap (spawns x.op) (sym t) ∙ m.2) b (birth_at S w (λ p. of_task p h) up) refl
      (births_front front e back kept up x m.1 (inl xf) (sym maker.0)) q

  legal_after : (front back : List Entry) → Kept S w (front ++ back) → LegalFrom S w front back × StampedFrom S w front back
  legal_after front [] k = (tt, tt)
  legal_after front (e ∷ back) k =
      let i : In e (front ++ e ∷ back) = in_right e front (e ∷ back) (inl refl) in
      let task = sym (part_below (λ x. same_path x.task e.task) front e back (same_itself e.task) (k.tasks_rise e.task)) in
      let here = sym (part_below (λ x. nat_eq (shard x) (shard e)) front e back (eq-eqb (shard e) (shard e) refl) (k.shards_rise (shard e))) in
      let fits = fits_moved S w (front ++ e ∷ back) (below e.stamp (front ++ e ∷ back)) front front e (k.fits e i) (births_front front e back k (reverse e.task) e i (inr refl) (sym (reverse-reverse e.task))) task here in
      let stamps = stamps_moved S w (below e.stamp (front ++ e ∷ back)) front e (k.stamps e i) task here in
      let rest = legal_after (front ++ e ∷ []) back (subst (Kept S w) (sym (append_assoc front (e ∷ []) back)) k) in
      ((fits, rest.0), (stamps, rest.1))

  -- for any list
  pub kept_made : (h : List Entry) → Kept S w h → IsLegalRun S w h × StampedFrom S w [] h
  kept_made h k = legal_after [] h k

  -- the locality of legality
  pub legal_same : (h g : List Entry) → Same h g → IsLegalRun S w h → StampedFrom S w [] h → IsLegalRun S w g × StampedFrom S w [] g
  legal_same h g s l t = kept_made g (kept_same S w h g s (made_kept S w h l t))

  pub kept_history : (h : List Entry) → Kept S w h → Ordered h → IsLegalHistory S w h
  kept_history h k o = record { legal = (kept_made h k).0; stamped = (kept_made h k).1; ordered = o }

  -- the merge law
  pub merged_legal : (made merged : List Entry) → IsLegalRun S w made → StampedFrom S w [] made → Ordered merged → ((k : ℕ) → of_shard k merged ≡ of_shard k made) → IsLegalHistory S w merged
  merged_legal made merged l t o s =
      let k = made_kept S w made l t in
      let one : in_order made ≡ merged = ordered_one (in_order made) merged (in_order_ordered made k.shards_rise) o (λ n. sym ((same_in_order made k.tasks_rise k.shards_rise).shards n) ∙ sym (s n)) in
      subst (IsLegalHistory S w) one (kept_history (in_order made) (kept_same S w made (in_order made) (same_in_order made k.tasks_rise k.shards_rise) k) (in_order_ordered made k.shards_rise))
