-- The order by stamp and shard.
use Rattle.std.proofs.Common.{◌≡◌, ℕ, ◌<◌, ◌≤◌, List, [], ◌∷◌, ◌++◌, Bool, true, false, cond, ◌⊎◌, inl, inr, refl, sym, ap, ◌∙◌, subst, arith, nat_lt}
use Rattle.std.specs.Prelude.{filter}
use Rattle.std.proofs.lemmas.Bool.{ltb-true, ltb-false}
use Rattle.jt_base.specs.declared.entry.Entry.{Entry}
use Rattle.jt_base.specs.declared.object.Object.{Object}
use Rattle.jt_base.specs.declared.object.Object.TheVariants.{Printer, Task, Named}
use Rattle.jt_base.specs.Objects.{shard_of_object}
use Rattle.jt_laws.specs.Entries.{object, shard, In, Ordered, key}
use Rattle.jt_histories.specs.Merges.{insert_entry}
use Rattle.jt_histories.proofs.Lists.{or_else, by_test, filter_yes, filter_no, filter_none, each_in, each_from}

pub shard_small : (o : Object) → shard_of_object o < 16
shard_small Printer = omega arith
shard_small (Task p) = omega arith
shard_small (Named n) = omega arith

pub key_later : (a b : Entry) → a.stamp < b.stamp → key a < key b
key_later a b l = let s = shard_small (object a) in omega (arith, s)

pub key_stamp : (a b : Entry) → key a < key b → a.stamp ≤ b.stamp
key_stamp a b l = let s = shard_small (object b) in omega (arith, s)

pub same_key : (a b : Entry) → key a ≡ key b → (a.stamp ≡ b.stamp) × (shard a ≡ shard b)
same_key a b e =
    let s = shard_small (object a) in let t = shard_small (object b) in
    let p : a.stamp ≡ b.stamp = omega (arith, s, t, e) in
    let q : shard a ≡ shard b = omega (arith, s, t, e) in (p, q)

insert_here : (e x : Entry) (xs : List Entry) → nat_lt (key e) (key x) ≡ true → insert_entry e (x ∷ xs) ≡ e ∷ x ∷ xs
insert_here e x xs y = ap (λ b. cond b (e ∷ x ∷ xs) (x ∷ insert_entry e xs)) y

insert_later : (e x : Entry) (xs : List Entry) → nat_lt (key e) (key x) ≡ false → insert_entry e (x ∷ xs) ≡ x ∷ insert_entry e xs
insert_later e x xs n = ap (λ b. cond b (e ∷ x ∷ xs) (x ∷ insert_entry e xs)) n

module _ (f : Entry → Bool) where
  pub insert_other : (e : Entry) (h : List Entry) → f e ≡ false → filter f (insert_entry e h) ≡ filter f h
  insert_other e [] n = filter_no f e [] n
  insert_other e (x ∷ xs) n = by_test (nat_lt (key e) (key x))
      (λ y. ap (filter f) (insert_here e x xs y) ∙ filter_no f e (x ∷ xs) n)
      (λ z. ap (filter f) (insert_later e x xs z) ∙ ap (λ ys. cond (f x) (x ∷ ys) ys) (insert_other e xs n))

  -- before all that pass
  pub insert_first : (e : Entry) (h : List Entry) → f e ≡ true → ((x : Entry) → In x h → f x ≡ true → key e < key x) → filter f (insert_entry e h) ≡ e ∷ filter f h
  insert_first e [] t b = filter_yes f e [] t
  insert_first e (x ∷ xs) t b = by_test (nat_lt (key e) (key x))
      (λ y. ap (filter f) (insert_here e x xs y) ∙ filter_yes f e (x ∷ xs) t)
      (λ z. by_test (f x)
      (λ y. let l : key e < key x = b x (inl refl) y in let g : key x ≤ key e = ltb-false (key e) (key x) z in absurd (omega arith))
      (λ n. ap (filter f) (insert_later e x xs z) ∙ filter_no f x (insert_entry e xs) n ∙ insert_first e xs t (λ w i p. b w (inr i) p) ∙ ap (λ ys. e ∷ ys) (sym (filter_no f x xs n))))

  -- behind all that pass
  pub insert_last : (e : Entry) (h : List Entry) → f e ≡ true → Ordered h → ((x : Entry) → In x h → f x ≡ true → key x ≤ key e) → filter f (insert_entry e h) ≡ filter f h ++ e ∷ []
  insert_last e [] t o b = filter_yes f e [] t
  insert_last e (x ∷ xs) t o b = by_test (nat_lt (key e) (key x))
      (λ y. let none : filter f (x ∷ xs) ≡ [] = filter_none f (x ∷ xs) (λ w i. by_test (f w)
      (λ p. let l : key w ≤ key e = b w i p in
      let g : key e < key x = ltb-true (key e) (key x) y in
      let m : key x ≤ key w = or_else i (λ q. let r : key x ≡ key w = ap key q in omega arith) (λ j. let r : key x < key w = each_in (λ v. key x < key v) xs w o.0 j in omega arith) in
      absurd (omega arith))
      (λ n. n)) in
      ap (filter f) (insert_here e x xs y) ∙ filter_yes f e (x ∷ xs) t ∙ ap (λ ys. e ∷ ys) none ∙ ap (λ ys. ys ++ e ∷ []) (sym none))
      (λ z. ap (filter f) (insert_later e x xs z) ∙ ap (λ ys. cond (f x) (x ∷ ys) ys) (insert_last e xs t o.1 (λ w i p. b w (inr i) p)) ∙ push_cond (f x) x (filter f xs))
    where
      push_cond : (c : Bool) (v : Entry) (ys : List Entry) → cond c (v ∷ ys ++ e ∷ []) (ys ++ e ∷ []) ≡ cond c (v ∷ ys) ys ++ e ∷ []
      push_cond true v ys = refl
      push_cond false v ys = refl

pub in_insert : (e x : Entry) (h : List Entry) → In x (insert_entry e h) → (e ≡ x) ⊎ In x h
in_insert e x [] i = i
in_insert e x (y ∷ ys) i = by_test (nat_lt (key e) (key y))
    (λ t. subst (In x) (insert_here e y ys t) i)
    (λ n. or_else (subst (In x) (insert_later e y ys n) i) (λ p. inr (inl p)) (λ j. or_else (in_insert e x ys j) (λ p. inl p) (λ k. inr (inr k))))

pub insert_ordered : (e : Entry) (h : List Entry) → Ordered h → ((x : Entry) → In x h → key x ≡ key e → ⊥) → Ordered (insert_entry e h)
insert_ordered e [] o d = (tt, tt)
insert_ordered e (x ∷ xs) o d = by_test (nat_lt (key e) (key x))
    (λ y. let l : key e < key x = ltb-true (key e) (key x) y in
    subst Ordered (sym (insert_here e x xs y)) (
      each_from (λ w. key e < key w) (x ∷ xs) (λ w i. or_else i
          (λ p. subst (λ v. key e < key v) p l)
          (λ j. let r : key x < key w = each_in (λ v. key x < key v) xs w o.0 j in omega arith)),
      o,
    ))
    (λ n. let g : key x ≤ key e = ltb-false (key e) (key x) n in
    let l : key x < key e = strict (key x) (key e) g (d x (inl refl)) in
    subst Ordered (sym (insert_later e x xs n)) (
      each_from (λ w. key x < key w) (insert_entry e xs) (λ w i. or_else (in_insert e w xs i)
          (λ p. subst (λ v. key x < key v) p l)
          (λ j. each_in (λ v. key x < key v) xs w o.0 j)),
      insert_ordered e xs o.1 (λ w i p. d w (inr i) p),
    ))
  where
    strict : (a b : ℕ) → a ≤ b → (a ≡ b → ⊥) → a < b
    strict a b l n = grind arith
