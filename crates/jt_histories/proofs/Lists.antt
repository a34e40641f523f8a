-- Lists of entries: what a test keeps, what is in them.
use Rattle.std.proofs.Common.{◌≡◌, ℕ, ◌<◌, ◌≤◌, List, [], ◌∷◌, ◌++◌, Bool, true, false, ◌&&◌, cond, ◌⊎◌, inl, inr, refl, sym, ap, ◌∙◌, subst, arith, nat_eq}
use Rattle.std.specs.Prelude.{filter}
use Rattle.std.proofs.lemmas.Bool.{cases_Bool, eq-eqb, eqb-true, and_parts, false≢true}
use Rattle.std.proofs.lemmas.List.{append-nil}
use Rattle.std.proofs.lemmas.List.Elements.{filter-append}
use Rattle.jt_base.specs.declared.entry.Entry.{Entry}
use Rattle.jt_base.specs.declared.name.Name.{Name}
use Rattle.jt_base.specs.declared.object.Object.{Object}
use Rattle.jt_base.specs.declared.object.Object.TheVariants.{Printer, Task, Named}
use Rattle.jt_laws.specs.Entries.{same_path, same_name, same_object, In, Each, Rising, top}
use Rattle.jt_laws.proofs.Paths.{same_itself, same_equal}

pub or_else : {A B P : Type 0} → A ⊎ B → (A → P) → (B → P) → P
or_else (inl a) f g = f a
or_else (inr b) f g = g b

pub by_test : {P : Type 0} (b : Bool) → (b ≡ true → P) → (b ≡ false → P) → P
by_test b f g = or_else (cases_Bool b) f g

pub same_object_refl : (o : Object) → same_object o o ≡ true
same_object_refl Printer = refl
same_object_refl (Task p) = same_itself p
same_object_refl (Named n) = ap (λ b. b && same_path n.path n.path) (eq-eqb n.number n.number refl) ∙ same_itself n.path

abbrev name_with : List ℕ → ℕ → Name
name_with path number = record { path = path; number = number }

same_name_true : (n m : Name) → same_name n m ≡ true → n ≡ m
same_name_true n m e =
    let b = and_parts (nat_eq n.number m.number) (same_path n.path m.path) e in
    ap (λ k. name_with n.path k) (eqb-true n.number m.number b.0) ∙ ap (λ p. name_with p m.number) (same_equal n.path m.path b.1)

pub same_object_true : (o q : Object) → same_object o q ≡ true → o ≡ q
same_object_true Printer Printer e = refl
same_object_true Printer (Task q) e = absurd (false≢true e)
same_object_true Printer (Named m) e = absurd (false≢true e)
same_object_true (Task p) Printer e = absurd (false≢true e)
same_object_true (Task p) (Task q) e = ap Task (same_equal p q e)
same_object_true (Task p) (Named m) e = absurd (false≢true e)
same_object_true (Named n) Printer e = absurd (false≢true e)
same_object_true (Named n) (Task q) e = absurd (false≢true e)
same_object_true (Named n) (Named m) e = ap Named (same_name_true n m e)

-- a test
module _ (f : Entry → Bool) where
  pub filter_yes : (x : Entry) (xs : List Entry) → f x ≡ true → filter f (x ∷ xs) ≡ x ∷ filter f xs
  filter_yes x xs e = ap (λ b. cond b (x ∷ filter f xs) (filter f xs)) e

  pub filter_no : (x : Entry) (xs : List Entry) → f x ≡ false → filter f (x ∷ xs) ≡ filter f xs
  filter_no x xs e = ap (λ b. cond b (x ∷ filter f xs) (filter f xs)) e

  pub in_filter : (e : Entry) (h : List Entry) → In e h → f e ≡ true → In e (filter f h)
  in_filter e [] i t = i
  in_filter e (x ∷ xs) i t = or_else i
      (λ p. subst (In e) (sym (filter_yes x xs (ap f p ∙ t))) (inl p))
      (λ j. by_test (f x)
      (λ y. subst (In e) (sym (filter_yes x xs y)) (inr (in_filter e xs j t)))
      (λ n. subst (In e) (sym (filter_no x xs n)) (in_filter e xs j t)))

  pub filter_in : (e : Entry) (h : List Entry) → In e (filter f h) → In e h × (f e ≡ true)
  filter_in e [] i = absurd i
  filter_in e (x ∷ xs) i = by_test (f x)
      (λ y. or_else (subst (In e) (filter_yes x xs y) i)
      (λ p. (inl p, ap f (sym p) ∙ y))
      (λ k. (inr (filter_in e xs k).0, (filter_in e xs k).1)))
      (λ n. let k = subst (In e) (filter_no x xs n) i in (inr (filter_in e xs k).0, (filter_in e xs k).1))

  pub filter_none : (xs : List Entry) → ((x : Entry) → In x xs → f x ≡ false) → filter f xs ≡ []
  filter_none [] h = refl
  filter_none (x ∷ xs) h = filter_no x xs (h x (inl refl)) ∙ filter_none xs (λ y i. h y (inr i))

  pub filter_all : (xs : List Entry) → ((x : Entry) → In x xs → f x ≡ true) → filter f xs ≡ xs
  filter_all [] h = refl
  filter_all (x ∷ xs) h = filter_yes x xs (h x (inl refl)) ∙ ap (λ ys. x ∷ ys) (filter_all xs (λ y i. h y (inr i)))

  pub filter_cond : (x : Entry) (b : Bool) (ys : List Entry) → filter f (cond b (x ∷ ys) ys) ≡ cond b (cond (f x) (x ∷ filter f ys) (filter f ys)) (filter f ys)
  filter_cond x true ys = refl
  filter_cond x false ys = refl

  pub filter_push_yes : (xs : List Entry) (e : Entry) → f e ≡ true → filter f (xs ++ e ∷ []) ≡ filter f xs ++ e ∷ []
  filter_push_yes xs e y = filter-append f xs (e ∷ []) ∙ ap (λ ys. filter f xs ++ ys) (filter_yes e [] y)

  pub filter_push_no : (xs : List Entry) (e : Entry) → f e ≡ false → filter f (xs ++ e ∷ []) ≡ filter f xs
  filter_push_no xs e n = filter-append f xs (e ∷ []) ∙ ap (λ ys. filter f xs ++ ys) (filter_no e [] n) ∙ append-nil (filter f xs)

cond_swap : (a b : Bool) (x : Entry) (ys : List Entry) → cond b (cond a (x ∷ ys) ys) ys ≡ cond a (cond b (x ∷ ys) ys) ys
cond_swap true true x ys = refl
cond_swap true false x ys = refl
cond_swap false true x ys = refl
cond_swap false false x ys = refl

pub filter_comm : (f g : Entry → Bool) (h : List Entry) → filter f (filter g h) ≡ filter g (filter f h)
filter_comm f g [] = refl
filter_comm f g (x ∷ xs) =
    filter_cond f x (g x) (filter g xs)
    ∙ cond_swap (f x) (g x) x (filter f (filter g xs))
    ∙ ap (λ zs. cond (f x) (cond (g x) (x ∷ zs) zs) zs) (filter_comm f g xs)
    ∙ sym (filter_cond g x (f x) (filter f xs))

sub_at : (a b : Bool) (x : Entry) (ys : List Entry) → (a ≡ true → b ≡ true) → cond b (cond a (x ∷ ys) ys) ys ≡ cond a (x ∷ ys) ys
sub_at true true x ys h = refl
sub_at true false x ys h = absurd (false≢true (h refl))
sub_at false true x ys h = refl
sub_at false false x ys h = refl

-- what passes the stricter test is in what passes the other
pub filter_sub : (f g : Entry → Bool) (h : List Entry) → ((x : Entry) → f x ≡ true → g x ≡ true) → filter f (filter g h) ≡ filter f h
filter_sub f g [] s = refl
filter_sub f g (x ∷ xs) s =
    filter_cond f x (g x) (filter g xs)
    ∙ sub_at (f x) (g x) x (filter f (filter g xs)) (s x)
    ∙ ap (λ zs. cond (f x) (x ∷ zs) zs) (filter_sub f g xs s)

pub in_left : (e : Entry) (xs ys : List Entry) → In e xs → In e (xs ++ ys)
in_left e [] ys i = absurd i
in_left e (x ∷ xs) ys i = or_else i (λ p. inl p) (λ j. inr (in_left e xs ys j))

pub in_right : (e : Entry) (xs ys : List Entry) → In e ys → In e (xs ++ ys)
in_right e [] ys i = i
in_right e (x ∷ xs) ys i = inr (in_right e xs ys i)

pub in_either : (e : Entry) (xs ys : List Entry) → In e (xs ++ ys) → In e xs ⊎ In e ys
in_either e [] ys i = inr i
in_either e (x ∷ xs) ys i = or_else i (λ p. inl (inl p)) (λ j. or_else (in_either e xs ys j) (λ k. inl (inr k)) (λ k. inr k))

pub each_in : (P : Entry → Type 0) (h : List Entry) (e : Entry) → Each P h → In e h → P e
each_in P [] e a i = absurd i
each_in P (x ∷ xs) e a i = or_else i (λ p. subst P p a.0) (λ j. each_in P xs e a.1 j)

pub each_from : (P : Entry → Type 0) (h : List Entry) → ((e : Entry) → In e h → P e) → Each P h
each_from P [] f = tt
each_from P (x ∷ xs) f = (f x (inl refl), each_from P xs (λ e i. f e (inr i)))

pub top_bound : (xs : List Entry) (e : Entry) → In e xs → e.stamp ≤ top xs
top_bound [] e i = absurd i
top_bound (x ∷ xs) e i = or_else i
    (λ p. let q : x.stamp ≡ e.stamp = ap (λ (y : Entry). y.stamp) p in omega arith)
    (λ j. omega (arith, top_bound xs e j))

pub rising_push : (xs : List Entry) (e : Entry) → Rising xs → ((x : Entry) → In x xs → x.stamp < e.stamp) → Rising (xs ++ e ∷ [])
rising_push [] e r b = (tt, tt)
rising_push (x ∷ xs) e r b = (
  each_from (λ y. x.stamp < y.stamp) (xs ++ e ∷ []) (λ y i. or_else (in_either y xs (e ∷ []) i)
      (λ j. each_in (λ y. x.stamp < y.stamp) xs y r.0 j)
      (λ j. or_else j (λ p. subst (λ y. x.stamp < y.stamp) p (b x (inl refl))) (λ n. absurd n))),
  rising_push xs e r.1 (λ y i. b y (inr i)),
)
