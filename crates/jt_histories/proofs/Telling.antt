-- The logs tell the jobs: a task's job is told by the history, and so are the live tasks.
use Rattle.std.proofs.Common.{◌≡◌, ℕ, List, Some, sym, ap, ◌∙◌, subst}
use Rattle.std.specs.List.Sorted.{IsPermutation}
use Rattle.jt_base.specs.declared.entry.Entry.{Entry}
use Rattle.jt_base.specs.declared.entry.Note.{Note}
use Rattle.jt_base.specs.Jobs.{Held, Seat}
use Rattle.jt_laws.specs.Entries.{of_task}
use Rattle.jt_laws.specs.Seats.{seat_of}
use Rattle.jt_laws.specs.Histories.{World, Birth}
use Rattle.jt_histories.specs.Jobs.{Has, Live, Belongs, Holds}
use Rattle.jt_histories.proofs.InOrder.{ordered_one}
use Rattle.jt_histories.proofs.OnePaths.{same_members}

module _ (S : Type 0) (w : World S) where
  one_birth : (a b : Birth S) → Some a ≡ Some b → a ≡ b
  one_birth a b e = cc

  abbrev held : List ℕ → S → Seat → List Note → Held S
  held p s t l = record { path = p; start = s; seat = t; log = l }

  belongs_one : (h : List Entry) (p : List ℕ) (s s' : S) (t t' : Seat) (l l' : List Note) → Belongs S w h (held p s t l) → Belongs S w h (held p s' t' l') → held p s t l ≡ held p s' t' l'
  belongs_one h p s s' t t' l l' a b =
      let same : a.birth ≡ b.birth = one_birth a.birth b.birth (sym a.born ∙ b.born) in
      let starts : s ≡ s' = a.started ∙ ap (λ (z : Birth S). z.start) same ∙ sym b.started in
      let seats : t ≡ t' = a.seated ∙ ap (λ (z : Birth S). seat_of w.sizes z.maker (of_task p h)) same ∙ sym b.seated in
      let logs : l ≡ l' = a.noted ∙ sym b.noted in
      λ k. held p (starts k) (seats k) (logs k)

  -- two jobs of one task are one
  told_one : (h : List Entry) (i j : Held S) → Belongs S w h i → Belongs S w h j → i.path ≡ j.path → i ≡ j
  told_one h i j a b e =
      let c : Belongs S w h (held j.path i.start i.seat i.log) = subst (λ p. Belongs S w h (held p i.start i.seat i.log)) e a in
      (λ k. held (e k) i.start i.seat i.log) ∙ belongs_one h j.path i.start j.start i.seat j.seat i.log j.log c b

  there_too : (logs : List (List Entry)) (jobs jobs' : List (Held S)) → Holds S w logs jobs → Holds S w logs jobs' → (j : Held S) → Has S j jobs → Has S j jobs'
  there_too logs jobs jobs' a b j h =
      let same : a.history ≡ b.history = ordered_one a.history b.history a.merged.ordered b.merged.ordered (λ k. a.merged.logged k ∙ sym (b.merged.logged k)) in
      let k = b.live j.path (subst (λ l. Live l j.path) same (a.only_live j h)) in
      subst (λ i. Has S i jobs') (told_one b.history k.0 j (b.belong k.0 k.1) (subst (λ l. Belongs S w l j) same (a.belong j h)) k.2) k.1

  pub jobs_are_one : (logs : List (List Entry)) (jobs jobs' : List (Held S)) → Holds S w logs jobs → Holds S w logs jobs' → IsPermutation jobs jobs'
  jobs_are_one logs jobs jobs' a b = same_members S jobs jobs' a.one_path b.one_path (there_too logs jobs jobs' a b) (there_too logs jobs' jobs b a)
