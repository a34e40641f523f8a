-- What a step may do to the words and to the place of its seat, if the state is to stay sound.
use Rattle.std.proofs.Common.{◌≡◌, ◌≢◌, ℕ, ◌⊎◌, true, false, sym, subst, inl, inr, ⊎_elim}
use Rattle.std.proofs.lemmas.Bool.{cases_eq}
use Rattle.std.specs.List.{Contains}
use Rattle.jt_sleep_core.specs.declared.place.Place.{Place}
use Rattle.jt_sleep_core.specs.Numbering.{IsWorker, own_queues}
use Rattle.jt_sleep_core.specs.State.{SleepState, count_at, sleep_at, token_at, place_at, HasToLook, IsPostingTo, IsResting, HasChecked}
use Rattle.jt_sleep_core.specs.Sound.{IsAwaited, IsPosted, HasDeclared, IsSleepSound}

-- the places of two states differ at one seat at most
pub record Moves (s s' : SleepState) (seat : ℕ) (place place' : Place) : Type 0 where
  pub sizes : s'.sizes ≡ s.sizes
  pub here : place_at s seat ≡ place
  pub there : place_at s' seat ≡ place'
  pub others : (other : ℕ) → other ≢ seat → place_at s' other ≡ place_at s other

-- what the step owes to the other workers
pub record MindsOthers (s s' : SleepState) (seat : ℕ) (place place' : Place) : Type 0 where
  pub sleeps : (w : ℕ) → w ≢ seat → sleep_at s' w ≡ true → sleep_at s w ≡ true
  pub looks : (w queue : ℕ) → w ≢ seat → IsWorker s.sizes w → sleep_at s' w ≡ true → Contains (own_queues s.sizes w) queue → count_at s' queue ≢ 0
      → ((count_at s queue ≢ 0) × (HasToLook queue w place → HasToLook queue w place')) ⊎ HasToLook queue w place'
  pub posts : (w : ℕ) → w ≢ seat → sleep_at s' w ≡ false
      → ((sleep_at s w ≡ false) × (token_at s w ≡ true → token_at s' w ≡ true) × (IsPostingTo w place → (token_at s' w ≡ true) ⊎ IsPostingTo w place')) ⊎ IsPostingTo w place'

-- what the step owes to its own seat
pub record MindsOwn (s' : SleepState) (seat : ℕ) (place' : Place) : Type 0 where
  pub declared : IsWorker s'.sizes seat → sleep_at s' seat ≡ true → HasDeclared place'
  pub looked_at : (queue : ℕ) → IsWorker s'.sizes seat → sleep_at s' seat ≡ true → Contains (own_queues s'.sizes seat) queue → HasChecked queue place' → count_at s' queue ≢ 0 → IsAwaited s' queue seat
  pub posted : IsWorker s'.sizes seat → IsResting place' → sleep_at s' seat ≡ false → (token_at s' seat ≡ true) ⊎ IsPosted s' seat

-- a pass that looks on at the worker does so in the state after the step
pub awaited_on : (s s' : SleepState) (seat : ℕ) (place place' : Place) (queue w : ℕ) → Moves s s' seat place place' → (HasToLook queue w place → HasToLook queue w place') → IsAwaited s queue w → IsAwaited s' queue w
awaited_on s s' seat place place' queue w m f (other, h) = (
  other,
  ⊎_elim (λ (e : other ≡ seat). subst (λ k. HasToLook queue w (place_at s' k)) (sym e) (subst (HasToLook queue w) (sym m.there) (f (subst (HasToLook queue w) m.here (subst (λ k. HasToLook queue w (place_at s k)) e h)))))
      (λ (ne : other ≢ seat). subst (HasToLook queue w) (sym (m.others other ne)) h) (cases_eq other seat),
)

pub posted_on : (s s' : SleepState) (seat : ℕ) (place place' : Place) (w : ℕ) → Moves s s' seat place place' → (IsPostingTo w place → (token_at s' w ≡ true) ⊎ IsPostingTo w place') → IsPosted s w → (token_at s' w ≡ true) ⊎ IsPosted s' w
posted_on s s' seat place place' w m f (other, h) =
    ⊎_elim (λ (e : other ≡ seat). ⊎_elim inl (λ (p : IsPostingTo w place'). inr (seat, subst (IsPostingTo w) (sym m.there) p)) (f (subst (IsPostingTo w) m.here (subst (λ k. IsPostingTo w (place_at s k)) e h))))
    (λ (ne : other ≢ seat). inr (other, subst (IsPostingTo w) (sym (m.others other ne)) h)) (cases_eq other seat)

pub turn_keeps : (s s' : SleepState) (seat : ℕ) (place place' : Place) → Moves s s' seat place place' → MindsOthers s s' seat place place' → MindsOwn s' seat place' → IsSleepSound s → IsSleepSound s'
turn_keeps s s' seat place place' m others own sound = record {
  declared = λ w known asleep. ⊎_elim
      (λ (e : w ≡ seat). subst (λ k. HasDeclared (place_at s' k)) (sym e) (subst HasDeclared (sym m.there) (own.declared (subst (IsWorker s'.sizes) e known) (subst (λ k. sleep_at s' k ≡ true) e asleep))))
      (λ (ne : w ≢ seat). subst HasDeclared (sym (m.others w ne)) (sound.declared w (subst (λ z. IsWorker z w) m.sizes known) (others.sleeps w ne asleep)))
      (cases_eq w seat);
  looked_at = λ w queue known asleep mine checked busy. ⊎_elim
      (λ (e : w ≡ seat). subst (IsAwaited s' queue) (sym e)
      (own.looked_at queue (subst (IsWorker s'.sizes) e known) (subst (λ k. sleep_at s' k ≡ true) e asleep) (subst (λ k. Contains (own_queues s'.sizes k) queue) e mine)
      (subst (HasChecked queue) m.there (subst (λ k. HasChecked queue (place_at s' k)) e checked)) busy))
      (λ (ne : w ≢ seat).
      let known_before : IsWorker s.sizes w = subst (λ z. IsWorker z w) m.sizes known in
      let mine_before : Contains (own_queues s.sizes w) queue = subst (λ z. Contains (own_queues z w) queue) m.sizes mine in
      ⊎_elim
      (λ (h : (count_at s queue ≢ 0) × (HasToLook queue w place → HasToLook queue w place')). awaited_on s s' seat place place' queue w m h.1
      (sound.looked_at w queue known_before (others.sleeps w ne asleep) mine_before (subst (HasChecked queue) (m.others w ne) checked) h.0))
      (λ (h : HasToLook queue w place'). (seat, subst (HasToLook queue w) (sym m.there) h))
      (others.looks w queue ne known_before asleep mine_before busy))
      (cases_eq w seat);
  posted = λ w known rests awake. ⊎_elim
      (λ (e : w ≡ seat). subst (λ k. (token_at s' k ≡ true) ⊎ IsPosted s' k) (sym e)
      (own.posted (subst (IsWorker s'.sizes) e known) (subst IsResting m.there (subst (λ k. IsResting (place_at s' k)) e rests)) (subst (λ k. sleep_at s' k ≡ false) e awake)))
      (λ (ne : w ≢ seat). ⊎_elim
      (λ (h : (sleep_at s w ≡ false) × (token_at s w ≡ true → token_at s' w ≡ true) × (IsPostingTo w place → (token_at s' w ≡ true) ⊎ IsPostingTo w place')).
      ⊎_elim (λ (t : token_at s w ≡ true). inl (h.1 t)) (posted_on s s' seat place place' w m h.2)
      (sound.posted w (subst (λ z. IsWorker z w) m.sizes known) (subst IsResting (m.others w ne) rests) h.0))
      (λ (h : IsPostingTo w place'). inr (seat, subst (IsPostingTo w) (sym m.there) h))
      (others.posts w ne awake))
      (cases_eq w seat);
}
