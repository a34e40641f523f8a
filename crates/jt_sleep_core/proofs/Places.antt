-- Small facts on places, and on a state after one write.
use Rattle.std.proofs.Common.{◌≡◌, ◌≢◌, ℕ, ◌<◌, ◌≤◌, Bool, false, List, [], ◌∷◌, set, refl, subst, ⊎_elim, arith, get_or-set_same, get_or-set_other}
use Rattle.std.proofs.lemmas.Bool.{both_ways, false_from_ne_true, cases_lt}
use Rattle.std.proofs.lemmas.List.{get_or_past}
use Rattle.std.specs.List.{Contains}
use Rattle.jt_sleep_core.specs.declared.place.Place.{Place}
use Rattle.jt_sleep_core.specs.declared.place.Place.TheVariants.{Free, Passing, Posting, Declared, Found, Past}
use Rattle.jt_sleep_core.specs.Numbering.{workers, IsSeat}
use Rattle.jt_sleep_core.specs.State.{SleepState, sleep_at, place_at, HasToLook, IsResting, HasChecked, IsSized}
use Rattle.jt_sleep_core.specs.Steps.{without, passing, declared}
use Rattle.jt_sleep_core.specs.Sound.{HasDeclared, IsSleepSound}
use Rattle.jt_sleep_core.proofs.Members.{Contains-nil, Contains-without}
use Rattle.jt_sleep_core.proofs.Turn.{Moves, MindsOwn}

pub HasDeclared-from_resting : (place : Place) → IsResting place → HasDeclared place
HasDeclared-from_resting Found h = tt
HasDeclared-from_resting Past h = h
HasDeclared-from_resting Free h = h
HasDeclared-from_resting (Declared left) h = h
HasDeclared-from_resting (Passing queue left seen) h = h
HasDeclared-from_resting (Posting queue left woken) h = h

pub HasDeclared-from_checked : (queue : ℕ) (place : Place) → HasChecked queue place → HasDeclared place
HasDeclared-from_checked q Found h = tt
HasDeclared-from_checked q Past h = h
HasDeclared-from_checked q Free h = h
HasDeclared-from_checked q (Declared left) h = tt
HasDeclared-from_checked q (Passing queue left seen) h = h
HasDeclared-from_checked q (Posting queue left woken) h = h

-- a pass, also one that has ended, is no declaration
pub passing_awake : (queue : ℕ) (left : List ℕ) → HasDeclared (passing queue left) → ⊥
passing_awake queue [] h = h
passing_awake queue (first ∷ left) h = h

-- a pass looks at whom it has left
pub HasToLook-passing : (queue worker for_queue : ℕ) (left : List ℕ) → for_queue ≡ queue → Contains left worker → HasToLook queue worker (passing for_queue left)
HasToLook-passing queue worker for_queue [] e h = absurd (Contains-nil worker h)
HasToLook-passing queue worker for_queue (first ∷ left) e h = (e, h)

-- whoever isn't struck is still looked at
pub HasToLook-without : (queue worker for_queue struck : ℕ) (left : List ℕ) → struck ≢ worker → for_queue ≡ queue → Contains left worker → HasToLook queue worker (passing for_queue (without struck left))
HasToLook-without queue worker for_queue struck left ne e h = HasToLook-passing queue worker for_queue (without struck left) e (Contains-without struck worker left ne h)

pub HasDeclared-declared : (left : List ℕ) → HasDeclared (declared left)
HasDeclared-declared [] = tt
HasDeclared-declared (first ∷ left) = tt

pub IsResting-declared : (left : List ℕ) → IsResting (declared left)
IsResting-declared [] = tt
IsResting-declared (first ∷ left) = tt

-- what was checked isn't left
pub HasChecked-declared : (queue : ℕ) (left : List ℕ) → HasChecked queue (declared left) → Contains left queue → ⊥
HasChecked-declared queue [] h = Contains-nil queue
HasChecked-declared queue (first ∷ left) h = h

-- who hasn't declared has the sleep word 0
pub awake : (s : SleepState) (seat : ℕ) (place : Place) → IsSized s → IsSleepSound s → place_at s seat ≡ place → (HasDeclared place → ⊥) → sleep_at s seat ≡ false
awake s seat place sized sound here up =
    ⊎_elim (λ (known : seat < workers s.sizes). false_from_ne_true _ (λ t. up (subst HasDeclared here (sound.declared seat known t))))
    (λ (beyond : workers s.sizes ≤ seat). get_or_past s.sleeps seat false (let e = sized.sleeps in omega arith))
    (cases_lt seat (workers s.sizes))

-- a seat that is awake owes itself nothing
pub own_awake : (s' : SleepState) (seat : ℕ) (place' : Place) → sleep_at s' seat ≡ false → (HasDeclared place' → ⊥) → MindsOwn s' seat place'
own_awake s' seat place' e up = record {
  declared = λ known t. absurd (both_ways _ e t);
  looked_at = λ queue known t mine checked busy. absurd (both_ways _ e t);
  posted = λ known rests t. absurd (up (HasDeclared-from_resting place' rests));
}

-- the places after a write at one seat
pub moves : (s : SleepState) (counts : List ℕ) (sleeps tokens : List Bool) (seat : ℕ) (place place' : Place) → IsSized s → IsSeat s.sizes seat → place_at s seat ≡ place
    → Moves s (record { sizes = s.sizes; counts = counts; sleeps = sleeps; tokens = tokens; places = set s.places seat place' }) seat place place'
moves s counts sleeps tokens seat place place' sized known here = record {
  sizes = refl;
  here = here;
  there = get_or-set_same s.places seat place' Free (let e = sized.places in omega arith);
  others = λ other ne. get_or-set_other s.places seat other place' Free ne;
}
