-- What holds of every state that allowed steps reach.
use Rattle.std.proofs.Common.{◌≡◌, ◌≢◌, ℕ, ◌+◌, ◌<◌, ◌≤◌, Bool, false, List, [], ◌∷◌, length, get_or, replicate, refl, sym, ◌∙◌, subst, ⊎_elim, arith}
use Rattle.std.proofs.lemmas.Bool.{both_ways, cases_lt}
use Rattle.std.proofs.lemmas.List.{get_or_past, length-set, length-replicate, get_or-replicate}
use Rattle.jt_base.specs.declared.run.Sizes.{Sizes}
use Rattle.jt_sleep_core.specs.Limits.{AreSizes}
use Rattle.jt_sleep_core.specs.declared.place.Place.{Place}
use Rattle.jt_sleep_core.specs.declared.place.Place.TheVariants.{Free}
use Rattle.jt_sleep_core.specs.declared.step.Step.{Step}
use Rattle.jt_sleep_core.specs.declared.step.Step.TheVariants.{Raise, Lower, Look, Wake, Post, Declare, Check, TakeToken, Retreat, SelfPost}
use Rattle.jt_sleep_core.specs.Numbering.{workers, stop_queue}
use Rattle.jt_sleep_core.specs.State.{SleepState, count_at, sleep_at, place_at, IsResting, HasChecked, IsSized}
use Rattle.jt_sleep_core.specs.Steps.{IsAllowed, step_of}
use Rattle.jt_sleep_core.specs.Runs.{opening, Leads}
use Rattle.jt_sleep_core.specs.Sound.{IsSleepSound, NoLostWakeUp}
use Rattle.jt_sleep_core.proofs.Served.{own-served}
use Rattle.jt_sleep_core.proofs.Kept.{step_keeps}

-- ---- sizes

written_sized : (s : SleepState) (counts : List ℕ) (sleeps tokens : List Bool) (places : List Place) → IsSized s
    → length counts ≡ length s.counts → length sleeps ≡ length s.sleeps → length tokens ≡ length s.tokens → length places ≡ length s.places
    → IsSized (record { sizes = s.sizes; counts = counts; sleeps = sleeps; tokens = tokens; places = places })
written_sized s counts sleeps tokens places sized a b c d = record { sizes = sized.sizes; counts = a ∙ sized.counts; sleeps = b ∙ sized.sleeps; tokens = c ∙ sized.tokens; places = d ∙ sized.places }

-- a step leaves as many words and places
pub step_sized : (s : SleepState) (step : Step) → IsSized s → IsSized (step_of s step).state
step_sized s (Raise seat queue) sized = written_sized s _ s.sleeps s.tokens _ sized (length-set s.counts queue _) refl refl (length-set s.places seat _)
step_sized s (Lower seat queue) sized = written_sized s _ s.sleeps s.tokens _ sized (length-set s.counts queue _) refl refl (length-set s.places seat _)
step_sized s (Look seat worker) sized = written_sized s s.counts s.sleeps s.tokens _ sized refl refl refl (length-set s.places seat _)
step_sized s (Wake seat worker) sized = written_sized s s.counts _ s.tokens _ sized refl (length-set s.sleeps worker _) refl (length-set s.places seat _)
step_sized s (Post seat worker) sized = written_sized s s.counts s.sleeps _ _ sized refl refl (length-set s.tokens worker _) (length-set s.places seat _)
step_sized s (Declare worker) sized = written_sized s s.counts _ s.tokens _ sized refl (length-set s.sleeps worker _) refl (length-set s.places worker _)
step_sized s (Check worker queue) sized = written_sized s s.counts s.sleeps s.tokens _ sized refl refl refl (length-set s.places worker _)
step_sized s (TakeToken worker) sized = written_sized s s.counts s.sleeps _ _ sized refl refl (length-set s.tokens worker _) (length-set s.places worker _)
step_sized s (Retreat worker) sized = written_sized s s.counts _ s.tokens _ sized refl (length-set s.sleeps worker _) refl (length-set s.places worker _)
step_sized s (SelfPost worker) sized = written_sized s s.counts s.sleeps _ _ sized refl refl (length-set s.tokens worker _) (length-set s.places worker _)

-- ---- the opening

pub opening_sized : (sizes : Sizes) → AreSizes sizes → IsSized (opening sizes)
opening_sized sizes known = record {
  sizes = known;
  counts = length-replicate (stop_queue sizes + 1) 0;
  sleeps = length-replicate (workers sizes) false;
  tokens = length-replicate (workers sizes) false;
  places = length-replicate (workers sizes + 1) Free;
}

-- copies of a default are read as it, within and beyond
get_or-replicate_default : {X : Type 0} (n i : ℕ) (d : X) → get_or (replicate n d) i d ≡ d
get_or-replicate_default n i d = ⊎_elim (λ (h : i < n). get_or-replicate n i d d h)
    (λ (h : n ≤ i). get_or_past (replicate n d) i d (let e = length-replicate n d in omega arith)) (cases_lt i n)

opening_awake : (sizes : Sizes) (worker : ℕ) → sleep_at (opening sizes) worker ≡ false
opening_awake sizes worker = get_or-replicate_default (workers sizes) worker false

opening_free : (sizes : Sizes) (seat : ℕ) → place_at (opening sizes) seat ≡ Free
opening_free sizes seat = get_or-replicate_default (workers sizes + 1) seat Free

pub opening_sound : (sizes : Sizes) → IsSleepSound (opening sizes)
opening_sound sizes = record {
  declared = λ worker known t. absurd (both_ways _ (opening_awake sizes worker) t);
  looked_at = λ worker queue known t own checked busy. absurd (both_ways _ (opening_awake sizes worker) t);
  posted = λ worker known rests t. absurd (subst IsResting (opening_free sizes worker) rests);
}

-- ---- runs

pub runs_sized : (steps : List Step) (old new : SleepState) → IsSized old → Leads steps old new → IsSized new
runs_sized [] old new sized run = subst IsSized (sym run) sized
runs_sized (step ∷ steps) old new sized run = runs_sized steps _ new (step_sized old step sized) run.1

pub runs_sound : (steps : List Step) (old new : SleepState) → IsSized old → IsSleepSound old → Leads steps old new → IsSleepSound new
runs_sound [] old new sized sound run = subst IsSleepSound (sym run) sound
runs_sound (step ∷ steps) old new sized sound run = runs_sound steps _ new (step_sized old step sized) (step_keeps old step sized sound run.0) run.1

-- after one allowed step
pub made_sound : (s s' : SleepState) (step : Step) → IsSized s × IsSleepSound s → IsAllowed s step → s' ≡ (step_of s step).state → IsSized s' × IsSleepSound s'
made_sound s s' step h allowed made = (subst IsSized (sym made) (step_sized s step h.0), subst IsSleepSound (sym made) (step_keeps s step h.0 h.1 allowed))

-- ---- no lost wake-up

pub sound_quiet : (s : SleepState) → IsSized s → IsSleepSound s → NoLostWakeUp s
sound_quiet s sized sound = record {
  no_sleeper = λ queue worker busy none served sleeps.
      let own = own-served s.sizes queue worker (inside queue busy) served in
      none worker (sound.looked_at worker queue own.0 sleeps.0 own.1 (subst (HasChecked queue) (sym sleeps.1) tt) busy);
}
  where
    inside : (queue : ℕ) → count_at s queue ≢ 0 → queue ≤ stop_queue s.sizes
    inside queue busy = ⊎_elim (λ (h : queue < length s.counts). let e = sized.counts in omega arith) (λ (h : length s.counts ≤ queue). absurd (busy (get_or_past s.counts queue 0 h))) (cases_lt queue (length s.counts))

-- ---- every run from the opening

pub reached_sound : (sizes : Sizes) (steps : List Step) (s : SleepState) → AreSizes sizes → Leads steps (opening sizes) s → IsSleepSound s
reached_sound sizes steps s known run = runs_sound steps (opening sizes) s (opening_sized sizes known) (opening_sound sizes) run

pub reached_quiet : (sizes : Sizes) (steps : List Step) (s : SleepState) → AreSizes sizes → Leads steps (opening sizes) s → NoLostWakeUp s
reached_quiet sizes steps s known run = sound_quiet s (runs_sized steps (opening sizes) s (opening_sized sizes known) run) (reached_sound sizes steps s known run)
