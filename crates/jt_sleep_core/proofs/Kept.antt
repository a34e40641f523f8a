-- Each allowed step keeps the sleep invariant.
use Rattle.std.proofs.Common.{◌≡◌, ◌≢◌, ℕ, ◌-◌, ◌<◌, ◌⊎◌, eqb, Bool, true, false, List, Some, None, length, get_or, set, refl, sym, ap, ◌∙◌, subst, inl, inr, ⊎_elim, arith, get_or-set_same, get_or-set_other, eqb-true}
use Rattle.std.proofs.lemmas.Bool.{both_ways, cases_eq, cases_Bool, cond-true, cond-false}
use Rattle.std.specs.List.{Contains}
use Rattle.jt_sleep_core.specs.declared.place.Place.{Place}
use Rattle.jt_sleep_core.specs.declared.place.Place.TheVariants.{Free, Passing, Posting, Declared, Found, Past}
use Rattle.jt_sleep_core.specs.declared.step.Step.{Step}
use Rattle.jt_sleep_core.specs.declared.step.Step.TheVariants.{Raise, Lower, Look, Wake, Post, Declare, Check, TakeToken, Retreat, SelfPost}
use Rattle.jt_sleep_core.specs.Numbering.{IsWorker, IsSeat, IsQueue, served, own_queues}
use Rattle.jt_sleep_core.specs.State.{SleepState, count_at, sleep_at, token_at, place_at, HasToLook, IsPostingTo, IsResting, HasChecked, IsSized}
use Rattle.jt_sleep_core.specs.Steps.{IsAllowed, IsPermitted, seat_of, word_of, found_by, raised, written, without, passing, declared, place_after, step_of}
use Rattle.jt_sleep_core.specs.Sound.{IsAwaited, IsPosted, IsSleepSound}
use Rattle.jt_sleep_core.proofs.Members.{Contains-without}
use Rattle.jt_sleep_core.proofs.Served.{served-own}
use Rattle.jt_sleep_core.proofs.Turn.{Moves, MindsOthers, awaited_on, posted_on, turn_keeps}
use Rattle.jt_sleep_core.proofs.Places.{passing_awake, HasToLook-passing, HasToLook-without, HasDeclared-declared, HasChecked-declared, awake, own_awake, moves}

-- the state after a step is sound, where its seat was in this place
abbrev pub SoundAfter : SleepState → Step → Place → Type 0
SoundAfter s step place =
    IsSleepSound (record (written s step) { places = set s.places (seat_of step) (place_after s.sizes step (found_by s step) place) })

module _ (s : SleepState) (sized : IsSized s) (sound : IsSleepSound s) where
  raise_keeps : (seat queue : ℕ) (place : Place) → place_at s seat ≡ place → IsPermitted (Raise seat queue) place → IsSeat s.sizes seat → SoundAfter s (Raise seat queue) place
  raise_keeps seat queue Free here h known =
      let counts = set s.counts queue (raised s queue) in
      let after = passing queue (served s.sizes queue) in
      turn_keeps s _ seat Free after (moves s counts s.sleeps s.tokens seat Free after sized known here)
      (record {
        sleeps = λ w ne t. t;
        looks = λ w other ne worker t mine busy. ⊎_elim
            (λ (e : other ≡ queue). inr (HasToLook-passing other w queue _ (sym e) (subst (λ q. Contains (served s.sizes q) w) e (served-own s.sizes other w worker mine))))
            (λ (apart : other ≢ queue). inl ((λ e. busy (get_or-set_other s.counts queue other _ 0 apart ∙ e)), λ a. absurd a))
            (cases_eq other queue);
        posts = λ w ne t. inl (t, (λ a. a), λ a. absurd a);
      })
      (own_awake _ seat after (awake s seat Free sized sound here (λ a. a)) (passing_awake queue _)) sound
  raise_keeps seat queue place here h known = absurd h

  lower_keeps : (seat queue : ℕ) (place : Place) → place_at s seat ≡ place → IsPermitted (Lower seat queue) place → IsSeat s.sizes seat → IsQueue s.sizes queue → SoundAfter s (Lower seat queue) place
  lower_keeps seat queue Free here h known inside =
      let counts = set s.counts queue (count_at s queue - 1) in
      let wide : queue < length s.counts = (let e = sized.counts in omega arith) in
      turn_keeps s _ seat Free Free (moves s counts s.sleeps s.tokens seat Free Free sized known here)
      (record {
        sleeps = λ w ne t. t;
        looks = λ w other ne worker t mine busy. inl (
          ⊎_elim
              (λ (e : other ≡ queue). λ (none : count_at s other ≡ 0). busy (ap (λ k. get_or counts k 0) e ∙ (get_or-set_same s.counts queue _ 0 wide ∙ ap (λ k. k - 1) (ap (count_at s) (sym e) ∙ none))))
              (λ (apart : other ≢ queue). λ (none : count_at s other ≡ 0). busy (get_or-set_other s.counts queue other _ 0 apart ∙ none))
              (cases_eq other queue),
          λ a. absurd a,
        );
        posts = λ w ne t. inl (t, (λ a. a), λ a. absurd a);
      })
      (own_awake _ seat Free (awake s seat Free sized sound here (λ a. a)) (λ a. a)) sound
  lower_keeps seat queue place here h known inside = absurd h

  -- the seat of a pass that is done with a worker, or that saw it asleep
  look_keeps : (seat worker : ℕ) (place : Place) (asleep : Bool) → sleep_at s worker ≡ asleep → place_at s seat ≡ place → IsPermitted (Look seat worker) place → IsSeat s.sizes seat
      → IsSleepSound (record s { places = set s.places seat (place_after s.sizes (Look seat worker) (word_of asleep) place) })
  look_keeps seat worker (Passing queue left None) true is here h known =
      let before = Passing queue left None in
      let after = Passing queue left (Some worker) in
      turn_keeps s _ seat before after (moves s s.counts s.sleeps s.tokens seat before after sized known here)
      (record {
        sleeps = λ w ne t. t;
        looks = λ w other ne known t mine busy. inl (busy, λ a. a);
        posts = λ w ne t. inl (t, (λ a. a), λ a. absurd a);
      })
      (own_awake _ seat after (awake s seat before sized sound here (λ a. a)) (λ a. a)) sound
  look_keeps seat worker (Passing queue left None) false is here h known =
      let before = Passing queue left None in
      let after = passing queue (without worker left) in
      turn_keeps s _ seat before after (moves s s.counts s.sleeps s.tokens seat before after sized known here)
      (record {
        sleeps = λ w ne t. t;
        looks = λ w other ne known t mine busy. inl (busy, λ a. HasToLook-without other w queue worker left (λ (e : worker ≡ w). both_ways _ is (ap (sleep_at s) e ∙ t)) a.0 a.1);
        posts = λ w ne t. inl (t, (λ a. a), λ a. absurd a);
      })
      (own_awake _ seat after (awake s seat before sized sound here (λ a. a)) (passing_awake queue _)) sound
  look_keeps seat worker place asleep is here h known = absurd h

  -- ---- a sleep word that is cleared
  module _ (worker : ℕ) (there : IsWorker s.sizes worker) where
    abbrev cleared : List Bool
    cleared = set s.sleeps worker false

    cleared_here : get_or cleared worker false ≡ false
    cleared_here = get_or-set_same s.sleeps worker false false (let e = sized.sleeps in omega arith)

    -- whose word is 1 still is another, and it was 1
    cleared_apart : (w : ℕ) → get_or cleared w false ≡ true → worker ≢ w
    cleared_apart w t e = both_ways _ (ap (λ k. get_or cleared k false) (sym e) ∙ cleared_here) t

    cleared_before : (w : ℕ) → get_or cleared w false ≡ true → sleep_at s w ≡ true
    cleared_before w t = sym (get_or-set_other s.sleeps worker w false false (λ e. cleared_apart w t (sym e))) ∙ t

    -- whose word was 0 has it still
    cleared_awake : (w : ℕ) → sleep_at s w ≡ false → get_or cleared w false ≡ false
    cleared_awake w t = ⊎_elim (λ (e : w ≡ worker). ap (λ k. get_or cleared k false) e ∙ cleared_here)
        (λ (apart : w ≢ worker). get_or-set_other s.sleeps worker w false false apart ∙ t) (cases_eq w worker)

    -- whose word is 0 now had it, or is the worker
    cleared_cases : (w : ℕ) → get_or cleared w false ≡ false → (sleep_at s w ≡ false) ⊎ (worker ≡ w)
    cleared_cases w t = ⊎_elim (λ (e : w ≡ worker). inr (sym e))
        (λ (apart : w ≢ worker). inl (sym (get_or-set_other s.sleeps worker w false false apart) ∙ t)) (cases_eq w worker)

    -- a pass that is done with a worker, or that woke it
    wake_keeps : (seat : ℕ) (place : Place) (asleep : Bool) → sleep_at s worker ≡ asleep → place_at s seat ≡ place → IsPermitted (Wake seat worker) place → IsSeat s.sizes seat
        → IsSleepSound (record s { sleeps = cleared; places = set s.places seat (place_after s.sizes (Wake seat worker) (word_of asleep) place) })
    wake_keeps seat (Passing queue left (Some seen)) true is here h known =
        let before = Passing queue left (Some seen) in
        let after = Posting queue left worker in
        turn_keeps s _ seat before after (moves s s.counts cleared s.tokens seat before after sized known here)
        (record {
          sleeps = λ w ne t. cleared_before w t;
          looks = λ w other ne known t mine busy. inl (busy, λ a. (a.0, a.1, cleared_apart w t));
          posts = λ w ne t. ⊎_elim (λ (o : sleep_at s w ≡ false). inl (o, (λ a. a), λ a. absurd a)) inr (cleared_cases w t);
        })
        (own_awake _ seat after (cleared_awake seat (awake s seat before sized sound here (λ a. a))) (λ a. a)) sound
    wake_keeps seat (Passing queue left (Some seen)) false is here h known =
        let before = Passing queue left (Some seen) in
        let after = passing queue (without worker left) in
        turn_keeps s _ seat before after (moves s s.counts cleared s.tokens seat before after sized known here)
        (record {
          sleeps = λ w ne t. cleared_before w t;
          looks = λ w other ne known t mine busy. inl (busy, λ a. HasToLook-without other w queue worker left (cleared_apart w t) a.0 a.1);
          posts = λ w ne t. inl (⊎_elim (λ (o : sleep_at s w ≡ false). o) (λ (e : worker ≡ w). ap (sleep_at s) (sym e) ∙ is) (cleared_cases w t), (λ a. a), λ a. absurd a);
        })
        (own_awake _ seat after (cleared_awake seat (awake s seat before sized sound here (λ a. a))) (passing_awake queue (without worker left))) sound
    wake_keeps seat place asleep is here h known = absurd h

    retreat_keeps : (place : Place) → place_at s worker ≡ place → IsPermitted (Retreat worker) place → IsSeat s.sizes worker → SoundAfter s (Retreat worker) place
    retreat_keeps Found here h known =
        turn_keeps s _ worker Found Free (moves s s.counts cleared s.tokens worker Found Free sized known here)
        (record {
          sleeps = λ w ne t. cleared_before w t;
          looks = λ w other ne known t mine busy. inl (busy, λ a. absurd a);
          posts = λ w ne t. inl (⊎_elim (λ (o : sleep_at s w ≡ false). o) (λ (e : worker ≡ w). absurd (ne (sym e))) (cleared_cases w t), (λ a. a), λ a. absurd a);
        })
        (own_awake _ worker Free cleared_here (λ a. a)) sound
    retreat_keeps place here h known = absurd h

  -- ---- a token that is set or taken
  module _ (worker : ℕ) (there : IsWorker s.sizes worker) (token : Bool) where
    abbrev tokens : List Bool
    tokens = set s.tokens worker token

    token_here : get_or tokens worker false ≡ token
    token_here = get_or-set_same s.tokens worker token false (let e = sized.tokens in omega arith)

    token_other : (w : ℕ) → w ≢ worker → token_at s w ≡ true → get_or tokens w false ≡ true
    token_other w ne t = get_or-set_other s.tokens worker w token false ne ∙ t

  post_keeps : (seat worker : ℕ) (place : Place) → place_at s seat ≡ place → IsPermitted (Post seat worker) place → IsSeat s.sizes seat → IsWorker s.sizes worker → SoundAfter s (Post seat worker) place
  post_keeps seat worker (Posting queue left woken) here h known there =
      let before = Posting queue left woken in
      let after = passing queue (without worker left) in
      turn_keeps s _ seat before after (moves s s.counts s.sleeps (tokens worker there true) seat before after sized known here)
      (record {
        sleeps = λ w ne t. t;
        looks = λ w other ne known t mine busy. inl (busy, λ a. HasToLook-without other w queue worker left (λ e. a.2 (sym h ∙ e)) a.0 a.1);
        posts = λ w ne t. inl (
          t,
          (λ a. ⊎_elim (λ (e : w ≡ worker). ap (λ k. get_or (tokens worker there true) k false) e ∙ token_here worker there true) (λ (apart : w ≢ worker). token_other worker there true w apart a) (cases_eq w worker)),
          λ a. inl (ap (λ k. get_or (tokens worker there true) k false) (sym a ∙ sym h) ∙ token_here worker there true),
        );
      })
      (own_awake _ seat after (awake s seat before sized sound here (λ a. a)) (passing_awake queue (without worker left))) sound
  post_keeps seat worker place here h known there = absurd h

  -- ---- a worker's own steps

  declare_keeps : (worker : ℕ) (place : Place) → place_at s worker ≡ place → IsPermitted (Declare worker) place → IsSeat s.sizes worker → IsWorker s.sizes worker → SoundAfter s (Declare worker) place
  declare_keeps worker Free here h known there =
      let sleeps = set s.sleeps worker true in
      let after = Declared (own_queues s.sizes worker) in
      let set_here : get_or sleeps worker false ≡ true = get_or-set_same s.sleeps worker true false (let e = sized.sleeps in omega arith) in
      turn_keeps s _ worker Free after (moves s s.counts sleeps s.tokens worker Free after sized known here)
      (record {
        sleeps = λ w ne t. sym (get_or-set_other s.sleeps worker w true false ne) ∙ t;
        looks = λ w other ne known t mine busy. inl (busy, λ a. absurd a);
        posts = λ w ne t. inl (sym (get_or-set_other s.sleeps worker w true false ne) ∙ t, (λ a. a), λ a. absurd a);
      })
      (record {
        declared = λ known t. tt;
        looked_at = λ queue known t mine checked busy. absurd (checked mine);
        posted = λ known rests t. absurd (both_ways _ t set_here);
      }) sound
  declare_keeps worker place here h known there = absurd h

  -- what another worker is owed by a step that writes no count and no sleep word, and whose seat is in no pass
  module _ (worker : ℕ) (s' : SleepState) (place place' : Place) (m : Moves s s' worker place place') where
    looked_still : (queue : ℕ) → (HasToLook queue worker place → ⊥) → IsAwaited s queue worker → IsAwaited s' queue worker
    looked_still queue blind h = awaited_on s s' worker place place' queue worker m (λ a. absurd (blind a)) h

    posted_still : (IsPostingTo worker place → ⊥) → IsPosted s worker → (token_at s' worker ≡ true) ⊎ IsPosted s' worker
    posted_still silent h = posted_on s s' worker place place' worker m (λ a. absurd (silent a)) h

  check_found : (worker queue : ℕ) (left : List ℕ) → place_at s worker ≡ Declared left → IsSeat s.sizes worker → IsSleepSound (record s { places = set s.places worker Found })
  check_found worker queue left here known =
      turn_keeps s _ worker (Declared left) Found (moves s s.counts s.sleeps s.tokens worker (Declared left) Found sized known here)
      (record {
        sleeps = λ w ne t. t;
        looks = λ w other ne known t mine busy. inl (busy, λ a. absurd a);
        posts = λ w ne t. inl (t, (λ a. a), λ a. absurd a);
      })
      (record {
        declared = λ known t. tt;
        looked_at = λ other known t mine checked busy. absurd checked;
        posted = λ known rests t. absurd rests;
      }) sound

  -- a queue that was found empty needs no pass
  check_empty : (worker queue : ℕ) (left : List ℕ) → place_at s worker ≡ Declared left → IsSeat s.sizes worker → count_at s queue ≡ 0
      → IsSleepSound (record s { places = set s.places worker (declared (without queue left)) })
  check_empty worker queue left here known empty =
      let before = Declared left in
      let after = declared (without queue left) in
      let m = moves s s.counts s.sleeps s.tokens worker before after sized known here in
      turn_keeps s _ worker before after m
      (record {
        sleeps = λ w ne t. t;
        looks = λ w other ne known t mine busy. inl (busy, λ a. absurd a);
        posts = λ w ne t. inl (t, (λ a. a), λ a. absurd a);
      })
      (record {
        declared = λ known t. HasDeclared-declared (without queue left);
        looked_at = λ other known t mine checked busy. looked_still worker _ before after m other (λ a. a)
            (sound.looked_at worker other known t mine
            (subst (HasChecked other) (sym here) (λ i. HasChecked-declared other (without queue left) checked (Contains-without queue other left (λ e. busy (ap (count_at s) (sym e) ∙ empty)) i))) busy);
        posted = λ known rests t. ⊎_elim inl (posted_still worker _ before after m (λ a. a)) (sound.posted worker known (subst IsResting (sym here) tt) t);
      }) sound

  check_keeps : (worker queue : ℕ) (place : Place) → place_at s worker ≡ place → IsPermitted (Check worker queue) place → IsSeat s.sizes worker → SoundAfter s (Check worker queue) place
  check_keeps worker queue (Declared left) here h known =
      let SoundAt : Place → Type 0 = λ place. IsSleepSound (record s { places = set s.places worker place }) in
      ⊎_elim (λ (b : eqb (count_at s queue) 0 ≡ true). subst SoundAt (sym (cond-true _ _ Found b)) (check_empty worker queue left here known (eqb-true (count_at s queue) 0 b)))
      (λ (b : eqb (count_at s queue) 0 ≡ false). subst SoundAt (sym (cond-false _ (declared (without queue left)) Found b)) (check_found worker queue left here known))
      (cases_Bool (eqb (count_at s queue) 0))
  check_keeps worker queue place here h known = absurd h

  -- a step of a worker that is past its checks, on its own token
  module _ (worker : ℕ) (known : IsSeat s.sizes worker) (there : IsWorker s.sizes worker) (here : place_at s worker ≡ Past) where
    past_others : (token : Bool) (after : Place) → MindsOthers s (record s { tokens = tokens worker there token; places = set s.places worker after }) worker Past after
    past_others token after = record {
      sleeps = λ w ne t. t;
      looks = λ w other ne known t mine busy. inl (busy, λ a. absurd a);
      posts = λ w ne t. inl (t, token_other worker there token w ne, λ a. absurd a);
    }

    -- it stays there: its token is set, or was not
    stays_keeps : (token : Bool) → ((token_at s worker ≡ true) → token ≡ true) → IsSleepSound (record s { tokens = tokens worker there token; places = set s.places worker Past })
    stays_keeps token kept =
        let m = moves s s.counts s.sleeps (tokens worker there token) worker Past Past sized known here in
        turn_keeps s _ worker Past Past m (past_others token Past)
        (record {
          declared = λ known t. tt;
          looked_at = λ other known t mine checked busy. looked_still worker _ Past Past m other (λ a. a) (sound.looked_at worker other known t mine (subst (HasChecked other) (sym here) tt) busy);
          posted = λ known rests t. ⊎_elim (λ (a : token_at s worker ≡ true). inl (token_here worker there token ∙ kept a)) (posted_still worker _ Past Past m (λ a. a)) (sound.posted worker known (subst IsResting (sym here) tt) t);
        }) sound

    takes_keeps : IsSleepSound (record s { tokens = tokens worker there false; places = set s.places worker Found })
    takes_keeps =
        turn_keeps s _ worker Past Found (moves s s.counts s.sleeps (tokens worker there false) worker Past Found sized known here) (past_others false Found)
        (record {
          declared = λ known t. tt;
          looked_at = λ other known t mine checked busy. absurd checked;
          posted = λ known rests t. absurd rests;
        }) sound

  take_token_keeps : (worker : ℕ) (place : Place) (token : Bool) → token_at s worker ≡ token → place_at s worker ≡ place → IsPermitted (TakeToken worker) place → IsSeat s.sizes worker → IsWorker s.sizes worker
      → IsSleepSound (record s { tokens = set s.tokens worker false; places = set s.places worker (place_after s.sizes (TakeToken worker) (word_of token) place) })
  take_token_keeps worker Past true is here h known there = takes_keeps worker known there here
  take_token_keeps worker Past false is here h known there = stays_keeps worker known there here false (λ a. absurd (both_ways _ is a))
  take_token_keeps worker place token is here h known there = absurd h

  self_post_keeps : (worker : ℕ) (place : Place) → place_at s worker ≡ place → IsPermitted (SelfPost worker) place → IsSeat s.sizes worker → IsWorker s.sizes worker → SoundAfter s (SelfPost worker) place
  self_post_keeps worker Past here h known there = stays_keeps worker known there here true (λ a. refl)
  self_post_keeps worker place here h known there = absurd h

-- an allowed step leads from a sound state to a sound state
pub step_keeps : (s : SleepState) (step : Step) → IsSized s → IsSleepSound s → IsAllowed s step → IsSleepSound (step_of s step).state
step_keeps s (Raise seat queue) sized sound a = raise_keeps s sized sound seat queue _ refl a.place a.in_range.0
step_keeps s (Lower seat queue) sized sound a = lower_keeps s sized sound seat queue _ refl a.place a.in_range.0 (let b = a.in_range.1 in omega arith)
step_keeps s (Look seat worker) sized sound a = look_keeps s sized sound seat worker _ _ refl refl a.place a.in_range.0
step_keeps s (Wake seat worker) sized sound a = wake_keeps s sized sound worker a.in_range.1 seat _ _ refl refl a.place a.in_range.0
step_keeps s (Post seat worker) sized sound a = post_keeps s sized sound seat worker _ refl a.place a.in_range.0 a.in_range.1
step_keeps s (Declare worker) sized sound a = declare_keeps s sized sound worker _ refl a.place (let b = a.in_range in omega arith) a.in_range
step_keeps s (Check worker queue) sized sound a = check_keeps s sized sound worker queue _ refl a.place (let b = a.in_range.0 in omega arith)
step_keeps s (TakeToken worker) sized sound a = take_token_keeps s sized sound worker _ _ refl refl a.place (let b = a.in_range in omega arith) a.in_range
step_keeps s (Retreat worker) sized sound a = retreat_keeps s sized sound worker a.in_range _ refl a.place (let b = a.in_range in omega arith)
step_keeps s (SelfPost worker) sized sound a = self_post_keeps s sized sound worker _ refl a.place (let b = a.in_range in omega arith) a.in_range
