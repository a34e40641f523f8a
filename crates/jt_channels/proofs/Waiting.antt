-- What each operation on a channel answers, by its state.
use Rattle.std.proofs.Common.{◌≡◌, ℕ, zero, suc, ◌+◌, ◌<◌, ◌≤◌, List, [], ◌∷◌, ◌++◌, length, drop, Option, Some, None, Bool, true, false, ◌&&◌, ◌||◌, not, refl, sym, ap, ◌∙◌, subst, arith}
use Rattle.std.specs.Prelude.{ℤ, pos, if◌then◌else◌, slice_get, option_map, nat_eq, nat_lt, nat_le}
use Rattle.std.proofs.lemmas.Option.{slice_get_within}
use Rattle.std.proofs.lemmas.Bool.{false≢true}
use Rattle.std.proofs.lemmas.Bool.Decides.{nat_tests}
use Rattle.std.proofs.lemmas.List.{append-nil, drop-append-le, length-drop, length-append}
use Rattle.jt_base.specs.declared.operation.Op.TheVariants.{Put, Offer, Landed, Take, Next, Close, IsOpen, IsReady}
use Rattle.jt_base.specs.declared.operation.Reply.{Reply}
use Rattle.jt_base.specs.declared.operation.Reply.TheVariants as reply
use Rattle.jt_base.specs.declared.entry.Ask.TheVariants.{Done, NotYet}
use Rattle.jt_base.specs.declared.name.Name.{Name}
use Rattle.jt_laws.specs.Tasks.{ok_if}
use Rattle.jt_laws.specs.Channels.{Channel, channel_left_by}
use Rattle.jt_laws.specs.Objects.{Asked}
use Rattle.jt_channels.specs.Steps.{with_item, without_item, when_closed}
use Rattle.jt_channels.proofs.Left.{made, state_at, state_after, asked_done, asked_waits, same_state}

is_zero : (c : ℕ) → nat_eq c 0 ≡ true → c ≡ 0
is_zero c q = grind (arith, nat_tests)

not_zero : (c : ℕ) → 0 < c → nat_eq c 0 ≡ true → ⊥
not_zero c h q = absurd (omega (arith, is_zero c q))

-- a put
abbrev put_law : Bool → ℕ → List ℤ → List ℤ → Bool → Option Reply
put_law unbuffered c i o closed =
    if unbuffered then None else if closed then Some reply.Closed else ok_if (nat_lt (length i) (length o + c))

module _ (s : Channel) (v : ℤ) (task : List ℕ) (name : Name) (buffered : 0 < s.capacity) where
  pub put_closed : s.closed ≡ true → Asked Channel channel_left_by task (Put name v) s (Done reply.Closed) s
  put_closed h = asked_done (Put name v) put_law task (λ past. refl) s reply.Closed s does
    where
      does : (unbuffered : Bool) (c : ℕ) (i o : List ℤ) (closed : Bool) → nat_eq c 0 ≡ unbuffered → length o ≤ length i → state_at unbuffered c i o closed ≡ s → (put_law unbuffered c i o closed ≡ Some reply.Closed) × (state_after (Put name v) reply.Closed unbuffered c i o closed ≡ s)
      does true c i o closed q l e = absurd (not_zero c (subst (λ (t : Channel). 0 < t.capacity) (sym e) buffered) q)
      does false c i o true q l e = (refl, same_state false c i o true ∙ e)
      does false c i o false q l e = absurd (false≢true (ap (λ (t : Channel). t.closed) e ∙ h))

  pub put_ok : s.closed ≡ false → length s.items < s.capacity → Asked Channel channel_left_by task (Put name v) s (Done reply.Ok) (with_item s v)
  put_ok h room = asked_done (Put name v) put_law task (λ past. refl) s reply.Ok (with_item s v) does
    where
      does : (unbuffered : Bool) (c : ℕ) (i o : List ℤ) (closed : Bool) → nat_eq c 0 ≡ unbuffered → length o ≤ length i → state_at unbuffered c i o closed ≡ s → (put_law unbuffered c i o closed ≡ Some reply.Ok) × (state_after (Put name v) reply.Ok unbuffered c i o closed ≡ with_item s v)
      does true c i o closed q l e = absurd (not_zero c (subst (λ (t : Channel). 0 < t.capacity) (sym e) buffered) q)
      does false c i o true q l e = absurd (false≢true (sym (ap (λ (t : Channel). t.closed) e ∙ h)))
      does false c i o false q l e =
          let fits : length (drop (length o) i) < c = subst (λ (t : Channel). length t.items < t.capacity) (sym e) room in
          let less : length i < length o + c = omega (arith, length-drop (length o) i) in
          let test : nat_lt (length i) (length o + c) ≡ true = grind (arith, nat_tests) in
          (ap ok_if test, ap (λ o. made c (drop (length o) (i ++ v ∷ [])) 0 false) (append-nil o) ∙ ap (λ items. made c items 0 false) (drop-append-le (length o) i (v ∷ []) l) ∙ ap (λ t. with_item t v) e)

  pub put_waits : s.closed ≡ false → s.capacity ≤ length s.items → Asked Channel channel_left_by task (Put name v) s NotYet s
  put_waits h full = asked_waits (Put name v) put_law task (λ past. refl) s does
    where
      does : (unbuffered : Bool) (c : ℕ) (i o : List ℤ) (closed : Bool) → nat_eq c 0 ≡ unbuffered → length o ≤ length i → state_at unbuffered c i o closed ≡ s → put_law unbuffered c i o closed ≡ None
      does true c i o closed q l e = refl
      does false c i o true q l e = absurd (false≢true (sym (ap (λ (t : Channel). t.closed) e ∙ h)))
      does false c i o false q l e =
          let fits : c ≤ length (drop (length o) i) = subst (λ (t : Channel). t.capacity ≤ length t.items) (sym e) full in
          let more : length o + c ≤ length i = omega (arith, length-drop (length o) i) in
          let test : nat_lt (length i) (length o + c) ≡ false = grind (arith, nat_tests) in
          ap ok_if test

-- an offer and its landing
abbrev offer_law : Bool → ℕ → List ℤ → List ℤ → Bool → Option Reply
offer_law unbuffered c i o closed =
    if unbuffered then if closed then Some reply.Closed else Some (reply.Int (pos (length i + 1))) else None

abbrev landed_law : ℕ → Bool → ℕ → List ℤ → List ℤ → Bool → Option Reply
landed_law number unbuffered c i o closed =
    if unbuffered then if nat_le number (length o) then Some reply.Ok else if closed then Some reply.Closed else None else None

module _ (s : Channel) (task : List ℕ) (name : Name) (unbuffered : s.capacity ≡ 0) where
  zero_too : (c : ℕ) → nat_eq c 0 ≡ false → c ≡ s.capacity → ⊥
  zero_too c q e =
      let z : nat_eq c 0 ≡ true = let p : c ≡ 0 = e ∙ unbuffered in grind (arith, nat_tests) in false≢true (sym q ∙ z)

  pub offer_closed : (v : ℤ) → s.closed ≡ true → Asked Channel channel_left_by task (Offer name v) s (Done reply.Closed) s
  offer_closed v h = asked_done (Offer name v) offer_law task (λ past. refl) s reply.Closed s does
    where
      does : (unbuffered : Bool) (c : ℕ) (i o : List ℤ) (closed : Bool) → nat_eq c 0 ≡ unbuffered → length o ≤ length i → state_at unbuffered c i o closed ≡ s → (offer_law unbuffered c i o closed ≡ Some reply.Closed) × (state_after (Offer name v) reply.Closed unbuffered c i o closed ≡ s)
      does false c i o closed q l e = absurd (zero_too c q (ap (λ (t : Channel). t.capacity) e))
      does true c i o true q l e = (refl, same_state true c i o true ∙ e)
      does true c i o false q l e = absurd (false≢true (ap (λ (t : Channel). t.closed) e ∙ h))

  pub offer_numbered : (v : ℤ) → s.closed ≡ false → Asked Channel channel_left_by task (Offer name v) s (Done (reply.Int (pos (s.taken + length s.items + 1)))) (with_item s v)
  offer_numbered v h =
      asked_done (Offer name v) offer_law task (λ past. refl) s (reply.Int (pos (s.taken + length s.items + 1))) (with_item s v) does
    where
      does : (unbuffered : Bool) (c : ℕ) (i o : List ℤ) (closed : Bool) → nat_eq c 0 ≡ unbuffered → length o ≤ length i → state_at unbuffered c i o closed ≡ s → (offer_law unbuffered c i o closed ≡ Some (reply.Int (pos (s.taken + length s.items + 1)))) × (state_after (Offer name v) (reply.Int (pos (s.taken + length s.items + 1))) unbuffered c i o closed ≡ with_item s v)
      does false c i o closed q l e = absurd (zero_too c q (ap (λ (t : Channel). t.capacity) e))
      does true c i o true q l e = absurd (false≢true (sym (ap (λ (t : Channel). t.closed) e ∙ h)))
      does true c i o false q l e =
          let number : length i + 1 ≡ length o + length (drop (length o) i) + 1 = omega (arith, length-drop (length o) i) in
          (ap (λ n. Some (reply.Int (pos n))) (number ∙ ap (λ (t : Channel). t.taken + length t.items + 1) e), ap (λ o. made c (drop (length o) (i ++ v ∷ [])) (length o) false) (append-nil o) ∙ ap (λ items. made c items (length o) false) (drop-append-le (length o) i (v ∷ []) l) ∙ ap (λ t. with_item t v) e)

  pub landed_ok : (number : ℕ) → number ≤ s.taken → Asked Channel channel_left_by task (Landed name number) s (Done reply.Ok) s
  landed_ok number h = asked_done (Landed name number) (landed_law number) task (λ past. refl) s reply.Ok s does
    where
      does : (unbuffered : Bool) (c : ℕ) (i o : List ℤ) (closed : Bool) → nat_eq c 0 ≡ unbuffered → length o ≤ length i → state_at unbuffered c i o closed ≡ s → (landed_law number unbuffered c i o closed ≡ Some reply.Ok) × (state_after (Landed name number) reply.Ok unbuffered c i o closed ≡ s)
      does false c i o closed q l e = absurd (zero_too c q (ap (λ (t : Channel). t.capacity) e))
      does true c i o closed q l e =
          let enough : number ≤ length o = subst (λ (t : Channel). number ≤ t.taken) (sym e) h in
          let test : nat_le number (length o) ≡ true = grind (arith, nat_tests) in
          (ap (λ b. if b then Some reply.Ok else if closed then Some reply.Closed else None) test, same_state true c i o closed ∙ e)

  pub landed_closed : (number : ℕ) → s.taken < number → s.closed ≡ true → Asked Channel channel_left_by task (Landed name number) s (Done reply.Closed) s
  landed_closed number h b = asked_done (Landed name number) (landed_law number) task (λ past. refl) s reply.Closed s does
    where
      does : (unbuffered : Bool) (c : ℕ) (i o : List ℤ) (closed : Bool) → nat_eq c 0 ≡ unbuffered → length o ≤ length i → state_at unbuffered c i o closed ≡ s → (landed_law number unbuffered c i o closed ≡ Some reply.Closed) × (state_after (Landed name number) reply.Closed unbuffered c i o closed ≡ s)
      does false c i o closed q l e = absurd (zero_too c q (ap (λ (t : Channel). t.capacity) e))
      does true c i o false q l e = absurd (false≢true (ap (λ (t : Channel). t.closed) e ∙ b))
      does true c i o true q l e =
          let few : length o < number = subst (λ (t : Channel). t.taken < number) (sym e) h in
          let test : nat_le number (length o) ≡ false = grind (arith, nat_tests) in
          (ap (λ b. if b then Some reply.Ok else Some reply.Closed) test, same_state true c i o true ∙ e)

  pub landed_waits : (number : ℕ) → s.taken < number → s.closed ≡ false → Asked Channel channel_left_by task (Landed name number) s NotYet s
  landed_waits number h b = asked_waits (Landed name number) (landed_law number) task (λ past. refl) s does
    where
      does : (unbuffered : Bool) (c : ℕ) (i o : List ℤ) (closed : Bool) → nat_eq c 0 ≡ unbuffered → length o ≤ length i → state_at unbuffered c i o closed ≡ s → landed_law number unbuffered c i o closed ≡ None
      does false c i o closed q l e = refl
      does true c i o true q l e = absurd (false≢true (sym (ap (λ (t : Channel). t.closed) e ∙ b)))
      does true c i o false q l e =
          let few : length o < number = subst (λ (t : Channel). t.taken < number) (sym e) h in
          let test : nat_le number (length o) ≡ false = grind (arith, nat_tests) in
          ap (λ b. if b then Some reply.Ok else None) test

-- an operation that only looks at the channel
abbrev look_law : (Bool → ℕ → List ℤ → List ℤ → Bool → Reply) → Bool → ℕ → List ℤ → List ℤ → Bool → Option Reply
look_law law unbuffered c i o closed = Some (law unbuffered c i o closed)

-- a take, and the next item of a loop
abbrev take_law : Reply → Bool → ℕ → List ℤ → List ℤ → Bool → Option Reply
take_law none unbuffered c i o closed =
    if nat_lt (length o) (length i) && not (unbuffered && closed) then option_map reply.Int (slice_get i (length o)) else if closed then Some none else None

-- what is left begins with the next item
left_is_next : (i : List ℤ) (n : ℕ) → slice_get i n ≡ slice_get (drop n i) 0
left_is_next [] zero = refl
left_is_next [] (suc n) = refl
left_is_next (x ∷ xs) zero = refl
left_is_next (x ∷ xs) (suc n) = left_is_next xs n

add_one : (n : ℕ) → suc n + 1 ≡ suc (n + 1)
add_one n = omega arith

next_left : (i : List ℤ) (n : ℕ) → drop (n + 1) i ≡ drop 1 (drop n i)
next_left [] zero = refl
next_left [] (suc n) = rw (add_one n)
next_left (x ∷ xs) zero = refl
next_left (x ∷ xs) (suc n) = rw (add_one n) (next_left xs n)

none_left : (i : List ℤ) (n : ℕ) → drop n i ≡ [] → nat_lt n (length i) ≡ false
none_left i n e =
    let none : length i ≤ n = let l = ap length e in omega (arith, length-drop n i) in
    grind (arith, nat_tests)

and_false : (b : Bool) → (b && false) ≡ false
and_false true = refl
and_false false = refl

without_at : (unbuffered : Bool) (c : ℕ) (i o : List ℤ) (v : ℤ) (closed : Bool) → nat_eq c 0 ≡ unbuffered → made c (drop (length (o ++ v ∷ [])) (i ++ [])) (if unbuffered then length (o ++ v ∷ []) else 0) closed ≡ without_item (made c (drop (length o) i) (if unbuffered then length o else 0) closed)
without_at unbuffered c i o v closed q =
    let n : length (o ++ v ∷ []) ≡ length o + 1 = simp length-append (omega arith) in
    ap (λ j. made c (drop (length (o ++ v ∷ [])) j) (if unbuffered then length (o ++ v ∷ []) else 0) closed) (append-nil i)
    ∙ ap (λ m. made c (drop m i) (if unbuffered then m else 0) closed) n
    ∙ ap (λ items. made c items (if unbuffered then length o + 1 else 0) closed) (next_left i (length o))
    ∙ ap (λ taken. made c (drop 1 (drop (length o) i)) taken closed) (taken_at unbuffered (length o) ∙ ap (λ b. if b then (if unbuffered then length o else 0) + 1 else (if unbuffered then length o else 0)) (sym q))
  where
    taken_at : (unbuffered : Bool) (n : ℕ) → (if unbuffered then n + 1 else 0) ≡ (if unbuffered then (if unbuffered then n else 0) + 1 else (if unbuffered then n else 0))
    taken_at true n = refl
    taken_at false n = refl

module _ (s : Channel) (task : List ℕ) (name : Name) where
  take_does : (none : Reply) (v : ℤ) → slice_get s.items 0 ≡ Some v → (unbuffered : Bool) (c : ℕ) (i o : List ℤ) (closed : Bool) → nat_eq c 0 ≡ unbuffered → length o ≤ length i → state_at unbuffered c i o closed ≡ s → (take_law none unbuffered c i o closed ≡ Some (reply.Int v)) × (state_at unbuffered c (i ++ []) (o ++ v ∷ []) (closed || (false || false)) ≡ without_item s)
  take_does none v h unbuffered c i o closed q l e = cases unbuffered closed q e
    where
      next : drop (length o) i ≡ s.items → slice_get i (length o) ≡ Some v
      next p = left_is_next i (length o) ∙ ap (λ items. slice_get items 0) p ∙ h

      law : drop (length o) i ≡ s.items → (other : Option Reply) → (if nat_lt (length o) (length i) && true then option_map reply.Int (slice_get i (length o)) else other) ≡ Some (reply.Int v)
      law p other =
          let within = slice_get_within i (length o) v (next p) in
          let test : nat_lt (length o) (length i) ≡ true = grind (arith, nat_tests) in
          ap (λ b. if b && true then option_map reply.Int (slice_get i (length o)) else other) test ∙ ap (option_map reply.Int) (next p)

      cases : (unbuffered closed : Bool) → nat_eq c 0 ≡ unbuffered → state_at unbuffered c i o closed ≡ s → (take_law none unbuffered c i o closed ≡ Some (reply.Int v)) × (state_at unbuffered c (i ++ []) (o ++ v ∷ []) (closed || (false || false)) ≡ without_item s)
      cases true true q e = absurd (let p : None ≡ Some v = ap (λ (t : Channel). slice_get t.items 0) e ∙ h in cc)
      cases true false q e =
          (law (ap (λ (t : Channel). t.items) e) None, without_at true c i o v false q ∙ ap without_item e)
      cases false true q e =
          (law (ap (λ (t : Channel). t.items) e) (Some none), without_at false c i o v true q ∙ ap without_item e)
      cases false false q e =
          (law (ap (λ (t : Channel). t.items) e) None, without_at false c i o v false q ∙ ap without_item e)

  pub take_item : (v : ℤ) → slice_get s.items 0 ≡ Some v → Asked Channel channel_left_by task (Take name) s (Done (reply.Int v)) (without_item s)
  take_item v h =
      asked_done (Take name) (take_law reply.Closed) task (λ past. refl) s (reply.Int v) (without_item s) (take_does reply.Closed v h)

  pub next_item : (v : ℤ) → slice_get s.items 0 ≡ Some v → Asked Channel channel_left_by task (Next name) s (Done (reply.Int v)) (without_item s)
  next_item v h =
      asked_done (Next name) (take_law reply.NoItem) task (λ past. refl) s (reply.Int v) (without_item s) (take_does reply.NoItem v h)

  none_law : (none : Reply) → s.items ≡ [] → (unbuffered : Bool) (c : ℕ) (i o : List ℤ) (closed : Bool) → state_at unbuffered c i o closed ≡ s → take_law none unbuffered c i o closed ≡ (if s.closed then Some none else None)
  none_law none h unbuffered c i o closed e =
      cases unbuffered closed e ∙ ap (λ b. if b then Some none else None) (ap (λ (t : Channel). t.closed) e)
    where
      law : (other : Option Reply) → drop (length o) i ≡ s.items → (if nat_lt (length o) (length i) && true then option_map reply.Int (slice_get i (length o)) else other) ≡ other
      law other p =
          ap (λ b. if b && true then option_map reply.Int (slice_get i (length o)) else other) (none_left i (length o) (p ∙ h))

      cases : (unbuffered closed : Bool) → state_at unbuffered c i o closed ≡ s → take_law none unbuffered c i o closed ≡ (if closed then Some none else None)
      cases true true e =
          ap (λ b. if b then option_map reply.Int (slice_get i (length o)) else Some none) (and_false (nat_lt (length o) (length i)))
      cases true false e = law None (ap (λ (t : Channel). t.items) e)
      cases false true e = law (Some none) (ap (λ (t : Channel). t.items) e)
      cases false false e = law None (ap (λ (t : Channel). t.items) e)

  pub take_closed : s.items ≡ [] → s.closed ≡ true → Asked Channel channel_left_by task (Take name) s (Done reply.Closed) s
  take_closed h b =
      asked_done (Take name) (take_law reply.Closed) task (λ past. refl) s reply.Closed s (λ unbuffered c i o closed q l e. (none_law reply.Closed h unbuffered c i o closed e ∙ ap (λ b. if b then Some reply.Closed else None) b, same_state unbuffered c i o closed ∙ e))

  pub next_none : s.items ≡ [] → s.closed ≡ true → Asked Channel channel_left_by task (Next name) s (Done reply.NoItem) s
  next_none h b =
      asked_done (Next name) (take_law reply.NoItem) task (λ past. refl) s reply.NoItem s (λ unbuffered c i o closed q l e. (none_law reply.NoItem h unbuffered c i o closed e ∙ ap (λ b. if b then Some reply.NoItem else None) b, same_state unbuffered c i o closed ∙ e))

  pub take_waits : s.items ≡ [] → s.closed ≡ false → Asked Channel channel_left_by task (Take name) s NotYet s
  take_waits h b =
      asked_waits (Take name) (take_law reply.Closed) task (λ past. refl) s (λ unbuffered c i o closed q l e. none_law reply.Closed h unbuffered c i o closed e ∙ ap (λ b. if b then Some reply.Closed else None) b)

  pub next_waits : s.items ≡ [] → s.closed ≡ false → Asked Channel channel_left_by task (Next name) s NotYet s
  next_waits h b =
      asked_waits (Next name) (take_law reply.NoItem) task (λ past. refl) s (λ unbuffered c i o closed q l e. none_law reply.NoItem h unbuffered c i o closed e ∙ ap (λ b. if b then Some reply.NoItem else None) b)

  pub closes : Asked Channel channel_left_by task (Close name) s (Done reply.Ok) (when_closed s)
  closes = asked_done (Close name) (look_law (λ z c i o b. reply.Ok)) task (λ past. refl) s reply.Ok (when_closed s) (λ unbuffered c i o closed q l e. (refl, after unbuffered c i o closed q ∙ ap when_closed e))
    where
      after : (unbuffered : Bool) (c : ℕ) (i o : List ℤ) (closed : Bool) → nat_eq c 0 ≡ unbuffered → state_at unbuffered c (i ++ []) (o ++ []) (closed || (true || false)) ≡ when_closed (state_at unbuffered c i o closed)
      after true c i o true q =
          ap (λ p. made c [] (length p) true) (append-nil o) ∙ ap (λ z. made c (if z then [] else []) (length o) true) (sym q)
      after true c i o false q =
          ap (λ p. made c [] (length p) true) (append-nil o) ∙ ap (λ z. made c (if z then [] else drop (length o) i) (length o) true) (sym q)
      after false c i o true q =
          ap (λ p. made c (drop (length p) (i ++ [])) 0 true) (append-nil o) ∙ ap (λ j. made c (drop (length o) j) 0 true) (append-nil i) ∙ ap (λ z. made c (if z then [] else drop (length o) i) 0 true) (sym q)
      after false c i o false q =
          ap (λ p. made c (drop (length p) (i ++ [])) 0 true) (append-nil o) ∙ ap (λ j. made c (drop (length o) j) 0 true) (append-nil i) ∙ ap (λ z. made c (if z then [] else drop (length o) i) 0 true) (sym q)

  pub tells_open : Asked Channel channel_left_by task (IsOpen name) s (Done (reply.Flag (not s.closed))) s
  tells_open =
      asked_done (IsOpen name) (look_law (λ z c i o b. reply.Flag (not b))) task (λ past. refl) s (reply.Flag (not s.closed)) s (λ unbuffered c i o closed q l e. (ap (λ (t : Channel). Some (reply.Flag (not t.closed))) e, same_state unbuffered c i o closed ∙ e))

  pub tells_ready : Asked Channel channel_left_by task (IsReady name) s (Done (reply.Flag (not (nat_eq (length s.items) 0)))) s
  tells_ready =
      asked_done (IsReady name) (look_law (λ z c i o b. reply.Flag (nat_lt (length o) (length i) && not (z && b)))) task (λ past. refl) s (reply.Flag (not (nat_eq (length s.items) 0))) s (λ unbuffered c i o closed q l e. (ap (λ b. Some (reply.Flag b)) (ready unbuffered c i o closed ∙ ap (λ (t : Channel). not (nat_eq (length t.items) 0)) e), same_state unbuffered c i o closed ∙ e))
    where
      some_left : (i o : List ℤ) → (nat_lt (length o) (length i) && true) ≡ not (nat_eq (length (drop (length o) i)) 0)
      some_left i o = let n = length-drop (length o) i in grind (arith, nat_tests)

      ready : (unbuffered : Bool) (c : ℕ) (i o : List ℤ) (closed : Bool) → (nat_lt (length o) (length i) && not (unbuffered && closed)) ≡ not (nat_eq (length (state_at unbuffered c i o closed).items) 0)
      ready true c i o true = and_false (nat_lt (length o) (length i))
      ready true c i o false = some_left i o
      ready false c i o true = some_left i o
      ready false c i o false = some_left i o
