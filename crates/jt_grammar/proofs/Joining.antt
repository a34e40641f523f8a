-- What is joined of tokens is, from the last token that was kept on, what is joined of those as they were written.
use Rattle.std.proofs.Common.{◌≡◌, ℕ, suc, ◌+◌, ◌<◌, ◌≤◌, Bool, true, false, true≢false, sym, ◌&&◌, ◌||◌, cond, slice_get, ◌-◌, Some, List, [], ◌∷◌, ◌++◌, length, refl, ap, subst, ◌∙◌, length-append, arith}
use Rattle.jt_syntax.specs.declared.token.Sign.TheVariants as sign
use Rattle.jt_syntax.specs.declared.token.Token.{Token}
use Rattle.jt_syntax.specs.declared.token.TokenKind.{TokenKind}
use Rattle.jt_syntax.specs.declared.token.TokenKind.TheVariants as kind
use Rattle.jt_grammar.specs.Grammar.{token, IsStop, NoStop, EndsWithStop}
use Rattle.jt_grammar.specs.Joined.{is_newline, in_bracket, is_last_opener, Unopened, State, drops, next_state, joined_from, joined}
use Rattle.jt_grammar.proofs.Steps.{NoNewline}

-- ---- the parts of a list

tail : List Token → List Token
tail [] = []
tail (t ∷ ts) = ts

head : Token → List Token → Token
head d [] = d
head d (t ∷ ts) = t

pub same_head : {r t : Token} {u v : List Token} → r ∷ u ≡ t ∷ v → r ≡ t
unfolding head
same_head {r = r} e = ap (head r) e

pub same_tail : {r t : Token} {u v : List Token} → r ∷ u ≡ t ∷ v → u ≡ v
unfolding tail
same_tail e = ap tail e

-- ---- one list behind another

abbrev state_after : State → List Token → State
state_after s [] = s
state_after s (t ∷ ts) = cond (drops s t.kind) (state_after s ts) (state_after (next_state s t.kind) ts)

append_turn : (s : State) (t : Token) (u v : List Token) (b : Bool) → (joined_from s (u ++ v) ≡ joined_from s u ++ joined_from (state_after s u) v)
    → (joined_from (next_state s t.kind) (u ++ v) ≡ joined_from (next_state s t.kind) u ++ joined_from (state_after (next_state s t.kind) u) v)
    → cond b (joined_from s (u ++ v)) (t ∷ joined_from (next_state s t.kind) (u ++ v))
    ≡ cond b (joined_from s u) (t ∷ joined_from (next_state s t.kind) u) ++ joined_from (cond b (state_after s u) (state_after (next_state s t.kind) u)) v
append_turn s t u v true e f = e
append_turn s t u v false e f = ap (λ z. t ∷ z) f

joined-append : (s : State) (u v : List Token) → joined_from s (u ++ v) ≡ joined_from s u ++ joined_from (state_after s u) v
joined-append s [] v = refl
joined-append s (t ∷ u) v = append_turn s t u v (drops s t.kind) (joined-append s u v) (joined-append (next_state s t.kind) u v)

-- without newlines nothing is dropped
pub joined_plain : (s : State) (v : List Token) → NoNewline v → joined_from s v ≡ v
joined_plain s [] h = refl
joined_plain s (t ∷ v) h = rw h.0 (ap (λ z. t ∷ z) (joined_plain (next_state s t.kind) v h.1))

-- ---- where a token was kept

abbrev KeptFrom : State → List Token → List Token → Token → Type 0
KeptFrom s ts w t = (u x : List Token) × (ts ≡ u ++ t ∷ x) × (joined_from s u ≡ w) × (drops (state_after s u) t.kind ≡ false)

kept_later : (s : State) (r : Token) (ts w : List Token) (t : Token) → drops s r.kind ≡ true → KeptFrom s ts w t → KeptFrom s (r ∷ ts) w t
kept_later s r ts w t e k = (r ∷ k.0, k.1, ap (λ z. r ∷ z) k.2, rw e k.3, rw e k.4)

kept_next : (s : State) (r : Token) (ts w : List Token) (t : Token) → drops s r.kind ≡ false → KeptFrom (next_state s r.kind) ts w t → KeptFrom s (r ∷ ts) (r ∷ w) t
kept_next s r ts w t e k = (r ∷ k.0, k.1, ap (λ z. r ∷ z) k.2, rw e (ap (λ z. r ∷ z) k.3), rw e k.4)

kept_here : (s : State) (r : Token) (ts w x : List Token) (t : Token) → drops s r.kind ≡ false → r ∷ joined_from (next_state s r.kind) ts ≡ w ++ t ∷ x
    → ((v : List Token) → joined_from (next_state s r.kind) ts ≡ v ++ t ∷ x → KeptFrom (next_state s r.kind) ts v t) → KeptFrom s (r ∷ ts) w t
kept_here s r ts [] x t e f rec = let same : r ≡ t = same_head f in ([], ts, ap (λ z. z ∷ ts) same, refl, subst (λ z. drops s z.kind ≡ false) same e)
kept_here s r ts (q ∷ w) x t e f rec = let same : r ≡ q = same_head f in subst (λ z. KeptFrom s (r ∷ ts) (z ∷ w) t) same (kept_next s r ts w t e (rec w (same_tail f)))

kept_turn : (s : State) (r : Token) (ts w x : List Token) (t : Token) (b : Bool) → drops s r.kind ≡ b → cond b (joined_from s ts) (r ∷ joined_from (next_state s r.kind) ts) ≡ w ++ t ∷ x
    → (joined_from s ts ≡ w ++ t ∷ x → KeptFrom s ts w t) → ((v : List Token) → joined_from (next_state s r.kind) ts ≡ v ++ t ∷ x → KeptFrom (next_state s r.kind) ts v t) → KeptFrom s (r ∷ ts) w t
kept_turn s r ts w x t true e f now later = kept_later s r ts w t e (now f)
kept_turn s r ts w x t false e f now later = kept_here s r ts w x t e f later

kept_from : (ts : List Token) (s : State) (w x : List Token) (t : Token) → joined_from s ts ≡ w ++ t ∷ x → KeptFrom s ts w t
kept_from [] s w x t e = absurd (omega (arith, ap length e, length-append w (t ∷ x)))
kept_from (r ∷ ts) s w x t e = kept_turn s r ts w x t (drops s r.kind) refl e (λ f. kept_from ts s w x t f) (λ v f. kept_from ts (next_state s r.kind) v x t f)

-- ---- where what is joined is split

newline_opens : (k : TokenKind) → is_newline k ≡ true → is_last_opener k ≡ false
newline_opens (kind.Sign sign.Newline) e = refl
newline_opens (kind.Sign _) e = absurd (true≢false (sym e))
newline_opens (kind.Number _) e = absurd (true≢false (sym e))
newline_opens (kind.Name _) e = absurd (true≢false (sym e))
newline_opens (kind.Text _) e = absurd (true≢false (sym e))

both_true : (a b : Bool) → a && b ≡ true → a ≡ true
both_true true b e = refl
both_true false b e = absurd (true≢false (sym e))

unopened_turn : (s : State) (r : Token) (u : List Token) (b : Bool) → drops s r.kind ≡ b → (Unopened (joined_from s u) → Unopened u) → (Unopened (joined_from (next_state s r.kind) u) → Unopened u)
    → Unopened (cond b (joined_from s u) (r ∷ joined_from (next_state s r.kind) u)) → Unopened (r ∷ u)
unopened_turn s r u true e now later h = (newline_opens r.kind (both_true (is_newline r.kind) (in_bracket s.0 || s.1) e), now h)
unopened_turn s r u false e now later h = (h.0, later h.1)

unopened_written : (s : State) (u : List Token) → Unopened (joined_from s u) → Unopened u
unopened_written s [] h = tt
unopened_written s (r ∷ u) h = unopened_turn s r u (drops s r.kind) refl (unopened_written s u) (unopened_written (next_state s r.kind) u) h

abbrev SplitFrom : State → List Token → List Token → Type 0
SplitFrom s u p = (a b : List Token) × (u ≡ a ++ b) × (joined_from s a ≡ p) × Unopened b

split_later : (s : State) (r : Token) (u p : List Token) → drops s r.kind ≡ true → SplitFrom s u p → SplitFrom s (r ∷ u) p
split_later s r u p e k = (r ∷ k.0, k.1, ap (λ z. r ∷ z) k.2, rw e k.3, k.4)

split_next : (s : State) (r : Token) (u p : List Token) → drops s r.kind ≡ false → SplitFrom (next_state s r.kind) u p → SplitFrom s (r ∷ u) (r ∷ p)
split_next s r u p e k = (r ∷ k.0, k.1, ap (λ z. r ∷ z) k.2, rw e (ap (λ z. r ∷ z) k.3), k.4)

split_here : (s : State) (r : Token) (u p q : List Token) → drops s r.kind ≡ false → r ∷ joined_from (next_state s r.kind) u ≡ p ++ q → Unopened q
    → ((v : List Token) → joined_from (next_state s r.kind) u ≡ v ++ q → SplitFrom (next_state s r.kind) u v) → SplitFrom s (r ∷ u) p
split_here s r u [] q e f h rec =
    let all : Unopened (r ∷ joined_from (next_state s r.kind) u) = subst Unopened (sym f) h in
    ([], r ∷ u, refl, refl, (all.0, unopened_written (next_state s r.kind) u all.1))
split_here s r u (t ∷ p) q e f h rec = let same : r ≡ t = same_head f in subst (λ z. SplitFrom s (r ∷ u) (z ∷ p)) same (split_next s r u p e (rec p (same_tail f)))

split_turn : (s : State) (r : Token) (u p q : List Token) (b : Bool) → drops s r.kind ≡ b → cond b (joined_from s u) (r ∷ joined_from (next_state s r.kind) u) ≡ p ++ q → Unopened q
    → (joined_from s u ≡ p ++ q → SplitFrom s u p) → ((v : List Token) → joined_from (next_state s r.kind) u ≡ v ++ q → SplitFrom (next_state s r.kind) u v) → SplitFrom s (r ∷ u) p
split_turn s r u p q true e f h now later = split_later s r u p e (now f)
split_turn s r u p q false e f h now later = split_here s r u p q e f h later

split_none : (s : State) (p q : List Token) → [] ≡ p ++ q → SplitFrom s [] p
split_none s [] q e = ([], [], refl, refl, tt)
split_none s (t ∷ p) q e = absurd (omega (arith, ap length e))

split_from : (u : List Token) (s : State) (p q : List Token) → joined_from s u ≡ p ++ q → Unopened q → SplitFrom s u p
split_from [] s p q e h = split_none s p q e
split_from (r ∷ u) s p q e h = split_turn s r u p q (drops s r.kind) refl e h (λ f. split_from u s p q f h) (λ v f. split_from u (next_state s r.kind) v q f h)

-- ---- from the first token on

abbrev start : State
start = ([], false)

-- the token that was kept behind w, with what was written before and behind it
abbrev pub Kept : List Token → List Token → Token → Type 0
Kept ts w t = (u x : List Token) × (ts ≡ u ++ t ∷ x) × (joined u ≡ w) × (drops (state_after start u) t.kind ≡ false)

pub kept : (ts w x : List Token) (t : Token) → joined ts ≡ w ++ t ∷ x → Kept ts w t
kept ts w x t e = kept_from ts start w x t e

-- what was written of a front of what was joined, where nothing opens behind that
abbrev pub Split : List Token → List Token → Type 0
Split u p = (a b : List Token) × (u ≡ a ++ b) × (joined a ≡ p) × Unopened b

pub split : (u p q : List Token) → joined u ≡ p ++ q → Unopened q → Split u p
split u p q e h = split_from u start p q e h

-- a completion without newlines of the joined tokens completes those that were written
pub joined_completed : (u w more : List Token) → joined u ≡ w → NoNewline more → joined (u ++ more) ≡ w ++ more
joined_completed u w more e h = joined-append start u more ∙ (ap (λ z. z ++ joined_from (state_after start u) more) e ∙ ap (λ z. w ++ z) (joined_plain (state_after start u) more h))

-- what is joined, up to a token that was kept
pub joined_up_to : (u w : List Token) (t : Token) → joined u ≡ w → drops (state_after start u) t.kind ≡ false → joined (u ++ t ∷ []) ≡ w ++ t ∷ []
joined_up_to u w t e d = joined-append start u (t ∷ []) ∙ (ap (λ q. q ++ joined_from (state_after start u) (t ∷ [])) e ∙ ap (λ q. w ++ q) (rw d refl))

-- what is joined behind a token that was kept
pub joined_behind : (u w y : List Token) (t : Token) → joined u ≡ w → drops (state_after start u) t.kind ≡ false → (z : List Token) × (joined ((u ++ t ∷ []) ++ y) ≡ (w ++ t ∷ []) ++ z)
joined_behind u w y t e d =
    (joined_from (state_after start (u ++ t ∷ [])) y, joined-append start (u ++ t ∷ []) y ∙ ap (λ q. q ++ joined_from (state_after start (u ++ t ∷ [])) y) (joined_up_to u w t e d))

-- ---- a token by how many are left

-- the token before which so many are left, itself among them
abbrev pub IsAt : List Token → ℕ → Token → Type 0
IsAt js left t = (left ≤ length js) × (0 < left) × (slice_get js (length js - left) ≡ Some t)

cell : (w x : List Token) (t : Token) → slice_get (w ++ t ∷ x) (length w) ≡ Some t
cell [] x t = refl
cell (r ∷ w) x t = cell w x t

pub is_at : (js w x : List Token) (t : Token) (left : ℕ) → js ≡ w ++ t ∷ x → left ≡ suc (length x) → IsAt js left t
is_at js w x t left e h =
    let size : length js ≡ length w + suc (length x) = ap length e ∙ length-append w (t ∷ x) in
    let index : length js - left ≡ length w = omega (arith, size, h) in
    (omega (arith, size, h), omega (arith, h), ap (λ z. slice_get js z) index ∙ (ap (λ z. slice_get z (length w)) e ∙ cell w x t))

-- ---- the end token is kept, and no other becomes one

stop_turn : (s : State) (t : Token) (u : List Token) (b : Bool) → (IsStop t.kind → ⊥) → NoStop (joined_from s u) → NoStop (joined_from (next_state s t.kind) u) → NoStop (cond b (joined_from s u) (t ∷ joined_from (next_state s t.kind) u))
stop_turn s t u true h a b = a
stop_turn s t u false h a b = (h, b)

no_stop-joined : (s : State) (u : List Token) → NoStop u → NoStop (joined_from s u)
no_stop-joined s [] h = tt
no_stop-joined s (t ∷ u) h = stop_turn s t u (drops s t.kind) h.0 (no_stop-joined s u h.1) (no_stop-joined (next_state s t.kind) u h.1)

pub ends_with_stop-joined : (ts : List Token) → EndsWithStop ts → EndsWithStop (joined ts)
ends_with_stop-joined ts h =
    let stop = token (kind.Sign sign.Stop) h.4.0 in
    let all : ts ≡ h.0 ++ stop ∷ [] = h.2 ∙ ap (λ z. h.0 ++ z) h.4.1 in
    (joined h.0, stop ∷ [], ap joined all ∙ joined_completed h.0 (joined h.0) (stop ∷ []) refl (refl, tt), no_stop-joined start h.0 h.3, (h.4.0, refl))
