-- Words, with their prefixes, are read by their rules.
use Rattle.std.proofs.Common.{◌≡◌, ℕ, zero, suc, ◌+◌, ◌<◌, Bool, true, false, not, ◌&&◌, inl, inr, nat_eq, List, [], ◌∷◌, ◌++◌, length, take, drop, None, Ok, Err, refl, sym, ap, subst, ◌∙◌, arith}
use Rattle.std.specs.Prelude.{slice_index, slice_index_or, ◌==◌, codes}
use Rattle.std.specs.List.{starts_with, Contains}
use Rattle.std.specs.Str.{bytes_eq}
use Rattle.std.proofs.lemmas.Bool.{false≢true, and_parts, and_from, or_cases, or_left, or_right, eqb-true, eq-eqb, ne_eqb, false_from_ne_true, cond_both}
use Rattle.std.proofs.lemmas.List.{drop-take}
use Rattle.std.proofs.lemmas.Slice.Eq.{bytes_eq-Decides, starts_is}
use Rattle.std.proofs.lemmas.Bool.Decides.{Decides-eqb}
use Rattle.jt_syntax.specs.declared.token.Sign.{Sign}
use Rattle.jt_lexer.specs.declared.piece.Shape.TheVariants as shape
use Rattle.jt_lexer.specs.declared.piece.Defect.TheVariants as defect
use Rattle.jt_lexer.specs.Words.{of_threads, of_base}
use Rattle.jt_lexer.specs.Pieces.{Text, begins_word, word_len, whole_len, is_listed, begins_with_one, is_of_threads, is_of_base, is_base_threads_word, is_threads_word, is_base_word, prefix_len, is_base_threads, reserved, word_piece, word_at}
use Rattle.jt_lexer.specs.Rules.{IsSpan, in_word, in_whole, IsPrefixed, HasPrefix, BeginsAt, IsBaseThreads, IsWord, IsName, IsKeyword, IsMacroCall, IsNoMacro}
use Rattle.jt_lexer.proofs.Runs.{run_unique, no_run, word_len_run, whole_len_run}

-- ---- the listed words

abbrev pub all_pass : (Text → Bool) → List Text → Bool
all_pass test [] = true
all_pass test (w ∷ ws) = test w && all_pass test ws

pub listed_passes : (test : Text → Bool) (ws : List Text) (w : Text) → all_pass test ws ≡ true → is_listed ws w ≡ true → test w ≡ true
listed_passes test [] w h k = absurd (false≢true k)
listed_passes test (x ∷ ws) w h k =
    let parts = and_parts (test x) (all_pass test ws) h in
    elim (or_cases (bytes_eq w x) (is_listed ws w) k) [
      | inl e ↦ ap test ((bytes_eq-Decides w x).0 e) ∙ parts.0
      | inr l ↦ listed_passes test ws w parts.1 l
    ]

listed_contains : (ws : List Text) (w : Text) → is_listed ws w ≡ true → Contains ws w
listed_contains [] w h = absurd (false≢true h)
listed_contains (x ∷ ws) w h = elim (or_cases (bytes_eq w x) (is_listed ws w) h) [
  | inl e ↦ (0, omega arith, sym ((bytes_eq-Decides w x).0 e))
  | inr l ↦ let c = listed_contains ws w l in (suc c.0, omega (arith, c.1), c.2)
]

pub listed_at : (ws : List Text) (w : Text) (k : ℕ) → k < length ws → slice_index_or ws k w ≡ w → is_listed ws w ≡ true
listed_at [] w k l e = absurd (omega (arith, l))
listed_at (x ∷ ws) w zero l e = or_left (bytes_eq w x) (is_listed ws w) ((bytes_eq-Decides w x).1 (sym e))
listed_at (x ∷ ws) w (suc k) l e = or_right (bytes_eq w x) (is_listed ws w) (listed_at ws w k (omega (arith, l)) e)

-- ---- what a text begins with

pub starts_first : (c : ℕ) (p z : Text) → starts_with nat_eq z (c ∷ p) ≡ true → slice_index z 0 ≡ c
starts_first c p [] h = absurd (false≢true h)
starts_first c p (b ∷ z) h = sym (eqb-true c b (and_parts (c == b) _ h).0)

pub starts_as : (p z : Text) → starts_with nat_eq z p ≡ true → z ≡ p ++ drop (length p) z
starts_as p z h = (starts_is Decides-eqb z p (starts_with nat_eq z p) refl).0 h

-- ---- prefixes

prefixed : (prefix : Text) (ws : List Text) (z : Text) → (starts_with nat_eq z prefix && begins_with_one ws (drop (length prefix) z)) ≡ true → IsPrefixed prefix ws z
prefixed prefix ws z h =
    let y = drop (length prefix) z in
    let parts = and_parts (starts_with nat_eq z prefix) (begins_with_one ws y) h in
    (parts.0, whole_len y, whole_len_run y, listed_contains ws (take (whole_len y) y) parts.1)

prefixed_is : (prefix : Text) (ws : List Text) (z : Text) → IsPrefixed prefix ws z → (starts_with nat_eq z prefix && begins_with_one ws (drop (length prefix) z)) ≡ true
prefixed_is prefix ws z h =
    let y = drop (length prefix) z in
    let same : h.1 ≡ whole_len y = run_unique (in_whole y) h.1 (whole_len y) h.2 (whole_len_run y) in
    and_from (starts_with nat_eq z prefix) (begins_with_one ws y) h.0 (ap (λ n. is_listed ws (take n y)) (sym same) ∙ listed_at ws (take h.1 y) h.3.0 h.3.1 h.3.2)

both_prefixed : (z : Text) → is_base_threads_word z ≡ true → IsPrefixed (codes "Base.Threads.") of_threads z
unfolding is_base_threads_word is_of_threads
both_prefixed z h = prefixed (codes "Base.Threads.") of_threads z h

threads_prefixed : (z : Text) → is_threads_word z ≡ true → IsPrefixed (codes "Threads.") of_threads z
unfolding is_threads_word is_of_threads
threads_prefixed z h = prefixed (codes "Threads.") of_threads z h

base_prefixed : (z : Text) → is_base_word z ≡ true → IsPrefixed (codes "Base.") of_base z
unfolding is_base_word is_of_base
base_prefixed z h = prefixed (codes "Base.") of_base z h

both_is : (z : Text) → IsPrefixed (codes "Base.Threads.") of_threads z → is_base_threads_word z ≡ true
unfolding is_base_threads_word is_of_threads
both_is z h = prefixed_is (codes "Base.Threads.") of_threads z h

threads_is : (z : Text) → IsPrefixed (codes "Threads.") of_threads z → is_threads_word z ≡ true
unfolding is_threads_word is_of_threads
threads_is z h = prefixed_is (codes "Threads.") of_threads z h

base_is : (z : Text) → IsPrefixed (codes "Base.") of_base z → is_base_word z ≡ true
unfolding is_base_word is_of_base
base_is z h = prefixed_is (codes "Base.") of_base z h

-- the prefixes exclude one another
threads_not_both : (z : Text) → IsPrefixed (codes "Threads.") of_threads z → is_base_threads_word z ≡ false
threads_not_both z h = false_from_ne_true (is_base_threads_word z) (λ e.
    let t : slice_index z 0 ≡ 84 = starts_first 84 (codes "hreads.") z h.0 in
    let b : slice_index z 0 ≡ 66 = starts_first 66 (codes "ase.Threads.") z (both_prefixed z e).0 in
    absurd (omega (arith, t, b)))

base_not_threads : (z : Text) → IsPrefixed (codes "Base.") of_base z → is_threads_word z ≡ false
base_not_threads z h = false_from_ne_true (is_threads_word z) (λ e.
    let b : slice_index z 0 ≡ 66 = starts_first 66 (codes "ase.") z h.0 in
    let t : slice_index z 0 ≡ 84 = starts_first 84 (codes "hreads.") z (threads_prefixed z e).0 in
    absurd (omega (arith, t, b)))

-- a word that begins with another byte than T
abbrev no_t : Text → Bool
no_t w = begins_word (slice_index w 0) && not (slice_index w 0 == 84)

no_t_front : (n : ℕ) (z : Text) → no_t (take n z) ≡ true → slice_index z 0 ≡ 84 → ⊥
no_t_front zero z h e = absurd (false≢true h)
no_t_front (suc n) [] h e = absurd (false≢true h)
no_t_front (suc n) (b ∷ z) h e = absurd (false≢true (ap (λ x. begins_word x && not (x == 84)) (sym e) ∙ h))

base_not_both : (z : Text) → IsPrefixed (codes "Base.") of_base z → is_base_threads_word z ≡ false
base_not_both z h = false_from_ne_true (is_base_threads_word z) (λ e.
    let at : slice_index (drop 5 z) 0 ≡ 84 = ap (λ y. slice_index (drop 5 y) 0) (starts_as (codes "Base.Threads.") z (both_prefixed z e).0) in
    no_t_front h.1 (drop 5 z) (listed_passes no_t of_base (take h.1 (drop 5 z)) refl (listed_at of_base (take h.1 (drop 5 z)) h.3.0 h.3.1 h.3.2)) at)

no_both : (z : Text) → ((n : ℕ) → HasPrefix z n → ⊥) → is_base_threads_word z ≡ false
no_both z h = false_from_ne_true (is_base_threads_word z) (λ e. h 13 (inl (refl, both_prefixed z e)))

no_threads : (z : Text) → ((n : ℕ) → HasPrefix z n → ⊥) → is_threads_word z ≡ false
no_threads z h = false_from_ne_true (is_threads_word z) (λ e. h 8 (inr (inl (refl, threads_prefixed z e))))

no_base : (z : Text) → ((n : ℕ) → HasPrefix z n → ⊥) → is_base_word z ≡ false
no_base z h = false_from_ne_true (is_base_word z) (λ e. h 5 (inr (inr (refl, base_prefixed z e))))

start_is : (z : Text) (start : ℕ) → BeginsAt z start → prefix_len z ≡ start
unfolding prefix_len
start_is z start (inl (inl h)) = rw (both_is z h.1) (sym h.0)
start_is z start (inl (inr (inl h))) = rw (threads_not_both z h.1, threads_is z h.1) (sym h.0)
start_is z start (inl (inr (inr h))) = rw (base_not_both z h.1, base_not_threads z h.1, base_is z h.1) (sym h.0)
start_is z start (inr h) = rw (no_both z h.1, no_threads z h.1, no_base z h.1) (sym h.0)

not_prefixed : (z : Text) → is_base_threads_word z ≡ false → is_threads_word z ≡ false → is_base_word z ≡ false → (n : ℕ) → HasPrefix z n → ⊥
not_prefixed z h k l n (inl p) = false≢true (sym h ∙ both_is z p.1)
not_prefixed z h k l n (inr (inl p)) = false≢true (sym k ∙ threads_is z p.1)
not_prefixed z h k l n (inr (inr p)) = false≢true (sym l ∙ base_is z p.1)

pub begins_at : (z : Text) → BeginsAt z (prefix_len z)
unfolding prefix_len
begins_at z = cond_both (is_base_threads_word z) _ _ (BeginsAt z) (λ e. inl (inl (refl, both_prefixed z e)))
    (λ h. cond_both (is_threads_word z) _ _ (BeginsAt z) (λ e. inl (inr (inl (refl, threads_prefixed z e))))
    (λ k. cond_both (is_base_word z) _ _ (BeginsAt z) (λ e. inl (inr (inr (refl, base_prefixed z e)))) (λ l. inr (refl, not_prefixed z h k l))))

-- ---- `Base.Threads`

threads_len : (y : Text) → whole_len (codes "Threads" ++ y) ≡ 7 + word_len y
unfolding whole_len
threads_len y = omega arith

no_more : (y : Text) → in_word y 0 ≡ false → word_len y ≡ 0
no_more y h = run_unique (in_word y) (word_len y) 0 (word_len_run y) (no_run (in_word y) h)

base_front : (y : Text) → in_word y 0 ≡ false → whole_len (codes "Threads" ++ y) ≡ 7
base_front y h = omega (arith, threads_len y, no_more y h)

base_end : (y : Text) → whole_len (codes "Threads" ++ y) ≡ 7 → in_word y 0 ≡ false
base_end y h =
    let none : word_len y ≡ 0 = omega (arith, threads_len y, h) in
    subst (λ n. in_word y n ≡ false) none (word_len_run y).1

pub base_threads_is : (z : Text) → IsBaseThreads z → is_base_threads z ≡ true
unfolding is_base_threads
base_threads_is z h =
    let y = drop 12 z in
    let front : z ≡ codes "Base.Threads" ++ y = starts_as (codes "Base.Threads") z h.0 in
    let end : in_word y 0 ≡ false = subst (λ x. in_word x 12 ≡ false) front h.1 in
    let len : whole_len (drop 5 z) ≡ 7 = ap (λ x. whole_len (drop 5 x)) front ∙ base_front y end in
    let dot : (slice_index z 12 == 46) ≡ false = ne_eqb (slice_index z 12) 46 h.2 in
    and_from _ _ (and_from _ _ h.0 (eq-eqb (whole_len (drop 5 z)) 7 len)) (ap not dot)

pub is_base_threads_piece : (z : Text) → is_base_threads z ≡ true → IsBaseThreads z
unfolding is_base_threads
is_base_threads_piece z h =
    let starts = starts_with nat_eq z (codes "Base.Threads") in
    let outer = and_parts (starts && (whole_len (drop 5 z) == 7)) (not (slice_index z 12 == 46)) h in
    let parts = and_parts starts (whole_len (drop 5 z) == 7) outer.0 in
    let y = drop 12 z in
    let front : z ≡ codes "Base.Threads" ++ y = starts_as (codes "Base.Threads") z parts.0 in
    let len : whole_len (codes "Threads" ++ y) ≡ 7 = ap (λ x. whole_len (drop 5 x)) (sym front) ∙ eqb-true (whole_len (drop 5 z)) 7 parts.1 in
    (parts.0, subst (λ x. in_word x 12 ≡ false) (sym front) (base_end y len), λ e. false≢true (ap not (sym (eq-eqb (slice_index z 12) 46 e)) ∙ outer.1))

-- ---- words

word_is : (z : Text) (start m : ℕ) → IsWord z start m → word_at z ≡ word_piece (reserved (take m (drop start z))) (slice_index (drop start z) 0 == 64) start (start + m) z
unfolding word_at
word_is z start m h =
    let base : is_base_threads z ≡ false = false_from_ne_true (is_base_threads z) (λ e. h.1 (is_base_threads_piece z e)) in
    let begin : prefix_len z ≡ start = start_is z start h.2 in
    let long : whole_len (drop start z) ≡ m = run_unique (in_whole (drop start z)) (whole_len (drop start z)) m (whole_len_run (drop start z)) h.3 in
    rw (base, begin, long)

pub name_is : (z : Text) (w : List ℕ) (n : ℕ) (h : IsName z w n) → word_at z ≡ Ok (shape.Name h.0, n)
name_is z w n h =
    let free : reserved (take h.1 (drop h.0 z)) ≡ None = ap reserved (sym h.3) ∙ h.4 in
    let bare : (slice_index (drop h.0 z) 0 == 64) ≡ false = ne_eqb (slice_index (drop h.0 z) 0) 64 h.5 in
    word_is z h.0 h.1 h.2 ∙ rw (free, bare) (ap (λ k. Ok (shape.Name h.0, k)) (sym h.6))

pub name_means : (z : Text) (w : List ℕ) (n : ℕ) (h : IsName z w n) → drop h.0 (take n z) ≡ w
name_means z w n h = ap (λ k. drop h.0 (take k z)) h.6 ∙ (drop-take h.0 h.1 z ∙ sym h.3)

pub keyword_is : (z : Text) (s : Sign) (n : ℕ) → IsKeyword z s n → word_at z ≡ Ok (shape.Sign s, n)
keyword_is z s n h =
    let bare = slice_index (drop h.0 z) 0 in
    let open_behind : (bare == 64 && slice_index z (h.0 + h.1) == 40) ≡ false = false_from_ne_true _ (λ e.
    let parts = and_parts (bare == 64) (slice_index z (h.0 + h.1) == 40) e in
    h.5 (eqb-true bare 64 parts.0) (ap (slice_index z) h.4 ∙ eqb-true (slice_index z (h.0 + h.1)) 40 parts.1)) in
    word_is z h.0 h.1 h.2 ∙ rw (h.3, open_behind) (ap (λ k. Ok (shape.Sign s, k)) (sym h.4))

pub macro_call_is : (z : Text) (n : ℕ) → IsMacroCall z n → word_at z ≡ Err (defect.BadCharacter n)
macro_call_is z n h =
    let bare = slice_index (drop h.0 z) 0 in
    let open_behind : (bare == 64 && slice_index z (h.0 + h.1) == 40) ≡ true = and_from (bare == 64) _ (eq-eqb bare 64 h.6) (eq-eqb (slice_index z (h.0 + h.1)) 40 (ap (slice_index z) (sym h.5) ∙ h.7)) in
    word_is z h.0 h.1 h.3 ∙ rw (h.4, open_behind) (ap (λ k. Err (defect.BadCharacter k)) (sym h.5))

at_no_prefix : (z : Text) → slice_index z 0 ≡ 64 → (n : ℕ) → HasPrefix z n → ⊥
at_no_prefix z h n (inl p) = let b : slice_index z 0 ≡ 66 = starts_first 66 (codes "ase.Threads.") z p.1.0 in absurd (omega (arith, h, b))
at_no_prefix z h n (inr (inl p)) = let b : slice_index z 0 ≡ 84 = starts_first 84 (codes "hreads.") z p.1.0 in absurd (omega (arith, h, b))
at_no_prefix z h n (inr (inr p)) = let b : slice_index z 0 ≡ 66 = starts_first 66 (codes "ase.") z p.1.0 in absurd (omega (arith, h, b))

at_word : (z : Text) (m : ℕ) → slice_index z 0 ≡ 64 → IsSpan (in_whole z) m → IsWord z 0 m
at_word z m h r = (
  ap begins_word h,
  λ b. let first : slice_index z 0 ≡ 66 = starts_first 66 (codes "ase.Threads") z b.0 in absurd (omega (arith, h, first)),
  inr (refl, at_no_prefix z h),
  r,
)

pub no_macro_is : (z : Text) → IsNoMacro z → word_at z ≡ Err (defect.BadCharacter 0)
no_macro_is z h =
    let mark : (slice_index z 0 == 64) ≡ true = eq-eqb (slice_index z 0) 64 h.1 in
    word_is z 0 h.0 (at_word z h.0 h.1 h.2) ∙ rw (h.3, mark) refl

pub base_begins : (z : Text) → IsBaseThreads z → begins_word (slice_index z 0) ≡ true
base_begins z h = ap begins_word (starts_first 66 (codes "ase.Threads") z h.0)
