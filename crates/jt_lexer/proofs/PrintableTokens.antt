-- Each token of a text that has a spelling reads as itself where it is spelled.
use Rattle.std.proofs.Common.{◌≡◌, ◌≢◌, ℕ, zero, suc, Bool, true, false, ◌&&◌, ◌||◌, inl, inr, List, [], ◌∷◌, take, drop, refl, sym, ap, subst, ◌∙◌, arith}
use Rattle.std.specs.Prelude.{slice_index, ◌==◌}
use Rattle.std.specs.List.{Contains}
use Rattle.std.proofs.lemmas.Bool.{false≢true, and_from, or_cases, or_left, or_right, ne_eqb}
use Rattle.jt_syntax.specs.declared.token.Token.{Token}
use Rattle.jt_syntax.specs.declared.token.TokenKind.{TokenKind}
use Rattle.jt_syntax.specs.declared.token.TokenKind.TheVariants as kind
use Rattle.jt_lexer.specs.Words.{of_threads, of_base}
use Rattle.jt_lexer.specs.Pieces.{Text, begins_word, continues_word}
use Rattle.jt_lexer.specs.Rules.{IsSpan, in_word, in_whole, BeginsAt, IsName, IsToken}
use Rattle.jt_lexer.specs.Tokens.{IsTokensOf}
use Rattle.jt_lexer.specs.Spelled.{is_first, all_in_word, is_word, IsSpelledName, HasSpelling, IsPrintable, EachKind, kinds}
use Rattle.jt_lexer.proofs.Runs.{less_run}
use Rattle.jt_lexer.proofs.WordRules.{all_pass, listed_passes, listed_at}
use Rattle.jt_lexer.proofs.Lengths.{whole_moves}
use Rattle.jt_lexer.proofs.EachToken.{each_token}

inner_goes : (g m e : Bool) → (g || (m && e)) ≡ true → (g || m) ≡ true
inner_goes true m e h = refl
inner_goes false true e h = refl
inner_goes false false e h = h

-- a run of word places is a word's inside
run_in_word : (z : Text) (n : ℕ) → IsSpan (in_word z) n → all_in_word (take n z) ≡ true
run_in_word z zero r = refl
run_in_word [] (suc n) r = refl
run_in_word (b ∷ z) (suc n) r = and_from _ _ (inner_goes (continues_word b) (b == 33) _ (r.0 0 (omega arith))) (run_in_word z n (less_run (in_word (b ∷ z)) n r))

first_of_word : (b : ℕ) → begins_word b ≡ true → (b == 64) ≡ false → is_first b ≡ true
first_of_word b h k = grind (arith, or_cases, or_left, or_right, h, k)

-- a word with no `@` before it
whole_is_word : (z : Text) (n : ℕ) → begins_word (slice_index z 0) ≡ true → slice_index z 0 ≢ 64 → IsSpan (in_whole z) n → is_word (take n z) ≡ true
whole_is_word [] n h k r = absurd (false≢true h)
whole_is_word (b ∷ z) zero h k r = absurd (false≢true (sym r.1 ∙ whole_moves (b ∷ z) h))
whole_is_word (b ∷ z) (suc n) h k r = and_from _ _ (first_of_word b h (ne_eqb b 64 k)) (run_in_word z n (less_run (in_whole (b ∷ z)) n r))

-- ---- what stands behind a prefix begins as a word does

front_begins : (n : ℕ) (z : Text) → begins_word (slice_index (take n z) 0) ≡ true → begins_word (slice_index z 0) ≡ true
front_begins zero z h = absurd (false≢true h)
front_begins (suc n) [] h = h
front_begins (suc n) (b ∷ z) h = h

listed_begins : (ws : List Text) (z : Text) (n : ℕ) → all_pass (λ w. begins_word (slice_index w 0)) ws ≡ true → Contains ws (take n z) → begins_word (slice_index z 0) ≡ true
listed_begins ws z n h c = front_begins n z (listed_passes (λ w. begins_word (slice_index w 0)) ws (take n z) h (listed_at ws (take n z) c.0 c.1 c.2))

bare_begins : (z : Text) (start : ℕ) → begins_word (slice_index z 0) ≡ true → BeginsAt z start → begins_word (slice_index (drop start z) 0) ≡ true
bare_begins z start h (inl (inl p)) = subst (λ k. begins_word (slice_index (drop k z) 0) ≡ true) (sym p.0) (listed_begins of_threads (drop 13 z) p.1.1 refl p.1.3)
bare_begins z start h (inl (inr (inl p))) = subst (λ k. begins_word (slice_index (drop k z) 0) ≡ true) (sym p.0) (listed_begins of_threads (drop 8 z) p.1.1 refl p.1.3)
bare_begins z start h (inl (inr (inr p))) = subst (λ k. begins_word (slice_index (drop k z) 0) ≡ true) (sym p.0) (listed_begins of_base (drop 5 z) p.1.1 refl p.1.3)
bare_begins z start h (inr p) = subst (λ k. begins_word (slice_index (drop k z) 0) ≡ true) (sym p.0) h

name_is_printable : (z : Text) (w : List ℕ) (n : ℕ) → IsName z w n → IsSpelledName w
name_is_printable z w n h =
    let bare = drop h.0 z in
    let word = whole_is_word bare h.1 (bare_begins z h.0 h.2.0 h.2.2) h.5 h.2.3 in
    (ap is_word h.3 ∙ word, h.4)

-- ---- all tokens

of_token : (z : Text) (k : TokenKind) (n : ℕ) → IsToken z k n → HasSpelling k → IsPrintable k
of_token z (kind.Number v) n h s = h.1
of_token z (kind.Name w) n h s = name_is_printable z w n h
of_token z (kind.Text bs) n h s = tt
of_token z (kind.Sign t) n h s = s

pub tokens_are_printable : (text : Text) (ts : List Token) → IsTokensOf text ts → EachKind (λ k. HasSpelling k → IsPrintable k) (kinds ts)
tokens_are_printable text ts h = each_token (λ k. HasSpelling k → IsPrintable k) (λ z. Unit {0}) (λ z k n t q. of_token z k n t) (λ z o n p q. tt) (λ none. none) text ts tt h
