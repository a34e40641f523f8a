-- Words, letters and strings are read.
use Rattle.std.proofs.Common.{◌≡◌, ℕ, Bool, true, false, List, ◌++◌, refl, ap, ◌∙◌}
use Rattle.std.specs.Str.{bytes_eq}
use Rattle.std.proofs.lemmas.Slice.Eq.{bytes_eq-Decides}
use Rattle.jt_syntax.specs.declared.script.Identifier.{Identifier}
use Rattle.jt_syntax.specs.declared.token.Sign.TheVariants as sign
use Rattle.jt_syntax.specs.declared.token.TokenKind.TheVariants as kind
use Rattle.jt_grammar.specs.Grammar.{token, Word, Letters, Quoted, Truth}
use Rattle.jt_grammar.specs.Reader.{same_sign, is, word, letters, quoted, truth}
use Rattle.jt_grammar.proofs.CompleteParts.{Any, Gives, Takes, Passes, single, somewhere, on_yes, on_no, lead_mark, seen_last, mark_last, known}

pub same_bytes : (w : List ℕ) → bytes_eq w w ≡ true
same_bytes w = (bytes_eq-Decides w w).1 refl

pub word_gives : (i : Identifier) → Gives word (token (kind.Name i.name) i.at) i
unfolding word
word_gives i ts = refl

pub word_takes : {n : ℕ} (i : Identifier) → Takes n (Word i) Any word i
word_takes i = single (token (kind.Name i.name) i.at) word i (word_gives i)

pub letters_give : (w : List ℕ) (at : ℕ) → Gives (letters w) (token (kind.Name w) at) (token (kind.Name w) at)
unfolding letters
letters_give w at ts = rw (same_bytes w) refl

pub quoted_takes : {n : ℕ} (t : List ℕ) → Takes n (Quoted t) Any quoted t
unfolding quoted
quoted_takes t = somewhere (token (kind.Text t)) quoted t (λ at ts. refl)

true-false : is sign.True (kind.Sign sign.False) ≡ false
unfolding same_sign
true-false = refl

pub truth_takes : {n : ℕ} (b : Bool) → Takes n (Truth b) Any truth b
unfolding truth
truth_takes true = on_yes sign.True _ _ (lead_mark (known sign.True)) (seen_last _ (λ at rest. refl))
truth_takes false = on_no sign.True _ _ (lead_mark true-false) (mark_last _ (λ at rest. refl))

pub letters_pass : {n : ℕ} (w : List ℕ) → Passes n (Letters w) Any (letters w)
letters_pass w = record { passes = λ u rest g h s. (token (kind.Name w) g.0, ap (λ z. letters w (z ++ rest)) g.1 ∙ letters_give w g.0 rest) }
