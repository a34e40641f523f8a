-- The tightest forms are read.
use Rattle.std.proofs.Common.{◌≡◌, ℕ, zero, suc, ◌≤◌, Bool, true, false, List, [], ◌∷◌, ◌++◌, Ok, codes, refl, ap, ◌∙◌, lit≤, lit<, arith}
use Rattle.jt_syntax.specs.Tree.{Tree, Trees, Step}
use Rattle.jt_syntax.specs.Tree as tree
use Rattle.jt_syntax.specs.declared.token.Sign.{Sign}
use Rattle.jt_syntax.specs.declared.token.Sign.TheVariants as sign
use Rattle.jt_syntax.specs.declared.token.Token.{Token}
use Rattle.jt_syntax.specs.declared.token.TokenKind.{TokenKind}
use Rattle.jt_syntax.specs.declared.token.TokenKind.TheVariants as kind
use Rattle.jt_grammar.specs.declared.Level.{Level}
use Rattle.jt_grammar.specs.Grammar.{token, ◌▸◌, Mark, OfInt64, Spells, level}
use Rattle.jt_grammar.specs.Nesting.{Within, AllWithin, Opens}
use Rattle.jt_grammar.specs.Reader.{Parser, ◌>>◌, pure, is, skip, expect, opening, grouped, printed, failing, of_int64, channelled, atomic_made, limit, drawn, primary_by, primary}
use Rattle.jt_grammar.proofs.CompleteParts.{always, opens_some, Any, Takes, Passes, then, last, mark, seen, opened, mark_last, seen_last, at_by, on_yes, on_no, by, anything, somewhere, passed, known, opens, expects, lead_then, lead_mark, lead_at, ok_then}
use Rattle.jt_grammar.proofs.CompleteWords.{word_takes, quoted_takes}
use Rattle.jt_grammar.proofs.CompleteLevels.{AllRead}
use Rattle.jt_grammar.proofs.CompleteCalls.{name_complete, named_call, named_notify, named_element, items_read}
use Rattle.jt_grammar.proofs.Front.{no_close, Stops, not_sign, starts_operand, lead_any, lead_operand, lead_word, lead_letters, lead_number, class_most}

no_int64 : (k : TokenKind) → starts_operand k ≡ true → is sign.Int64 k ≡ false
no_int64 k = not_sign starts_operand sign.Int64 k refl

module _ (n d : ℕ) (expr_in : Level → Parser Tree) (step_in : Parser Step) (below : (k : ℕ) → d ≡ suc k → AllRead n k expr_in step_in) where
  grouped_complete : (e : Tree) → Within d (tree.group e) → Takes n (Spells (tree.group e)) Any (grouped n d expr_in step_in) (tree.group e)
  grouped_complete e o = opened (λ k. Within k e) d _ o (λ k is_d o' at. then _ ((below k is_d).whole_read e o') (lead_mark (lit< tt)) (mark_last _ (λ at rest. refl)))

  printed_complete : (es : Trees) → Within d (tree.println es) → Takes n (Spells (tree.println es)) Any (printed n d expr_in step_in) (tree.println es)
  printed_complete es o = seen _ (λ at. opened (λ k. AllWithin k es) d _ o (λ k is_d ws at. then _ (items_read n d expr_in step_in below k is_d es ws) (lead_mark refl) (mark_last _ (λ at rest. refl))))

  failing_complete : (t : List ℕ) → Opens d → Takes n (Spells (tree.error t)) Any (failing n d expr_in step_in) (tree.error t)
  failing_complete t o = seen _ (λ at. opened (λ k. Unit {0}) d _ o (λ k is_d o' at. then _ (quoted_takes t) anything (mark_last _ (λ at rest. refl))))

  of_int64_at : (d : ℕ) → Opens d → (w rest : List Token) → OfInt64 w → (t : Token) × (of_int64 n d expr_in step_in (w ++ rest) ≡ Ok (t, rest))
  of_int64_at zero o w rest g = absurd o
  of_int64_at (suc k) o w rest g =
      let p = token (kind.Sign sign.OpenCurly) g.3.0 in
      let q = token (kind.Sign sign.Int64) g.4.3.0 in
      let r = token (kind.Sign sign.CloseCurly) g.4.4.0 in
      let shape : w ≡ p ∷ q ∷ r ∷ [] = g.2 ∙ (ap (λ z. z ++ g.1) g.3.1 ∙ ap (λ z. p ∷ z) (g.4.2 ∙ (ap (λ z. z ++ g.4.1) g.4.3.1 ∙ ap (λ z. q ∷ z) g.4.4.1))) in (
        r,
        ap (λ z. of_int64 n (suc k) expr_in step_in (z ++ rest)) shape
            ∙ ok_then (opening (suc k) sign.OpenCurly (p ∷ q ∷ r ∷ rest)) p (q ∷ r ∷ rest) _ _ (opens k sign.OpenCurly g.3.0 (q ∷ r ∷ rest))
            (ok_then (expect sign.Int64 (q ∷ r ∷ rest)) q (r ∷ rest) _ _ (expects sign.Int64 g.4.3.0 (r ∷ rest)) (expects sign.CloseCurly g.4.4.0 rest)),
      )

  of_int64_passes : Opens d → Passes n OfInt64 Any (of_int64 n d expr_in step_in)
  of_int64_passes o = record { passes = λ w rest g h s. of_int64_at d o w rest g }

  unbuffered_complete : Opens d → Takes n (Spells tree.unbuffered) Any (channelled n d expr_in step_in) tree.unbuffered
  unbuffered_complete o = seen _ (λ at. passed _ (of_int64_passes o) anything (λ t. opened (λ k. Unit {0}) d _ o (λ k is_d o' at. on_yes sign.Close _ _ (lead_mark (known sign.Close)) (seen_last _ (λ at rest. refl)))))

  channel_complete : (e : Tree) → Within d (tree.channel e) → Takes n (Spells (tree.channel e)) Any (channelled n d expr_in step_in) (tree.channel e)
  channel_complete e o = seen _ (λ at. passed _ (of_int64_passes (opens_some (λ k. Within k e) d o)) anything (λ t. opened (λ k. Within k e) d _ o (λ k is_d o' at.
      on_no sign.Close _ _ (lead_then (lead_any e (lit≤ tt) no_close)) (then _ ((below k is_d).whole_read e o') (lead_mark (lit< tt)) (mark_last _ (λ at rest. refl))))))

  atomic_complete : (e : Tree) → Within d (tree.atomic e) → Takes n (Spells (tree.atomic e)) Any (atomic_made n d expr_in step_in) (tree.atomic e)
  atomic_complete e o = seen _ (λ at. passed _ (of_int64_passes (opens_some (λ k. Within k e) d o)) anything (λ t. opened (λ k. Within k e) d _ o (λ k is_d o' at.
      then _ ((below k is_d).whole_read e o') (lead_mark (lit< tt)) (mark_last _ (λ at rest. refl)))))

  limit_complete : (s : Sign) (e : Tree) → Opens d → Takes n (Mark s ▸ Mark sign.Open ▸ Mark sign.Int64 ▸ Mark sign.Close) Any (limit n d expr_in step_in e) e
  limit_complete s e o = seen _ (λ at. opened (λ k. Unit {0}) d _ o (λ k is_d o' at. mark _ (λ at. mark_last _ (λ at rest. refl))))

  random_complete : Opens d → Takes n (Spells tree.random) Any (drawn n d expr_in step_in) tree.random
  random_complete o = seen _ (λ at. opened (λ k. Unit {0}) d _ o (λ k is_d o' at. on_yes sign.Int64 _ _ (lead_then (lead_mark (known sign.Int64))) (seen _ (λ at. mark_last _ (λ at rest. refl)))))

  random_in_complete : (a b : Tree) → Within d (tree.random_in a b) → Takes n (Spells (tree.random_in a b)) Any (drawn n d expr_in step_in) (tree.random_in a b)
  random_in_complete a b o = seen _ (λ at. opened (λ k. Within k a × Within k b) d _ o (λ k is_d o' at. on_no sign.Int64 _ _ (lead_then (lead_operand a (lit≤ tt) no_int64))
      (then _ ((below k is_d).sum_read a o'.0) (lead_then (lead_mark (lit< tt))) (mark _ (λ at. then _ ((below k is_d).sum_read b o'.1) (lead_mark (lit< tt)) (mark_last _ (λ at rest. refl)))))))

  truth_primary : (b : Bool) → Takes n (Spells (tree.truth b)) Any (primary n d expr_in step_in) (tree.truth b)
  unfolding primary
  truth_primary true = by (primary_by n d expr_in step_in) (kind.Sign sign.True) (lead_mark refl) (seen_last _ (λ at rest. refl))
  truth_primary false = by (primary_by n d expr_in step_in) (kind.Sign sign.False) (lead_mark refl) (seen_last _ (λ at rest. refl))

  pub primary_complete : (e : Tree) → 11 ≤ level e → Within d e → Takes n (Spells e) (Stops 11) (primary n d expr_in step_in) e
  unfolding primary
  primary_complete (tree.number m) h o = always (by (primary_by n d expr_in step_in) (kind.Number m) (lead_number refl) (somewhere (token (kind.Number m)) (skip >> pure (tree.number m)) (tree.number m) (λ at ts. refl)))
  primary_complete (tree.truth b) h o = always (truth_primary b)
  primary_complete (tree.name i) h o = by (primary_by n d expr_in step_in) (kind.Name i.name) (lead_word refl) (name_complete n d expr_in step_in below i)
  primary_complete (tree.interpolation at i) h o = always (by (primary_by n d expr_in step_in) (kind.Sign sign.Dollar) (lead_then (lead_at refl))
      (at_by skip _ (token (kind.Sign sign.Dollar) at) (λ ts. refl) (last _ (word_takes i) (λ k s. s) (λ rest s. refl))))
  primary_complete (tree.group e) h o = always (by (primary_by n d expr_in step_in) (kind.Sign sign.Open) (lead_then (lead_mark refl)) (grouped_complete e o))
  primary_complete (tree.call i es) h o = always (by (primary_by n d expr_in step_in) (kind.Name i.name) (lead_then (lead_word refl)) (named_call n d expr_in step_in below i es o))
  primary_complete (tree.println es) h o = always (by (primary_by n d expr_in step_in) (kind.Sign sign.Println) (lead_then (lead_mark refl)) (printed_complete es o))
  primary_complete (tree.error t) h o = always (by (primary_by n d expr_in step_in) (kind.Sign sign.Error) (lead_then (lead_mark refl)) (failing_complete t o))
  primary_complete tree.unbuffered h o = always (by (primary_by n d expr_in step_in) (kind.Sign sign.Channel) (lead_then (lead_mark refl)) (unbuffered_complete o))
  primary_complete (tree.channel e) h o = always (by (primary_by n d expr_in step_in) (kind.Sign sign.Channel) (lead_then (lead_mark refl)) (channel_complete e o))
  primary_complete (tree.atomic e) h o = always (by (primary_by n d expr_in step_in) (kind.Sign sign.Atomic) (lead_then (lead_mark refl)) (atomic_complete e o))
  primary_complete tree.least h o = always (by (primary_by n d expr_in step_in) (kind.Sign sign.TypeMin) (lead_then (lead_mark refl)) (limit_complete sign.TypeMin tree.least o))
  primary_complete tree.greatest h o = always (by (primary_by n d expr_in step_in) (kind.Sign sign.TypeMax) (lead_then (lead_mark refl)) (limit_complete sign.TypeMax tree.greatest o))
  primary_complete tree.random h o = always (by (primary_by n d expr_in step_in) (kind.Sign sign.Rand) (lead_then (lead_mark refl)) (random_complete o))
  primary_complete (tree.random_in a b) h o = always (by (primary_by n d expr_in step_in) (kind.Sign sign.Rand) (lead_then (lead_mark refl)) (random_in_complete a b o))
  primary_complete (tree.notify e b) h o = always (by (primary_by n d expr_in step_in) (kind.Name (codes "notify")) (lead_then (lead_letters refl)) (named_notify n d expr_in step_in below e b o))
  primary_complete (tree.read i) h o = always (by (primary_by n d expr_in step_in) (kind.Name i.name) (lead_then (lead_word refl)) (named_element n d expr_in step_in below i o))
  primary_complete (tree.chain c e es) h o = absurd (omega (arith, h, class_most c))
  primary_complete e h o = absurd (omega (arith, h))
