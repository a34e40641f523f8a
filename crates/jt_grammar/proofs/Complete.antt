-- What is in the grammar is read.
use Rattle.std.proofs.Common.{◌≡◌, ℕ, zero, suc, ◌<◌, inl, inr, List, [], ◌∷◌, ◌++◌, length, Ok, refl, subst, arith}
use Rattle.jt_syntax.specs.Tree.{TopTree}
use Rattle.jt_syntax.specs.declared.token.Token.{Token}
use Rattle.jt_grammar.specs.Grammar.{Gap, SomeGap, TopSpells, TopsTail, TopsBody, ScriptSpells}
use Rattle.jt_grammar.specs.Nesting.{FormWithin, TopsWithin}
use Rattle.jt_grammar.specs.Reader.{body_of, read, read_step, read_top, script}
use Rattle.jt_grammar.proofs.CompleteParts.{Any, Takes, then, mark_last, lead_mark}
use Rattle.jt_grammar.proofs.CompleteLevels.{AllRead}
use Rattle.jt_grammar.proofs.CompleteLists.{Ends, Gapped, body_complete}
use Rattle.jt_grammar.proofs.CompleteExpressions.{operand_complete, sum_complete, condition_complete}
use Rattle.jt_grammar.proofs.CompleteBlocks.{range_loop_complete}
use Rattle.jt_grammar.proofs.CompleteMacros.{whole_complete}
use Rattle.jt_grammar.proofs.CompleteSteps.{stepped_complete}
use Rattle.jt_grammar.proofs.CompleteTops.{top_first, top_complete}
use Rattle.jt_grammar.proofs.Front.{Closes}

-- ---- every level, by recursion on the openers that are left

read_from : (n d : ℕ) → ((k : ℕ) → d ≡ suc k → AllRead n k (read n d) (read_step n d)) → AllRead n d (read n (suc d)) (read_step n (suc d))
unfolding read read_step
read_from n d below = record {
  operand_read = operand_complete n d (read n d) (read_step n d) below;
  sum_read = sum_complete n d (read n d) (read_step n d) below;
  condition_read = condition_complete n d (read n d) (read_step n d) below;
  whole_read = whole_complete n d (read n d) (read_step n d) below;
  loop_read = range_loop_complete n d (read n d) (read_step n d) below;
  step_read = stepped_complete n d (read n d) (read_step n d) below;
}

pub read_complete : (n d k : ℕ) → d ≡ suc k → AllRead n k (read n d) (read_step n d)
read_complete n zero k e = absurd (omega (arith, e))
read_complete n (suc d) k e = let same : d ≡ k = omega (arith, e) in subst (λ j. AllRead n j (read n (suc d)) (read_step n (suc d))) same (read_from n d (read_complete n d))

-- ---- scripts

read_top_complete : (n d : ℕ) (x : TopTree) → FormWithin d x.1 → Takes n (TopSpells x) Closes (read_top n d) x
unfolding read_top
read_top_complete n d x o = top_complete n d (read n d) (read_step n d) (read_complete n d) x o

tail_view : (xs : List TopTree) (w : List Token) → TopsTail xs w → Gapped SomeGap TopSpells TopsTail [] (λ (x : TopTree) xs. x ∷ xs) xs w
tail_view [] w g = inl (refl, g)
tail_view (x ∷ xs) w g = inr (x, xs, refl, g)

body_view : (xs : List TopTree) (w : List Token) → TopsBody xs w → Gapped Gap TopSpells TopsTail [] (λ (x : TopTree) xs. x ∷ xs) xs w
body_view [] w g = inl (refl, g)
body_view (x ∷ xs) w g = inr (x, xs, refl, g)

tops_complete : (n d : ℕ) (tops : List TopTree) → TopsWithin d tops → Takes n (TopsBody tops) Ends (body_of n (read_top n d) [] (λ x xs. x ∷ xs)) tops
tops_complete n d tops ws = body_complete TopSpells TopsTail TopsBody (λ x. FormWithin d x.1) (TopsWithin d) [] (λ x xs. x ∷ xs) tail_view body_view (λ x xs a. a) n (read_top n d) (top_first n d (read n d) (read_step n d) (read_complete n d)) (read_top_complete n d) tops ws

script_takes : (n d : ℕ) (tops : List TopTree) → TopsWithin d tops → Takes n (ScriptSpells tops) Any (script n d) tops
unfolding script
script_takes n d tops ws = then _ (tops_complete n d tops ws) (lead_mark refl) (mark_last _ (λ at rest. refl))

pub script_complete : (n d : ℕ) (tops : List TopTree) (w rest : List Token) → ScriptSpells tops w → TopsWithin d tops → length w < n → script n d (w ++ rest) ≡ Ok (tops, rest)
script_complete n d tops w rest g ws h = (script_takes n d tops ws).takes w rest g h tt
