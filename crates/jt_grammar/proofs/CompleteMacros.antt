-- Macros are read, and so is any expression.
use Rattle.std.proofs.Common.{◌≡◌, ℕ, suc, ◌≤◌, true, false, true≢false, List, ◌∷◌, Option, Some, None, refl, sym, lit≤, arith}
use Rattle.jt_syntax.specs.Tree.{Tree, Step, Steps}
use Rattle.jt_syntax.specs.Tree as tree
use Rattle.jt_syntax.specs.declared.script.Identifier.{Identifier}
use Rattle.jt_syntax.specs.declared.script.PoolName.{PoolName}
use Rattle.jt_syntax.specs.declared.script.PoolName.TheVariants as pools
use Rattle.jt_syntax.specs.declared.script.Schedule.{Schedule}
use Rattle.jt_syntax.specs.declared.script.Schedule.TheVariants as schedules
use Rattle.jt_syntax.specs.declared.token.Sign.TheVariants as sign
use Rattle.jt_syntax.specs.declared.token.Token.{Token}
use Rattle.jt_syntax.specs.declared.token.TokenKind.{TokenKind}
use Rattle.jt_syntax.specs.declared.token.TokenKind.TheVariants as kind
use Rattle.jt_grammar.specs.declared.Level.{Level}
use Rattle.jt_grammar.specs.Grammar.{token, PoolWord, ScheduleWord, pool_word, schedule_word, Held, Spells, level}
use Rattle.jt_grammar.specs.Nesting.{Within}
use Rattle.jt_grammar.specs.Reader.{Parser, ◌>>◌, pure, same_sign, is, skip, pool_named, pool_by, pool, schedule_named, schedule_by, schedule, spawned, async_spawned, awaited, threaded, condition, whole_by, whole}
use Rattle.jt_grammar.proofs.CompleteParts.{always, Kinds, Any, Takes, then, last, seen, opened, opened_at, on_yes, by, by_same, nothing, narrower, somewhere, respell, known, lead_then, lead_mark, lead_at}
use Rattle.jt_grammar.proofs.CompleteChains.{IsComplete}
use Rattle.jt_grammar.proofs.CompleteLevels.{AllRead}
use Rattle.jt_grammar.proofs.CompleteExpressions.{held, condition_complete}
use Rattle.jt_grammar.proofs.CompleteBlocks.{blocked_complete, branched_complete, repeated_complete, for_range_complete, for_each_complete}
use Rattle.jt_grammar.proofs.Front.{Stops, stops_looser, starts, starts_operand, not_sign, lead_any, lead_operand, lead_letters, class_least}

no_colon : (k : TokenKind) → starts k ≡ true → is sign.Colon k ≡ false
no_colon k = not_sign starts sign.Colon k refl

for-colon : is sign.Colon (kind.Sign sign.For) ≡ false
unfolding same_sign
for-colon = refl

module _ (n d : ℕ) (expr_in : Level → Parser Tree) (step_in : Parser Step) (below : (k : ℕ) → d ≡ suc k → AllRead n k expr_in step_in) where
  -- where no colon is behind no word
  abbrev NoColon : Kinds
  NoColon k = is sign.Colon k ≡ false

  pool_known : (p : PoolName) (ts : List Token) → pool_named n d expr_in step_in (pool_word p) ts ≡ (skip >> pure (Some p)) ts
  pool_known pools.Default ts = refl
  pool_known pools.Interactive ts = refl

  pool_complete : (p : Option PoolName) → Takes n (PoolWord p) NoColon (pool n d expr_in step_in) p
  unfolding pool
  pool_complete None = nothing _ None (λ rest s. rw s refl)
  pool_complete (Some p) = on_yes sign.Colon _ _ (lead_then (lead_mark (known sign.Colon))) (seen _ (λ at.
      by (pool_by n d expr_in step_in) (kind.Name (pool_word p)) (lead_letters refl) (always (somewhere (token (kind.Name (pool_word p))) _ (Some p) (λ at ts. pool_known p (token (kind.Name (pool_word p)) at ∷ ts))))))

  schedule_known : (p : Schedule) (ts : List Token) → schedule_named n d expr_in step_in (schedule_word p) ts ≡ (skip >> pure (Some p)) ts
  schedule_known schedules.Static ts = refl
  schedule_known schedules.Dynamic ts = refl

  schedule_complete : (p : Option Schedule) → Takes n (ScheduleWord p) NoColon (schedule n d expr_in step_in) p
  unfolding schedule
  schedule_complete None = nothing _ None (λ rest s. rw s refl)
  schedule_complete (Some p) = on_yes sign.Colon _ _ (lead_then (lead_mark (known sign.Colon))) (seen _ (λ at.
      by (schedule_by n d expr_in step_in) (kind.Name (schedule_word p)) (lead_letters refl) (always (somewhere (token (kind.Name (schedule_word p))) _ (Some p) (λ at ts. schedule_known p (token (kind.Name (schedule_word p)) at ∷ ts))))))

  spawned_complete : (at : ℕ) (p : Option PoolName) (e : Tree) → Within d (tree.spawn at p e) → Takes n (Spells (tree.spawn at p e)) (Stops 1) (spawned n d expr_in step_in) (tree.spawn at p e)
  spawned_complete at p e o = opened_at (λ k. Within k e) d _ o (λ k is_d o'. then _ (pool_complete p) (lead_any e (lit≤ tt) no_colon) (last _ ((below k is_d).whole_read e o') (λ k s. s) (λ rest s. refl)))

  async_complete : (at : ℕ) (e : Tree) → Within d (tree.async at e) → Takes n (Spells (tree.async at e)) (Stops 1) (async_spawned n d expr_in step_in) (tree.async at e)
  async_complete at e o = opened_at (λ k. Within k e) d _ o (λ k is_d o'. last _ ((below k is_d).whole_read e o') (λ k s. s) (λ rest s. refl))

  awaited_complete : (e : Tree) → Within d (tree.sync e) → Takes n (Spells (tree.sync e)) (Stops 1) (awaited n d expr_in step_in) (tree.sync e)
  awaited_complete e o = opened (λ k. Within k e) d _ o (λ k is_d o' at. last _ ((below k is_d).whole_read e o') (λ k s. s) (λ rest s. refl))

  threaded_complete : (at : ℕ) (s : Option Schedule) (i : Identifier) (a b : Tree) (ss : Steps) → Within d (tree.threads at s i a b ss) → Takes n (Spells (tree.threads at s i a b ss)) Any (threaded n d expr_in step_in) (tree.threads at s i a b ss)
  threaded_complete at s i a b ss o = opened_at (λ j. Within j (tree.for_range i a b ss)) d _ o (λ k is_d o'. then _ (schedule_complete s) (lead_then (lead_mark for-colon)) (last _ ((below k is_d).loop_read i a b ss o') (λ k s. s) (λ rest s. refl)))

  -- ---- any expression

  operand-condition : (k : TokenKind) → starts_operand k ≡ true → whole_by n d expr_in step_in k ≡ condition n d expr_in step_in
  operand-condition (kind.Sign sign.Begin) s = absurd (true≢false (sym s))
  operand-condition (kind.Sign sign.If) s = absurd (true≢false (sym s))
  operand-condition (kind.Sign sign.While) s = absurd (true≢false (sym s))
  operand-condition (kind.Sign sign.For) s = absurd (true≢false (sym s))
  operand-condition (kind.Sign sign.Spawn) s = absurd (true≢false (sym s))
  operand-condition (kind.Sign sign.Async) s = absurd (true≢false (sym s))
  operand-condition (kind.Sign sign.Sync) s = absurd (true≢false (sym s))
  operand-condition (kind.Sign sign.Threads) s = absurd (true≢false (sym s))
  operand-condition (kind.Sign _) s = refl
  operand-condition (kind.Number _) s = refl
  operand-condition (kind.Name _) s = refl
  operand-condition (kind.Text _) s = refl

  whole_condition : (e : Tree) → 2 ≤ level e → Within d e → Takes n (Spells e) (Stops 1) (whole n d expr_in step_in) e
  unfolding whole
  whole_condition e h o = respell (Held 2 e (Spells e)) (λ w g. (h, g)) (by_same (whole_by n d expr_in step_in) (condition n d expr_in step_in) (lead_operand e (lit≤ tt) operand-condition)
      (narrower (stops_looser 1 2 (lit≤ tt)) (condition_complete n d expr_in step_in below e o)))

  whole_form : (e : Tree) → 1 ≤ level e → Within d e → Takes n (Spells e) (Stops 1) (whole n d expr_in step_in) e
  unfolding whole
  whole_form (tree.text t) h o = absurd (omega (arith, h))
  whole_form (tree.block ss) h o = always (by (whole_by n d expr_in step_in) (kind.Sign sign.Begin) (lead_then (lead_mark refl)) (blocked_complete n d expr_in step_in below ss o))
  whole_form (tree.branches c ss xs) h o = always (by (whole_by n d expr_in step_in) (kind.Sign sign.If) (lead_then (lead_mark refl)) (branched_complete n d expr_in step_in below c ss xs o))
  whole_form (tree.while c ss) h o = always (by (whole_by n d expr_in step_in) (kind.Sign sign.While) (lead_then (lead_mark refl)) (repeated_complete n d expr_in step_in below c ss o))
  whole_form (tree.for_range i a b ss) h o = always (by (whole_by n d expr_in step_in) (kind.Sign sign.For) (lead_then (lead_mark refl)) (for_range_complete n d expr_in step_in below i a b ss o))
  whole_form (tree.for_each i e ss) h o = always (by (whole_by n d expr_in step_in) (kind.Sign sign.For) (lead_then (lead_mark refl)) (for_each_complete n d expr_in step_in below i e ss o))
  whole_form (tree.spawn at p e) h o = by (whole_by n d expr_in step_in) (kind.Sign sign.Spawn) (lead_then (lead_at refl)) (spawned_complete at p e o)
  whole_form (tree.async at e) h o = by (whole_by n d expr_in step_in) (kind.Sign sign.Async) (lead_then (lead_at refl)) (async_complete at e o)
  whole_form (tree.sync e) h o = by (whole_by n d expr_in step_in) (kind.Sign sign.Sync) (lead_then (lead_mark refl)) (awaited_complete e o)
  whole_form (tree.threads at s i a b ss) h o = always (by (whole_by n d expr_in step_in) (kind.Sign sign.Threads) (lead_then (lead_at refl)) (threaded_complete at s i a b ss o))
  whole_form (tree.chain c e es) h o = whole_condition (tree.chain c e es) (omega (arith, class_least c)) o
  whole_form e h o = whole_condition e (omega arith) o

  pub whole_complete : IsComplete 1 d n (whole n d expr_in step_in)
  whole_complete = held whole_form
