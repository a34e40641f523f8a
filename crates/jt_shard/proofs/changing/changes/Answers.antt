-- The operations that are named keep the refusals.
use Rattle.std.proofs.Common.{◌≡◌, ◌⊎◌, inl, inr, ℕ, List, false, sym, ap, ◌∙◌}
use Rattle.std.specs.Prelude.{not}
use Rattle.std.proofs.lemmas.Bool.{false≢true}
use Rattle.jt_base.specs.declared.name.Name.{Name}
use Rattle.jt_base.specs.declared.operation.Op.{Op}
use Rattle.jt_base.specs.declared.operation.Op.TheVariants.{Fetch, Wait, Yield, Print, Landed, IsOpen, IsReady, AGet}
use Rattle.jt_shard.specs.Changing.{changes}
use Rattle.jt_shard.proofs.Refusals.{keeps_refusals}
use Rattle.jt_shard.proofs.changing.changes.Goals as goal
use Rattle.jt_shard.proofs.changing.changes.Goals.{in_default, in-Fetch, in-Fetch-2, in-Fetch-3, in-Fetch-4, in-Fetch-5, in-Fetch-6, in-Fetch-7, in-Fetch-8}

named : (op : Op) → ((p : List ℕ) × (op ≡ Fetch p)) ⊎ (((p : List ℕ) × (op ≡ Wait p)) ⊎ ((op ≡ Yield) ⊎ (((t : List ℕ) × (op ≡ Print t)) ⊎ (((n : Name) × (k : ℕ) × (op ≡ Landed n k)) ⊎ (((n : Name) × (op ≡ IsOpen n)) ⊎ (((n : Name) × (op ≡ IsReady n)) ⊎ ((n : Name) × (op ≡ AGet n)))))))) → changes op ≡ false
named op (inl p) = ap changes p.1
named op (inr (inl p)) = ap changes p.1
named op (inr (inr (inl p))) = ap changes p
named op (inr (inr (inr (inl p)))) = ap changes p.1
named op (inr (inr (inr (inr (inl p))))) = ap changes p.2
named op (inr (inr (inr (inr (inr (inl p)))))) = ap changes p.1
named op (inr (inr (inr (inr (inr (inr (inl p))))))) = ap changes p.1
named op (inr (inr (inr (inr (inr (inr (inr p))))))) = ap changes p.1

pub returns-clause-refusals : goal.returns-clause-refusals
returns-clause-refusals c = λ n. keeps_refusals c.args.op.now (elim c.match-matches.branch [
  | in_default w ↦ absurd (false≢true (sym n ∙ ap not w.matches-is))
  | in-Fetch w ↦ named c.args.op.now w.in-Fetch.is
  | in-Fetch-2 w ↦ named c.args.op.now w.in-Fetch.is
  | in-Fetch-3 w ↦ named c.args.op.now w.in-Fetch.is
  | in-Fetch-4 w ↦ named c.args.op.now w.in-Fetch.is
  | in-Fetch-5 w ↦ named c.args.op.now w.in-Fetch.is
  | in-Fetch-6 w ↦ named c.args.op.now w.in-Fetch.is
  | in-Fetch-7 w ↦ named c.args.op.now w.in-Fetch.is
  | in-Fetch-8 w ↦ named c.args.op.now w.in-Fetch.is
])
