-- Frames through which the end of a part goes on outwards.
use Rattle.std.proofs.Common.{◌≡◌, ℕ, List, Option, refl}
use Rattle.jt_base.specs.declared.operation.Fault.{Fault}
use Rattle.jt_base.specs.declared.value.Value.{Value}
use Rattle.jt_program.specs.Plan.{ProgramPlan}
use Rattle.jt_step.specs.declared.frame.Frame.{Frame}
use Rattle.jt_step.specs.declared.frame.Frame.TheVariants as frame
use Rattle.jt_step.specs.declared.frame.Loop.{Loop}
use Rattle.jt_step.specs.declared.frame.Waits.{Waits}
use Rattle.jt_meaning.specs.State.{State, Returned, Broke, Continued, Faulted}
use Rattle.jt_step.specs.Stack.{after}

module _ (program : ProgramPlan) where
  -- a value of the open call, up to the call or an `@sync`
  pub back_passes : (f : Frame) → ((variables : List (Option Value)) (n : ℕ) → f ≡ frame.Call variables n → ⊥) → ((outer : List (List ℕ)) → f ≡ frame.Sync outer → ⊥) → (v : Value) (s : State) → after program f (Returned v s) ≡ Returned v s
  back_passes (frame.Assign x) h y v s = refl
  back_passes (frame.Define k) h y v s = refl
  back_passes (frame.Unary u) h y v s = refl
  back_passes (frame.Operands es) h y v s = refl
  back_passes (frame.Operand b w es) h y v s = refl
  back_passes (frame.Comparisons es) h y v s = refl
  back_passes (frame.Compared c w es) h y v s = refl
  back_passes (frame.Connection c es) h y v s = refl
  back_passes (frame.Choice e arms otherwise) h y v s = refl
  back_passes (frame.Rest es) h y v s = refl
  back_passes (frame.Condition first count c b) h y v s = refl
  back_passes (frame.Low first count high b) h y v s = refl
  back_passes (frame.High first count low b) h y v s = refl
  back_passes (frame.Loop l) h y v s = refl
  back_passes (frame.Arguments f es vs) h y v s = refl
  back_passes (frame.Pieces ps text) h y v s = refl
  back_passes (frame.Call variables n) h y v s = absurd (h variables n refl)
  back_passes (frame.Sync outer) h y v s = absurd (y outer refl)
  back_passes (frame.Waiting w) h y v s = refl
  back_passes frame.Return h y v s = refl

  -- a `break`, up to the loop or an `@sync`
  pub out_passes : (f : Frame) → ((variables : List (Option Value)) (n : ℕ) → f ≡ frame.Call variables n → ⊥) → ((l : Loop) → f ≡ frame.Loop l → ⊥) → ((outer : List (List ℕ)) → f ≡ frame.Sync outer → ⊥) → (s : State) → after program f (Broke s) ≡ Broke s
  out_passes (frame.Assign x) h g y s = refl
  out_passes (frame.Define k) h g y s = refl
  out_passes (frame.Unary u) h g y s = refl
  out_passes (frame.Operands es) h g y s = refl
  out_passes (frame.Operand b w es) h g y s = refl
  out_passes (frame.Comparisons es) h g y s = refl
  out_passes (frame.Compared c w es) h g y s = refl
  out_passes (frame.Connection c es) h g y s = refl
  out_passes (frame.Choice e arms otherwise) h g y s = refl
  out_passes (frame.Rest es) h g y s = refl
  out_passes (frame.Condition first count c b) h g y s = refl
  out_passes (frame.Low first count high b) h g y s = refl
  out_passes (frame.High first count low b) h g y s = refl
  out_passes (frame.Loop l) h g y s = absurd (g l refl)
  out_passes (frame.Arguments f es vs) h g y s = refl
  out_passes (frame.Pieces ps text) h g y s = refl
  out_passes (frame.Call variables n) h g y s = absurd (h variables n refl)
  out_passes (frame.Sync outer) h g y s = absurd (y outer refl)
  out_passes (frame.Waiting w) h g y s = refl
  out_passes frame.Return h g y s = refl

  -- a `continue`, up to the loop or an `@sync`
  pub on_passes : (f : Frame) → ((variables : List (Option Value)) (n : ℕ) → f ≡ frame.Call variables n → ⊥) → ((l : Loop) → f ≡ frame.Loop l → ⊥) → ((outer : List (List ℕ)) → f ≡ frame.Sync outer → ⊥) → (s : State) → after program f (Continued s) ≡ Continued s
  on_passes (frame.Assign x) h g y s = refl
  on_passes (frame.Define k) h g y s = refl
  on_passes (frame.Unary u) h g y s = refl
  on_passes (frame.Operands es) h g y s = refl
  on_passes (frame.Operand b w es) h g y s = refl
  on_passes (frame.Comparisons es) h g y s = refl
  on_passes (frame.Compared c w es) h g y s = refl
  on_passes (frame.Connection c es) h g y s = refl
  on_passes (frame.Choice e arms otherwise) h g y s = refl
  on_passes (frame.Rest es) h g y s = refl
  on_passes (frame.Condition first count c b) h g y s = refl
  on_passes (frame.Low first count high b) h g y s = refl
  on_passes (frame.High first count low b) h g y s = refl
  on_passes (frame.Loop l) h g y s = absurd (g l refl)
  on_passes (frame.Arguments f es vs) h g y s = refl
  on_passes (frame.Pieces ps text) h g y s = refl
  on_passes (frame.Call variables n) h g y s = absurd (h variables n refl)
  on_passes (frame.Sync outer) h g y s = absurd (y outer refl)
  on_passes (frame.Waiting w) h g y s = refl
  on_passes frame.Return h g y s = refl

  -- a fault, up to a wait at the end of an `@sync`
  pub fault_passes : (f : Frame) → ((w : Waits) → f ≡ frame.Waiting w → ⊥) → (fault : Fault) (s : State) → after program f (Faulted fault s) ≡ Faulted fault s
  fault_passes (frame.Assign x) h fault s = refl
  fault_passes (frame.Define k) h fault s = refl
  fault_passes (frame.Unary u) h fault s = refl
  fault_passes (frame.Operands es) h fault s = refl
  fault_passes (frame.Operand b w es) h fault s = refl
  fault_passes (frame.Comparisons es) h fault s = refl
  fault_passes (frame.Compared c w es) h fault s = refl
  fault_passes (frame.Connection c es) h fault s = refl
  fault_passes (frame.Choice e arms otherwise) h fault s = refl
  fault_passes (frame.Rest es) h fault s = refl
  fault_passes (frame.Condition first count c b) h fault s = refl
  fault_passes (frame.Low first count high b) h fault s = refl
  fault_passes (frame.High first count low b) h fault s = refl
  fault_passes (frame.Loop l) h fault s = refl
  fault_passes (frame.Arguments f es vs) h fault s = refl
  fault_passes (frame.Pieces ps text) h fault s = refl
  fault_passes (frame.Call variables n) h fault s = refl
  fault_passes (frame.Sync outer) h fault s = refl
  fault_passes (frame.Waiting w) h fault s = absurd (h w refl)
  fault_passes frame.Return h fault s = refl
