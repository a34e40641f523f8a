-- A reply is taken.
use Rattle.std.proofs.Common.{◌≡◌, ℕ, ◌+◌, ◌<◌, List, [], ◌∷◌, ◌++◌, length, get_or, drop-cons, add-one, refl, sym, ap, ◌∙◌, Bor, Option, true}
use Rattle.jt_base.specs.declared.entry.Note.{Note}
use Rattle.jt_base.specs.Jobs.{note_reply}
use Rattle.jt_base.specs.declared.operation.Fault.{Fault}
use Rattle.jt_base.specs.declared.operation.Op.{Op}
use Rattle.jt_base.specs.declared.operation.Reply.{Reply}
use Rattle.jt_base.specs.declared.operation.Reply.TheVariants as reply
use Rattle.jt_base.specs.declared.value.Value.{Value}
use Rattle.jt_program.specs.declared.code.Code.{Code}
use Rattle.jt_program.specs.Plan.{ProgramPlan}
use Rattle.jt_program.specs.View.{plan_of}
use Rattle.jt_step.specs.declared.frame.Frame.{Frame}
use Rattle.jt_step.specs.declared.frame.Frame.TheVariants as frame
use Rattle.jt_step.specs.declared.evaluator.Evaluator.{Evaluator}
use Rattle.jt_step.specs.declared.mode.Mode.{Mode}
use Rattle.jt_step.specs.declared.mode.Mode.TheVariants as mode
use Rattle.jt_meaning.specs.declared.start.Start.{Start}
use Rattle.jt_meaning.specs.State.{State, Asks, Unfit, Given, given, answered}
use Rattle.jt_meaning.specs.State as state
use Rattle.jt_meaning.specs.Meaning.{ended, whole}
use Rattle.jt_step.specs.Stack.{after, through, resume, state_of, at, doing, waits, taken, given_mode, over_by, begun_by, unused}
use Rattle.jt_step.specs.Agrees.{goes}

module _ (program : ProgramPlan) where
  after_unfit : (f : Frame) → after program f Unfit ≡ Unfit
  after_unfit (frame.Assign x) = refl
  after_unfit (frame.Define k) = refl
  after_unfit (frame.Unary u) = refl
  after_unfit (frame.Operands es) = refl
  after_unfit (frame.Operand b w es) = refl
  after_unfit (frame.Comparisons es) = refl
  after_unfit (frame.Compared c w es) = refl
  after_unfit (frame.Connection c es) = refl
  after_unfit (frame.Choice e arms otherwise) = refl
  after_unfit (frame.Rest es) = refl
  after_unfit (frame.Condition first count c b) = refl
  after_unfit (frame.Low first count high b) = refl
  after_unfit (frame.High first count low b) = refl
  after_unfit (frame.Loop l) = refl
  after_unfit (frame.Arguments f es vs) = refl
  after_unfit (frame.Pieces ps text) = refl
  after_unfit (frame.Call variables n) = refl
  after_unfit (frame.Sync outer) = refl
  after_unfit (frame.Waiting w) = refl
  after_unfit frame.Return = refl

  through_unfit : (fs : List Frame) → through program fs Unfit ≡ Unfit
  through_unfit [] = refl
  through_unfit (f ∷ fs) = ap (after program f) (through_unfit fs) ∙ after_unfit f

  after_asks : (f : Frame) (o : Op) (start : Option Start) (s : State) → after program f (Asks o start s) ≡ Asks o start s
  after_asks (frame.Assign x) o start s = refl
  after_asks (frame.Define k) o start s = refl
  after_asks (frame.Unary u) o start s = refl
  after_asks (frame.Operands es) o start s = refl
  after_asks (frame.Operand b w es) o start s = refl
  after_asks (frame.Comparisons es) o start s = refl
  after_asks (frame.Compared c w es) o start s = refl
  after_asks (frame.Connection c es) o start s = refl
  after_asks (frame.Choice e arms otherwise) o start s = refl
  after_asks (frame.Rest es) o start s = refl
  after_asks (frame.Condition first count c b) o start s = refl
  after_asks (frame.Low first count high b) o start s = refl
  after_asks (frame.High first count low b) o start s = refl
  after_asks (frame.Loop l) o start s = refl
  after_asks (frame.Arguments f es vs) o start s = refl
  after_asks (frame.Pieces ps text) o start s = refl
  after_asks (frame.Call variables n) o start s = refl
  after_asks (frame.Sync outer) o start s = refl
  after_asks (frame.Waiting w) o start s = refl
  after_asks frame.Return o start s = refl

  -- an operation waits, whatever the frames are
  pub through_asks : (fs : List Frame) (o : Op) (start : Option Start) (s : State) → through program fs (Asks o start s) ≡ Asks o start s
  through_asks [] o start s = refl
  through_asks (f ∷ fs) o start s = ap (after program f) (through_asks fs o start s) ∙ after_asks f o start s

  given_at : (m : Evaluator) (g : Given) (rs : List Reply) → doing program m.frames.items (given_mode g) (state_of m rs) ≡ resume program m.frames.items (answered g (state_of m rs))
  given_at m (state.value v) rs = refl
  given_at m (state.fault f) rs = refl
  given_at m state.unfit rs = sym (ap ended (through_unfit m.frames.items))

  begun_at : (m : Evaluator) (e : Bor Code) (r : Reply) (rs : List Reply) → at program m (begun_by e r) rs ≡ at program m (mode.Begins e) (r ∷ rs)
  begun_at m e reply.Ok rs = ap (resume program m.frames.items) (sym (goes program (whole (plan_of e.now)) (state_of m rs)))
  begun_at m e (reply.Int i) rs = refl
  begun_at m e (reply.Flag b) rs = refl
  begun_at m e (reply.Val v) rs = refl
  begun_at m e reply.Failed rs = refl
  begun_at m e reply.Closed rs = refl
  begun_at m e reply.NoItem rs = refl
  begun_at m e reply.NotLocked rs = refl
  begun_at m e reply.NotOwner rs = refl
  begun_at m e reply.NotHeld rs = refl

  ending_at : (m : Evaluator) (v : Value) (r : Reply) (rs : List Reply) → at program m (over_by r) rs ≡ at program m (mode.Ending v) (r ∷ rs)
  ending_at m w reply.Ok rs = refl
  ending_at m w (reply.Int i) rs = refl
  ending_at m w (reply.Flag b) rs = refl
  ending_at m w (reply.Val v) rs = refl
  ending_at m w reply.Failed rs = refl
  ending_at m w reply.Closed rs = refl
  ending_at m w reply.NoItem rs = refl
  ending_at m w reply.NotLocked rs = refl
  ending_at m w reply.NotOwner rs = refl
  ending_at m w reply.NotHeld rs = refl

  failing_at : (m : Evaluator) (f : Fault) (r : Reply) (rs : List Reply) → at program m (over_by r) rs ≡ at program m (mode.Failing f) (r ∷ rs)
  failing_at m f reply.Ok rs = refl
  failing_at m f (reply.Int i) rs = refl
  failing_at m f (reply.Flag b) rs = refl
  failing_at m f (reply.Val v) rs = refl
  failing_at m f reply.Failed rs = refl
  failing_at m f reply.Closed rs = refl
  failing_at m f reply.NoItem rs = refl
  failing_at m f reply.NotLocked rs = refl
  failing_at m f reply.NotOwner rs = refl
  failing_at m f reply.NotHeld rs = refl

  -- the evaluator does after a reply what it does before it
  pub taken_at : (m : Evaluator) (md : Mode) (r : Reply) (rs : List Reply) → waits md ≡ true → at program m (taken md r) rs ≡ at program m md (r ∷ rs)
  taken_at m (mode.Begins e) r rs h = begun_at m e r rs
  taken_at m (mode.Waits o start) r rs h = given_at m (given o r) rs
  taken_at m (mode.Ending v) r rs h = ending_at m v r rs
  taken_at m (mode.Failing f) r rs h = failing_at m f r rs
  taken_at m (mode.Eval e) r rs h = cc
  taken_at m (mode.Gave v) r rs h = cc
  taken_at m (mode.Returned v) r rs h = cc
  taken_at m mode.Broke r rs h = cc
  taken_at m mode.Continued r rs h = cc
  taken_at m (mode.Faulted x) r rs h = cc
  taken_at m (mode.Enter f vs) r rs h = cc
  taken_at m (mode.Again l) r rs h = cc
  taken_at m mode.Over r rs h = cc
  taken_at m mode.Unfit r rs h = cc

unused_next : (log : List Note) (used : ℕ) (n : Note) → used < length log → unused log used ≡ note_reply (get_or log used n) ∷ unused log (used + 1)
unused_next log used n h = rw (add-one, drop-cons log used n)

module _ (program : ProgramPlan) where
  pub reply_step : (m : Evaluator) (md md' : Mode) (log : List Note) (used : ℕ) (n : Note) (rs : List Reply) → used < length log → true ≡ waits md → md' ≡ taken md (get_or log used n).reply → at program m md' (unused log (used + 1) ++ rs) ≡ at program m md (unused log used ++ rs)
  reply_step m md md' log used n rs h w e =
      ap (λ d. at program m d (unused log (used + 1) ++ rs)) e
      ∙ taken_at program m md (get_or log used n).reply (unused log (used + 1) ++ rs) (sym w)
      ∙ ap (λ xs. at program m md (xs ++ rs)) (sym (unused_next log used n h))
