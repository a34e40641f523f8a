-- What the evaluator's own forms of values and faults stand for.
use Rattle.jt_base.specs.declared.value.Value.{Value}
use Rattle.jt_base.specs.declared.value.Value.TheVariants as value
use Rattle.jt_base.specs.declared.operation.Fault.{Fault}
use Rattle.jt_base.specs.declared.operation.Fault.TheVariants as fault
use Rattle.jt_step.specs.declared.small.Form.{Form}
use Rattle.jt_step.specs.declared.small.Form.TheVariants as form
use Rattle.jt_step.specs.declared.small.Cause.{Cause}
use Rattle.jt_step.specs.declared.small.Cause.TheVariants as cause

abbrev pub value_in : Form → Value
value_in (form.Int n) = value.Int n
value_in (form.Flag b) = value.Flag b
value_in form.Nothing = value.Nothing
value_in (form.Task path) = value.Task path
value_in (form.Object kind name) = value.Object kind name

abbrev pub fault_in : Cause → Fault
fault_in cause.Divide = fault.Divide
fault_in cause.Domain = fault.Domain
fault_in cause.Method = fault.Method
fault_in cause.Undefined = fault.Undefined
fault_in cause.TurnLimit = fault.TurnLimit
fault_in cause.StackLimit = fault.StackLimit
fault_in cause.ForkTooDeep = fault.ForkTooDeep
fault_in (cause.Long f) = f
