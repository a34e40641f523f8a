-- A task may go from one thread to another, as each of its parts may. The search of a caller finds this of
-- types without a lifetime by itself, but not of these.
use mathlib.Core.List.{[], ◌∷◌}
use denote.Ref.{NamedLft}
use denote.Struct.Tuple.{Tuple}
use denote.RattleType.{RattleType}
use denote.Hole.{as_row}
use denote.Builtin.{One}
use denote.Struct.Field.{shr_ref_field, shr_slice_field, usize-field}
use denote.Param.Send.{IsSend, IsSync, sendable, shr_send, shr_slice_send, view_send}
use denote.Param.SendFields.{declared_send, declared_sync, variants_send, as_row_send}
use Rattle.std.proofs.Crossing.{Box-send, Box-sync, Vec-send, send}
use Rattle.std.proofs.option.Option.TheSendSync as option
use Rattle.sqlite_items.proofs.boxed.Boxed.TheSendSync as boxed
use Rattle.sqlite_items.proofs.items.Items.TheSendSync as items
use Rattle.jt_syntax.proofs.operator.ArithmeticOperator.TheSendSync as arithmetic
use Rattle.jt_syntax.proofs.operator.ComparisonOperator.TheSendSync as comparison
use Rattle.jt_syntax.proofs.operator.Connective.TheSendSync as connective
use Rattle.jt_syntax.proofs.operator.UnaryOperator.TheSendSync as unary
use Rattle.jt_base.proofs.entry.Note.TheSendSync as note
use Rattle.jt_base.proofs.operation.Op.TheSendSync as op
use Rattle.jt_base.proofs.path.Path.TheSendSync as path
use Rattle.jt_base.proofs.run.Limits.TheSendSync as limits
use Rattle.jt_base.proofs.run.Pool.TheSendSync as pool
use Rattle.jt_base.proofs.run.Sizes.TheSendSync as sizes
use Rattle.jt_program.proofs.code.Callee.TheSendSync as callee
use Rattle.jt_program.proofs.code.Code.TheLaws.TheKnot as code
use Rattle.jt_program.specs.contracts.program.Program as program
use Rattle.jt_program.specs.contracts.program.Body as body
use Rattle.jt_syntax.specs.contracts.operator.ArithmeticOperator.{the_row as arithmetic_row}
use Rattle.jt_syntax.specs.contracts.operator.ComparisonOperator.{the_row as comparison_row}
use Rattle.jt_program.specs.contracts.code.Code.{the_row as code_row}
use Rattle.jt_program.specs.contracts.code.Arm.{the_row as arm_row}
use Rattle.jt_program.specs.contracts.code.Piece.{the_row as piece_row}
use Rattle.jt_step.proofs.frame.Waits.TheSendSync as waits
use Rattle.jt_step.proofs.line.Line.TheSendSync as line
use Rattle.jt_step.proofs.small.SmallValue.TheSendSync as value
use Rattle.jt_step.proofs.small.SmallFault.TheSendSync as fault
use Rattle.jt_meaning.proofs.start.Start.TheSendSync as start
use Rattle.jt_step.specs.contracts.frame.Loop as loop
use Rattle.jt_step.specs.contracts.frame.Frame as frame
use Rattle.jt_step.specs.contracts.mode.Mode as mode
use Rattle.jt_step.specs.contracts.evaluator.Evaluator as evaluator
use Rattle.jt_step.specs.contracts.task.TaskState as state
use Rattle.jt_step.specs.contracts.task.TaskRun as run
use Rattle.jt_step.specs.contracts.task.TaskRun.TheInside as inside

ref_send : (a : NamedLft) (R : RattleType) (o : One R.mir) → IsSync R → IsSend (as_row (shr_ref_field a R o))
ref_send a R o s = as_row_send (shr_ref_field a R o) (shr_send _ _ R s)

slice_send : (a : NamedLft) (R : RattleType) (o : One R.mir) → IsSync R → IsSend (as_row (shr_slice_field a R o))
slice_send a R o s = as_row_send (shr_slice_field a R o) (shr_slice_send _ _ R s)

size_send : IsSend (as_row usize-field)
size_send = search sendable

code_sync : IsSync code_row
code_sync = search (code.sync-Code, arithmetic.the_sync, comparison.the_sync, boxed.the_sync, items.the_sync, Box-sync, sendable) depth 20

arm_sync : IsSync arm_row
arm_sync = search (code.sync-Arm, arithmetic.the_sync, comparison.the_sync, boxed.the_sync, items.the_sync, Box-sync, sendable) depth 20

piece_sync : IsSync piece_row
piece_sync = search (code.sync-Piece, arithmetic.the_sync, comparison.the_sync, boxed.the_sync, items.the_sync, sendable) depth 20

body_sync : IsSync body.the_row
body_sync = declared_sync body.the_type (search sendable, (code_sync, tt))

operand_sync : IsSync (Tuple (arithmetic_row ∷ code_row ∷ []))
operand_sync = search (arithmetic.the_sync, code_sync, sendable) depth 20

comparison_sync : IsSync (Tuple (comparison_row ∷ code_row ∷ []))
comparison_sync = search (comparison.the_sync, code_sync, sendable) depth 20

program_sync : IsSync program.the_row
program_sync = declared_sync program.the_type (search sendable, (search (items.the_sync, body_sync, sendable) depth 20, (search (items.the_sync, body_sync, sendable) depth 20, tt)))

loop_send : (a : NamedLft) → IsSend (loop.the_row a)
loop_send a =
    let c = ref_send a code_row tt code_sync in
    let u = size_send in
    variants_send (loop.enum a) ((u, (u, (c, (c, tt)))), ((u, (u, (c, (search sendable, (search sendable, tt))))), tt))

mode_send : (a : NamedLft) → IsSend (mode.the_row a)
mode_send a =
    let c = ref_send a code_row tt code_sync in
    let v = value.the_send in
    let f = fault.the_send in
    variants_send (mode.enum a) (
      (c, tt),
      (
        (c, tt),
        (
          (v, tt),
          (
            (v, tt),
            (
              tt,
              (
                tt,
                (
                  (f, tt),
                  (
                    (size_send, (search (items.the_send, sendable) depth 20, tt)),
                    (
                      (loop_send a, tt),
                      (
                        (search (boxed.the_send, op.the_send, sendable) depth 20, (search (option.the_send, boxed.the_send, start.the_send, sendable) depth 20, tt)),
                        ((v, tt), ((f, tt), (tt, (tt, tt)))),
                      ),
                    ),
                  ),
                ),
              ),
            ),
          ),
        ),
      ),
    )

frame_send : (a : NamedLft) → IsSend (frame.the_row a)
frame_send a =
    let c = ref_send a code_row tt code_sync in
    let cs = slice_send a code_row tt code_sync in
    let v = value.the_send in
    let u = size_send in
    let operands = slice_send a _ tt operand_sync in
    let comparisons = slice_send a _ tt comparison_sync in
    variants_send (frame.enum a) (
      (u, tt),
      (
        (u, tt),
        (
          (unary.the_send, tt),
          (
            (operands, tt),
            (
              (arithmetic.the_send, (v, (operands, tt))),
              (
                (comparisons, tt),
                (
                  (comparison.the_send, (v, (comparisons, tt))),
                  (
                    (connective.the_send, (cs, tt)),
                    (
                      (c, (slice_send a arm_row tt arm_sync, (c, tt))),
                      (
                        (cs, tt),
                        (
                          (u, (u, (c, (c, tt)))),
                          (
                            (u, (u, (c, (c, tt)))),
                            (
                              (u, (u, (v, (c, tt)))),
                              (
                                (loop_send a, tt),
                                (
                                  (callee.the_send, (cs, (search (items.the_send, sendable) depth 20, tt))),
                                  (
                                    (slice_send a piece_row tt piece_sync, (line.the_send, tt)),
                                    (
                                      (search (items.the_send, option.the_send, sendable) depth 20, (search sendable, tt)),
                                      (
                                        (search (items.the_send, path.the_send, sendable) depth 20, tt),
                                        ((search (boxed.the_send, waits.the_send, sendable) depth 20, tt), (tt, tt)),
                                      ),
                                    ),
                                  ),
                                ),
                              ),
                            ),
                          ),
                        ),
                      ),
                    ),
                  ),
                ),
              ),
            ),
          ),
        ),
      ),
    )

evaluator_send : (a : NamedLft) → IsSend (evaluator.the_row a)
evaluator_send a =
    declared_send (evaluator.the_type a) (
      Vec-send _ (frame_send a),
      (
        path.the_send,
        (
          search (items.the_send, option.the_send, value.the_send, sendable) depth 20,
          (
            search (items.the_send, option.the_send, value.the_send, sendable) depth 20,
            (search sendable, (search sendable, (search sendable, (search (items.the_send, path.the_send, sendable) depth 20, (search sendable, tt))))),
          ),
        ),
      ),
    )

state_send : (a : NamedLft) → IsSend (state.the_row a)
state_send a =
    declared_send (state.the_type a) (
      ref_send a program.the_row tt program_sync,
      (
        sizes.the_send,
        (
          limits.the_send,
          (
            path.the_send,
            (
              start.the_send,
              (
                pool.the_send,
                (search (option.the_send, sendable) depth 20, (Vec-send _ note.the_send, (size_send, (evaluator_send a, (mode_send a, (search sendable, (send, tt))))))),
              ),
            ),
          ),
        ),
      ),
    )

pub run_send : (a : NamedLft) → IsSend (run.the_row a)
run_send a = view_send _ _ _ _ _ (declared_send (inside.the_type a) (Box-send _ (state_send a), tt))
