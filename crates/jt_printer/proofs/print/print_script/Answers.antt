use Rattle.std.proofs.Common.{ap, ◌∙◌}
use Rattle.jt_syntax.specs.View.{script_view}
use Rattle.jt_lexer.specs.Spelled.{spelled}
use Rattle.jt_printer.proofs.Again.{text_reads}
use Rattle.jt_printer.proofs.print.print_script.Goals as goal

pub returns-clause-again : goal.returns-clause-again
returns-clause-again c = text_reads (script_view c.args.script.now) c.in_ok-text.text.items (c.in_ok-text.ensures ∙ ap spelled (c.as_slice.ensures.value ∙ c.in_ok-kinds.ensures))
