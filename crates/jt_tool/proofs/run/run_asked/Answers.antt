-- The run is one of the program that the source gave.
use Rattle.jt_program.specs.View.{program_plan}
use Rattle.jt_tool.proofs.run.run_asked.Goals as goal

pub returns-clause-run : goal.returns-clause-run
returns-clause-run g c = record {
  command = c.in_ok-command.command;
  found = c.in_ok-command.was;
  bytes = c.in_ok-loaded.loaded.script;
  program = program_plan c.in_ok-loaded.loaded.program;
  given = c.in_ok-loaded.ensures.program;
  run = c.in_ok-ran.ensures.run;
  told = c.in_ok-ran.ensures.text;
}
