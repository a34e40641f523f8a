-- Runs of small programs, entry by entry, and the lines that they print.
use Rattle.std.proofs.Common.{◌≡◌, ℕ, [], ◌∷◌, None, false, refl, lit≤, lit<}
use Rattle.jt_base.specs.declared.entry.Entry.{Entry}
use Rattle.jt_base.specs.declared.operation.Fault.TheVariants.{Method}
use Rattle.jt_base.specs.declared.operation.How.TheVariants.{Default}
use Rattle.jt_base.specs.declared.operation.Op.{Op}
use Rattle.jt_base.specs.declared.operation.Op.TheVariants as op
use Rattle.jt_base.specs.declared.operation.Reply.TheVariants as reply
use Rattle.jt_base.specs.declared.run.Seeds.{Seeds}
use Rattle.jt_base.specs.declared.value.Value.TheVariants.{Nothing}
use Rattle.jt_laws.specs.Lines.{lines_of}
use Rattle.jt_program.specs.declared.code.Literal.TheVariants as literal
use Rattle.jt_program.specs.Plan.{Plan, ProgramPlan}
use Rattle.jt_program.specs.Plan as plan
use Rattle.jt_meaning.specs.Meaning.{meaning, go}
use Rattle.jt_meaning.specs.Run.{Run}
use Rattle.jt_meaning.specs.Next.{main_start}
use Rattle.jt_machine.specs.declared.run.End.TheVariants.{Ok, MainFailed, EventLimit}
use Rattle.jt_machine.specs.Runs.{IsRun, one_worker}

-- an entry of main
abbrev entry_of : ℕ → Op → Entry
entry_of n op = record { stamp = n; worker = 0; task = []; op = op; reply = reply.Ok }

abbrev script : Plan → ProgramPlan
script code = record { constants = 0; functions = []; tasks = record { variables = 0; code = code } ∷ [] }

-- println()
abbrev one_line : ProgramPlan
one_line = script (plan.block (plan.plan (plan.print plan.no_pieces) plan.no_plans))

-- if nothing end
abbrev no_test : ProgramPlan
no_test = script (plan.block (plan.plan (plan.branch (plan.choice (plan.literal literal.Nothing) (plan.block plan.no_plans) plan.no_choices) (plan.block plan.no_plans)) plan.no_plans))

-- @spawn nothing; nothing
abbrev one_task : ProgramPlan
one_task = record {
  constants = 0;
  functions = [];
  tasks = record { variables = 0; code = plan.block (plan.plan (plan.spawn 1 [] false) (plan.plan (plan.literal literal.Nothing) plan.no_plans)) }
      ∷ record { variables = 0; code = plan.literal literal.Nothing } ∷ [];
}

abbrev within : ProgramPlan → ℕ → Run
within program events = record { program = program; sizes = one_worker; limits = record { turns = 100; events = events } }

module _ (seeds : Seeds) where
  -- main begins, prints and ends, with the stamps 1, 2 and 3
  line_printed : IsRun (within one_line 3) seeds (entry_of 1 op.Begin ∷ entry_of 2 (op.Print []) ∷ entry_of 3 (op.End Nothing) ∷ []) Ok
  unfolding go meaning
  line_printed = record {
    legal = record {
      legal = (
        record { birth = record { start = main_start seeds; maker = None }; born = refl; comes = refl; allowed = refl; works = refl },
        (
          record { birth = record { start = main_start seeds; maker = None }; born = refl; comes = refl; allowed = refl; works = refl },
          (record { birth = record { start = main_start seeds; maker = None }; born = refl; comes = refl; allowed = refl; works = refl }, tt),
        ),
      );
      stamped = (record { stamped = refl; within = lit≤ tt }, (record { stamped = refl; within = lit≤ tt }, (record { stamped = refl; within = lit≤ tt }, tt)));
      ordered = ((lit< tt, (lit< tt, tt)), ((lit< tt, tt), (tt, tt)));
    };
    whole = refl;
    ended = (Nothing, refl);
  }

  -- at most two stamps: the end meets the limit
  line_cut : IsRun (within one_line 2) seeds (entry_of 1 op.Begin ∷ entry_of 2 (op.Print []) ∷ []) EventLimit
  unfolding go meaning
  line_cut = record {
    legal = record {
      legal = (
        record { birth = record { start = main_start seeds; maker = None }; born = refl; comes = refl; allowed = refl; works = refl },
        (record { birth = record { start = main_start seeds; maker = None }; born = refl; comes = refl; allowed = refl; works = refl }, tt),
      );
      stamped = (record { stamped = refl; within = lit≤ tt }, (record { stamped = refl; within = lit≤ tt }, tt));
      ordered = ((lit< tt, tt), (tt, tt));
    };
    whole = refl;
    ended = (
      refl,
      (
        entry_of 3 (op.End Nothing),
        record { birth = record { start = main_start seeds; maker = None }; born = refl; comes = refl; allowed = refl; works = refl },
        lit< tt,
      ),
    );
  }

  -- main fails
  main_failed : IsRun (within no_test 2) seeds (entry_of 1 op.Begin ∷ entry_of 2 (op.Fail Method) ∷ []) (MainFailed Method)
  unfolding go meaning
  main_failed = record {
    legal = record {
      legal = (
        record { birth = record { start = main_start seeds; maker = None }; born = refl; comes = refl; allowed = refl; works = refl },
        (record { birth = record { start = main_start seeds; maker = None }; born = refl; comes = refl; allowed = refl; works = refl }, tt),
      );
      stamped = (record { stamped = refl; within = lit≤ tt }, (record { stamped = refl; within = lit≤ tt }, tt));
      ordered = ((lit< tt, tt), (tt, tt));
    };
    whole = refl;
    ended = refl;
  }

  -- the run ends with main, and the task that it made has no entry
  task_left : IsRun (within one_task 3) seeds (entry_of 1 op.Begin ∷ entry_of 2 (op.Spawn (0 ∷ []) Default) ∷ entry_of 3 (op.End Nothing) ∷ []) Ok
  unfolding go meaning
  task_left = record {
    legal = record {
      legal = (
        record { birth = record { start = main_start seeds; maker = None }; born = refl; comes = refl; allowed = refl; works = refl },
        (
          record { birth = record { start = main_start seeds; maker = None }; born = refl; comes = refl; allowed = refl; works = refl },
          (record { birth = record { start = main_start seeds; maker = None }; born = refl; comes = refl; allowed = refl; works = refl }, tt),
        ),
      );
      stamped = (record { stamped = refl; within = lit≤ tt }, (record { stamped = refl; within = lit≤ tt }, (record { stamped = refl; within = lit≤ tt }, tt)));
      ordered = ((lit< tt, (lit< tt, tt)), ((lit< tt, tt), (tt, tt)));
    };
    whole = refl;
    ended = (Nothing, refl);
  }

-- a print's text and a newline
lines_printed : lines_of (entry_of 1 op.Begin ∷ entry_of 2 (op.Print (65 ∷ [])) ∷ entry_of 3 (op.End Nothing) ∷ []) ≡ 65 ∷ 10 ∷ []
lines_printed = refl
