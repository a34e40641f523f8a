-- The serial elision of a fork-join program: each spawn does the child's whole task at once, as a call
-- does, and keeps its result. There is no history and no order of tasks.
use Rattle.std.specs.Prelude.{◌≡◌, ℕ, zero, suc, List, [], ◌∷◌, ◌++◌, Option, Some, None, Bool, true, false, not, ◌||◌, cond, drop, take, nat_lt}
use Rattle.std.specs.List.{list_any}
use Rattle.jt_base.specs.declared.operation.Op.{Op}
use Rattle.jt_base.specs.declared.operation.Op.TheVariants.{Begin, End, Fail, Spawn, Fetch, Wait, Print}
use Rattle.jt_base.specs.declared.operation.Reply.{Reply}
use Rattle.jt_base.specs.declared.operation.Reply.TheVariants as reply
use Rattle.jt_base.specs.declared.run.Seeds.{Seeds}
use Rattle.jt_base.specs.Coming.{Next, Needs, Spawns, Over}
use Rattle.jt_laws.specs.Entries.{same_path}
use Rattle.jt_laws.specs.Lines.{line_of}
use Rattle.jt_laws.specs.Tasks.{fetch_of, wait_of}
use Rattle.jt_program.specs.declared.code.BuiltIn.TheVariants as built_in
use Rattle.jt_program.specs.declared.code.Callee.{Callee}
use Rattle.jt_program.specs.declared.code.Callee.TheVariants as callee
use Rattle.jt_program.specs.Plan.{Plan, Plans, Operands, Comparisons, Choices, Pieces, BodyPlan, ProgramPlan}
use Rattle.jt_program.specs.Plan as plan
use Rattle.jt_meaning.specs.declared.start.Start.{Start}
use Rattle.jt_meaning.specs.Run.{Run}
use Rattle.jt_meaning.specs.Next.{main_start, next_operation}

-- ---- fork-join programs

-- a part of a tree, the tree itself among them, has this
abbrev mutual
  pub some_part : (Plan → Bool) → Plan → Bool
  some_part t (plan.literal l) = t (plan.literal l)
  some_part t (plan.variable x) = t (plan.variable x)
  some_part t (plan.constant k) = t (plan.constant k)
  some_part t (plan.assign x e) = t (plan.assign x e) || some_part t e
  some_part t (plan.define k e) = t (plan.define k e) || some_part t e
  some_part t (plan.unary o e) = t (plan.unary o e) || some_part t e
  some_part t (plan.operation e es) = t (plan.operation e es) || (some_part t e || some_operand t es)
  some_part t (plan.comparison e es) = t (plan.comparison e es) || (some_part t e || some_comparison t es)
  some_part t (plan.connection c e es) = t (plan.connection c e es) || (some_part t e || some_plan t es)
  some_part t (plan.branch cs e) = t (plan.branch cs e) || (some_choice t cs || some_part t e)
  some_part t (plan.block es) = t (plan.block es) || some_plan t es
  some_part t (plan.while first count c b) = t (plan.while first count c b) || (some_part t c || some_part t b)
  some_part t (plan.for first count a b e) = t (plan.for first count a b e) || (some_part t a || (some_part t b || some_part t e))
  some_part t (plan.call f es) = t (plan.call f es) || some_plan t es
  some_part t (plan.print ps) = t (plan.print ps) || some_piece t ps
  some_part t (plan.error text) = t (plan.error text)
  some_part t (plan.spawn body slots awaits) = t (plan.spawn body slots awaits)
  some_part t (plan.sync e) = t (plan.sync e) || some_part t e
  some_part t (plan.return e) = t (plan.return e) || some_part t e
  some_part t plan.break = t plan.break
  some_part t plan.continue = t plan.continue

  pub some_plan : (Plan → Bool) → Plans → Bool
  some_plan t plan.no_plans = false
  some_plan t (plan.plan e es) = some_part t e || some_plan t es

  pub some_operand : (Plan → Bool) → Operands → Bool
  some_operand t plan.no_operands = false
  some_operand t (plan.operand o e es) = some_part t e || some_operand t es

  pub some_comparison : (Plan → Bool) → Comparisons → Bool
  some_comparison t plan.no_comparisons = false
  some_comparison t (plan.compared o e es) = some_part t e || some_comparison t es

  pub some_choice : (Plan → Bool) → Choices → Bool
  some_choice t plan.no_choices = false
  some_choice t (plan.choice c e cs) = some_part t c || (some_part t e || some_choice t cs)

  pub some_piece : (Plan → Bool) → Pieces → Bool
  some_piece t plan.no_pieces = false
  some_piece t (plan.value_piece e ps) = some_part t e || some_piece t ps
  some_piece t (plan.text_piece text ps) = some_piece t ps

-- a function of the script, or one of the language by whose value no task sees an order of tasks
abbrev pub joins : Callee → Bool
joins (callee.Function f) = true
joins (callee.BuiltIn built_in.Div) = true
joins (callee.BuiltIn built_in.Rem) = true
joins (callee.BuiltIn built_in.Mod) = true
joins (callee.BuiltIn built_in.Fetch) = true
joins (callee.BuiltIn built_in.Wait) = true
joins f = false

-- what a function or a task may have; no task is made of main's body
abbrev pub forks_and_joins : Plan → Bool
forks_and_joins (plan.literal l) = true
forks_and_joins (plan.variable x) = true
forks_and_joins (plan.constant k) = true
forks_and_joins (plan.assign x e) = true
forks_and_joins (plan.define k e) = true
forks_and_joins (plan.unary o e) = true
forks_and_joins (plan.operation e es) = true
forks_and_joins (plan.comparison e es) = true
forks_and_joins (plan.connection c e es) = true
forks_and_joins (plan.branch cs e) = true
forks_and_joins (plan.block es) = true
forks_and_joins (plan.while first count c b) = true
forks_and_joins (plan.for first count a b e) = true
forks_and_joins (plan.call f es) = joins f
forks_and_joins (plan.error text) = true
forks_and_joins (plan.spawn body slots awaits) = nat_lt 0 body
forks_and_joins (plan.sync e) = true
forks_and_joins (plan.return e) = true
forks_and_joins plan.break = true
forks_and_joins plan.continue = true
forks_and_joins e = false

-- what the main task's body may have: it prints too
abbrev pub forks_joins_or_prints : Plan → Bool
forks_joins_or_prints (plan.print ps) = true
forks_joins_or_prints e = forks_and_joins e

-- one of the bodies has a part that isn't allowed
abbrev pub some_other : (Plan → Bool) → List BodyPlan → Bool
some_other allowed bodies = list_any (λ b. some_part (λ e. not (allowed e)) b.code) bodies

-- Its tasks are made by `@spawn` and waited for by `fetch`, `wait` and `@sync`, and only the main task
-- prints, outside of functions. What isn't listed, such as `yield`, stands in none of its bodies.
pub record IsForkJoin (program : ProgramPlan) : Type 0 where
  pub bodies : some_other forks_and_joins (program.functions ++ drop 1 program.tasks) ≡ false
  pub main : some_other forks_joins_or_prints (take 1 program.tasks) ≡ false

-- ---- its serial elision

-- the last operation, End or Fail, of each task that was done, by path; and the lines
pub record Serial : Type 0 where
  pub results : List (List ℕ × Op)
  pub lines : List ℕ

-- a task with its last operation, and what was kept up to it
pub record Done : Type 0 where
  pub last : Op
  pub kept : Serial

abbrev pub result_in : List (List ℕ × Op) → List ℕ → Option Op
result_in [] path = None
result_in (r ∷ rs) path = cond (same_path r.0 path) (Some r.1) (result_in rs path)

abbrev pub reply_by : (Op → Option Reply) → Option Op → Option Reply
reply_by f None = None
reply_by f (Some op) = f op

-- what an operation other than a spawn is replied at once; nothing where a fork-join program has none
abbrev pub serial_reply : List (List ℕ × Op) → Op → Option Reply
serial_reply results Begin = Some reply.Ok
serial_reply results (Print text) = Some reply.Ok
serial_reply results (Fetch path) = reply_by fetch_of (result_in results path)
serial_reply results (Wait path) = reply_by wait_of (result_in results path)
serial_reply results op = None

abbrev pub with_line : Serial → Op → Serial
with_line s op = record { results = s.results; lines = s.lines ++ line_of op }

abbrev pub with_result : Serial → List ℕ → Op → Serial
with_result s path op = record { results = (path, op) ∷ s.results; lines = s.lines }

abbrev pub path_made : Op → List ℕ
path_made (Spawn path how) = path
path_made op = []

-- the task goes on with this reply
abbrev pub serial_replied : (List Reply → Serial → Option Done) → List Reply → Serial → Option Reply → Option Done
serial_replied go replies s None = None
serial_replied go replies s (Some r) = go (replies ++ r ∷ []) s

-- the task goes on once the child was done
abbrev pub serial_spawned : (List Reply → Serial → Option Done) → List Reply → List ℕ → Option Done → Option Done
serial_spawned go replies made None = None
serial_spawned go replies made (Some d) = go (replies ++ reply.Ok ∷ []) (with_result d.kept made d.last)

-- what comes next is done, and go does what follows it and whole tasks
abbrev pub serial_next : (List ℕ → Start → List Reply → Serial → Option Done) → List ℕ → Start → List Reply → Serial → Option (Next Start) → Option Done
serial_next go path start replies s None = None
serial_next go path start replies s (Some Over) = None
serial_next go path start replies s (Some (Needs (End value))) = Some (record { last = End value; kept = s })
serial_next go path start replies s (Some (Needs (Fail fault))) = Some (record { last = Fail fault; kept = s })
serial_next go path start replies s (Some (Needs op)) = serial_replied (go path start) replies (with_line s op) (serial_reply s.results op)
serial_next go path start replies s (Some (Spawns op child)) = serial_spawned (go path start) replies (path_made op) (go (path_made op) child [] s)

-- at most so many operations follow one another
abbrev pub serial_task : ℕ → Run → List ℕ → Start → List Reply → Serial → Option Done
serial_task zero run path start replies s = None
serial_task (suc n) run path start replies s = serial_next (serial_task n run) path start replies s (next_operation run path start replies)

-- the main task's last operation and the lines, in at most so many operations on each way
abbrev pub serial_run : ℕ → Run → Seeds → Option Done
serial_run n run seeds = serial_task n run [] (main_start seeds) [] (record { results = []; lines = [] })
