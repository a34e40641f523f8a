-- An evaluator at a task's beginning.
use Rattle.std.proofs.Common.{◌≡◌, ℕ, List, [], ◌∷◌, ◌++◌, length, map, refl, sym, ap, ◌∙◌, Bor, Option, Some, None, false, nat_eq}
use Rattle.std.specs.Prelude.{cond, slice_get}
use Rattle.std.proofs.lemmas.Bool.{ne_eqb}
use Rattle.jt_base.specs.declared.entry.Note.{Note}
use Rattle.jt_base.specs.declared.operation.How.{How}
use Rattle.jt_base.specs.declared.operation.How.TheVariants as how
use Rattle.jt_base.specs.declared.operation.Op.TheVariants.{Begin}
use Rattle.jt_base.specs.declared.operation.Reply.{Reply}
use Rattle.jt_base.specs.declared.run.Pool.{Pool}
use Rattle.jt_base.specs.declared.run.Pool.TheVariants as pool
use Rattle.jt_base.specs.declared.run.Sizes.{Sizes}
use Rattle.jt_base.specs.Jobs.{note_reply}
use Rattle.jt_laws.specs.Tasks.{is_main}
use Rattle.jt_program.specs.declared.code.Code.{Code}
use Rattle.jt_program.specs.Plan.{BodyPlan}
use Rattle.jt_program.specs.View.{plan_of}
use Rattle.jt_step.specs.declared.evaluator.Evaluator.{Evaluator}
use Rattle.jt_step.specs.declared.mode.Mode.TheVariants as mode
use Rattle.jt_meaning.specs.declared.start.Start.{Start}
use Rattle.jt_meaning.specs.State.{State, ask, bind}
use Rattle.jt_meaning.specs.Meaning.{beginning, task, task_of, variables_of, ended, go, whole}
use Rattle.jt_step.specs.Stack.{at, state_of, doing, unused}
use Rattle.jt_meaning.specs.Run.{Run}
use Rattle.jt_step.specs.Tasks.{Task, new_task, seat_at, seat_by_how}

pub not_main : (path : List ℕ) → nat_eq (length path) 0 ≡ false → is_main path ≡ false
not_main [] h = h
not_main (k ∷ ks) h = refl

-- where there are interactive workers
pub some_interactive : (n : ℕ) → (n ≡ 0 → ⊥) → pool.Interactive ≡ cond (nat_eq n 0) pool.Default pool.Interactive
some_interactive n h = ap (λ b. cond b pool.Default pool.Interactive) (sym (ne_eqb n 0 h))

-- only a chunk of a loop's turns is bound at its beginning
pub not_bound : (sizes : Sizes) (h : How) (parent : Pool) → ((k : ℕ) → h ≡ how.Chunk k → ⊥) → (seat_by_how sizes h parent).bound ≡ None
not_bound sizes how.Default parent n = refl
not_bound sizes how.Interactive parent n = refl
not_bound sizes how.Async parent n = refl
not_bound sizes (how.Chunk k) parent n = absurd (n k refl)

-- a task at its beginning, as its evaluator shows it
pub new_seen : (run : Run) (path : List ℕ) (start : Start) (parent pool : Pool) (bound : Option ℕ) (log : List Note) (room taken : ℕ) → pool ≡ (seat_at run.sizes path start.how parent).pool → bound ≡ (seat_at run.sizes path start.how parent).bound → log ≡ [] → room ≡ 0 → taken ≡ 0 → ◌≡◌ {A = Task} (record { run = run; path = path; start = start; seat = record { pool = pool; bound = bound }; log = log; room = room; taken = taken; failed = false }) (new_task run path start parent)
new_seen run path start parent pool bound log room taken p b l r t =
    λ i. record { run = run; path = path; start = start; seat = record { pool = p i; bound = b i }; log = l i; room = r i; taken = t i; failed = false }

pub starts : (run : Run) (m : Evaluator) (path : List ℕ) (start : Start) (b : BodyPlan) (e : Bor Code) (log : List Note) (rs : List Reply) → slice_get run.program.tasks start.code ≡ Some b → plan_of e.now ≡ b.code → m.frames.items ≡ [] → m.variables ≡ variables_of b start.captured → ((rs : List Reply) → record (state_of m rs) { variables = [] } ≡ beginning run.program run.limits.turns path start rs) → log ≡ [] → at run.program m (mode.Begins e) (unused log 0 ++ rs) ≡ task run path start (map note_reply log ++ rs)
starts run m path start b e log rs is en fs vs st l =
    let s0 : State = record (beginning run.program run.limits.turns path start rs) { variables = variables_of b start.captured } in
    let here : state_of m rs ≡ s0 = λ i. record (st rs i) { variables = vs i } in
    ap (λ log. at run.program m (mode.Begins e) (unused log 0 ++ rs)) l
    ∙ ap (λ fs. doing run.program fs (mode.Begins e) (state_of m rs)) fs
    ∙ ap (λ s. doing run.program [] (mode.Begins e) s) here
    ∙ ap (λ x. bind (ask Begin None s0) (λ v s. ended (go run.program (whole x) s))) en
    ∙ ap (λ o. task_of run.program o start.captured (beginning run.program run.limits.turns path start rs)) (sym is)
    ∙ ap (λ log. task run path start (map note_reply log ++ rs)) (sym l)
