-- What is kept of the scopes round a place. A scope's depth is how many scopes there are up to it.
use Rattle.std.specs.Prelude.{ℕ, suc, Bool, true, false, ◌&&◌, ◌||◌, List, [], ◌∷◌, length, if◌then◌else◌}
use Rattle.jt_names.specs.Names.{Name}
use Rattle.jt_outline.specs.declared.mark.ScopeKind.{ScopeKind}
use Rattle.jt_outline.specs.declared.mark.ScopeKind.TheVariants as kind
use Rattle.jt_scopes.specs.declared.scope.Scope.{Scope}
use Rattle.jt_scopes.specs.Scopes.{is_loop, is_function, is_task, is_sync, is_inner, has}
use Rattle.jt_places.specs.declared.standing.Standing.{Standing}
use Rattle.jt_scopes.specs.Tests.{in_script, in_loop, in_function}
use Rattle.jt_scopes.specs.Slots.{room}
use Rattle.jt_scopes.specs.Awaited.{is_synced, is_awaited}

-- the depth of the scope of the innermost function or task's body or of the script, 0 where there is none
abbrev pub begin_of : List Scope → ℕ
begin_of [] = 0
begin_of (r ∷ c) = if is_inner r then begin_of c else suc (length c)

-- that of the innermost function
abbrev pub function_of : List Scope → ℕ
function_of [] = 0
function_of (r ∷ c) = if is_function r then suc (length c) else function_of c

-- that of the innermost task's body
abbrev pub task_of : List Scope → ℕ
task_of [] = 0
task_of (r ∷ c) = if is_task r then suc (length c) else task_of c

-- that of the innermost scope that has the name
abbrev pub holder_of : List Scope → Name → ℕ
holder_of [] x = 0
holder_of (r ∷ c) x = if has r x then suc (length c) else holder_of c x

-- the innermost scope but for those of `@sync` is a loop's
abbrev pub repeats : List Scope → Bool
repeats [] = false
repeats (r ∷ c) = is_loop r || (is_sync r && repeats c)

abbrev pub standing_of : List Scope → Standing
standing_of c = record {
  room = room c;
  begin = begin_of c;
  function = function_of c;
  task = task_of c;
  repeats = repeats c;
  in_script = in_script c;
  in_loop = in_loop c;
  in_function = in_function c;
  is_awaited = is_awaited c;
  is_synced = is_synced c;
}

-- what is kept within one scope more, which has this kind, depth and room
abbrev pub within : ScopeKind → Standing → ℕ → ℕ → Standing
within kind.Script s d n = record { room = n; begin = d; function = s.function; task = s.task; repeats = false; in_script = true; in_loop = false; in_function = false; is_awaited = false; is_synced = s.is_synced }
within kind.Function s d n = record { room = n; begin = d; function = d; task = s.task; repeats = false; in_script = false; in_loop = false; in_function = true; is_awaited = false; is_synced = false }
within kind.Loop s d n = record { room = n; begin = s.begin; function = s.function; task = s.task; repeats = true; in_script = false; in_loop = true; in_function = s.in_function; is_awaited = s.is_awaited; is_synced = s.is_synced }
within kind.Task s d n = record { room = n; begin = d; function = s.function; task = d; repeats = false; in_script = false; in_loop = false; in_function = true; is_awaited = s.is_synced; is_synced = s.is_synced }
within kind.Sync s d n = record { room = n; begin = s.begin; function = s.function; task = s.task; repeats = s.repeats; in_script = s.in_script; in_loop = false; in_function = false; is_awaited = true; is_synced = true }
