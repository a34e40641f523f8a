-- What the laws of objects and the rule on workers give: a task is made once, it begins after its
-- spawn, and its seat follows its entries.
use Rattle.std.proofs.Common.{◌≡◌, ℕ, List, [], ◌∷◌, ◌++◌, Some, true, false, ◌⊎◌, inl, inr, refl, sym, ap, ◌∙◌}
use Rattle.std.specs.Prelude.{not}
use Rattle.std.proofs.lemmas.Bool.{false≢true}
use Rattle.jt_base.specs.declared.operation.Op.{Op}
use Rattle.jt_base.specs.declared.operation.Op.TheVariants.{Begin, Spawn}
use Rattle.jt_base.specs.declared.operation.Reply.{Reply}
use Rattle.jt_base.specs.declared.entry.Entry.{Entry}
use Rattle.jt_base.specs.declared.object.Object.TheVariants.{Task}
use Rattle.jt_base.specs.Objects.{object_of}
use Rattle.jt_laws.specs.Entries.{spawns, ends, In}
use Rattle.jt_base.specs.Jobs.{Seat}
use Rattle.jt_laws.specs.Seats.{seat_after, seat_from}
use Rattle.jt_laws.specs.Tasks.{is_new, is_main, is_spawned, has_begun}
use Rattle.jt_laws.specs.Objects.{reply_after}
use Rattle.jt_laws.proofs.Paths.{same_equal}
use Rattle.jt_laws.proofs.TaskLaws.{when_ok, both_true}
use Rattle.jt_histories.specs.Kept.{made_path}

spawned_by : (own : List Entry) (path : List ℕ) → is_spawned own path ≡ true → (path ≡ []) ⊎ ((x : Entry) × In x own × (spawns x.op path ≡ true))
spawned_by [] path e = inl (same_equal path [] e)
spawned_by (x ∷ xs) path e = inr (x, inl refl, e)

-- a task that begins is main, or was spawned
pub begin_spawned : (own : List Entry) (path : List ℕ) (r : Reply) → reply_after own path Begin ≡ Some r → (path ≡ []) ⊎ ((x : Entry) × In x own × (spawns x.op path ≡ true))
begin_spawned own path r e = spawned_by own path (both_true (is_spawned own path) (not (has_begun own)) (when_ok _ r e)).0

none_in : (own : List Entry) → is_new own ≡ true → (x : Entry) → In x own → ⊥
none_in [] e x i = i
none_in (y ∷ ys) e x i = false≢true e

-- no task is spawned twice
pub spawn_once : (own : List Entry) (task child : List ℕ) (op : Op) (r : Reply) → reply_after own task op ≡ Some r → spawns op child ≡ true → (x : Entry) → In x own → spawns x.op child ≡ false
spawn_once own task child (Spawn path how) r e s x i = absurd (none_in own (both_true (is_new own) (not (is_main path)) (when_ok _ r e)).0 x i)
spawn_once own task child op r e s x i = absurd (false≢true s)

-- one more entry of the task
pub seat_push : (seat : Seat) (own : List Entry) (e : Entry) → seat_from seat (own ++ e ∷ []) ≡ seat_after (seat_from seat own) e.op e.worker
seat_push seat [] e = refl
seat_push seat (x ∷ xs) e = seat_push (seat_after seat x.op x.worker) xs e

-- an operation that makes a task is one on this task
pub spawn_object : (op : Op) (task child : List ℕ) → spawns op child ≡ true → object_of task op ≡ Task child
spawn_object (Spawn path how) task child e = ap Task (same_equal path child e)
spawn_object op task child e = absurd (false≢true e)

pub spawn_no_end : (op : Op) (child : List ℕ) → spawns op child ≡ true → ends op ≡ false
spawn_no_end (Spawn path how) child e = refl
spawn_no_end op child e = absurd (false≢true e)

pub spawned_one : (op : Op) (q c : List ℕ) → spawns op q ≡ true → spawns op c ≡ true → q ≡ c
spawned_one (Spawn path how) q c a b = sym (same_equal path q a) ∙ same_equal path c b
spawned_one op q c a b = absurd (false≢true a)

pub spawn_made : (op : Op) (child : List ℕ) → spawns op child ≡ true → made_path op ≡ child
spawn_made (Spawn path how) child e = same_equal path child e
spawn_made op child e = absurd (false≢true e)
