-- Jobs of one shard are woken, one after another.
use Rattle.std.proofs.Common.{◌≡◌, ℕ, ◌+◌, ◌<◌, List, [], ◌∷◌, ◌++◌, Some, None, refl, sym, ap, ◌∙◌, subst, arith, length, get_or, set, append_assoc}
use Rattle.std.specs.Prelude.{slice_get}
use Rattle.std.specs.List.{All}
use Rattle.std.specs.List.Sorted.{IsPermutation}
use Rattle.std.proofs.lemmas.List.{map_push, append-nil, map-append}
use Rattle.std.proofs.lemmas.List.Elements.{All-append, All-map, All-weaker}
use Rattle.std.proofs.lemmas.List.Sorted.{IsPermutation-refl, IsPermutation-pop_more, IsPermutation-append_right, IsPermutation-map, All-permutation, length_permutation}
use Rattle.std.proofs.lemmas.Option.{slice_get_read, slice_get_within, slice_get-get_or}
use Rattle.jt_base.specs.declared.operation.Op.{Op}
use Rattle.jt_base.specs.declared.run.Seeds.{Seeds}
use Rattle.jt_shard.specs.Shards.{ShardState, IsSettled}
use Rattle.jt_shard.specs.Calls.{Wakes, WakesNext}
use Rattle.jt_meaning.specs.Run.{Run}
use Rattle.jt_step.specs.Tasks.{Task, told_of}
use Rattle.jt_machine.specs.Machines.{logs_of, waiting_in, AreSettled, SettledBut, IsJob, IsWaiting, Runs, stamps_left, jobs_in}
use Rattle.jt_machine.specs.Operations.{WakesSome, WakesAll, GoesAfter}
use Rattle.jt_machine.proofs.Shelf.{jobs_of, All-front, All-back, get_set_same, set_twice, set_itself, logs_same, waiting_count, stamps_set, room_of}
use Rattle.jt_machine.proofs.Moving.{Moves, moved_runs, moved_count, settled_set}

pub none_woken : (k : ℕ) (shards : List (ShardState Task)) (ready : List Task) (s : ShardState Task) → slice_get shards k ≡ Some s → WakesSome k shards ready shards ready
none_woken k shards ready s e = record {
  before = s;
  after = s;
  woken = [];
  there = e;
  set = set_itself shards k s e;
  kept = refl;
  waiting = IsPermutation-refl s.waiting;
  joined = sym (append-nil ready);
}

module _ (k : ℕ) (shards : List (ShardState Task)) (ready : List Task) (shards' : List (ShardState Task)) (ready' : List Task) where
  pub woken_there : (w : WakesSome k shards ready shards' ready') → slice_get shards' k ≡ Some w.after
  woken_there w = ap (λ l. slice_get l k) w.set ∙ get_set_same shards k w.before w.after w.there

  pub one_woken : (w : WakesSome k shards ready shards' ready') (j : Task) (op : Op) (s s' : ShardState Task) → slice_get shards' k ≡ Some s → Wakes told_of s j op s' → WakesSome k shards ready (set shards' k s') (ready' ++ j ∷ [])
  one_woken w j op s s' e n =
      let both : Some w.after ≡ Some s = sym (woken_there w) ∙ e in
      let same : w.after ≡ s = cc in
      record {
        before = w.before;
        after = s';
        woken = w.woken ++ (j, op) ∷ [];
        there = w.there;
        set = ap (λ l. set l k s') w.set ∙ set_twice shards k w.after s';
        kept = n.kept
            ∙ ap (λ (t : ShardState Task). record t { waiting = s'.waiting; reserved = None }) (sym same ∙ w.kept)
            ∙ ap (λ r. record w.before { waiting = s'.waiting; reserved = r }) (sym (ap (λ (t : ShardState Task). t.reserved) n.kept));
        waiting = IsPermutation-pop_more w.before.waiting w.woken w.after.waiting s'.waiting (j, op) w.waiting
            (subst (λ (t : ShardState Task). IsPermutation t.waiting ((j, op) ∷ s'.waiting)) (sym same) n.waiting);
        joined = ap (λ l. l ++ j ∷ []) w.joined ∙ append_assoc ready (jobs_of w.woken) (j ∷ []) ∙ ap (λ l. ready ++ l) (sym (map_push (λ (v : Task × Op). v.0) w.woken (j, op)));
      }

module _ (run : Run) (seeds : Seeds) (shards : List (ShardState Task)) (k : ℕ) (more ready : List Task) (shards' : List (ShardState Task)) (ready' : List Task) where
  all_moved : (r : Runs run seeds shards (more ++ ready)) (w : WakesSome k shards ready shards' ready') → Moves run k w.before (more ++ ready) w.after (more ++ ready')
  all_moved r w =
      let s = w.before in
      let own = r.each_shard k s w.there in
      let waits : All (IsWaiting run k) (w.woken ++ w.after.waiting) = All-permutation (IsWaiting run k) s.waiting (w.woken ++ w.after.waiting) w.waiting own.waiting in
      record {
        number = ap (λ (t : ShardState Task). t.number) w.kept;
        events = ap (λ (t : ShardState Task). t.events) w.kept;
        log = ap (λ (t : ShardState Task). t.log) w.kept;
        waiting = All-back (IsWaiting run k) w.woken w.after.waiting waits;
        each_job = subst (λ l. All (IsJob run) (more ++ l)) (sym w.joined)
            (subst (All (IsJob run)) (append_assoc more ready (jobs_of w.woken))
            (All-append (IsJob run) (more ++ ready) (jobs_of w.woken) r.each_job
            (All-map (IsJob run) (λ (v : Task × Op). v.0) w.woken (All-weaker (IsWaiting run k) (λ v. IsJob run v.0) (λ v x. x.job) w.woken (All-front (IsWaiting run k) w.woken w.after.waiting waits)))));
        moved = subst (IsPermutation ((more ++ ready) ++ jobs_of s.waiting)) (parts w)
            (IsPermutation-append_right (more ++ ready) (jobs_of s.waiting) (jobs_of (w.woken ++ w.after.waiting)) (IsPermutation-map (λ (v : Task × Op). v.0) s.waiting (w.woken ++ w.after.waiting) w.waiting));
      }
    where
      parts : (w : WakesSome k shards ready shards' ready') → (more ++ ready) ++ jobs_of (w.woken ++ w.after.waiting) ≡ (more ++ ready') ++ jobs_of w.after.waiting
      parts w =
          ap (λ l. (more ++ ready) ++ l) (map-append (λ (v : Task × Op). v.0) w.woken w.after.waiting)
          ∙ sym (append_assoc (more ++ ready) (jobs_of w.woken) (jobs_of w.after.waiting))
          ∙ ap (λ l. l ++ jobs_of w.after.waiting) (append_assoc more ready (jobs_of w.woken) ∙ ap (λ l. more ++ l) (sym w.joined))

  -- the jobs before the ready ones go on as they are
  pub woken_after : Runs run seeds shards (more ++ ready) → SettledBut k shards → WakesAll k shards ready shards' ready' → GoesAfter run seeds shards (more ++ ready) shards' (more ++ ready')
  woken_after r b a =
      let w = a.some in
      let m = all_moved r w in
      let now : Runs run seeds (set shards k w.after) (more ++ ready') = moved_runs run seeds shards k w.before w.after (more ++ ready) (more ++ ready') r w.there m in
      let rooms : room_of w.after ≡ room_of w.before = ap room_of w.kept in
      let stamps : stamps_left (set shards k w.after) + room_of w.before ≡ stamps_left shards + room_of w.after = stamps_set shards k w.before w.after w.there in
      let same : stamps_left (set shards k w.after) ≡ stamps_left shards = omega arith in
      record {
        runs = subst (λ l. Runs run seeds l (more ++ ready')) (sym w.set) now;
        settled = subst AreSettled (sym w.set) (settled_set shards k w.after b a.settled);
        logs = ap logs_of w.set ∙ logs_same shards k w.before w.after w.there m.log;
        stamps = ap stamps_left w.set ∙ same;
        count = ap (λ l. jobs_in l (more ++ ready')) w.set ∙ moved_count run seeds shards k w.before w.after (more ++ ready) (more ++ ready') w.there m;
      }

-- fewer jobs wait
pub waiting_fewer : (shards : List (ShardState Task)) (k : ℕ) (s s' : ShardState Task) (j : Task) (op : Op) → slice_get shards k ≡ Some s → Wakes told_of s j op s' → length (waiting_in (set shards k s')) < length (waiting_in shards)
waiting_fewer shards k s s' j op e n =
    let l = length_permutation s.waiting ((j, op) ∷ s'.waiting) n.waiting in
    let w = waiting_count shards k s s' e in omega (arith, l, w)

-- ---- as the code reads its shards

pub shard_read : (shards : List (ShardState Task)) (k : ℕ) (s : ShardState Task) → k < length shards → s ≡ get_or shards k s → slice_get shards k ≡ Some s
shard_read shards k s h e = slice_get_read shards (length shards) k s refl h e

pub begin_waking : (k : ℕ) (shards : List (ShardState Task)) (ready : List Task) → k < length shards → WakesSome k shards ready shards ready
begin_waking k [] ready h = absurd (omega (arith, h))
begin_waking k (t ∷ ts) ready h = none_woken k (t ∷ ts) ready (get_or (t ∷ ts) k t) (slice_get-get_or (t ∷ ts) k t h)

module _ (k : ℕ) (shards : List (ShardState Task)) (ready : List Task) (shards' : List (ShardState Task)) (ready' : List Task) (w : WakesSome k shards ready shards' ready') (s : ShardState Task) (e : s ≡ get_or shards' k s) where
  woken_read : slice_get shards' k ≡ Some s
  woken_read = shard_read shards' k s (slice_get_within shards' k w.after (woken_there k shards ready shards' ready' w)) e

  pub wake_one : (j : Task) (op : Op) (s' : ShardState Task) (ready2 : List Task) → WakesNext told_of s (Some (j, op)) s' → ready2 ≡ ready' ++ j ∷ [] → WakesSome k shards ready (set shards' k s') ready2
  wake_one j op s' ready2 n q = subst (WakesSome k shards ready (set shards' k s')) (sym q) (one_woken k shards ready shards' ready' w j op s s' woken_read n)

  pub wait_fewer : (j : Task) (op : Op) (s' : ShardState Task) → WakesNext told_of s (Some (j, op)) s' → length (waiting_in (set shards' k s')) < length (waiting_in shards')
  wait_fewer j op s' n = waiting_fewer shards' k s s' j op woken_read n

  pub end_waking : (s' : ShardState Task) → WakesNext told_of s None s' → WakesAll k shards ready (set shards' k s') ready'
  end_waking s' n =
      let there = woken_there k shards ready shards' ready' w in
      let both : Some w.after ≡ Some s = sym there ∙ woken_read in
      let same : s ≡ w.after = cc in
      let all : shards' ≡ set shards' k s' = set_itself shards' k s woken_read ∙ ap (λ t. set shards' k t) (sym n.1) in
      subst (λ l. WakesAll k shards ready l ready') all (record { some = w; settled = subst (IsSettled told_of) same n.0 })
