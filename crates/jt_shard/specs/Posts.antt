-- How a shard keeps its objects: a post for each object that was asked.
use Rattle.std.specs.Prelude.{◌≡◌, ℕ, ◌<◌, ◌≤◌, List, [], ◌∷◌, ◌++◌, Option, Some, None, Bool, if◌then◌else◌, IsSome, length, slice_get, Vec, vec_len}
use Rattle.std.specs.List.{All, IsDistinct, flat_map}
use Rattle.std.specs.Map.{lookup, set_value, keys_of}
use Rattle.std.specs.Global.{Global}
use Rattle.std.specs.Vec.{vec_capacity}
use Rattle.std.specs.VecDeque.{deque_len, deque_capacity}
use Rattle.jt_base.specs.declared.operation.Op.{Op}
use Rattle.jt_base.specs.declared.entry.Entry.{Entry}
use Rattle.jt_base.specs.declared.entry.Ask.{Ask}
use Rattle.jt_base.specs.declared.entry.Ask.TheVariants.{NotYet}
use Rattle.jt_base.specs.Jobs.{Held}
use Rattle.jt_base.specs.declared.object.Object.{Object}
use Rattle.jt_base.specs.contracts.object.ObjectPartialEq.TheImpl as object_equality
use Rattle.jt_base.specs.Objects.{object_of}
use Rattle.jt_laws.specs.Entries.{of_object}
use Rattle.jt_laws.specs.Objects.{AreLawful, Asked}
use Rattle.jt_histories.specs.Jobs.{last_entry}
use Rattle.jt_objects.specs.States.{ObjectState, left_by}
use Rattle.jt_objects.specs.Needs.{state_of}
use Rattle.jt_shard.specs.declared.post.Post.{Post}
use Rattle.jt_shard.specs.declared.spare.Spare.{Spare}
use Rattle.jt_shard.specs.Asking.{Allows, Refuses, HasAnyRoom}
use Rattle.jt_shard.specs.Changing.{changes}
use Rattle.jt_shard.specs.Shards.{object_for, MustWait}

-- an object, or its index, where the jobs that wait for it may be allowed after an entry of this operation on it
abbrev pub touched_by : {X : Type 0} → X → Op → Option X
touched_by o op = if changes op then Some o else None

-- whether two objects are equal
abbrev pub equal_objects : Object → Object → Bool
equal_objects = (object_equality.ghosts).eq

-- the object at an index, in a list of objects
abbrev pub key_at : List Object → Option ℕ → Option Object
key_at objects None = None
key_at objects (Some i) = slice_get objects i

-- no log is longer than its last stamp, since each entry's stamp is greater than those before it
abbrev pub IsStamped : List Entry → Type 0
IsStamped log = length log ≤ last_entry log

module _ {J : Type 0} where
  -- an object's post
  abbrev pub post_at : List (Object × Post J) → Object → Option (Post J)
  post_at posts o = lookup (equal_objects o) posts

  -- the object at an index
  abbrev pub object_at : List (Object × Post J) → Option ℕ → Option Object
  object_at posts i = key_at (keys_of posts) i

  -- with another post of an object
  abbrev pub with_post : List (Object × Post J) → Object → Post J → List (Object × Post J)
  with_post posts o post = set_value (equal_objects o) posts post

  -- no object has two posts
  abbrev pub AreDistinct : List (Object × Post J) → Type 0
  AreDistinct posts = IsDistinct equal_objects (keys_of posts)

  abbrev pub line_of : Object × Post J → List (J × Op)
  line_of e = e.1.waiting.items

  -- all that wait, object by object
  abbrev pub waiting_in : List (Object × Post J) → List (J × Op)
  waiting_in posts = flat_map line_of posts

  -- a post has memory for one job more, and for whatever operation comes next
  pub record IsReserved (post : Post J) : Type 0 where
    pub line : deque_len post.waiting < deque_capacity post.waiting
    pub room : HasAnyRoom post.state

  -- the object has a post, with such memory
  abbrev pub HasReservedPost : List (Object × Post J) → Object → Type 0
  HasReservedPost posts o = (post : Post J) × (post_at posts o ≡ Some post) × IsReserved post

  -- a post of an object without entries, for which nobody waits
  pub record IsNewPost (o : Object) (post : Post J) : Type 0 where
    pub state : left_by o [] ≡ Some (state_of post.state)
    pub waiting : post.waiting.items ≡ []

  -- a post is kept, with at least as much memory as before
  pub record KeepsPost (a b : Post J) : Type 0 where
    pub state : state_of b.state ≡ state_of a.state
    pub waiting : b.waiting.items ≡ a.waiting.items
    pub reserved : IsReserved a → IsReserved b

  -- an object's post is kept so, or made
  abbrev pub KeepsOrMakesPost : Object → Option (Post J) → Option (Post J) → Type 0
  KeepsOrMakesPost o None None = Unit {0}
  KeepsOrMakesPost o None (Some b) = IsNewPost o b
  KeepsOrMakesPost o (Some a) None = ⊥
  KeepsOrMakesPost o (Some a) (Some b) = KeepsPost a b

  -- each post is kept so at its index, others may be made, and the same jobs wait
  pub record KeepsPosts (posts more : List (Object × Post J)) : Type 0 where
    pub each : (o : Object) → KeepsOrMakesPost o (post_at posts o) (post_at more o)
    pub waiting : waiting_in more ≡ waiting_in posts
    pub distinct : AreDistinct posts → AreDistinct more
    pub objects : (i : Option ℕ) (o : Object) → object_at posts i ≡ Some o → object_at more i ≡ Some o

  -- an object answers an operation by its law, and its post has the state that the answer leaves
  pub record AsksPost (posts : List (Object × Post J)) (o : Object) (task : List ℕ) (op : Op) (answer : Ask) (more : List (Object × Post J)) : Type 0 where
    pub before : Post J
    pub after : Post J
    pub there : post_at posts o ≡ Some before
    pub law : Asked ObjectState (left_by (object_of task op)) task op (state_of before.state) answer (state_of after.state)
    pub stays : answer ≡ NotYet → after ≡ before
    pub waiting : after.waiting ≡ before.waiting
    pub is : more ≡ with_post posts o after

  -- a job joins the end of a line
  pub record JoinsPost (posts : List (Object × Post J)) (o : Object) (w : J × Op) (joined : List (Object × Post J)) : Type 0 where
    pub before : Post J
    pub after : Post J
    pub there : post_at posts o ≡ Some before
    pub state : after.state ≡ before.state
    pub waiting : after.waiting.items ≡ before.waiting.items ++ w ∷ []
    pub is : joined ≡ with_post posts o after

  -- memory is reserved for an entry and for a waiting job
  pub record HasMemory (log : Vec Entry Global) (jobs : Vec J Global) (room : Option (Spare (J × Op))) (posts : List (Object × Post J)) (o : Object) : Type 0 where
    pub entry : vec_len log < vec_capacity log
    pub job : length (waiting_in posts) < vec_capacity jobs
    pub spare : IsSome room
    pub post : HasReservedPost posts o

  abbrev pub HasMemoryIf : Vec Entry Global → Vec J Global → Option (Spare (J × Op)) → List (Object × Post J) → Option Object → Type 0
  HasMemoryIf log jobs spare posts None = Unit {0}
  HasMemoryIf log jobs spare posts (Some o) = HasMemory log jobs spare posts o

  -- the waiting jobs are counted, and there is memory to give them all back
  pub record IsCounted (posts : List (Object × Post J)) (count : ℕ) (jobs : Vec J Global) : Type 0 where
    pub counted : count ≡ length (waiting_in posts)
    pub none : jobs.items ≡ []
    pub room : length (waiting_in posts) ≤ vec_capacity jobs

module _ {J S : Type 0} (told : J → Held S) where
  -- a post's state allows or refuses a waiting job's operation
  abbrev pub AllowsJob : Post J → J × Op → Type 0
  AllowsJob post w = Allows post.state (told w.0).path w.1

  abbrev pub RefusesJob : Post J → J × Op → Type 0
  RefusesJob post w = Refuses post.state (told w.0).path w.1

  -- the first job whose operation the post allows leaves its line
  pub record FirstLeaves (before : Post J) (w : J × Op) (after : Post J) : Type 0 where
    pub front : List (J × Op)
    pub back : List (J × Op)
    pub had : before.waiting.items ≡ front ++ w ∷ back
    pub has : after.waiting.items ≡ front ++ back
    pub refused : All (RefusesJob before) front
    pub allowed : AllowsJob before w
    pub state : after.state ≡ before.state

  abbrev pub LeavesPost : Post J → Option (J × Op) → Post J → Type 0
  LeavesPost before (Some w) after = FirstLeaves before w after
  LeavesPost before None after = All (RefusesJob before) before.waiting.items × (after ≡ before)

  abbrev pub LeavesPosts : List (Object × Post J) → Object → Option (J × Op) → List (Object × Post J) → Type 0
  LeavesPosts posts o (Some w) left =
      (before : Post J) × (after : Post J) × (post_at posts o ≡ Some before) × FirstLeaves before w after × (left ≡ with_post posts o after)
  LeavesPosts posts o None left =
      ((post : Post J) → post_at posts o ≡ Some post → All (RefusesJob post) post.waiting.items) × (left ≡ posts)

  -- where there is an object at the index
  abbrev pub LeavesAt : List (Object × Post J) → Option Object → Option (J × Op) → List (Object × Post J) → Type 0
  LeavesAt posts None result left = (result ≡ None) × (left ≡ posts)
  LeavesAt posts (Some o) result left = LeavesPosts posts o result left

  -- The state is the one that the object's entries leave; the jobs here wait for this object; and
  -- unless it was touched they must wait.
  pub record IsPost (log : List Entry) (touched : Option Object) (o : Object) (post : Post J) : Type 0 where
    pub state : left_by o (of_object o log) ≡ Some (state_of post.state)
    pub here : All (λ w. object_for told w.0 w.1 ≡ o) post.waiting.items
    pub settled : (touched ≡ Some o → ⊥) → All (MustWait told log) post.waiting.items

  abbrev pub IsPostIf : List Entry → Option Object → Object → Option (Post J) → Type 0
  IsPostIf log touched o None = of_object o log ≡ []
  IsPostIf log touched o (Some post) = IsPost log touched o post

  -- the posts are those of the objects after this log
  pub record ArePosts (log : List Entry) (touched : Option Object) (posts : List (Object × Post J)) : Type 0 where
    pub distinct : AreDistinct posts
    pub lawful : AreLawful log
    pub each : (o : Object) → IsPostIf log touched o (post_at posts o)
