-- What becomes of the operation, at each return.
use Rattle.std.proofs.Common.{◌≡◌, ℕ, ◌+◌, ◌<◌, ◌≤◌, List, [], ◌∷◌, ◌++◌, Some, None, true, false, ap, sym, ◌∙◌, subst, refl, max}
use Rattle.std.specs.List.{All}
use Rattle.std.specs.Map.{keys_of}
use Rattle.jt_base.specs.declared.entry.Entry.{Entry}
use Rattle.jt_base.specs.declared.entry.Ask.TheVariants.{Done, NotYet}
use Rattle.jt_base.specs.Jobs.{Held}
use Rattle.jt_base.specs.declared.object.Object.{Object}
use Rattle.jt_base.specs.Objects.{object_of}
use Rattle.jt_laws.specs.Entries.{of_object}
use Rattle.jt_laws.specs.Objects.{reply_after}
use Rattle.jt_histories.specs.Jobs.{last_entry}
use Rattle.jt_shard.specs.declared.post.Post.{Post}
use Rattle.jt_shard.specs.Shards.{ShardState, object_for, MustWait}
use Rattle.jt_shard.specs.Posts.{touched_by, object_at, waiting_in, HasMemoryIf, IsCounted, IsStamped, ArePosts}
use Rattle.jt_shard.proofs.Asked.{no_reply}
use Rattle.jt_shard.proofs.Sound.{settle, small_at, allows_at, asked_answer, asked_moves, asked_waiting}
use Rattle.jt_shard.proofs.Posted.{asked_same}
use Rattle.jt_shard.proofs.Indexes.{touched_at, within_at, post_here, reserved_here, stays_at}
use Rattle.jt_shard.proofs.Room.{memory_at, post_of, counted_same}
use Rattle.jt_shard.proofs.Stamps.{stamped_more, after_last, few_entries}
use Rattle.jt_shard.proofs.Applying.{done_exactly, entry_with, same_entry, limit_of, waits_of, enters_of}
use Rattle.jt_shard.proofs.shard.Shard.apply.Goals as goal

pub returns-then-is_allowed-clause-applies : goal.returns-then-is_allowed-clause-applies
returns-then-is_allowed-clause-applies g c =
    let f = c.self.inside in
    let told = g.J.Job.told in
    let o : Object = object_for told c.args.job.now c.args.op in
    let r : object_at f.posts.entries f.reserved ≡ Some o = ap (λ (s : ShardState g.row.J.Denot). s.reserved) c.self.view_is ∙ c.requires.room.shard in
    let at : object_at f.posts.entries (Some c.in-Some.index) ≡ Some o = ap (object_at f.posts.entries) (sym c.in-Some.is) ∙ r in
    let a = settle told f.log.items (object_at f.posts.entries f.touched) f.posts.entries c.self.invariant.0 (subst (λ (s : ShardState g.row.J.Denot). All (MustWait told s.log) s.waiting) (sym c.self.view_is) c.requires.settled) in
    let own : object_of c.path.result.now c.args.op ≡ o = ap (λ p. object_of p c.args.op) c.path.ensures in
    let p = post_of f.log f.jobs f.spare f.posts.entries (object_at f.posts.entries f.reserved) o c.self.invariant.1.1.0 r in
    let q = allows_at told f.log.items f.posts.entries o c.path.result.now c.args.op p.0 true own p.1 (c.if-is_allowed.ensures o p.0 at p.1) a in
    limit_of told c.args.self.now f.log.items c.args.job.now c.args.op o c.last_stamp.result f.events
    (ap (λ (s : ShardState g.row.J.Denot). s.log) c.self.view_is) (ap (λ (s : ShardState g.row.J.Denot). s.events) c.self.view_is) refl
    (q.0, ap (λ x. reply_after (of_object o f.log.items) x c.args.op) (sym c.path.ensures) ∙ q.1) c.last_stamp.ensures
    (subst (λ (l : List Entry). f.events < max c.last_stamp.result (last_entry l) + 1) c.as_slice.ensures.value c.in_default-stamp_after.ensures)

pub returns-in_default-stamp_after-clause-applies : goal.returns-in_default-stamp_after-clause-applies
returns-in_default-stamp_after-clause-applies g c =
    let f = c.self.inside in
    let told = g.J.Job.told in
    let o : Object = object_for told c.args.job.now c.args.op in
    let r : object_at f.posts.entries f.reserved ≡ Some o = ap (λ (s : ShardState g.row.J.Denot). s.reserved) c.self.view_is ∙ c.requires.room.shard in
    let at : object_at f.posts.entries (Some c.in-Some.index) ≡ Some o = ap (object_at f.posts.entries) (sym c.in-Some.is) ∙ r in
    let a = settle told f.log.items (object_at f.posts.entries f.touched) f.posts.entries c.self.invariant.0 (subst (λ (s : ShardState g.row.J.Denot). All (MustWait told s.log) s.waiting) (sym c.self.view_is) c.requires.settled) in
    let own : object_of c.path.result.now c.args.op ≡ o = ap (λ p. object_of p c.args.op) c.path.ensures in
    let p = post_of f.log f.jobs f.spare f.posts.entries (object_at f.posts.entries f.reserved) o c.self.invariant.1.1.0 r in
    let q = allows_at told f.log.items f.posts.entries o c.path.result.now c.args.op p.0 false own p.1 (c.if-is_allowed.ensures o p.0 at p.1) a in
    waits_of told c.args.self.now c.args.self.now f.log.items c.args.job.now c.args.op o
    (ap (λ (s : ShardState g.row.J.Denot). s.log) c.self.view_is) refl (ap (λ x. reply_after (of_object o f.log.items) x c.args.op) (sym c.path.ensures) ∙ q) refl

pub is_allowed-requires-clause-there : goal.is_allowed-requires-clause-there
is_allowed-requires-clause-there g c =
    let f = c.self.inside in
    let o : Object = object_for g.J.Job.told c.args.job.now c.args.op in
    let r : object_at f.posts.entries f.reserved ≡ Some o = ap (λ (s : ShardState g.row.J.Denot). s.reserved) c.self.view_is ∙ c.requires.room.shard in
    let at : object_at f.posts.entries (Some c.in-Some.index) ≡ Some o = ap (object_at f.posts.entries) (sym c.in-Some.is) ∙ r in
    within_at f.posts.entries c.in-Some.index o at

pub ask-requires-clause-there : goal.ask-requires-clause-there
ask-requires-clause-there g c =
    let f = c.self.inside in
    let o : Object = object_for g.J.Job.told c.args.job.now c.args.op in
    let r : object_at f.posts.entries f.reserved ≡ Some o = ap (λ (s : ShardState g.row.J.Denot). s.reserved) c.self.view_is ∙ c.requires.room.shard in
    let at : object_at f.posts.entries (Some c.in-Some.index) ≡ Some o = ap (object_at f.posts.entries) (sym c.in-Some.is) ∙ r in
    within_at f.posts.entries c.in-Some.index o at

pub ask-requires-clause-reserved : goal.ask-requires-clause-reserved
ask-requires-clause-reserved g c = λ post value.
    let f = c.self.inside in
    let o : Object = object_for g.J.Job.told c.args.job.now c.args.op in
    let r : object_at f.posts.entries f.reserved ≡ Some o = ap (λ (s : ShardState g.row.J.Denot). s.reserved) c.self.view_is ∙ c.requires.room.shard in
    let at : object_at f.posts.entries (Some c.in-Some.index) ≡ Some o = ap (object_at f.posts.entries) (sym c.in-Some.is) ∙ r in
    reserved_here f.posts.entries c.in-Some.index o post c.self.invariant.0.distinct at value (memory_at f.log f.jobs f.spare f.posts.entries (object_at f.posts.entries f.reserved) o c.self.invariant.1.1.0 r).post

pub ask-requires-clause-small : goal.ask-requires-clause-small
ask-requires-clause-small g c = λ post value.
    let f = c.self.inside in
    let o : Object = object_for g.J.Job.told c.args.job.now c.args.op in
    let r : object_at f.posts.entries f.reserved ≡ Some o = ap (λ (s : ShardState g.row.J.Denot). s.reserved) c.self.view_is ∙ c.requires.room.shard in
    let at : object_at f.posts.entries (Some c.in-Some.index) ≡ Some o = ap (object_at f.posts.entries) (sym c.in-Some.is) ∙ r in
    let after = after_last c.last_stamp.result (last_entry f.log.items) c.in-Some-stamp_after.stamp (c.in-Some-stamp_after.ensures.0 ∙ ap (λ (l : List Entry). max c.last_stamp.result (last_entry l) + 1) c.as_slice.ensures.value) in
    small_at g.J.Job.told f.log.items (object_at f.posts.entries f.touched) f.posts.entries o c.path-2.result.now c.args.op c.self.invariant.0
    (few_entries f.log.items c.in-Some-stamp_after.stamp c.self.invariant.1.1.1 after c.in-Some-stamp_after.ensures.2) post (post_here f.posts.entries c.in-Some.index o post c.self.invariant.0.distinct at value)

pub invariant_of-self : goal.invariant_of-self
invariant_of-self g c =
    let f = c.self.inside in
    let o : Object = object_for g.J.Job.told c.args.job.now c.args.op in
    let r : object_at f.posts.entries f.reserved ≡ Some o = ap (λ (s : ShardState g.row.J.Denot). s.reserved) c.self.view_is ∙ c.requires.room.shard in
    let at : object_at f.posts.entries (Some c.in-Some.index) ≡ Some o = ap (object_at f.posts.entries) (sym c.in-Some.is) ∙ r in
    let same = asked_same f.posts.entries c.ask.new.posts.entries o c.path-2.result.now c.args.op (c.in-NotYet.ensures o at) in
    subst (λ (p : List (Object × Post g.row.J.Denot)). ArePosts g.J.Job.told f.log.items (object_at p f.touched) p × (IsCounted p f.count f.jobs × (HasMemoryIf f.log f.jobs f.spare p (object_at p f.reserved) × IsStamped f.log.items)))
    (sym same) c.self.invariant

pub returns-in-NotYet-clause-applies : goal.returns-in-NotYet-clause-applies
returns-in-NotYet-clause-applies g c =
    let f = c.self.inside in
    let told = g.J.Job.told in
    let o : Object = object_for told c.args.job.now c.args.op in
    let r : object_at f.posts.entries f.reserved ≡ Some o = ap (λ (s : ShardState g.row.J.Denot). s.reserved) c.self.view_is ∙ c.requires.room.shard in
    let at : object_at f.posts.entries (Some c.in-Some.index) ≡ Some o = ap (object_at f.posts.entries) (sym c.in-Some.is) ∙ r in
    let a = settle told f.log.items (object_at f.posts.entries f.touched) f.posts.entries c.self.invariant.0 (subst (λ (s : ShardState g.row.J.Denot). All (MustWait told s.log) s.waiting) (sym c.self.view_is) c.requires.settled) in
    let own : object_of c.path-2.result.now c.args.op ≡ o = ap (λ p. object_of p c.args.op) c.path-2.ensures in
    let same = asked_same f.posts.entries c.ask.new.posts.entries o c.path-2.result.now c.args.op (c.in-NotYet.ensures o at) in
    let none = no_reply (reply_after (of_object o f.log.items) c.path-2.result.now c.args.op) (asked_answer told f.log.items f.posts.entries c.ask.new.posts.entries o c.path-2.result.now c.args.op NotYet (c.in-NotYet.ensures o at) own a) in
    waits_of told c.args.self.now _ f.log.items c.args.job.now c.args.op o
    (ap (λ (s : ShardState g.row.J.Denot). s.log) c.self.view_is) refl (ap (λ x. reply_after (of_object o f.log.items) x c.args.op) (sym c.path-2.ensures) ∙ none)
    (ap (λ (p : List (Object × Post g.row.J.Denot)). record { number = f.number; events = f.events; log = f.log.items; waiting = waiting_in p; reserved = object_at p f.reserved }) same ∙ c.self.view_is)

pub invariant_of-self-2 : goal.invariant_of-self-2
invariant_of-self-2 g c =
    let f = c.self.inside in
    let told = g.J.Job.told in
    let o : Object = object_for told c.args.job.now c.args.op in
    let r : object_at f.posts.entries f.reserved ≡ Some o = ap (λ (s : ShardState g.row.J.Denot). s.reserved) c.self.view_is ∙ c.requires.room.shard in
    let at : object_at f.posts.entries (Some c.in-Some.index) ≡ Some o = ap (object_at f.posts.entries) (sym c.in-Some.is) ∙ r in
    let a = settle told f.log.items (object_at f.posts.entries f.touched) f.posts.entries c.self.invariant.0 (subst (λ (s : ShardState g.row.J.Denot). All (MustWait told s.log) s.waiting) (sym c.self.view_is) c.requires.settled) in
    let own : object_of c.path-2.result.now c.args.op ≡ o = ap (λ p. object_of p c.args.op) c.path-2.ensures in
    let after = after_last c.last_stamp.result (last_entry f.log.items) c.in-Some-stamp_after.stamp (c.in-Some-stamp_after.ensures.0 ∙ ap (λ (l : List Entry). max c.last_stamp.result (last_entry l) + 1) c.as_slice.ensures.value) in
    let q = done_exactly (reply_after (of_object o f.log.items) c.path-2.result.now c.args.op) c.in-Done.reply (asked_answer told f.log.items f.posts.entries c.ask.new.posts.entries o c.path-2.result.now c.args.op (Done c.in-Done.reply) (c.in-Done.ensures o at) own a) in
    let e : Entry = entry_with c.in-Some-stamp_after.stamp c.args.worker c.copy-2.result c.args.op c.copy-3.result in
    let t : c.copy-2.result ≡ (told c.args.job.now).path = c.copy-2.ensures ∙ c.path-3.ensures ∙ ap (λ (h : Held g.row.J-Start.Denot). h.path) (c.note.ensures.told e refl (c.copy-3.ensures ∙ sym c.copy.ensures)) in
    let k = c.in-Done.ensures o at in
    let waits = asked_waiting told f.log.items None f.posts.entries c.ask.new.posts.entries o c.path-2.result.now c.args.op (Done c.in-Done.reply) k a in
    let moved : object_at c.ask.new.posts.entries c.touched-self-inside.result ≡ touched_by o c.args.op = ap (object_at c.ask.new.posts.entries) c.touched-self-inside.ensures ∙ touched_at (keys_of c.ask.new.posts.entries) c.in-Some.index o c.args.op (stays_at f.posts.entries o k.after c.ask.new.posts.entries k.is (Some c.in-Some.index) ∙ at) in (
      subst (λ (l : List Entry). ArePosts told l (object_at c.ask.new.posts.entries c.touched-self-inside.result) c.ask.new.posts.entries) (sym c.push_reserved.ensures.items)
          (subst (λ x. ArePosts told (f.log.items ++ e ∷ []) x c.ask.new.posts.entries) (sym moved)
          (asked_moves told f.log.items f.posts.entries c.ask.new.posts.entries o c.path-2.result.now c.args.op (Done c.in-Done.reply) e (c.in-Done.ensures o at) own (t ∙ sym c.path-2.ensures) refl
          (q ∙ ap Some (sym c.copy-3.ensures)) a)),
      (counted_same f.posts.entries c.ask.new.posts.entries f.count f.jobs c.self.invariant.1.0 waits, (tt, subst IsStamped (sym c.push_reserved.ensures.items) (stamped_more f.log.items e c.self.invariant.1.1.1 after))),
    )

pub returns-clause-applies : goal.returns-clause-applies
returns-clause-applies g c =
    let f = c.self.inside in
    let told = g.J.Job.told in
    let o : Object = object_for told c.args.job.now c.args.op in
    let r : object_at f.posts.entries f.reserved ≡ Some o = ap (λ (s : ShardState g.row.J.Denot). s.reserved) c.self.view_is ∙ c.requires.room.shard in
    let at : object_at f.posts.entries (Some c.in-Some.index) ≡ Some o = ap (object_at f.posts.entries) (sym c.in-Some.is) ∙ r in
    let a = settle told f.log.items (object_at f.posts.entries f.touched) f.posts.entries c.self.invariant.0 (subst (λ (s : ShardState g.row.J.Denot). All (MustWait told s.log) s.waiting) (sym c.self.view_is) c.requires.settled) in
    let own : object_of c.path-2.result.now c.args.op ≡ o = ap (λ p. object_of p c.args.op) c.path-2.ensures in
    let q = done_exactly (reply_after (of_object o f.log.items) c.path-2.result.now c.args.op) c.in-Done.reply (asked_answer told f.log.items f.posts.entries c.ask.new.posts.entries o c.path-2.result.now c.args.op (Done c.in-Done.reply) (c.in-Done.ensures o at) own a) in
    let e : Entry = entry_with c.in-Some-stamp_after.stamp c.args.worker c.copy-2.result c.args.op c.copy-3.result in
    let t : c.copy-2.result ≡ (told c.args.job.now).path = c.copy-2.ensures ∙ c.path-3.ensures ∙ ap (λ (h : Held g.row.J-Start.Denot). h.path) (c.note.ensures.told e refl (c.copy-3.ensures ∙ sym c.copy.ensures)) in
    let waits = asked_waiting told f.log.items None f.posts.entries c.ask.new.posts.entries o c.path-2.result.now c.args.op (Done c.in-Done.reply) (c.in-Done.ensures o at) a in
    enters_of told c.args.self.now _ f.log.items c.args.job.now c.note.new.job c.args.op c.args.worker c.in-Done.reply o c.in-Some-stamp_after.stamp c.last_stamp.result e
    (ap (λ (s : ShardState g.row.J.Denot). s.log) c.self.view_is) refl (ap (λ x. reply_after (of_object o f.log.items) x c.args.op) (sym c.path-2.ensures) ∙ q) c.last_stamp.ensures
    (c.in-Some-stamp_after.ensures.0 ∙ ap (λ (l : List Entry). max c.last_stamp.result (last_entry l) + 1) c.as_slice.ensures.value)
    (subst (λ (n : ℕ). c.in-Some-stamp_after.stamp ≤ n) (ap (λ (s : ShardState g.row.J.Denot). s.events) c.self.view_is) c.in-Some-stamp_after.ensures.1)
    (same_entry c.in-Some-stamp_after.stamp c.in-Some-stamp_after.stamp c.args.worker c.copy-2.result (told c.args.job.now).path c.args.op c.copy-3.result c.in-Done.reply refl t c.copy-3.ensures)
    (ap (λ (l : List Entry). record { number = f.number; events = f.events; log = l; waiting = waiting_in c.ask.new.posts.entries; reserved = None }) c.push_reserved.ensures.items
    ∙ ap (λ ws. record { number = f.number; events = f.events; log = f.log.items ++ e ∷ []; waiting = ws; reserved = None }) waits
    ∙ ap (λ (s : ShardState g.row.J.Denot). record s { log = f.log.items ++ e ∷ []; reserved = None }) c.self.view_is)
    (λ x s q. c.note.ensures.told x s (q ∙ sym c.copy.ensures))
