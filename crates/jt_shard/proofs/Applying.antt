-- What becomes of an operation, by what callers see of the shard.
use Rattle.std.proofs.Common.{◌≡◌, ℕ, ◌+◌, ◌<◌, ◌≤◌, List, [], ◌∷◌, ◌++◌, Option, Some, None, refl, sym, ap, ◌∙◌, subst, max}
use Rattle.jt_base.specs.declared.operation.Op.{Op}
use Rattle.jt_base.specs.declared.operation.Reply.{Reply}
use Rattle.jt_base.specs.declared.entry.Entry.{Entry}
use Rattle.jt_base.specs.declared.entry.Ask.TheVariants.{Done}
use Rattle.jt_base.specs.Jobs.{Held, last_note}
use Rattle.jt_base.specs.declared.object.Object.{Object}
use Rattle.jt_laws.specs.Entries.{of_object}
use Rattle.jt_laws.specs.Objects.{reply_after, answer_of}
use Rattle.jt_laws.specs.Seats.{seat_after}
use Rattle.jt_histories.specs.Jobs.{last_entry, noted_job}
use Rattle.jt_shard.specs.Shards.{ShardState, object_for, reply_now, next_stamp, next_entry}
use Rattle.jt_shard.specs.Calls.{Enters, Waits, IsAtStampLimit}

pub done_exactly : (o : Option Reply) (r : Reply) → Done r ≡ answer_of o → o ≡ Some r
done_exactly (Some s) r e = let p : s ≡ r = cc in ap Some p
done_exactly None r e = absurd (cc)

abbrev pub entry_with : ℕ → ℕ → List ℕ → Op → Reply → Entry
entry_with stamp worker task op reply = record { stamp = stamp; worker = worker; task = task; op = op; reply = reply }

pub same_entry : (stamp stamp' worker : ℕ) (task task' : List ℕ) (op : Op) (reply reply' : Reply) → stamp ≡ stamp' → task ≡ task' → reply ≡ reply' → entry_with stamp worker task op reply ≡ entry_with stamp' worker task' op reply'
same_entry stamp stamp' worker task task' op reply reply' s t r =
    ap (λ x. entry_with x worker task op reply) s ∙ ap (λ x. entry_with stamp' worker x op reply) t ∙ ap (λ x. entry_with stamp' worker task' op x) r

module _ {J S : Type 0} (told : J → Held S) where
  -- the reply at an object is that for the job
  pub reply_here : (log : List Entry) (j : J) (op : Op) (o : Object) (r : Option Reply) → o ≡ object_for told j op → reply_after (of_object o log) (told j).path op ≡ r → reply_now told log j op ≡ r
  reply_here log j op o r is e = ap (λ x. reply_after (of_object x log) (told j).path op) (sym is) ∙ e

  pub limit_of : (s : ShardState J) (log : List Entry) (j : J) (op : Op) (o : Object) (last events : ℕ) → log ≡ s.log → events ≡ s.events → o ≡ object_for told j op → ((r : Reply) × (reply_after (of_object o log) (told j).path op ≡ Some r)) → last ≡ last_note (told j).log → events < max last (last_entry log) + 1 → IsAtStampLimit told s j op op s j
  limit_of s log j op o last events l v is r n b = record {
    same = refl;
    allowed = (r.0, ap (λ x. reply_now told x j op) (sym l) ∙ reply_here log j op o (Some r.0) is r.1);
    beyond = subst (λ x. s.events < next_stamp told x j) l (subst (λ x. s.events < max x (last_entry log) + 1) n (subst (λ x. x < max last (last_entry log) + 1) v b));
    shard = refl;
    job = refl;
  }

  pub waits_of : (s s' : ShardState J) (log : List Entry) (j : J) (op : Op) (o : Object) → log ≡ s.log → o ≡ object_for told j op → reply_after (of_object o log) (told j).path op ≡ None → s' ≡ s → Waits told s j op op s' j
  waits_of s s' log j op o l is r k = record {
    same = refl;
    not_allowed = ap (λ x. reply_now told x j op) (sym l) ∙ reply_here log j op o None is r;
    shard = k;
    job = refl;
  }

  pub enters_of : (s s' : ShardState J) (log : List Entry) (j j' : J) (op : Op) (worker : ℕ) (reply : Reply) (o : Object) (stamp last : ℕ) (e : Entry) → log ≡ s.log → o ≡ object_for told j op → reply_after (of_object o log) (told j).path op ≡ Some reply
      → last ≡ last_note (told j).log → stamp ≡ max last (last_entry log) + 1 → stamp ≤ s.events → e ≡ entry_with stamp worker (told j).path op reply → s' ≡ record s { log = log ++ e ∷ []; reserved = None }
      → ((x : Entry) → x.stamp ≡ stamp → x.reply ≡ reply → told j' ≡ noted_job S (told j) (seat_after (told j).seat op worker) x) → Enters told s j op worker reply s' j'
  enters_of s s' log j j' op worker reply o stamp last e l is r n t w same k noted =
      let stamped : stamp ≡ next_stamp told s.log j = t ∙ ap (λ x. max x (last_entry log) + 1) n ∙ ap (λ x. next_stamp told x j) l in
      record {
        allowed = ap (λ x. reply_now told x j op) (sym l) ∙ reply_here log j op o (Some reply) is r;
        within = subst (λ x. x ≤ s.events) stamped w;
        shard = k ∙ ap (λ x. record s { log = x ++ e ∷ []; reserved = None }) l
            ∙ ap (λ x. record s { log = s.log ++ x ∷ []; reserved = None }) (same ∙ ap (λ x. entry_with x worker (told j).path op reply) stamped);
        job = noted (next_entry told s.log j op worker reply) (sym stamped) refl;
      }
