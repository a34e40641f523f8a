-- Entries of a trace, a line each.
use Rattle.std.specs.Prelude.{◌≡◌, ℕ, Bool, true, false, List, [], ◌∷◌, ◌++◌, codes, decimal}
use Rattle.std.specs.Fmt.{signed_decimal}
use Rattle.jt_base.specs.declared.entry.Entry.{Entry}
use Rattle.jt_base.specs.declared.operation.Op.{Op}
use Rattle.jt_base.specs.declared.operation.Op.TheVariants as op
use Rattle.jt_base.specs.declared.operation.Reply.{Reply}
use Rattle.jt_base.specs.declared.operation.Reply.TheVariants as reply
use Rattle.jt_trace_text.specs.Lines.{Bytes}
use Rattle.jt_trace_text.specs.Words.{most_u32, IsDecimal, Signed, flag_text, path_text, IsPath, value_text, IsValue}
use Rattle.jt_trace_text.specs.Operations.{spaced, operation_text, FitsOperation}

-- ---- replies

abbrev pub reply_text : Reply → Bytes
reply_text reply.Ok = codes "ok"
reply_text (reply.Int z) = signed_decimal z
reply_text (reply.Flag b) = flag_text b
reply_text (reply.Val v) = value_text v
reply_text reply.Failed = codes "failed"
reply_text reply.Closed = codes "closed"
reply_text reply.NoItem = codes "none"
reply_text reply.NotLocked = codes "notlocked"
reply_text reply.NotOwner = codes "notowner"
reply_text reply.NotHeld = codes "notheld"

abbrev pub is_fetch : Op → Bool
is_fetch (op.Fetch p) = true
is_fetch o = false

-- Val is the reply of a fetch alone, Int and Flag are replies of other operations alone
abbrev pub FitsReply : Bool → Reply → Type 0
FitsReply fetch (reply.Val v) = (fetch ≡ true) × IsValue v (value_text v)
FitsReply fetch (reply.Int z) = (fetch ≡ false) × Signed z
FitsReply fetch (reply.Flag b) = fetch ≡ false
FitsReply fetch r = Unit {0}

pub record IsReply (fetch : Bool) (r : Reply) (w : Bytes) : Type 0 where
  pub fits : FitsReply fetch r
  pub is : w ≡ reply_text r

-- ---- entries

-- stamp, worker, task, operation, a sign, reply
abbrev pub entry_line : Entry → Bytes
entry_line e = spaced (decimal e.stamp) ++ (spaced (decimal e.worker) ++ (spaced (path_text e.task) ++ (operation_text e.op ++ (codes "= " ++ (reply_text e.reply ++ 10 ∷ [])))))

-- an entry whose stamp is at most so much
pub record IsEntry (most : ℕ) (e : Entry) (l : Bytes) : Type 0 where
  pub stamp : IsDecimal 1 most e.stamp (decimal e.stamp)
  pub worker : IsDecimal 0 most_u32 e.worker (decimal e.worker)
  pub task : IsPath e.task (path_text e.task)
  pub op : FitsOperation e.op
  pub reply : FitsReply (is_fetch e.op) e.reply
  pub is : l ≡ entry_line e

-- a line for each entry, and nothing behind them
abbrev pub AreEntries : ℕ → List Entry → Bytes → Type 0
AreEntries most [] w = w ≡ []
AreEntries most (e ∷ es) w = (l : Bytes) × (rest : Bytes) × IsEntry most e l × AreEntries most es rest × (w ≡ l ++ rest)
