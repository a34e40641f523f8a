-- Which operations may change the state of their object.
use Rattle.std.specs.Prelude.{◌≡◌, ℕ, List, [], ◌∷◌, ◌++◌, Some, None, Bool, true, false}
use Rattle.jt_base.specs.declared.operation.Op.{Op}
use Rattle.jt_base.specs.declared.operation.Op.TheVariants.{Fetch, Wait, Yield, Print, Landed, IsOpen, IsReady, AGet}
use Rattle.jt_base.specs.declared.entry.Entry.{Entry}
use Rattle.jt_base.specs.Objects.{object_of}
use Rattle.jt_laws.specs.Entries.{object}
use Rattle.jt_laws.specs.Objects.{reply_after}

-- those that only look, wait for a task or an offer, yield or print don't
abbrev pub changes : Op → Bool
changes (Fetch path) = false
changes (Wait path) = false
changes Yield = false
changes (Print text) = false
changes (Landed name number) = false
changes (IsOpen name) = false
changes (IsReady name) = false
changes (AGet name) = false
changes op = true

-- after an entry of this operation an object refuses what it refused before
abbrev pub KeepsRefusals : Op → Type 0
KeepsRefusals kept =
    (past : List Entry) (e : Entry) (task : List ℕ) (op : Op) → e.op ≡ kept → reply_after past e.task e.op ≡ Some e.reply → object_of task op ≡ object e → reply_after past task op ≡ None → reply_after (past ++ e ∷ []) task op ≡ None
