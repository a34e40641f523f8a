-- Tasks: what ends has begun.
use Rattle.std.proofs.Common.{◌≡◌, ℕ, List, [], ◌∷◌, ◌++◌, Some, Bool, true, false, refl, sym, ap, ◌∙◌}
use Rattle.std.specs.Prelude.{◌&&◌, ◌||◌, not}
use Rattle.std.proofs.lemmas.List.Folds.{list_any-append}
use Rattle.jt_base.specs.declared.operation.Op.{Op}
use Rattle.jt_base.specs.declared.operation.Op.TheVariants.{End, Fail}
use Rattle.jt_base.specs.declared.operation.Reply.{Reply}
use Rattle.jt_base.specs.declared.entry.Entry.{Entry}
use Rattle.jt_laws.specs.Entries.{ends}
use Rattle.jt_laws.specs.Tasks.{ok_if, is_begin, has_begun, has_ended, is_running}
use Rattle.jt_laws.specs.Objects.{reply_after, IsLawful}
use Rattle.jt_laws.proofs.Lawful.{along}

pub when_ok : (b : Bool) (r : Reply) → ok_if b ≡ Some r → b ≡ true
when_ok true r e = refl
when_ok false r e = absurd (cc)

pub both_true : (a b : Bool) → (a && b) ≡ true → (a ≡ true) × (b ≡ true)
both_true true true e = (refl, refl)
both_true true false e = absurd (cc)
both_true false b e = absurd (cc)

-- one more entry
pub begun_push : (own : List Entry) (e : Entry) → has_begun (own ++ e ∷ []) ≡ (has_begun own || (is_begin e.op || false))
begun_push own e = list_any-append (λ (x : Entry). is_begin x.op) own (e ∷ [])

pub ended_push : (own : List Entry) (e : Entry) → has_ended (own ++ e ∷ []) ≡ (has_ended own || (ends e.op || false))
ended_push own e = list_any-append (λ (x : Entry). ends x.op) own (e ∷ [])

-- only a running task ends
pub ends_running : (own : List Entry) (task : List ℕ) (op : Op) (r : Reply) → reply_after own task op ≡ Some r → ends op ≡ true → is_running own ≡ true
ends_running own task (End value) r a e = when_ok (is_running own) r a
ends_running own task (Fail fault) r a e = when_ok (is_running own) r a
ends_running own task op r a e = absurd (cc)

begun_yet : (a b c d : Bool) → (a ≡ true → b ≡ true) → (c ≡ true → b ≡ true) → (a || (c || false)) ≡ true → (b || d) ≡ true
begun_yet true b c d f g e = ap (λ x. x || d) (f refl)
begun_yet false b true d f g e = ap (λ x. x || d) (g refl)
begun_yet false b false d f g e = absurd (cc)

pub ended_begun : (own : List Entry) → IsLawful own → has_ended own ≡ true → has_begun own ≡ true
ended_begun own l =
    let step = λ (past : List Entry) (e : Entry) (p : has_ended past ≡ true → has_begun past ≡ true) (a : reply_after past e.task e.op ≡ Some e.reply).
    λ (h : has_ended (past ++ e ∷ []) ≡ true).
    begun_push past e ∙ begun_yet (has_ended past) (has_begun past) (ends e.op) (is_begin e.op || false) p
    (λ q. (both_true (has_begun past) (not (has_ended past)) (ends_running past e.task e.op e.reply a q)).0) (sym (ended_push past e) ∙ h) in
    along (λ h. has_ended h ≡ true → has_begun h ≡ true) step [] own (λ e. absurd (cc)) l
