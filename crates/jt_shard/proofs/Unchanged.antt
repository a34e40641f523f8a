-- What the laws read of a list of entries stays the same after an entry that changes nothing.
use Rattle.std.proofs.Common.{◌≡◌, ℤ, List, [], ◌∷◌, ◌++◌, Option, Some, None, Bool, true, false, refl, ap, ◌∙◌, cond}
use Rattle.std.specs.Prelude.{◌&&◌, ◌||◌, not, find, filter_map}
use Rattle.std.specs.List.{cons_option}
use Rattle.std.specs.Option.{option_or}
use Rattle.std.proofs.lemmas.List.{append-nil}
use Rattle.std.proofs.lemmas.List.Elements.{filter_map-append}
use Rattle.std.proofs.lemmas.List.Folds.{find-append, list_any-append}
use Rattle.jt_base.specs.declared.operation.Op.{Op}
use Rattle.jt_base.specs.declared.operation.Op.TheVariants.{Begin, End, Fail, Put, Offer, Landed, Take, Next, Close, IsOpen, IsReady}
use Rattle.jt_base.specs.declared.operation.Reply.{Reply}
use Rattle.jt_base.specs.declared.entry.Entry.{Entry}
use Rattle.jt_laws.specs.Entries.{ends}
use Rattle.jt_laws.specs.Tasks.{ok_if, is_begin, has_begun, has_ended}
use Rattle.jt_laws.specs.Channels.{item_put, item_taken, is_close, items_in, items_out, is_closed}
use Rattle.jt_laws.specs.Atomics.{written, last_written}
use Rattle.jt_laws.proofs.TaskLaws.{begun_push, ended_push}
use Rattle.jt_shard.specs.Changing.{changes}

or_nothing : (b c : Bool) → c ≡ false → (b || (c || false)) ≡ b
or_nothing true c n = refl
or_nothing false c n = ap (λ v. v || false) n

or_none : (o : Option Entry) → option_or o None ≡ o
or_none (Some e) = refl
or_none None = refl

-- such an entry neither begins a task nor ends it
no_begin : (op : Op) → changes op ≡ false → is_begin op ≡ false
no_begin Begin n = absurd (cc)
no_begin op n = refl

no_end : (op : Op) → changes op ≡ false → ends op ≡ false
no_end (End value) n = absurd (cc)
no_end (Fail fault) n = absurd (cc)
no_end op n = refl

pub still_begun : (own : List Entry) (e : Entry) → changes e.op ≡ false → has_begun (own ++ e ∷ []) ≡ has_begun own
still_begun own e n = begun_push own e ∙ or_nothing (has_begun own) (is_begin e.op) (no_begin e.op n)

still_ended : (own : List Entry) (e : Entry) → changes e.op ≡ false → has_ended (own ++ e ∷ []) ≡ has_ended own
still_ended own e n = ended_push own e ∙ or_nothing (has_ended own) (ends e.op) (no_end e.op n)

pub same_end : (own : List Entry) (e : Entry) → changes e.op ≡ false → find (λ x. ends x.op) (own ++ e ∷ []) ≡ find (λ x. ends x.op) own
same_end own e n =
    find-append (λ (x : Entry). ends x.op) own (e ∷ [])
    ∙ ap (λ b. option_or (find (λ x. ends x.op) own) (cond b (Some e) None)) (no_end e.op n) ∙ or_none (find (λ x. ends x.op) own)

pub same_running : (own : List Entry) (e : Entry) → changes e.op ≡ false → ok_if (has_begun (own ++ e ∷ []) && not (has_ended (own ++ e ∷ []))) ≡ ok_if (has_begun own && not (has_ended own))
same_running own e n =
    ap (λ b. ok_if (b && not (has_ended (own ++ e ∷ [])))) (still_begun own e n) ∙ ap (λ b. ok_if (has_begun own && not b)) (still_ended own e n)

-- a channel: an entry that only looks neither puts an item in nor takes one out, and closes nothing
abbrev pub looks_at_channel : Op → Bool
looks_at_channel (Landed name number) = true
looks_at_channel (IsOpen name) = true
looks_at_channel (IsReady name) = true
looks_at_channel op = false

no_item_in : (op : Op) (r : Reply) → looks_at_channel op ≡ true → item_put op r ≡ None
no_item_in (Put name v) r l = absurd (cc)
no_item_in (Offer name v) r l = absurd (cc)
no_item_in op r l = refl

no_item_out : (op : Op) (r : Reply) → looks_at_channel op ≡ true → item_taken op r ≡ None
no_item_out (Take name) r l = absurd (cc)
no_item_out (Next name) r l = absurd (cc)
no_item_out op r l = refl

no_close : (op : Op) → looks_at_channel op ≡ true → is_close op ≡ false
no_close (Close name) l = absurd (cc)
no_close op l = refl

items_more : (f : Entry → Option ℤ) (own : List Entry) (e : Entry) → f e ≡ None → filter_map f (own ++ e ∷ []) ≡ filter_map f own
items_more f own e n =
    filter_map-append f own (e ∷ []) ∙ ap (λ (o : Option ℤ). filter_map f own ++ cons_option o []) n ∙ append-nil (filter_map f own)

pub same_in : (own : List Entry) (e : Entry) → looks_at_channel e.op ≡ true → items_in (own ++ e ∷ []) ≡ items_in own
same_in own e l = items_more (λ (x : Entry). item_put x.op x.reply) own e (no_item_in e.op e.reply l)

pub same_out : (own : List Entry) (e : Entry) → looks_at_channel e.op ≡ true → items_out (own ++ e ∷ []) ≡ items_out own
same_out own e l = items_more (λ (x : Entry). item_taken x.op x.reply) own e (no_item_out e.op e.reply l)

pub same_close : (own : List Entry) (e : Entry) → looks_at_channel e.op ≡ true → is_closed (own ++ e ∷ []) ≡ is_closed own
same_close own e l =
    list_any-append (λ (x : Entry). is_close x.op) own (e ∷ []) ∙ or_nothing (is_closed own) (is_close e.op) (no_close e.op l)

-- a read of an atomic number writes nothing
pub last_more : (own : List Entry) (e : Entry) → written e.op e.reply ≡ None → last_written (own ++ e ∷ []) ≡ last_written own
last_more [] e n = n
last_more (x ∷ xs) e n = ap (λ w. option_or w (written x.op x.reply)) (last_more xs e n)
