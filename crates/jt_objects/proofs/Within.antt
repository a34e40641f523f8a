-- The numbers in a state are no larger than the number of entries.
use Rattle.std.proofs.Common.{◌≡◌, ℕ, ◌<◌, ◌^◌, List, Option, Some, length, arith}
use Rattle.jt_base.specs.declared.operation.Op.{Op}
use Rattle.jt_base.specs.declared.operation.Op.TheVariants.{Offer, Lock}
use Rattle.jt_base.specs.declared.entry.Entry.{Entry}
use Rattle.jt_base.specs.declared.object.Object.{Object}
use Rattle.jt_laws.specs.Channels.{Channel, channel_left_by}
use Rattle.jt_laws.specs.Objects.{IsLawful}
use Rattle.jt_laws.proofs.Offers.{offers_le}
use Rattle.jt_channels.specs.Steps.{numbered}
use Rattle.jt_conditions.specs.Conditions.{Condition, condition_left_by}
use Rattle.jt_conditions.specs.Locks.{Holder, lock_left_by, level_in}
use Rattle.jt_conditions.proofs.EntryCounts.{lock_level, condition_level}
use Rattle.jt_objects.specs.States.{ObjectState, OfChannel, OfCondition, OfLock, left_by}
use Rattle.jt_objects.specs.Needs.{HasFewOffers, IsLevelSmall, IsWithin}
use Rattle.jt_objects.proofs.KindLeft.{channels, conditions, locks}
use Rattle.jt_objects.proofs.Left as kind

few_offers : (c : Channel) (op : Op) → numbered c < 2 ^ 32 → HasFewOffers c op
few_offers c (Offer name v) h = h
few_offers c op h = tt

small_level : (holder : Option Holder) (task : List ℕ) (op : Op) → level_in holder task < 2 ^ 32 → IsLevelSmall holder task op
small_level holder task (Lock name) h = h
small_level holder task op h = tt

pub within : (o : Object) (own : List Entry) (s : ObjectState) (task : List ℕ) (op : Op) → IsLawful own → left_by o own ≡ Some s → length own < 2 ^ 32 → IsWithin s task op
within o own (OfChannel c) task op l h few =
    let most = offers_le own c l (kind.left_of Channel channel_left_by OfChannel channels o own c h) in
    few_offers c op (omega (arith, most, few))
within o own (OfCondition c) task op l h few =
    let most = condition_level own c task l (kind.left_of Condition condition_left_by OfCondition conditions o own c h) in
    small_level c.holder task op (omega (arith, most, few))
within o own (OfLock holder) task op l h few =
    let most = lock_level own holder task l (kind.left_of (Option Holder) lock_left_by OfLock locks o own holder h) in
    small_level holder task op (omega (arith, most, few))
within o own s task op l h few = tt
