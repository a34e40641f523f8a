-- A command's numbers lie within their limits.
use Rattle.std.proofs.Common.{codes, ◌≡◌, ◌∙◌, ℕ, ◌≤◌, ◌<◌, ◌⊎◌, List, [], ◌∷◌, Option, Some, None, Bool, true, false, ◌&&◌, inl, inr, refl, sym, ap, subst, length, lit≤, true≢false}
use Rattle.std.specs.Prelude.{if◌then◌else◌, nat_le, unwrap_or}
use Rattle.std.proofs.lemmas.Bool.Decides.{leb_tells}
use Rattle.jt_base.specs.declared.run.Sizes.{Sizes}
use Rattle.jt_words.specs.Options.{Text, value_of}
use Rattle.jt_words.specs.Values.{ancestor_named, ancestry_named, each, fields, number, number_named, one_worker, or_default, required, short, sizes_in, sizes_named, sizes_with, total, within}
use Rattle.jt_words.specs.Commands.{IsCommand, AreRunOptions, IsRunWithinLimits, IsWithinLimits}
use Rattle.jt_words.specs.declared.ancestry.Ancestor.{Ancestor}
use Rattle.jt_words.specs.declared.command.Command.{Command}
use Rattle.jt_words.specs.declared.command.Command.TheVariants.{Run, Trace, Check, Draws, Gen}
use Rattle.jt_words.specs.declared.command.RunOptions.{RunOptions}
use Rattle.jt_words.proofs.Walks.{some≢none}

is_some_of : {X : Type 0} (x y : X) → Some x ≡ Some y → x ≡ y
is_some_of x y e = ap (λ o. unwrap_or o x) e

at_most : (a b : ℕ) → nat_le a b ≡ true → a ≤ b
at_most a b e = by (leb_tells a b)
  where
    by : ((nat_le a b ≡ true) × (a ≤ b)) ⊎ ((nat_le a b ≡ false) × (b < a)) → a ≤ b
    by (inl h) = h.1
    by (inr h) = absurd (true≢false (sym e ∙ h.0))

abbrev IsWithin : ℕ → ℕ → ℕ → Type 0
IsWithin least most n = (least ≤ n) × (n ≤ most)

in_range : (least most : ℕ) (o : Option ℕ) (n : ℕ) → within least most o ≡ Some n → IsWithin least most n
in_range least most None n e = absurd (some≢none n (sym e))
in_range least most (Some k) n e = by (nat_le least k) refl (nat_le k most) refl e
  where
    by : (p : Bool) → nat_le least k ≡ p → (q : Bool) → nat_le k most ≡ q → (if p && q then Some k else None) ≡ Some n → IsWithin least most n
    by true low true high e = subst (IsWithin least most) (is_some_of k n e) (at_most least k low, at_most k most high)
    by true low false high e = absurd (some≢none n (sym e))
    by false low q high e = absurd (some≢none n (sym e))

default_in_range : (default least most : ℕ) (given : Option Text) (n : ℕ) → IsWithin least most default → or_default default (number least most) given ≡ Some n → IsWithin least most n
default_in_range default least most None n has e = subst (IsWithin least most) (is_some_of default n e) has
default_in_range default least most (Some text) n has e = in_range least most (number_named text) n e

required_in_range : (least most : ℕ) (given : Option Text) (n : ℕ) → required (number least most) given ≡ Some n → IsWithin least most n
required_in_range least most None n e = absurd (some≢none n (sym e))
required_in_range least most (Some text) n e = in_range least most (number_named text) n e

-- ---- numbers of workers

abbrev AreSizes : Sizes → Type 0
AreSizes sizes = IsWithin 1 64 sizes.default × (sizes.interactive ≤ 16)

both_in_range : (a b : Option ℕ) (sizes : Sizes) → ((n : ℕ) → a ≡ Some n → IsWithin 1 64 n) → ((n : ℕ) → b ≡ Some n → n ≤ 16) → sizes_with a b ≡ Some sizes → AreSizes sizes
both_in_range (Some n) (Some m) sizes first second e = subst AreSizes (is_some_of (record { default = n; interactive = m }) sizes e) (first n refl, second m refl)
both_in_range (Some n) None sizes first second e = absurd (some≢none sizes (sym e))
both_in_range None b sizes first second e = absurd (some≢none sizes (sym e))

sizes_in_range : (texts : List Text) (sizes : Sizes) → sizes_in texts ≡ Some sizes → AreSizes sizes
sizes_in_range [] sizes e = absurd (some≢none sizes (sym e))
sizes_in_range (n ∷ []) sizes e = both_in_range (number 1 64 n) (Some 0) sizes (λ k. in_range 1 64 (number_named n) k) (λ k is. subst (λ k. k ≤ 16) (is_some_of 0 k is) (lit≤ tt)) e
sizes_in_range (n ∷ m ∷ []) sizes e = both_in_range (number 1 64 n) (number 0 16 m) sizes (λ k. in_range 1 64 (number_named n) k) (λ k is. (in_range 0 16 (number_named m) k is).1) e
sizes_in_range (n ∷ m ∷ more ∷ rest) sizes e = absurd (some≢none sizes (sym e))

default_sizes : (given : Option Text) (sizes : Sizes) → or_default one_worker sizes_named given ≡ Some sizes → AreSizes sizes
default_sizes None sizes e = subst AreSizes (is_some_of one_worker sizes e) ((lit≤ tt, lit≤ tt), lit≤ tt)
default_sizes (Some text) sizes e = sizes_in_range (fields 44 text) sizes e

-- ---- ancestors

abbrev AreShort : List Ancestor → Type 0
AreShort ancestors = (length ancestors ≤ 48) × (total ancestors ≤ 1000000)

short_in_range : (o : Option (List Ancestor)) (ancestors : List Ancestor) → short o ≡ Some ancestors → AreShort ancestors
short_in_range None ancestors e = absurd (some≢none ancestors (sym e))
short_in_range (Some list) ancestors e = by (nat_le (length list) 48) refl (nat_le (total list) 1000000) refl e
  where
    by : (p : Bool) → nat_le (length list) 48 ≡ p → (q : Bool) → nat_le (total list) 1000000 ≡ q → (if p && q then Some list else None) ≡ Some ancestors → AreShort ancestors
    by true few true small e = subst AreShort (is_some_of list ancestors e) (at_most (length list) 48 few, at_most (total list) 1000000 small)
    by true few false small e = absurd (some≢none ancestors (sym e))
    by false few q small e = absurd (some≢none ancestors (sym e))

default_ancestry : (given : Option Text) (ancestors : List Ancestor) → or_default [] ancestry_named given ≡ Some ancestors → AreShort ancestors
default_ancestry None ancestors e = subst AreShort (is_some_of [] ancestors e) (lit≤ tt, lit≤ tt)
default_ancestry (Some text) ancestors e = short_in_range (each ancestor_named (fields 44 text)) ancestors e

-- ---- commands

run_within : (words : List Text) (run : RunOptions) → AreRunOptions words run → IsRunWithinLimits run
run_within words run is =
    let sizes = default_sizes (value_of (codes "threads") is.options) run.sizes is.threads in
    record {
      default = sizes.0;
      interactive = sizes.1;
      turns = default_in_range 100000000 1 1000000000 (value_of (codes "max-turns") is.options) run.limits.turns (lit≤ tt, lit≤ tt) is.turns;
      events = default_in_range 262144 1 262144 (value_of (codes "max-events") is.options) run.limits.events (lit≤ tt, lit≤ tt) is.events;
    }

pub within_limits : (words : List Text) (c : Command) → IsCommand words c → IsWithinLimits c
within_limits [] c says = absurd says
within_limits (first ∷ words) (Run run) (named, says) = run_within words run says
within_limits (first ∷ words) (Trace run) (named, says) = run_within words run says
within_limits (first ∷ words) Check says = tt
within_limits (first ∷ words) (Draws draws) (named, says) =
    let few = default_ancestry (value_of (codes "path") says.options) draws.ancestry says.path in
    (required_in_range 1 1000 (value_of (codes "count") says.options) draws.count says.count, few.0, few.1)
within_limits (first ∷ words) (Gen gen) (named, says) = required_in_range 1 80 (value_of (codes "size") says.options) gen.size says.size
