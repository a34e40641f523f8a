-- What clap makes of the words of a command that has options and flags alone: it walks over them as `options_from` does.
use Rattle.std.proofs.Common.{◌≡◌, ◌∙◌, ◌&&◌, ◌||◌, ◌++◌, ◌==◌, ℕ, Bool, cond, true, false, not, refl, sym, ap, ap₂, List, [], ◌∷◌, map, Option, Some, None, inl, inr, true≢false, append-nil}
use Rattle.std.specs.Prelude.{◌⊎◌, is_some, option_map}
use Rattle.std.specs.List.{find, fold, list_any, list_all}
use Rattle.std.specs.Option.{option_map_or}
use Rattle.std.specs.Str.{bytes_eq}
use Rattle.std.proofs.lemmas.Slice.Eq.{bytes_eq-Decides}
use Rattle.clap.specs.Lexer.{long_of, short_of, name_and_value}
use Rattle.clap.specs.Kinds.{IsAmong, Kinds, or_else}
use Rattle.clap.specs.Facts.{Entry}
use Rattle.clap.specs.Faults.{check_fault, defaults_fault, fault_of, is_simple_and_free, level_fault, settle_fault, step_fault, stray_fault, turn_fault, use_fault, walk_fault}
use Rattle.clap.specs.Simple.{App, HasMatchesOf, Shape, built, is_simple, matches_of}
use Rattle.clap.specs.Walk.{Held, Row, Rule, Walk, arg_by_id, arg_by_long, at_row, finished, has_row, nothing_held, row_of, rows_of, settled, used, walk, walk_from, walked, with_default}
use Rattle.clap.specs.Walk as clap
use Rattle.clap.specs.Simple as simple
use Rattle.clap.specs.Matches.{first_value, found_of, matched_of}
use Rattle.clap.specs.declared.builder.action.ArgAction.TheVariants as action
use Rattle.clap.specs.declared.builder.range.ValueRange.{ValueRange}
use Rattle.clap.specs.declared.builder.value_parser.ValueParser.TheVariants as vp
use Rattle.clap.specs.declared.builder.value_parser.Reading.TheVariants as reading
use Rattle.clap.specs.declared.parser.matches.ArgMatches.{ArgMatches}
use Rattle.clap.specs.declared.parser.matches.ValueSource.TheVariants as source
use Rattle.clap.specs.declared.error.kind.ErrorKind.{ErrorKind}
use Rattle.clap.specs.declared.error.kind.ErrorKind.TheVariants as kind
use Rattle.clap.proofs.FaultLemmas.{leaf_fault}
use Rattle.clap.proofs.WalkLemmas.{first_value-rows}
use Rattle.jt_words.specs.Options.{Choice, GivenOption, Text, is_given, takes_value, value_of}
use Rattle.jt_words.specs.Parser.{flag_rule, is_readable, option_rule, parser_of, rule_told}
use Rattle.jt_words.proofs.Walking.{Waiting, added, go_on, met, named, next, options_from, options_of, value, with_held}

-- how many values an option takes
abbrev pub width : Bool → ValueRange
width true = record { start_inclusive = 1; end_inclusive = 1 }
width false = record { start_inclusive = 0; end_inclusive = 0 }

-- an option as clap completes it
abbrev pub rule : Text → Bool → Rule
rule name takes = record (simple.new_rule name) {
  long = Some name;
  action = Some action.Set;
  range = Some (width takes);
  parser = Some vp.String;
}

abbrev pub rule_by : Choice → Rule
rule_by choice = rule choice.name choice.takes_value

abbrev pub values_of : Option Text → List Text
values_of None = []
values_of (Some v) = v ∷ []

abbrev pub row : GivenOption → Row
row o = record { id = o.0; values = values_of o.1; count = None; source = Some source.CommandLine; reading = reading.AsWritten }

filled : (choices : List Choice) → simple.filled_from 1 (map rule_told choices) ≡ map rule_by choices
filled [] = refl
filled (k ∷ ks) = by k.takes_value (filled ks)
  where
    by : (b : Bool) → simple.filled_from 1 (map rule_told ks) ≡ map rule_by ks
        → simple.filled_from 1 (cond b (option_rule k.name) (flag_rule k.name) ∷ map rule_told ks) ≡ rule k.name b ∷ map rule_by ks
    by true e = ap (λ rs. rule k.name true ∷ rs) e
    by false e = ap (λ rs. rule k.name false ∷ rs) e

-- ---- the arguments by their names

by_long : (choices : List Choice) (n : Text) → arg_by_long (map rule_by choices) n ≡ option_map (rule n) (takes_value choices n)
by_long [] n = refl
by_long (k ∷ ks) n = go (bytes_eq k.name n) (bytes_eq-Decides k.name n).0 (by_long ks n)
  where
    go : (b : Bool) → (b ≡ true → k.name ≡ n) → arg_by_long (map rule_by ks) n ≡ option_map (rule n) (takes_value ks n)
        → cond (b || false) (Some (rule_by k)) (arg_by_long (map rule_by ks) n) ≡ option_map (rule n) (cond b (Some k.takes_value) (takes_value ks n))
    go true same e = ap (λ t. Some (rule t k.takes_value)) (same refl)
    go false same e = e

by_id : (choices : List Choice) (n : Text) → arg_by_id (map rule_by choices) n ≡ option_map (rule n) (takes_value choices n)
by_id [] n = refl
by_id (k ∷ ks) n = go (bytes_eq k.name n) (bytes_eq-Decides k.name n).0 (by_id ks n)
  where
    go : (b : Bool) → (b ≡ true → k.name ≡ n) → arg_by_id (map rule_by ks) n ≡ option_map (rule n) (takes_value ks n)
        → cond b (Some (rule_by k)) (arg_by_id (map rule_by ks) n) ≡ option_map (rule n) (cond b (Some k.takes_value) (takes_value ks n))
    go true same e = ap (λ t. Some (rule t k.takes_value)) (same refl)
    go false same e = e

-- ---- rows

has_row_is : (n : Text) (done : List GivenOption) → has_row n (map row done) ≡ is_given n done
has_row_is n [] = refl
has_row_is n (o ∷ os) = ap (λ b. bytes_eq o.0 n || b) (has_row_is n os)

absent : (n : Text) (change : Row → List Row) (missing : List Row) (rows : List Row) → has_row n rows ≡ false → at_row n change missing rows ≡ rows ++ missing
absent n change missing [] e = refl
absent n change missing (r ∷ rs) e = go (bytes_eq r.id n) e (absent n change missing rs)
  where
    go : (b : Bool) → (b || has_row n rs) ≡ false → (has_row n rs ≡ false → at_row n change missing rs ≡ rs ++ missing)
        → cond b (change r ++ rs) (r ∷ at_row n change missing rs) ≡ r ∷ (rs ++ missing)
    go true e h = absurd (true≢false e)
    go false e h = ap (λ x. r ∷ x) (h e)

map_more : (done : List GivenOption) (o : GivenOption) → map row done ++ row o ∷ [] ≡ map row (done ++ o ∷ [])
map_more [] o = refl
map_more (d ∷ ds) o = ap (λ x. row d ∷ x) (map_more ds o)

-- a use of an option that has none
used_once : (done : List GivenOption) (n : Text) (v : Option Text) → is_given n done ≡ false
    → used (rule n (is_some v)) (values_of v) (map row done) ≡ map row (done ++ (n, v) ∷ [])
used_once done n v e = by v
  where
    put : (v : Option Text) → clap.with_values n reading.AsWritten source.CommandLine (values_of v) (clap.without n (map row done)) ≡ map row (done ++ (n, v) ∷ [])
    put v =
        let none : has_row n (map row done) ≡ false = has_row_is n done ∙ e in
        let cut = absent n (λ _. []) [] (map row done) none ∙ append-nil (map row done) in
        ap (λ rows. at_row n (clap.more_values source.CommandLine (values_of v)) (row (n, v) ∷ []) rows) cut
        ∙ absent n (clap.more_values source.CommandLine (values_of v)) (row (n, v) ∷ []) (map row done) none
        ∙ map_more done (n, v)

    by : (v : Option Text) → used (rule n (is_some v)) (values_of v) (map row done) ≡ map row (done ++ (n, v) ∷ [])
    by None = put None
    by (Some v) = put (Some v)

-- ---- what a word looks like

pub record Looks (w : Text) : Type 0 where
  pub no_dashes : bytes_eq w (45 ∷ 45 ∷ []) ≡ false
  pub plain : long_of w ≡ None → short_of w ≡ None

pub some≢none : {X : Type 0} (x : X) → Some x ≡ None → ⊥
some≢none x e = true≢false (ap (λ o. is_some o) e)

not_true : (p : Bool) → not p ≡ true → p ≡ false
not_true true h = absurd (true≢false (sym h))
not_true false h = refl

-- no hyphen first
looks_plain : (a : ℕ) (rest : Text) → (a == 45) ≡ false → Looks (a ∷ rest)
looks_plain a rest e = record { no_dashes = rw e refl; plain = λ _. rw e refl }

looks : (w : Text) → is_readable w ≡ true → Looks w
looks [] h = record { no_dashes = refl; plain = λ _. refl }
looks (a ∷ []) h = looks_plain a [] (not_true (a == 45) h)
looks (a ∷ b ∷ []) h = looks_plain a (b ∷ []) (not_true (a == 45) h)
looks (a ∷ b ∷ c ∷ rest) h = go (a == 45) (b == 45) h refl refl
  where
    go : (p q : Bool) → (not p || q) ≡ true → (a == 45) ≡ p → (b == 45) ≡ q → Looks (a ∷ b ∷ c ∷ rest)
    go false q h ea eb = looks_plain a (b ∷ c ∷ rest) ea
    go true false h ea eb = absurd (true≢false (sym h))
    go true true h ea eb =
        let long : long_of (a ∷ b ∷ c ∷ rest) ≡ Some (name_and_value (c ∷ rest)) = rw (ea, eb) refl in
        record { no_dashes = rw (ea, eb) refl; plain = λ none. absurd (some≢none _ (sym long ∙ none)) }

-- ---- the end of the words

no_defaults : (rows : List Row) (choices : List Choice) → defaults_fault rows (map rule_by choices) ≡ []
unfolding defaults_fault
no_defaults rows [] = refl
no_defaults rows (k ∷ ks) = go (has_row k.name rows) (no_defaults rows ks)
  where
    same : (b : Bool) → cond b rows rows ≡ rows
    same true = refl
    same false = refl

    go : (b : Bool) → defaults_fault rows (map rule_by ks) ≡ [] → or_else (cond (b || true) [] []) (defaults_fault (cond b rows rows) (map rule_by ks)) ≡ []
    go true e = e
    go false e = e

kept : (rows : List Row) (choices : List Choice) → fold with_default rows (map rule_by choices) ≡ rows
kept rows [] = refl
kept rows (k ∷ ks) = ap (λ r. fold with_default r (map rule_by ks)) (same (has_row k.name rows)) ∙ kept rows ks
  where
    same : (b : Bool) → cond b rows rows ≡ rows
    same true = refl
    same false = refl

-- the command, as built
abbrev pub shape : Text → List Choice → Shape
shape name choices = record (built (parser_of name [])).top { rules = map rule_by choices }

none_required : (choices : List Choice) (rows : List Row) → list_any (λ (a : Rule). a.required && not (Rattle.clap.specs.Takes.is_given a.id rows)) (map rule_by choices) ≡ false
none_required [] rows = refl
none_required (k ∷ ks) rows = none_required ks rows

checked : (name : Text) (choices : List Choice) (rows : List Row) → check_fault (shape name choices) rows false ≡ []
checked name choices rows = ap (λ b. Rattle.clap.specs.Kinds.check_kinds false false b) (none_required choices rows)

-- ---- one use of an option

abbrev twice : Bool → Kinds
twice b = cond b (kind.ArgumentConflict ∷ []) []

abbrev has_kind : Kinds → Bool
has_kind [] = false
has_kind (k ∷ ks) = true

some_kind : {k : ErrorKind} {ks : Kinds} → k ∷ ks ≡ [] → ⊥
some_kind e = true≢false (ap has_kind e)

and_left : (a b : Bool) → (a && b) ≡ true → a ≡ true
and_left true b e = refl
and_left false b e = e

and_right : (a b : Bool) → (a && b) ≡ true → b ≡ true
and_right true b e = e
and_right false b e = absurd (true≢false (sym e))

or_nil : (a b : Kinds) → or_else a b ≡ [] → a ≡ []
or_nil [] b e = refl
or_nil (k ∷ ks) b e = e

twice_fails : (b : Bool) → b ≡ true → twice b ≡ [] → ⊥
twice_fails b e none = some_kind (sym (ap twice e) ∙ none)

uses : (done : List GivenOption) (n : Text) (v : Option Text) → use_fault false (rule n (is_some v)) (values_of v) (map row done) ≡ twice (is_given n done)
uses done n v = by v
  where
    go : (b : Bool) → or_else (cond (b && true) (kind.ArgumentConflict ∷ []) []) [] ≡ twice b
    go true = refl
    go false = refl

    by : (v : Option Text) → use_fault false (rule n (is_some v)) (values_of v) (map row done) ≡ twice (is_given n done)
    by None = go (has_row n (map row done)) ∙ ap twice (has_row_is n done)
    by (Some v) = go (has_row n (map row done)) ∙ ap twice (has_row_is n done)

-- ---- the walk

module _ (name : Text) (choices : List Choice) where
  abbrev s : Shape
  s = shape name choices

  abbrev c : List Rule
  c = map rule_by choices

  abbrev pending : Option (Text × Text) → Option (Text × List Text)
  pending None = None
  pending (Some p) = Some (p.0, p.1 ∷ [])

  abbrev held_at : List GivenOption → Option (Text × Text) → Held
  held_at done p = record { rows = map row done; pending = pending p; skip = 0 }

  abbrev walk_at : List GivenOption → Waiting → Walk
  walk_at done (next p) = record (walk_from (held_at done p)) { waiting = clap.idle }
  walk_at done (value n) = record (walk_from (record { rows = map row done; pending = Some (n, []); skip = 0 })) { waiting = clap.option n }

  abbrev end_of : Walk → List Text → Held
  end_of w words = (fold (walked c []) w words).held

  -- the kinds at the end of the words
  abbrev last : Held → Kinds
  last h = or_else (settle_fault c false h) (or_else (defaults_fault (settled c h).rows c) (check_fault s (finished c h) false))

  abbrev kinds : Walk → List Text → Kinds
  kinds w words = or_else (walk_fault s [] w words) (or_else [] (last (end_of w words)))

  abbrev Fits : Walk → List Text → Option (List GivenOption) → Type 0
  Fits w words None = kinds w words ≡ [] → ⊥
  Fits w words (Some done) = (kinds w words ≡ []) × (finished c (end_of w words) ≡ map row done)

  -- what is known of the state
  abbrev IsKnown : Waiting → Type 0
  IsKnown (next None) = Unit {0}
  IsKnown (next (Some p)) = takes_value choices p.0 ≡ Some true
  IsKnown (value n) = takes_value choices n ≡ Some true

  -- the option that is held is used
  abbrev Settles : List GivenOption → Option (Text × Text) → Option (List GivenOption) → Type 0
  Settles done p None = settle_fault c false (held_at done p) ≡ [] → ⊥
  Settles done p (Some d) = (settle_fault c false (held_at done p) ≡ []) × (settled c (held_at done p) ≡ held_at d None)

  settles : (done : List GivenOption) (p : Option (Text × Text)) → IsKnown (next p) → Settles done p (with_held done p)
  settles done None k = (refl, refl)
  settles done (Some o) k = go (is_given o.0 done) refl
    where
      found : arg_by_id c o.0 ≡ Some (rule o.0 true)
      found = by_id choices o.0 ∙ ap (option_map (rule o.0)) k

      fault : settle_fault c false (held_at done (Some o)) ≡ twice (is_given o.0 done)
      fault = ap (λ a. option_map_or (λ a. use_fault false a (o.1 ∷ []) (map row done)) a []) found ∙ uses done o.0 (Some o.1)

      go : (b : Bool) → is_given o.0 done ≡ b → Settles done (Some o) (cond b None (Some (done ++ (o.0, Some o.1) ∷ [])))
      go true e = λ none. twice_fails (is_given o.0 done) e (sym fault ∙ none)
      go false e = (
        fault ∙ ap twice e,
        ap (λ a. record (held_at done (Some o)) { pending = None; rows = clap.used_by_id a (o.1 ∷ []) (map row done) }) found
            ∙ ap (λ rows. record (held_at [] None) { rows = rows }) (used_once done o.0 (Some o.1) e),
      )

  -- a value is wanted
  unsettled : (done : List GivenOption) (n : Text) → takes_value choices n ≡ Some true → settle_fault c false (walk_at done (value n)).held ≡ kind.InvalidValue ∷ []
  unsettled done n k = ap (λ a. option_map_or (λ a. use_fault false a [] (map row done)) a []) (by_id choices n ∙ ap (option_map (rule n)) k)

  -- ---- one word

  -- the argument of a long name
  found_long : (n : Text) (t : Option Bool) → takes_value choices n ≡ t → arg_by_long c n ≡ option_map (rule n) t
  found_long n t has = by_long choices n ∙ ap (option_map (rule n)) has

  no_index : (ks : List Choice) → clap.arg_by_index (map rule_by ks) 1 ≡ None
  no_index [] = refl
  no_index (k ∷ ks) = no_index ks

  strays : (h : Held) → step_fault s 1 h clap.value ≡ kind.UnknownArgument ∷ []
  strays h = ap (λ a. option_map_or (λ a. Rattle.clap.specs.Faults.positional_fault c false a h) a (stray_fault s)) (no_index choices)

  turn_stray : (done : List GivenOption) (p : Option (Text × Text)) (x : Text) → Looks x → long_of x ≡ None
      → turn_fault s [] (walk_at done (next p)) x ≡ step_fault s 1 (held_at done p) clap.value
  turn_stray done p x l e = rw (l.no_dashes, e, l.plain e) refl

  turn_value : (done : List GivenOption) (n : Text) (x : Text) → Looks x → long_of x ≡ None → turn_fault s [] (walk_at done (value n)) x ≡ []
  turn_value done n x l e = rw (l.no_dashes, e, l.plain e) refl

  walked_value : (done : List GivenOption) (n : Text) (x : Text) → Looks x → long_of x ≡ None → takes_value choices n ≡ Some true
      → walked c [] (walk_at done (value n)) x ≡ walk_at done (next (Some (n, x)))
  unfolding walked
  walked_value done n x l e k =
      let found : arg_by_id c n ≡ Some (rule n true) = by_id choices n ∙ ap (option_map (rule n)) k in
      let same : bytes_eq n n ≡ true = (bytes_eq-Decides n n).1 refl in
      rw (l.no_dashes, e, l.plain e, found, same) refl

  -- the option isn't the command's
  turn_unknown : (done : List GivenOption) (p : Option (Text × Text)) (x n : Text) (v : Option Text) → Looks x → long_of x ≡ Some (n, v) → takes_value choices n ≡ None
      → turn_fault s [] (walk_at done (next p)) x ≡ kind.UnknownArgument ∷ []
  turn_unknown done p x n v l e has =
      let found : arg_by_long c n ≡ None = found_long n None has in
      rw (l.no_dashes, e, found) refl

  -- a flag has a value
  turn_unneeded : (done : List GivenOption) (p : Option (Text × Text)) (x n v : Text) → Looks x → long_of x ≡ Some (n, Some v) → takes_value choices n ≡ Some false
      → turn_fault s [] (walk_at done (next p)) x ≡ kind.TooManyValues ∷ []
  turn_unneeded done p x n v l e has =
      let found : arg_by_long c n ≡ Some (rule n false) = found_long n (Some false) has in
      rw (l.no_dashes, e, found) refl

  -- an option with its value, or a flag without one, is used at once
  turn_used : (done : List GivenOption) (p : Option (Text × Text)) (x n : Text) (v : Option Text) → Looks x → long_of x ≡ Some (n, v) → takes_value choices n ≡ Some (is_some v)
      → turn_fault s [] (walk_at done (next p)) x
      ≡ or_else (or_else (settle_fault c false (held_at done p)) (use_fault false (rule n (is_some v)) (values_of v) (settled c (held_at done p)).rows)) []
  turn_used done p x n (Some v) l e has =
      let found : arg_by_long c n ≡ Some (rule n true) = found_long n (Some true) has in
      rw (l.no_dashes, e, found) refl
  turn_used done p x n None l e has =
      let found : arg_by_long c n ≡ Some (rule n false) = found_long n (Some false) has in
      rw (l.no_dashes, e, found) refl

  walked_used : (done : List GivenOption) (p : Option (Text × Text)) (x n : Text) (v : Option Text) → Looks x → long_of x ≡ Some (n, v) → takes_value choices n ≡ Some (is_some v)
      → walked c [] (walk_at done (next p)) x ≡ walk_from (clap.reacted c (rule n (is_some v)) (values_of v) (held_at done p))
  unfolding walked
  walked_used done p x n (Some v) l e has =
      let found : arg_by_long c n ≡ Some (rule n true) = found_long n (Some true) has in
      rw (l.no_dashes, e, found) refl
  walked_used done p x n None l e has =
      let found : arg_by_long c n ≡ Some (rule n false) = found_long n (Some false) has in
      rw (l.no_dashes, e, found) refl

  -- a value is to come
  turn_apart : (done : List GivenOption) (p : Option (Text × Text)) (x n : Text) → Looks x → long_of x ≡ Some (n, None) → takes_value choices n ≡ Some true
      → turn_fault s [] (walk_at done (next p)) x ≡ or_else (settle_fault c false (held_at done p)) []
  turn_apart done p x n l e has =
      let found : arg_by_long c n ≡ Some (rule n true) = found_long n (Some true) has in
      rw (l.no_dashes, e, found) refl

  walked_apart : (done : List GivenOption) (p : Option (Text × Text)) (x n : Text) → Looks x → long_of x ≡ Some (n, None) → takes_value choices n ≡ Some true
      → walked c [] (walk_at done (next p)) x ≡ record (walk_from (record (settled c (held_at done p)) { pending = Some (n, []) })) { waiting = clap.option n }
  unfolding walked
  walked_apart done p x n l e has =
      let found : arg_by_long c n ≡ Some (rule n true) = found_long n (Some true) has in
      rw (l.no_dashes, e, found) refl

  -- a value is wanted, and an option comes
  turn_wanted : (done : List GivenOption) (m x n : Text) (v : Option Text) → Looks x → long_of x ≡ Some (n, v) → takes_value choices m ≡ Some true
      → turn_fault s [] (walk_at done (value m)) x ≡ [] → ⊥
  turn_wanted done m x n v l e k none = by (takes_value choices n) refl v e
    where
      by : (t : Option Bool) → takes_value choices n ≡ t → (u : Option Text) → long_of x ≡ Some (n, u) → ⊥
      by None has u long =
          let found : arg_by_long c n ≡ None = found_long n None has in
          let unknown : turn_fault s [] (walk_at done (value m)) x ≡ kind.UnknownArgument ∷ [] = rw (l.no_dashes, long, found) refl in
          some_kind (sym unknown ∙ none)
      by (Some true) has (Some u) long =
          let found : arg_by_long c n ≡ Some (rule n true) = found_long n (Some true) has in
          let wanted : turn_fault s [] (walk_at done (value m)) x ≡ kind.InvalidValue ∷ [] = rw (l.no_dashes, long, found, unsettled done m k) refl in
          some_kind (sym wanted ∙ none)
      by (Some true) has None long =
          let found : arg_by_long c n ≡ Some (rule n true) = found_long n (Some true) has in
          let wanted : turn_fault s [] (walk_at done (value m)) x ≡ kind.InvalidValue ∷ [] = rw (l.no_dashes, long, found, unsettled done m k) refl in
          some_kind (sym wanted ∙ none)
      by (Some false) has (Some u) long =
          let found : arg_by_long c n ≡ Some (rule n false) = found_long n (Some false) has in
          let unneeded : turn_fault s [] (walk_at done (value m)) x ≡ kind.TooManyValues ∷ [] = rw (l.no_dashes, long, found) refl in
          some_kind (sym unneeded ∙ none)
      by (Some false) has None long =
          let found : arg_by_long c n ≡ Some (rule n false) = found_long n (Some false) has in
          let wanted : turn_fault s [] (walk_at done (value m)) x ≡ kind.InvalidValue ∷ [] = rw (l.no_dashes, long, found, unsettled done m k) refl in
          some_kind (sym wanted ∙ none)

  -- ---- all words

  fails : (w : Walk) (x : Text) (ws : List Text) → (turn_fault s [] w x ≡ [] → ⊥) → Fits w (x ∷ ws) None
  unfolding walk_fault
  fails w x ws bad none = bad (or_nil _ _ (or_nil _ _ none))

  passes : (w after : Walk) (x : Text) (ws : List Text) (o : Option (List GivenOption)) → turn_fault s [] w x ≡ [] → walked c [] w x ≡ after → Fits after ws o → Fits w (x ∷ ws) o
  unfolding walk_fault
  passes w after x ws o good is fits = by o fits
    where
      same : kinds w (x ∷ ws) ≡ kinds after ws
      same = ap (λ t. or_else (or_else t (walk_fault s [] (walked c [] w x) ws)) (or_else [] (last (end_of (walked c [] w x) ws)))) good ∙ ap (λ a. kinds a ws) is

      by : (o : Option (List GivenOption)) → Fits after ws o → Fits w (x ∷ ws) o
      by None h = λ none. h (sym same ∙ none)
      by (Some d) h = (same ∙ h.0, ap (λ a. finished c (end_of a ws)) is ∙ h.1)

  ends : (done : List GivenOption) (p : Option (Text × Text)) (o : Option (List GivenOption)) → Settles done p o → Fits (walk_at done (next p)) [] o
  unfolding walk_fault
  ends done p None bad = λ none. bad (or_nil _ _ none)
  ends done p (Some d) (good, is) =
      let final : finished c (held_at done p) ≡ map row d = ap (λ (h : Held). fold with_default h.rows c) is ∙ kept (map row d) choices in (
        ap (λ k. or_else k (or_else (defaults_fault (settled c (held_at done p)).rows c) (check_fault s (finished c (held_at done p)) false))) good
            ∙ ap (λ k. or_else k (check_fault s (finished c (held_at done p)) false)) (no_defaults (settled c (held_at done p)).rows choices)
            ∙ checked name choices (finished c (held_at done p)),
        final,
      )

  ends_wanted : (done : List GivenOption) (n : Text) → takes_value choices n ≡ Some true → Fits (walk_at done (value n)) [] None
  unfolding walk_fault
  ends_wanted done n k = λ none. some_kind (sym (unsettled done n k) ∙ or_nil _ _ none)

  step_next : (done : List GivenOption) (p : Option (Text × Text)) (x : Text) (ws : List Text) → list_all is_readable (x ∷ ws) ≡ true → IsKnown (next p)
      → ((d : List GivenOption) (w : Waiting) → IsKnown w → Fits (walk_at d w) ws (options_from choices d w ws))
      → Fits (walk_at done (next p)) (x ∷ ws) (options_from choices done (next p) (x ∷ ws))
  step_next done p x ws read k again = by (with_held done p) (settles done p k) (long_of x) refl
    where
      look : Looks x
      look = looks x (and_left (is_readable x) (list_all is_readable ws) read)

      not_stray : long_of x ≡ None → turn_fault s [] (walk_at done (next p)) x ≡ [] → ⊥
      not_stray e none = some_kind (sym (turn_stray done p x look e ∙ strays (held_at done p)) ∙ none)

      not_unknown : (n : Text) (v : Option Text) → long_of x ≡ Some (n, v) → takes_value choices n ≡ None → turn_fault s [] (walk_at done (next p)) x ≡ [] → ⊥
      not_unknown n v e has none = some_kind (sym (turn_unknown done p x n v look e has) ∙ none)

      not_unneeded : (n v : Text) → long_of x ≡ Some (n, Some v) → takes_value choices n ≡ Some false → turn_fault s [] (walk_at done (next p)) x ≡ [] → ⊥
      not_unneeded n v e has none = some_kind (sym (turn_unneeded done p x n v look e has) ∙ none)

      unsettled_used : (n : Text) (v : Option Text) → (settle_fault c false (held_at done p) ≡ [] → ⊥) → long_of x ≡ Some (n, v) → takes_value choices n ≡ Some (is_some v)
          → turn_fault s [] (walk_at done (next p)) x ≡ [] → ⊥
      unsettled_used n v bad e has none = bad (or_nil _ _ (or_nil _ _ (sym (turn_used done p x n v look e has) ∙ none)))

      unsettled_apart : (n : Text) → (settle_fault c false (held_at done p) ≡ [] → ⊥) → long_of x ≡ Some (n, None) → takes_value choices n ≡ Some true
          → turn_fault s [] (walk_at done (next p)) x ≡ [] → ⊥
      unsettled_apart n bad e has none = bad (or_nil _ _ (sym (turn_apart done p x n look e has) ∙ none))

      not_settled : (settle_fault c false (held_at done p) ≡ [] → ⊥) → (l : Option (Text × Option Text)) → long_of x ≡ l → turn_fault s [] (walk_at done (next p)) x ≡ [] → ⊥
      not_settled bad None e = not_stray e
      not_settled bad (Some (n, v)) e = at (takes_value choices n) refl v e
        where
          at : (t : Option Bool) → takes_value choices n ≡ t → (u : Option Text) → long_of x ≡ Some (n, u) → turn_fault s [] (walk_at done (next p)) x ≡ [] → ⊥
          at None has u long = not_unknown n u long has
          at (Some true) has (Some u) long = unsettled_used n (Some u) bad long has
          at (Some true) has None long = unsettled_apart n bad long has
          at (Some false) has (Some u) long = not_unneeded n u long has
          at (Some false) has None long = unsettled_used n None bad long has

      used_at_once : (d : List GivenOption) → Settles done p (Some d) → (n : Text) (v : Option Text) → long_of x ≡ Some (n, v) → takes_value choices n ≡ Some (is_some v)
          → Fits (walk_at done (next p)) (x ∷ ws) (go_on (added d (n, v)) (λ d w. options_from choices d w ws))
      used_at_once d (good, is) n v e has = at (is_given n d) refl
        where
          turn_as : turn_fault s [] (walk_at done (next p)) x ≡ or_else (twice (is_given n d)) []
          turn_as = turn_used done p x n v look e has
              ∙ ap₂ (λ k (h : Held). or_else (or_else k (use_fault false (rule n (is_some v)) (values_of v) h.rows)) []) good is
              ∙ ap (λ k. or_else k []) (uses d n v)

          at : (b : Bool) → is_given n d ≡ b → Fits (walk_at done (next p)) (x ∷ ws) (go_on (cond b None (Some (d ++ (n, v) ∷ []))) (λ d w. options_from choices d w ws))
          at true given = fails (walk_at done (next p)) x ws (λ none. twice_fails (is_given n d) given (or_nil _ _ (sym turn_as ∙ none)))
          at false given = passes (walk_at done (next p)) (walk_at (d ++ (n, v) ∷ []) (next None)) x ws _
              (turn_as ∙ ap (λ b. or_else (twice b) []) given)
              (walked_used done p x n v look e has
              ∙ ap (λ (h : Held). walk_from (record h { rows = used (rule n (is_some v)) (values_of v) h.rows })) is
              ∙ ap (λ rows. walk_from (record (held_at [] None) { rows = rows })) (used_once d n v given))
              (again (d ++ (n, v) ∷ []) (next None) tt)

      value_to_come : (d : List GivenOption) → Settles done p (Some d) → (n : Text) → long_of x ≡ Some (n, None) → takes_value choices n ≡ Some true
          → Fits (walk_at done (next p)) (x ∷ ws) (options_from choices d (value n) ws)
      value_to_come d (good, is) n e has = passes (walk_at done (next p)) (walk_at d (value n)) x ws _
          (turn_apart done p x n look e has ∙ ap (λ k. or_else k []) good)
          (walked_apart done p x n look e has ∙ ap (λ (h : Held). record (walk_from (record h { pending = Some (n, []) })) { waiting = clap.option n }) is)
          (again d (value n) has)

      by : (o : Option (List GivenOption)) → Settles done p o → (l : Option (Text × Option Text)) → long_of x ≡ l
          → Fits (walk_at done (next p)) (x ∷ ws) (met choices o l (λ d w. options_from choices d w ws))
      by None bad l e = fails (walk_at done (next p)) x ws (not_settled bad l e)
      by (Some d) good None e = fails (walk_at done (next p)) x ws (not_stray e)
      by (Some d) good (Some (n, v)) e = at (takes_value choices n) refl v e
        where
          at : (t : Option Bool) → takes_value choices n ≡ t → (u : Option Text) → long_of x ≡ Some (n, u)
              → Fits (walk_at done (next p)) (x ∷ ws) (named d n t u (λ d w. options_from choices d w ws))
          at None has u long = fails (walk_at done (next p)) x ws (not_unknown n u long has)
          at (Some true) has (Some u) long = used_at_once d good n (Some u) long has
          at (Some true) has None long = value_to_come d good n long has
          at (Some false) has (Some u) long = fails (walk_at done (next p)) x ws (not_unneeded n u long has)
          at (Some false) has None long = used_at_once d good n None long has

  step_value : (done : List GivenOption) (n x : Text) (ws : List Text) → list_all is_readable (x ∷ ws) ≡ true → IsKnown (value n)
      → ((d : List GivenOption) (w : Waiting) → IsKnown w → Fits (walk_at d w) ws (options_from choices d w ws))
      → Fits (walk_at done (value n)) (x ∷ ws) (options_from choices done (value n) (x ∷ ws))
  step_value done n x ws read k again = by (long_of x) refl
    where
      look : Looks x
      look = looks x (and_left (is_readable x) (list_all is_readable ws) read)

      by : (l : Option (Text × Option Text)) → long_of x ≡ l
          → Fits (walk_at done (value n)) (x ∷ ws) (cond (is_some l) None (options_from choices done (next (Some (n, x))) ws))
      by None e = passes (walk_at done (value n)) (walk_at done (next (Some (n, x)))) x ws _ (turn_value done n x look e) (walked_value done n x look e k)
          (again done (next (Some (n, x))) k)
      by (Some (m, v)) e = fails (walk_at done (value n)) x ws (turn_wanted done n x m v look e k)

  fits : (words : List Text) → list_all is_readable words ≡ true → (done : List GivenOption) (w : Waiting) → IsKnown w → Fits (walk_at done w) words (options_from choices done w words)
  fits [] read done (next p) k = ends done p (with_held done p) (settles done p k)
  fits [] read done (value n) k = ends_wanted done n k
  fits (x ∷ ws) read done (next p) k = step_next done p x ws read k (fits ws (and_right (is_readable x) (list_all is_readable ws) read))
  fits (x ∷ ws) read done (value n) k = step_value done n x ws read k (fits ws (and_right (is_readable x) (list_all is_readable ws) read))

-- ---- the command

-- clap takes words that are readable exactly where they are options, each of the command's and given once; its rows are theirs
abbrev pub ClapFits : Text → List Choice → List Text → Option (List GivenOption) → Type 0
ClapFits name choices words None = fault_of (parser_of name choices) words ≡ [] → ⊥
ClapFits name choices words (Some options) =
    (fault_of (parser_of name choices) words ≡ []) × (matches_of (parser_of name choices) words ≡ map row options)

pub clap_fits : (name : Text) (choices : List Choice) (words : List Text) → list_all is_readable words ≡ true
    → ClapFits name choices words (options_from choices [] (next None) words)
clap_fits name choices words read = by (options_from choices [] (next None) words) (fits name choices words read [] (next None) tt)
  where
    same : fault_of (parser_of name choices) words ≡ kinds name choices (walk_from nothing_held) words
    same = leaf_fault (built (parser_of name choices)) nothing_held words refl
        ∙ ap (λ rs. level_fault (record (built (parser_of name [])).top { rules = rs }) [] nothing_held words false []) (filled choices)

    by : (o : Option (List GivenOption)) → Fits name choices (walk_at name choices [] (next None)) words o → ClapFits name choices words o
    by None bad = λ none. bad (sym same ∙ none)
    by (Some options) (good, is) = (same ∙ good, ap (λ rs. finished rs (walk rs [] nothing_held words).held) (filled choices) ∙ is)

-- the value of an option, as clap's getter reads it
value_of_rows : (name : Text) (options : List GivenOption) → clap.first_of name (map row options) ≡ value_of name options
value_of_rows name [] = refl
value_of_rows name (o ∷ os) = by (bytes_eq o.0 name) (value_of_rows name os)
  where
    first : (v : Option Text) → Rattle.std.specs.Prelude.slice_get (values_of v) 0 ≡ v
    first None = refl
    first (Some v) = refl

    by : (b : Bool) → clap.first_of name (map row os) ≡ value_of name os
        → Rattle.std.specs.Prelude.option_and_then (λ (r : Row). Rattle.std.specs.Prelude.slice_get r.values 0) (cond b (Some (row o)) (find (λ (r : Row). bytes_eq r.id name) (map row os)))
        ≡ cond b o.1 (value_of name os)
    by true e = first o.1
    by false e = e

-- whether an option has a row, as clap's getter reads it
found_row : (entries : List Entry) (name : Text) → is_some (option_map (λ (e : Entry). e.1) (find (λ (e : Entry). bytes_eq e.0.now name) entries)) ≡ has_row name (map row_of entries)
found_row [] name = refl
found_row (e ∷ es) name = by (bytes_eq e.0.now name) (found_row es name)
  where
    by : (b : Bool) → is_some (option_map (λ (e : Entry). e.1) (find (λ (e : Entry). bytes_eq e.0.now name) es)) ≡ has_row name (map row_of es)
        → is_some (option_map (λ (e : Entry). e.1) (cond b (Some e) (find (λ (e : Entry). bytes_eq e.0.now name) es))) ≡ (b || has_row name (map row_of es))
    by true h = refl
    by false h = h

-- ---- what the call answers

-- the matches by the function
abbrev pub ParsedAs : List Choice → List Text → Option ArgMatches → Type 0
ParsedAs choices words None = options_of choices words ≡ None
ParsedAs choices words (Some matches) = (options : List GivenOption) × (options_of choices words ≡ Some options)
    × ((name : Text) → first_value (found_of matches) name ≡ value_of name options)
    × ((name : Text) → is_some (matched_of (found_of matches) name) ≡ is_given name options)

read_options : (choices : List Choice) (words : List Text) → list_all is_readable words ≡ true → options_of choices words ≡ options_from choices [] (next None) words
read_options choices words read = ap (λ b. cond b (options_from choices [] (next None) words) None) read

pub parsed : (choices : List Choice) (words : List Text) (m : ArgMatches) (a : App) (name : Text) → a ≡ parser_of name choices → is_simple_and_free (parser_of name choices) ≡ true
    → list_all is_readable words ≡ true → (is_simple_and_free a ≡ true → fault_of a words ≡ []) → HasMatchesOf a words m → ParsedAs choices words (Some m)
parsed choices words m a name is free read good has = by (options_from choices [] (next None) words) refl (clap_fits name choices words read)
  where
    by : (o : Option (List GivenOption)) → options_from choices [] (next None) words ≡ o → ClapFits name choices words o → ParsedAs choices words (Some m)
    by None e bad = absurd (bad (ap (λ a. fault_of a words) (sym is) ∙ good (ap is_simple_and_free is ∙ free)))
    by (Some options) e fit =
        let rows : rows_of (found_of m) ≡ map row options = (has (ap is_simple is ∙ and_left _ _ free)).0 ∙ ap (λ a. matches_of a words) is ∙ fit.1 in (
          options,
          read_options choices words read ∙ e,
          (λ id. first_value-rows (found_of m) id ∙ ap (clap.first_of id) rows ∙ value_of_rows id options),
          λ id. found_row (found_of m).entries.items id ∙ ap (has_row id) rows ∙ has_row_is id options,
        )

among_some : (k : ErrorKind) (ks : Kinds) → IsAmong k ks → ks ≡ [] → ⊥
among_some k [] h e = h
among_some k (x ∷ xs) h e = some_kind e

pub refused : (choices : List Choice) (words : List Text) (a : App) (name : Text) (k : ErrorKind) → a ≡ parser_of name choices → is_simple_and_free (parser_of name choices) ≡ true
    → list_all is_readable words ≡ true → (k ≡ kind.OutOfMemory → ⊥) → (is_simple_and_free a ≡ true → (k ≡ kind.OutOfMemory) ⊎ IsAmong k (fault_of a words))
    → options_of choices words ≡ None
refused choices words a name k is free read other fails_by = by (options_from choices [] (next None) words) refl (clap_fits name choices words read)
  where
    by : (o : Option (List GivenOption)) → options_from choices [] (next None) words ≡ o → ClapFits name choices words o → options_of choices words ≡ None
    by None e bad = read_options choices words read ∙ e
    by (Some options) e fit = elim (fails_by (ap is_simple_and_free is ∙ free)) [
      | inl memory ↦ absurd (other memory)
      | inr among ↦ absurd (among_some k (fault_of a words) among (ap (λ a. fault_of a words) is ∙ fit.0))
    ]
