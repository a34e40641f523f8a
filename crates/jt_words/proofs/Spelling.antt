-- The words and their options: the function is the relation, both ways.
use Rattle.std.proofs.Common.{◌≡◌, ◌∙◌, ◌+◌, arith, suc, take, drop, ◌&&◌, ◌||◌, ◌++◌, ◌==◌, ℕ, Bool, cond, true, false, not, refl, sym, ap, ap₂, subst, List, [], ◌∷◌, Option, Some, None, inl, inr, true≢false, append-nil, append_assoc, codes}
use Rattle.std.specs.Prelude.{is_some, unwrap_or}
use Rattle.std.specs.List.{list_all, before_first, after_first, position_or_len}
use Rattle.std.specs.Str.{bytes_eq}
use Rattle.std.proofs.lemmas.Slice.Eq.{bytes_eq-Decides}
use Rattle.std.proofs.lemmas.Bool.Decides.{eqb_tells}
use Rattle.clap.specs.Lexer.{long_of, has_byte, name_and_value}
use Rattle.clap.specs.declared.parser.matches.ArgMatches.{ArgMatches}
use Rattle.jt_words.specs.Options.{BeginsWithHyphen, Choice, GivenOption, Spell, StartWith, Text, is_given, takes_value}
use Rattle.jt_words.specs.Parser.{Parsed, is_option_name, is_readable}
use Rattle.jt_words.proofs.Walking.{go_on, met, named, next, options_from, options_of, value}
use Rattle.jt_words.proofs.Walks.{ParsedAs, some≢none}

and_left : (a b : Bool) → (a && b) ≡ true → a ≡ true
and_left true b e = refl
and_left false b e = e

and_right : (a b : Bool) → (a && b) ≡ true → b ≡ true
and_right true b e = e
and_right false b e = absurd (true≢false (sym e))

-- ---- one word

abbrev is_equals : ℕ → Bool
is_equals x = x == 61

position_more : (x : ℕ) (xs : Text) → (x == 61) ≡ false → position_or_len is_equals (x ∷ xs) ≡ suc (position_or_len is_equals xs)
position_more x xs e = rw e (omega arith)

before_here : (x : ℕ) (xs : Text) → (x == 61) ≡ true → before_first is_equals (x ∷ xs) ≡ []
before_here x xs e = rw e refl

before_more : (x : ℕ) (xs : Text) → (x == 61) ≡ false → before_first is_equals (x ∷ xs) ≡ x ∷ before_first is_equals xs
before_more x xs e = ap (λ n. take n (x ∷ xs)) (position_more x xs e)

after_here : (x : ℕ) (xs : Text) → (x == 61) ≡ true → after_first is_equals (x ∷ xs) ≡ xs
after_here x xs e = rw e refl

after_more : (x : ℕ) (xs : Text) → (x == 61) ≡ false → after_first is_equals (x ∷ xs) ≡ after_first is_equals xs
after_more x xs e =
    let later : suc (position_or_len is_equals xs) + 1 ≡ suc (position_or_len is_equals xs + 1) = omega arith in
    ap (λ n. drop (n + 1) (x ∷ xs)) (position_more x xs e) ∙ ap (λ n. drop n (x ∷ xs)) later

-- a text is what stands before its first `=`, and that and what stands after it
parts : (t : Text) → t ≡ before_first is_equals t ++ cond (has_byte 61 t) (61 ∷ after_first is_equals t) []
parts [] = refl
parts (x ∷ xs) = by (x == 61) refl (parts xs)
  where
    by : (b : Bool) → (x == 61) ≡ b → xs ≡ before_first is_equals xs ++ cond (has_byte 61 xs) (61 ∷ after_first is_equals xs) []
        → x ∷ xs ≡ before_first is_equals (x ∷ xs) ++ cond ((x == 61) || has_byte 61 xs) (61 ∷ after_first is_equals (x ∷ xs)) []
    by true e h =
        let is : x ≡ 61 = elim (eqb_tells x 61) [ inl h ↦ h.1 | inr h ↦ absurd (true≢false (sym e ∙ h.0)) ] in
        ap (λ y. y ∷ xs) is ∙ sym (ap₂ (λ b a. b ++ cond true (61 ∷ a) []) (before_here x xs e) (after_here x xs e))
        ∙ ap (λ q. before_first is_equals (x ∷ xs) ++ cond (q || has_byte 61 xs) (61 ∷ after_first is_equals (x ∷ xs)) []) (sym e)
    by false e h =
        ap (λ t. x ∷ t) h ∙ sym (ap₂ (λ b a. b ++ cond (has_byte 61 xs) (61 ∷ a) []) (before_more x xs e) (after_more x xs e))
        ∙ ap (λ q. before_first is_equals (x ∷ xs) ++ cond (q || has_byte 61 xs) (61 ∷ after_first is_equals (x ∷ xs)) []) (sym e)

-- a name with no `=`, alone and before a value
or_left : (a b : Bool) → (a || b) ≡ false → a ≡ false
or_left true b e = e
or_left false b e = refl

or_right : (a b : Bool) → (a || b) ≡ false → b ≡ false
or_right true b e = absurd (true≢false e)
or_right false b e = e

before_all : (n : Text) → has_byte 61 n ≡ false → before_first is_equals n ≡ n
before_all [] e = refl
before_all (x ∷ xs) e = before_more x xs (or_left _ _ e) ∙ ap (λ t. x ∷ t) (before_all xs (or_right (x == 61) _ e))

before_value : (n v : Text) → has_byte 61 n ≡ false → before_first is_equals (n ++ 61 ∷ v) ≡ n
before_value [] v e = refl
before_value (x ∷ xs) v e = before_more x (xs ++ 61 ∷ v) (or_left _ _ e) ∙ ap (λ t. x ∷ t) (before_value xs v (or_right (x == 61) _ e))

after_value : (n v : Text) → has_byte 61 n ≡ false → after_first is_equals (n ++ 61 ∷ v) ≡ v
after_value [] v e = refl
after_value (x ∷ xs) v e = after_more x (xs ++ 61 ∷ v) (or_left _ _ e) ∙ after_value xs v (or_right (x == 61) _ e)

has_equals : (n v : Text) → has_byte 61 (n ++ 61 ∷ v) ≡ true
has_equals [] v = refl
has_equals (x ∷ xs) v = by (x == 61) (has_equals xs v)
  where
    by : (b : Bool) → has_byte 61 (xs ++ 61 ∷ v) ≡ true → (b || has_byte 61 (xs ++ 61 ∷ v)) ≡ true
    by true h = refl
    by false h = h

not_true : (p : Bool) → not p ≡ true → p ≡ false
not_true true h = absurd (true≢false (sym h))
not_true false h = refl

long_alone : (n : Text) → is_option_name n ≡ true → long_of (codes "--" ++ n) ≡ Some (n, None)
long_alone [] h = absurd (true≢false (sym h))
long_alone (x ∷ xs) h =
    let none : has_byte 61 (x ∷ xs) ≡ false = not_true _ h in
    ap₂ (λ b q. Some (b, cond q (Some (after_first is_equals (x ∷ xs))) None)) (before_all (x ∷ xs) none) none

long_joined : (n v : Text) → is_option_name n ≡ true → long_of (codes "--" ++ (n ++ (codes "=" ++ v))) ≡ Some (n, Some v)
long_joined [] v h = absurd (true≢false (sym h))
long_joined (x ∷ xs) v h =
    let none : has_byte 61 (x ∷ xs) ≡ false = not_true _ h in
    ap (λ b. Some (b, cond (has_byte 61 (x ∷ xs ++ 61 ∷ v)) (Some (after_first is_equals (x ∷ xs ++ 61 ∷ v))) None)) (before_value (x ∷ xs) v none)
    ∙ ap₂ (λ q a. Some (x ∷ xs, cond q (Some a) None)) (has_equals (x ∷ xs) v) (after_value (x ∷ xs) v none)

read_alone : (n : Text) → is_option_name n ≡ true → is_readable (codes "--" ++ n) ≡ true
read_alone [] h = absurd (true≢false (sym h))
read_alone (x ∷ xs) h = refl

read_joined : (n v : Text) → is_option_name n ≡ true → is_readable (codes "--" ++ (n ++ (codes "=" ++ v))) ≡ true
read_joined [] v h = absurd (true≢false (sym h))
read_joined (x ∷ xs) v h = refl

-- and back
abbrev text_of : Text × Option Text → Text
text_of (n, None) = codes "--" ++ n
text_of (n, Some v) = codes "--" ++ (n ++ (codes "=" ++ v))

long_is : (w : Text) (p : Text × Option Text) → long_of w ≡ Some p → w ≡ text_of p
long_is [] p e = absurd (some≢none p (sym e))
long_is (a ∷ rest) p e = by (a == 45) refl rest refl
  where
    hyphen : (x : ℕ) → (x == 45) ≡ true → x ≡ 45
    hyphen x e = elim (eqb_tells x 45) [ inl h ↦ h.1 | inr h ↦ absurd (true≢false (sym e ∙ h.0)) ]

    text : (t : Text) → codes "--" ++ t ≡ text_of (name_and_value t)
    text t = ap (λ u. codes "--" ++ u) (parts t) ∙ split (has_byte 61 t)
      where
        split : (b : Bool) → codes "--" ++ (before_first is_equals t ++ cond b (61 ∷ after_first is_equals t) []) ≡ text_of (before_first is_equals t, cond b (Some (after_first is_equals t)) None)
        split true = refl
        split false = ap (λ u. codes "--" ++ u) (append-nil (before_first is_equals t))

    by : (p1 : Bool) → (a == 45) ≡ p1 → (r : Text) → rest ≡ r → a ∷ rest ≡ text_of p
    by false ea r is = let none : long_of (a ∷ rest) ≡ None = rw ea refl in absurd (some≢none p (sym e ∙ none))
    by true ea [] is = let none : long_of (a ∷ rest) ≡ None = rw (ea, is) refl in absurd (some≢none p (sym e ∙ none))
    by true ea (b ∷ t) is = at (b == 45) refl t refl
      where
        at : (q : Bool) → (b == 45) ≡ q → (u : Text) → t ≡ u → a ∷ rest ≡ text_of p
        at false eb u iu = let none : long_of (a ∷ rest) ≡ None = rw (ea, is, eb) refl in absurd (some≢none p (sym e ∙ none))
        at true eb [] iu = let none : long_of (a ∷ rest) ≡ None = rw (ea, is, eb, iu) refl in absurd (some≢none p (sym e ∙ none))
        at true eb (c ∷ u) iu =
            let long : long_of (a ∷ rest) ≡ Some (name_and_value (c ∷ u)) = rw (ea, is, eb, iu) refl in
            let same : name_and_value (c ∷ u) ≡ p = ap (λ o. unwrap_or o p) (sym long ∙ e) in
            ap (λ r. a ∷ r) is ∙ ap₂ (λ x y. x ∷ y ∷ t) (hyphen a ea) (hyphen b eb) ∙ ap (λ r. codes "--" ++ r) iu ∙ text (c ∷ u) ∙ ap text_of same

-- ---- hyphens

no_hyphen : (w : Text) → (BeginsWithHyphen w → ⊥) → (long_of w ≡ None) × (is_readable w ≡ true)
no_hyphen [] h = (refl, refl)
no_hyphen (a ∷ rest) h = by (a == 45) refl
  where
    readable : (r : Text) → (a == 45) ≡ false → is_readable (a ∷ r) ≡ true
    readable [] e = rw e refl
    readable (b ∷ []) e = rw e refl
    readable (b ∷ c ∷ t) e = rw e refl

    by : (q : Bool) → (a == 45) ≡ q → (long_of (a ∷ rest) ≡ None) × (is_readable (a ∷ rest) ≡ true)
    by true e = absurd (h (rest, elim (eqb_tells a 45) [ inl t ↦ ap (λ x. x ∷ rest) t.1 | inr t ↦ absurd (true≢false (sym e ∙ t.0)) ]))
    by false e = (rw e refl, readable rest e)

hyphen_is_long : (w : Text) → is_readable w ≡ true → long_of w ≡ None → BeginsWithHyphen w → ⊥
hyphen_is_long w read none (rest, is) = by rest (sym (ap is_readable is) ∙ read) (sym (ap long_of is) ∙ none)
  where
    by : (r : Text) → is_readable (45 ∷ r) ≡ true → long_of (45 ∷ r) ≡ None → ⊥
    by [] h e = true≢false (sym h)
    by (b ∷ []) h e = true≢false (sym h)
    by (b ∷ c ∷ t) h e = let long : long_of (45 ∷ b ∷ c ∷ t) ≡ Some (name_and_value (c ∷ t)) = rw h refl in some≢none _ (sym long ∙ e)

known_name : (choices : List Choice) (n : Text) (t : Bool) → list_all (λ (choice : Choice). is_option_name choice.name) choices ≡ true → takes_value choices n ≡ Some t → is_option_name n ≡ true
known_name [] n t h k = absurd (some≢none t (sym k))
known_name (m ∷ ms) n t h k = by (bytes_eq m.name n) (bytes_eq-Decides m.name n).0 k (known_name ms n t (and_right _ _ h))
  where
    by : (b : Bool) → (b ≡ true → m.name ≡ n) → cond b (Some m.takes_value) (takes_value ms n) ≡ Some t → (takes_value ms n ≡ Some t → is_option_name n ≡ true) → is_option_name n ≡ true
    by true same e ih = ap is_option_name (sym (same refl)) ∙ and_left _ _ h
    by false same e ih = ih e

-- an option that is held is the last of those before
lazy : (choices : List Choice) (done : List GivenOption) (p : Text × Text) (words : List Text)
    → options_from choices done (next (Some p)) words ≡ cond (is_given p.0 done) None (options_from choices (done ++ (p.0, Some p.1) ∷ []) (next None) words)
lazy choices done p [] = refl
lazy choices done p (w ∷ ws) = by (is_given p.0 done)
  where
    by : (b : Bool) → met choices (cond b None (Some (done ++ (p.0, Some p.1) ∷ []))) (long_of w) (λ d s. options_from choices d s ws)
        ≡ cond b None (met choices (Some (done ++ (p.0, Some p.1) ∷ [])) (long_of w) (λ d s. options_from choices d s ws))
    by true = refl
    by false = refl

-- ---- from the words to the options

module _ (choices : List Choice) where
  abbrev Finds : List GivenOption → List GivenOption → List Text → Type 0
  Finds done options words = (new : List GivenOption) × (options ≡ done ++ new) × Spell choices done new words

  abbrev FindsValue : List GivenOption → List GivenOption → Text → List Text → Type 0
  FindsValue done options n words = (v : Text) × (rest : List Text) × (new : List GivenOption) × (words ≡ v ∷ rest) × (BeginsWithHyphen v → ⊥) × (is_given n done ≡ false)
      × (options ≡ (done ++ (n, Some v) ∷ []) ++ new) × Spell choices (done ++ (n, Some v) ∷ []) new rest

  abbrev Reads : List Text → Type 0
  Reads words = (done options : List GivenOption) → options_from choices done (next None) words ≡ Some options → Finds done options words

  abbrev ReadsValue : List Text → Type 0
  ReadsValue words = (done options : List GivenOption) (n : Text) → options_from choices done (value n) words ≡ Some options → FindsValue done options n words

  reads_option : (w : Text) (ws : List Text) → Reads ws → ReadsValue ws → Reads (w ∷ ws)
  reads_option w ws ih value_ih done options is = by (long_of w) refl is
    where
      -- an option with its value, or a flag without one
      at_once : (n : Text) (v : Option Text) → w ≡ text_of (n, v) → StartWith n v (w ∷ ws) ws → takes_value choices n ≡ Some (is_some v)
          → (t : Bool) → is_given n done ≡ t → go_on (cond t None (Some (done ++ (n, v) ∷ []))) (λ d s. options_from choices d s ws) ≡ Some options → Finds done options (w ∷ ws)
      at_once n v is starts has true once h = absurd (some≢none options (sym h))
      at_once n v is starts has false once h =
          let (new, all, spell) = ih (done ++ (n, v) ∷ []) options h in
          ((n, v) ∷ new, all ∙ append_assoc done ((n, v) ∷ []) new, (ws, starts, has, once, spell))

      at : (n : Text) (t : Option Bool) → takes_value choices n ≡ t → (v : Option Text) → w ≡ text_of (n, v)
          → named done n t v (λ d s. options_from choices d s ws) ≡ Some options → Finds done options (w ∷ ws)
      at n None has v is h = absurd (some≢none options (sym h))
      at n (Some true) has None is h =
          let (v, rest, new, words, plain, once, all, spell) = value_ih done options n h in
          ((n, Some v) ∷ new, all ∙ append_assoc done ((n, Some v) ∷ []) new, (rest, inl (ap₂ (λ x xs. x ∷ xs) is words, plain), has, once, spell))
      at n (Some true) has (Some v) is h = at_once n (Some v) is (inr (ap (λ x. x ∷ ws) is)) has (is_given n done) refl h
      at n (Some false) has None is h = at_once n None is (ap (λ x. x ∷ ws) is) has (is_given n done) refl h
      at n (Some false) has (Some v) is h = absurd (some≢none options (sym h))

      by : (l : Option (Text × Option Text)) → long_of w ≡ l → met choices (Some done) l (λ d s. options_from choices d s ws) ≡ Some options → Finds done options (w ∷ ws)
      by None e h = absurd (some≢none options (sym h))
      by (Some (n, v)) e h = at n (takes_value choices n) refl v (long_is w (n, v) e) h

  reads_value : (w : Text) (ws : List Text) → is_readable w ≡ true → Reads ws → ReadsValue (w ∷ ws)
  reads_value w ws read ih done options n is = by (long_of w) refl is
    where
      by : (l : Option (Text × Option Text)) → long_of w ≡ l → cond (is_some l) None (options_from choices done (next (Some (n, w))) ws) ≡ Some options
          → FindsValue done options n (w ∷ ws)
      by (Some p) e h = absurd (some≢none options (sym h))
      by None e h = at (is_given n done) refl (sym (lazy choices done (n, w) ws) ∙ h)
        where
          at : (t : Bool) → is_given n done ≡ t → cond t None (options_from choices (done ++ (n, Some w) ∷ []) (next None) ws) ≡ Some options
              → FindsValue done options n (w ∷ ws)
          at true o h = absurd (some≢none options (sym h))
          at false o h =
              let (new, all, spell) = ih (done ++ (n, Some w) ∷ []) options h in
              (w, ws, new, refl, hyphen_is_long w read e, o, all, spell)

  reads : (words : List Text) → list_all is_readable words ≡ true → Reads words × ReadsValue words
  reads [] read = (λ done options is. ([], ap (λ o. unwrap_or o options) (sym is) ∙ sym (append-nil done), refl), λ done options n is. absurd (some≢none options (sym is)))
  reads (w ∷ ws) read =
      let ih = reads ws (and_right (is_readable w) _ read) in
      (reads_option w ws ih.0 ih.1, reads_value w ws (and_left (is_readable w) (list_all is_readable ws) read) ih.0)

  -- ---- and from the options to the words

  abbrev Writes : List GivenOption → List GivenOption → List Text → Type 0
  Writes done new words = (list_all is_readable words ≡ true) × (options_from choices done (next None) words ≡ Some (done ++ new))

  module _ (plain_names : list_all (λ (choice : Choice). is_option_name choice.name) choices ≡ true) where
    writes_apart : (done new : List GivenOption) (words rest : List Text) (n v : Text) → words ≡ (codes "--" ++ n) ∷ v ∷ rest → (BeginsWithHyphen v → ⊥) → takes_value choices n ≡ Some true
        → is_given n done ≡ false → Writes (done ++ (n, Some v) ∷ []) new rest → Writes done ((n, Some v) ∷ new) words
    writes_apart done new words rest n v is plain has once (read, ih) =
        let name = known_name choices n true plain_names has in
        let value_plain = no_hyphen v plain in (
          ap (list_all is_readable) is ∙ ap₂ (λ (a b : Bool). a && b) (read_alone n name) (ap₂ (λ (a b : Bool). a && b) value_plain.1 read),
          ap (options_from choices done (next None)) is
              ∙ ap (λ l. met choices (Some done) l (λ d s. options_from choices d s (v ∷ rest))) (long_alone n name)
              ∙ ap (λ t. named done n t None (λ d s. options_from choices d s (v ∷ rest))) has
              ∙ ap (λ l. cond (is_some l) None (options_from choices done (next (Some (n, v))) rest)) value_plain.0
              ∙ lazy choices done (n, v) rest ∙ ap (λ t. cond t None (options_from choices (done ++ (n, Some v) ∷ []) (next None) rest)) once
              ∙ ih ∙ ap Some (append_assoc done ((n, Some v) ∷ []) new),
        )

    writes_joined : (done new : List GivenOption) (words rest : List Text) (n v : Text) → words ≡ (codes "--" ++ (n ++ (codes "=" ++ v))) ∷ rest → takes_value choices n ≡ Some true
        → is_given n done ≡ false → Writes (done ++ (n, Some v) ∷ []) new rest → Writes done ((n, Some v) ∷ new) words
    writes_joined done new words rest n v is has once (read, ih) =
        let name = known_name choices n true plain_names has in (
          ap (list_all is_readable) is ∙ ap₂ (λ (a b : Bool). a && b) (read_joined n v name) read,
          ap (options_from choices done (next None)) is
              ∙ ap (λ l. met choices (Some done) l (λ d s. options_from choices d s rest)) (long_joined n v name)
              ∙ ap (λ t. named done n t (Some v) (λ d s. options_from choices d s rest)) has
              ∙ ap (λ b. go_on (cond b None (Some (done ++ (n, Some v) ∷ []))) (λ d s. options_from choices d s rest)) once
              ∙ ih ∙ ap Some (append_assoc done ((n, Some v) ∷ []) new),
        )

    writes_flag : (done new : List GivenOption) (words rest : List Text) (n : Text) → words ≡ (codes "--" ++ n) ∷ rest → takes_value choices n ≡ Some false
        → is_given n done ≡ false → Writes (done ++ (n, None) ∷ []) new rest → Writes done ((n, None) ∷ new) words
    writes_flag done new words rest n is has once (read, ih) =
        let name = known_name choices n false plain_names has in (
          ap (list_all is_readable) is ∙ ap₂ (λ (a b : Bool). a && b) (read_alone n name) read,
          ap (options_from choices done (next None)) is
              ∙ ap (λ l. met choices (Some done) l (λ d s. options_from choices d s rest)) (long_alone n name)
              ∙ ap (λ t. named done n t None (λ d s. options_from choices d s rest)) has
              ∙ ap (λ b. go_on (cond b None (Some (done ++ (n, None) ∷ []))) (λ d s. options_from choices d s rest)) once
              ∙ ih ∙ ap Some (append_assoc done ((n, None) ∷ []) new),
        )

    writes : (done new : List GivenOption) (words : List Text) → Spell choices done new words → Writes done new words
    writes done [] words is = (ap (list_all is_readable) is, ap (options_from choices done (next None)) is ∙ ap Some (sym (append-nil done)))
    writes done ((n, Some v) ∷ new) words (rest, inl (is, plain), has, once, spell) = writes_apart done new words rest n v is plain has once (writes (done ++ (n, Some v) ∷ []) new rest spell)
    writes done ((n, Some v) ∷ new) words (rest, inr is, has, once, spell) = writes_joined done new words rest n v is has once (writes (done ++ (n, Some v) ∷ []) new rest spell)
    writes done ((n, None) ∷ new) words (rest, is, has, once, spell) = writes_flag done new words rest n is has once (writes (done ++ (n, None) ∷ []) new rest spell)

-- the options of the words are the function's, where their names are plain
pub spelled : (choices : List Choice) (words : List Text) (options : List GivenOption) → options_of choices words ≡ Some options → Spell choices [] options words
spelled choices words options is = by (list_all is_readable words) refl is
  where
    by : (b : Bool) → list_all is_readable words ≡ b → cond b (options_from choices [] (next None) words) None ≡ Some options → Spell choices [] options words
    by false e h = absurd (some≢none options (sym h))
    by true e h =
        let (new, all, spell) = (reads choices words e).0 [] options h in
        subst (λ o. Spell choices [] o words) (sym all) spell

pub spelled_back : (choices : List Choice) (words : List Text) (options : List GivenOption) → list_all (λ (choice : Choice). is_option_name choice.name) choices ≡ true
    → Spell choices [] options words → options_of choices words ≡ Some options
spelled_back choices words options plain_names spell =
    let (read, is) = writes choices plain_names [] options words spell in
    ap (λ b. cond b (options_from choices [] (next None) words) None) read ∙ is

pub spelled_matches : (choices : List Choice) (words : List Text) (m : ArgMatches) → ParsedAs choices words (Some m) → Parsed choices words (Some m)
spelled_matches choices words m (options, is, values, given) = (options, spelled choices words options is, values, given)

pub spelled_none : (choices : List Choice) (words : List Text) → list_all (λ (choice : Choice). is_option_name choice.name) choices ≡ true → options_of choices words ≡ None → Parsed choices words None
spelled_none choices words plain_names none = λ options spell. some≢none options (sym (spelled_back choices words options plain_names spell) ∙ none)

pub unread : (choices : List Choice) (words : List Text) → list_all (λ (choice : Choice). is_option_name choice.name) choices ≡ true → list_all is_readable words ≡ false → Parsed choices words None
unread choices words plain_names read = spelled_none choices words plain_names (ap (λ b. cond b (options_from choices [] (next None) words) None) read)
