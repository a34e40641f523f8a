-- Reading the indexes of a path one after another, as a loop does.
use Rattle.std.proofs.Common.{inl, inr, ◌≡◌, ℕ, suc, ◌-◌, ◌<◌, ◌≤◌, Bool, List, [], ◌∷◌, ◌++◌, length, Option, Some, None, refl, sym, ap, ◌∙◌, append_assoc, arith}
use Rattle.std.specs.Prelude.{option_map, option_and_then, if◌then◌else◌}
use Rattle.std.proofs.lemmas.Bool.{cases_lt, lt-ltb, le-ltb}
use Rattle.std.proofs.lemmas.List.{length-append}
use Rattle.jt_trace_text.specs.Lines.{Bytes}
use Rattle.jt_trace_text.specs.Readers.{cut}
use Rattle.jt_trace_text.specs.WordReaders.{number_in, index_or_more, indexes_of}
use Rattle.jt_trace_text.proofs.Pieces.{cut_takes}
use Rattle.jt_trace.specs.Paths.{grown}

-- the indexes that were read, and those that are still read
abbrev pub whole_path : List ℕ → Bytes → Option (List ℕ)
whole_path path rest = option_map (λ (ks : List ℕ). path ++ ks) (indexes_of (48 - length path) rest)

regroup : (path : List ℕ) (k : ℕ) (o : Option (List ℕ)) → option_map (λ (ks : List ℕ). path ++ ks) (option_map (λ (ks : List ℕ). k ∷ ks) o) ≡ option_map (λ (ks : List ℕ). (path ++ k ∷ []) ++ ks) o
regroup path k (Some ks) = ap (λ (x : List ℕ). Some x) (sym (append_assoc path (k ∷ []) ks))
regroup path k None = refl

next_length : (path : List ℕ) (k n : ℕ) → 48 - length path ≡ suc n → 48 - length (path ++ k ∷ []) ≡ n
next_length path k n e = omega (arith, e, length-append path (k ∷ []))

full : (path : List ℕ) → 48 ≤ length path → 48 - length path ≡ 0
full path l = omega (arith, l)

room : (path : List ℕ) → length path < 48 → 48 - length path ≡ suc (47 - length path)
room path l = omega (arith, l)

-- ---- with one index more

unfolded : (path : List ℕ) (rest : Bytes) (o : Option (Bytes × Bytes)) (n : ℕ) → 48 - length path ≡ suc n → cut 46 rest ≡ o → whole_path path rest ≡ option_map (λ (ks : List ℕ). path ++ ks) (index_or_more (λ y. indexes_of n y) o rest)
unfolding indexes_of
unfolded path rest o n r is =
    ap (λ (m : ℕ). option_map (λ (ks : List ℕ). path ++ ks) (indexes_of m rest)) r
    ∙ ap (λ (x : Option (Bytes × Bytes)). option_map (λ (ks : List ℕ). path ++ ks) (index_or_more (λ y. indexes_of n y) x rest)) is

no_more : (path : List ℕ) (rest : Bytes) → 48 ≤ length path → None ≡ whole_path path rest
unfolding indexes_of
no_more path rest l = sym (ap (λ (m : ℕ). option_map (λ (ks : List ℕ). path ++ ks) (indexes_of m rest)) (full path l))

with_room : (path : List ℕ) (w : Bytes) → length path < 48 → grown path w ≡ option_map (λ (k : ℕ). path ++ k ∷ []) (number_in 0 4294967295 w)
with_room path w l = ap (λ (b : Bool). if b then option_map (λ (k : ℕ). path ++ k ∷ []) (number_in 0 4294967295 w) else None) (lt-ltb (length path) 48 l)

without_room : (path : List ℕ) (w : Bytes) → 48 ≤ length path → grown path w ≡ None
without_room path w l = ap (λ (b : Bool). if b then option_map (λ (k : ℕ). path ++ k ∷ []) (number_in 0 4294967295 w) else None) (le-ltb (length path) 48 l)

next_index : (path : List ℕ) (after : Bytes) (n : ℕ) (o : Option ℕ) → 48 - length path ≡ suc n
    → option_and_then (λ (p : List ℕ). whole_path p after) (option_map (λ (k : ℕ). path ++ k ∷ []) o) ≡ option_map (λ (ks : List ℕ). path ++ ks) (option_and_then (λ (k : ℕ). option_map (λ (ks : List ℕ). k ∷ ks) (indexes_of n after)) o)
next_index path after n None r = refl
next_index path after n (Some k) r =
    ap (λ (m : ℕ). option_map (λ (ks : List ℕ). (path ++ k ∷ []) ++ ks) (indexes_of m after)) (next_length path k n r) ∙ sym (regroup path k (indexes_of n after))

whole_more : (path : List ℕ) (rest w after : Bytes) → cut 46 rest ≡ Some (w, after) → option_and_then (λ (p : List ℕ). whole_path p after) (grown path w) ≡ whole_path path rest
whole_more path rest w after is = elim (cases_lt (length path) 48) [
  | inl below ↦
      let l : length path < 48 = below in
      ap (option_and_then (λ (p : List ℕ). whole_path p after)) (with_room path w l)
      ∙ next_index path after (47 - length path) (number_in 0 4294967295 w) (room path l)
      ∙ sym (unfolded path rest (Some (w, after)) (47 - length path) (room path l) is)
  | inr above ↦
      let l : 48 ≤ length path = above in
      ap (option_and_then (λ (p : List ℕ). whole_path p after)) (without_room path w l) ∙ no_more path rest l
]

-- ---- the last index

last_index : (path : List ℕ) (o : Option ℕ) → option_map (λ (k : ℕ). path ++ k ∷ []) o ≡ option_map (λ (ks : List ℕ). path ++ ks) (option_map (λ (k : ℕ). k ∷ []) o)
last_index path None = refl
last_index path (Some k) = refl

pub whole_last : (path : List ℕ) (rest : Bytes) → cut 46 rest ≡ None → grown path rest ≡ whole_path path rest
whole_last path rest is = elim (cases_lt (length path) 48) [
  | inl below ↦
      let l : length path < 48 = below in
      with_room path rest l ∙ last_index path (number_in 0 4294967295 rest) ∙ sym (unfolded path rest None (47 - length path) (room path l) is)
  | inr above ↦
      let l : 48 ≤ length path = above in
      without_room path rest l ∙ no_more path rest l
]

pub shorter : (rest w after : Bytes) → cut 46 rest ≡ Some (w, after) → length after < length rest
shorter rest w after is =
    let e : length rest ≡ length (w ++ (46 ∷ after)) = ap length (cut_takes 46 rest w after is) in
    omega (arith, e, length-append w (46 ∷ after))

pub grown_some : (path p : List ℕ) (rest w after : Bytes) → cut 46 rest ≡ Some (w, after) → grown path w ≡ Some p → whole_path p after ≡ whole_path path rest
grown_some path p rest w after is e = sym (ap (option_and_then (λ (q : List ℕ). whole_path q after)) e) ∙ whole_more path rest w after is

pub grown_none : (path : List ℕ) (rest w after : Bytes) → cut 46 rest ≡ Some (w, after) → grown path w ≡ None → None ≡ whole_path path rest
grown_none path rest w after is e = sym (ap (option_and_then (λ (q : List ℕ). whole_path q after)) e) ∙ whole_more path rest w after is
