-- Readers on lists of bytes, which take a part off the front of a text, and what it is to read a form.
use Rattle.std.specs.Prelude.{◌≡◌, ℕ, Bool, true, not, ◌&&◌, if◌then◌else◌, ◌==◌, List, [], ◌∷◌, ◌++◌, Option, Some, None, Result, Err, option_map, option_and_then}
use Rattle.std.specs.Str.{bytes_eq}
use Rattle.jt_trace_text.specs.Lines.{Bytes, first_lines}

-- ---- parts of a line

-- the bytes before the first such byte, and those behind it
abbrev pub cut : ℕ → Bytes → Option (Bytes × Bytes)
cut c [] = None
cut c (b ∷ z) = if b == c then Some ([], z) else option_map (λ (p : Bytes × Bytes). (b ∷ p.0, p.1)) (cut c z)

-- no such byte stands there
abbrev pub lacks : ℕ → Bytes → Bool
lacks c [] = true
lacks c (b ∷ z) = not (b == c) && lacks c z

-- a word that is read whole, up to the byte that ends it
abbrev pub field : {A : Type 0} → ℕ → (Bytes → Option A) → Bytes → Option (A × Bytes)
field {A} ending read z = option_and_then (λ (p : Bytes × Bytes). option_map (λ (v : A). (v, p.1)) (read p.0)) (cut ending z)

-- one part, and behind it another that may depend on the first value
abbrev pub pair_at : {A B : Type 0} → (Bytes → Option (A × Bytes)) → (A → Bytes → Option (B × Bytes)) → Bytes → Option ((A × B) × Bytes)
pair_at {A} {B} first second z = option_and_then (λ (x : A × Bytes). option_map (λ (y : B × Bytes). ((x.0, y.0), y.1)) (second x.0 x.1)) (first z)

-- what stands behind fixed bytes
abbrev pub literal : Bytes → Bytes → Option Bytes
literal [] z = Some z
literal (a ∷ w) [] = None
literal (a ∷ w) (b ∷ z) = if a == b then literal w z else None

abbrev pub behind : {A : Type 0} → Bytes → (Bytes → Option (A × Bytes)) → Bytes → Option (A × Bytes)
behind fixed read z = option_and_then read (literal fixed z)

-- what a table has for a word
abbrev pub lookup : {A : Type 0} → List (Bytes × A) → Bytes → Option A
lookup [] w = None
lookup (p ∷ table) w = if bytes_eq w p.0 then Some p.1 else lookup table w

-- ---- what it is to read a form

-- a reader of whole words reads just those of a form
pub record ReadsWord {A : Type 0} (Form : A → Bytes → Type 0) (read : Bytes → Option A) : Type 0 where
  pub takes : (w : Bytes) (v : A) → read w ≡ Some v → Form v w
  pub again : (v : A) (w : Bytes) → Form v w → read w ≡ Some v

-- a reader takes just the texts of a form off the front
pub record ReadsForm {A : Type 0} (Form : A → Bytes → Type 0) (read : Bytes → Option (A × Bytes)) : Type 0 where
  pub takes : (z : Bytes) (v : A) (rest : Bytes) → read z ≡ Some (v, rest) → (l : Bytes) × Form v l × (z ≡ l ++ rest)
  pub again : (v : A) (l rest : Bytes) → Form v l → read (l ++ rest) ≡ Some (v, rest)

-- ---- lines one after another

-- a text of a form of some value, and behind it a text of the kind that follows this value
abbrev pub Then : {A : Type 0} → (A → Bytes → Type 0) → (A → Bytes → Type 0) → Bytes → Type 0
Then {A} Form Kind w = (v : A) × (l : Bytes) × (rest : Bytes) × Form v l × Kind v rest × (w ≡ l ++ rest)

-- each text of the form is one line
abbrev pub AreLines : {A : Type 0} → (A → Bytes → Type 0) → Type 0
AreLines {A} Form = (v : A) (l : Bytes) → Form v l → first_lines 1 l ≡ Some l

-- what goes on behind line n, or that it is the first bad one
abbrev pub at_line : {A B : Type 0} → ℕ → Option A → (A → Result B ℕ) → Result B ℕ
at_line n None go = Err n
at_line n (Some x) go = go x
