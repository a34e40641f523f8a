-- Forms of a part of a text: which bytes spell a value there.
use Rattle.std.specs.Prelude.{◌≡◌, ℕ, [], ◌∷◌, ◌++◌}
use Rattle.jt_trace_text.specs.Lines.{Bytes}

-- a word, and the byte that ends it
pub record IsField {A : Type 0} (ending : ℕ) (Form : A → Bytes → Type 0) (v : A) (l : Bytes) : Type 0 where
  pub word : Bytes
  pub form : Form v word
  pub is : l ≡ word ++ ending ∷ []

-- a part of one form, and behind it one of a form that may depend on the first value
pub record IsTwoParts {A B : Type 0} (First : A → Bytes → Type 0) (Second : A → B → Bytes → Type 0) (p : A × B) (l : Bytes) : Type 0 where
  pub front : Bytes
  pub back : Bytes
  pub first : First p.0 front
  pub second : Second p.0 p.1 back
  pub is : l ≡ front ++ back

-- fixed bytes, and a part of a form behind them
pub record IsBehind {A : Type 0} (fixed : Bytes) (Form : A → Bytes → Type 0) (v : A) (l : Bytes) : Type 0 where
  pub rest : Bytes
  pub form : Form v rest
  pub is : l ≡ fixed ++ rest
