-- What is made of a tree, and the state behind it: each part of a tree goes on where the one before it
-- ended.
pub record WalkResult (S A : Type 0) : Type 0 where
  pub it : A
  pub state : S

-- what changes no state
abbrev pub made : {S A : Type 0} → A → S → WalkResult S A
made a s = record { it = a; state = s }

-- something of one part
abbrev pub with : {S A B : Type 0} → (A → B) → WalkResult S A → WalkResult S B
with f m = record { it = f m.it; state = m.state }

-- something of two parts
abbrev pub both : {S A B C : Type 0} → (A → B → C) → WalkResult S A → (S → WalkResult S B) → WalkResult S C
both f m n = with (f m.it) (n m.state)

-- something of three parts
abbrev pub three : {S A B C D : Type 0} → (A → B → C → D) → WalkResult S A → (S → WalkResult S B) → (S → WalkResult S C) → WalkResult S D
three f m n o = both (λ g c. g c) (both f m n) o

-- something of four parts
abbrev pub four : {S A B C D E : Type 0} → (A → B → C → D → E) → WalkResult S A → (S → WalkResult S B) → (S → WalkResult S C) → (S → WalkResult S D) → WalkResult S E
four f m n o p = both (λ g d. g d) (three f m n o) p
