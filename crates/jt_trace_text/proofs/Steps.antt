-- Reading part after part, and where it stops.
use Rattle.std.proofs.Common.{◌≡◌, ℕ, suc, ◌+◌, [], ◌++◌, Option, Some, None, Result, Err, refl, sym, ap, subst, ◌∙◌, arith}
use Rattle.std.proofs.lemmas.Option.{some_pair_parts}
use Rattle.jt_trace_text.specs.Lines.{Bytes, first_lines, StopsAfter}
use Rattle.jt_trace_text.specs.Readers.{Then, ReadsForm, AreLines, at_line}
use Rattle.jt_trace_text.proofs.Fronts.{front, front_of, StopsAfter-behind}

pair_is : {A : Type 0} (v w : A) (x y : Bytes) → ◌≡◌ {A = Option (A × Bytes)} (Some (v, x)) (Some (w, y)) → (v ≡ w) × (x ≡ y)
pair_is v w x y e = some_pair_parts v w x y e

module _ {A : Type 0} (Form : A → Bytes → Type 0) (read : Bytes → Option (A × Bytes)) (reads : ReadsForm Form read) (L : A → Bytes → Type 0) where
  -- a text that begins with a part of the form goes on in the language of its value
  pub unwraps : (v : A) (l : Bytes) → Form v l → (r : Bytes) → Then Form L (l ++ r) → L v r
  unwraps v l f r t =
      let one = reads.again v l r f in
      let other : read (l ++ r) ≡ Some (t.0, t.2) = ap read t.5 ∙ reads.again t.0 t.1 t.2 t.3 in
      let both = pair_is v t.0 r t.2 (sym one ∙ other) in
      subst (λ (x : Bytes). L v x) (sym both.1) (subst (λ (x : A). L x t.2) (sym both.0) t.4)

  pub wraps : (v : A) (l : Bytes) → Form v l → (r : Bytes) → L v r → Then Form L (l ++ r)
  wraps v l f r t = (v, l, r, f, t, refl)

  -- the next line is the first bad one
  pub stops_here : AreLines Form → (w : Bytes) → Then Form L w → (z : Bytes) → read z ≡ None → StopsAfter (Then Form L) 0 z
  stops_here lines w sample z none = record {
    begins = (w, sample, record { lines = []; first = refl; second = refl });
    no_more = λ b.
        let t = b.1 in
        let same = b.2 in
        let line = front_of 1 t.1 t.2 (lines t.0 t.1 t.3) in
        let is : Some same.lines ≡ Some t.1 = sym same.second ∙ ap (first_lines 1) t.5 ∙ line in
        let f : same.lines ≡ t.1 = cc in
        let r = front 1 z same.lines same.first in
        let found : read z ≡ Some (t.0, r.0) = ap read (r.1 ∙ ap (λ (x : Bytes). x ++ r.0) f) ∙ reads.again t.0 t.1 r.0 t.3 in
        cc;
    no_text = λ t. let found : read z ≡ Some (t.0, t.2) = ap read t.5 ∙ reads.again t.0 t.1 t.2 t.3 in cc;
  }

  -- reading a line and going on: where an error is, the text stops
  pub stops : AreLines Form → {B : Type 0} (n m : ℕ) (z : Bytes) (go : A × Bytes → Result B ℕ) → (w : Bytes) → Then Form L w
      → ((v : A) (l rest : Bytes) → Form v l → z ≡ l ++ rest → go (v, rest) ≡ Err m → (k : ℕ) × (m ≡ suc n + k) × StopsAfter (L v) k rest)
      → at_line n (read z) go ≡ Err m → (k : ℕ) × (m ≡ n + k) × StopsAfter (Then Form L) k z
  stops lines {B} n m z go w sample later e = by (read z) refl e
    where
      by : (o : Option (A × Bytes)) → read z ≡ o → at_line n o go ≡ Err m → (k : ℕ) × (m ≡ n + k) × StopsAfter (Then Form L) k z
      by None is err = let at : n ≡ m = cc in (0, omega arith, stops_here lines w sample z is)
      by (Some x) is err =
          let t = reads.takes z x.0 x.1 is in
          let s = later x.0 t.0 x.1 t.1 t.2 err in
          (suc s.0, omega (arith, s.1), subst (λ (y : Bytes). StopsAfter (Then Form L) (suc s.0) y) (sym t.2) (StopsAfter-behind (Then Form L) (L x.0) 1 s.0 (suc s.0) t.0 x.1 (lines x.0 t.0 t.1) (omega arith) (wraps x.0 t.0 t.1) (unwraps x.0 t.0 t.1) s.2))
