-- How many entries pass a test, with one more entry.
use Rattle.std.proofs.Common.{◌≡◌, ◌+◌, List, [], ◌∷◌, ◌++◌, length, Bool, true, false, ap, ◌∙◌, cond}
use Rattle.std.specs.Prelude.{filter}
use Rattle.std.proofs.lemmas.List.{append-nil, length-append}
use Rattle.std.proofs.lemmas.List.Elements.{filter-append}
use Rattle.jt_base.specs.declared.entry.Entry.{Entry}

pub filter_push : (p : Entry → Bool) (own : List Entry) (e : Entry) → filter p (own ++ e ∷ []) ≡ filter p own ++ cond (p e) (e ∷ []) []
filter_push p own e = filter-append p own (e ∷ [])

-- one more, where the test passes
pub count_more : (p : Entry → Bool) (own : List Entry) (e : Entry) → p e ≡ true → length (filter p (own ++ e ∷ [])) ≡ length (filter p own) + 1
count_more p own e h =
    ap length (filter_push p own e ∙ ap (λ b. filter p own ++ cond b (e ∷ []) []) h) ∙ length-append (filter p own) (e ∷ [])

pub count_same : (p : Entry → Bool) (own : List Entry) (e : Entry) → p e ≡ false → length (filter p (own ++ e ∷ [])) ≡ length (filter p own)
count_same p own e h =
    ap length (filter_push p own e ∙ ap (λ b. filter p own ++ cond b (e ∷ []) []) h ∙ append-nil (filter p own))
