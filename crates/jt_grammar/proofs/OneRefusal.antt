-- No tokens have two refusals, and a script within the nesting has none.
use Rattle.std.proofs.Common.{◌≡◌, ℕ, suc, ◌+◌, ◌⊎◌, inl, inr, true, true≢false, List, [], ◌∷◌, ◌++◌, refl, sym, ap, subst, ◌∙◌, append_assoc, arith}
use Rattle.jt_syntax.specs.Tree.{TopTree}
use Rattle.jt_syntax.specs.declared.token.Sign.TheVariants as sign
use Rattle.jt_syntax.specs.declared.token.Token.{Token}
use Rattle.jt_syntax.specs.declared.token.TokenKind.{TokenKind}
use Rattle.jt_syntax.specs.declared.token.TokenKind.TheVariants as kind
use Rattle.jt_grammar.specs.Nesting.{TopsWithin}
use Rattle.jt_grammar.proofs.Joining.{same_head, same_tail}
use Rattle.jt_grammar.proofs.Main.{within_more}
use Rattle.jt_grammar.specs.Joined.{IsScriptOf, BeginsScript, BeginsWithin, is_last_opener, is_opener, demanded, Unopened, BeginsFitting, IsUnexpected, IsTooDeep}

-- ---- two tokens of one list

-- the second stands behind the first
abbrev Behind : List Token → Token → List Token → Type 0
Behind w t w' = (v : List Token) × (w' ≡ w ++ t ∷ v)

behind_more : (r s : Token) (w w' : List Token) (t : Token) → r ≡ s → Behind w t w' → Behind (r ∷ w) t (s ∷ w')
behind_more r s w w' t e b = (b.0, ap (λ z. z ∷ w') (sym e) ∙ ap (λ z. r ∷ z) b.1)

abbrev Order : List Token → Token → List Token → Token → Type 0
Order w t w' t' = (t ≡ t') × (w ≡ w') ⊎ (Behind w t w' ⊎ Behind w' t' w)

order_more : (r s : Token) (w w' : List Token) (t t' : Token) → r ≡ s → Order w t w' t' → Order (r ∷ w) t (s ∷ w') t'
order_more r s w w' t t' e (inl p) = inl (p.0, ap (λ z. z ∷ w) e ∙ ap (λ z. s ∷ z) p.1)
order_more r s w w' t t' e (inr (inl b)) = inr (inl (behind_more r s w w' t e b))
order_more r s w w' t t' e (inr (inr b)) = inr (inr (behind_more s r w' w t' (sym e) b))

order : (w w' x x' : List Token) (t t' : Token) → w ++ t ∷ x ≡ w' ++ t' ∷ x' → Order w t w' t'
order [] [] x x' t t' e = inl (same_head e, refl)
order [] (s ∷ w') x x' t t' e = inr (inl (w', ap (λ z. z ∷ w') (sym (same_head e))))
order (r ∷ w) [] x x' t t' e = inr (inr (w, ap (λ z. z ∷ w) (same_head e)))
order (r ∷ w) (s ∷ w') x x' t t' e = order_more r s w w' t t' (same_head e) (order w w' x x' t t' (same_tail e))

-- ---- fronts of fronts

shorter_front : (d : ℕ) (a b : List Token) → BeginsWithin d (a ++ b) → BeginsWithin d a
shorter_front d a b h = (b ++ h.0, h.1, subst (λ z. IsScriptOf z h.1) (append_assoc a b h.0) h.2, h.3)

front_with : (d : ℕ) (w w' : List Token) (t : Token) → Behind w t w' → BeginsWithin d w' → BeginsWithin d (w ++ t ∷ [])
front_with d w w' t b h = shorter_front d (w ++ t ∷ []) b.0 (subst (BeginsWithin d) (b.1 ∙ sym (append_assoc w (t ∷ []) b.0)) h)

whatever : (d : ℕ) (w : List Token) → BeginsWithin d w → BeginsScript w
whatever d w h = (h.0, h.1, h.2)

-- ---- an opener too many has no front behind it that fits

opener_kinds : (k : TokenKind) → is_opener k ≡ true → (demanded k ≡ 1) ⊎ ((demanded k ≡ 0) × (is_last_opener k ≡ true))
opener_kinds (kind.Sign sign.Threads) e = inl refl
opener_kinds (kind.Sign sign.Function) e = inl refl
opener_kinds (kind.Sign _) e = inr (refl, e)
opener_kinds (kind.Number _) e = absurd (true≢false (sym e))
opener_kinds (kind.Name _) e = absurd (true≢false (sym e))
opener_kinds (kind.Text _) e = absurd (true≢false (sym e))

not_among : (w v : List Token) (t : Token) → Unopened (w ++ t ∷ v) → is_last_opener t.kind ≡ true → ⊥
not_among [] v t h e = true≢false (sym e ∙ h.0)
not_among (r ∷ w) v t h e = not_among w v t h.1 e

-- where p ++ q has t, and q opens nothing, p has it
among_first : (w v p q : List Token) (t : Token) → w ++ t ∷ v ≡ p ++ q → Unopened q → is_last_opener t.kind ≡ true → Behind w t p
among_first w v [] q t e h o = absurd (not_among w v t (subst Unopened (sym e) h) o)
among_first [] v (r ∷ p) q t e h o = (p, ap (λ z. z ∷ p) (sym (same_head e)))
among_first (s ∷ w) v (r ∷ p) q t e h o = behind_more s r w p t (same_head e) (among_first w v p q t (same_tail e) h o)

too_deep_last : (d : ℕ) (w w' : List Token) (t : Token) → Behind w t w' → BeginsFitting d w' → ¬ BeginsWithin (demanded t.kind + d) (w ++ t ∷ []) → (demanded t.kind ≡ 1) ⊎ ((demanded t.kind ≡ 0) × (is_last_opener t.kind ≡ true)) → ⊥
too_deep_last d w w' t b f refused (inl one) =
    let same : suc d ≡ demanded t.kind + d = omega (arith, one) in
    refused (subst (λ k. BeginsWithin k (w ++ t ∷ [])) same (front_with (suc d) w w' t b f.5))
too_deep_last d w w' t b f refused (inr none) =
    let same : d ≡ demanded t.kind + d = omega (arith, none.0) in
    refused (subst (λ k. BeginsWithin k (w ++ t ∷ [])) same (front_with d w f.0 t (among_first w b.0 f.0 f.1 t (sym b.1 ∙ f.2) f.4 none.1) f.3))

-- ---- no two refusals

abbrev Unfit : ℕ → List Token → Token → Type 0
Unfit d w t = (w' : List Token) → Behind w t w' → BeginsFitting d w' → ⊥

unexpected_last : (d : ℕ) (w : List Token) (t : Token) → ¬ BeginsScript (w ++ t ∷ []) → Unfit d w t
unexpected_last d w t refused w' b f = refused (whatever (suc d) (w ++ t ∷ []) (front_with (suc d) w w' t b f.5))

deep_last : (d : ℕ) (w : List Token) (t : Token) → is_opener t.kind ≡ true → ¬ BeginsWithin (demanded t.kind + d) (w ++ t ∷ []) → Unfit d w t
deep_last d w t o refused w' b f = too_deep_last d w w' t b f refused (opener_kinds t.kind o)

same_place : (d : ℕ) (w w' : List Token) (t t' : Token) → Order w t w' t' → BeginsFitting d w → BeginsFitting d w' → Unfit d w t → Unfit d w' t' → (t ≡ t') × (w ≡ w')
same_place d w w' t t' (inl p) f f' u u' = p
same_place d w w' t t' (inr (inl b)) f f' u u' = absurd (u w' b f')
same_place d w w' t t' (inr (inr b)) f f' u u' = absurd (u' w b f)

pub one_unexpected : (d : ℕ) (ts : List Token) (t t' : Token) → IsUnexpected d ts t → IsUnexpected d ts t' → t ≡ t'
one_unexpected d ts t t' a b =
    (same_place d a.0 b.0 t t' (order a.0 b.0 a.1 b.1 t t' (sym a.2 ∙ b.2)) a.3 b.3 (unexpected_last d a.0 t a.4) (unexpected_last d b.0 t' b.4)).0

pub one_too_deep : (d : ℕ) (ts : List Token) (t t' : Token) → IsTooDeep d ts t → IsTooDeep d ts t' → t ≡ t'
one_too_deep d ts t t' a b =
    (same_place d a.0 b.0 t t' (order a.0 b.0 a.1 b.1 t t' (sym a.2 ∙ b.2)) a.3 b.3 (deep_last d a.0 t a.4 a.6) (deep_last d b.0 t' b.4 b.6)).0

pub not_both : (d : ℕ) (ts : List Token) (t t' : Token) → IsUnexpected d ts t → IsTooDeep d ts t' → ⊥
not_both d ts t t' a b =
    let p = same_place d a.0 b.0 t t' (order a.0 b.0 a.1 b.1 t t' (sym a.2 ∙ b.2)) a.3 b.3 (unexpected_last d a.0 t a.4) (deep_last d b.0 t' b.4 b.6) in
    a.4 (subst (λ z. BeginsScript (z ++ t ∷ [])) (sym p.1) (subst (λ z. BeginsScript (b.0 ++ z ∷ [])) (sym p.0) b.5))

-- ---- a script within the nesting has none

front_of : (k : ℕ) (ts w x : List Token) (t : Token) (tops : List TopTree) → ts ≡ w ++ t ∷ x → IsScriptOf ts tops → TopsWithin k tops → BeginsWithin k (w ++ t ∷ [])
front_of k ts w x t tops e a h = (x, tops, subst (λ z. IsScriptOf z tops) (e ∙ sym (append_assoc w (t ∷ []) x)) a, h)

pub not_unexpected : (d : ℕ) (ts : List Token) (t : Token) (tops : List TopTree) → IsScriptOf ts tops → TopsWithin d tops → IsUnexpected d ts t → ⊥
not_unexpected d ts t tops a h u = u.4 (whatever d (u.0 ++ t ∷ []) (front_of d ts u.0 u.1 t tops u.2 a h))

deep_kinds : (d : ℕ) (ts w x : List Token) (t : Token) (tops : List TopTree) → ts ≡ w ++ t ∷ x → IsScriptOf ts tops → TopsWithin d tops → TopsWithin (suc d) tops → ¬ BeginsWithin (demanded t.kind + d) (w ++ t ∷ [])
    → (demanded t.kind ≡ 1) ⊎ ((demanded t.kind ≡ 0) × (is_last_opener t.kind ≡ true)) → ⊥
deep_kinds d ts w x t tops e a h h' refused (inl one) =
    let same : suc d ≡ demanded t.kind + d = omega (arith, one) in
    refused (subst (λ k. BeginsWithin k (w ++ t ∷ [])) same (front_of (suc d) ts w x t tops e a h'))
deep_kinds d ts w x t tops e a h h' refused (inr none) =
    let same : d ≡ demanded t.kind + d = omega (arith, none.0) in
    refused (subst (λ k. BeginsWithin k (w ++ t ∷ [])) same (front_of d ts w x t tops e a h))

pub not_too_deep : (d : ℕ) (ts : List Token) (t : Token) (tops : List TopTree) → IsScriptOf ts tops → TopsWithin d tops → IsTooDeep d ts t → ⊥
not_too_deep d ts t tops a h u = deep_kinds d ts u.0 u.1 t tops u.2 a h (within_more d ts tops a h) u.6 (opener_kinds t.kind u.4)
