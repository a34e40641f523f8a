-- Lawful lists, entry by entry.
use Rattle.std.proofs.Common.{◌≡◌, List, [], ◌∷◌, ◌++◌, Option, Some, None, refl, sym, subst, append_assoc}
use Rattle.std.specs.Prelude.{option_and_then}
use Rattle.std.proofs.lemmas.List.{append-nil}
use Rattle.jt_base.specs.declared.entry.Entry.{Entry}
use Rattle.jt_base.specs.declared.operation.Reply.{Reply}
use Rattle.jt_laws.specs.Objects.{reply_after, LawfulFrom, IsLawful}

-- what each lawful entry keeps holds at the end
pub along : (P : List Entry → Type 0) → ((past : List Entry) (e : Entry) → P past → reply_after past e.task e.op ≡ Some e.reply → P (past ++ e ∷ [])) → (past own : List Entry) → P past → LawfulFrom past own → P (past ++ own)
along P step past [] p l = subst P (sym (append-nil past)) p
along P step past (e ∷ es) p l =
    subst P (append_assoc past (e ∷ []) es) (along P step (past ++ e ∷ []) es (step past e p l.0) l.1)

-- a list in two parts
pub split : (past xs ys : List Entry) → LawfulFrom past (xs ++ ys) → LawfulFrom past xs × LawfulFrom (past ++ xs) ys
split past [] ys l = (tt, subst (λ p. LawfulFrom p ys) (sym (append-nil past)) l)
split past (x ∷ xs) ys l =
    let r = split (past ++ x ∷ []) xs ys l.1 in
    ((l.0, r.0), subst (λ p. LawfulFrom p ys) (append_assoc past (x ∷ []) xs) r.1)

-- one more lawful entry
push : (past own : List Entry) (e : Entry) → LawfulFrom past own → reply_after (past ++ own) e.task e.op ≡ Some e.reply → LawfulFrom past (own ++ e ∷ [])
push past [] e l h = (subst (λ p. reply_after p e.task e.op ≡ Some e.reply) (append-nil past) h, tt)
push past (x ∷ xs) e l h = (l.0, push (past ++ x ∷ []) xs e l.1 (subst (λ p. reply_after p e.task e.op ≡ Some e.reply) (sym (append_assoc past (x ∷ []) xs)) h))

pub lawful_push : (own : List Entry) (e : Entry) → IsLawful own → reply_after own e.task e.op ≡ Some e.reply → IsLawful (own ++ e ∷ [])
lawful_push own e l h = push [] own e l h

-- what a law that asks for the object's kind answers
pub of_kind : {A : Type 0} (o : Option A) (law : A → Option Reply) (r : Reply) → option_and_then law o ≡ Some r → (a : A) × (o ≡ Some a) × (law a ≡ Some r)
of_kind None law r e = absurd (cc)
of_kind (Some a) law r e = (a, refl, e)
