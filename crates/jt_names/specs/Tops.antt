-- What a script as a whole has: its constants and its functions.
use Rattle.std.specs.Prelude.{ℕ, suc, List, [], ◌∷◌, ◌++◌, length, Option, Some, None, option_map, if◌then◌else◌}
use Rattle.jt_syntax.specs.declared.script.Identifier.{Identifier}
use Rattle.jt_syntax.specs.Tree.{TopTree}
use Rattle.jt_syntax.specs.Tree as tree
use Rattle.jt_names.specs.declared.functions.Signature.{Signature}
use Rattle.jt_names.specs.Names.{Name, is_named, add}

-- the constants, each name once
abbrev pub constants_of : List Identifier → List TopTree → List Identifier
constants_of s [] = s
constants_of s ((at, tree.constant i e) ∷ ts) = constants_of (add s i) ts
constants_of s ((at, f) ∷ ts) = constants_of s ts

abbrev pub signature : Identifier → List Identifier → Signature
signature i is = record { name = i; parameters = length is }

-- the functions in the order of the script
abbrev pub signatures_of : List Signature → List TopTree → List Signature
signatures_of s [] = s
signatures_of s ((at, tree.function i is ss) ∷ ts) = signatures_of (s ++ signature i is ∷ []) ts
signatures_of s ((at, tree.short i is e) ∷ ts) = signatures_of (s ++ signature i is ∷ []) ts
signatures_of s ((at, f) ∷ ts) = signatures_of s ts

-- the first function of this name
abbrev pub signature_of : List Signature → Name → Option Signature
signature_of [] n = None
signature_of (f ∷ fs) n = if is_named n f.name then Some f else signature_of fs n

-- how many functions stand before it
abbrev pub function_index : List Signature → Name → Option ℕ
function_index [] n = None
function_index (f ∷ fs) n = if is_named n f.name then Some 0 else option_map suc (function_index fs n)

abbrev pub function_place : Option Signature → Option ℕ
function_place None = None
function_place (Some f) = Some f.name.at
