-- Lists with commas, and what reads their items.
use Rattle.std.specs.Prelude.{List, map, Result}
use denote.Ref.{MutBor}
use Rattle.jt_syntax.specs.Tree.{Tree, Trees}
use Rattle.jt_syntax.specs.View.{trees_of}
use Rattle.jt_syntax.specs.declared.token.Token.{Token}
use Rattle.jt_grammar.specs.Reader.{Parser}
use Rattle.jt_cursor.specs.declared.failure.Failure.{Failure}
use Rattle.jt_cursor.specs.Parses.{Parses}

-- a function value reads what the reader does, as `of` sees it
abbrev pub ParsesBy : {T A : Type 0} → (T → A) → Parser A → (MutBor (List Token) → Result T Failure → MutBor (List Token) → Type 0) → Type 0
ParsesBy of p post = (old new : MutBor (List Token)) (r : _) → post old r new → Parses of (p old.now) r new.now

abbrev pub trees_view : {T : Type 0} → (T → Tree) → List T → Trees
trees_view of xs = trees_of (map of xs)
