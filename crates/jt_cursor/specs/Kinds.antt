-- The kind of a token that is looked at without taking its bytes.
use Rattle.jt_syntax.specs.declared.token.TokenKind.{TokenKind}
use Rattle.jt_syntax.specs.declared.token.TokenKind.TheVariants as kind
use Rattle.jt_cursor.specs.declared.cursor.Kind.{Kind}
use Rattle.jt_cursor.specs.declared.cursor.Kind.TheVariants as seen

abbrev pub kind_view : Kind → TokenKind
kind_view (seen.Number n) = kind.Number n
kind_view (seen.Name n) = kind.Name n.now
kind_view (seen.Text t) = kind.Text t.now
kind_view (seen.Sign s) = kind.Sign s
