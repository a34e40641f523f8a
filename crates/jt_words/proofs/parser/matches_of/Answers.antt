use Rattle.std.proofs.Common.{rules}
use Rattle.jt_words.proofs.Walks.{parsed, refused}
use Rattle.jt_words.proofs.Spelling.{spelled_matches, spelled_none, unread}
use Rattle.jt_words.proofs.parser.matches_of.Goals as goal

pub returns-then-not-are_readable : goal.returns-then-not-are_readable
returns-then-not-are_readable c = λ name choices is plain. unread choices _ plain.1 (search rules)

pub returns-in-Ok : goal.returns-in-Ok
returns-in-Ok c = λ name choices is plain.
    spelled_matches choices _ c.in-Ok.matches (parsed choices _ c.in-Ok.matches _ name is plain.0 (search rules) c.in-Ok.ensures.kinds c.in-Ok.ensures.matches)

pub returns : goal.returns
returns c = λ name choices is plain.
    spelled_none choices _ plain.1 (refused choices _ _ name c.in-Err.error.kind is plain.0 (search rules) (search rules) c.in-Err.ensures.kinds)
