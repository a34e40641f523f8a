-- What is read from a history: main's end, its cut, and the printed lines.
use Rattle.std.specs.Prelude.{ℕ, List, [], ◌∷◌, ◌++◌, Option, Some, None, Bool, ◌&&◌, cond}
use Rattle.jt_base.specs.declared.operation.Op.{Op}
use Rattle.jt_base.specs.declared.operation.Op.TheVariants.{Print}
use Rattle.jt_base.specs.declared.entry.Entry.{Entry}
use Rattle.jt_laws.specs.Entries.{ends}
use Rattle.jt_laws.specs.Tasks.{is_main}

abbrev pub is_main_end : Entry → Bool
is_main_end e = ends e.op && is_main e.task

-- main's last operation, an End or a Fail
abbrev pub main_end : List Entry → Option Op
main_end [] = None
main_end (e ∷ es) = cond (is_main_end e) (Some e.op) (main_end es)

-- up to and with main's end; all of it where main doesn't end
abbrev pub cut_at_main_end : List Entry → List Entry
cut_at_main_end [] = []
cut_at_main_end (e ∷ es) = e ∷ cond (is_main_end e) [] (cut_at_main_end es)

-- the text of a print, and a newline
abbrev pub line_of : Op → List ℕ
line_of (Print text) = text ++ 10 ∷ []
line_of op = []

abbrev pub lines_of : List Entry → List ℕ
lines_of [] = []
lines_of (e ∷ es) = line_of e.op ++ lines_of es
