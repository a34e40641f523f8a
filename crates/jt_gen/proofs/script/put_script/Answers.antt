-- The three parts, one behind the other, are the script.
use Rattle.std.proofs.Common.{◌++◌, ◌∙◌, ap}
use Rattle.std.proofs.lemmas.Result.{on_ok_weaker}
use Rattle.std.specs.Prelude.{decimal, string_bytes}
use Rattle.jt_gen.proofs.Parts.{behind_size, script_parts}
use Rattle.jt_gen.proofs.script.put_script.Goals as goal

pub returns : goal.returns
returns c =
    let size = c.args.size in
    on_ok_weaker c.put-2.result
    (λ e. e
    ∙ ap (λ bytes. bytes ++ behind_size) (c.in_ok-put_number.ensures ∙ ap (λ bytes. bytes ++ decimal size) c.in_ok-put.ensures)
    ∙ script_parts (string_bytes c.args.out.now) size)
    c.put-2.ensures
