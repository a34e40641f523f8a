-- The word and the path are added one behind the other.
use Rattle.std.proofs.Common.{◌≡◌, ◌++◌, codes, string_bytes, Result, Ok, Err, OnOk, ap, ◌∙◌, append_assoc}
use Rattle.jt_tool.specs.Faults.{path_text}
use Rattle.jt_tool.proofs.fault.push_task_failed.Goals as goal

on_ok : {A E P Q : Type 0} (r : Result A E) → (P → Q) → OnOk r P → OnOk r Q
on_ok (Ok x) f p = f p
on_ok (Err e) f p = p

pub returns : goal.returns
returns c =
    let path = path_text c.args.path.now in
    let word : string_bytes c.push_str.new.self ≡ string_bytes c.args.text.now ++ codes "taskfailed:" = c.in_ok-push_str.ensures.bytes in
    let whole = ap (λ z. z ++ path) word ∙ append_assoc (string_bytes c.args.text.now) (codes "taskfailed:") path in
    on_ok c.push_path.result (λ (e : string_bytes c.push_path.new.text ≡ string_bytes c.push_str.new.self ++ path). e ∙ whole) c.push_path.ensures
