-- What stops the tokens stops the text, and so does what stops the script; the program of the script is the text's.
use Rattle.std.proofs.Common.{Result, Ok, Err, IfOk, IfErr}
use Rattle.jt_lexer.specs.Tokens.{IsTokensOf}
use Rattle.jt_syntax.specs.View.{script_view}
use Rattle.jt_tool.proofs.Stopped.{stop_of_text, stop_of_script}
use Rattle.jt_tool.specs.Scripts.{IsScriptText}
use Rattle.jt_tool.proofs.program.load_program.Goals as goal

if_err : {A E : Type 0} (P Q : E → Type 0) (r : Result A E) → ((e : E) → P e → Q e) → IfErr r P → IfErr r Q
if_err P Q (Ok x) f h = h
if_err P Q (Err e) f h = f e h

if_ok : {A E : Type 0} (P Q R : A → Type 0) (r : Result A E) → ((x : A) → P x → Q x → R x) → IfOk r P → IfOk r Q → IfOk r R
if_ok P Q R (Ok x) f p q = f x p q
if_ok P Q R (Err e) f p q = p

pub returns-in-Ok-clause-program : goal.returns-in-Ok-clause-program
returns-in-Ok-clause-program c =
    let lexed : IsTokensOf c.args.text.now c.as_slice.result.now = rw c.as_slice.ensures.value c.in_ok-tokens.ensures.tokens in
    let is : IsScriptText c.args.text.now c.as_slice.result.now (script_view c.in-Ok.script) = record {
      text = c.in_ok-tokens.ensures.text;
      lexed = lexed;
      parsed = c.in-Ok.ensures.script;
      nested = c.in-Ok.ensures.nested;
    } in
    if_ok _ _ _ c.bound_program.result
    (λ r named same. record {
      tokens = c.as_slice.result.now;
      tops = script_view c.in-Ok.script;
      read = is;
      built = c.in-Ok.ensures.built;
      named = named;
      is = same;
    })
    c.bound_program.ensures.named c.bound_program.ensures.program

pub returns-in-Ok-clause-refused : goal.returns-in-Ok-clause-refused
returns-in-Ok-clause-refused c =
    let lexed : IsTokensOf c.args.text.now c.as_slice.result.now = rw c.as_slice.ensures.value c.in_ok-tokens.ensures.tokens in
    let is : IsScriptText c.args.text.now c.as_slice.result.now (script_view c.in-Ok.script) = record {
      text = c.in_ok-tokens.ensures.text;
      lexed = lexed;
      parsed = c.in-Ok.ensures.script;
      nested = c.in-Ok.ensures.nested;
    } in
    if_err _ _ c.bound_program.result (λ e s. stop_of_script c.args.text.now c.as_slice.result.now (script_view c.in-Ok.script) e is c.in-Ok.ensures.built s) c.bound_program.ensures.refused

pub returns-clause-refused : goal.returns-clause-refused
returns-clause-refused c =
    let lexed : IsTokensOf c.args.text.now c.as_slice.result.now = rw c.as_slice.ensures.value c.in_ok-tokens.ensures.tokens in
    stop_of_text c.args.text.now c.as_slice.result.now c.in-Err.stop c.in_ok-tokens.ensures.text lexed c.in-Err.ensures.refused
