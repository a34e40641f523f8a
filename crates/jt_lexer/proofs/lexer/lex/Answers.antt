use Rattle.std.proofs.Common.{rules, sym, ◌∙◌, ◌≡◌, ◌≤◌, ◌-◌, Ok, Err, length, drop, take}
use Rattle.std.proofs.lemmas.List.{take_rest}
use Rattle.jt_lexer.specs.Pieces.{piece}
use Rattle.jt_lexer.proofs.Whole.{found_whole}
use Rattle.jt_lexer.proofs.LexLemmas.{begins, goes, stays}
use Rattle.jt_lexer.proofs.TokenLaws.{found_none, found_more, found_defect}
use Rattle.jt_lexer.proofs.lexer.lex.Goals as goal

pub loop-at-init : goal.loop-at-init
loop-at-init c = (begins c.args.text.now c.as_bytes-bytes.result.now c.new-tokens.result.items c.new-tokens.ensures.items c.as_bytes-bytes.ensures.value, search rules, found_none c.as_bytes-bytes.result.now c.new-tokens.result.items c.new-tokens.ensures.items, c.as_bytes-bytes.ensures.value)

pub loop-at-preserved : goal.loop-at-preserved
loop-at-preserved c =
    let at = c.loop-at.at in
    let bytes = c.as_bytes-bytes.result.now in
    let rest = take (length bytes - at) (drop at bytes) in
    let n = c.in-Ok.length in
    let within : (1 ≤ n) × (n ≤ length rest) = c.in-Ok.ensures.within in
    let is : piece rest ≡ Ok (c.in-Ok.shape, n) = sym c.piece.ensures.value ∙ c.in-Ok.is in (
      goes _ c.loop-at.tokens.items c.push_piece.new.tokens.items bytes rest at c.in-Ok.shape n c.loop-at.invariant.0 (take_rest bytes at) is within.0 within.1 c.in_ok-push_piece-in-Ok.ensures,
      stays bytes rest at n (take_rest bytes at) c.loop-at.invariant.1 within.1,
      found_more bytes rest at c.loop-at.tokens.items c.push_piece.new.tokens.items c.in-Ok.shape n c.loop-at.invariant.2 (take_rest bytes at) is c.in_ok-push_piece-in-Ok.ensures,
      c.loop-at.invariant.3,
    )

pub returns-in-Err-clause-refused : goal.returns-in-Err-clause-refused
returns-in-Err-clause-refused c =
    let at = c.loop-at.at in
    let bytes = c.as_bytes-bytes.result.now in
    let rest = take (length bytes - at) (drop at bytes) in
    let is : piece rest ≡ Err c.in-Err.defect = sym c.piece.ensures.value ∙ c.in-Err.is in
    found_defect c.args.text.now bytes rest at c.loop-at.tokens.items c.in-Err.defect c.refusal.result c.loop-at.invariant.3 c.loop-at.invariant.2 (take_rest bytes at) c.loop-at-test.true is c.refusal.ensures

pub returns-clause-whole : goal.returns-clause-whole
returns-clause-whole c =
    found_whole c.args.text.now c.as_bytes-bytes.result.now c.loop-at.at c.loop-at.tokens.items c.push.new.self.items c.loop-at.invariant.3 c.loop-at.invariant.2 (search rules) (search rules)
