use Rattle.std.proofs.Common.{arith, sym, ap, ◌∙◌, get_or}
use Rattle.jt_lexer.specs.Pieces.{opens_comment, closes_comment}
use Rattle.jt_lexer.proofs.LexLemmas.{mark_goes, open_goes, close_goes, other_goes}
use Rattle.jt_lexer.proofs.piece.comment_end.Goals as goal
use Rattle.jt_lexer.proofs.piece.comment_end.Goals.{then-in_mark, else-in_mark+then-opens, else-in_mark+else-opens+then-closes+else-outer-eq0, else-in_mark+else-opens+else-closes}

pub loop-at-preserved : goal.loop-at-preserved
loop-at-preserved c =
    let z = c.args.z.now in
    let at = c.loop-at.at in
    let outer = c.loop-at.outer in
    let end = c.loop-at.end in
    let inv = c.loop-at.invariant.0 in
    let more = c.loop-at-test.true in
    elim c.if-in_mark.branch [
      | then-in_mark w ↦ let g = mark_goes outer end at z more in grind (arith, g, inv, w.outer-is, w.in_mark-is)
      | else-in_mark+then-opens w ↦ let g = open_goes outer end at z more (sym (w.opens.ensures ∙ ap (opens_comment (get_or z at 0)) w.byte.ensures.value) ∙ w.if-opens.true) in grind (arith, g, inv, w.outer-is, w.in_mark-is, w.if-in_mark.false)
      | else-in_mark+else-opens+then-closes+else-outer-eq0 w ↦ let g = close_goes outer end at z more (sym (w.opens.ensures ∙ ap (opens_comment (get_or z at 0)) w.byte.ensures.value) ∙ w.if-opens.false) (sym (w.closes.ensures ∙ ap (closes_comment (get_or z at 0)) w.byte-else-opens.ensures.value) ∙ w.if-closes.true) w.if-outer-eq0.false in grind (arith, g, inv, w.outer-is, w.in_mark-is, w.if-in_mark.false)
      | else-in_mark+else-opens+else-closes w ↦ let g = other_goes outer end at z more (sym (w.opens.ensures ∙ ap (opens_comment (get_or z at 0)) w.byte.ensures.value) ∙ w.if-opens.false) (sym (w.closes.ensures ∙ ap (closes_comment (get_or z at 0)) w.byte-else-opens.ensures.value) ∙ w.if-closes.false) in grind (arith, g, inv, w.outer-is, w.in_mark-is, w.if-in_mark.false)
    ]
