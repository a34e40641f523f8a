use Rattle.std.proofs.Common.{subst}
use Rattle.jt_lexer.specs.Tokens.{RefusesText}
use Rattle.jt_lexer.specs.declared.error.LexError.{LexError}
use Rattle.jt_lexer.specs.declared.error.LexError.TheVariants as lexical
use Rattle.jt_printer.proofs.Whole.{ends_with_stop, same_tokens, reads_unrefused, sliced, given_of}
use Rattle.jt_printer.proofs.reading.read_bytes.Goals as goal

pub read_tokens-requires-clause-whole : goal.read_tokens-requires-clause-whole
read_tokens-requires-clause-whole c = sliced c.in-Ok-lex.tokens.items c.as_slice.result.now c.as_slice.ensures.value (ends_with_stop c.in-Ok.text.now c.in-Ok-lex.tokens.items c.in-Ok-lex.ensures.whole)

pub returns-in-Ok-lex-clause-again : goal.returns-in-Ok-lex-clause-again
returns-in-Ok-lex-clause-again c = λ tops reads. c.read_tokens.ensures.again tops (reads.2 c.as_slice.result.now (same_tokens c.in-Ok.text.now c.args.bytes.now c.in-Ok-lex.tokens.items c.as_slice.result.now c.in-Ok.ensures.cases.0 c.as_slice.ensures.value c.in-Ok-lex.ensures.tokens))

pub returns-in-Ok-lex-clause-found : goal.returns-in-Ok-lex-clause-found
returns-in-Ok-lex-clause-found c = given_of c.args.bytes.now c.as_slice.result.now _ (same_tokens c.in-Ok.text.now c.args.bytes.now c.in-Ok-lex.tokens.items c.as_slice.result.now c.in-Ok.ensures.cases.0 c.as_slice.ensures.value c.in-Ok-lex.ensures.tokens) c.read_tokens.ensures.found

pub returns-in-Err-BadCharacter-clause-again : goal.returns-in-Err-BadCharacter-clause-again
returns-in-Err-BadCharacter-clause-again c = λ tops reads.
    let P : LexError → Type 0 = λ e. RefusesText c.in-Ok.text.now e in
    reads_unrefused tops c.in-Ok.text.now c.args.bytes.now (lexical.BadCharacter c.in-Err-BadCharacter.field-0-0) c.in-Ok.ensures.cases.0 reads (subst P c.in-Err-BadCharacter.field-0-is c.in-Err-BadCharacter.ensures.refused)

pub returns-in-Err-OpenString-clause-again : goal.returns-in-Err-OpenString-clause-again
returns-in-Err-OpenString-clause-again c = λ tops reads.
    let P : LexError → Type 0 = λ e. RefusesText c.in-Ok.text.now e in
    reads_unrefused tops c.in-Ok.text.now c.args.bytes.now (lexical.OpenString c.in-Err-OpenString.field-0-0) c.in-Ok.ensures.cases.0 reads (subst P c.in-Err-OpenString.field-0-is c.in-Err-OpenString.ensures.refused)

pub returns-in-Err-NumberTooLarge-clause-again : goal.returns-in-Err-NumberTooLarge-clause-again
returns-in-Err-NumberTooLarge-clause-again c = λ tops reads.
    let P : LexError → Type 0 = λ e. RefusesText c.in-Ok.text.now e in
    reads_unrefused tops c.in-Ok.text.now c.args.bytes.now (lexical.NumberTooLarge c.in-Err-NumberTooLarge.field-0-0) c.in-Ok.ensures.cases.0 reads (subst P c.in-Err-NumberTooLarge.field-0-is c.in-Err-NumberTooLarge.ensures.refused)
