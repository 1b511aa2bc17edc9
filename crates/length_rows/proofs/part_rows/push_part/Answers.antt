use Rattle.std.proofs.Common.{refl, length}
use Rattle.flat_cubes.specs.declared.variable.Own.TheVariants as own
use Rattle.length_rows.proofs.WordLemmas.{at-least, begins-short, digit-length, ends-short, is-exactly, occurs-short, part-says}
use Rattle.std.proofs.Common.{ap}
use Rattle.length_rows.proofs.part_rows.push_part.Goals as goal

pub returns-in_ok-push_exact-in-Word : goal.returns-in_ok-push_exact-in-Word
returns-in_ok-push_exact-in-Word c = λ x w m e h.
    let s = part-says w c.args.part.now (own.Word c.in-Word.word) c.in-Word.is c.if-not-part.false m in
    c.in_ok-push_exact-in-Word.ensures x (is-exactly (x c.args.unknown) (length w) (length c.in-Word.word) c.len.result e c.len.ensures (ap length s)) h

pub returns-in_ok-push_least-in-Prefix : goal.returns-in_ok-push_least-in-Prefix
returns-in_ok-push_least-in-Prefix c = λ x w m e h.
    let s = part-says w c.args.part.now (own.Prefix c.in-Prefix.word) c.in-Prefix.is c.if-not-part.false m in
    c.in_ok-push_least-in-Prefix.ensures x (at-least (x c.args.unknown) (length w) (length c.in-Prefix.word) c.len-in-Prefix.result e c.len-in-Prefix.ensures (begins-short c.in-Prefix.word w s)) h

pub returns-in_ok-push_least-in-Suffix : goal.returns-in_ok-push_least-in-Suffix
returns-in_ok-push_least-in-Suffix c = λ x w m e h.
    let s = part-says w c.args.part.now (own.Suffix c.in-Suffix.word) c.in-Suffix.is c.if-not-part.false m in
    c.in_ok-push_least-in-Suffix.ensures x (at-least (x c.args.unknown) (length w) (length c.in-Suffix.word) c.len-in-Suffix.result e c.len-in-Suffix.ensures (ends-short c.in-Suffix.word w s)) h

pub returns-in_ok-push_least-in-Contains : goal.returns-in_ok-push_least-in-Contains
returns-in_ok-push_least-in-Contains c = λ x w m e h.
    let s = part-says w c.args.part.now (own.Contains c.in-Contains.word) c.in-Contains.is c.if-not-part.false m in
    c.in_ok-push_least-in-Contains.ensures x (at-least (x c.args.unknown) (length w) (length c.in-Contains.word) c.len-in-Contains.result e c.len-in-Contains.ensures (occurs-short c.in-Contains.word w s)) h

pub returns-in_ok-push_exact-in-Digit : goal.returns-in_ok-push_exact-in-Digit
returns-in_ok-push_exact-in-Digit c = λ x w m e h.
    let s = part-says w c.args.part.now own.Digit c.in-Digit.is c.if-not-part.false m in
    c.in_ok-push_exact-in-Digit.ensures x (is-exactly (x c.args.unknown) (length w) 1 1 e refl (digit-length w s)) h
