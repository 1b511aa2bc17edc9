use Rattle.std.specs.Prelude.{Ok}
use Rattle.flat_cubes.specs.declared.variable.Own.TheVariants as own
use Rattle.part_machines.proofs.PartLemmas.{contains-part, digit-part, part-of, prefix-part, suffix-part, word-part}
use Rattle.part_machines.proofs.part.part_machine.Goals as goal

pub returns-in-Word-clause-machine : goal.returns-in-Word-clause-machine
returns-in-Word-clause-machine c = part-of c.args.part.now (own.Word c.in-Word.word) _ c.word_chain.result c.in-Word.is (word-part c.in-Word.word c.args.part.now.1) c.word_chain.ensures.machine

pub returns-in-Prefix-clause-machine : goal.returns-in-Prefix-clause-machine
returns-in-Prefix-clause-machine c =
    part-of c.args.part.now (own.Prefix c.in-Prefix.word) _ c.word_chain-in-Prefix.result c.in-Prefix.is (prefix-part c.in-Prefix.word c.args.part.now.1) c.word_chain-in-Prefix.ensures.machine

pub returns-in_ok-chain-in-Digit-clause-machine : goal.returns-in_ok-chain-in-Digit-clause-machine
returns-in_ok-chain-in-Digit-clause-machine c =
    part-of c.args.part.now own.Digit _ (Ok c.in_ok-chain-in-Digit.field-0) c.in-Digit.is (digit-part c.args.part.now.1) c.in_ok-chain-in-Digit.ensures

pub returns-in-Contains-clause-machine : goal.returns-in-Contains-clause-machine
returns-in-Contains-clause-machine c =
    part-of c.args.part.now (own.Contains c.in-Contains.word) _ c.word_pattern.result c.in-Contains.is (contains-part c.in-Contains.word c.args.part.now.1) c.word_pattern.ensures.machine

pub returns-in-Suffix-clause-machine : goal.returns-in-Suffix-clause-machine
returns-in-Suffix-clause-machine c =
    part-of c.args.part.now (own.Suffix c.in-Suffix.word) _ c.word_pattern-in-Suffix.result c.in-Suffix.is (suffix-part c.in-Suffix.word c.args.part.now.1) c.word_pattern-in-Suffix.ensures.machine

pub returns-in-InRe-clause-machine : goal.returns-in-InRe-clause-machine
returns-in-InRe-clause-machine c = part-of c.args.part.now (own.InRe c.in-InRe.regex) _ c.language.result c.in-InRe.is (λ m h. h) c.language.ensures.machine
