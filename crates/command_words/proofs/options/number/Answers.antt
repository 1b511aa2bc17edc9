use Rattle.std.proofs.Common.{◌≤◌, arith}
use Rattle.std.specs.Str.Parse.{digits_value, without_leading_plus}
use Rattle.command_words.proofs.Numbers.{taken, missed}
use Rattle.command_words.proofs.options.number.Goals as goal

pub returns-else-most-number-clause-number : goal.returns-else-most-number-clause-number
returns-else-most-number-clause-number c =
    let a = c.in-Ok.ensures.value.0 in
    let value = digits_value 10 (without_leading_plus c.args.text.now) in
    let low : c.args.least ≤ value = omega (arith, a.1) in
    let high : value ≤ c.args.most = omega (arith, a.1) in
    taken c.args.least c.args.most c.args.text.now c.in-Ok.number (a.0.0, a.0.1, low, high) a.1

pub returns-in-Err-clause-number : goal.returns-in-Err-clause-number
returns-in-Err-clause-number c = missed c.args.least c.args.most c.args.text.now (λ u. c.in-Err.ensures.value.0 (u.0, u.1))

pub returns-then-number-least-clause-number : goal.returns-then-number-least-clause-number
returns-then-number-least-clause-number c = missed c.args.least c.args.most c.args.text.now (λ u. omega (arith, u.2, c.in-Ok.ensures.value.0.1))

pub returns-then-most-number-clause-number : goal.returns-then-most-number-clause-number
returns-then-most-number-clause-number c = missed c.args.least c.args.most c.args.text.now (λ u. omega (arith, u.3, c.in-Ok.ensures.value.0.1))
