use Rattle.std.proofs.Common.{◌≡◌, ◌^◌, ◌<◌, length, get_or, sym, ◌∙◌, subst, arith}
use Rattle.std.proofs.lemmas.Bool.Decides.{nat_tests}
use Rattle.std.proofs.lemmas.Grind.{get_or_default_zero}
use Rattle.total_marks.proofs.MarkLemmas.{held}
use Rattle.total_marks.proofs.covering.holds.Goals as goal

pub returns-in-Some : goal.returns-in-Some
returns-in-Some c = λ none.
    let words = c.args.words.now in
    let at = c.args.at in
    let word = c.in-Some.word.now in
    let inside : at < length words = (let t = c.in-Some.ensures.lookup.0 in grind (arith, nat_tests)) in
    let is : word ≡ get_or words at 0 = c.in-Some.ensures.lookup.1 ∙ get_or_default_zero words at word inside in
    held words at c.args.bits word (subst (λ n. n < 2 ^ 64) (sym is) (c.type_inv.words at).fits) (sym is) (grind (arith, nat_tests))
