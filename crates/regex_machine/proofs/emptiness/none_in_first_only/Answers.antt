use Rattle.std.proofs.Common.{◌∙◌, [], drop, sym, subst, arith}
use Rattle.std.proofs.lemmas.Result.{IfOk-weaker}
use Rattle.sv_list.specs.Lists.{some-tested}
use Rattle.sv_terms.specs.Language.{InFirstOnly}
use Rattle.regex_machine.specs.Joined.{WordsOf}
use Rattle.regex_machine.proofs.WordLemmas.{split-first}
use Rattle.regex_machine.proofs.SideLemmas.{side-tops, sides-words}
use Rattle.regex_machine.proofs.emptiness.none_in_first_only.Goals as goal

pub within-first-requires : goal.within-first-requires
within-first-requires c =
    let some = some-tested c.args.parts.now (sym c.is_empty.ensures ∙ c.if-is_empty.false) in
    c.requires c.index-parts-0.result (0, some, sym c.index-parts-0.is)

pub of-meet-requires-clause-fits : goal.of-meet-requires-clause-fits
of-meet-requires-clause-fits c = let e = side-tops c.as_slice-list.result.now in omega arith

pub returns : goal.returns
returns c =
    let ms = c.args.parts.now in
    let f = c.index-parts-0.result in
    let some = some-tested ms (sym c.is_empty.ensures ∙ c.if-is_empty.false) in
    let whole = split-first ms f some c.index-parts-0.is in
    let is = c.as_slice-list.ensures ∙ c.in_ok-push.ensures.ok in
    let words = sides-words (drop 1 ms) c.in_ok-sides.sides f c.within-first.result c.in_ok-sides.ensures c.within-first.ensures c.as_slice-list.result.now c.of-meet.result.parts.now
    is c.of-meet.ensures.parts c.of-meet.ensures.language in
    IfOk-weaker c.reads_nothing.result _ _ (λ none nothing told w alone. nothing told w [] ((words w).1 (subst (λ l. InFirstOnly WordsOf l w) (sym whole) alone))) c.reads_nothing.ensures
