use Rattle.std.proofs.Common.{◌∙◌, drop, map, arith, sym, subst}
use Rattle.sv_list.specs.Lists.{empty-tested, some-tested}
use Rattle.sv_terms.specs.Language.{InFirstOnly}
use Rattle.regex_machine.specs.Built.{Builds}
use Rattle.regex_machine.specs.Joined.{WordsOf}
use Rattle.sv_terms.specs.Bounds.{from_left, without_size}
use Rattle.regex_machine.specs.Kinds.{states_of}
use Rattle.regex_machine.proofs.BuiltLemmas.{builds-as, fits-builds}
use Rattle.regex_machine.proofs.WordLemmas.{split-first}
use Rattle.regex_machine.proofs.SideLemmas.{side-width, side-tops, sides-words, sides-size}
use Rattle.regex_machine.proofs.joining.difference.Goals as goal

pub within-first-requires : goal.within-first-requires
within-first-requires c =
    let some = some-tested c.args.parts.now (sym c.is_empty.ensures ∙ c.if-is_empty.false) in
    c.requires c.index-parts-0.result (0, some, sym c.index-parts-0.is)

pub of-meet-requires-clause-agree : goal.of-meet-requires-clause-agree
of-meet-requires-clause-agree c d i = sym (side-width c.as_slice-list.result.now)

pub of-meet-requires-clause-fits : goal.of-meet-requires-clause-fits
of-meet-requires-clause-fits c = let e = side-tops c.as_slice-list.result.now in omega arith

pub list_states-requires : goal.list_states-requires
list_states-requires c = side-width c.of-meet.result.parts.now

pub returns-then-is_empty : goal.returns-then-is_empty
returns-then-is_empty c =
    let none = empty-tested c.args.parts.now (sym c.is_empty.ensures ∙ c.if-is_empty.true) in
    subst (λ l. Builds (InFirstOnly WordsOf l) (from_left without_size (map states_of l)) c.args.limit c.fit.result) (sym none)
    (fits-builds (λ w. ⊥) 1 c.args.limit c.nothing.result c.fit.result c.nothing.ensures.reads c.nothing.ensures.states c.fit.ensures)

pub returns : goal.returns
returns c =
    let ms = c.args.parts.now in
    let f = c.index-parts-0.result in
    let some = some-tested ms (sym c.is_empty.ensures ∙ c.if-is_empty.false) in
    let whole = split-first ms f some c.index-parts-0.is in
    let is = c.as_slice-list.ensures ∙ c.in_ok-push.ensures.ok in
    let words = sides-words (drop 1 ms) c.in_ok-sides.sides f c.within-first.result c.in_ok-sides.ensures c.within-first.ensures c.as_slice-list.result.now c.of-meet.result.parts.now
    is c.of-meet.ensures.parts c.of-meet.ensures.language in
    let size = sides-size (drop 1 ms) c.in_ok-sides.sides f c.within-first.result c.in_ok-sides.ensures c.within-first.ensures c.of-meet.result.parts.now (c.of-meet.ensures.parts ∙ is) in
    subst (λ l. Builds (InFirstOnly WordsOf l) (from_left without_size (map states_of l)) c.args.limit c.list_states.result) whole
    (builds-as _ _ _ _ c.args.limit words (omega arith) c.list_states.result c.list_states.ensures)
