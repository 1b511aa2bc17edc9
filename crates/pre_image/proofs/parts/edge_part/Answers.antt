use Rattle.std.proofs.Common.{None, subst, ◌≡◌, ◌*◌, Some, length, ap, sym, ◌∙◌, arith}
use Rattle.std.proofs.lemmas.Bool.{false≢true}
use Rattle.std.proofs.lemmas.Option.{none-some}
use Rattle.machine_core.specs.Edges.{edges_top}
use Rattle.sv_terms.specs.Transduction.{written_at}
use Rattle.sv_terms.specs.TransducerSizes.{items_size}
use Rattle.sv_terms.specs.TransducerSizeLaws.{written_size}
use Rattle.pre_image.specs.Leading.{Goes}
use Rattle.pre_image.specs.Spelling.{spelling, spelling-written}
use Rattle.pre_image.specs.PreLaws.{path_written}
use Rattle.pre_image.proofs.parts.edge_part.Goals as goal

pub goes-requires-clause-fits : goal.goes-requires-clause-fits
goes-requires-clause-fits c =
    let is : written_at c.args.c c.args.edge.now.items ≡ Some c.in-Some.word = ap (written_at c.args.c) (sym c.as_slice.ensures) ∙ sym c.in_ok-text_at.ensures ∙ c.in-Some.is in
    let n : length c.as_slice-2.result.now ≡ items_size c.args.edge.now.items = ap length c.as_slice-2.ensures ∙ written_size c.args.c c.args.edge.now.items c.in-Some.word is in
    let room = c.requires.fits in
    let same = ap (λ n. edges_top c.args.target.now.edges * n) n in
    omega arith

pub way_on-requires-clause-fits : goal.way_on-requires-clause-fits
way_on-requires-clause-fits c =
    let is : written_at c.args.c c.args.edge.now.items ≡ Some c.in-Some.word = ap (written_at c.args.c) (sym c.as_slice.ensures) ∙ sym c.in_ok-text_at.ensures ∙ c.in-Some.is in
    let n : length c.as_slice-3.result.now ≡ items_size c.args.edge.now.items = ap length c.as_slice-3.ensures ∙ written_size c.args.c c.args.edge.now.items c.in-Some.word is in
    let room = c.requires.fits in
    let same = ap (λ n. edges_top c.args.target.now.edges * n) n in
    omega arith

pub returns-in-None : goal.returns-in-None
returns-in-None c p =
    let m = c.args.target.now in
    let items = c.args.edge.now.items in
    let is : written_at c.args.c items ≡ None = ap (written_at c.args.c) (sym c.as_slice.ensures) ∙ sym c.in_ok-text_at.ensures ∙ c.in-None.is in
    none-some (spelling c.args.c items) (sym is ∙ path_written m c.args.c items c.args.from.now.1 c.args.to.now.1 c.args.cost.now p.4)

pub returns-then-not-may : goal.returns-then-not-may
returns-then-not-may c p =
    let m = c.args.target.now in
    let items = c.args.edge.now.items in
    let is : written_at c.args.c items ≡ Some c.in-Some.word = ap (written_at c.args.c) (sym c.as_slice.ensures) ∙ sym c.in_ok-text_at.ensures ∙ c.in-Some.is in
    let same = sym (spelling-written c.args.c items c.in-Some.word is) ∙ sym c.as_slice-2.ensures in
    let may = c.in_ok-may.ensures.1 (subst (λ w. Goes m c.args.from.now.1 w c.args.cost.now c.args.to.now.1) same p.4) in
    false≢true (sym c.if-not-may.true ∙ may)

pub goes-requires-clause-from : goal.goes-requires-clause-from
goes-requires-clause-from c = c.requires.from

pub way_on-requires-clause-from : goal.way_on-requires-clause-from
way_on-requires-clause-from c = c.requires.from

pub way_on-requires-clause-width : goal.way_on-requires-clause-width
way_on-requires-clause-width c = c.requires.width

pub way_on-requires-clause-goes : goal.way_on-requires-clause-goes
way_on-requires-clause-goes c =
    subst (λ w. Goes c.args.target.now c.args.from.now.1 w c.args.cost.now c.args.to.now.1) (c.as_slice-2.ensures ∙ sym c.as_slice-3.ensures) (c.in_ok-may.ensures.0 c.if-not-may.false)
