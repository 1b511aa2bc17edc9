use Rattle.std.proofs.Common.{drop, Contains, arith}
use Rattle.sv_list.specs.Lists.{slice_get-contains}
use Rattle.transducer_core.specs.declared.reached.Reached.{Reached}
use Rattle.transducer_core.proofs.LayerLemmas.{place_of, none_more}
use Rattle.transducer_core.proofs.finding.place_of_end.Goals as goal

pub ends_here-requires : goal.ends_here-requires
ends_here-requires c = c.requires c.entry_at.result.now (slice_get-contains c.args.layer.now c.loop-at.at c.entry_at.result.now c.entry_at.ensures)

pub returns-then-ends_here : goal.returns-then-ends_here
returns-then-ends_here c = (c.entry_at.result.now, c.entry_at.ensures, c.ends_here.ensures.0 c.if-ends_here.true)

pub loop-at-preserved : goal.loop-at-preserved
loop-at-preserved c =
    none_more (λ (r : Reached). Contains c.args.transducer.now.ends (r.state, drop r.done c.args.written.now)) c.args.layer.now c.loop-at.at c.entry_at.result.now c.entry_at.ensures
    (λ h. let yes = c.ends_here.ensures.1 h in let no = c.if-ends_here.false in cc)
    c.loop-at.invariant

pub returns : goal.returns
returns c = λ r has h. c.loop-at.invariant has.0 r (let l = has.1 in omega (arith, l, c.loop-at-test.false)) (place_of c.args.layer.now r has) h
