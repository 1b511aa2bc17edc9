use Rattle.box_search.proofs.SearchLemmas.{no-word, short-hit}
use Rattle.box_search.proofs.searching.shortest_hit.Goals as goal

pub returns-in_default : goal.returns-in_default
returns-in_default c = λ runs numbers h.
    no-word c.args.layers.now.machines.now c.args.layers.now.integers c.args.layers.now.rows.now c.args.layers.now.region.now c.args.layers.now.registers c.args.built.now.machine c.requires.runs (rw c.in_default.is at c.in_ok-run.ensures) runs numbers h

pub hit_of-requires : goal.hit_of-requires
hit_of-requires c =
    let r = rw c.in-Some.is at c.in_ok-run.ensures in
    c.requires.lifts r.0 c.in-Some.run' r.1.is_run r.2

pub returns : goal.returns
returns c =
    let r = rw c.in-Some.is at c.in_ok-run.ensures in
    short-hit c.args.layers.now.machines.now c.args.layers.now.integers c.args.layers.now.rows.now c.args.layers.now.region.now c.args.layers.now.registers c.args.built.now.machine c.requires.runs r.0 c.in-Some.run' c.in_ok-hit_of.field-0.runs c.in_ok-hit_of.field-0.integers
    r.1 r.2.word c.in_ok-hit_of.ensures.size (c.in_ok-hit_of.ensures.hit c.requires.some)
