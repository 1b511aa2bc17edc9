use Rattle.std.proofs.Common.{◌∷◌, sym, ap, ◌∙◌, subst, arith, Err, map}
use Rattle.std.proofs.lemmas.Result.{IfOk-weaker}
use Rattle.machine_meet.specs.Products.{multiplied}
use Rattle.regex_machine.specs.Joined.{HaveNoRegisters, WordsOf}
use Rattle.regex_machine.specs.Kinds.{states_of}
use Rattle.sv_terms.specs.Bounds.{from_left, without_size}
use Rattle.sv_terms.specs.Language.{InAllOf, InFirstOnly}
use Rattle.part_machines.proofs.PairLemmas.{met-reads, plain-each}
use Rattle.part_machines.proofs.PartLemmas.{item-below, made-as, of-plain, refused, single-reads}
use Rattle.part_machines.proofs.SideLemmas.{met-below, sides-few, sides-met, sides-read}
use Rattle.part_machines.proofs.own.joint_machine.Goals as goal

pub meet_ahead-requires : goal.meet_ahead-requires
meet_ahead-requires c = of-plain c.in_ok-within.ensures.sides.met c.in_ok-within.field-0.within c.in_ok-within.ensures.sides.of_met

pub all_of-requires : goal.all_of-requires
all_of-requires c = subst HaveNoRegisters (sym c.as_slice.ensures) (plain-each c.in_ok-few.few c.in_ok-few.ensures.plain)

pub returns-in_err-met-clause-refused : goal.returns-in_err-met-clause-refused
returns-in_err-met-clause-refused c = λ n e.
    let d = rw e at c.from_residual-in_err-met.ensures.1 in
    let ms = c.as_slice.result.now in
    let f = refused (InAllOf WordsOf ms) (multiplied states_of ms) 262144 c.all_of.result n c.all_of.ensures (c.in_err-met.was ∙ ap Err (sym d)) in
    let same = ap (multiplied states_of) c.as_slice.ensures in
    let few = c.in_ok-few.ensures.few in
    let below = met-below c.args.parts.now c.in_ok-within.field-0.within c.in_ok-within.field-0.outside c.in_ok-within.ensures.sides in
    omega (arith, f, same, few, below)

pub returns-then-is_empty-clause-machine : goal.returns-then-is_empty-clause-machine
returns-then-is_empty-clause-machine c =
    let q = rw c.as_slice.ensures at c.in_ok-met.ensures in
    let p = met-reads c.in_ok-within.field-0.within c.in_ok-few.few c.in_ok-met.met c.in_ok-few.ensures (q.0, q.1) in
    sides-met c.args.parts.now c.in_ok-within.field-0.within c.in_ok-within.field-0.outside c.in_ok-met.met c.in_ok-within.ensures.sides ((c.is_empty.ensures).0 c.if-is_empty.true) p.0 p.1

pub exclude-requires-clause-plain : goal.exclude-requires-clause-plain
exclude-requires-clause-plain c = c.in_ok-met.ensures.0.plain

pub exclude-requires-clause-others : goal.exclude-requires-clause-others
exclude-requires-clause-others c =
    of-plain c.in_ok-within.ensures.sides.barred c.in_ok-within.field-0.outside c.in_ok-within.ensures.sides.of_barred

pub returns-clause-refused : goal.returns-clause-refused
returns-clause-refused c = λ n e.
    let q = rw c.as_slice.ensures at c.in_ok-met.ensures in
    let p = met-reads c.in_ok-within.field-0.within c.in_ok-few.few c.in_ok-met.met c.in_ok-few.ensures (q.0, q.1) in
    let all = c.in_ok-met.met ∷ c.in_ok-within.field-0.outside in
    let f = refused (InFirstOnly WordsOf all) (from_left without_size (map states_of all)) 262144 c.exclude.result n c.exclude.ensures e in
    let below = sides-few c.args.parts.now c.in_ok-within.field-0.within c.in_ok-within.field-0.outside c.in_ok-met.met c.in_ok-within.ensures.sides p.0 p.1 in
    omega (arith, f, below)

pub returns-clause-machine : goal.returns-clause-machine
returns-clause-machine c =
    let q = rw c.as_slice.ensures at c.in_ok-met.ensures in
    let p = met-reads c.in_ok-within.field-0.within c.in_ok-few.few c.in_ok-met.met c.in_ok-few.ensures (q.0, q.1) in
    let all = c.in_ok-met.met ∷ c.in_ok-within.field-0.outside in
    made-as (InFirstOnly WordsOf all) (from_left without_size (map states_of all)) 262144 c.exclude.result c.exclude.ensures
    (sides-read c.args.parts.now c.in_ok-within.field-0.within c.in_ok-within.field-0.outside c.in_ok-met.met c.in_ok-within.ensures.sides p.0 p.1)

pub returns-then-parts-eq1-clause-machine : goal.returns-then-parts-eq1-clause-machine
returns-then-parts-eq1-clause-machine c =
    IfOk-weaker c.part_machine.result _ _ (λ m. single-reads c.args.parts.now c.index-parts-0.result m c.if-parts-eq1.true c.index-parts-0.is) c.part_machine.ensures.machine

pub returns-then-parts-eq1-clause-refused : goal.returns-then-parts-eq1-clause-refused
returns-then-parts-eq1-clause-refused c = λ n e.
    let past = c.part_machine.ensures.refused n e in
    let one = c.if-parts-eq1.true in
    let below = item-below c.args.parts.now 0 c.index-parts-0.result (omega (arith, one)) c.index-parts-0.is in
    omega (arith, past, below)

pub returns-in_err-within-clause-refused : goal.returns-in_err-within-clause-refused
returns-in_err-within-clause-refused c = λ n e.
    let d = rw e at c.from_residual.ensures.1 in
    c.in_err-within.ensures.refused n (ap Err (sym d))
