use Rattle.std.proofs.Common.{Ok, Bool, List, ℕ, [], ◌∷◌, ◌++◌, ◌<◌, ap, ◌∙◌, subst}
use Rattle.std.proofs.lemmas.Bool.{eqb-true}
use Rattle.std.specs.declared.alloc.AllocError.{AllocError}
use Rattle.std.specs.Prelude.{Result}
use Rattle.machine_meet.specs.Products.{meet_width}
use Rattle.regex_machine.specs.declared.sides.MeetSide.{MeetSide}
use Rattle.regex_machine.proofs.AntichainLemmas.{explored-start, explored-more, explored-all}
use Rattle.regex_machine.proofs.emptiness.reads_nothing.Goals as goal

abbrev ok : Bool → Result Bool AllocError
ok b = Ok b

pub loop-at-init : goal.loop-at-init
loop-at-init c =
    let ds = c.args.meet.now.parts.now in
    explored-start ds (meet_width (λ (d : MeetSide). 0) ds) c.push.new.self c.in_ok-start.start c.in_ok-start.ensures
    (c.in_ok-push.ensures.ok ∙ ap (λ (l : List (List (List ℕ))). l ++ c.in_ok-start.start ∷ []) c.new-places.ensures)

pub loop-at-preserved : goal.loop-at-preserved
loop-at-preserved c =
    let ds = c.args.meet.now.parts.now in
    explored-more ds (meet_width (λ (d : MeetSide). 0) ds) c.loop-at.places c.settle.new.places c.loop-at.at (subst (λ n. c.loop-at.at < n) c.len.ensures c.loop-at-test.true)
    c.in_ok-settle.ensures.more c.in_ok-settle.ensures.states c.loop-at.invariant
    (c.in_ok-settle.ensures.settled (ap (λ (b : Bool). ok b) c.if-not-branch.false))

pub returns : goal.returns
returns c = λ told.
    let ds = c.args.meet.now.parts.now in
    explored-all ds (meet_width (λ (d : MeetSide). 0) ds) (λ d i. d.plain) c.loop-at.places c.loop-at.at (eqb-true c.loop-at.at c.len-2.result told ∙ c.len-2.ensures) c.loop-at.invariant
