use Rattle.std.proofs.Common.{ℕ, get_or, ◌+◌, ◌++◌, ◌↔◌, Any, ◌∷◌, [], List, length, take, Contains, subst, arith}
use Rattle.std.proofs.lemmas.List.{length-take-le}
use Rattle.machine_core.specs.declared.machine.Move.{Move}
use Rattle.machine_core.specs.Moves.{Moves}
use Rattle.pre_image.specs.declared.letter.Letter.TheVariants.{Fixed}
use Rattle.pre_image.specs.Leading.{next_of, spelled, Led}
use Rattle.pre_image.proofs.LeadLemmas.{lead-fits, leads-more, leads-same, spelled-length}
use Rattle.pre_image.proofs.MoreLemmas.{spelled-next}
use Rattle.pre_image.proofs.leading.moves_along.Goals as goal

pub go_on-requires : goal.go_on-requires
go_on-requires c l i =
    let nexts = c.args.nexts.now in
    let at = c.loop-next.next-index in
    let lt = c.loop-next-test.true in
    lead-fits c.args.target.now c.args.from c.args.low c.args.high (spelled (take at nexts)) c.loop-next.leads c.loop-next.invariant c.requires.from (length nexts) c.requires.fits
    (λ d. (let a = spelled-length (take at nexts) d in let b = length-take-le at nexts (omega (arith, lt)) in omega arith)) l (subst (λ k. Contains k l) c.as_slice.ensures i)

pub loop-next-preserved : goal.loop-next-preserved
loop-next-preserved c =
    let nexts = c.args.nexts.now in
    let at = c.loop-next.next-index in
    let m = c.args.target.now in
    let W : ℕ → List ℕ = spelled (take at nexts) in
    let n = get_or nexts at (Fixed 0) in
    let more = leads-more m c.args.from c.args.low c.args.high W c.loop-next.leads c.loop-next.invariant n c.in_ok-leads-2.leads
    (subst (λ (k : List (Move ℕ)). (d : ℕ) (cost : List ℕ) (to : ℕ) → Any (Moves d cost to) c.in_ok-leads-2.leads ↔ Any (Led m n d cost to) k) c.as_slice.ensures c.in_ok-leads-2.ensures.exact) c.in_ok-leads-2.ensures.inhabited in
    leads-same m c.args.from c.args.low c.args.high (λ d. W d ++ next_of n d ∷ []) (spelled (take (at + 1) nexts)) c.in_ok-leads-2.leads
    (λ d. spelled-next nexts at d c.loop-next-test.true) more
