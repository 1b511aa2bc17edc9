use Rattle.std.proofs.Common.{◌≡◌, ℕ, ◌-◌, ◌+◌, ◌*◌, ◌<◌, ◌^◌, [], ◌∷◌, ◌++◌, List, length, take, drop, get_or, refl, sym, ap, ◌∙◌, subst, arith}
use Rattle.std.proofs.lemmas.List.{take_rest, drop_more, length-drop}
use Rattle.std.proofs.lemmas.Nat.{mul-le}
use Rattle.machine_core.specs.Edges.{edges_top}
use Rattle.pre_image.specs.Leading.{Goes}
use Rattle.pre_image.specs.Lifts.{IsUnderway}
use Rattle.pre_image.proofs.WayLemmas.{way-first, way-next, way-last}
use Rattle.pre_image.proofs.ways.way_on.Goals as goal

rest-fits : (top i : ℕ) (word : List ℕ) → top * length word < 2 ^ 64 → top * length (take (length word - i) (drop i word)) < 2 ^ 64
rest-fits top i word room =
    let size = ap length (take_rest word i) ∙ length-drop i word in
    let less = mul-le top (length (take (length word - i) (drop i word))) top (length word) (omega arith) (omega arith) in
    omega arith

pub loop-i-init : goal.loop-i-init
loop-i-init c =
    let m = c.args.target.now in
    let U : List ℕ → List (List ℕ) → Type 0 = IsUnderway m c.args.from c.args.word.now c.args.to c.args.cost.now 0 c.args.from c.in_ok-left.left in
    let first = way-first m c.args.from c.args.word.now c.args.to c.args.cost.now c.requires.from c.requires.width c.requires.goes c.in_ok-left.left c.in_ok-left.ensures in
    subst (λ s. U s c.new-way.result.costs) (sym c.new-way.ensures.states) (subst (λ k. U [] k) (sym c.new-way.ensures.costs) first)

pub loop-i-preserved : goal.loop-i-preserved
loop-i-preserved c =
    let m = c.args.target.now in
    let word = c.args.word.now in
    let i = c.loop-i.i in
    let n = c.in_ok-next.next in
    let U : List ℕ → List (List ℕ) → Type 0 = IsUnderway m c.args.from word c.args.to c.args.cost.now (i + 1) n.to n.left in
    let more = way-next m c.args.from word c.args.to c.args.cost.now i c.loop-i.at c.loop-i.left c.loop-i.way.states c.loop-i.way.costs c.loop-i-test.true c.loop-i.invariant
    (get_or word i 0) refl (take (length word - (i + 1)) (drop (i + 1) word)) (take_rest word (i + 1)) n.cost n.to n.left c.in_ok-next.ensures in
    subst (λ s. U s c.push.new.self.costs) (sym c.in_ok-push.ensures.states) (subst (λ k. U (c.loop-i.way.states ++ n.to ∷ []) k) (sym c.in_ok-push.ensures.costs) more)

pub returns : goal.returns
returns c =
    way-last c.args.target.now c.args.from c.args.word.now c.args.to c.args.cost.now c.loop-i.i c.loop-i.at c.loop-i.left c.loop-i.way.states c.loop-i.way.costs c.loop-i-test.false c.loop-i.invariant

pub next_step-requires-clause-goes : goal.next_step-requires-clause-goes
next_step-requires-clause-goes c =
    let word = c.args.word.now in
    let i = c.loop-i.i in
    let from : drop i word ≡ get_or word i 0 ∷ take (length word - (i + 1)) (drop (i + 1) word) = drop_more word i 0 c.loop-i-test.true ∙ ap (λ (l : List ℕ). get_or word i 0 ∷ l) (sym (take_rest word (i + 1))) in
    subst (λ w. Goes c.args.target.now c.loop-i.at w c.loop-i.left c.args.to) from c.loop-i.invariant.goes

pub next_step-requires-clause-at : goal.next_step-requires-clause-at
next_step-requires-clause-at c = c.loop-i.invariant.inside

pub next_step-requires-clause-width : goal.next_step-requires-clause-width
next_step-requires-clause-width c = c.loop-i.invariant.width

pub next_step-requires-clause-fits : goal.next_step-requires-clause-fits
next_step-requires-clause-fits c = rest-fits (edges_top c.args.target.now.edges) (c.loop-i.i + 1) c.args.word.now c.requires.fits
