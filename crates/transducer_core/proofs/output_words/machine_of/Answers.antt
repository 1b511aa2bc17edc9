use Rattle.std.proofs.Common.{◌≡◌, ℕ, ◌<◌, ◌≤◌, ◌+◌, ◌∷◌, ◌++◌, [], length, take, ap, sym, ◌∙◌, subst, refl, arith}
use Rattle.std.proofs.lemmas.List.{length-take, take_all, take_more}
use Rattle.transducer_core.specs.Built.{IsBuilt}
use Rattle.transducer_core.proofs.BuiltLemmas.{built_none, built_one, item_there}
use Rattle.transducer_core.proofs.output_words.machine_of.Goals as goal

some-states : (n states : ℕ) → states ≡ n + 1 → 0 < states
some-states n states e = omega arith

pub add_state-requires-clause-firsts : goal.add_state-requires-clause-firsts
add_state-requires-clause-firsts c d to has =
    let k = c.requires.closed c.index-nodes-first.result (item_there c.args.nodes.now c.args.first c.index-nodes-first.result c.requires.first c.index-nodes-first.is) d to has in
    let l = k.0 in
    let e = c.in_ok-machine.ensures.states in
    (omega (arith, l, e), k.1)

pub loop-place-init : goal.loop-place-init
loop-place-init c =
    let e = c.add_state.ensures.states in
    let f = c.in_ok-machine.ensures.states in (
      omega (arith, e, f),
      c.add_state.ensures.registers ∙ c.in_ok-machine.ensures.registers,
      λ n at. built_one c.add_state.new.machine c.args.nodes.now c.index-nodes-first.result n c.args.first
          (c.in_ok-add_state.ensures.built [] refl (built_none c.in_ok-machine.machine c.in_ok-machine.ensures.edges c.in_ok-machine.ensures.ends)) c.requires.first c.index-nodes-first.is at,
    )

pub add_state-requires-in-loop-place-clause-firsts : goal.add_state-requires-in-loop-place-clause-firsts
add_state-requires-in-loop-place-clause-firsts c d to has =
    let low : c.loop-place.place < length c.args.nodes.now = omega arith in
    let k = c.requires.closed c.index-nodes-place.result (item_there c.args.nodes.now c.loop-place.place c.index-nodes-place.result low c.index-nodes-place.is) d to has in
    let l = k.0 in
    let e = c.loop-place.invariant.0 in
    (omega (arith, l, e), k.1)

pub loop-place-preserved : goal.loop-place-preserved
loop-place-preserved c =
    let ns = c.args.nodes.now in
    let i = c.loop-place.place in
    let x = c.index-nodes-place.result in
    let low : c.loop-place.place < length c.args.nodes.now = omega arith in
    let t = take_more ns i x low ∙ ap (λ y. take i ns ++ y ∷ []) (sym c.index-nodes-place.is) in
    let long : c.loop-place.place + 1 ≡ length (take c.loop-place.place c.args.nodes.now) + 1 = (let l = length-take i ns in omega (arith, l, low)) in (
      c.add_state-in-loop-place.ensures.states ∙ c.loop-place.invariant.0,
      c.add_state-in-loop-place.ensures.registers ∙ c.loop-place.invariant.1,
      λ n at. subst (λ xs. IsBuilt c.add_state-in-loop-place.new.machine (n ∷ xs)) (sym t) (c.in_ok-add_state-2.ensures.built (n ∷ take i ns) (long ∙ (let u : length (take c.loop-place.place c.args.nodes.now) + 1 ≡ length (n ∷ take c.loop-place.place c.args.nodes.now) = omega arith in u)) (c.loop-place.invariant.2 n at)),
    )

pub returns-clause-built : goal.returns-clause-built
returns-clause-built c n at =
    let past : length c.args.nodes.now ≤ c.loop-place.place = omega arith in
    subst (λ xs. IsBuilt c.loop-place.machine (n ∷ xs)) (take_all c.loop-place.place c.args.nodes.now past) (c.loop-place.invariant.2 n at)

pub add_state-requires-clause-state : goal.add_state-requires-clause-state
add_state-requires-clause-state c = some-states _ c.in_ok-machine.machine.states c.in_ok-machine.ensures.states

pub add_state-requires-clause-free : goal.add_state-requires-clause-free
add_state-requires-clause-free c = c.in_ok-machine.ensures.registers

pub add_state-requires-in-loop-place-clause-free : goal.add_state-requires-in-loop-place-clause-free
add_state-requires-in-loop-place-clause-free c = c.loop-place.invariant.1

pub returns-clause-registers : goal.returns-clause-registers
returns-clause-registers c = c.loop-place.invariant.1
