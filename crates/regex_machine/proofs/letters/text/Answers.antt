use Rattle.std.proofs.Common.{◌≡◌, [], ◌∷◌, ◌++◌, ◌+◌, ◌∙◌, length, get_or, slice_get, Some, refl, ap, sym, subst, arith}
use Rattle.std.proofs.lemmas.Option.{slice_get-get_or}
use Rattle.machine_core.specs.Edges.{edge, ending}
use Rattle.regex_machine.proofs.LetterLemmas.{at-most, last-below, next-below, place-below, Spells, spells-none, spells-more, character-at, text-reads, only-end}
use Rattle.regex_machine.proofs.letters.text.Goals as goal

pub of-requires : goal.of-requires
of-requires c =
    let l = c.as_slice-characters.result.now in
    let at = subst (λ x. slice_get x c.loop-place.place ≡ Some (get_or l c.loop-place.place 0)) c.as_slice-characters.ensures (slice_get-get_or l c.loop-place.place 0 (omega arith)) in
    character-at c.args.word.now c.loop-place.place (get_or l c.loop-place.place 0) c.is_word.ensures at

pub loop-place-init : goal.loop-place-init
loop-place-init c = record {
  states = c.in_ok-machine.ensures.states;
  registers = c.in_ok-machine.ensures.registers;
  ends = c.in_ok-machine.ensures.ends;
  spells = spells-none c.args.word.now c.in_ok-machine.machine.edges c.in_ok-machine.ensures.edges;
}

pub loop-place-preserved : goal.loop-place-preserved
loop-place-preserved c =
    let l = c.as_slice-characters.result.now in
    let k = c.loop-place.place in
    let at = subst (λ x. slice_get x k ≡ Some (get_or l k 0)) c.as_slice-characters.ensures (slice_get-get_or l k 0 (omega arith)) in
    let old = c.loop-place.machine.edges in
    let grown = c.in_ok-add_edge.ensures.ok ∙ ap (λ x. old ++ edge k c.in_ok-on.on x (k + 1) ∷ []) c.new-cost.ensures in
    record {
      states = c.in_ok-add_edge.ensures.states ∙ c.loop-place.invariant.states;
      registers = c.in_ok-add_edge.ensures.registers ∙ c.loop-place.invariant.registers;
      ends = c.in_ok-add_edge.ensures.ends ∙ c.loop-place.invariant.ends;
      spells = spells-more c.args.word.now k (get_or l k 0) c.in_ok-on.on old c.add_edge.new.self.edges at c.in_ok-on.ensures.set grown c.loop-place.invariant.spells;
    }

pub returns-clause-reads : goal.returns-clause-reads
returns-clause-reads c =
    let word = c.args.word.now in
    let k = c.loop-place.place in
    let m = c.loop-place.machine in
    let two = c.add_end.new.self in
    let l = c.as_slice-characters.result.now in
    let count : length l ≡ length word = ap length c.as_slice-characters.ensures in
    let done : k ≡ length word = omega arith in
    let ends = only-end m.ends two.ends (length l) c.new-last.result c.in_ok-add_end.ensures.ok c.loop-place.invariant.ends c.new-last.ensures ∙ ap (λ n. ending n [] ∷ []) count in
    text-reads word m.edges (subst (λ n. Spells word n m.edges) done c.loop-place.invariant.spells) c.is_word.ensures two
    (c.in_ok-add_end.ensures.registers ∙ c.loop-place.invariant.registers) c.in_ok-add_end.ensures.edges ends

pub add_edge-requires : goal.add_edge-requires
add_edge-requires c =
    let n = length c.as_slice-characters.result.now in
    let m = c.loop-place.machine in
    record {
      from = place-below c.loop-place.place n m.states c.loop-place-test.true c.loop-place.invariant.states;
      to = next-below c.loop-place.place n m.states c.loop-place-test.true c.loop-place.invariant.states;
      cost = ap length c.new-cost.ensures ∙ sym c.loop-place.invariant.registers;
      on = c.in_ok-on.ensures.inhabited (at-most _ _ refl);
    }

pub add_end-requires : goal.add_end-requires
add_end-requires c = record {
  at = last-below (length c.as_slice-characters.result.now) c.loop-place.machine.states c.loop-place.invariant.states;
  cost = ap length c.new-last.ensures ∙ sym c.loop-place.invariant.registers;
}

pub returns-clause-states : goal.returns-clause-states
returns-clause-states c =
    at-most c.add_end.new.self.states (length c.args.word.now + 1)
    (c.in_ok-add_end.ensures.states ∙ c.loop-place.invariant.states ∙ ap (λ n. n + 1) (ap length c.as_slice-characters.ensures))
