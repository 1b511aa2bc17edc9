use Rattle.std.proofs.Common.{◌≡◌, ◌<◌, ◌≤◌, ◌+◌, ◌-◌, suc, drop, length, List, ℕ, Some, slice_get, get_or, subst, arith}
use Rattle.std.proofs.lemmas.Bool.Decides.{nat_tests}
use Rattle.std.proofs.lemmas.List.{nil_from_length}
use Rattle.std.proofs.lemmas.Option.{slice_get-get_or}
use Rattle.std.proofs.lemmas.Result.{IfOk-weaker}
use Rattle.sv_word.specs.Words.{IsWord, greatest_character}
use Rattle.regex_machine.specs.Onwards.{PrecedesRest, unmade}
use Rattle.regex_machine.proofs.LetterLemmas.{character-at}
use Rattle.regex_machine.proofs.OnwardLemmas.{nothing-before, text-none, text-last, text-step, text-all}
use Rattle.regex_machine.proofs.written.text.Goals as goal

found : (l word : List ℕ) (k : ℕ) → l ≡ word → IsWord word → k < length l → get_or l k 0 ≤ greatest_character
found l word k is whole below = character-at word k (get_or l k 0) whole (subst (λ x. slice_get x k ≡ Some (get_or l k 0)) is (slice_get-get_or l k 0 below))

pub character-requires : goal.character-requires
character-requires c =
    let l = c.as_slice-characters.result.now in
    let some : 0 < length l = let e = c.if-is_empty.ensures in grind (arith, nat_tests) in
    found l c.args.word.now (length l - 1) c.as_slice-characters.ensures c.is_word.ensures (omega arith)

pub character-requires-in-loop-at : goal.character-requires-in-loop-at
character-requires-in-loop-at c =
    let room = c.loop-at.invariant.room in
    let some = c.loop-at-test.true in
    found c.as_slice-characters.result.now c.args.word.now (c.loop-at.at - 1) c.as_slice-characters.ensures c.is_word.ensures (omega arith)

pub returns-then-is_empty : goal.returns-then-is_empty
returns-then-is_empty c =
    let old = c.args.states.now in
    let rest = c.args.rest.now in
    let now = c.state_of.new.rest in
    let none = nil_from_length c.as_slice-characters.result.now (let e = c.if-is_empty.ensures in grind (arith, nat_tests)) in
    IfOk-weaker c.copy.result _ _ (λ front copied begun. text-none c.as_slice-characters.result.now c.args.word.now (length old + unmade rest.state) old c.state_of.new.states rest now front c.as_slice-characters.ensures none copied
    (nothing-before old c.state_of.new.states rest now c.in_ok-state_of.field-0 begun (c.in_ok-state_of.ensures begun)))
    c.copy.ensures

pub loop-at-init : goal.loop-at-init
loop-at-init c =
    let l = c.as_slice-characters.result.now in
    let some : 0 < length l = let e = c.if-is_empty.ensures in grind (arith, nat_tests) in
    record {
      room = omega arith;
      front = λ begun. text-last l (length l - 1) (length c.args.states.now + unmade c.args.rest.now.state) 0 c.args.states.now c.character.new.states c.args.rest.now c.character.new.rest c.in_ok-front.front (omega arith) (c.in_ok-front.ensures begun);
    }

pub loop-at-preserved : goal.loop-at-preserved
loop-at-preserved c =
    let l = c.as_slice-characters.result.now in
    let k = length c.args.states.now + unmade c.args.rest.now.state in
    let room = c.loop-at.invariant.room in
    let some = c.loop-at-test.true in
    let next : c.loop-at.at ≡ suc (c.loop-at.at - 1) = omega arith in
    let below : c.loop-at.at - 1 < length l = omega arith in
    record {
      room = omega arith;
      front = λ begun. text-step l (c.loop-at.at - 1) k 0 c.args.states.now c.loop-at.states c.character-in-loop-at.new.states c.args.rest.now c.character.new.rest c.loop-at.front c.character-in-loop-at.new.rest c.in_ok-before.before below
          (subst (λ n. PrecedesRest (λ w. w ≡ drop n l) (k + (length l - n)) c.args.states.now c.args.rest.now c.loop-at.states c.character.new.rest c.loop-at.front) next (c.loop-at.invariant.front begun))
          c.in_ok-before.ensures;
    }

pub returns : goal.returns
returns c begun =
    text-all c.as_slice-characters.result.now c.args.word.now c.loop-at.at (length c.args.states.now + unmade c.args.rest.now.state) c.args.states.now c.loop-at.states c.args.rest.now c.character.new.rest c.loop-at.front
    c.as_slice-characters.ensures (omega arith) c.is_word.ensures (c.loop-at.invariant.front begun)
