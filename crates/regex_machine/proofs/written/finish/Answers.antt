use Rattle.std.proofs.Common.{◌≡◌, ◌<◌, ◌+◌, ◌↔◌, length, Some, slice_get, ap, sym, ◌∙◌, subst, arith}
use Rattle.std.proofs.lemmas.Option.{slice_get_within}
use Rattle.regex_machine.specs.Onwards.{ReadsOn, unmade}
use Rattle.regex_machine.proofs.BuiltLemmas.{builds-as}
use Rattle.regex_machine.proofs.OnwardLemmas.{reads-grown}
use Rattle.regex_machine.proofs.written.finish.Goals as goal

pub of-woven-requires-clause-started : goal.of-woven-requires-clause-started
of-woven-requires-clause-started c =
    let has = c.in_ok-start.ensures c.requires in
    subst (λ l. c.in_ok-start.start < length l) (sym c.as_slice.ensures) (slice_get_within c.state_of.new.states c.in_ok-start.start c.state_of.new.rest.onward (has.begun.formed.state c.in_ok-start.start has.made))

pub returns : goal.returns
returns c =
    let old = c.args.states in
    let rest = c.args.front in
    let new = c.state_of.new.states in
    let now = c.state_of.new.rest in
    let start = c.in_ok-start.start in
    let has = c.in_ok-start.ensures c.requires in
    let at = has.begun.formed.state start has.made in
    let few = has.few in
    let same : length c.of-woven.result.states.now ≡ length new = ap length (c.of-woven.ensures.states ∙ c.as_slice.ensures) in
    builds-as _ (ReadsOn old rest.onward) (length c.of-woven.result.states.now) (length old + unmade rest.state) c.args.limit
    (λ w.
    let r = c.of-woven.ensures.read now.onward w (subst (λ l. slice_get l start ≡ Some now.onward) (sym c.as_slice.ensures) at) in
    let g = subst (λ o. ReadsOn new o w ↔ ReadsOn old rest.onward w) (sym has.same) (reads-grown old new has.more rest.onward w has.grown c.requires.formed.onward c.requires.closed) in
    let s = subst (λ l. ReadsOn l now.onward w ↔ ReadsOn old rest.onward w) (sym c.as_slice.ensures) g in
    (λ h. s.0 (r.0 h), λ h. r.1 (s.1 h)))
    (omega arith) c.list_states.result c.list_states.ensures
