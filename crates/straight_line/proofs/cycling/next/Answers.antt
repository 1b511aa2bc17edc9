use Rattle.std.proofs.Common.{◌∙◌, ap, subst, sym, length, ◌<◌}
use Rattle.std.proofs.lemmas.Option.{slice_get_within}
use Rattle.std.specs.Prelude.{slice_get}
use Rattle.sv_list.specs.Lists.{some-once}
use Rattle.flat_cubes.specs.Straight.{AreBelow}
use Rattle.straight_line.proofs.Traced.{ahead_within, found_uses, found_within, has_next}
use Rattle.straight_line.proofs.cycling.next.Goals as goal

pub uses_at-used-requires : goal.uses_at-used-requires
uses_at-used-requires c =
    let h = has_next c.args.definitions.now c.args.places.now c.args.ahead.now c.args.variable c.requires.within c.requires.places c.requires.closed c.requires.ahead in
    let e = some-once _ c.in-Some.place h.place c.in-Some.is h.at in
    subst (λ z. z < length c.args.definitions.now) (sym e) (slice_get_within c.args.definitions.now h.place h.definition h.is)

pub next_ahead-requires-clause-below : goal.next_ahead-requires-clause-below
next_ahead-requires-clause-below c =
    let h = has_next c.args.definitions.now c.args.places.now c.args.ahead.now c.args.variable c.requires.within c.requires.places c.requires.closed c.requires.ahead in
    let e = some-once _ c.in-Some.place h.place c.in-Some.is h.at in
    let u = c.uses_at-used.ensures h.definition (ap (slice_get c.args.definitions.now) e ∙ h.is) in
    subst (AreBelow (length c.args.ahead.now)) (sym u) h.below

pub bounds-used-next_ahead : goal.bounds-used-next_ahead
bounds-used-next_ahead c =
    let h = has_next c.args.definitions.now c.args.places.now c.args.ahead.now c.args.variable c.requires.within c.requires.places c.requires.closed c.requires.ahead in
    let e = some-once _ c.in-Some.place h.place c.in-Some.is h.at in
    let u = c.uses_at-used.ensures h.definition (ap (slice_get c.args.definitions.now) e ∙ h.is) in
    found_within c.args.definitions.now c.args.places.now c.args.ahead.now c.args.variable h c.uses_at-used.result.now c.next_ahead.result u c.next_ahead.ensures.within c.next_ahead.ensures.before

pub returns-clause-ahead : goal.returns-clause-ahead
returns-clause-ahead c =
    let h = has_next c.args.definitions.now c.args.places.now c.args.ahead.now c.args.variable c.requires.within c.requires.places c.requires.closed c.requires.ahead in
    let e = some-once _ c.in-Some.place h.place c.in-Some.is h.at in
    let u = c.uses_at-used.ensures h.definition (ap (slice_get c.args.definitions.now) e ∙ h.is) in
    c.next_ahead.ensures.here (found_within c.args.definitions.now c.args.places.now c.args.ahead.now c.args.variable h c.uses_at-used.result.now c.next_ahead.result u c.next_ahead.ensures.within c.next_ahead.ensures.before)

pub returns-clause-uses : goal.returns-clause-uses
returns-clause-uses c =
    let h = has_next c.args.definitions.now c.args.places.now c.args.ahead.now c.args.variable c.requires.within c.requires.places c.requires.closed c.requires.ahead in
    let e = some-once _ c.in-Some.place h.place c.in-Some.is h.at in
    let u = c.uses_at-used.ensures h.definition (ap (slice_get c.args.definitions.now) e ∙ h.is) in
    found_uses c.args.definitions.now c.args.places.now c.args.ahead.now c.args.variable h c.uses_at-used.result.now c.next_ahead.result u c.next_ahead.ensures.within c.next_ahead.ensures.before

pub bounds-places-variable : goal.bounds-places-variable
bounds-places-variable c = subst (λ n. c.args.variable < n) (sym c.requires.count) (ahead_within c.args.ahead.now c.args.variable c.requires.ahead)
