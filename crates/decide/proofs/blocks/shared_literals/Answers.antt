use Rattle.std.proofs.Common.{drop, sym, ap, ◌∙◌, subst}
use Rattle.std.specs.List.{AllByRecursion}
use Rattle.bool_cubes.specs.Cubes.{cubes_of}
use Rattle.bool_cubes.specs.Laws.{IsClearBool}
use Rattle.bool_cubes.specs.Past.{HasNoPast}
use Rattle.decide.specs.Passing.{shared_of}
use Rattle.decide.proofs.Sharing.{LeftBy, next-one, none-left, shared-each}
use Rattle.decide.proofs.blocks.shared_literals.Goals as goal

pub new-requires : goal.new-requires
new-requires c = subst (AllByRecursion IsClearBool) (sym (c.as_slice.ensures ∙ c.in_ok-shared.ensures)) (shared-each IsClearBool c.args.first c.args.terms.now c.requires)

pub returns-in-Ok-clause-some : goal.returns-in-Ok-clause-some
returns-in-Ok-clause-some c =
    let all = c.in-Ok.ensures.cubes ∙ ap cubes_of (c.as_slice.ensures ∙ c.in_ok-shared.ensures) in
    next-one (shared_of c.args.first c.args.terms.now) c.args.choice c.in_ok-cube-in-Ok.cube c.next.new.self
    (subst (λ l. LeftBy l c.next.new.self c.in_ok-cube-in-Ok.cube) (c.skip.ensures ∙ ap (drop c.args.choice) all) c.in_ok-cube-in-Ok.ensures.next)

pub returns-in-Ok-clause-none : goal.returns-in-Ok-clause-none
returns-in-Ok-clause-none c = λ none lt past.
    let all = c.in-Ok.ensures.cubes ∙ ap cubes_of (c.as_slice.ensures ∙ c.in_ok-shared.ensures) in
    absurd (none-left c.args.choice c.in_ok-cube-in-Ok.cube (cubes_of (shared_of c.args.first c.args.terms.now)) c.next.new.self
    (subst (λ l. LeftBy l c.next.new.self c.in_ok-cube-in-Ok.cube) (c.skip.ensures ∙ ap (drop c.args.choice) all) c.in_ok-cube-in-Ok.ensures.next) none lt)

pub returns-in-Err-Past-clause-none : goal.returns-in-Err-Past-clause-none
returns-in-Err-Past-clause-none c = λ none lt clear.
    let past = rw c.in-Err-Past.field-0-is at c.in-Err-Past.ensures.refused in
    absurd (subst HasNoPast (sym (c.as_slice.ensures ∙ c.in_ok-shared.ensures)) clear c.in-Err-Past.field-0-0 c.in-Err-Past.field-0-1 past)
