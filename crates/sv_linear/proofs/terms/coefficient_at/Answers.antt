use Rattle.std.proofs.Common.{rules, pos, get_or, Ok, Err}
use Rattle.std.specs.Int.{w128}
use Rattle.std.proofs.lemmas.Int.{to_z-of_z}
use Rattle.std.proofs.lemmas.List.Sorted.{answers_always}
use mir.Val.{SFits}
use Rattle.sv_linear.proofs.Ascending.{searched}
use Rattle.sv_linear.proofs.terms.coefficient_at.Goals as goal

pub returns-in-Ok : goal.returns-in-Ok
returns-in-Ok c =
    let f : SFits w128 (get_or c.args.terms.now c.in-Ok.at (0, pos 0)).1 = search rules in
    rw (to_z-of_z w128 _ f)
    (searched c.args.terms.now c.args.unknown (Ok c.in-Ok.at) c.requires c.in-Ok.ensures.bound
    (c.in-Ok.ensures.position (λ t. t.0) (answers_always _ _ _ (λ f a r g called. search rules))))

pub returns-in-Err : goal.returns-in-Err
returns-in-Err c =
    searched c.args.terms.now c.args.unknown (Err c.in-Err.field-0) c.requires c.in-Err.ensures.bound
    (c.in-Err.ensures.position (λ t. t.0) (answers_always _ _ _ (λ f a r g called. search rules)))
