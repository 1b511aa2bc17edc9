use Rattle.std.proofs.Common.{IsTrue, subst}
use Rattle.std.specs.Prelude.{IfSome}
use Rattle.std.specs.List.{AllByRecursion, Contains}
use Rattle.literal_forms.specs.declared.literal.Cube.{Cube}
use Rattle.decide.specs.CubeValues.{CubeHasNoValues}
use Rattle.decide.proofs.Weaker.{part-asked, part-none}
use Rattle.decide.proofs.crooked.is_refuted_by_part.Goals as goal

pub refutes-requires : goal.refutes-requires
refutes-requires c =
    part-asked c.args.cube.now (record { literals = c.in_ok-literals.literals }) (subst (λ ls. AllByRecursion (Contains ls) c.in_ok-literals.literals) c.as_slice-all.ensures c.in_ok-literals.ensures)
    c.args.shared.now.terms.now c.requires

pub returns-in-Some : goal.returns-in-Some
returns-in-Some c = λ told.
    let part : Cube = record { literals = c.in_ok-literals.literals } in
    let some = subst (λ ls. AllByRecursion (Contains ls) c.in_ok-literals.literals) c.as_slice-all.ensures c.in_ok-literals.ensures in
    part-none c.args.cube.now part some (subst (λ o. IfSome o (λ refuted. IsTrue refuted → CubeHasNoValues part)) c.in-Some.is c.in_ok-refuted.ensures told)
