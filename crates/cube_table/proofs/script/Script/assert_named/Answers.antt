use Rattle.std.proofs.Common.{[], sym, subst}
use Rattle.assert_stack.specs.Levels.{symbols_of}
use Rattle.sort_check.specs.WellFormed.{IsAdded}
use Rattle.sv_terms.specs.declared.entry.Body.TheVariants as body
use Rattle.sv_terms.specs.declared.entry.Entry.TheVariants as entry
use Rattle.cube_table.specs.Standing.{IsStanding}
use Rattle.cube_table.proofs.Standing.{stands_named}
use Rattle.cube_table.proofs.script.Script.assert_named.Goals as goal

pub invariant_of-self-2 : goal.invariant_of-self-2
invariant_of-self-2 c =
    let added = subst (λ ls. IsAdded (symbols_of ls) c.args.name (entry.Macro [] (body.Term c.args.term))) (sym c.self.view_is) c.requires.added in
    subst IsStanding (sym c.in_ok-assert_named.ensures.ok) (stands_named c.args.name c.args.term c.self.inside.stack added c.requires.sorted c.self.invariant)
