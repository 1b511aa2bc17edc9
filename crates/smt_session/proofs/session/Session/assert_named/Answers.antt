use Rattle.std.proofs.Common.{[], ap, sym, subst}
use Rattle.assert_stack.specs.Levels.{symbols_of}
use Rattle.sort_check.specs.WellFormed.{IsTermOf, IsAdded}
use Rattle.sv_terms.specs.declared.entry.Body.TheVariants as body
use Rattle.sv_terms.specs.declared.entry.Entry.TheVariants as entry
use Rattle.sv_terms.specs.declared.sort.Sort.TheVariants as sort
use Rattle.smt_session.specs.Standing.{AreSound}
use Rattle.smt_session.specs.Steps.{State}
use Rattle.smt_session.proofs.Soundness.{sound-named}
use Rattle.smt_session.proofs.session.Session.assert_named.Goals as goal

pub invariant_of-self-2 : goal.invariant_of-self-2
invariant_of-self-2 c =
    let levels = ap (λ (s : State). s.levels) c.self.view_is in
    let term = subst (λ ls. IsTermOf (symbols_of ls) sort.Bool c.args.term) (sym levels) c.requires.term in
    let name = subst (λ ls. IsAdded (symbols_of ls) c.args.name (entry.Macro [] (body.Term c.args.term))) (sym levels) c.requires.name in (
      subst AreSound (sym c.in_ok-assert_named.ensures.ok) (sound-named c.constants_have_values.ensures.kept c.args.name c.args.term c.self.inside.stack term name c.self.invariant.0),
      tt,
      c.self.invariant.2,
    )
