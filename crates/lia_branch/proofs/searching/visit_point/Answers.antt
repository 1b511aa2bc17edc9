use Rattle.std.proofs.Common.{rules, ℕ, ◌<◌, sym, subst, List}
use Rattle.std.specs.Prelude.{MatchOption, All, ℤ, pos, ◌≤ℤ◌}
use Rattle.std.specs.Int.{w128}
use Rattle.std.proofs.lemmas.Int.{to_z-of_z}
use mir.Val.{SFits}
use Rattle.farkas_check.specs.Cuts.{values_of, IsNetCut, IsCutAnswer}
use Rattle.farkas_check.specs.Systems.{Joined}
use Rattle.farkas_check.specs.declared.net.Net.{Net}
use Rattle.lia_branch.specs.DueSplits.{IsWholeAt}
use Rattle.lia_branch.specs.Founds.{IsFraction}
use Rattle.lia_branch.proofs.WholePoints.{not_negative, node_solution}
use Rattle.lia_branch.proofs.searching.visit_point.Goals as goal

pub first_fraction-requires : goal.first_fraction-requires
first_fraction-requires g c = c.requires.ready.unknowns

pub whole_point-requires-clause-unknowns : goal.whole_point-requires-clause-unknowns
whole_point-requires-clause-unknowns g c = c.requires.ready.unknowns

pub cut-requires-clause-not_negative : goal.cut-requires-clause-not_negative
cut-requires-clause-not_negative g c =
    let point = c.in_ok-point-in-None.point in
    let n = not_negative c.args.system.now c.args.tableau.now.rows c.args.tableau.now c.requires.ready c.requires.meets point c.in_ok-point-in-None.ensures in
    subst (λ (ps : List ℤ). All (λ net. All (λ e. pos 0 ≤ℤ values_of ps e.unknown) net.edges) (g.C.Cutter.nets c.args.cutter.now)) (sym c.as_slice.ensures)
    (subst (λ (ns : List Net). All (λ net. All (λ e. pos 0 ≤ℤ values_of point e.unknown) net.edges) ns) (sym c.requires.cutter) n)

pub returns-in-Some : goal.returns-in-Some
returns-in-Some g c = λ node k m.
    let fa : SFits w128 c.in-Some.field-0.at = search rules in
    record {
      node_of = k;
      comes = m;
      meets = c.requires.status;
      due = rw (to_z-of_z w128 _ fa) (subst (λ o. MatchOption o ((u : ℕ) → u < c.args.system.now.unknowns → IsWholeAt c.args.tableau.now.lines u) (λ f. IsFraction c.args.system.now.unknowns c.args.tableau.now.lines f.unknown f.at)) c.in-Some.is c.first_fraction.ensures);
    }

pub returns-in-None-2 : goal.returns-in-None-2
returns-in-None-2 g c = λ node k m.
    let point = c.in_ok-point-in-None.point in
    node_solution c.args.system.now c.args.tableau.now.rows c.args.tableau.now c.requires.ready c.requires.meets point c.in_ok-point-in-None.ensures node k
    (subst (λ (ns : List Net). All (Joined (values_of point)) ns) c.requires.cutter
    (subst (λ (ps : List ℤ). All (Joined (values_of ps)) (g.C.Cutter.nets c.args.cutter.now)) c.as_slice.ensures
    (subst (IsCutAnswer (values_of c.as_slice.result.now) (g.C.Cutter.nets c.args.cutter.now)) c.in-None-2.is c.in_ok-cut-in-None.ensures)))

pub returns-in-Some-2 : goal.returns-in-Some-2
returns-in-Some-2 g c = λ node k m.
    let point = c.in_ok-point-in-None.point in
    record {
      node_of = k;
      comes = m;
      meets = c.requires.status;
      due = record {
        x = values_of point;
        whole = c.in_ok-point-in-None.ensures.value;
        cut =
            subst (λ (ns : List Net). IsNetCut (values_of point) ns c.in-Some-2.net c.in-Some-2.states) c.requires.cutter
            (subst (λ (ps : List ℤ). IsNetCut (values_of ps) (g.C.Cutter.nets c.args.cutter.now) c.in-Some-2.net c.in-Some-2.states) c.as_slice.ensures
            (subst (IsCutAnswer (values_of c.as_slice.result.now) (g.C.Cutter.nets c.args.cutter.now)) c.in-Some-2.is c.in_ok-cut-in-None.ensures));
      };
    }
