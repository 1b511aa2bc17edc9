use Rattle.std.proofs.Common.{◌≡◌, ◌∙◌, List, length, sym, ap, subst}
use Rattle.std.specs.Prelude.{All, ℤ, pos, ◌≤ℤ◌}
use Rattle.farkas_check.specs.Cuts.{values_of, IsCutAnswer, IsNetWithin}
use Rattle.farkas_check.specs.Systems.{Joined}
use Rattle.farkas_check.specs.declared.net.Net.{Net}
use Rattle.lia_branch.proofs.reduced_search.joining_point.Goals as goal

pub cut-requires-clause-within : goal.cut-requires-clause-within
cut-requires-clause-within g c =
    let s = c.requires.0 in
    let size : length c.as_slice.result.now ≡ s.unknowns = ap length c.as_slice.ensures ∙ c.requires.3.size in
    subst (λ n. All (IsNetWithin n) (g.C.Cutter.nets c.args.cutter.now)) (sym size)
    (subst (λ (ns : List Net). All (IsNetWithin s.unknowns) ns) (sym c.requires.2) c.requires.1.nets)

pub cut-requires-clause-not_negative : goal.cut-requires-clause-not_negative
cut-requires-clause-not_negative g c =
    let ps = c.args.point in
    subst (λ (p : List ℤ). All (λ net. All (λ e. pos 0 ≤ℤ values_of p e.unknown) net.edges) (g.C.Cutter.nets c.args.cutter.now)) (sym c.as_slice.ensures)
    (subst (λ (ns : List Net). All (λ net. All (λ e. pos 0 ≤ℤ values_of ps e.unknown) net.edges) ns) (sym c.requires.2) (c.requires.1.counts (values_of ps) c.requires.3.meets))

pub returns-in-None-clause-found : goal.returns-in-None-clause-found
returns-in-None-clause-found g c = λ s searchable nets is_point.
    let ps = c.args.point in
    let joined : All (Joined (values_of ps)) s.nets =
    subst (λ (ns : List Net). All (Joined (values_of ps)) ns) nets
    (subst (λ (p : List ℤ). All (Joined (values_of p)) (g.C.Cutter.nets c.args.cutter.now)) c.as_slice.ensures
    (subst (IsCutAnswer (values_of c.as_slice.result.now) (g.C.Cutter.nets c.args.cutter.now)) c.in-None.is c.in_ok-cut.ensures)) in
    record { size = is_point.size; solves = record { meets = is_point.meets; joins = joined } }
