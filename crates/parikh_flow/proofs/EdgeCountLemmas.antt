-- Where the rows of a system are met no edge is counted below 0.
use Rattle.std.proofs.Common.{ℕ, ◌+◌, ◌<◌, ◌≤◌, ℤ, pos, ◌≤ℤ◌, List, [], ◌∷◌, All, Option, get_or, sym, subst, arith}
use Rattle.std.proofs.lemmas.Option.{slice_get_within, slice_get-get_or}
use Rattle.std.proofs.lemmas.List.Elements.{All-nil, All-cons}
use Rattle.sv_linear.specs.declared.row.Row.{Row}
use Rattle.machine_core.specs.declared.graph.Graph.{Graph}
use Rattle.sv_list.specs.Lists.{slice_get-contains}
use Rattle.farkas_check.specs.declared.net.Net.{Net}
use Rattle.farkas_check.specs.declared.net.NetEdge.{NetEdge}
use Rattle.farkas_check.specs.declared.system.System.{System}
use Rattle.farkas_check.specs.Systems.{Meets, rows_of}
use Rattle.parikh_flow.specs.Counts.{size_of}
use Rattle.parikh_flow.specs.Nets.{net_edges, net_of, nets_of}
use Rattle.parikh_flow.specs.Rows.{unknowns_after, IsSystemOf}
use Rattle.parikh_flow.proofs.FormLemmas.{after-most}
use Rattle.parikh_flow.proofs.RunLemmas.{net-out}
use Rattle.parikh_flow.proofs.HitLemmas.{low-met}

abbrev AreCounted : (ℕ → ℤ) → Net → Type 0
AreCounted x net = All (λ e. pos 0 ≤ℤ x e.unknown) net.edges

module _ (x : ℕ → ℤ) (low high : ℕ) (counts : (u : ℕ) → low ≤ u → u < high → pos 0 ≤ℤ x u) where
  net-counted : (m : Graph) (base : ℕ) → low ≤ base → base + size_of m ≤ high → AreCounted x (net_of base m)
  net-counted m base le ge = λ k d lt.
      let e = net-out base m.edges (get_or (net_edges base m.edges) k d) (slice_get-contains (net_edges base m.edges) k (get_or (net_edges base m.edges) k d) (slice_get-get_or (net_edges base m.edges) k d lt)) in
      let b = slice_get_within m.edges e.0 e.1 e.2 in
      subst (λ (d : NetEdge). pos 0 ≤ℤ x d.unknown) (sym e.3) (counts (base + e.0) (omega arith) (omega arith))

  nets-counted : (ms : List Graph) (base : ℕ) → low ≤ base → unknowns_after base ms ≤ high → All (AreCounted x) (nets_of base ms)
  nets-counted [] base le ge = All-nil (AreCounted x)
  nets-counted (m ∷ ms) base le ge =
      let more = after-most (base + size_of m) ms in
      All-cons (AreCounted x) (net_of base m) (nets_of (base + size_of m) ms) (net-counted m base le (omega arith)) (nets-counted ms (base + size_of m) (omega arith) ge)

pub edges-counted : (machines : List Graph) (integers registers : ℕ) (rows : List Row) (reach : Option ℕ) (s : System) (x : ℕ → ℤ) → IsSystemOf machines integers registers rows reach s
    → All (Meets x) (rows_of s) → All (λ net. All (λ e. pos 0 ≤ℤ x e.unknown) net.edges) s.nets
edges-counted machines integers registers rows reach s x is met =
    rw is.nets (nets-counted x integers (unknowns_after (integers + registers) machines) (low-met machines integers registers rows reach s x is met) machines (integers + registers) (omega arith) (omega arith))
