-- The nets of a system name its unknowns and their own states.
use Rattle.std.proofs.Common.{ℕ, ◌+◌, ◌<◌, ◌≤◌, List, [], ◌∷◌, All, Option, get_or, sym, subst, arith}
use Rattle.std.proofs.lemmas.Option.{slice_get_within, slice_get-get_or}
use Rattle.std.proofs.lemmas.List.Elements.{All-nil, All-cons}
use Rattle.sv_linear.specs.declared.row.Row.{Row}
use Rattle.machine_core.specs.declared.graph.Graph.{Graph}
use Rattle.sv_list.specs.Lists.{slice_get-contains}
use Rattle.farkas_check.specs.declared.net.NetEdge.{NetEdge}
use Rattle.farkas_check.specs.declared.system.System.{System}
use Rattle.farkas_check.specs.Cuts.{IsNetWithin}
use Rattle.parikh_flow.specs.Counts.{size_of}
use Rattle.parikh_flow.specs.Nets.{net_edges, net_of, nets_of}
use Rattle.parikh_flow.specs.Rows.{unknowns_after, IsSystemOf}
use Rattle.parikh_flow.proofs.RunLemmas.{net-out}
use Rattle.parikh_flow.proofs.FormLemmas.{after-most}

net-within : (m : Graph) (base n : ℕ) → base + size_of m ≤ n → IsNetWithin n (net_of base m)
net-within m base n le = record {
  start = m.started;
  unknowns = λ k d lt.
      let e = net-out base m.edges (get_or (net_edges base m.edges) k d) (slice_get-contains (net_edges base m.edges) k (get_or (net_edges base m.edges) k d) (slice_get-get_or (net_edges base m.edges) k d lt)) in
      let b = slice_get_within m.edges e.0 e.1 e.2 in
      subst (λ (x : NetEdge). x.unknown < n) (sym e.3) (omega arith);
  states = λ k d lt.
      let e = net-out base m.edges (get_or (net_edges base m.edges) k d) (slice_get-contains (net_edges base m.edges) k (get_or (net_edges base m.edges) k d) (slice_get-get_or (net_edges base m.edges) k d lt)) in
      let f = m.formed.edge e.1 (slice_get-contains m.edges e.0 e.1 e.2) in
      subst (λ (x : NetEdge). (x.«from» < m.states) × (x.to < m.states)) (sym e.3) (f.from, f.to);
}

family-within : (ms : List Graph) (base n : ℕ) → unknowns_after base ms ≤ n → All (IsNetWithin n) (nets_of base ms)
family-within [] base n le = All-nil (IsNetWithin n)
family-within (m ∷ ms) base n le =
    let more = after-most (base + size_of m) ms in
    All-cons (IsNetWithin n) (net_of base m) (nets_of (base + size_of m) ms) (net-within m base n (omega arith)) (family-within ms (base + size_of m) n le)

pub system-within : (machines : List Graph) (integers registers : ℕ) (rows : List Row) (reach : Option ℕ) (s : System) → IsSystemOf machines integers registers rows reach s → All (IsNetWithin s.unknowns) s.nets
system-within machines integers registers rows reach s is = rw is.nets (family-within machines (integers + registers) s.unknowns (let u = is.unknowns in omega arith))
