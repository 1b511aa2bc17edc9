-- A target without registers costs nothing, so that the costs of its pre-image fit.
use Rattle.std.proofs.Common.{◌≡◌, ℕ, ◌*◌, ◌<◌, ◌≤◌, ◌^◌, max, List, [], ◌∷◌, length, ap, ◌∙◌, arith}
use Rattle.machine_core.specs.declared.graph.Graph.{Graph}
use Rattle.machine_core.specs.declared.edge.Edge.{Edge}
use Rattle.machine_core.specs.declared.end.End.{End}
use Rattle.machine_core.specs.Costs.{cost_top}
use Rattle.machine_core.specs.CostLaws.{top_by-least}
use Rattle.machine_core.specs.Edges.{edges_top, ends_top}
use Rattle.sv_terms.specs.TransducerSizes.{edges_most, ends_most}
use Rattle.sv_terms.specs.declared.transducer.Transducer.{Transducer}
use Rattle.pre_image.specs.PreImages.{pre_top}

nothing : (k : List ℕ) → length k ≡ 0 → cost_top k ≤ 0
nothing [] e = omega arith
nothing (x ∷ k) e = absurd (omega (arith, e))

pub free-fits : (t : Transducer) (m : Graph) → m.registers ≡ 0 → pre_top t m < 2 ^ 64
free-fits t m free =
    let edges : edges_top m.edges ≤ 0 = top_by-least (λ (e : Edge). cost_top e.cost) m.edges 0 (λ e h. nothing e.cost ((m.formed.edge e h).cost ∙ free)) in
    let ends : ends_top m.ends ≤ 0 = top_by-least (λ (e : End). cost_top e.cost) m.ends 0 (λ e h. nothing e.cost ((m.formed.ending e h).cost ∙ free)) in
    let none : edges_top m.edges ≡ 0 = omega (arith, edges) in
    let product : edges_top m.edges * max (edges_most t.edges) (ends_most t.ends) ≡ 0 = ap (λ n. n * max (edges_most t.edges) (ends_most t.ends)) none ∙ (omega arith) in
    omega (arith, product, ends)
