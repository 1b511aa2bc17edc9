use Rattle.std.proofs.Common.{◌≡◌, ◌+◌, sym, ap, ◌∙◌, max, get_or}
use Rattle.sv_terms.specs.CutOff.{cut_off}
use Rattle.sv_terms.specs.TransducerSizes.{edges_most, ends_most}
use Rattle.cube_bounds.specs.Growth.{growth_by}
use Rattle.cube_bounds.proofs.Grown.{growth_here, through_growth}
use Rattle.cube_bounds.proofs.growing.growth_by.Goals as goal

pub returns-in-Through : goal.returns-in-Through
returns-in-Through c ms e =
    let x : c.edges_most-edge.result ≡ cut_off (edges_most c.in-Through.transducer.edges) = c.edges_most-edge.ensures ∙ ap (λ es. cut_off (edges_most es)) c.as_slice-in-Through.ensures in
    let y : c.ends_most-end.result ≡ cut_off (ends_most c.in-Through.transducer.ends) = c.ends_most-end.ensures ∙ ap (λ es. cut_off (ends_most es)) c.as_slice-in-Through-2.ensures in
    c.max-in-Through.ensures ∙ ap (max c.number_at-growth.result) (c.saturating_add-in-Through.ensures ∙ ap (λ z. cut_off (z + c.ends_most-end.result)) c.saturating_mul-in-Through.ensures)
    ∙ through_growth (get_or ms c.in-Through.at 1) c.number_at-growth.result (edges_most c.in-Through.transducer.edges) (ends_most c.in-Through.transducer.ends) c.edges_most-edge.result c.ends_most-end.result (growth_here c.args.numbers.now ms c.in-Through.at c.number_at-growth.result e c.number_at-growth.ensures) x y
    ∙ ap (λ b. cut_off (growth_by ms b)) (sym c.in-Through.is)
