use Rattle.std.proofs.Common.{◌≡◌, ◌*◌, ap, ◌∙◌, to_z, of_z, w64, SFits, rules}
use Rattle.std.proofs.lemmas.Int.{to_z-of_z}
use Rattle.sv_terms.specs.CutOff.{cut_off}
use Rattle.cube_bounds.specs.Bounds.{sources, states}
use Rattle.cube_bounds.proofs.Few.{search_is, work_cut}
use Rattle.cube_bounds.proofs.smallness.can_search.Goals as goal

pub returns : goal.returns
returns c flat n e f g r =
    let is : c.saturating_mul-2.result ≡ cut_off (states flat * n * sources flat) = c.saturating_mul-2.ensures ∙ ap (λ x. cut_off (x * c.args.free)) c.saturating_mul.ensures ∙ work_cut (states flat) n (sources flat) c.args.most_states c.args.points c.args.free e f g in
    let y : to_z w64 (of_z w64 c.args.limit) ≡ c.args.limit = (let h : SFits w64 c.args.limit = search rules in to_z-of_z w64 c.args.limit h) in
    search_is flat n c.saturating_mul-2.result (to_z w64 (of_z w64 c.args.limit)) c.is_little.result is (y ∙ r) c.is_little.ensures
