use Rattle.std.proofs.Common.{◌≡◌, ◌*◌, ◌^◌, ◌∙◌, ap, arith}
use Rattle.sv_terms.specs.CutOff.{cut_off}
use Rattle.cube_bounds.specs.Bounds.{sources, states}
use Rattle.cube_bounds.proofs.Few.{work_cut}
use Rattle.cube_region.proofs.near.near_work.Goals as goal

pub returns : goal.returns
returns c flat numbers count =
    let s = c.args.side in
    let power = c.power.ensures in
    let within = c.requires.within in
    let p : c.power.result ≡ cut_off (c.args.side ^ c.args.count) = omega (arith, power, within) in
    c.saturating_mul-2.ensures ∙ ap (λ x. cut_off (x * c.args.numbers.now.sources)) c.saturating_mul.ensures
    ∙ work_cut (states flat) (s ^ c.args.count) (sources flat) c.args.numbers.now.states c.power.result c.args.numbers.now.sources numbers.states p numbers.sources
    ∙ ap (λ n. cut_off (states flat * s ^ n * sources flat)) count
