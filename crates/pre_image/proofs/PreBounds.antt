-- What runs and paths of a pre-image cost at most.
use Rattle.std.proofs.Common.{ℕ, ◌+◌, ◌*◌, ◌≤◌, length, slice_index, mul-le-mul_left, mul-add, mul_assoc, arith}
use Rattle.machine_core.specs.declared.graph.Graph.{Graph}
use Rattle.machine_core.specs.RunBounds.{RunsWithin, PathsWithin}
use Rattle.machine_core.specs.Graphs.{GraphRunsWithin, GraphPathsWithin}
use Rattle.sv_terms.specs.declared.transducer.Transducer.{Transducer}
use Rattle.sv_terms.specs.Transduction.{WritesWithin}
use Rattle.pre_image.specs.PreImages.{IsPair, PreEnds, PreSteps}
use Rattle.pre_image.proofs.PreRuns.{pre-out, paths-out}

-- one affine bound put into another
through-within : (slope base m e n written x : ℕ) → written ≤ m * n + e → x ≤ slope * written + base → x ≤ slope * m * n + (slope * e + base)
through-within slope base m e n written x h b =
    let grown = mul-le-mul_left slope h in
    let spread = mul-add slope (m * n) e in
    let joined = mul_assoc slope m n in
    omega arith

module _ (t : Transducer) (g : Graph) (register slope base m e : ℕ) (writes : WritesWithin t (λ n. m * n + e)) where
  pub pre-runs : GraphRunsWithin g register slope base → RunsWithin (IsPair t g) (PreEnds t g) (PreSteps t g) register (slope * m) (slope * e + base)
  pre-runs h s word cost ok r =
      let out = pre-out t g word s cost r in
      through-within slope base m e (length word) (length out.0) (slice_index cost register) (writes.ended s.0 word out.0 ok.0 out.1) (h s.1 out.0 cost ok.1 out.2)

  pub pre-paths : GraphPathsWithin g register slope base → PathsWithin (IsPair t g) g.registers (PreSteps t g) register (slope * m) (slope * e + base)
  pre-paths h u s word cost ok r =
      let out = paths-out t g u word s cost r in
      through-within slope base m e (length word) (length out.0) (slice_index cost register) (writes.paths s.0 u.0 word out.0 ok.0 out.1) (h u.1 s.1 out.0 cost ok.1 out.2)
