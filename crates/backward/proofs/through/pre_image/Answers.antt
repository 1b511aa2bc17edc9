use Rattle.std.proofs.Common.{subst, sym, ap, Err}
use Rattle.machine_core.specs.Runs.{IsRun}
use Rattle.pre_image.specs.PreImages.{PreEnds, PreSteps}
use Rattle.backward.specs.PreBuilt.{IsPreImage}
use Rattle.backward.proofs.through.pre_image.Goals as goal

pub returns-clause-kept : goal.returns-clause-kept
returns-clause-kept c =
    let e = c.in_ok-built.ensures in
    let built = c.in_ok-built.built.machine in
    let t = c.in_ok-pre.pre.through.now in
    let g = c.in_ok-pre.pre.target.now in
    let is : IsPreImage t g built = record {
      language = λ word cost. (
        λ a. (c.pre_is_exact.ensures word cost).0 ((e.runs word cost).1 a),
        λ h. (e.runs word cost).0 ((c.pre_is_exact.ensures word cost).1 h),
      );
      registers = e.registers;
      states = e.states;
      top = e.top;
      within = λ m w register slope base writes h. record {
        runs = e.runs_within register _ _ (c.pre_costs_are_bounded.ensures.runs register slope base m w writes h.runs);
        paths = e.paths_within register _ _ (c.pre_costs_are_bounded.ensures.paths register slope base m w writes h.paths);
      };
    } in
    record {
      formed = c.requires.formed;
      fits = c.requires.fits;
      is = subst (λ x. IsPreImage x c.args.target.now built) c.in_ok-pre.ensures.through (subst (λ y. IsPreImage t y built) c.in_ok-pre.ensures.target is);
      lifts = λ run lifted r l. subst (λ x. IsRun (PreEnds x c.args.target.now) (PreSteps x c.args.target.now) (x.start, 0) lifted) c.in_ok-pre.ensures.through
          (subst (λ y. IsRun (PreEnds t y) (PreSteps t y) (t.start, 0) lifted) c.in_ok-pre.ensures.target (c.lifted_runs_are_runs.ensures run lifted r l));
    }

pub returns-in_err-built-clause-refused : goal.returns-in_err-built-clause-refused
returns-in_err-built-clause-refused c = λ n e.
    let d = rw e at c.from_residual-in_err-built.ensures.1 in
    (c.in_err-built.ensures.beyond n (ap Err (sym d))).1
