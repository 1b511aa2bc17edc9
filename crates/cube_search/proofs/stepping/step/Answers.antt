use Rattle.cube_search.proofs.SearchLemmas.{made-any, no-concat}
use Rattle.cube_search.proofs.stepping.step.Goals as goal

pub returns-in_ok-next-in_default : goal.returns-in_ok-next-in_default
returns-in_ok-next-in_default c =
    let flat = c.args.flat.now in
    let at = c.args.at in
    let d = c.definition_at-definition.result.now in
    let here = c.definition_at-definition.ensures in
    let e = c.in_ok-next-in_default.ensures in
    record {
      next = record {
        registers = e.registers;
        cut = λ x pieces is. absurd (no-concat flat.definitions at x d pieces here c.in_default.not-Concat is);
        passed = λ x v b is reads. e.conf x b is;
        made = made-any flat at c.args.cuts.now c.args.state.now.machines c.in_ok-next-in_default.next d here c.in_default.not-Concat e.made;
      };
      state = e.state;
      refused = λ n is. cc;
    }
