use Rattle.std.proofs.Common.{Ok, refl, sym, ap, ◌∙◌, subst, add-one}
use Rattle.sv_list.specs.Lists.{slice_get-some}
use Rattle.cube_search.specs.Searches.{AreFoundRuns}
use Rattle.cube_search.specs.declared.below.Below.TheVariants as below
use Rattle.cube_search.proofs.FoundLemmas.{lift-found}
use Rattle.cube_search.proofs.stepping.take_back.Goals as goal

pub returns-in-Left-clause-back : goal.returns-in-Left-clause-back
returns-in-Left-clause-back c = (below.Left, c.in_ok-below.was ∙ ap (λ b. Ok b) c.in-Left.is, refl)

pub returns-in-Refuted-clause-back : goal.returns-in-Refuted-clause-back
returns-in-Refuted-clause-back c = (below.Refuted c.in-Refuted.names, c.in_ok-below.was ∙ ap (λ b. Ok b) c.in-Refuted.is, refl)

pub returns-in_ok-runs-in-Found-clause-back : goal.returns-in_ok-runs-in-Found-clause-back
returns-in_ok-runs-in-Found-clause-back c =
    let flat = c.args.flat.now in
    let at = c.args.at in
    let d = slice_get-some flat.definitions at c.requires.at in
    let back = c.in_ok-runs-in-Found.ensures d.0 d.1 in
    let was = c.in_ok-below.was ∙ ap (λ b. Ok b) c.in-Found.is in
    let found = c.requires.found c.in-Found.found was in (
      below.Found c.in-Found.found,
      was,
      (
        record { runs = c.in_ok-runs-in-Found.runs; integers = c.in-Found.found.integers },
        refl,
        subst (λ n. AreFoundRuns flat n c.args.before.now.machines (record { runs = c.in_ok-runs-in-Found.runs; integers = c.in-Found.found.integers })) (sym (add-one at))
            (lift-found flat at c.args.before.now.machines c.args.after.now.machines c.in-Found.found c.in_ok-runs-in-Found.runs c.requires.straight d.0 d.1 found back.0 back.1),
      ),
    )
