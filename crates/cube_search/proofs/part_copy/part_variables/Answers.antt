use Rattle.std.proofs.Common.{◌+◌, ◌++◌, ◌∷◌, List, [], take, sym, subst}
use Rattle.std.specs.List.{AllZip}
use Rattle.flat_cubes.specs.declared.variable.Variable.{Variable}
use Rattle.sv_list.specs.Lists.{AllZip-push, take-read}
use Rattle.cube_search.specs.Parts.{IsBareOf}
use Rattle.cube_search.proofs.part_copy.part_variables.Goals as goal

pub loop-place-preserved : goal.loop-place-preserved
loop-place-preserved c =
    let xs = c.args.variables.now in
    let n = c.loop-place.place in
    let x = c.index-variables-place.result in
    let more = AllZip-push IsBareOf (take n xs) c.loop-place.bare x c.in_ok-bare_unless.field-0 c.loop-place.invariant c.in_ok-bare_unless.ensures in
    let longer = subst (λ (vs : List Variable). AllZip IsBareOf vs (c.loop-place.bare ++ c.in_ok-bare_unless.field-0 ∷ [])) (sym (take-read xs n x c.loop-place-test.true c.index-variables-place.is)) more in
    subst (AllZip IsBareOf (take (n + 1) xs)) (sym c.in_ok-push.ensures.ok) longer
