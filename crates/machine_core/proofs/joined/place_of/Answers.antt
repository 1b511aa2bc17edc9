use Rattle.std.proofs.Common.{rules, ◌≡◌, ◌<◌, ◌-◌, length, sym, ◌∙◌, arith}
use Rattle.std.proofs.lemmas.Bool.Decides.{nat_tests}
use Rattle.sv_list.specs.Lists.{stands-at}
use Rattle.machine_core.proofs.joined.place_of.Goals as goal

pub returns-then-eq : goal.returns-then-eq
returns-then-eq c =
    let d = c.if-eq.true in
    let e = c.eq.ensures in
    let same : c.as_slice.result.now ≡ c.as_slice-2.result.now = search rules in
    let some : 0 < length c.args.moves.now = let e = c.if-is_empty.ensures in grind (arith, nat_tests) in
    let below : length c.args.moves.now - 1 < length c.args.moves.now = omega arith in
    record {
      earlier = c.index-moves-at.result;
      stands = stands-at c.args.moves.now (length c.args.moves.now - 1) c.index-moves-at.result below c.index-moves-at.is;
      to = c.if-last-further.false;
      cost = sym c.as_slice.ensures ∙ same ∙ c.as_slice-2.ensures;
    }
