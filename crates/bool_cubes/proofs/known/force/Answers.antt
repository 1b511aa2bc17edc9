use Rattle.std.proofs.Common.{ap, arith, false, length, length-set, true, ◌∙◌}
use Rattle.std.proofs.lemmas.List.{length-replicate}
use Rattle.bool_cubes.specs.Nodes.{tree_at}
use Rattle.bool_cubes.proofs.Holding.{must_itself, must_kept, must_none}
use Rattle.bool_cubes.proofs.known.force.Goals as goal

pub loop-i-init : goal.loop-i-init
loop-i-init c =
    let ns = c.args.nodes.now in
    record {
      bound = omega arith;
      size = ap length c.set.ensures ∙ length-set c.in_ok-must.must c.args.root true ∙ ap length c.in_ok-must.ensures ∙ length-replicate (length ns) false;
      known = c.requires.known;
      must = must_kept ns c.args.root c.in_ok-must.must c.set.new.self c.args.root (must_none ns c.args.root c.in_ok-must.must (length ns) c.in_ok-must.ensures) (must_itself (tree_at ns c.args.root)) c.set.ensures;
    }
