use Rattle.std.proofs.Common.{ap, ◌∙◌, sym, get_or, arith}
use Rattle.std.proofs.lemmas.List.Sums.{fold_more}
use Rattle.sv_word.proofs.JoinLemmas.{joined-ends, end-at}
use Rattle.sv_word.specs.Ranges.{with_joined}
use Rattle.sv_word.proofs.ranges.push_each.Goals as goal
use Rattle.sv_word.specs.Words.{greatest_character}

pub loop-pair-preserved : goal.loop-pair-preserved
loop-pair-preserved c =
    let i = c.loop-pair.pair-index in
    let pair = get_or c.args.more.now i (0, 0) in
    record {
      ends = rw c.in_ok-push_joined.ensures (joined-ends greatest_character c.loop-pair.pairs.items pair c.loop-pair.invariant.ends (end-at greatest_character c.args.more.now c.requires.more i (0, 0) (omega arith)));
      joined = c.in_ok-push_joined.ensures ∙ ap (λ l. with_joined l pair) c.loop-pair.invariant.joined ∙ sym (fold_more with_joined c.args.pairs.now.items c.args.more.now i (0, 0) (omega arith));
    }
