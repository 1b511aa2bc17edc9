use Rattle.std.proofs.Common.{◌≡◌, ◌-◌, length, suc, ap, ◌∙◌, arith, ℕ}
use Rattle.std.proofs.Math.ListN.{set}
use Rattle.sexpr_reader.specs.declared.sexpr.Sexpr.TheVariants as s
use Rattle.sexpr_reader.proofs.Nests.{close_one, close_inner}
use Rattle.sexpr_reader.proofs.nest.Nest.close.Goals as goal

pub returns-in-Some-clause-ok : goal.returns-in-Some-clause-ok
returns-in-Some-clause-ok c =
    let count : length c.args.self.now.lists.items ≡ 1 = omega arith in
    close_one c.args.self.now.lists.items c.pop.new.self.items c.in-Some.list count c.in-Some.ensures.items

pub returns-in-Some-pop-clause-ok : goal.returns-in-Some-pop-clause-ok
returns-in-Some-pop-clause-ok c =
    let n = c.len-count.result - 2 in
    let count : length c.args.self.now.lists.items ≡ suc (suc (c.len-count.result - 2)) = omega arith in
    let filled : c.set.new.self ≡ set c.index_mut-outer.result.now (length c.index_mut-outer.result.now - 1) (s.List c.in-Some-pop.list) =
    c.set.ensures ∙ ap (λ (k : ℕ). set c.index_mut-outer.result.now (k - 1) (s.List c.in-Some-pop.list)) c.len-last.ensures in
    record {
      tokens = close_inner c.args.self.now.lists.items c.pop-2.new.self.items n _ c.index_mut.result.now c.push.new.self c.index_mut-outer.result.now c.set.new.self c.in-Some-pop.list
          count c.index_mut.ensures.value c.in_ok-push.ensures.ok c.in-Some-pop.ensures.items c.index_mut-outer.ensures.value filled;
      whole = tt;
    }
