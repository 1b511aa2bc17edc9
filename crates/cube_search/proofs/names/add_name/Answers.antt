use Rattle.std.proofs.Common.{sym, subst, arith, ◌<◌, length}
use Rattle.cube_search.specs.Conflicts.{IsNamedToo}
use Rattle.cube_search.proofs.NameLemmas.{push-names, set-names}
use Rattle.cube_search.proofs.names.add_name.Goals as goal

pub returns-then-v-len : goal.returns-then-v-len
returns-then-v-len c =
    let lt = c.if-v-len.true in
    let e = c.len.ensures in
    let within : c.args.v < length c.args.names.now = omega (arith, lt, e) in
    subst (IsNamedToo c.args.v c.args.names.now) (sym c.set.ensures) (set-names c.args.names.now c.args.v within)

pub returns : goal.returns
returns c = push-names c.args.names.now c.lengthen.new.names c.push.new.self c.args.v c.in_ok-lengthen.ensures.same c.in_ok-lengthen.ensures.long c.in_ok-push.ensures.ok
