use Rattle.std.proofs.Common.{ℕ, List, get_or, length, ap, arith}
use Rattle.pre_image.proofs.WayLemmas.{no-rest, not-less, rest-more}
use Rattle.pre_image.proofs.ways.subtract.Goals as goal

pub loop-i-preserved : goal.loop-i-preserved
loop-i-preserved c =
    let whole = c.args.whole.now in
    let part = c.args.part.now in
    let i = c.loop-i.i in
    let sizes = c.requires in
    let sw = ap length c.as_slice-x-items.ensures in
    let lt = c.loop-i-test.true in
    rest-more whole part c.loop-i.rest c.push.new.self i c.in-Some.left (omega arith) (omega arith) c.in_ok-push-in-Some.ensures.ok (let f = c.in-Some.ensures in let le = f.0 in let eq = f.1 in let a = ap (λ l. get_or l i 0) c.as_slice-x-items.ensures in let b = ap (λ l. get_or l i 0) c.as_slice-taken.ensures in omega arith) c.loop-i.invariant

pub returns-in-None : goal.returns-in-None
returns-in-None c rest h =
    let sw = ap length c.as_slice-x-items.ensures in
    let lt = c.loop-i-test.true in
    let a = ap (λ (l : List ℕ). get_or l c.loop-i.i 0) c.as_slice-x-items.ensures in
    let b = ap (λ (l : List ℕ). get_or l c.loop-i.i 0) c.as_slice-taken.ensures in
    c.in-None.ensures (not-less (λ less. no-rest c.args.whole.now c.args.part.now c.loop-i.i (omega (arith, sw, lt)) (omega (arith, less, a, b)) c.requires rest h))
