use Rattle.std.proofs.Common.{inl, inr, refl, length, length-append, ap, arith}
use Rattle.sv_list.specs.Lists.{ok-no_err, slice_get-end}
use Rattle.trim_search.proofs.FullLemmas.{memory-no-states, no-states-at-memory, full-now}
use Rattle.trim_search.proofs.explore.number.Goals as goal

pub returns-in-Some-clause-grows : goal.returns-in-Some-clause-grows
returns-in-Some-clause-grows g c = inl refl

pub returns-in-Some-clause-within : goal.returns-in-Some-clause-within
returns-in-Some-clause-within g c = c.requires.within

pub returns-in-Some-clause-counted : goal.returns-in-Some-clause-counted
returns-in-Some-clause-counted g c = c.requires.counted

pub returns-then-count-clause-grows : goal.returns-then-count-clause-grows
returns-then-count-clause-grows g c = inl refl

pub returns-then-count-clause-within : goal.returns-then-count-clause-within
returns-then-count-clause-within g c = c.requires.within

pub returns-then-count-clause-counted : goal.returns-then-count-clause-counted
returns-then-count-clause-counted g c = c.requires.counted

pub returns-then-count-limit-clause-grows : goal.returns-then-count-limit-clause-grows
returns-then-count-limit-clause-grows g c = inl refl

pub returns-then-count-limit-clause-within : goal.returns-then-count-limit-clause-within
returns-then-count-limit-clause-within g c = c.requires.within

pub returns-then-count-limit-clause-counted : goal.returns-then-count-limit-clause-counted
returns-then-count-limit-clause-counted g c = c.requires.counted

pub returns-in-Some-clause-full : goal.returns-in-Some-clause-full
returns-in-Some-clause-full g c = λ n e. ok-no_err _ _ e

pub returns-clause-full : goal.returns-clause-full
returns-clause-full g c = λ n e. ok-no_err _ _ e

pub returns-in-Some-clause-ok : goal.returns-in-Some-clause-ok
returns-in-Some-clause-ok g c = c.in-Some.ensures

pub overflow_add-result : goal.overflow_add-result
overflow_add-result g c =
    let items = ap length c.names-count.ensures.items in
    let counted = c.requires.counted in
    let test = c.if-count-limit.true in
    omega arith

pub returns-then-count-limit-clause-full : goal.returns-then-count-limit-clause-full
returns-then-count-limit-clause-full g c = λ n e.
    full-now c.args.limit n (g.N.StateNumbering.named c.args.numbers.now) c.names-count.result.now c.args.state c.names-count.ensures.items c.requires.within c.if-count-limit.true
    c.names-count.ensures.distinct c.in_default.ensures e

pub returns-then-count-clause-full : goal.returns-then-count-clause-full
returns-then-count-clause-full g c = λ n e. no-states-at-memory n _ e

pub add-requires-clause-new : goal.add-requires-clause-new
add-requires-clause-new g c = c.in_default.ensures

pub add-requires-clause-room : goal.add-requires-clause-room
add-requires-clause-room g c = c.requires.counted

pub returns-in_err-add-clause-grows : goal.returns-in_err-add-clause-grows
returns-in_err-add-clause-grows g c = inl c.in_err-add.ensures.err

pub returns-in_err-add-clause-within : goal.returns-in_err-add-clause-within
returns-in_err-add-clause-within g c = rw c.in_err-add.ensures.err c.requires.within

pub returns-in_err-add-clause-counted : goal.returns-in_err-add-clause-counted
returns-in_err-add-clause-counted g c = rw c.in_err-add.ensures.err c.requires.counted

pub returns-in_err-add-clause-full : goal.returns-in_err-add-clause-full
returns-in_err-add-clause-full g c = λ n e. memory-no-states n _ (rw e at c.from_residual.ensures.1)

pub returns-clause-grows : goal.returns-clause-grows
returns-clause-grows g c = inr (c.in_ok-add.ensures.pushed, refl)

pub returns-clause-within : goal.returns-clause-within
returns-clause-within g c =
    let items = ap length c.names-count.ensures.items in
    let test = c.if-count-limit.false in
    rw (c.in_ok-add.ensures.pushed, length-append) (omega arith)

pub returns-clause-counted : goal.returns-clause-counted
returns-clause-counted g c =
    let items = ap length c.names-count.ensures.items in
    let test = c.if-count.false in
    rw (c.in_ok-add.ensures.pushed, length-append) (omega arith)

pub returns-clause-ok : goal.returns-clause-ok
returns-clause-ok g c = rw (c.in_ok-add.ensures.pushed, c.in_ok-add.ensures.ok) (slice_get-end (g.N.StateNumbering.named c.args.numbers.now) c.args.state)
