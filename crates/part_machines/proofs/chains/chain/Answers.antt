use Rattle.std.proofs.Common.{arith, ap, length, ℕ, Bool, if◌then◌else◌, slice_get, ◌+◌, sym, ◌∙◌}
use Rattle.sv_list.specs.Lists.{IfOk-both}
use Rattle.part_machines.proofs.ChainLemmas.{chain-decides, chain-formed, chain-length}
use Rattle.part_machines.proofs.chains.chain.Goals as goal
use Rattle.part_machines.proofs.chains.chain.Goals.{then-holds, else-holds}

pub table_machine-requires-clause-some : goal.table_machine-requires-clause-some
table_machine-requires-clause-some c = elim c.if-holds.branch [ then-holds w ↦ (let e = w.states-is in omega (arith, e)) | else-holds w ↦ (let e = w.states-is in omega (arith, e)) ]

pub table_machine-requires-clause-rows : goal.table_machine-requires-clause-rows
table_machine-requires-clause-rows c =
    let size = ap length (c.as_slice.ensures ∙ c.in_ok-rows.ensures) ∙ chain-length c.args.ranges.now c.args.longer (length c.args.ranges.now + 1) 0 in
    elim c.if-holds.branch [ then-holds w ↦ (let e = w.states-is in omega (arith, e, size)) | else-holds w ↦ (let e = w.states-is in omega (arith, e, size)) ]

pub table_machine-requires-clause-formed : goal.table_machine-requires-clause-formed
table_machine-requires-clause-formed c = λ s row e.
    chain-formed c.args.ranges.now c.args.longer (length c.args.ranges.now + 1) 0 c.requires.ranges s row (ap (λ l. slice_get l s) (sym (c.as_slice.ensures ∙ c.in_ok-rows.ensures)) ∙ e)

pub returns : goal.returns
returns c =
    let bound : Bool → ℕ = λ b. length c.args.ranges.now + (if b then 1 else 2) in
    IfOk-both c.table_machine.result _ _ _ c.table_machine.ensures.states c.table_machine.ensures.table
    (λ m. chain-decides c.args.ranges.now c.args.longer c.args.holds c.as_slice.result.now c.if-holds.states m (c.as_slice.ensures ∙ c.in_ok-rows.ensures)
    (elim c.if-holds.branch [ then-holds w ↦ w.states-is ∙ ap bound (sym w.if-holds.true) | else-holds w ↦ w.states-is ∙ ap bound (sym w.if-holds.false) ]))
