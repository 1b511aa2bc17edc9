use Rattle.std.proofs.Common.{◌≡◌, ◌∙◌, ◌+◌, ◌-◌, ◌++◌, List, map, ap, subst, arith}
use Rattle.std.proofs.lemmas.Result.{IfOk-weaker}
use Rattle.std.specs.List.{range_with_len}
use Rattle.sv_linear.specs.declared.row.Row.{Row}
use Rattle.parikh_flow.specs.Rows.{unknowns_after, register_row, not_negative_row, family_rows, reach_rows, run_rows, AreSameRows}
use Rattle.parikh_flow.proofs.FormLemmas.{after-most}
use Rattle.parikh_flow.proofs.RowLemmas.{four-rows}
use Rattle.parikh_flow.proofs.building.append_run_rows.Goals as goal

pub not_negative_rows-requires : goal.not_negative_rows-requires
not_negative_rows-requires c =
    let most = after-most (c.args.integers + c.args.registers) c.args.machines.now in
    let all = c.requires.unknowns in
    omega arith

pub returns-clause-rows : goal.returns-clause-rows
returns-clause-rows c =
    let base = c.args.integers + c.args.registers in
    let two = subst (λ n. AreSameRows c.in_ok-not_negative_rows.field-0 (map not_negative_row (range_with_len c.args.integers (n - c.args.integers)))) c.requires.unknowns c.in_ok-not_negative_rows.ensures in
    IfOk-weaker c.append-4.result (λ _. c.append-4.new.self ≡ c.append-3.new.self ++ c.in_ok-reach_rows.field-0)
    (λ _. (more : List Row) × (c.append-4.new.self ≡ c.args.all.now ++ more) × AreSameRows more (run_rows c.args.machines.now c.args.integers c.args.registers c.args.reach))
    (λ _ listed. four-rows c.args.all.now c.append-4.new.self c.in_ok-register_rows.field-0 c.in_ok-not_negative_rows.field-0 c.in_ok-family_rows.field-0 c.in_ok-reach_rows.field-0
    (map (register_row c.args.integers base c.args.machines.now) (range_with_len 0 c.args.registers)) (map not_negative_row (range_with_len c.args.integers (unknowns_after base c.args.machines.now - c.args.integers)))
    (family_rows base c.args.machines.now) (reach_rows base c.args.machines.now c.args.reach)
    (listed ∙ ap (λ l. l ++ c.in_ok-reach_rows.field-0) (c.in_ok-append-3.ensures.ok ∙ ap (λ l. l ++ c.in_ok-family_rows.field-0)
    (c.in_ok-append-2.ensures.ok ∙ ap (λ l. l ++ c.in_ok-not_negative_rows.field-0) c.in_ok-append.ensures.ok)))
    c.in_ok-register_rows.ensures.rows two c.in_ok-family_rows.ensures c.in_ok-reach_rows.ensures.rows)
    c.append-4.ensures.ok

pub returns-clause-fit : goal.returns-clause-fit
returns-clause-fit c = IfOk-weaker c.append-4.result _ _ (λ _ _. c.in_ok-register_rows.ensures.fit) c.append-4.ensures.ok

pub returns-clause-fits : goal.returns-clause-fits
returns-clause-fits c = IfOk-weaker c.append-4.result _ _ (λ _ _. c.in_ok-reach_rows.ensures.fits) c.append-4.ensures.ok
