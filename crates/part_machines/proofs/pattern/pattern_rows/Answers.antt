use Rattle.std.proofs.Common.{refl, ap, map, ◌++◌, ◌∷◌, [], ◌∙◌}
use Rattle.std.proofs.lemmas.List.{take_all}
use Rattle.part_machines.specs.Patterns.{spread_row}
use Rattle.part_machines.specs.declared.table.TableRow.{TableRow}
use Rattle.part_machines.proofs.PriceLemmas.{made-more}
use Rattle.part_machines.proofs.PatternLemmas.{row-ascends, rows-formed, rows-made}
use Rattle.part_machines.proofs.pattern.pattern_rows.Goals as goal

pub spread_row-requires : goal.spread_row-requires
spread_row-requires c = row-ascends c.args.pattern.now c.in_ok-automaton.automaton.rows c.as_slice-row-items.result.now c.loop-row.row-index c.row-item.result c.as_slice.result.now c.as_slice-row-items.ensures c.in_ok-automaton.ensures.rows c.loop-row-test.true c.row-item.is c.as_slice.ensures

pub returns-clause-rows : goal.returns-clause-rows
returns-clause-rows c =
    let last = c.in_ok-last.last in
    rows-made c.args.stays c.args.pattern.now c.in_ok-automaton.automaton.rows last c.push-2.new.self c.in_ok-automaton.ensures.length c.in_ok-automaton.ensures.rows c.in_ok-last.ensures.next
    (c.in_ok-push-2.ensures.ok ∙ ap (λ l. l ++ last ∷ []) (c.loop-row.invariant ∙ ap (map spread_row) (take_all c.loop-row.row-index c.as_slice-row-items.result.now c.loop-row-test.false ∙ c.as_slice-row-items.ensures)))

pub returns-clause-formed : goal.returns-clause-formed
returns-clause-formed c =
    let last = c.in_ok-last.last in
    rows-formed c.args.pattern.now c.in_ok-automaton.automaton.rows last c.push-2.new.self c.in_ok-automaton.ensures.rows c.in_ok-last.ensures.formed
    (c.in_ok-push-2.ensures.ok ∙ ap (λ l. l ++ last ∷ []) (c.loop-row.invariant ∙ ap (map spread_row) (take_all c.loop-row.row-index c.as_slice-row-items.result.now c.loop-row-test.false ∙ c.as_slice-row-items.ensures)))

pub loop-row-preserved : goal.loop-row-preserved
loop-row-preserved c =
    let items = c.as_slice-row-items.result.now in
    made-more spread_row items items c.loop-row.rows c.push.new.self c.loop-row.row-index c.row-item.result refl c.loop-row-test.true c.row-item.is c.loop-row.invariant
    (c.in_ok-push.ensures.ok ∙ ap (λ (r : TableRow). c.loop-row.rows ++ r ∷ []) (c.in_ok-spread.ensures.row ∙ ap spread_row c.as_slice.ensures))
