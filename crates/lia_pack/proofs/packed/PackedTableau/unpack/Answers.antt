use Rattle.std.proofs.Common.{◌≡◌, ◌∙◌, subst}
use Rattle.std.specs.Prelude.{IfOk}
use Rattle.lia_tableau.specs.declared.table.Table.{Table}
use Rattle.lia_pack.proofs.Unpacking.{both_read, table_is, is_counted, is_tableau}
use Rattle.lia_pack.proofs.packed.PackedTableau.unpack.Goals as goal

pub invariant_of-table : goal.invariant_of-table
invariant_of-table c =
    let t = c.requires.0 in
    let p = c.requires.1 in
    let w = both_read t c.args.self.now c.as_slice.result.now c.next_rows.new.reader.left.now c.next_lines.new.reader.left.now c.in_ok-rows.rows c.in_ok-lines.lines (c.as_slice.ensures ∙ c.in_ok-bytes.ensures) p c.in_ok-rows.ensures c.in_ok-lines.ensures in
    record {
      counted = is_counted t c.in_ok-lines.lines w.1;
      tableau = is_tableau t c.args.self.now.unknowns c.in_ok-rows.rows c.in_ok-lines.lines p.unknowns w.0 w.1;
    }

pub returns : goal.returns
returns c = λ t p.
    let w = both_read t c.args.self.now c.as_slice.result.now c.next_rows.new.reader.left.now c.next_lines.new.reader.left.now c.in_ok-rows.rows c.in_ok-lines.lines (c.as_slice.ensures ∙ c.in_ok-bytes.ensures) p c.in_ok-rows.ensures c.in_ok-lines.ensures in
    subst (λ (z : Table). IfOk c.of_table.result (λ r. r ≡ z)) (table_is t c.args.self.now.unknowns c.in_ok-rows.rows c.in_ok-lines.lines c.args.self.now.pivots _ _ p.unknowns w.0 w.1 p.pivots) c.of_table.ensures
