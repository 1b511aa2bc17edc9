use Rattle.std.proofs.Common.{◌≡◌, ◌++◌, length, ap, sym, ◌∙◌, subst}
use Rattle.std.specs.List.{flat_map}
use Rattle.lia_tableau.specs.declared.table.Table.{Table}
use Rattle.lia_pack.specs.Numbers.{Say, AreWritten}
use Rattle.lia_pack.specs.Tables.{row_numbers, standing_numbers}
use Rattle.lia_pack.proofs.Unpacking.{say_written}
use Rattle.lia_pack.proofs.Written.{written_both}
use Rattle.lia_pack.proofs.packed.PackedTableau.of.Goals as goal

pub returns : goal.returns
returns c =
    let t = c.args.tableau.now in
    let e : c.table-table.result.now ≡ t = c.table-table.ensures in
    let empty = c.new-bytes.result in
    let rows = c.push_rows.new.bytes in
    let lines = c.push_lines.new.bytes in
    let first : AreWritten empty rows (flat_map row_numbers t.rows) = subst (λ rs. AreWritten empty rows (flat_map row_numbers rs)) (c.as_slice.ensures ∙ ap (λ (z : Table). z.rows) e) c.in_ok-push_rows.ensures in
    let second : AreWritten rows lines (flat_map standing_numbers t.lines) = subst (λ ls. AreWritten rows lines (flat_map standing_numbers ls)) (c.as_slice-2.ensures ∙ ap (λ (z : Table). z.lines) e) c.in_ok-push_lines.ensures in
    let whole = say_written empty lines (flat_map row_numbers t.rows ++ flat_map standing_numbers t.lines) c.new-bytes.ensures (written_both empty rows lines (flat_map row_numbers t.rows) (flat_map standing_numbers t.lines) first second) in
    record {
      unknowns = ap (λ (z : Table). z.unknowns) e;
      pivots = ap (λ (z : Table). z.pivots) e;
      count = c.len.ensures ∙ ap (λ (z : Table). length z.rows) e;
      say = subst (λ bytes. Say bytes (flat_map row_numbers t.rows ++ flat_map standing_numbers t.lines)) (sym c.in_ok-of.ensures) whole;
    }
