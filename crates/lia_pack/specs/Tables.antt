-- A table as numbers.
use Rattle.std.specs.Prelude.{◌≡◌, ℕ, ℤ, List, [], ◌∷◌, ◌++◌, length}
use Rattle.std.specs.List.{flat_map}
use Rattle.sv_linear.specs.declared.row.Row.{Row}
use Rattle.sv_linear.specs.declared.row.RowKind.{RowKind}
use Rattle.sv_linear.specs.declared.row.RowKind.TheVariants.{Le, Eq}
use Rattle.lia_tableau.specs.declared.standing.Standing.{Standing}
use Rattle.lia_tableau.specs.declared.standing.Standing.TheVariants.{Outside, Basic}
use Rattle.lia_tableau.specs.declared.table.Table.{Table}
use Rattle.lia_pack.specs.Numbers.{Say, folded}
use Rattle.lia_pack.specs.Shares.{bytes_of}
use Rattle.lia_pack.specs.declared.packed.PackedTableau.{PackedTableau}

abbrev pub kind_number : RowKind → ℕ
kind_number Le = 1
kind_number Eq = 2

abbrev pub term_numbers : ℕ × ℤ → List ℕ
term_numbers t = t.0 ∷ folded t.1 ∷ []

-- a row behind its kind
abbrev pub form_numbers : Row → List ℕ
form_numbers r = length r.form.coefficients ∷ folded r.form.constant ∷ flat_map term_numbers r.form.coefficients

abbrev pub row_numbers : Row → List ℕ
row_numbers r = kind_number r.kind ∷ form_numbers r

abbrev pub standing_numbers : Standing → List ℕ
standing_numbers Outside = 0 ∷ []
standing_numbers (Basic r) = row_numbers r

pub record IsPackedOf (t : Table) (p : PackedTableau) : Type 0 where
  pub unknowns : p.unknowns ≡ t.unknowns
  pub pivots : p.pivots ≡ t.pivots
  pub count : p.row_count ≡ length t.rows
  pub say : Say (bytes_of p.bytes) (flat_map row_numbers t.rows ++ flat_map standing_numbers t.lines)
