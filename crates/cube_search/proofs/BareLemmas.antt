-- A flat cube without rows has no registers.
use Rattle.std.proofs.Common.{◌≡◌, ℕ, List, [], ◌∷◌, map, filter, refl, ap, ◌∙◌, subst}
use Rattle.std.specs.List.{AllZip}
use Rattle.sv_linear.specs.declared.row.Row.{Row}
use Rattle.literal_forms.specs.Linear.{Unknown, length_of}
use Rattle.literal_forms.specs.Shapes.{Shape}
use Rattle.flat_cubes.specs.Flattening.{Bounded, IsFlatOf, IsRowFor, all_bounded, has_column, registers_of, unknowns_of, variable_of}
use Rattle.flat_cubes.specs.Met.{DraftView}
use Rattle.flat_cubes.specs.declared.flat.Flat.{Flat}

no-forms : (us : List Unknown) (bs : List Bounded) (rows : List Row) → rows ≡ [] → AllZip (IsRowFor us) bs rows → bs ≡ []
no-forms us [] rows e z = refl
no-forms us (b ∷ bs) rows e z = absurd (subst (AllZip (IsRowFor us) (b ∷ bs)) e z)

no-columns : (rs : List (Shape × ℕ)) → filter (λ (r : Shape × ℕ). has_column [] (length_of r.0)) rs ≡ []
no-columns [] = refl
no-columns (r ∷ rs) = no-columns rs

pub bare : (d : DraftView) (flat : Flat) → IsFlatOf d flat → flat.rows ≡ [] → flat.registers ≡ []
bare d flat of e =
    let none = no-forms (unknowns_of d) (all_bounded d) flat.rows e of.rows in
    let empty : registers_of d ≡ [] = ap (λ bs. filter (λ (r : Shape × ℕ). has_column bs (length_of r.0)) d.registers) none ∙ no-columns d.registers in
    of.registers ∙ ap (map (λ (r : Shape × ℕ). variable_of d r.1)) empty
