-- The flat cubes of the blocks.
use Rattle.std.proofs.Common.{◌≡◌, ℕ, zero, suc, ◌+◌, ◌*◌, ◌<◌, ◌≤◌, ◌^◌, pos, ◌+ℤ◌, List, [], ◌∷◌, map, slice_get, Bool, true, false, None, Some, if◌then◌else◌, refl, sym, ap, ◌∙◌, subst, arith, ne_eqb}
use Rattle.sv_linear.specs.declared.row.Row.{Row}
use Rattle.sv_linear.specs.declared.row.RowKind.TheVariants.{Eq}
use Rattle.sv_linear.specs.Terms.{coefficient}
use Rattle.literal_forms.specs.Linear.{length_of, less, of_unknown, of_number}
use Rattle.literal_forms.specs.Mirrors.{seen-raw}
use Rattle.literal_forms.specs.Shapes.{Shape}
use Rattle.flat_cubes.specs.Said.{atom_said, is_outside, first_outside}
use Rattle.flat_cubes.specs.Met.{DraftView, nothing_met, add, met}
use Rattle.flat_cubes.specs.Flattening.{IsRowFor, coefficient_at, IsFlatOf, IsFlattening, variables_of, variable_of, definitions_of, ordered, registers_of, integers_of}
use Rattle.flat_cubes.specs.Straight.{IsRowBelow, IsStraight}
use Rattle.flat_cubes.specs.declared.flat.Flat.{Flat}
use Rattle.generated_script.specs.declared.shape.Shape.{Shape as Block}
use Rattle.generated_script.specs.declared.shape.Shape.TheVariants.{Power, Odd, Halves, Escaped}
use Rattle.generated_terms.specs.Terms.{x, first, second}
use Rattle.generated_cubes.specs.Blocks.{literal, literals_of}
use Rattle.generated_cubes.proofs.Numbers.{row_constant, magnitude, below_limit}

-- the row that the first unknown is n
abbrev pub length_row : ℕ → Row
length_row n = record { form = record { coefficients = (0, pos 1) ∷ []; constant = row_constant n; ascending = (omega arith, (omega arith, omega arith)) }; kind = Eq }

abbrev pub rows_of : Block → ℕ → List Row
rows_of Power k = length_row (2 * k) ∷ []
rows_of Odd k = length_row (2 * k + 1) ∷ []
rows_of Halves k = length_row k ∷ []
rows_of Escaped k = []

-- what both assertions say
abbrev pub draft : Block → ℕ → DraftView
draft block k = add (atom_said (second block k) true) (add (atom_said (first block k) true) nothing_met)

abbrev pub flat_of : Block → ℕ → Flat
flat_of block k = record {
  variables = variables_of (draft block k);
  definitions = ordered (definitions_of (draft block k));
  rows = rows_of block k;
  registers = map (λ (r : Shape × ℕ). variable_of (draft block k) r.1) (registers_of (draft block k));
  integers = integers_of (draft block k);
  truths = (draft block k).truths;
  broken = (draft block k).broken;
}

-- none of the assertions is of no written kind
inside : (block : Block) (k : ℕ) → is_outside (atom_said (first block k) true) ≡ false → is_outside (atom_said (second block k) true) ≡ false → first_outside (literals_of block k) ≡ None
inside block k h g =
    (λ i. if is_outside (atom_said (seen-raw (first block k) i) true) then Some (literal (first block k)) else (if is_outside (atom_said (seen-raw (second block k) i) true) then Some (literal (second block k)) else None))
    ∙ (λ i. if h i then Some (literal (first block k)) else (if g i then Some (literal (second block k)) else None))

met_is : (block : Block) (k : ℕ) → met (literals_of block k) ≡ draft block k
met_is block k = λ i. add (atom_said (seen-raw (second block k) i) true) (add (atom_said (seen-raw (first block k) i) true) nothing_met)

row_for : (n : ℕ) → IsRowFor (length_of x ∷ []) (Eq, less (of_unknown (length_of x)) (of_number (pos n))) (length_row n)
row_for n = record { kind = refl; constant = refl; coefficients = coefficients }
  where
    coefficients : (u : ℕ) → coefficient u ((0, pos 1) ∷ []) ≡ coefficient_at (less (of_unknown (length_of x)) (of_number (pos n))) (slice_get (length_of x ∷ []) u)
    coefficients zero = refl
    coefficients (suc u) = ap (λ (b : Bool). (if b then pos 1 else pos 0) +ℤ pos 0) (ne_eqb 0 (suc u) (λ e. omega (arith, e)))

flat_is : (block : Block) (k : ℕ) → IsFlatOf (draft block k) (flat_of block k)
flat_is Power k = record { variables = refl; definitions = refl; complete = refl; rows = (row_for (2 * k), tt); registers = refl; integers = refl; truths = refl; broken = refl }
flat_is Odd k = record { variables = refl; definitions = refl; complete = refl; rows = (row_for (2 * k + 1), tt); registers = refl; integers = refl; truths = refl; broken = refl }
flat_is Halves k = record { variables = refl; definitions = refl; complete = refl; rows = (row_for k, tt); registers = refl; integers = refl; truths = refl; broken = refl }
flat_is Escaped k = record { variables = refl; definitions = refl; complete = refl; rows = tt; registers = refl; integers = refl; truths = refl; broken = refl }

row_below : (n : ℕ) → n ≤ 1000 → IsRowBelow 1 (length_row n)
row_below n h = record { unknowns = (omega arith, tt); constant = subst (λ (m : ℕ). m < 2 ^ 127) (sym (magnitude n)) (below_limit n h); coefficients = (omega arith, tt) }

straight : (block : Block) (k : ℕ) → k ≤ 50 → IsStraight (flat_of block k)
straight Power k h = record { order = tt; registers = (omega arith, tt); rows = (row_below (2 * k) (omega (arith, h)), tt); few_registers = omega arith; few_integers = omega arith }
straight Odd k h = record { order = tt; registers = (omega arith, tt); rows = (row_below (2 * k + 1) (omega (arith, h)), tt); few_registers = omega arith; few_integers = omega arith }
straight Halves k h = record {
  order = (record { defined = omega arith; once = refl; some = omega arith; uses = (omega arith, (omega arith, tt)); apart = (refl, (refl, tt)) }, tt);
  registers = (omega arith, tt);
  rows = (row_below k (omega (arith, h)), tt);
  few_registers = omega arith;
  few_integers = omega arith;
}
straight Escaped k h = record {
  order = (record { defined = omega arith; once = refl; some = omega arith; uses = (omega arith, tt); apart = (refl, tt) }, tt);
  registers = tt;
  rows = tt;
  few_registers = omega arith;
  few_integers = omega arith;
}

none_outside : (block : Block) (k : ℕ) → first_outside (literals_of block k) ≡ None
none_outside Power k = inside Power k refl refl
none_outside Odd k = inside Odd k refl refl
none_outside Halves k = inside Halves k refl refl
none_outside Escaped k = inside Escaped k refl refl

pub flattening : (block : Block) (k : ℕ) → k ≤ 50 → IsFlattening (literals_of block k) (flat_of block k)
flattening block k h = record {
  inside = none_outside block k;
  of = subst (λ (d : DraftView). IsFlatOf d (flat_of block k)) (sym (met_is block k)) (flat_is block k);
  straight = straight block k h;
}
