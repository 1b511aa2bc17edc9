-- On each block an answer is owed.
use Rattle.std.proofs.Common.{ℕ, zero, suc, ◌≤◌, List, [], ◌∷◌, All, inl, sym, subst, arith}
use Rattle.bool_cubes.specs.Cubes.{cube, cubes_of}
use Rattle.bool_cubes.specs.Past.{HasNoPast}
use Rattle.bool_cubes.specs.Refusing.{count_of, most_cubes}
use Rattle.cube_search.specs.Limits.{MustDecideFlat}
use Rattle.decide.specs.Completeness.{MustDecide, MustDecideCube}
use Rattle.generated_cubes.specs.Blocks.{IsSmallBlock, literals_of}
use Rattle.generated_cubes.proofs.Cubes.{counted_one, one_cube}
use Rattle.generated_cubes.proofs.Small.{small_block}
use Rattle.generated_cubes.proofs.Steps.{no_past}
use Rattle.generated_script.specs.declared.shape.Shape.{Shape as Block}
use Rattle.generated_terms.specs.Terms.{terms_of}
use Rattle.generated_terms.proofs.Answered.{clear}
use Rattle.literal_forms.specs.declared.literal.Cube.{Cube}
use Rattle.sv_terms.specs.declared.term.Term.{Term}

one_all : {X : Type 0} (P : X → Type 0) (a : X) → P a → All P (a ∷ [])
one_all P a h zero d l = h
one_all P a h (suc n) d l = absurd (omega (arith, l))

within : (block : Block) (k : ℕ) (is : IsSmallBlock block k) → MustDecideFlat is.flat
within block k is = record { few_states = omega (arith, is.few_states); few_splits = omega (arith, is.no_splits); search = inl is.small }

one_must : (block : Block) (k : ℕ) → k ≤ 50 → MustDecideCube (cube (literals_of block k))
one_must block k h = let is = small_block block k h in (is.flat, is.flattening, within block k is)

-- of the terms themselves, of which none is left out
record IsOwed (terms : List Term) : Type 0 where
  few : count_of terms ≤ most_cubes
  fits : HasNoPast terms
  each : All MustDecideCube (cubes_of terms)

owed : (block : Block) (k : ℕ) → k ≤ 50 → IsOwed (terms_of block k)
owed block k h = record {
  few = omega (arith, counted_one block k);
  fits = no_past block k h;
  each = subst (λ (cs : List Cube). All MustDecideCube cs) (sym (one_cube block k)) (one_all MustDecideCube (cube (literals_of block k)) (one_must block k h));
}

pub must_decide : (block : Block) (k : ℕ) → k ≤ 50 → MustDecide (terms_of block k)
must_decide block k h = let o = subst IsOwed (sym (clear block k)) (owed block k h) in record { few = o.few; fits = o.fits; each = o.each }
