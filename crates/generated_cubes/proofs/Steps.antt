-- No step of a block's linear forms leaves 128 bits.
use Rattle.std.proofs.Common.{◌≡◌, ℕ, ◌+◌, ◌*◌, ◌≤◌, ℤ, pos, negsuc, neg_ℤ, ◌+ℤ◌, ◌*ℤ◌, ◌≤ℤ◌, List, [], ◌∷◌, ◌++◌, Bool, true, false, if◌then◌else◌, inl, inr, FitsSigned, sym, ap, ◌∙◌, subst, arith}
use Rattle.std.specs.Int.{w128}
use Rattle.std.proofs.lemmas.Int.{ints}
use Rattle.bool_cubes.specs.Past.{HasNoPast, tree_steps}
use Rattle.generated_script.specs.declared.shape.Shape.{Shape as Block}
use Rattle.generated_script.specs.declared.shape.Shape.TheVariants.{Power, Odd, Halves, Escaped}
use Rattle.generated_terms.specs.Terms.{x, first, second, terms_of}
use Rattle.generated_cubes.proofs.Cubes.{tree, tree_is}
use Rattle.literal_forms.specs.Linear.{Linear, Unknown, Step, Place, at_unknown, at_constant, addition, scaling, entry_at, of_number, of_unknown, length_of, scaled, less, minus_one, same_unknown}
use Rattle.literal_forms.specs.Literals.{SomeOf}
use Rattle.literal_forms.specs.Mirrors.{seen-raw}
use Rattle.literal_forms.specs.Past.{IsPast, ArePlain, atom_steps}

-- a number from -1000 to 1000
pub record IsLittle (z : ℤ) : Type 0 where
  pub least : neg_ℤ (pos 1000) ≤ℤ z
  pub most : z ≤ℤ pos 1000

-- a number from -2000 to 2000 is one of 128 bits
fits : (z : ℤ) → neg_ℤ (pos 2000) ≤ℤ z → z ≤ℤ pos 2000 → FitsSigned w128 z
fits (pos n) h g = record { sfits = omega (arith, ints, g) }
fits (negsuc n) h g = record { sfits = omega (arith, ints, h) }

sum_fits : (z w : ℤ) → IsLittle z → IsLittle w → FitsSigned w128 (z +ℤ w)
sum_fits z w h g = fits (z +ℤ w) (omega (arith, ints, h, g)) (omega (arith, ints, h, g))

negative_fits : (z : ℤ) → IsLittle z → FitsSigned w128 (z *ℤ minus_one)
negative_fits z h = fits (z *ℤ minus_one) (omega (arith, ints, h)) (omega (arith, ints, h))

-- each entry is little
abbrev AreLittle : Linear → Type 0
AreLittle a = (c : Place) → IsLittle (entry_at c a)

addition_plain : (a b : Linear) → AreLittle a → AreLittle b → (l r : ℤ) → IsPast l r (addition a b) → ⊥
addition_plain a b h g l r p = p.1 (subst (FitsSigned w128) (λ i. sym p.0.1 i +ℤ sym p.0.2 i) (sum_fits (entry_at p.0.0 a) (entry_at p.0.0 b) (h p.0.0) (g p.0.0)))

scaling_plain : (a : Linear) → AreLittle a → (l r : ℤ) → IsPast l r (scaling a minus_one) → ⊥
scaling_plain a h l r p = p.1 (subst (FitsSigned w128) (λ i. sym p.0.1 i *ℤ sym p.0.2 i) (negative_fits (entry_at p.0.0 a) (h p.0.0)))

number_little : (n : ℕ) → n ≤ 1000 → AreLittle (of_number (pos n))
number_little n h (at_unknown u) = record { least = omega (arith, ints); most = omega (arith, ints) }
number_little n h at_constant = record { least = omega (arith, ints, h); most = omega (arith, ints, h) }

negative_little : (n : ℕ) → n ≤ 1000 → AreLittle (scaled (of_number (pos n)) minus_one)
negative_little n h (at_unknown u) = record { least = omega (arith, ints); most = omega (arith, ints) }
negative_little n h at_constant = record { least = omega (arith, ints, h); most = omega (arith, ints, h) }

picked : (b : Bool) → IsLittle ((if b then pos 1 else pos 0) +ℤ pos 0)
picked true = record { least = omega (arith, ints); most = omega (arith, ints) }
picked false = record { least = omega (arith, ints); most = omega (arith, ints) }

unknown_little : (u : Unknown) → AreLittle (of_unknown u)
unknown_little u (at_unknown w) = picked (same_unknown u w)
unknown_little u at_constant = record { least = omega (arith, ints); most = omega (arith, ints) }

less_little : (u : Unknown) (n : ℕ) → n ≤ 1000 → AreLittle (less (of_unknown u) (of_number (pos n)))
less_little u n h (at_unknown w) = picked (same_unknown u w)
less_little u n h at_constant = record { least = omega (arith, ints, h); most = omega (arith, ints, h) }

-- the steps of an equality of a length and a number
abbrev length_steps : ℕ → List Step
length_steps n = scaling (of_number (pos n)) minus_one ∷ addition (of_unknown (length_of x)) (scaled (of_number (pos n)) minus_one) ∷ scaling (less (of_unknown (length_of x)) (of_number (pos n))) minus_one ∷ []

length_plain : (n : ℕ) → n ≤ 1000 → ArePlain (length_steps n)
length_plain n h l r (inl p) = scaling_plain (of_number (pos n)) (number_little n h) l r p
length_plain n h l r (inr (inl p)) = addition_plain (of_unknown (length_of x)) (scaled (of_number (pos n)) minus_one) (unknown_little (length_of x)) (negative_little n h) l r p
length_plain n h l r (inr (inr (inl p))) = scaling_plain (less (of_unknown (length_of x)) (of_number (pos n))) (less_little (length_of x) n h) l r p
length_plain n h l r (inr (inr (inr p))) = absurd p

nothing_plain : ArePlain []
nothing_plain l r p = absurd p

-- the steps of a block
abbrev steps_of : Block → ℕ → List Step
steps_of Power k = length_steps (2 * k)
steps_of Odd k = length_steps (2 * k + 1)
steps_of Halves k = length_steps k
steps_of Escaped k = []

steps_are : (block : Block) (k : ℕ) → tree_steps (tree block k) ≡ steps_of block k
steps_are Power k = λ i. atom_steps (seen-raw (first Power k) i) ++ ((atom_steps (seen-raw (second Power k) i) ++ []) ++ [])
steps_are Odd k = λ i. atom_steps (seen-raw (first Odd k) i) ++ ((atom_steps (seen-raw (second Odd k) i) ++ []) ++ [])
steps_are Halves k = λ i. (atom_steps (seen-raw (first Halves k) i) ++ []) ++ ((atom_steps (seen-raw (second Halves k) i) ++ []) ++ [])
steps_are Escaped k = λ i. (atom_steps (seen-raw (first Escaped k) i) ++ []) ++ (atom_steps (seen-raw (second Escaped k) i) ++ [])

block_plain : (block : Block) (k : ℕ) → k ≤ 50 → ArePlain (steps_of block k)
block_plain Power k h = length_plain (2 * k) (omega (arith, h))
block_plain Odd k h = length_plain (2 * k + 1) (omega (arith, h))
block_plain Halves k h = length_plain k (omega (arith, h))
block_plain Escaped k h = nothing_plain

pub no_past : (block : Block) (k : ℕ) → k ≤ 50 → HasNoPast (terms_of block k)
no_past block k h l r p = block_plain block k h l r (subst (λ (ss : List Step). SomeOf (IsPast l r) ss) (ap tree_steps (tree_is block k) ∙ steps_are block k) p)
