-- A cube that is refused has no flat cube: where definitions stand in order, no variable has two, and
-- there is no cycle.
use Rattle.std.proofs.Common.{◌≡◌, refl, sym, ap, ◌∙◌, subst, Bool, true, false, ℕ, ◌+◌, ◌≤◌, inl, inr, List, [], ◌∷◌, length, Some, None, cond, arith}
use Rattle.std.specs.Prelude.{nat_eq}
use Rattle.std.proofs.lemmas.Bool.{eqb-true}
use Rattle.std.proofs.lemmas.List.{length-map}
use Rattle.flat_cubes.specs.Using.{is_defined}
use Rattle.flat_cubes.specs.Flattening.{IsCycle, IsFlatOf, IsTwice, IsWide, definitions_of, integers_of, ordered, registers_of}
use Rattle.straight_line.specs.Laws.{RefusedHasNone}
use Rattle.flat_cubes.specs.Met.{DraftView, met}
use Rattle.flat_cubes.specs.Straight.{InOrder, IsStraight, StandsBefore}
use Rattle.flat_cubes.specs.declared.definition.Definition.{Definition}
use Rattle.flat_cubes.specs.declared.fault.FlatFault.TheVariants.{Outside, Twice, Cycle, Wide, Memory}
use Rattle.flat_cubes.specs.declared.flat.Flat.{Flat}
use Rattle.straight_line.proofs.Acyclic.{acyclic}
use Rattle.straight_line.proofs.Taking.{defined_none, defines, taken_counts}
use Rattle.straight_line.proofs.Traced.{passing, passing_is}

-- where definitions stand in order, a variable has one at most
at_most_one : (n v : ℕ) (ds : List Definition) → InOrder n ds → passing (defines v) ds ≤ 1
at_most_one n v [] o = omega arith
at_most_one n v (d ∷ ds) o = by_test n v d ds o.0 (nat_eq d.variable v) refl (at_most_one n v ds o.1)
  where
    by_test : (n v : ℕ) (d : Definition) (ds : List Definition) → StandsBefore n d ds → (b : Bool) → nat_eq d.variable v ≡ b → passing (defines v) ds ≤ 1 → cond b (1 + passing (defines v) ds) (passing (defines v) ds) ≤ 1
    by_test n v d ds s true e h = let z = defined_none v ds (subst (λ x. is_defined ds x ≡ false) (eqb-true d.variable v e) s.once) in omega arith
    by_test n v d ds s false e h = h

module _ (d : DraftView) (flat : Flat) (f : IsFlatOf d flat) (s : IsStraight flat) where
  complete : length (ordered (definitions_of d)) ≡ length (definitions_of d)
  complete = ap length (sym f.definitions) ∙ f.complete

  none_twice : (v : ℕ) → IsTwice (definitions_of d) v → ⊥
  none_twice v t =
      let a = at_most_one (length flat.variables) v flat.definitions s.order in
      let e : passing (defines v) flat.definitions ≡ passing (defines v) (definitions_of d) = ap (passing (defines v)) f.definitions ∙ taken_counts (defines v) (length (definitions_of d)) (definitions_of d) complete in
      let k = passing_is (defines v) (definitions_of d) in
      omega arith

  none_cyclic : (vs : List ℕ) → IsCycle (definitions_of d) vs → ⊥
  none_cyclic vs c = acyclic (length flat.variables) (definitions_of d) complete (subst (InOrder (length flat.variables)) f.definitions s.order) vs c

  not_wide : (n : ℕ) → IsWide d n → ⊥
  not_wide n w = elim w.0 [
    | inl e ↦ let r = s.few_registers in let l : length flat.registers ≡ length (registers_of d) = ap length f.registers ∙ length-map (registers_of d) _ in let m = w.1 in omega arith
    | inr e ↦ let r = s.few_integers in let l : length flat.integers ≡ length (integers_of d) = ap length f.integers in let m = w.1 in omega arith
  ]

pub refused_none : RefusedHasNone
refused_none ls (Outside l) r h k = let e : Some l ≡ None = sym h ∙ k.flattening.inside in absurd (cc)
refused_none ls (Twice v) r h k = none_twice (met ls) k.flat k.flattening.of k.flattening.straight v h.1
refused_none ls (Cycle vs) r h k = none_cyclic (met ls) k.flat k.flattening.of k.flattening.straight vs h.2
refused_none ls (Wide n) r h k = not_wide (met ls) k.flat k.flattening.of k.flattening.straight n h.3
refused_none ls (Memory e) r h k = r
