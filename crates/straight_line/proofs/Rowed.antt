-- Rows over the unknowns that are kept.
use Rattle.std.proofs.Common.{◌≡◌, refl, sym, ap, ◌∙◌, subst, ℕ, zero, suc, ◌<◌, ◌⊎◌, Bool, false, List, [], ◌∷◌, ◌++◌, map, length, get_or, Some, Err, arith}
use Rattle.std.specs.Prelude.{slice_get}
use Rattle.std.specs.List.{AllZip}
use Rattle.std.proofs.lemmas.List.{length-map}
use Rattle.sv_linear.specs.declared.row.Row.{Row}
use Rattle.literal_forms.specs.Linear.{integer, length_of}
use Rattle.literal_forms.specs.Shapes.{Shape}
use Rattle.straight_line.specs.Columns.{AreNumbersWithin, IsRenumberedRow, has_entry}
use Rattle.flat_cubes.specs.Drafted.{unknown_at}
use Rattle.flat_cubes.specs.Flattening.{Bounded, IsRowFor, most_registers}
use Rattle.straight_line.specs.Keeping.{kept_all, nothing_kept}
use Rattle.straight_line.specs.Rowing.{AreRowsExactly, IsNumber, integers_for, registers_for}
use Rattle.flat_cubes.specs.declared.draft.Quantity.{Quantity}
use Rattle.flat_cubes.specs.declared.fault.FlatFault.{FlatFault}
use Rattle.flat_cubes.specs.declared.fault.FlatFault.TheVariants.{Outside, Twice, Cycle, Wide, Memory}
use Rattle.straight_line.specs.declared.keeping.KeptUnknowns.{KeptUnknowns}
use Rattle.straight_line.proofs.Columned.{rows_renumbered}
use Rattle.straight_line.proofs.Finished.{column_same, integers_kept, is_kept, registers_kept}
use Rattle.straight_line.proofs.Keeps.{IsCounted, keeps_counted}
use Rattle.straight_line.proofs.Reached.{kept_reached}

module _ (f : ℕ → ℕ) (qs : List Quantity) (used : List Bool) (k : KeptUnknowns) (is : k ≡ kept_all f qs used nothing_kept) where
  pub counted : IsCounted k
  counted = subst IsCounted (sym is) (keeps_counted f qs used)

  module _ (ts : List Shape) (bs : List Bounded) (rows : List Row) (zip : AllZip (IsRowFor (map (unknown_at ts) qs)) bs rows) (count : length used ≡ length qs) (exact : (u : ℕ) → u < length qs → get_or used u false ≡ has_entry rows u) where
    same_flags : (all rest : List Quantity) (us : List Bool) (n : ℕ) → length us ≡ length rest → ((u : ℕ) (q : Quantity) → slice_get rest u ≡ Some q → get_or us u false ≡ is_kept f ts bs q) → us ≡ map (is_kept f ts bs) rest
    same_flags all [] [] n e h = refl
    same_flags all [] (u ∷ us) n e h = absurd (omega arith)
    same_flags all (q ∷ rest) [] n e h = absurd (omega arith)
    same_flags all (q ∷ rest) (u ∷ us) n e h = ap (λ z. z ∷ us) (h 0 q refl) ∙ ap (λ z. is_kept f ts bs q ∷ z) (same_flags all rest us n (omega arith) (λ v p g. h (suc v) p g))

    mapped : (rest : List Quantity) (u : ℕ) (q : Quantity) → slice_get rest u ≡ Some q → (u < length rest) × (slice_get (map (unknown_at ts) rest) u ≡ Some (unknown_at ts q))
    mapped [] u q e = absurd (cc)
    mapped (p ∷ rest) zero q e = (omega arith, ap Some (ap (unknown_at ts) (let s : p ≡ q = cc in s)))
    mapped (p ∷ rest) (suc u) q e = let r = mapped rest u q e in (let l = r.0 in omega arith, r.1)

    flags : used ≡ map (is_kept f ts bs) qs
    flags = same_flags qs qs used 0 count (λ u q e. let m = mapped qs u q e in exact u m.0 ∙ column_same (map (unknown_at ts) qs) bs rows u (unknown_at ts q) zip m.1)

    kept_is : k ≡ kept_all f qs (map (is_kept f ts bs) qs) nothing_kept
    kept_is = is ∙ ap (λ z. kept_all f qs z nothing_kept) flags

    pub integers_are : k.integers ≡ integers_for bs qs
    integers_are = ap (λ z. z.integers) kept_is ∙ integers_kept f ts bs qs nothing_kept

    pub registers_are : k.registers ≡ map (λ (r : Shape × ℕ). f r.1) (registers_for ts bs qs)
    registers_are = ap (λ z. z.registers) kept_is ∙ registers_kept f ts bs qs nothing_kept

    pub register_count : length k.registers ≡ length (registers_for ts bs qs)
    register_count = ap length registers_are ∙ length-map (registers_for ts bs qs) (λ (r : Shape × ℕ). f r.1)

    pub rows_are : (rows' : List Row) → AllZip (IsRenumberedRow (length k.integers) k.integer_numbers k.register_numbers) rows rows' → AllZip (IsRowFor (map integer (integers_for bs qs) ++ map (λ (r : Shape × ℕ). length_of r.0) (registers_for ts bs qs))) bs rows'
    rows_are rows' g =
        let all = kept_all f qs (map (is_kept f ts bs) qs) nothing_kept in
        let r = kept_reached f ts bs qs in
        let c = subst IsCounted kept_is counted in
        let h = subst (λ z. AllZip (IsRenumberedRow (length z.integers) z.integer_numbers z.register_numbers) rows rows') kept_is g in
        rows_renumbered (map (unknown_at ts) qs) (map integer (integers_for bs qs)) (map (λ (r : Shape × ℕ). length_of r.0) (registers_for ts bs qs)) (kept_all f qs (map (is_kept f ts bs) qs) nothing_kept).integer_numbers (kept_all f qs (map (is_kept f ts bs) qs) nothing_kept).register_numbers c.0.rising c.1.rising
        (subst (λ n. AreNumbersWithin n (kept_all f qs (map (is_kept f ts bs) qs) nothing_kept).integer_numbers) (sym r.integer_count) c.0.within) (subst (λ n. AreNumbersWithin n (kept_all f qs (map (is_kept f ts bs) qs) nothing_kept).register_numbers) (sym r.register_count) c.1.within)
        r.integers r.registers bs rows rows' zip (subst (λ n. AllZip (IsRenumberedRow n (kept_all f qs (map (is_kept f ts bs) qs) nothing_kept).integer_numbers (kept_all f qs (map (is_kept f ts bs) qs) nothing_kept).register_numbers) rows rows') (sym r.integer_count) h)

pub excess_is : (of : List ℕ) (ts : List Shape) (bs : List Bounded) (qs : List Quantity) (n : ℕ) (e : FlatFault) → (n ≡ length (registers_for ts bs qs)) ⊎ (n ≡ length (integers_for bs qs)) → most_registers < n → IsNumber n e → AreRowsExactly of ts bs qs (Err e)
excess_is of ts bs qs n (Outside l) w m h = h
excess_is of ts bs qs n (Twice v) w m h = h
excess_is of ts bs qs n (Cycle vs) w m h = h
excess_is of ts bs qs n (Wide k) w m h = (subst (λ z. (z ≡ length (registers_for ts bs qs)) ⊎ (z ≡ length (integers_for bs qs))) (sym h) w, subst (λ z. most_registers < z) (sym h) m)
excess_is of ts bs qs n (Memory e) w m h = h
