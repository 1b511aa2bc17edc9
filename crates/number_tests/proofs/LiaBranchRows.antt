-- Rows that are looked at one by one, as the tests look at them.
use Rattle.std.proofs.Common.{◌≡◌, ℕ, ◌+◌, ◌<◌, ◌≤◌, List, slice_get, get_or, Some, ⊎_elim, ap, ◌∙◌, subst, arith}
use Rattle.std.proofs.lemmas.Bool.{cases_lt}
use Rattle.std.proofs.lemmas.Option.{get_or_from_slice_get}
use Rattle.sv_linear.specs.declared.row.Row.{Row}

-- rows that are looked at one by one
pub each_more : (P : Row → Type 0) (items : List Row) (i : ℕ) (row : Row) → row ≡ get_or items i row → ((j : ℕ) (r : Row) → j < i → slice_get items j ≡ Some r → P r) → P row → (j : ℕ) (r : Row) → j < i + 1 → slice_get items j ≡ Some r → P r
each_more P items i row is before met j r low g = ⊎_elim (λ l. before j r l g) last (cases_lt j i)
  where
    last : i ≤ j → P r
    last high =
        let at : i ≡ j = omega arith in
        subst P (is ∙ ap (λ n. get_or items n row) at ∙ get_or_from_slice_get items j r row g) met
