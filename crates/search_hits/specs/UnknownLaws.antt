-- Unknowns that ascend below a number are below it.
use Rattle.std.specs.Prelude.{ℕ, zero, suc, ℤ, ◌+◌, ◌<◌, ◌≤◌, List, [], ◌∷◌, All}
use Rattle.std.proofs.Common.{refl, arith}
use Rattle.std.proofs.lemmas.List.Elements.{All-nil, All-cons}
use Rattle.sv_linear.specs.Terms.{AscendsWithin}
use Rattle.sv_linear.specs.Rows.{NameUnknowns}
use Rattle.sv_linear.specs.declared.row.Row.{Row}
use Rattle.search_hits.specs.Boxes.{HaveSides}

room : (low n : ℕ) (ts : List (ℕ × ℤ)) → AscendsWithin low n ts → low ≤ n
room low n [] h = h
room low n (t ∷ ts) h = let b = room (t.0 + 1) n ts h.1.1 in let a = h.0 in omega arith

pub terms-below : (low n : ℕ) (ts : List (ℕ × ℤ)) → AscendsWithin low n ts → All (λ (t : ℕ × ℤ). t.0 < n) ts
terms-below low n [] h = All-nil (λ (t : ℕ × ℤ). t.0 < n)
terms-below low n (t ∷ ts) h = All-cons (λ (t : ℕ × ℤ). t.0 < n) t ts (let b = room (t.0 + 1) n ts h.1.1 in omega arith) (terms-below (t.0 + 1) n ts h.1.1)

pub have-sides : (n : ℕ) (rows : List Row) → NameUnknowns n rows → HaveSides n rows
have-sides n [] h = All-nil (λ (r : Row). All (λ (t : ℕ × ℤ). t.0 < n) r.form.coefficients)
have-sides n (r ∷ rows) h =
    All-cons (λ (r : Row). All (λ (t : ℕ × ℤ). t.0 < n) r.form.coefficients) r rows (terms-below 0 n r.form.coefficients (h zero r refl)) (have-sides n rows (λ i. h (suc i)))
