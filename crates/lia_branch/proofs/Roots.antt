-- The root of a system, and what is found there.
use Rattle.std.proofs.Common.{◌≡◌, ℕ, zero, suc, ◌<◌, ℤ, List, [], ◌∷◌, length, map, slice_get, get_or, Some, refl, ap, sym, ◌∙◌, subst, arith}
use Rattle.std.specs.Prelude.{All}
use Rattle.std.proofs.lemmas.List.Elements.{All-from_get_or}
use Rattle.sv_linear.specs.declared.row.Row.{Row}
use Rattle.farkas_check.specs.Systems.{Constraint, no_constraint, constraint_of, rows_of, Meets}
use Rattle.farkas_check.specs.Cuts.{IsNetWithin}
use Rattle.farkas_check.specs.declared.system.System.{System}
use Rattle.farkas_check.proofs.LeafSums.{rows_size}
use Rattle.lia_tableau.specs.Bases.{IsSlackBasis}
use Rattle.lia_tableau.specs.declared.table.Table.{Table}
use Rattle.lia_branch.specs.Nodes.{IsRowOf, IsFirstBasis, root_of}
use Rattle.lia_branch.specs.Founds.{IsReadyTableau, IsSystemNode}
use Rattle.lia_branch.specs.EvidenceHolds.{split_limit}
use Rattle.lia_branch.specs.Forks.{top, IsSearching}
use Rattle.lia_branch.specs.Outcomes.{CountsEdges}
use Rattle.sv_linear.specs.Rows.{IsRowWithin}

row_of_itself : (r : Row) → IsRowOf (constraint_of r) r
row_of_itself r = record { value = λ x. refl; constant = refl; kind = refl }

pub each : (rows : List Row) (i : ℕ) (c : Constraint) (r : Row) → slice_get (map constraint_of rows) i ≡ Some c → slice_get rows i ≡ Some r → IsRowOf c r
each [] i c r e f = absurd (cc)
each (x ∷ xs) zero c r e f =
    let a : constraint_of x ≡ c = cc in
    let b : x ≡ r = cc in
    subst (λ (k : Constraint). IsRowOf k r) (sym (ap constraint_of b) ∙ a) (row_of_itself r)
each (x ∷ xs) (suc i) c r e f = each xs i c r e f

pub root_node : (s : System) → IsSystemNode s s.rows (root_of s)
root_node s = record { unknowns = refl; nets = refl; rows_of = record { size = rows_size s.rows; each = each s.rows } }

meets_at : (x : ℕ → ℤ) (rows : List Row) → ((i : ℕ) (r : Row) → slice_get rows i ≡ Some r → Meets x (constraint_of r)) → (i : ℕ) → i < length (map constraint_of rows) → Meets x (get_or (map constraint_of rows) i no_constraint)
meets_at x [] h i w = absurd (omega arith)
meets_at x (r ∷ rs) h zero w = h zero r refl
meets_at x (r ∷ rs) h (suc i) w = meets_at x rs (λ k y e. h (suc k) y e) i (omega arith)

pub root_ready : (s : System) (t : Table) → t.unknowns ≡ s.unknowns → t.rows ≡ s.rows → ((i : ℕ) (r : Row) → slice_get s.rows i ≡ Some r → IsRowWithin s.unknowns r) → All (IsNetWithin s.unknowns) s.nets → CountsEdges s → IsReadyTableau s s.rows t
root_ready s t n r w nets c = record {
  unknowns = n;
  same_rows = r;
  within = w;
  nets = nets;
  counts = λ x h. c x (All-from_get_or (Meets x) (rows_of s) no_constraint (meets_at x s.rows h));
}

pub root_begins : (s : System) (t : Table) → t.unknowns ≡ s.unknowns → t.rows ≡ s.rows → IsSlackBasis t.unknowns t.lines → IsFirstBasis s.unknowns s.rows t
root_begins s t n r b = record { same_unknowns = n; same_rows = r; basis = subst (λ m. IsSlackBasis m t.lines) n b }

-- where a search begins
pub root_searching : (s : System) (t : Table) → IsReadyTableau s s.rows t → IsFirstBasis s.unknowns s.rows t → IsSearching s [] t split_limit
root_searching s t ready begins = record {
  node = root_of s;
  path = top s;
  node_of = subst (λ (rs : List Row). IsSystemNode s rs (root_of s)) (sym ready.same_rows) (root_node s);
  begins = begins;
  ready = subst (λ (rs : List Row). IsReadyTableau s rs t) (sym ready.same_rows) ready;
  positive = omega arith;
}
