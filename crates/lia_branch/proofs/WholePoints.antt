-- A whole point that meets every line's bound meets the rows.
use Rattle.std.proofs.Common.{◌≡◌, ℕ, zero, suc, ◌<◌, ℤ, pos, ◌≤ℤ◌, List, [], ◌∷◌, length, slice_get, get_or, Some, IsTrue, refl, ap, sym, ◌∙◌, subst, arith}
use Rattle.std.specs.Prelude.{All}
use Rattle.std.proofs.lemmas.Int.{ints}
use Rattle.std.proofs.lemmas.List.Elements.{All-from_get_or}
use Rattle.sv_linear.specs.Terms.{AscendsWithin}
use Rattle.sv_linear.specs.declared.row.Row.{Row}
use Rattle.farkas_check.specs.Systems.{Constraint, no_constraint, constraint_of, constraint_value, Meets, Joined}
use Rattle.farkas_check.specs.Cuts.{values_of}
use Rattle.farkas_check.specs.declared.net.Net.{Net}
use Rattle.farkas_check.specs.declared.system.System.{System}
use Rattle.lia_tableau.specs.BasicPoints.{IsPoint}
use Rattle.lia_tableau.specs.Quantities.{SolvesWithSlacks}
use Rattle.lia_tableau.specs.declared.table.Table.{Table}
use Rattle.lia_branch.specs.Nodes.{Node, IsRowOf}
use Rattle.lia_branch.specs.Founds.{IsReadyTableau, IsSystemNode, IsWholePoint, IsNodeSolution}
use Rattle.lia_tableau.specs.PointLaws.{whole_meets}
use Rattle.farkas_check.specs.RowLaws.{meets_row}

module _ (s : System) (rows : List Row) (t : Table) (ready : IsReadyTableau s rows t) (meets : (x : ℕ → ℤ) (d : ℤ) → IsPoint t.lines x d → SolvesWithSlacks t.unknowns t.rows x d)
    (point : List ℤ) (whole : IsWholePoint s.unknowns t.lines point) where
  pub each_row : (i : ℕ) (r : Row) → slice_get rows i ≡ Some r → Meets (values_of point) (constraint_of r)
  each_row i r g =
      (meets_row (values_of point) r).0
      (whole_meets t.unknowns t.rows t.lines t.tableau (values_of point) (λ u h. whole.value u (subst (λ m. u < m) ready.unknowns h)) meets i r
      (ap (λ (rs : List Row). slice_get rs i) ready.same_rows ∙ g)
      (subst (λ m. AscendsWithin 0 m r.form.coefficients) (sym ready.unknowns) (ready.within i r g).unknowns))

  pub not_negative : All (λ net. All (λ e. pos 0 ≤ℤ values_of point e.unknown) net.edges) s.nets
  not_negative = ready.counts (values_of point) each_row

  same_meets : (c : Constraint) (r : Row) → IsRowOf c r → Meets (values_of point) (constraint_of r) → Meets (values_of point) c
  same_meets c r m h =
      let e : constraint_value (values_of point) (constraint_of r) ≡ constraint_value (values_of point) c = omega (arith, ints, m.value (values_of point), m.constant) in
      record {
        at_most = subst (λ z. z ≤ℤ pos 0) e h.at_most;
        equal = λ k. sym e ∙ h.equal (subst (λ b. IsTrue b) (sym m.kind) k);
      }

  get_within : {X : Type 0} (xs : List X) (i : ℕ) → i < length xs → (x : X) × (slice_get xs i ≡ Some x)
  get_within [] i h = absurd (omega arith)
  get_within (x ∷ xs) zero h = (x, refl)
  get_within (x ∷ xs) (suc i) h = get_within xs i (omega arith)

  get_same : {X : Type 0} (xs : List X) (i : ℕ) (d x : X) → slice_get xs i ≡ Some x → get_or xs i d ≡ x
  get_same [] i d x e = absurd (cc)
  get_same (y ∷ ys) zero d x e = cc
  get_same (y ∷ ys) (suc i) d x e = get_same ys i d x e

  pub node_solution : (node : Node) → IsSystemNode s rows node → All (Joined (values_of point)) s.nets → IsNodeSolution node point
  node_solution node k j = record {
    size = whole.size ∙ sym k.unknowns;
    solves = record {
      meets = All-from_get_or (Meets (values_of point)) node.rows no_constraint (λ i h.
          let c = get_within node.rows i h in
          let r = get_within rows i (let e = k.rows_of.size in omega arith) in
          subst (Meets (values_of point)) (sym (get_same node.rows i no_constraint c.0 c.1)) (same_meets c.0 r.0 (k.rows_of.each i c.0 r.0 c.1 r.1) (each_row i r.0 r.1)));
      joins = subst (λ (ns : List Net). All (Joined (values_of point)) ns) (sym k.nets) j;
    };
  }
