-- What is found at a node, from what is found at its two sides.
use Rattle.std.proofs.Common.{◌≡◌, ℕ, zero, suc, ◌+◌, ◌<◌, ℤ, neg_ℤ, List, [], ◌∷◌, ◌++◌, length, length-append, slice_get, Some, FitsSigned, ◌↔◌, ◌⊎◌, inl, inr, refl, ap, sym, ◌∙◌, subst, arith}
use Rattle.std.specs.Int.{w128}
use Rattle.std.proofs.lemmas.Int.{ints}
use Rattle.std.specs.Prelude.{All}
use Rattle.std.proofs.lemmas.List.Elements.{All-get_or, All-from_get_or}
use Rattle.std.proofs.lemmas.List.{get_or_append_left}
use Rattle.std.proofs.lemmas.Option.{slice_get_within}
use Rattle.sv_list.specs.Lists.{slice_get-push_cases, slice_get-end}
use Rattle.sv_linear.specs.Combining.{IsSymmetric}
use Rattle.sv_linear.specs.declared.row.Row.{Row}
use Rattle.farkas_check.specs.Systems.{Constraint, no_constraint, Meets}
use Rattle.farkas_check.specs.Cuts.{values_of}
use Rattle.farkas_check.specs.declared.system.System.{System}
use Rattle.lia_tableau.specs.Adding.{IsRowAdded}
use Rattle.lia_tableau.specs.Bases.{IsInBasis}
use Rattle.lia_tableau.specs.declared.standing.Standing.{Standing}
use Rattle.lia_tableau.specs.declared.standing.Standing.TheVariants.{Basic}
use Rattle.lia_tableau.specs.declared.table.Table.{Table}
use Rattle.lia_tableau.specs.Adding.{IsPastRow}
use Rattle.lia_tableau.specs.Crossing.{IsPastFault}
use Rattle.lia_tableau.specs.Pivoting.{IsPastPivot}
use Rattle.lia_tableau.specs.declared.fault.TableauFault.{TableauFault}
use Rattle.lia_tableau.specs.declared.fault.TableauFault.TheVariants.{Past, Memory}
use Rattle.lia_reduce.specs.RowTerms.{wider}
use Rattle.lia_branch.specs.EvidenceHolds.{IsPastAt}
use Rattle.lia_tableau.specs.Trails.{Trail, stay, pivot}
use Rattle.lia_branch.specs.Nodes.{Node, BeginsAt, ComesTo, AddsSlack, IsRowOf, child_of}
use Rattle.lia_branch.specs.Founds.{IsReadyTableau, IsSystemNode, IsNodeSolution}
use Rattle.lia_branch.specs.LeafMultipliers.{AreRowsOf}
use Rattle.sv_linear.specs.Rows.{IsRowWithin}

front_holds : {X : Type 0} (P : X → Type 0) (xs ys : List X) (d : X) → All P (xs ++ ys) → All P xs
front_holds P xs ys d h = All-from_get_or P xs d (λ i w. subst P (get_or_append_left xs ys d i w) (All-get_or P (xs ++ ys) i d (omega (arith, length-append xs ys)) h))

-- a solution behind a branch is one of the node
pub solution_above : (node : Node) (t : Table) (c : Constraint) (point : List ℤ) → IsNodeSolution (child_of node t c) point → IsNodeSolution node point
solution_above node t c point s = record {
  size = s.size;
  solves = record { meets = front_holds (Meets (values_of point)) node.rows (c ∷ []) no_constraint s.solves.meets; joins = s.solves.joins };
}

get_push : {X : Type 0} (xs : List X) (y : X) (i : ℕ) (x : X) → slice_get xs i ≡ Some x → slice_get (xs ++ y ∷ []) i ≡ Some x
get_push [] y i x e = absurd (cc)
get_push (z ∷ zs) y zero x e = e
get_push (z ∷ zs) y (suc i) x e = get_push zs y i x e

-- the rows of a side
pub side_ready : (s : System) (rows : List Row) (before after : Table) (row : Row) → IsReadyTableau s rows before → IsRowWithin s.unknowns row → after.unknowns ≡ before.unknowns → after.rows ≡ before.rows ++ row ∷ [] → IsReadyTableau s (rows ++ row ∷ []) after
side_ready s rows before after row r w n e = record {
  unknowns = n ∙ r.unknowns;
  same_rows = e ∙ ap (λ xs. xs ++ row ∷ []) r.same_rows;
  within = λ i x g. within i x (slice_get-push_cases rows row i x g);
  nets = r.nets;
  counts = λ x h. r.counts x (λ i y g. h i y (get_push rows row i y g));
}
  where
    within : (i : ℕ) (x : Row) → (slice_get rows i ≡ Some x) ⊎ ((i ≡ length rows) × (row ≡ x)) → IsRowWithin s.unknowns x
    within i x (inl g) = r.within i x g
    within i x (inr g) = subst (λ (y : Row). IsRowWithin s.unknowns y) g.1 w

pub side_rows : (cs : List Constraint) (rows : List Row) (c : Constraint) (row : Row) → AreRowsOf cs rows → IsRowOf c row → AreRowsOf (cs ++ c ∷ []) (rows ++ row ∷ [])
side_rows cs rows c row a m = record {
  size = let e = a.size in length-append cs (c ∷ []) ∙ ap (λ n. n + 1) e ∙ sym (length-append rows (row ∷ []));
  each = λ i d r g h. each i d r (slice_get-push_cases cs c i d g) (slice_get-push_cases rows row i r h);
}
  where
    each : (i : ℕ) (d : Constraint) (r : Row) → (slice_get cs i ≡ Some d) ⊎ ((i ≡ length cs) × (c ≡ d)) → (slice_get rows i ≡ Some r) ⊎ ((i ≡ length rows) × (row ≡ r)) → IsRowOf d r
    each i d r (inl g) (inl h) = a.each i d r g h
    each i d r (inl g) (inr h) = absurd (let w = slice_get_within cs i d g in let e = a.size in omega (arith, h.0))
    each i d r (inr g) (inl h) = absurd (let w = slice_get_within rows i r h in let e = a.size in omega (arith, g.0))
    each i d r (inr g) (inr h) = subst (λ (x : Constraint). IsRowOf x r) g.1 (subst (λ (x : Row). IsRowOf c x) h.1 m)

pub side_node : (s : System) (rows : List Row) (node : Node) (t : Table) (c : Constraint) (row : Row) → IsSystemNode s rows node → IsRowOf c row → IsSystemNode s (rows ++ row ∷ []) (child_of node t c)
side_node s rows node t c row k m = record { unknowns = k.unknowns; nets = k.nets; rows_of = side_rows node.rows rows c row k.rows_of m }

not_in_end : (lines : List Standing) (line : Row) (q : ℕ) → q < length lines → IsInBasis (lines ++ Basic line ∷ []) q ↔ IsInBasis lines q
not_in_end lines line q h = (
  (λ b. (b.0, old (slice_get-push_cases lines (Basic line) q (Basic b.0) b.1))),
  (λ b. (b.0, get_push lines (Basic line) q (Basic b.0) b.1)),
)
  where
    old : {x : Standing} → (slice_get lines q ≡ Some x) ⊎ ((q ≡ length lines) × (Basic line ≡ x)) → slice_get lines q ≡ Some x
    old (inl g) = g
    old (inr g) = absurd (omega (arith, g.0))

-- the basis of a side is the basis above with the new slack
pub goes_on : (before after : Table) (c : Constraint) (row : Row) → IsRowOf c row → after.unknowns ≡ before.unknowns → after.rows ≡ before.rows ++ row ∷ [] → IsRowAdded before.lines after.lines row → AddsSlack before c after
goes_on before after c row m n r a = record {
  unknowns = n;
  row = row;
  is_row = m;
  rows = r;
  kept = λ q h. subst (λ (ls : List Standing). IsInBasis ls q ↔ IsInBasis before.lines q) (sym a.added) (not_in_end before.lines a.line q h);
  slack = subst (λ (ls : List Standing). IsInBasis ls (length before.lines)) (sym a.added) (a.line, slice_get-end before.lines (Basic a.line));
}

-- a trail goes on in the same system
pub trail_system : (first last : Table) → Trail first last → (last.unknowns ≡ first.unknowns) × (last.rows ≡ first.rows)
trail_system first last (stay t) = (refl, refl)
trail_system first last (pivot start next end s rest) = let r = trail_system next end rest in (r.0 ∙ s.unknowns, r.1 ∙ s.rows)

pub settled_ready : (s : System) (rows : List Row) (before after : Table) → IsReadyTableau s rows before → Trail before after → IsReadyTableau s rows after
settled_ready s rows before after r t = let k = trail_system before after t in record {
  unknowns = k.0 ∙ r.unknowns;
  same_rows = k.1 ∙ r.same_rows;
  within = r.within;
  nets = r.nets;
  counts = r.counts;
}

pub comes_to : (node : Node) (start t : Table) → BeginsAt node.unknowns node.origin start → Trail start t → ComesTo node t
comes_to node start t b r = record { start = start; begins = b; trail = r }

pub past_in_pivot : (node : Node) (t : Table) (fault : TableauFault) → ComesTo node t → IsPastFault (IsPastPivot t) fault →
    IsPastFault (λ first second at column. IsPastAt first second at column node) fault
past_in_pivot node t (Past f s a c) k h = inl (record { basis = t; comes = k; past = h })
past_in_pivot node t (Memory m) k h = tt

pub past_in_addition : (node : Node) (t : Table) (c : Constraint) (row : Row) (fault : TableauFault) → IsRowOf c row → IsPastFault (IsPastRow t row) fault →
    IsPastFault (λ first second at column. IsPastAt first second at column (child_of node t c)) fault
past_in_addition node t c row (Past f s a col) m h = inr (record { row = row; is_row = m; past = h })
past_in_addition node t c row (Memory m) k h = tt

pub row_within : (u n : ℕ) (row : Row) → u < n → IsRowWithin (suc u) row → IsRowWithin n row
row_within u n row h w = record { unknowns = wider 0 (suc u) n row.form.coefficients w.unknowns (omega arith); symmetric = w.symmetric }

pub fits_symmetric : (z : ℤ) → IsSymmetric z → FitsSigned w128 z
fits_symmetric z h = omega (arith, ints, h)

pub fits_negated : (z : ℤ) → IsSymmetric z → FitsSigned w128 (neg_ℤ z)
fits_negated z h = omega (arith, ints, h)

-- after the pivots of a node
pub ready_after : (s : System) (before after : Table) → IsReadyTableau s before.rows before → Trail before after → IsReadyTableau s after.rows after
ready_after s before after r t =
    let k = settled_ready s before.rows before after r t in
    subst (λ (rs : List Row). IsReadyTableau s rs after) (sym (trail_system before after t).1) k

pub node_after : (s : System) (before after : Table) (node : Node) → IsSystemNode s before.rows node → Trail before after → IsSystemNode s after.rows node
node_after s before after node k t = subst (λ (rs : List Row). IsSystemNode s rs node) (sym (trail_system before after t).1) k
