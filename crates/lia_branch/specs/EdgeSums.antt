-- The unknowns of a net's edges out of a set of states, or into it from outside, added up.
use Rattle.std.specs.Prelude.{◌≡◌, ℕ, ℤ, pos, neg_ℤ, ◌<◌, ◌^◌, List, Bool, Some, slice_get, unsigned_abs, ◌&&◌, not}
use Rattle.sv_linear.specs.Forms.{form_value, entry}
use Rattle.sv_linear.specs.Terms.{terms_value, AscendsWithin}
use Rattle.sv_linear.specs.declared.column.Column.{Column}
use Rattle.sv_linear.specs.declared.form.Form.{Form}
use Rattle.farkas_check.specs.Closings.{contains_number, edges_out, edges_in}
use Rattle.farkas_check.specs.declared.net.Net.{Net}
use Rattle.farkas_check.specs.declared.net.NetEdge.{NetEdge}
use Rattle.lia_branch.specs.declared.edge_sums.EdgeSide.{EdgeSide}
use Rattle.lia_branch.specs.declared.edge_sums.EdgeSide.TheVariants.{Out, In}

abbrev pub side_terms : EdgeSide → List ℕ → List NetEdge → List (ℕ × ℤ)
side_terms Out set es = edges_out set es (pos 1)
side_terms In set es = edges_in set es (neg_ℤ (pos 1))

abbrev pub side_sign : EdgeSide → ℤ
side_sign Out = pos 1
side_sign In = neg_ℤ (pos 1)

-- the edge is one that the side counts
abbrev pub picks : EdgeSide → List ℕ → NetEdge → Bool
picks Out set e = contains_number e.«from» set
picks In set e = contains_number e.to set && not (contains_number e.«from» set)

-- for each of so many states whether it is in the set
abbrev pub AreSetMarks : ℕ → List ℕ → List Bool → Type 0
AreSetMarks states set marks = (s : ℕ) → s < states → slice_get marks s ≡ Some (contains_number s set)

-- the form adds up the unknowns of the edges on this side
pub record IsSideSum (side : EdgeSide) (n : ℕ) (net : Net) (set : List ℕ) (f : Form) : Type 0 where
  pub value : (x : ℕ → ℤ) (d : ℤ) → form_value x d f ≡ terms_value x (side_terms side set net.edges)
  pub constant : f.constant ≡ pos 0
  pub small : (c : Column) → unsigned_abs (entry c f) < 2 ^ 64
  pub within : AscendsWithin 0 n f.coefficients
