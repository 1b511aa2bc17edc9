-- Forms and rows while they are made.
use Rattle.std.specs.Prelude.{◌≡◌, ℕ, ℤ, ◌+ℤ◌, ◌<◌, ◌^◌, List, [], ◌∷◌, ◌++◌, length, slice_get, slice_index, slice_set, Some, All}
use Rattle.sv_linear.specs.Points.{unit}
use Rattle.sv_linear.specs.Terms.{coefficient, AscendsWithin}
use Rattle.sv_linear.specs.declared.form.Form.{Form}
use Rattle.sv_linear.specs.declared.row.Row.{Row}
use Rattle.sv_linear.specs.declared.row.RowKind.TheVariants.{Eq}
use Rattle.machine_core.specs.declared.graph.Graph.{Graph}
use Rattle.parikh_flow.specs.Rows.{terms_by, machine_terms, edge_balance, end_balance}

-- these coefficients, with the unknowns from `base` on
abbrev pub numbered : ℕ → List ℤ → List (ℕ × ℤ)
numbered = terms_by (λ z. z)

-- the terms were added to the form
pub record AreTermsAdded (ts : List (ℕ × ℤ)) (old new : Form) : Type 0 where
  pub terms : (u : ℕ) → coefficient u new.coefficients ≡ coefficient u old.coefficients +ℤ coefficient u ts
  pub constant : new.constant ≡ old.constant

-- one term was added to the form at this place
pub record IsTermAdded (at unknown : ℕ) (c : ℤ) (old new : List Form) : Type 0 where
  pub before : Form
  pub now : Form
  pub found : slice_get old at ≡ Some before
  pub set : new ≡ slice_set old at now
  pub coefficients : now.coefficients ≡ before.coefficients ++ (unknown, c) ∷ []
  pub constant : now.constant ≡ before.constant

-- to the form of each state its terms were added, for unknowns below `next`
pub record AreAdded (ts : ℕ → List (ℕ × ℤ)) (next : ℕ) (old new : List Form) : Type 0 where
  pub size : length new ≡ length old
  pub each : (s : ℕ) (f g : Form) → slice_get old s ≡ Some f → slice_get new s ≡ Some g → AreTermsAdded (ts s) f g
  pub ascend : (s : ℕ) (g : Form) → slice_get new s ≡ Some g → AscendsWithin 0 next g.coefficients

-- a form without unknowns for each state: 1 at the start
pub record AreOpened (states : ℕ) (forms : List Form) : Type 0 where
  pub size : length forms ≡ states
  pub each : (s : ℕ) (f : Form) → slice_get forms s ≡ Some f → (f.coefficients ≡ []) × (f.constant ≡ unit s 0)

-- the form of the row of each state
pub record AreStateForms (base : ℕ) (m : Graph) (forms : List Form) : Type 0 where
  pub size : length forms ≡ m.states
  pub terms : (s : ℕ) (f : Form) → slice_get forms s ≡ Some f → (u : ℕ) → coefficient u f.coefficients ≡ coefficient u (machine_terms (edge_balance s) (end_balance s) base m)
  pub constant : (s : ℕ) (f : Form) → slice_get forms s ≡ Some f → f.constant ≡ unit s 0

-- the row that says that the form is 0
abbrev pub equation_row : Form → Row
equation_row f = record { form = f; kind = Eq }

-- what edges and ends cost at the register are numbers of 64 bits
pub record CostsFit (register : ℕ) (m : Graph) : Type 0 where
  pub edges : All (λ e. slice_index e.cost register < 2 ^ 64) m.edges
  pub ends : All (λ e. slice_index e.cost register < 2 ^ 64) m.ends
