-- What is found at a node where a row shows a conflict.
use Rattle.std.proofs.Common.{◌≡◌, ◌≢◌, ℕ, ◌+◌, ◌-◌, ◌<◌, ℤ, pos, neg_ℤ, ◌+ℤ◌, ◌*ℤ◌, ◌<ℤ◌, List, [], ◌∷◌, length, map, slice_get, get_or, Bool, true, false, cond, nat_lt, IsTrue, ◌⊎◌, ⊎_elim, inl, inr, refl, ap, sym, ◌∙◌, subst, arith}
use Rattle.std.specs.Prelude.{nat_eq, FitsSigned, ◌≤ℤ◌}
use Rattle.std.specs.Int.{w128}
use Rattle.sv_linear.specs.Terms.{AscendsWithin}
use Rattle.lia_tableau.specs.Crossing.{column_number}
use Rattle.std.proofs.lemmas.Int.{ints, by_lt_z}
use Rattle.std.proofs.lemmas.Bool.{cases_lt}
use Rattle.std.proofs.lemmas.Bool.Decides.{nat_tests}
use Rattle.std.proofs.lemmas.Option.{get_or_from_slice_get}
use Rattle.std.proofs.lemmas.List.{get_or_past}
use Rattle.sv_list.specs.Lists.{slice_get-some}
use Rattle.sv_linear.specs.Terms.{coefficient}
use Rattle.sv_linear.specs.Points.{unit, coefficient_is_value}
use Rattle.sv_linear.specs.Integers.{mul-add}
use Rattle.sv_linear.specs.declared.column.Column.{Column}
use Rattle.sv_linear.specs.declared.column.Column.TheVariants.{Unknown, Constant}
use Rattle.sv_linear.specs.declared.row.Row.{Row}
use Rattle.farkas_check.specs.Systems.{Constraint, no_constraint, constraint_of}
use Rattle.farkas_check.specs.Closings.{FarkasRule, never}
use Rattle.farkas_check.specs.Columns.{part_at}
use Rattle.farkas_check.specs.Fitting.{SumFits, LeafFits}
use Rattle.farkas_check.specs.declared.system.System.{System}
use Rattle.farkas_check.specs.declared.tree.Tree.TheVariants as v
use Rattle.lia_tableau.specs.Quantities.{bound_of}
use Rattle.lia_tableau.specs.Bases.{IsRowAt}
use Rattle.lia_tableau.specs.Shown.{IsStatus, ShowsConflict}
use Rattle.lia_tableau.specs.declared.status.TableauStatus.TheVariants.{Conflict}
use Rattle.lia_tableau.specs.declared.table.Table.{Table}
use Rattle.lia_branch.specs.Nodes.{Node, ComesTo, IsRowOf}
use Rattle.lia_branch.specs.Founds.{IsReadyTableau, IsSystemNode, IsNodeClosing, IsNodeStop, stop_fact}
use Rattle.lia_branch.specs.LeafMultipliers.{slack_multipliers, sign_of, AreRowsOf, IsPastColumn}
use Rattle.lia_branch.specs.declared.stop.StopReason.TheVariants.{PastSum}
use Rattle.farkas_check.specs.NodeLaws.{farkas_met, farkas_fits}
use Rattle.farkas_check.proofs.LeafSums.{rows_size}
use Rattle.lia_branch.proofs.ConflictLeaves.{conflict_rule}
use Rattle.lia_branch.proofs.DueTreeRules.{closed_farkas, stops_open, count_farkas}
use Rattle.lia_branch.proofs.Roots.{each}
use Rattle.lia_tableau.specs.LineLaws.{place_within, same_row, broken_constant}
use Rattle.sv_linear.specs.Rows.{NameUnknowns}

joined_multiplier : (sign a : ℤ) (k : Bool) (w : ℤ) → cond k (sign *ℤ a) (pos 0) +ℤ sign *ℤ w ≡ sign *ℤ (cond k a (pos 0) +ℤ w)
joined_multiplier sign a true w = sym (mul-add sign a w)
joined_multiplier sign a false w = let z : pos 0 +ℤ w ≡ w = omega (arith, ints) in omega (arith, ints, ap (λ y. sign *ℤ y) z)

-- the multiplier of a row is how often its slack stands in the line, up to sign
multiplier_is : (n : ℕ) (sign : ℤ) (ts : List (ℕ × ℤ)) (i : ℕ) → coefficient i (slack_multipliers n sign ts) ≡ sign *ℤ coefficient (n + i) ts
multiplier_is n sign [] i = omega (arith, ints)
multiplier_is n sign (t ∷ ts) i = by (nat_lt t.0 n) refl (multiplier_is n sign ts i)
  where
    by : (b : Bool) → nat_lt t.0 n ≡ b → coefficient i (slack_multipliers n sign ts) ≡ sign *ℤ coefficient (n + i) ts →
        coefficient i (cond b (slack_multipliers n sign ts) ((t.0 - n, sign *ℤ t.1) ∷ slack_multipliers n sign ts)) ≡ sign *ℤ (cond (nat_eq t.0 (n + i)) t.1 (pos 0) +ℤ coefficient (n + i) ts)
    by true e r =
        let d : nat_eq t.0 (n + i) ≡ false = grind (arith, nat_tests) in
        r ∙ ap (λ z. sign *ℤ z) (sym (ap (λ k. cond k t.1 (pos 0) +ℤ coefficient (n + i) ts) d ∙ omega (arith, ints)))
    by false e r =
        let d : nat_eq (t.0 - n) i ≡ nat_eq t.0 (n + i) = grind (arith, nat_tests) in
        ap (λ k. cond k (sign *ℤ t.1) (pos 0) +ℤ coefficient i (slack_multipliers n sign ts)) d
        ∙ ap (λ z. cond (nat_eq t.0 (n + i)) (sign *ℤ t.1) (pos 0) +ℤ z) r ∙ joined_multiplier sign t.1 (nat_eq t.0 (n + i)) (coefficient (n + i) ts)

pub same_fits : (part : Constraint → ℤ) (cs ds : List Constraint) → ((i : ℕ) → part (get_or cs i no_constraint) ≡ part (get_or ds i no_constraint)) → (ms : List (ℕ × ℤ)) (a b : ℤ) → a ≡ b → SumFits part cs a ms → SumFits part ds b ms
same_fits part cs ds h [] a b e f = tt
same_fits part cs ds h (m ∷ ms) a b e f =
    let p : m.1 *ℤ part (get_or cs m.0 no_constraint) ≡ m.1 *ℤ part (get_or ds m.0 no_constraint) = ap (λ w. m.1 *ℤ w) (h m.0) in
    let q : a +ℤ m.1 *ℤ part (get_or cs m.0 no_constraint) ≡ b +ℤ m.1 *ℤ part (get_or ds m.0 no_constraint) = omega (arith, ints, p, e) in
    (subst (FitsSigned w128) p f.0, (subst (FitsSigned w128) q f.1.0, same_fits part cs ds h ms _ _ q f.1.1))

part_same : (p : Column) (c d : Constraint) (r : Row) → IsRowOf c r → IsRowOf d r → part_at p c ≡ part_at p d
part_same (Unknown u) c d r a b = coefficient_is_value u c.terms ∙ sym (a.value (unit u)) ∙ b.value (unit u) ∙ sym (coefficient_is_value u d.terms)
part_same Constant c d r a b = sym a.constant ∙ b.constant

pub parts_same : (p : Column) (cs ds : List Constraint) (rows : List Row) → AreRowsOf cs rows → AreRowsOf ds rows → (i : ℕ) → part_at p (get_or cs i no_constraint) ≡ part_at p (get_or ds i no_constraint)
parts_same p cs ds rows a b i =
    ⊎_elim
    (λ h.
    let r = slice_get-some rows i h in
    let c = slice_get-some cs i (let e = a.size in omega arith) in
    let d = slice_get-some ds i (let e = b.size in omega arith) in
    ap (part_at p) (get_or_from_slice_get cs i c.0 no_constraint c.1) ∙ part_same p c.0 d.0 r.0 (a.each i c.0 r.0 c.1 r.1) (b.each i d.0 r.0 d.1 r.1) ∙ sym (ap (part_at p) (get_or_from_slice_get ds i d.0 no_constraint d.1)))
    (λ h. ap (part_at p) (get_or_past cs i no_constraint (let e = a.size in omega arith) ∙ sym (get_or_past ds i no_constraint (let e = b.size in omega arith))))
    (cases_lt i (length rows))

pub rows_themselves : (rows : List Row) → AreRowsOf (map constraint_of rows) rows
rows_themselves rows = record { size = rows_size rows; each = each rows }

sign_above : (c : ℤ) (negated : Bool) → c ≢ pos 0 → (IsTrue negated → c <ℤ pos 0) → (negated ≡ false → pos 0 ≤ℤ c) → pos 0 <ℤ (sign_of negated *ℤ c)
sign_above c true n h k = let s = h refl in omega (arith, ints, s)
sign_above c false n h k = by_lt_z (pos 0) c (λ l. omega (arith, ints, l)) (λ l. absurd (let s = k refl in n (omega (arith, ints, s, l))))

module _ (s : System) (rows : List Row) (t : Table) (ready : IsReadyTableau s rows t) (place : ℕ) (status : IsStatus t (Conflict place)) where
  pub conflict_place : place < length t.rows
  conflict_place =
      let w = place_within t.lines status.1.quantity status.1.row status.1.is_row.is_line in
      let p = status.1.is_row.place in
      let m = t.tableau.number in
      omega arith

  module _ (line : Row) (is : (q : ℕ) × IsRowAt t.lines place q line) where
    same : (status.1.quantity ≡ is.0) × (status.1.row ≡ line)
    same = same_row t.lines place status.1.quantity is.0 status.1.row line status.1.is_row is.1

    pub conflict_shows : ShowsConflict t.unknowns t.rows t.lines is.0 line.form
    conflict_shows = subst (λ i. ShowsConflict t.unknowns t.rows t.lines i line.form) same.0 (subst (λ (w : Row). ShowsConflict t.unknowns t.rows t.lines status.1.quantity w.form) same.1 status.1.shows)

    names : NameUnknowns t.unknowns t.rows
    names i r e = subst (λ n. AscendsWithin 0 n r.form.coefficients) (sym ready.unknowns) (ready.within i r (ap (λ (rs : List Row). slice_get rs i) (sym ready.same_rows) ∙ e)).unknowns

    module _ (negated : Bool) (low : IsTrue negated → line.form.constant <ℤ pos 0) (high : negated ≡ false → pos 0 ≤ℤ line.form.constant) where
      positive : pos 0 <ℤ (sign_of negated *ℤ line.form.constant)
      positive = sign_above line.form.constant negated (broken_constant (bound_of t.unknowns t.rows is.0) line.form conflict_shows.breaks) low high

      rule_at : (cs : List Constraint) → AreRowsOf cs t.rows → FarkasRule cs (slack_multipliers t.unknowns (sign_of negated) line.form.coefficients)
      rule_at cs are = conflict_rule t.unknowns t.rows t.lines t.tableau names is.0 line is.1.is_line conflict_shows cs are (sign_of negated) positive

      abbrev pub ms : List (ℕ × ℤ)
      ms = slack_multipliers s.unknowns (sign_of negated) line.form.coefficients

      pub rule : (cs : List Constraint) → AreRowsOf cs rows → FarkasRule cs ms
      rule cs are =
          subst (λ n. FarkasRule cs (slack_multipliers n (sign_of negated) line.form.coefficients)) ready.unknowns (rule_at cs (subst (AreRowsOf cs) (sym ready.same_rows) are))

      pub conflict_rule_here : FarkasRule (map constraint_of rows) ms
      conflict_rule_here = rule (map constraint_of rows) (rows_themselves rows)

      pub conflict_closed : (node : Node) → IsSystemNode s rows node → LeafFits (map constraint_of rows) ms → IsNodeClosing node (v.Farkas ms) 0
      conflict_closed node k f = record {
        due = closed_farkas node ms (rule node.rows k.rows_of);
        closes = farkas_met never node.nets node.rows ms (rule node.rows k.rows_of);
        fits = farkas_fits node.nets node.rows ms (λ c. same_fits (part_at c) (map constraint_of rows) node.rows (parts_same c (map constraint_of rows) node.rows rows (rows_themselves rows) k.rows_of) ms (pos 0) (pos 0) refl (f c));
        count = count_farkas ms;
      }

      pub conflict_stopped : (node : Node) (left column : ℕ) → IsSystemNode s rows node → ComesTo node t → IsPastColumn (map constraint_of rows) ms s.unknowns column → IsNodeStop node left v.Open (PastSum column)
      conflict_stopped node left column k m p = record {
        stops = stops_open (stop_fact (PastSum column)) node (record {
          last = t;
          comes = m;
          multipliers = ms;
          leaf = inr (record {
            place = place;
            status = status;
            least = status.1;
            sign = sign_of negated;
            is_sign = either negated;
            multipliers = λ i h.
                subst (λ n. coefficient i (slack_multipliers n (sign_of negated) line.form.coefficients) ≡ sign_of negated *ℤ coefficient (t.unknowns + i) status.1.row.form.coefficients) ready.unknowns
                (multiplier_is t.unknowns (sign_of negated) line.form.coefficients i ∙ ap (λ (w : Row). sign_of negated *ℤ coefficient (t.unknowns + i) w.form.coefficients) (sym same.1));
            rule = rule node.rows k.rows_of;
          });
          place = p.0;
          number = p.1.0 ∙ ap (λ n. column_number n p.0) (sym k.unknowns);
          outside = λ f. p.1.1 (same_fits (part_at p.0) node.rows (map constraint_of rows) (parts_same p.0 node.rows (map constraint_of rows) rows k.rows_of (rows_themselves rows)) ms (pos 0) (pos 0) refl f);
        });
        count = λ e. absurd (cc);
      }
        where
          either : (b : Bool) → (sign_of b ≡ pos 1) ⊎ (sign_of b ≡ neg_ℤ (pos 1))
          either true = inr refl
          either false = inl refl
