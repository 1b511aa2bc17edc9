-- What is found at a node where a row shows a divisor.
use Rattle.std.proofs.Common.{◌≡◌, ℕ, ◌+◌, ◌-◌, ◌<◌, ◌^◌, ℤ, pos, ◌+ℤ◌, ◌<ℤ◌, ◌≤ℤ◌, List, [], ◌∷◌, length, map, slice_get, Bool, true, false, cond, nat_lt, inl, refl, ap, sym, ◌∙◌, subst, arith}
use Rattle.std.specs.Prelude.{nat_eq}
use Rattle.std.specs.Int.{int_div_euclid, int_rem_euclid}
use Rattle.std.proofs.lemmas.Int.{ints}
use Rattle.std.proofs.lemmas.Bool.Decides.{nat_tests}
use Rattle.sv_linear.specs.Terms.{coefficient, AscendsWithin}
use Rattle.sv_linear.specs.Integers.{mul_comm}
use Rattle.sv_linear.specs.declared.row.Row.{Row}
use Rattle.farkas_check.specs.Systems.{Constraint, constraint_of}
use Rattle.farkas_check.specs.Closings.{DivisorRule, never}
use Rattle.farkas_check.specs.Columns.{part_at}
use Rattle.farkas_check.specs.Fitting.{LeafFits}
use Rattle.farkas_check.specs.declared.system.System.{System}
use Rattle.farkas_check.specs.declared.tree.Tree.TheVariants as v
use Rattle.lia_tableau.specs.Bases.{IsRowAt}
use Rattle.lia_tableau.specs.Crossing.{column_number}
use Rattle.lia_tableau.specs.Shown.{IsStatus, IsUnknownsDivisor}
use Rattle.lia_tableau.specs.declared.status.TableauStatus.TheVariants.{Divisor}
use Rattle.lia_tableau.specs.declared.table.Table.{Table}
use Rattle.lia_branch.specs.Nodes.{Node, ComesTo}
use Rattle.lia_branch.specs.Founds.{IsReadyTableau, IsSystemNode, IsNodeClosing, IsNodeStop, stop_fact}
use Rattle.lia_branch.specs.LeafMultipliers.{slack_remainders, AreRowsOf, IsPastColumn}
use Rattle.lia_branch.specs.declared.stop.StopReason.TheVariants.{PastSum}
use Rattle.farkas_check.specs.NodeLaws.{divisor_met, divisor_fits}
use Rattle.lia_branch.proofs.ConflictFounds.{same_fits, parts_same, rows_themselves}
use Rattle.lia_branch.proofs.DivisorLeaves.{divisor_rule}
use Rattle.lia_branch.proofs.DueTreeRules.{closed_divisor, stops_open, count_divisor}
use Rattle.lia_branch.proofs.WholeValues.{euclid}
use Rattle.lia_tableau.specs.LineLaws.{place_within, same_row}
use Rattle.lia_tableau.proofs.DivisorTests.{same_divisor}
use Rattle.sv_linear.specs.Rows.{NameUnknowns}
use Rattle.sv_linear.specs.TermLaws.{below_low}

rem_zero : (d : ℕ) → int_rem_euclid (pos 0) (pos d) ≡ pos 0
rem_zero d = omega (arith, ints)

-- the multiplier of a row is the remainder of how often its slack stands in the line
remainder_is : (n d low high : ℕ) (ts : List (ℕ × ℤ)) (i : ℕ) → AscendsWithin low high ts → coefficient i (slack_remainders n (pos d) ts) ≡ int_rem_euclid (coefficient (n + i) ts) (pos d)
remainder_is n d low high [] i a = sym (rem_zero d)
remainder_is n d low high (t ∷ ts) i a = by (nat_lt t.0 n) refl (remainder_is n d (t.0 + 1) high ts i a.1.1)
  where
    joined : (k : Bool) (z w : ℤ) (r : ℤ) → nat_eq t.0 (n + i) ≡ k → r ≡ int_rem_euclid w (pos d) → (k ≡ true → w ≡ pos 0) → cond k (int_rem_euclid z (pos d)) (pos 0) +ℤ r ≡ int_rem_euclid (cond k z (pos 0) +ℤ w) (pos d)
    joined true z w r e f h =
        let zero_w = h refl in
        let zero_r : r ≡ pos 0 = f ∙ ap (λ y. int_rem_euclid y (pos d)) zero_w ∙ rem_zero d in
        let same : z +ℤ w ≡ z = omega (arith, ints, zero_w) in
        let back : int_rem_euclid z (pos d) +ℤ r ≡ int_rem_euclid z (pos d) = omega (arith, ints, zero_r) in
        back ∙ sym (ap (λ y. int_rem_euclid y (pos d)) same)
    joined false z w r e f h =
        let same : pos 0 +ℤ w ≡ w = omega (arith, ints) in
        let back : pos 0 +ℤ r ≡ r = omega (arith, ints) in
        back ∙ f ∙ sym (ap (λ y. int_rem_euclid y (pos d)) same)

    by : (b : Bool) → nat_lt t.0 n ≡ b → coefficient i (slack_remainders n (pos d) ts) ≡ int_rem_euclid (coefficient (n + i) ts) (pos d) →
        coefficient i (cond b (slack_remainders n (pos d) ts) ((t.0 - n, int_rem_euclid t.1 (pos d)) ∷ slack_remainders n (pos d) ts)) ≡ int_rem_euclid (cond (nat_eq t.0 (n + i)) t.1 (pos 0) +ℤ coefficient (n + i) ts) (pos d)
    by true e r =
        let f : nat_eq t.0 (n + i) ≡ false = grind (arith, nat_tests) in
        let same : cond (nat_eq t.0 (n + i)) t.1 (pos 0) +ℤ coefficient (n + i) ts ≡ coefficient (n + i) ts = ap (λ k. cond k t.1 (pos 0) +ℤ coefficient (n + i) ts) f ∙ omega (arith, ints) in
        r ∙ sym (ap (λ y. int_rem_euclid y (pos d)) same)
    by false e r =
        let f : nat_eq (t.0 - n) i ≡ nat_eq t.0 (n + i) = grind (arith, nat_tests) in
        ap (λ k. cond k (int_rem_euclid t.1 (pos d)) (pos 0) +ℤ coefficient i (slack_remainders n (pos d) ts)) f
        ∙ joined (nat_eq t.0 (n + i)) t.1 (coefficient (n + i) ts) (coefficient i (slack_remainders n (pos d) ts)) refl r
        (λ k. let is : t.0 ≡ n + i = grind (arith, nat_tests) in below_low (t.0 + 1) high (n + i) ts a.1.1 (omega arith))

module _ (s : System) (rows : List Row) (t : Table) (ready : IsReadyTableau s rows t) (place : ℕ) (status : IsStatus t (Divisor place)) where
  pub divisor_place : place < length t.rows
  divisor_place =
      let w = place_within t.lines status.quantity status.row status.is_row.is_line in
      let p = status.is_row.place in
      let m = t.tableau.number in
      omega arith

  module _ (line : Row) (is : (q : ℕ) × IsRowAt t.lines place q line) where
    same : (status.quantity ≡ is.0) × (status.row ≡ line)
    same = same_row t.lines place status.quantity is.0 status.row line status.is_row is.1

    names : NameUnknowns t.unknowns t.rows
    names i r e = subst (λ n. AscendsWithin 0 n r.form.coefficients) (sym ready.unknowns) (ready.within i r (ap (λ (rs : List Row). slice_get rs i) (sym ready.same_rows) ∙ e)).unknowns

    abbrev d : ℕ
    d = status.shows.divisor

    module _ (divisor : ℤ) (found : (g : ℕ) × ((divisor ≡ pos g) × IsUnknownsDivisor s.unknowns line.form g)) where
      pub is_divisor : divisor ≡ pos d
      is_divisor =
          let mine = subst (λ n. IsUnknownsDivisor n line.form d) ready.unknowns (subst (λ (w : Row). IsUnknownsDivisor t.unknowns w.form d) same.1 status.shows.is_divisor) in
          found.1.0 ∙ ap pos (same_divisor s.unknowns line.form found.0 d found.1.1 mine)

      pub divisor_positive : pos 0 <ℤ divisor
      divisor_positive = let a = status.shows.at_least_two in omega (arith, ints, is_divisor)

      abbrev pub ms : List (ℕ × ℤ)
      ms = slack_remainders s.unknowns divisor line.form.coefficients

      ms_is : slack_remainders t.unknowns (pos d) status.row.form.coefficients ≡ ms
      ms_is = ap (λ n. slack_remainders n (pos d) status.row.form.coefficients) ready.unknowns ∙ ap (λ z. slack_remainders s.unknowns z status.row.form.coefficients) (sym is_divisor) ∙ ap (λ (w : Row). slack_remainders s.unknowns divisor w.form.coefficients) same.1

      rule : (cs : List Constraint) → AreRowsOf cs rows → DivisorRule cs ms (pos d)
      rule cs are =
          subst (λ l. DivisorRule cs l (pos d)) ms_is
          (divisor_rule t.unknowns t.rows t.lines t.tableau names status.quantity status.row status.is_row.is_line status.shows cs (subst (AreRowsOf cs) (sym ready.same_rows) are))

      pub divisor_rule_here : DivisorRule (map constraint_of rows) ms divisor
      divisor_rule_here = subst (DivisorRule (map constraint_of rows) ms) (sym is_divisor) (rule (map constraint_of rows) (rows_themselves rows))

      pub divisor_closed : (node : Node) → IsSystemNode s rows node → LeafFits (map constraint_of rows) ms → IsNodeClosing node (v.Divisor ms divisor) 0
      divisor_closed node k f =
          let r = subst (DivisorRule node.rows ms) (sym is_divisor) (rule node.rows k.rows_of) in
          record {
            due = closed_divisor node ms divisor r;
            closes = divisor_met never node.nets node.rows ms divisor r;
            fits = divisor_fits node.nets node.rows ms divisor (λ c. same_fits (part_at c) (map constraint_of rows) node.rows (parts_same c (map constraint_of rows) node.rows rows (rows_themselves rows) k.rows_of) ms (pos 0) (pos 0) refl (f c));
            count = count_divisor ms divisor;
          }

      multiplier_is : (i : ℕ) → coefficient i ms ≡ int_rem_euclid (coefficient (t.unknowns + i) status.row.form.coefficients) (pos d)
      multiplier_is i = ap (coefficient i) (sym ms_is) ∙ remainder_is t.unknowns d 0 (2 ^ 32) status.row.form.coefficients i status.row.form.ascending

      d_positive : pos 0 <ℤ pos d
      d_positive = let a = status.shows.at_least_two in omega (arith, ints)

      pub divisor_stopped : (node : Node) (left column : ℕ) → IsSystemNode s rows node → ComesTo node t → IsPastColumn (map constraint_of rows) ms s.unknowns column → IsNodeStop node left v.Open (PastSum column)
      divisor_stopped node left column k m p = record {
        stops = stops_open (stop_fact (PastSum column)) node (record {
          last = t;
          comes = m;
          multipliers = ms;
          leaf = inl (record {
            place = place;
            least = status;
            not_negative = λ i h. subst (λ z. pos 0 ≤ℤ z) (sym (multiplier_is i)) (euclid (coefficient (t.unknowns + i) status.row.form.coefficients) (pos d) d_positive).low;
            below = λ i h. subst (λ z. z <ℤ pos d) (sym (multiplier_is i)) (euclid (coefficient (t.unknowns + i) status.row.form.coefficients) (pos d) d_positive).high;
            multipliers = λ i h.
                let a = coefficient (t.unknowns + i) status.row.form.coefficients in
                let q = int_div_euclid a (pos d) in
                let e = (euclid a (pos d) d_positive).sum in
                (q, omega (arith, ints, e, mul_comm q (pos d), multiplier_is i));
            rule = rule node.rows k.rows_of;
          });
          place = p.0;
          number = p.1.0 ∙ ap (λ n. column_number n p.0) (sym k.unknowns);
          outside = λ f. p.1.1 (same_fits (part_at p.0) node.rows (map constraint_of rows) (parts_same p.0 node.rows (map constraint_of rows) rows k.rows_of (rows_themselves rows)) ms (pos 0) (pos 0) refl f);
        });
        count = λ e. absurd (cc);
      }
