use Rattle.std.proofs.Common.{rules, ◌≡◌, pos, negsuc, neg_ℤ, ◌+ℤ◌, ap, sym, ◌∙◌, subst, [], ◌∷◌, ◌++◌, false, true, Some, None}
use Rattle.std.specs.Int.{w128}
use Rattle.std.specs.Prelude.{slice_get}
use Rattle.std.proofs.lemmas.Int.{to_z-of_z}
use mir.Val.{SFits}
use Rattle.farkas_check.specs.Systems.{rows_of}
use Rattle.farkas_check.specs.Branches.{node_rows, constraints_above, constraint_of_branch}
use Rattle.farkas_check.specs.Closings.{at_most, at_least, none_out, some_in, contains_number}
use Rattle.farkas_check.specs.declared.branch.Branch.TheVariants.{NoneOut, SomeIn}
use Rattle.farkas_check.specs.NodeLaws.{Told, split_opened, split_closed, set_split_net, set_split_opened, set_split_closed, farkas_opened, farkas_closed, divisor_opened, divisor_closed, open_opened}
use Rattle.farkas_check.proofs.Children.{to_child, from_child, with_constant}
use Rattle.farkas_check.proofs.checker.+closes_below.Goals as goal

pub returns-in_default : goal.returns-in_default
returns-in_default t c =
    let s = c.args.system.now in
    let rows = node_rows c.args.system.now c.args.above.now in
    let fa : SFits w128 c.in-Split.at = search rules in
    let refused = rw (to_z-of_z w128 _ fa) at c.in_default.ensures in (
      (λ f. absurd (cc)),
      (λ p. absurd (refused (split_opened s.nets rows c.in-Split.unknown c.in-Split.at c.in-Split.low c.in-Split.high (subst (Told s.nets rows) c.in-Split.is p)).minus_fits)),
    )

pub returns-in_default-checked_add : goal.returns-in_default-checked_add
returns-in_default-checked_add t c =
    let s = c.args.system.now in
    let rows = node_rows c.args.system.now c.args.above.now in
    let fa : SFits w128 c.in-Split.at = search rules in
    let refused = rw (to_z-of_z w128 _ fa) at c.in_default-checked_add.ensures in (
      (λ f. absurd (cc)),
      (λ p. absurd (refused (split_opened s.nets rows c.in-Split.unknown c.in-Split.at c.in-Split.low c.in-Split.high (subst (Told s.nets rows) c.in-Split.is p)).next_fits)),
    )

pub returns-in_default-get : goal.returns-in_default-get
returns-in_default-get t c =
    let s = c.args.system.now in
    let rows = node_rows c.args.system.now c.args.above.now in
    let none : None ≡ slice_get s.nets c.in-SetSplit.net = c.in_default-get.ensures.value in (
      (λ f. absurd (cc)),
      (λ p. let found = set_split_net s.nets rows c.in-SetSplit.net c.in-SetSplit.states c.in-SetSplit.none c.in-SetSplit.some (subst (Told s.nets rows) c.in-SetSplit.is p) in
          let one = none ∙ found.1 in absurd (cc)),
    )

pub returns-then-contains : goal.returns-then-contains
returns-then-contains t c =
    let s = c.args.system.now in
    let rows = node_rows c.args.system.now c.args.above.now in
    let cut = c.in-Some-get.cut.now in
    let found : slice_get s.nets c.in-SetSplit.net ≡ Some cut = sym c.in-Some-get.ensures.value in
    let inside : contains_number cut.start c.in-SetSplit.states ≡ true = ap (contains_number cut.start) (sym c.as_slice-set.ensures) ∙ sym c.contains.ensures ∙ c.if-contains.true in (
      (λ f. absurd (cc)),
      (λ p. absurd ((set_split_opened s.nets rows c.in-SetSplit.net cut c.in-SetSplit.states c.in-SetSplit.none c.in-SetSplit.some found (subst (Told s.nets rows) c.in-SetSplit.is p)).outside inside)),
    )

pub returns-then-closes_below : goal.returns-then-closes_below
returns-then-closes_below t c =
    let nets = c.args.system.now.nets in
    let sys = rows_of c.args.system.now in
    let above = constraints_above c.args.above.now in
    let u = c.in-Split.unknown in
    let at = c.in-Split.at in
    let fa : SFits w128 c.in-Split.at = search rules in
    let m = rw (to_z-of_z w128 _ fa) at c.in-Some.ensures in
    let fm : SFits w128 c.in-Some.minus = rw m.1 m.0 in
    let x = rw (to_z-of_z w128 _ fa) at c.in-Some-checked_add.ensures in
    let fx : SFits w128 c.in-Some-checked_add.next = rw x.1 x.0 in
    let e = with_constant ((u, pos 1) ∷ []) _ (neg_ℤ at) (to_z-of_z w128 _ fm ∙ m.1) in
    let f = with_constant ((u, negsuc 0) ∷ []) _ (at +ℤ pos 1) (to_z-of_z w128 _ fx ∙ x.1) in
    let first : Told nets ((sys ++ above) ++ at_most u at ∷ []) c.in-Split.low = to_child nets sys above _ (at_most u at) c.get.result.now c.in-Split.low e c.get.ensures (c.closes_below.ensures.0 c.if-closes_below.true) in (
      (λ told.
          let second : Told nets ((sys ++ above) ++ at_least u (at +ℤ pos 1) ∷ []) c.in-Split.high = to_child nets sys above _ (at_least u (at +ℤ pos 1)) c.get-then-closes_below.result.now c.in-Split.high f c.get-then-closes_below.ensures (c.closes_below-then-closes_below.ensures.0 told) in
          subst (Told nets (sys ++ above)) (sym c.in-Split.is)
          (split_closed nets (sys ++ above) u at c.in-Split.low c.in-Split.high
          (record { minus_fits = m.0; next_fits = x.0; low_told = first; high_told = second }))),
      (λ p.
          let split = split_opened nets (sys ++ above) u at c.in-Split.low c.in-Split.high (subst (Told nets (sys ++ above)) c.in-Split.is p) in
          c.closes_below-then-closes_below.ensures.1
          (from_child nets sys above _ (at_least u (at +ℤ pos 1)) c.get-then-closes_below.result.now c.in-Split.high f c.get-then-closes_below.ensures split.high_told)),
    )

pub returns-else-closes_below : goal.returns-else-closes_below
returns-else-closes_below t c =
    let nets = c.args.system.now.nets in
    let sys = rows_of c.args.system.now in
    let above = constraints_above c.args.above.now in
    let u = c.in-Split.unknown in
    let at = c.in-Split.at in
    let fa : SFits w128 c.in-Split.at = search rules in
    let m = rw (to_z-of_z w128 _ fa) at c.in-Some.ensures in
    let fm : SFits w128 c.in-Some.minus = rw m.1 m.0 in
    let e = with_constant ((u, pos 1) ∷ []) _ (neg_ℤ at) (to_z-of_z w128 _ fm ∙ m.1) in (
      (λ told. let both : false ≡ true = sym c.if-closes_below.false ∙ told in absurd (cc)),
      (λ p.
          let split = split_opened nets (sys ++ above) u at c.in-Split.low c.in-Split.high (subst (Told nets (sys ++ above)) c.in-Split.is p) in
          c.closes_below.ensures.1
          (from_child nets sys above _ (at_most u at) c.get.result.now c.in-Split.low e c.get.ensures split.low_told)),
    )

pub returns-then-closes_below-2 : goal.returns-then-closes_below-2
returns-then-closes_below-2 t c =
    let nets = c.args.system.now.nets in
    let sys = rows_of c.args.system.now in
    let above = constraints_above c.args.above.now in
    let cut = c.in-Some-get.cut.now in
    let states = c.in-SetSplit.states in
    let found : slice_get nets c.in-SetSplit.net ≡ Some cut = sym c.in-Some-get.ensures.value in
    let outside : contains_number cut.start states ≡ true → ⊥ =
    λ h. let both : false ≡ true = sym c.if-contains.false ∙ c.contains.ensures ∙ ap (contains_number cut.start) c.as_slice-set.ensures ∙ h in absurd (cc) in
    let e : constraint_of_branch (NoneOut c.in-Some-get.cut c.as_slice-set.result) ≡ none_out cut states = ap (none_out cut) c.as_slice-set.ensures in
    let f : constraint_of_branch (SomeIn c.in-Some-get.cut c.as_slice-set.result) ≡ some_in cut states = ap (some_in cut) c.as_slice-set.ensures in
    let first : Told nets ((sys ++ above) ++ none_out cut states ∷ []) c.in-SetSplit.none = to_child nets sys above _ (none_out cut states) c.get-in-SetSplit-2.result.now c.in-SetSplit.none e c.get-in-SetSplit-2.ensures (c.closes_below-in-SetSplit.ensures.0 c.if-closes_below-2.true) in (
      (λ told.
          let second : Told nets ((sys ++ above) ++ some_in cut states ∷ []) c.in-SetSplit.some = to_child nets sys above _ (some_in cut states) c.get-then-closes_below-2.result.now c.in-SetSplit.some f c.get-then-closes_below-2.ensures (c.closes_below-then-closes_below-2.ensures.0 told) in
          subst (Told nets (sys ++ above)) (sym c.in-SetSplit.is)
          (set_split_closed nets (sys ++ above) c.in-SetSplit.net cut states c.in-SetSplit.none c.in-SetSplit.some found
          (record { outside = outside; none_told = first; some_told = second }))),
      (λ p.
          let split = set_split_opened nets (sys ++ above) c.in-SetSplit.net cut states c.in-SetSplit.none c.in-SetSplit.some found (subst (Told nets (sys ++ above)) c.in-SetSplit.is p) in
          c.closes_below-then-closes_below-2.ensures.1
          (from_child nets sys above _ (some_in cut states) c.get-then-closes_below-2.result.now c.in-SetSplit.some f c.get-then-closes_below-2.ensures split.some_told)),
    )

pub returns-else-closes_below-2 : goal.returns-else-closes_below-2
returns-else-closes_below-2 t c =
    let nets = c.args.system.now.nets in
    let sys = rows_of c.args.system.now in
    let above = constraints_above c.args.above.now in
    let cut = c.in-Some-get.cut.now in
    let states = c.in-SetSplit.states in
    let found : slice_get nets c.in-SetSplit.net ≡ Some cut = sym c.in-Some-get.ensures.value in
    let e : constraint_of_branch (NoneOut c.in-Some-get.cut c.as_slice-set.result) ≡ none_out cut states = ap (none_out cut) c.as_slice-set.ensures in (
      (λ told. let both : false ≡ true = sym c.if-closes_below-2.false ∙ told in absurd (cc)),
      (λ p.
          let split = set_split_opened nets (sys ++ above) c.in-SetSplit.net cut states c.in-SetSplit.none c.in-SetSplit.some found (subst (Told nets (sys ++ above)) c.in-SetSplit.is p) in
          c.closes_below-in-SetSplit.ensures.1
          (from_child nets sys above _ (none_out cut states) c.get-in-SetSplit-2.result.now c.in-SetSplit.none e c.get-in-SetSplit-2.ensures split.none_told)),
    )

pub returns-in-Farkas : goal.returns-in-Farkas
returns-in-Farkas t c =
    let s = c.args.system.now in
    let rows = node_rows c.args.system.now c.args.above.now in
    let e = rw (c.as_slice.ensures, c.as_slice-in-Farkas.ensures) at c.is_farkas.ensures in (
      (λ told. subst (Told s.nets rows) (sym c.in-Farkas.is) (farkas_closed s.nets rows c.in-Farkas.multipliers (e.0 told))),
      (λ p. e.1 (farkas_opened s.nets rows c.in-Farkas.multipliers (subst (Told s.nets rows) c.in-Farkas.is p))),
    )

pub returns-in-Divisor : goal.returns-in-Divisor
returns-in-Divisor t c =
    let s = c.args.system.now in
    let rows = node_rows c.args.system.now c.args.above.now in
    let fd : SFits w128 c.in-Divisor.divisor = search rules in
    let e = rw (c.as_slice-in-Divisor.ensures, c.as_slice-in-Divisor-2.ensures, to_z-of_z w128 _ fd) at c.is_divisor.ensures in (
      (λ told. subst (Told s.nets rows) (sym c.in-Divisor.is) (divisor_closed s.nets rows c.in-Divisor.multipliers c.in-Divisor.divisor (e.0 told))),
      (λ p. e.1 (divisor_opened s.nets rows c.in-Divisor.multipliers c.in-Divisor.divisor (subst (Told s.nets rows) c.in-Divisor.is p))),
    )

pub returns-in-Open : goal.returns-in-Open
returns-in-Open t c =
    let s = c.args.system.now in
    let rows = node_rows c.args.system.now c.args.above.now in
    ((λ f. absurd (cc)), (λ p. absurd (open_opened s.nets rows (subst (Told s.nets rows) c.in-Open.is p))))
