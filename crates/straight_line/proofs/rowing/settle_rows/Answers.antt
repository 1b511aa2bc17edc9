use Rattle.std.proofs.Common.{◌≡◌, ◌∙◌, ◌<◌, ap, sym, subst, inl, inr, length, get_or, false, arith, ℕ}
use Rattle.std.specs.List.{AllZip}
use Rattle.straight_line.specs.Columns.{AreNumbersWithin, IsRenumberedRow, Rises, has_entry}
use Rattle.straight_line.proofs.Numbered.{rows_numbered}
use Rattle.straight_line.proofs.Rowed.{counted, excess_is, integers_are, register_count, registers_are, rows_are}
use Rattle.straight_line.proofs.rowing.settle_rows.Goals as goal

pub returns-then-registers-gt-MOST_REGISTERS-clause-exact : goal.returns-then-registers-gt-MOST_REGISTERS-clause-exact
returns-then-registers-gt-MOST_REGISTERS-clause-exact c = λ ts bs z.
    let count = ap length c.as_slice.ensures ∙ c.in_ok-used.ensures.count ∙ c.len.ensures in
    let exact : (u : ℕ) → u < length c.args.quantities → get_or c.as_slice.result.now u false ≡ has_entry c.args.rows.now u = λ u l. ap (λ z. get_or z u false) c.as_slice.ensures ∙ c.in_ok-used.ensures.exact u (subst (λ z. u < z) (sym c.len.ensures) l) in
    excess_is c.args.of.now ts bs c.args.quantities c.len-registers.result c.excess.result (inl (c.len-registers.ensures ∙ register_count (λ i. get_or c.args.of.now i 0) c.args.quantities c.as_slice.result.now c.in_ok-kept.kept c.in_ok-kept.ensures ts bs c.args.rows.now z count exact)) c.if-registers-gt-MOST_REGISTERS.true c.excess.ensures

pub returns-then-integers-gt-MOST_REGISTERS-clause-exact : goal.returns-then-integers-gt-MOST_REGISTERS-clause-exact
returns-then-integers-gt-MOST_REGISTERS-clause-exact c = λ ts bs z.
    let count = ap length c.as_slice.ensures ∙ c.in_ok-used.ensures.count ∙ c.len.ensures in
    let exact : (u : ℕ) → u < length c.args.quantities → get_or c.as_slice.result.now u false ≡ has_entry c.args.rows.now u = λ u l. ap (λ z. get_or z u false) c.as_slice.ensures ∙ c.in_ok-used.ensures.exact u (subst (λ z. u < z) (sym c.len.ensures) l) in
    excess_is c.args.of.now ts bs c.args.quantities c.len-integers.result c.excess-then-integers-gt-MOST_REGISTERS.result (inr (c.len-integers.ensures ∙ ap length (integers_are (λ i. get_or c.args.of.now i 0) c.args.quantities c.as_slice.result.now c.in_ok-kept.kept c.in_ok-kept.ensures ts bs c.args.rows.now z count exact))) c.if-integers-gt-MOST_REGISTERS.true c.excess-then-integers-gt-MOST_REGISTERS.ensures

pub renumber_all-requires-clause-integers_rise : goal.renumber_all-requires-clause-integers_rise
renumber_all-requires-clause-integers_rise c = subst (λ z. Rises z) (sym c.as_slice-2.ensures) (counted (λ i. get_or c.args.of.now i 0) c.args.quantities c.as_slice.result.now c.in_ok-kept.kept c.in_ok-kept.ensures).0.rising

pub renumber_all-requires-clause-registers_rise : goal.renumber_all-requires-clause-registers_rise
renumber_all-requires-clause-registers_rise c = subst (λ z. Rises z) (sym c.as_slice-3.ensures) (counted (λ i. get_or c.args.of.now i 0) c.args.quantities c.as_slice.result.now c.in_ok-kept.kept c.in_ok-kept.ensures).1.rising

pub renumber_all-requires-clause-integers_within : goal.renumber_all-requires-clause-integers_within
renumber_all-requires-clause-integers_within c = subst (λ z. AreNumbersWithin z c.as_slice-2.result.now) (sym c.len-integers.ensures) (subst (λ z. AreNumbersWithin (length c.in_ok-kept.kept.integers) z) (sym c.as_slice-2.ensures) (counted (λ i. get_or c.args.of.now i 0) c.args.quantities c.as_slice.result.now c.in_ok-kept.kept c.in_ok-kept.ensures).0.within)

pub renumber_all-requires-clause-registers_within : goal.renumber_all-requires-clause-registers_within
renumber_all-requires-clause-registers_within c =
    let w = subst (λ z. AreNumbersWithin (length c.in_ok-kept.kept.registers) z) (sym c.as_slice-3.ensures) (counted (λ i. get_or c.args.of.now i 0) c.args.quantities c.as_slice.result.now c.in_ok-kept.kept c.in_ok-kept.ensures).1.within in
    λ u k e. let l = w u k e in let n = c.len-registers.ensures in let m = c.if-registers-gt-MOST_REGISTERS.false in omega arith

pub returns-clause-exact : goal.returns-clause-exact
returns-clause-exact c = λ ts bs z.
    let count = ap length c.as_slice.ensures ∙ c.in_ok-used.ensures.count ∙ c.len.ensures in
    let exact : (u : ℕ) → u < length c.args.quantities → get_or c.as_slice.result.now u false ≡ has_entry c.args.rows.now u = λ u l. ap (λ z. get_or z u false) c.as_slice.ensures ∙ c.in_ok-used.ensures.exact u (subst (λ z. u < z) (sym c.len.ensures) l) in
    let k = c.in_ok-kept.kept in
    let g1 = subst (λ n. AllZip (IsRenumberedRow n c.as_slice-2.result.now c.as_slice-3.result.now) c.args.rows.now c.in_ok-rows.rows) c.len-integers.ensures c.in_ok-rows.ensures in
    let g2 = subst (λ n. AllZip (IsRenumberedRow (length c.in_ok-kept.kept.integers) n c.as_slice-3.result.now) c.args.rows.now c.in_ok-rows.rows) c.as_slice-2.ensures g1 in
    let g3 = subst (λ n. AllZip (IsRenumberedRow (length c.in_ok-kept.kept.integers) c.in_ok-kept.kept.integer_numbers n) c.args.rows.now c.in_ok-rows.rows) c.as_slice-3.ensures g2 in
    record {
      integers = integers_are (λ i. get_or c.args.of.now i 0) c.args.quantities c.as_slice.result.now c.in_ok-kept.kept c.in_ok-kept.ensures ts bs c.args.rows.now z count exact;
      registers = registers_are (λ i. get_or c.args.of.now i 0) c.args.quantities c.as_slice.result.now c.in_ok-kept.kept c.in_ok-kept.ensures ts bs c.args.rows.now z count exact;
      rows = rows_are (λ i. get_or c.args.of.now i 0) c.args.quantities c.as_slice.result.now c.in_ok-kept.kept c.in_ok-kept.ensures ts bs c.args.rows.now z count exact c.in_ok-rows.rows g3;
      few_registers = let n = c.len-registers.ensures in let m = c.if-registers-gt-MOST_REGISTERS.false in omega arith;
      few_integers = let n = c.len-integers.ensures in let m = c.if-integers-gt-MOST_REGISTERS.false in omega arith;
    }

pub returns-clause-numbered : goal.returns-clause-numbered
returns-clause-numbered c = λ s.
    let k = counted (λ i. get_or c.args.of.now i 0) c.args.quantities c.as_slice.result.now c.in_ok-kept.kept c.in_ok-kept.ensures in
    let g1 = subst (λ n. AllZip (IsRenumberedRow n c.as_slice-2.result.now c.as_slice-3.result.now) c.args.rows.now c.in_ok-rows.rows) c.len-integers.ensures c.in_ok-rows.ensures in
    let g2 = subst (λ n. AllZip (IsRenumberedRow (length c.in_ok-kept.kept.integers) n c.as_slice-3.result.now) c.args.rows.now c.in_ok-rows.rows) c.as_slice-2.ensures g1 in
    let g3 = subst (λ n. AllZip (IsRenumberedRow (length c.in_ok-kept.kept.integers) c.in_ok-kept.kept.integer_numbers n) c.args.rows.now c.in_ok-rows.rows) c.as_slice-3.ensures g2 in
    rows_numbered (length c.in_ok-kept.kept.integers) (length c.in_ok-kept.kept.registers) c.in_ok-kept.kept.integer_numbers c.in_ok-kept.kept.register_numbers k.0.rising k.1.rising k.0.within k.1.within c.args.rows.now c.in_ok-rows.rows s g3
