use Rattle.std.proofs.Common.{rules, ◌^◌, ◌∷◌, ◌++◌, length, sym, ◌∙◌, subst}
use Rattle.std.specs.Int.{w128}
use Rattle.std.specs.List.{flat_map}
use Rattle.std.proofs.lemmas.Int.{to_z-of_z}
use mir.Val.{SFits}
use Rattle.sv_linear.specs.Terms.{AscendsWithin}
use Rattle.lia_pack.specs.Numbers.{folded}
use Rattle.lia_pack.specs.Tables.{term_numbers}
use Rattle.lia_pack.proofs.Unpacking.{terms_below, row_is}
use Rattle.lia_pack.proofs.reader.next_form.Goals as goal

pub next_number-requires : goal.next_number-requires
next_number-requires c =
    let r = c.requires.0 in
    let ns = c.requires.1.0 in
    let k = c.next_number-count.ensures (length r.form.coefficients) (folded r.form.constant ∷ (flat_map term_numbers r.form.coefficients ++ ns)) c.requires.1.1.1 in
    (folded r.form.constant, (flat_map term_numbers r.form.coefficients ++ ns, k.1))

pub next_terms-requires : goal.next_terms-requires
next_terms-requires c =
    let r = c.requires.0 in
    let ns = c.requires.1.0 in
    let k = c.next_number-count.ensures (length r.form.coefficients) (folded r.form.constant ∷ (flat_map term_numbers r.form.coefficients ++ ns)) c.requires.1.1.1 in
    let j = c.next_number.ensures (folded r.form.constant) (flat_map term_numbers r.form.coefficients ++ ns) k.1 in
    (r.form.coefficients, (ns, (sym k.0, (terms_below 0 r.form.coefficients r.form.ascending, j.1))))

pub invariant_of-result : goal.invariant_of-result
invariant_of-result c =
    let r = c.requires.0 in
    let ns = c.requires.1.0 in
    let k = c.next_number-count.ensures (length r.form.coefficients) (folded r.form.constant ∷ (flat_map term_numbers r.form.coefficients ++ ns)) c.requires.1.1.1 in
    let j = c.next_number.ensures (folded r.form.constant) (flat_map term_numbers r.form.coefficients ++ ns) k.1 in
    let w = c.in_ok-coefficients.ensures r.form.coefficients ns (sym k.0) (terms_below 0 r.form.coefficients r.form.ascending) j.1 in
    record { ascending = subst (AscendsWithin 0 (2 ^ 32)) (sym w.0) r.form.ascending }

pub returns : goal.returns
returns c = λ r ns kind say.
    let k = c.next_number-count.ensures (length r.form.coefficients) (folded r.form.constant ∷ (flat_map term_numbers r.form.coefficients ++ ns)) say in
    let j = c.next_number.ensures (folded r.form.constant) (flat_map term_numbers r.form.coefficients ++ ns) k.1 in
    let w = c.in_ok-coefficients.ensures r.form.coefficients ns (sym k.0) (terms_below 0 r.form.coefficients r.form.ascending) j.1 in
    let fits : SFits w128 c.unfold_sign-constant.result = search rules in
    (row_is r c.in_ok-coefficients.coefficients _ c.args.kind _ w.0 (to_z-of_z w128 _ fits ∙ c.unfold_sign-constant.ensures r.form.constant j.0) (sym kind), w.1)
