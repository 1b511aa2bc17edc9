use Rattle.std.proofs.Common.{◌≡◌, arith, pos, subst}
use Rattle.std.proofs.lemmas.Int.{ints}
use Rattle.std.specs.Int.{w128}
use mir.Val.{to_z}
use Rattle.literal_forms.specs.Linear.{length_of, of_number, written}
use Rattle.literal_forms.specs.Numbered.{IsNumbered}
use Rattle.literal_forms.specs.Shapes.{seen}
use Rattle.literal_forms.proofs.Combined.{literal_length, other_length}
use Rattle.literal_forms.proofs.forms.length_form.Goals as goal

pub returns-in-Text-clause-form : goal.returns-in-Text-clause-form
returns-in-Text-clause-form c =
    let e : to_z w128 c.len.result ≡ pos c.len.result = omega (arith, ints) in
    literal_length c.args.unknowns.now.codes c.args.term.now c.in-Text.word c.len.result c.number.result c.in-Text.is c.len.ensures (subst (λ z. IsNumbered c.args.unknowns.now.codes (of_number z) c.number.result) e (c.number.ensures c.args.unknowns.now.codes))

pub returns : goal.returns
returns c =
    let u = c.in_ok-coded_form.ensures (length_of (written (seen c.args.term.now))) c.in_ok-code.ensures in
    record { more = u.more; form = other_length c.args.unknowns.now.codes c.coded_form.new.unknowns.codes c.args.term.now c.in_ok-coded_form.field-0 c.in_default.not-Text u }
