use Rattle.std.proofs.Common.{ap, sym, ◌∙◌}
use Rattle.sv_terms.specs.declared.term.Term.TheVariants as term
use Rattle.literal_forms.proofs.Checked.{bool_apart, equality_atom, few_plain, language_apart, order_atom, other_atom_plain, string_apart}
use Rattle.literal_forms.proofs.differences.check_atom.Goals as goal

pub returns-then-terms-ne2 : goal.returns-then-terms-ne2
returns-then-terms-ne2 c = few_plain c.args.atom.now c.in-Apply.op c.as_slice-terms.result.now (c.in-Apply.is ∙ ap (term.Apply c.in-Apply.op) (sym c.as_slice-terms.ensures)) c.if-terms-ne2.true

pub returns-in-Int : goal.returns-in-Int
returns-in-Int c = equality_atom c.args.atom.now c.in-Apply.op c.as_slice-terms.result.now c.index-terms-0.result c.index-terms-1.result c.relate.result (c.in-Apply.is ∙ ap (term.Apply c.in-Apply.op) (sym c.as_slice-terms.ensures)) c.if-terms-ne2.false c.index-terms-0.is c.index-terms-1.is c.relate.ensures c.equality.result c.in-Equality.is (sym c.head_sort.ensures ∙ c.in-Int.is) c.equality.ensures

pub returns-in-Bool : goal.returns-in-Bool
returns-in-Bool c = other_atom_plain c.args.atom.now c.in-Apply.op c.as_slice-terms.result.now c.index-terms-0.result c.index-terms-1.result c.relate.result (c.in-Apply.is ∙ ap (term.Apply c.in-Apply.op) (sym c.as_slice-terms.ensures)) c.if-terms-ne2.false c.index-terms-0.is c.index-terms-1.is c.relate.ensures c.head_sort.result c.in-Equality.is c.head_sort.ensures (bool_apart c.head_sort.result c.in-Bool.is)

pub returns-in-String : goal.returns-in-String
returns-in-String c = other_atom_plain c.args.atom.now c.in-Apply.op c.as_slice-terms.result.now c.index-terms-0.result c.index-terms-1.result c.relate.result (c.in-Apply.is ∙ ap (term.Apply c.in-Apply.op) (sym c.as_slice-terms.ensures)) c.if-terms-ne2.false c.index-terms-0.is c.index-terms-1.is c.relate.ensures c.head_sort.result c.in-Equality.is c.head_sort.ensures (string_apart c.head_sort.result c.in-String.is)

pub returns-in-RegLan : goal.returns-in-RegLan
returns-in-RegLan c = other_atom_plain c.args.atom.now c.in-Apply.op c.as_slice-terms.result.now c.index-terms-0.result c.index-terms-1.result c.relate.result (c.in-Apply.is ∙ ap (term.Apply c.in-Apply.op) (sym c.as_slice-terms.ensures)) c.if-terms-ne2.false c.index-terms-0.is c.index-terms-1.is c.relate.ensures c.head_sort.result c.in-Equality.is c.head_sort.ensures (language_apart c.head_sort.result c.in-RegLan.is)

pub returns-in-Order : goal.returns-in-Order
returns-in-Order c = order_atom c.args.atom.now c.in-Apply.op c.as_slice-terms.result.now c.index-terms-0.result c.index-terms-1.result c.relate.result (c.in-Apply.is ∙ ap (term.Apply c.in-Apply.op) (sym c.as_slice-terms.ensures)) c.if-terms-ne2.false c.index-terms-0.is c.index-terms-1.is c.relate.ensures c.order.result c.in-Order.is c.order.ensures
