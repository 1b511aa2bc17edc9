use Rattle.std.proofs.Common.{◌∙◌, ap, subst, sym, length}
use Rattle.std.proofs.lemmas.List.{length-replicate}
use Rattle.straight_line.specs.Filling.{AreNumbersBelow, free_variable, named_all, parted_all}
use Rattle.straight_line.proofs.filling.variables.Goals as goal

pub add_names-requires-clause-places : goal.add_names-requires-clause-places
add_names-requires-clause-places c = c.requires.places

pub add_names-requires-clause-numbers : goal.add_names-requires-clause-numbers
add_names-requires-clause-numbers c = subst (λ n. AreNumbersBelow n c.args.of.now) (sym (ap length c.in_ok-variables.ensures ∙ length-replicate c.args.count free_variable)) c.requires.numbers

pub add_parts-requires-clause-numbers : goal.add_parts-requires-clause-numbers
add_parts-requires-clause-numbers c = subst (λ n. AreNumbersBelow n c.args.of.now) (sym (c.add_names.ensures.count ∙ ap length c.in_ok-variables.ensures ∙ length-replicate c.args.count free_variable)) c.requires.numbers

pub add_parts-requires-clause-parts : goal.add_parts-requires-clause-parts
add_parts-requires-clause-parts c = c.requires.parts

pub returns : goal.returns
returns c = c.from_vec.ensures ∙ c.in_ok-add_parts.ensures ∙ ap (parted_all c.args.of.now c.args.parts) (c.in_ok-add_names.ensures.named ∙ ap (named_all c.args.of.now c.args.names) c.in_ok-variables.ensures)
