use Rattle.std.proofs.Common.{rules, sym, ap, ◌∙◌, Ok}
use Rattle.sort_check.proofs.Counted.{set_option-few, set_option-many}
use Rattle.smt_names.specs.Shapes.{two-seen}
use Rattle.sort_check.specs.Checking.{set_option}
use Rattle.sort_check.proofs.options.set_option.Goals as goal
use Rattle.sort_check.proofs.options.set_option.Goals.{in_default-via-then-parts-lt2, in_default-via-else-parts-lt2+else-parts-lt3}

pub returns-in_default : goal.returns-in_default
returns-in_default c = elim c.in_default.branch [ in_default-via-then-parts-lt2 w ↦ sym (set_option-few c.args.parts.now (search rules)) | in_default-via-else-parts-lt2+else-parts-lt3 w ↦ sym (set_option-many c.args.parts.now (search rules)) ]

pub returns-in-len2 : goal.returns-in-len2
returns-in-len2 c = ap Ok c.option_command.ensures ∙ sym (ap set_option (two-seen c.args.parts.now c.first-item.result c.second-item.result c.in-len2.len_at_least c.in-len2.len_below c.first-item.is c.second-item.is))
