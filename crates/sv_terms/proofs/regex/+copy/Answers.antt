use Rattle.std.proofs.Common.{sym, ap, ◌∙◌}
use Rattle.sv_terms.specs.declared.regex.Regex.TheVariants as v
use Rattle.sv_terms.proofs.regex.+copy.Goals as goal

pub Regex::copy-returns-in_ok-copy-in-Text : goal.Regex::copy-returns-in_ok-copy-in-Text
Regex::copy-returns-in_ok-copy-in-Text t c = ap v.Text c.in_ok-copy-in-Text.ensures ∙ sym c.in-Text.is

pub Regex::copy-returns-in_ok-copy_regexes-in-Concat : goal.Regex::copy-returns-in_ok-copy_regexes-in-Concat
Regex::copy-returns-in_ok-copy_regexes-in-Concat t c = ap v.Concat (c.in_ok-copy_regexes-in-Concat.ensures ∙ c.as_slice.ensures) ∙ sym c.in-Concat.is

pub Regex::copy-returns-in_ok-copy_regexes-in-Union : goal.Regex::copy-returns-in_ok-copy_regexes-in-Union
Regex::copy-returns-in_ok-copy_regexes-in-Union t c = ap v.Union (c.in_ok-copy_regexes-in-Union.ensures ∙ c.as_slice-in-Union.ensures) ∙ sym c.in-Union.is

pub Regex::copy-returns-in_ok-copy_regexes-in-Inter : goal.Regex::copy-returns-in_ok-copy_regexes-in-Inter
Regex::copy-returns-in_ok-copy_regexes-in-Inter t c = ap v.Inter (c.in_ok-copy_regexes-in-Inter.ensures ∙ c.as_slice-in-Inter.ensures) ∙ sym c.in-Inter.is

pub Regex::copy-returns-in_ok-copy_regexes-in-Diff : goal.Regex::copy-returns-in_ok-copy_regexes-in-Diff
Regex::copy-returns-in_ok-copy_regexes-in-Diff t c = ap v.Diff (c.in_ok-copy_regexes-in-Diff.ensures ∙ c.as_slice-in-Diff.ensures) ∙ sym c.in-Diff.is

pub Regex::copy-returns-in_ok-copy_part-in-Star : goal.Regex::copy-returns-in_ok-copy_part-in-Star
Regex::copy-returns-in_ok-copy_part-in-Star t c = ap v.Star c.in_ok-copy_part-in-Star.ensures ∙ sym c.in-Star.is

pub Regex::copy-returns-in_ok-copy_part-in-Plus : goal.Regex::copy-returns-in_ok-copy_part-in-Plus
Regex::copy-returns-in_ok-copy_part-in-Plus t c = ap v.Plus c.in_ok-copy_part-in-Plus.ensures ∙ sym c.in-Plus.is

pub Regex::copy-returns-in_ok-copy_part-in-Opt : goal.Regex::copy-returns-in_ok-copy_part-in-Opt
Regex::copy-returns-in_ok-copy_part-in-Opt t c = ap v.Opt c.in_ok-copy_part-in-Opt.ensures ∙ sym c.in-Opt.is

pub Regex::copy-returns-in_ok-copy_part-in-Comp : goal.Regex::copy-returns-in_ok-copy_part-in-Comp
Regex::copy-returns-in_ok-copy_part-in-Comp t c = ap v.Comp c.in_ok-copy_part-in-Comp.ensures ∙ sym c.in-Comp.is

pub Regex::copy-returns-in_ok-copy_part-in-Loop : goal.Regex::copy-returns-in_ok-copy_part-in-Loop
Regex::copy-returns-in_ok-copy_part-in-Loop t c = ap (λ r. v.Loop r c.in-Loop.i c.in-Loop.j) c.in_ok-copy_part-in-Loop.ensures ∙ sym c.in-Loop.is
