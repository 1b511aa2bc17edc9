use Rattle.std.proofs.Common.{sym, ap, ◌∙◌}
use Rattle.sv_terms.specs.declared.term.Term.TheVariants as v
use Rattle.sv_terms.proofs.term.+copy.Goals as goal

pub Term::copy-returns-in_ok-copy-in-Text : goal.Term::copy-returns-in_ok-copy-in-Text
Term::copy-returns-in_ok-copy-in-Text t c = ap v.Text c.in_ok-copy-in-Text.ensures ∙ sym c.in-Text.is

pub Term::copy-returns-in_ok-copy-in-Constant : goal.Term::copy-returns-in_ok-copy-in-Constant
Term::copy-returns-in_ok-copy-in-Constant t c = ap (λ n. v.Constant n c.in-Constant.sort) c.in_ok-copy-in-Constant.ensures ∙ sym c.in-Constant.is

pub Term::copy-returns-in_ok-copy_terms-in-Apply : goal.Term::copy-returns-in_ok-copy_terms-in-Apply
Term::copy-returns-in_ok-copy_terms-in-Apply t c = ap (v.Apply c.in-Apply.op) (c.in_ok-copy_terms-in-Apply.ensures ∙ c.as_slice.ensures) ∙ sym c.in-Apply.is

pub Term::copy-returns-in_ok-copy-in-InRe : goal.Term::copy-returns-in_ok-copy-in-InRe
Term::copy-returns-in_ok-copy-in-InRe t c = (λ i. v.InRe (c.in_ok-term-in-InRe.ensures i) (c.in_ok-copy-in-InRe.ensures i)) ∙ sym c.in-InRe.is

pub Term::copy-returns-in_ok-written-in-Related : goal.Term::copy-returns-in_ok-written-in-Related
Term::copy-returns-in_ok-written-in-Related t c =
    (λ i. v.Related (c.in_ok-transducer-in-Related.ensures i) (c.in_ok-read-in-Related.ensures i) (c.in_ok-written-in-Related.ensures i)) ∙ sym c.in-Related.is
