use Rattle.std.proofs.Common.{sym, ap, ◌∙◌, true, false, Ok}
use Rattle.sv_terms.specs.declared.sort.Sort.TheVariants as sort
use Rattle.sv_terms.specs.Sorting.{same_sort}
use Rattle.smt_names.specs.declared.check_fault.CheckFault.TheVariants as fault
use Rattle.term_weight.specs.Bodies.{body_sort, opaque}
use Rattle.smt_names.specs.Faults.{need, ◌>>◌}
use Rattle.term_walk.specs.Walks.{Here}
use Rattle.term_walk.proofs.Reading.{tested}
use Rattle.term_walk.proofs.Walking.{quantified-so}
use Rattle.term_walk.proofs.binding.quantify.Goals as goal

pub returns : goal.returns
returns c = λ x h. tested Here (λ t. Ok (opaque sort.Bool)) (same_sort sort.Bool (body_sort x)) fault.Sort c.args.walk.now c.put_opaque.new.walk c.put_opaque.result (quantified-so c.args.walk.now.draft c.args.place x true h (ap (same_sort sort.Bool) (sym c.sort.ensures) ∙ sym c.same_sort.ensures ∙ c.if-not-same_sort.false)) c.put_opaque.ensures

pub returns-then-not-same_sort : goal.returns-then-not-same_sort
returns-then-not-same_sort c = λ x h. ap (λ z. need z fault.Sort >> Ok (opaque sort.Bool)) (quantified-so c.args.walk.now.draft c.args.place x false h (ap (same_sort sort.Bool) (sym c.sort.ensures) ∙ sym c.same_sort.ensures ∙ c.if-not-same_sort.true))
