use Rattle.std.proofs.Common.{subst, Err, rules}
use Rattle.std.specs.Int.{w128}
use Rattle.std.proofs.lemmas.Int.{to_z-of_z}
use Rattle.std.proofs.lemmas.Result.{err_from_is_err_and}
use mir.Val.{SFits, to_z, of_z}
use Rattle.literal_forms.specs.Linear.{scaled, scaling}
use Rattle.literal_forms.specs.Numbered.{IsFormOrPast, IsNumbered}
use Rattle.literal_forms.specs.Past.{ArePlain}
use Rattle.std.specs.Prelude.{[], ◌∷◌}
use Rattle.literal_forms.proofs.Formed.{scaled_err, scaled_formed, scaled_plain, term_form_of}
use Rattle.literal_forms.proofs.term_form.TermForm.scale.Goals as goal

pub returns : goal.returns
returns c us a n h =
    let f : SFits w128 c.args.by = search rules in
    subst (λ z. ArePlain (scaling a z ∷ []) × IsNumbered us (scaled a z) (term_form_of c.in_ok-form.form c.args.self.now.constant)) (to_z-of_z w128 c.args.by f)
    (scaled_plain us a c.args.self.now (to_z w128 (of_z w128 c.args.by)) h c.in_ok-form.ensures.past, scaled_formed us a c.args.self.now (to_z w128 (of_z w128 c.args.by)) c.in_ok-form.form h c.in_ok-form.ensures.value)

pub returns-in_err-form : goal.returns-in_err-form
returns-in_err-form c us a n h =
    let f : SFits w128 c.args.by = search rules in
    let exit = err_from_is_err_and c.from_residual.result c.from_residual.ensures.1 in
    rw (exit.1, exit.2) (subst (λ z. IsFormOrPast us (scaled a z) (scaling a z ∷ []) (Err c.in_err-form.field-0.0)) (to_z-of_z w128 c.args.by f)
    (scaled_err us a c.args.self.now (to_z w128 (of_z w128 c.args.by)) n h c.in_err-form.field-0.0 c.in_err-form.ensures.past))
