use Rattle.std.proofs.lemmas.Result.{IfOk-weaker}
use Rattle.literal_forms.proofs.forms.coded_form.Goals as goal

pub returns : goal.returns
returns c u e =
    let n = c.in_ok-number.ensures u e in
    IfOk-weaker c.unknown.result _ _ (λ f h. record { more = n.more; form = h }) (c.unknown.ensures c.number.new.self.codes u n.place n.within)
