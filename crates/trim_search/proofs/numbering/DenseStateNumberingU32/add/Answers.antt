use Rattle.std.proofs.Common.{◌≡◌, ◌∙◌, ap, length, slice_set, Some}
use Rattle.trim_search.proofs.TableLemmas.{table-more, table-add}
use Rattle.trim_search.proofs.numbering.DenseStateNumberingU32.add.Goals as goal

pub invariant_of-self : goal.invariant_of-self
invariant_of-self c = table-more c.self.inside.names c.self.inside.table c.widen.new.table c.self.invariant c.widen.ensures.kept c.widen.ensures.found

pub invariant_of-self-in_err-push : goal.invariant_of-self-in_err-push
invariant_of-self-in_err-push c =
    rw c.in_err-push.ensures.err (table-more c.self.inside.names c.self.inside.table c.widen.new.table c.self.invariant c.widen.ensures.kept c.widen.ensures.found)

pub invariant_of-self-2 : goal.invariant_of-self-2
invariant_of-self-2 c =
    let table = table-more c.self.inside.names c.self.inside.table c.widen.new.table c.self.invariant c.widen.ensures.kept c.widen.ensures.found in
    let set : c.set.new.self ≡ slice_set c.widen.new.table c.args.state (Some (length c.self.inside.names)) =
    c.set.ensures ∙ ap (λ n. slice_set c.widen.new.table c.args.state (Some n)) c.len-number.ensures in
    rw (c.in_ok-push.ensures.ok, set) (table-add c.self.inside.names c.widen.new.table c.args.state table c.in_ok-widen.ensures.ok (rw c.self.view_is c.requires.new))
