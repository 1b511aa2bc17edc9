use Rattle.std.proofs.Common.{sym, ap, ◌∙◌, subst}
use Rattle.sv_word.specs.Ranges.{in_ranges}
use Rattle.subset_machine.proofs.GroupLemmas.{Entry, Popped, none-left, popped-start, popped-more, popped-inside, popped-all, moves-exact, moves-inhabited, moves-joined}
use Rattle.subset_machine.proofs.groups.moves_of.Goals as goal

pub loop-to-init : goal.loop-to-init
loop-to-init c = subst (Popped c.args.groups.entries c.args.groups.entries) (sym (c.in_ok-reserve.ensures ∙ c.new-moves.ensures)) (popped-start c.args.groups c.len.ensures.ordered c.requires)

pub union-requires : goal.union-requires
union-requires c =
    let e : Entry = (c.in-Some.to, c.in-Some.marks) in
    popped-inside c.args.groups.entries c.loop-to.groups.entries c.pop_first.new.self.entries c.loop-to.moves e c.as_slice.result.now c.loop-to.invariant c.in-Some.ensures.removal c.as_slice.ensures

pub loop-to-preserved : goal.loop-to-preserved
loop-to-preserved c =
    let e : Entry = (c.in-Some.to, c.in-Some.marks) in
    let on = c.in_ok-on.on in
    popped-more c.args.groups.entries c.loop-to.groups.entries c.pop_first.new.self.entries c.loop-to.moves c.push.new.self e on
    (record { on = on; cost = c.new.result; to = c.in-Some.to })
    c.in-Some.ensures.removal (λ d. c.in_ok-on.ensures d ∙ ap (λ l. in_ranges l d) c.as_slice.ensures) c.as_slice-characters.ensures.apart
    (ap (λ k. record { on = on; cost = k; to = c.in-Some.to }) c.new.ensures) c.in_ok-push.ensures.ok c.loop-to.invariant

pub returns : goal.returns
returns c =
    let all = popped-all c.args.groups.entries c.loop-to.groups.entries c.loop-to.moves c.loop-to.invariant (none-left c.loop-to.groups.entries c.in_default.ensures.variant.1) in
    record {
      exact = moves-exact c.args.groups c.len.ensures.ordered c.loop-to.moves all;
      inhabited = moves-inhabited c.args.groups c.len.ensures.ordered c.loop-to.moves all;
      joined = moves-joined c.args.groups c.len.ensures.ordered c.loop-to.moves all;
    }
