use Rattle.std.proofs.Common.{[], ◌∷◌, ◌++◌, length, ap, sym, ◌∙◌, subst}
use Rattle.std.proofs.lemmas.Bool.{false≢true}
use Rattle.machine_core.specs.Costs.{zeros}
use Rattle.box_layers.specs.Layers.{AreGoodTotals}
use Rattle.box_layers.proofs.SideLemmas.{ends-inside, ends-without, ends-there, spent-length}
use Rattle.box_layers.proofs.layers.LayersMachine.ends.Goals as goal

pub has_numbers-requires : goal.has_numbers-requires
has_numbers-requires c =
    ap length c.as_slice.ensures ∙ spent-length c.args.self.now.machines.now c.args.self.now.region.now c.args.self.now.rows.now c.args.at.now c.requires

pub returns-then-at-self : goal.returns-then-at-self
returns-then-at-self c = ends-inside c.args.self.now.machines.now c.args.self.now.region.now c.args.self.now.rows.now c.args.at.now c.new.result c.new.ensures c.if-at-self.true

pub returns-then-not-branch : goal.returns-then-not-branch
returns-then-not-branch c =
    let s = c.args.self.now in
    ends-without s.machines.now s.region.now s.rows.now c.args.at.now c.new-then-not-branch.result c.new-then-not-branch.ensures
    (λ good. false≢true (sym c.if-not-branch.true ∙ c.in_ok-has_numbers.ensures.1 (subst (AreGoodTotals s.rows.now s.region.now) (sym c.as_slice.ensures) good)))

pub returns : goal.returns
returns c =
    let s = c.args.self.now in
    let costs = c.in_ok-push.ensures.ok ∙ ap (λ l. l ++ c.in_ok-zeros.field-0 ∷ []) c.new-costs.ensures ∙ ap (λ k. k ∷ []) (c.in_ok-zeros.ensures ∙ ap zeros c.len.ensures) in
    ends-there s.machines.now s.region.now s.rows.now c.args.at.now c.push.new.self costs c.if-at-self.false
    (subst (AreGoodTotals s.rows.now s.region.now) c.as_slice.ensures (c.in_ok-has_numbers.ensures.0 c.if-not-branch.false))
