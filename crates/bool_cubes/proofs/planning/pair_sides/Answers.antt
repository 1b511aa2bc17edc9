use Rattle.std.proofs.Common.{sym, ◌∙◌, inl, inr}
use Rattle.bool_cubes.proofs.Steps.{answered_as, equal_boolean, equal_whole, equal_text, equal_language}
use Rattle.bool_cubes.proofs.planning.pair_sides.Goals as goal

pub returns-in-Bool : goal.returns-in-Bool
returns-in-Bool c =
    let e = sym c.head_sort.ensures ∙ c.in-Bool.is in
    answered_as c.args.plan.now.nodes c.agreement.new.self.nodes c.agreement.result _ _ (equal_boolean c.args.left.now c.args.right.now e) (c.agreement.ensures _ _ ((c.requires.left e).stands _) ((c.requires.right e).stands _))

pub returns-in-Int : goal.returns-in-Int
returns-in-Int c = answered_as c.args.plan.now.nodes c.equal_numbers.new.self.nodes c.equal_numbers.result _ _ (equal_whole c.args.left.now c.args.right.now (sym c.head_sort.ensures ∙ c.in-Int.is)) c.equal_numbers.ensures

pub returns-in-String : goal.returns-in-String
returns-in-String c = elim c.in-String.is [
  | inl e ↦ answered_as c.args.plan.now.nodes c.comparison.new.self.nodes c.comparison.result _ _ (equal_text c.args.left.now c.args.right.now (sym c.head_sort.ensures ∙ e)) c.comparison.ensures
  | inr e ↦ answered_as c.args.plan.now.nodes c.comparison.new.self.nodes c.comparison.result _ _ (equal_language c.args.left.now c.args.right.now (sym c.head_sort.ensures ∙ e)) c.comparison.ensures
]
