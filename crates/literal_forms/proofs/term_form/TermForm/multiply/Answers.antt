use Rattle.std.proofs.Common.{rules}
use Rattle.std.specs.Int.{w128}
use Rattle.std.proofs.lemmas.Int.{to_z-of_z}
use mir.Val.{SFits, to_z, of_z}
use Rattle.literal_forms.proofs.Formed.{product_left, product_right}
use Rattle.literal_forms.proofs.term_form.TermForm.multiply.Goals as goal

pub returns-then-other : goal.returns-then-other
returns-then-other c us a b n h k =
    let f : SFits w128 c.args.other.now.form.constant = search rules in
    product_right us a b c.args.self.now c.args.other.now n h k c.scale.result (to_z w128 (of_z w128 c.args.other.now.form.constant)) (to_z-of_z w128 c.args.other.now.form.constant f) c.if-other.true c.scale.ensures

pub returns-else-other : goal.returns-else-other
returns-else-other c us a b n h k =
    let f : SFits w128 c.args.self.now.form.constant = search rules in
    product_left us a b c.args.self.now c.args.other.now n h k c.scale-else-other.result (to_z w128 (of_z w128 c.args.self.now.form.constant)) (to_z-of_z w128 c.args.self.now.form.constant f) c.if-other.false c.scale-else-other.ensures
