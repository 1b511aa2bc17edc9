use Rattle.machine_meet.proofs.ProductLemmas.{nothing-made}
use Rattle.machine_meet.proofs.product.nothing.Goals as goal

pub returns-clause-exact : goal.returns-clause-exact
returns-clause-exact g c =
    (nothing-made c.args.width c.in_ok-all.field-0 c.in_ok-zeros.field-0 c.new.result c.new-all.result c.push.new.self c.in_ok-all.ensures.set c.in_ok-all.ensures.inhabited c.in_ok-zeros.ensures c.new.ensures c.new-all.ensures
    c.in_ok-push.ensures.ok).0

pub returns-clause-inhabited : goal.returns-clause-inhabited
returns-clause-inhabited g c =
    (nothing-made c.args.width c.in_ok-all.field-0 c.in_ok-zeros.field-0 c.new.result c.new-all.result c.push.new.self c.in_ok-all.ensures.set c.in_ok-all.ensures.inhabited c.in_ok-zeros.ensures c.new.ensures c.new-all.ensures
    c.in_ok-push.ensures.ok).1
