use Rattle.std.proofs.Common.{refl, ◌<◌, length, arith}
use Rattle.std.specs.Char.{is_ascii_hexdigit}
use Rattle.std.proofs.lemmas.List.Folds.{list_all_more}
use Rattle.smt_names.proofs.Values.{hex-fits, hex-more, hex-next}
use Rattle.smt_names.proofs.token.hexadecimals.Goals as goal

pub overflow_mul-n : goal.overflow_mul-n
overflow_mul-n c = let k : c.loop-digit.n < 65536 = hex-fits c.loop-digit.n c.loop-digit.digit-index (length c.args.digits.now) c.loop-digit.invariant.2 c.loop-digit-test.true c.requires in omega arith

pub overflow_add-n : goal.overflow_add-n
overflow_add-n c = let k : c.loop-digit.n < 65536 = hex-fits c.loop-digit.n c.loop-digit.digit-index (length c.args.digits.now) c.loop-digit.invariant.2 c.loop-digit-test.true c.requires in let d : c.in_ok-n.field-0 < 16 = c.in_ok-n.ensures.2 in omega arith

pub loop-digit-preserved : goal.loop-digit-preserved
loop-digit-preserved c = (
  hex-more c.args.digits.now c.loop-digit.n c.in_ok-n.field-0 c.loop-digit.digit-index c.loop-digit-test.true c.loop-digit.invariant.0 c.in_ok-n.ensures.1,
  rw (list_all_more is_ascii_hexdigit c.args.digits.now c.loop-digit.digit-index 0 c.loop-digit-test.true, c.loop-digit.invariant.1, c.in_ok-n.ensures.0) refl,
  hex-next c.loop-digit.n c.in_ok-n.field-0 c.loop-digit.digit-index c.loop-digit.invariant.2 c.in_ok-n.ensures.2,
)
