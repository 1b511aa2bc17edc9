use Rattle.farkas_check.specs.NodeLaws.{farkas_opened, farkas_closed, divisor_opened, divisor_closed}
use Rattle.farkas_check.proofs.laws.leaf_tests_agree.Goals as goal

pub returns-clause-farkas : goal.returns-clause-farkas
returns-clause-farkas c = λ nets rows ms. (farkas_closed nets rows ms, farkas_opened nets rows ms)

pub returns-clause-divisor : goal.returns-clause-divisor
returns-clause-divisor c = λ nets rows ms d. (divisor_closed nets rows ms d, divisor_opened nets rows ms d)
