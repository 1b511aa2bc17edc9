use Rattle.sv_terms.specs.TransductionLaws.{writes_words, run_pairs, pairs_run}
use Rattle.sv_terms.proofs.laws.pairs_are_runs.Goals as goal

pub returns-clause-words : goal.returns-clause-words
returns-clause-words c = λ t read written formed p. writes_words t formed t.start read written p

pub returns-clause-run : goal.returns-clause-run
returns-clause-run c = run_pairs

pub returns-clause-pair : goal.returns-clause-pair
returns-clause-pair c = pairs_run
