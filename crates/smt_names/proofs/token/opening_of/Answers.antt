use Rattle.std.proofs.Common.{rules, ◌≡◌, refl, arith}
use Rattle.std.specs.Prelude.{codes}
use Rattle.std.proofs.lemmas.Slice.Eq.{text_from_reads}
use Rattle.smt_names.proofs.token.opening_of.Goals as goal

pub returns-in-forall : goal.returns-in-forall
returns-in-forall c = let e : c.args.word.now ≡ codes "forall" = text_from_reads c.args.word.now (codes "forall") (omega arith) (search rules) in rw e refl

pub returns-in-exists : goal.returns-in-exists
returns-in-exists c = let e : c.args.word.now ≡ codes "exists" = text_from_reads c.args.word.now (codes "exists") (omega arith) (search rules) in rw e refl
