-- What a tally of answers holds, and the verdict that it comes to.
use Rattle.std.specs.Prelude.{◌≡◌, ℕ, List, ◌++◌, length}
use Rattle.sv_terms.specs.declared.term.Term.{Term}
use Rattle.assertion_parts.specs.Firsts.{first_of}
use Rattle.cube_search.specs.declared.answer.CubeAnswer.{CubeAnswer}
use Rattle.decide.specs.Folds.{found, opens_from, refuted_from, refutation, with_first, without_sat}
use Rattle.decide.specs.declared.tally.CubeTally.{CubeTally}
use Rattle.decide.specs.declared.verdict.Verdict.{Verdict}

-- the tally of these answers: their number, the model that ends the search, the open cubes among them, and the counts of those refuted
pub record IsTallyOf (opaque : List Term) (answers : List CubeAnswer) (tally : CubeTally) : Type 0 where
  pub first : tally.opaque ≡ first_of opaque
  pub count : tally.count ≡ length answers
  pub model : tally.model ≡ found opaque answers
  pub open_cubes : tally.open_cubes ≡ opens_from 0 opaque answers
  pub refuted : tally.refuted ≡ refuted_from (refutation 0 0 0) answers

-- whatever the old tally is one of, the new one is that with these answers behind
abbrev pub IsTallyWith : List CubeAnswer → CubeTally → CubeTally → Type 0
IsTallyWith answers old new = (opaque : List Term) (before : List CubeAnswer) → IsTallyOf opaque before old → IsTallyOf opaque (before ++ answers) new

-- the verdict that a tally comes to
abbrev pub verdict_of : CubeTally → Verdict
verdict_of tally = with_first tally.model (without_sat tally.open_cubes tally.refuted)

-- so many cubes are done at once
abbrev pub batch : ℕ
batch = 64
