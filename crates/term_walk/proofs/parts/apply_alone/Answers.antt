use Rattle.std.proofs.Common.{sym, subst, ◌∙◌, List, ℕ}
use Rattle.term_draft.specs.Drafts.{at_places}
use Rattle.term_walk.specs.Heads.{kept}
use Rattle.term_walk.specs.Walks.{ReadsMeaning, Here, applied_head}
use Rattle.term_walk.proofs.Walking.{alone-so}
use Rattle.term_walk.proofs.parts.apply_alone.Goals as goal

pub returns : goal.returns
returns c = alone-so (kept c.args.head) c.args.walk.now c.apply.new.walk c.apply.result (sym c.takes_count.ensures ∙ c.if-not-takes_count.false) (subst (λ (ps : List ℕ). ReadsMeaning Here (λ t. applied_head (kept c.args.head) (at_places c.args.walk.now.draft ps)) c.args.walk.now c.apply.new.walk c.apply.result) c.new.ensures c.apply.ensures)
