use Rattle.std.proofs.Common.{◌+◌, ◌-◌, ◌++◌, refl, sym, ap, ◌∙◌, subst, ℕ, Some, take, drop, arith, get_or}
use Rattle.sexpr_reader.specs.declared.kind.TokenKind.TheVariants.{Quoted}
use Rattle.sexpr_reader.specs.Items.{tokens_of_all, open_tokens}
use Rattle.sexpr_reader.specs.Tokens.{Atomic, IsQuoted}
use Rattle.sexpr_reader.proofs.Levels.{levels-word}
use Rattle.sexpr_reader.proofs.Moves.{quoted}
use Rattle.sexpr_reader.proofs.Readers.{stands_token}
use Rattle.sexpr_reader.proofs.Shapes.{part_more}
use Rattle.sexpr_reader.proofs.reader.Reader.close_quote.Goals as goal

pub returns-clause-steps : goal.returns-clause-steps
returns-clause-steps c = λ ended bytes given s.
    let r = c.args.self.now in
    let p = r.pending.items in
    let token = part_more p s.at.part r.start r.at s.at.split r.order r.within c.requires.within in
    let q = quoted r.mode (get_or p r.at 0) s.at.blank s.at.part c.requires.acts s.at.gap s.at.begun in
    let bs = take (r.at + 1 - r.start) (drop r.start p) in
    let is : IsQuoted bs = subst IsQuoted (sym token) q.1 in
    stands_token ended r c.finish.new.self bytes given s (Atomic Quoted bs) (r.at + 1) c.in_ok-finish.field-0 (omega (arith, r.order)) (omega arith) q.0 refl is tt c.in_ok-finish.ensures.ok
    (levels-word _ (tokens_of_all given ++ open_tokens r.nest.lists.items) Quoted bs s.at.level ∙ ap (λ (n : ℕ). Some n) (sym c.in_ok-finish.ensures.len)) c.in_ok-finish.ensures.settled
