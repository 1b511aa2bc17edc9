use Rattle.std.proofs.Common.{◌||◌, Bool, sym, ap, ◌∙◌}
use Rattle.smt_session.specs.Replies.{is_error}
use Rattle.smt_session.specs.Generated.{tally_of}
use Rattle.smt_session.proofs.Turns.{error_more}
use Rattle.smt_session.proofs.log.ReplyLog.and.Goals as goal
use Rattle.smt_session.proofs.log.ReplyLog.and.Goals.{then-self, else-self}

pub invariant_of-result : goal.invariant_of-result
invariant_of-result c =
    let more = error_more c.self.inside.history.items c.and.result.items c.args.reply.now c.and.ensures in (
      elim c.if-self.branch [
        | then-self w ↦ w.result-is ∙ w.if-self.true ∙ sym (more ∙ ap (λ (b : Bool). b || is_error c.args.reply.now) (sym c.self.invariant.0 ∙ w.if-self.true))
        | else-self w ↦ w.result-is ∙ w.is_error.ensures ∙ sym (more ∙ ap (λ (b : Bool). b || is_error c.args.reply.now) (sym c.self.invariant.0 ∙ w.if-self.false))
      ],
      c.tally_with.ensures c.self.inside.history.items c.self.invariant.1 ∙ sym (ap tally_of c.and.ensures),
    )
