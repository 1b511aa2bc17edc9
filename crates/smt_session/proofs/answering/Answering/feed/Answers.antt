use Rattle.std.proofs.Common.{◌++◌, false, arith, length-append}
use Rattle.std.proofs.lemmas.Result.{err_from_is_err_and}
use Rattle.smt_session.proofs.Turns.{cut_here, written_on}
use Rattle.smt_session.proofs.answering.Answering.feed.Goals as goal

pub returns-in_default-clause-err : goal.returns-in_default-clause-err
returns-in_default-clause-err c = λ bytes a b h.
    let piece = c.args.piece.now in
    cut_here false (bytes ++ piece) h.items c.args.self.now.session c.args.self.now.replies a b
    (written_on false false bytes (bytes ++ piece) (h.written.rest ++ piece) h.items c.args.self.now.session c.args.self.now.replies a b h.written (c.more_bytes_may_follow.ensures.items false bytes piece h.items h.written.rest h.written.begins))

pub returns-in_err-feed-clause-err : goal.returns-in_err-feed-clause-err
returns-in_err-feed-clause-err c =
    let exit = err_from_is_err_and c.from_residual.result c.from_residual.ensures.1 in
    let piece = c.args.piece.now in
    rw (exit.1) (λ bytes a b h.
    cut_here false (bytes ++ piece) h.items c.args.self.now.session c.args.self.now.replies a b
    (written_on false false bytes (bytes ++ piece) (h.written.rest ++ piece) h.items c.args.self.now.session c.args.self.now.replies a b h.written (c.more_bytes_may_follow.ensures.items false bytes piece h.items h.written.rest h.written.begins)))

pub returns-clause-ok : goal.returns-clause-ok
returns-clause-ok c = λ bytes a b h.
    let piece = c.args.piece.now in record {
      items = h.items;
      stands = c.in_ok-feed.ensures.fed bytes h.items h.stands;
      written = written_on false false bytes (bytes ++ piece) (h.written.rest ++ piece) h.items c.args.self.now.session c.args.self.now.replies a b h.written (c.more_bytes_may_follow.ensures.items false bytes piece h.items h.written.rest h.written.begins);
      fed = omega (arith, h.fed, length-append bytes piece, c.in-Some.ensures);
    }
