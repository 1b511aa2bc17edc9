use Rattle.std.proofs.Common.{◌≡◌, ◌≤◌, ◌++◌, ap, ◌∙◌, false, drop, length, arith}
use Rattle.sexpr_reader.proofs.Places.{at_feed}
use Rattle.std.proofs.lemmas.List.{drop-append-le}
use Rattle.sexpr_reader.proofs.reader.Reader.feed.Goals as goal

pub returns-clause-fed : goal.returns-clause-fed
returns-clause-fed c = λ bytes given s.
    let r = c.args.self.now in
    let piece = c.args.piece.now in
    let grown : c.extend_from_slice.new.self.items ≡ r.pending.items ++ piece = c.in_ok-extend_from_slice.ensures.items in
    let low : r.start ≤ length r.pending.items = omega (arith, r.order, r.within) in
    record {
      at = at_feed r.mode r.nest.lists.items r.place (drop r.start r.pending.items) (drop r.at r.pending.items) bytes given s.at false piece _ _
          (ap (drop r.start) grown ∙ drop-append-le r.start r.pending.items piece low)
          (ap (drop r.at) grown ∙ drop-append-le r.at r.pending.items piece r.within);
    }
