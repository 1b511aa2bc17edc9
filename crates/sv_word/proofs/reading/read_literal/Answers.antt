use Rattle.std.proofs.Common.{◌+◌, sym}
use Rattle.std.proofs.lemmas.List.{take_rest}
use Rattle.sv_word.proofs.ReadLemmas.{reading-more}
use Rattle.sv_word.proofs.reading.read_literal.Goals as goal

pub loop-place-preserved : goal.loop-place-preserved
loop-place-preserved c =
    let raw = c.args.raw.now in
    let place = c.loop-place.place in
    let rest = take_rest raw (place + 1) in
    let exact = rw rest at c.in_ok-character.ensures.exact in
    let fits = rw rest at c.in_ok-character.ensures.bytes.1 in
    rw c.in_ok-push.ensures.ok (reading-more raw place c.loop-place.word c.loop-place.invariant c.loop-place-test.true c.in_ok-character.character c.in_ok-character.len (sym exact) c.in_ok-character.ensures.bytes.0 fits)
