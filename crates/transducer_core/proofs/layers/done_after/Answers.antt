use Rattle.std.proofs.Common.{◌≡◌, ◌∙◌, sym, ap, ◌++◌}
use Rattle.std.proofs.lemmas.Bool.{false≢true}
use Rattle.std.proofs.lemmas.Option.{same_Some}
use Rattle.sv_terms.specs.Transduction.{written_at}
use Rattle.transducer_core.proofs.LayerLemmas.{stands_whole}
use Rattle.transducer_core.proofs.layers.done_after.Goals as goal

pub returns : goal.returns
returns c = λ text rest m d.
    let same : text ≡ c.in-Some.text = same_Some text c.in-Some.text (sym m.3 ∙ ap (written_at c.args.c) (sym c.as_slice.ensures) ∙ sym c.in_ok-text_at.ensures ∙ c.in-Some.is) in
    let whole = stands_whole c.args.written.now c.in-Some.text rest c.args.from.now.done (d ∙ ap (λ v. v ++ rest) same) in
    let yes = c.stands_at.ensures.1 (rw (c.as_slice-in-Some.ensures, c.as_slice-in-Some-2.ensures) whole) in
    false≢true (sym c.if-stands_at.false ∙ yes)
