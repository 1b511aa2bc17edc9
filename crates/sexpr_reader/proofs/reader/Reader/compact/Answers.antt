use Rattle.std.proofs.Common.{◌≡◌, ◌+◌, ◌-◌, refl, ap, ◌∙◌, ℕ, take, drop, length, arith, length-drop}
use Rattle.sexpr_reader.proofs.Readers.{at_same}
use Rattle.std.proofs.Math.Seq.{take-append_seam}
use Rattle.std.proofs.lemmas.List.{drop-drop}
use Rattle.sexpr_reader.proofs.reader.Reader.compact.Goals as goal

pub returns-clause-kept : goal.returns-clause-kept
returns-clause-kept c =
    let r = c.args.self.now in
    let p = r.pending.items in
    let long : c.len.result - r.start ≡ length (drop r.start p) = omega (arith, c.len.ensures, length-drop r.start p) in
    let kept : c.truncate.new.self.items ≡ drop r.start p = c.truncate.ensures.items ∙ ap (λ (n : ℕ). take n c.rotate_left.new.self.items) long ∙ ap (take (length (drop r.start p))) c.rotate_left.ensures.items ∙ take-append_seam (drop r.start p) (take r.start p) in
    kept

pub returns-clause-stands : goal.returns-clause-stands
returns-clause-stands c = λ ended bytes given s.
    let r = c.args.self.now in
    let p = r.pending.items in
    let long : c.len.result - r.start ≡ length (drop r.start p) = omega (arith, c.len.ensures, length-drop r.start p) in
    let kept : c.truncate.new.self.items ≡ drop r.start p = c.truncate.ensures.items ∙ ap (λ (n : ℕ). take n c.rotate_left.new.self.items) long ∙ ap (take (length (drop r.start p))) c.rotate_left.ensures.items ∙ take-append_seam (drop r.start p) (take r.start p) in
    let whole : r.start + (r.at - r.start) ≡ r.at = omega (arith, r.order) in
    record { at = at_same ended r.mode r.mode r.nest.lists.items r.nest.lists.items r.place r.place _ _ _ _ bytes given s.at refl refl refl kept (ap (drop (r.at - r.start)) kept ∙ drop-drop (r.at - r.start) r.start p ∙ ap (λ (n : ℕ). drop n p) whole) }
