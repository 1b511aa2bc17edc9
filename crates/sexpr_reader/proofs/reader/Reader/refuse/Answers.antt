use Rattle.std.proofs.Common.{◌+◌, ◌∷◌, inr, refl, drop, get_or}
use Rattle.sexpr_reader.specs.declared.syntax_fault.SyntaxFault.TheVariants as f
use Rattle.sexpr_reader.proofs.Readers.{fault_here}
use Rattle.sexpr_reader.proofs.Shapes.{bad_shape, kept_is}
use Rattle.sexpr_reader.proofs.reader.Reader.refuse.Goals as goal

pub returns : goal.returns
returns c = λ ended bytes given s.
    let r = c.args.self.now in
    let p = r.pending.items in
    let k = bad_shape r.mode (get_or p r.at 0) s.at.blank s.at.part c.requires.acts s.at.gap s.at.begun in
    (s, fault_here ended r bytes given s (f.Token r.place) k.gap (refl, inr (k.body, drop (r.at + 1) p, kept_is p s.at.part r.start r.at 92 (124 ∷ k.body) s.at.split c.requires.within k.is k.byte, k.barred)))
