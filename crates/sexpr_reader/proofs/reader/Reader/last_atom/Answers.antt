use Rattle.std.proofs.Common.{◌≡◌, [], refl, sym, subst, List, ℕ, Bool, true, drop, length, arith, length-drop}
use Rattle.std.proofs.lemmas.List.{nil_from_length}
use Rattle.sexpr_reader.specs.Bytes.{is_border}
use Rattle.sexpr_reader.specs.Lexes.{EndsOrPasses}
use Rattle.sexpr_reader.proofs.reader.Reader.last_atom.Goals as goal

nothing_ahead : (q : ℕ → Bool) (p : List ℕ) (i : ℕ) → length p ≡ i → EndsOrPasses q true (drop i p)
nothing_ahead q p i e =
    let ahead : drop i p ≡ [] = nil_from_length _ (omega (arith, length-drop i p)) in
    subst (EndsOrPasses q true) (sym ahead) refl

pub returns-in-Run-clause-steps : goal.returns-in-Run-clause-steps
returns-in-Run-clause-steps c = λ bytes given s. c.run.ensures.steps true bytes given (nothing_ahead is_border c.args.self.now.pending.items c.args.self.now.at c.requires) s
