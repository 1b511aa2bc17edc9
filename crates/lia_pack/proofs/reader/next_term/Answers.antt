use Rattle.std.proofs.Common.{rules, ◌∷◌, refl, arith}
use Rattle.std.specs.Int.{w128}
use Rattle.std.proofs.lemmas.Int.{to_z-of_z}
use mir.Val.{SFits}
use Rattle.lia_pack.specs.Numbers.{folded}
use Rattle.lia_pack.proofs.reader.next_term.Goals as goal

pub overflow_cast-unknown : goal.overflow_cast-unknown
overflow_cast-unknown c =
    let k = c.next_number-unknown.ensures c.requires.0.0 (folded c.requires.0.1 ∷ c.requires.1.0) c.requires.1.1.1 in
    omega (arith, k.0, c.requires.1.1.0)

pub next_number-requires : goal.next_number-requires
next_number-requires c =
    let k = c.next_number-unknown.ensures c.requires.0.0 (folded c.requires.0.1 ∷ c.requires.1.0) c.requires.1.1.1 in
    (folded c.requires.0.1, (c.requires.1.0, k.1))

pub returns : goal.returns
returns c = λ t ns lt say.
    let k = c.next_number-unknown.ensures t.0 (folded t.1 ∷ ns) say in
    let j = c.next_number.ensures (folded t.1) ns k.1 in
    let fits : SFits w128 c.unfold_sign-coefficient.result = search rules in
    (rw (to_z-of_z w128 _ fits, k.0, c.unfold_sign-coefficient.ensures t.1 j.0) refl, j.1)
