use Rattle.std.proofs.Common.{◌∙◌, ap, ◌++◌, ◌∷◌, [], arith}
use Rattle.sv_word.proofs.JoinLemmas.{joined-touching, joined-behind, ends-last}
use Rattle.sv_word.specs.Words.{greatest_character}
use Rattle.sv_word.proofs.ranges.push_joined.Goals as goal

pub overflow_add-last : goal.overflow_add-last
overflow_add-last c =
    let top = ends-last greatest_character c.args.pairs.now.items c.pop.new.self.items c.in-Some.last c.requires c.in-Some.ensures.items in
    omega arith

pub returns-in_ok-push-in-Some : goal.returns-in_ok-push-in-Some
returns-in_ok-push-in-Some c =
    c.in_ok-push-in-Some.ensures.ok
    ∙ ap (λ m. c.pop.new.self.items ++ (c.in-Some.last.0, m) ∷ []) c.max.ensures
    ∙ joined-touching c.args.pairs.now.items c.pop.new.self.items c.in-Some.last c.args.pair c.in-Some.ensures.items c.if-pair-last.true

pub returns-in_ok-push-in-Some-2-2 : goal.returns-in_ok-push-in-Some-2-2
returns-in_ok-push-in-Some-2-2 c =
    c.in_ok-push-in-Some-2-2.ensures.ok
    ∙ ap (λ l. l ++ c.args.pair ∷ []) c.in_ok-push-in-Some-2.ensures.ok
    ∙ joined-behind c.args.pairs.now.items c.pop.new.self.items c.in-Some.last c.args.pair c.in-Some.ensures.items (omega (arith, c.if-pair-last.false))
