use Rattle.std.proofs.Common.{◌++◌, [], map, false, refl, ap, ◌∙◌, arith}
use Rattle.machine_core.specs.Edges.{EndsAt}
use Rattle.regex_machine.specs.Woven.{counted}
use Rattle.regex_machine.proofs.WordLemmas.{surely, never}
use Rattle.regex_machine.proofs.WovenLemmas.{own-below, placed-within, placed-end}
use Rattle.regex_machine.proofs.written.place_part.Goals as goal

pub count_from-requires : goal.count_from-requires
count_from-requires c m i =
    let below = own-below c.args.part.now c.requires.plain c.args.at c.args.base c.in_ok-own.own c.in_ok-own.ensures.exact c.in_ok-own.ensures.inhabited m i in
    let room = c.requires.room in
    omega arith

pub returns-then-not-may_end : goal.returns-then-not-may_end
returns-then-not-may_end c =
    placed-within c.args.part.now c.requires.plain c.args.at c.args.base c.in_ok-own.own c.in_ok-own.ensures.exact c.in_ok-own.ensures.inhabited c.args.rest.now
    (record { moves = c.in_ok-moves.moves; may_end = false }) c.in_ok-moves.ensures refl (never c.may_end.result (EndsAt c.args.part.now.ends c.args.at []) c.may_end.ensures c.if-not-may_end.true)

pub returns : goal.returns
returns c =
    let base = c.args.base in
    let own = c.in_ok-own.own in
    placed-end c.args.part.now c.requires.plain c.args.at base own c.in_ok-own.ensures.exact c.in_ok-own.ensures.inhabited c.args.rest.now
    (record { moves = c.append.new.self; may_end = c.args.rest.now.may_end })
    (c.in_ok-append.ensures.ok ∙ ap (λ l. l ++ c.in_ok-copy.field-0) c.in_ok-moves.ensures ∙ ap (λ l. map (counted base) own ++ l) c.in_ok-copy.ensures) refl
    (surely c.may_end.result (EndsAt c.args.part.now.ends c.args.at []) c.may_end.ensures c.if-not-may_end.false)
