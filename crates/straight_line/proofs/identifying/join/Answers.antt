use Rattle.std.proofs.Common.{arith, ◌∙◌, get_or, length, ◌<◌}
use Rattle.std.proofs.lemmas.List.{get_or_default}
use Rattle.straight_line.proofs.Leads.{two_lead, two_made}
use Rattle.straight_line.proofs.identifying.join.Goals as goal

pub returns-clause-joined : goal.returns-clause-joined
returns-clause-joined c = λ firsts h.
    let a = c.lead-first.result in
    let b = c.lead-second.result in
    let f = c.lead-first.ensures.first firsts h in
    let g = c.lead-first.ensures.same firsts h in
    let k = c.lead-second.ensures.first firsts g in
    let q = c.lead-second.ensures.same firsts g in
    let in_one : c.args.one < length firsts = let e = h.count in let l = c.requires.one_within in omega arith in
    let in_other : c.args.other < length firsts = let e = h.count in let l = c.requires.other_within in omega arith in
    let a_in : c.lead-first.result < length c.lead-second.new.above = let e = g.count in let d = q.count in let l = c.lead-first.ensures.within in omega arith in
    two_made firsts c.lead-second.new.above c.lead-first.result c.lead-second.result (get_or firsts c.args.one c.args.one) (get_or firsts c.args.other c.args.other) c.max.result c.min.result
    (f ∙ get_or_default firsts c.args.one 0 c.args.one in_one)
    (k ∙ get_or_default firsts c.args.other 0 c.args.other in_other)
    c.max.ensures c.min.ensures
    (two_lead firsts c.lead-first.result c.lead-second.result (g.own c.lead-first.result c.lead-first.ensures.within c.lead-first.ensures.root) (q.own c.lead-second.result c.lead-second.ensures.within c.lead-second.ensures.root)
    c.lead-second.new.above a_in c.lead-second.ensures.within c.lead-second.ensures.forest q)
