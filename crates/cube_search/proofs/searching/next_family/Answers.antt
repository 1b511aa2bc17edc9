use Rattle.std.proofs.Common.{ap, sym, ◌∙◌, Err, inl, inr}
use Rattle.cube_search.specs.Allowances.{is_bounded}
use Rattle.cube_search.proofs.searching.next_family.Goals as goal

pub returns-in_err-next-clause-refused : goal.returns-in_err-next-clause-refused
returns-in_err-next-clause-refused c = λ n e.
    let d = rw e at c.from_residual.ensures.1 in
    c.most_states-limit.ensures (c.in_err-next.ensures.refused n (ap Err (sym d)))

pub returns-in_err-spend-clause-refused : goal.returns-in_err-spend-clause-refused
returns-in_err-spend-clause-refused c = λ n e.
    let d = rw e at c.from_residual-in_err-spend.ensures.1 in
    elim (c.spend.ensures n (c.in_err-spend.was ∙ ap Err (sym d))) [ inl part ↦ ap is_bounded part | inr little ↦ ap is_bounded little.1 ]
