use Rattle.std.proofs.Common.{◌≡◌, ℕ, ◌+◌, take, [], ◌∷◌, ◌++◌, length, vec_len, sym, ◌∙◌, ap, arith, subst, append_assoc, length-append}
use Rattle.std.specs.List.{AllZip}
use Rattle.par_phase.specs.Shares.{first_of, share_of}
use Rattle.par_phase.proofs.Cuts.{one_more_share, part_at}
use Rattle.par_phase.proofs.run.join_outcomes.Goals as goal

pub loop-part-preserved : goal.loop-part-preserved
loop-part-preserved g c =
    let yielded = c.loop-part.yielded in
    let part = c.in-Some.part in
    let rest = c.next.new.self.rest.items in
    let outcomes = c.in_ok-outcomes.outcomes in
    let jobs = c.args.jobs.now in
    let shares = vec_len c.args.parts in
    let is : c.args.parts.items ≡ yielded ++ part ∷ rest = c.loop-part.invariant.1 ∙ ap (λ r. yielded ++ r) c.in-Some.ensures.steps.0 in
    let mine = part_at (λ n v. AllZip g.J.Job.Yields (share_of jobs shares n) v.items) _ yielded rest part outcomes (λ n d h. c.requires.each n d (omega (arith, h, c.args.parts.ok.0))) is c.in_ok-outcomes.was in
    let longer : length (yielded ++ part ∷ []) ≡ length yielded + 1 = length-append yielded (part ∷ []) in
    let P : ℕ → Type 0 = λ n. AllZip g.J.Job.Yields (take (first_of (length jobs) shares n) jobs) c.append.new.self.items in (
      subst P (sym longer) (one_more_share g.J.Job.Yields _ _ _ _ shares (length yielded) c.in_ok-append.ensures.items mine c.loop-part.invariant.0),
      is ∙ sym (append_assoc yielded (part ∷ []) rest),
    )
