use Rattle.std.proofs.Common.{◌≤◌, List, subst, arith}
use Rattle.machine_core.specs.declared.run.Run.{Run}
use Rattle.std.proofs.Common.{ℕ, ◌∙◌, ap, map, ◌<◌}
use Rattle.search_hits.specs.Hits.{characters}
use Rattle.leaf_solve.proofs.RunLemmas.{few-characters}
use Rattle.leaf_solve.proofs.RegionLemmas.{shortest-hit, long-words, words-decided, not-within}
use Rattle.leaf_solve.proofs.words.by_words.Goals as goal

pub hits_are_short-requires : goal.hits_are_short-requires
hits_are_short-requires c = c.requires.asked.registers

pub returns-in_ok-integers-clause-answer : goal.returns-in_ok-integers-clause-answer
returns-in_ok-integers-clause-answer c = record {
  is_hit = shortest-hit c.args.question.now.machines.now _ c.args.question.now.integers c.args.question.now.rows.now c.args.runs c.in_ok-integers.integers c.requires.no_rows c.in_ok-integers.ensures c.requires.shortest;
  within = subst (λ (l : List (Run ℕ)). characters l ≤ c.args.question.now.reach) c.as_slice.ensures (c.are_within.ensures.0 c.if-are_within.true);
}

pub returns-in_ok-words-clause-answer : goal.returns-in_ok-words-clause-answer
returns-in_ok-words-clause-answer c =
    let long = subst (λ (l : List (Run ℕ)). c.args.question.now.reach < characters l) c.as_slice.ensures (not-within (characters c.as_slice.result.now) c.args.question.now.reach c.are_within.result c.are_within.ensures.1 c.if-are_within.false) in
    long-words c.args.question.now.machines.now c.args.question.now.integers c.args.question.now.rows.now c.args.question.now.region.now c.args.question.now.small c.args.question.now.reach c.requires.asked c.hits_are_short.ensures
    c.args.runs c.in_ok-words.words c.requires.no_rows c.requires.shortest long (c.in_ok-words.ensures ∙ ap (map (λ (run : Run ℕ). run.word)) c.as_slice-else-are_within.ensures)

pub returns-in_ok-words-clause-decided : goal.returns-in_ok-words-clause-decided
returns-in_ok-words-clause-decided c = λ fits.
    let long = subst (λ (l : List (Run ℕ)). c.args.question.now.reach < characters l) c.as_slice.ensures (not-within (characters c.as_slice.result.now) c.args.question.now.reach c.are_within.result c.are_within.ensures.1 c.if-are_within.false) in
    let few = few-characters c.words_are_short.ensures c.args.question.now.machines.now c.args.runs c.requires.shortest in
    absurd (omega arith)

pub returns-in_ok-words-clause-small : goal.returns-in_ok-words-clause-small
returns-in_ok-words-clause-small c = λ is.
    let long = subst (λ (l : List (Run ℕ)). c.args.question.now.reach < characters l) c.as_slice.ensures (not-within (characters c.as_slice.result.now) c.args.question.now.reach c.are_within.result c.are_within.ensures.1 c.if-are_within.false) in
    words-decided c.args.question.now.machines.now c.args.question.now.integers c.args.question.now.rows.now c.args.question.now.region.now c.args.question.now.small c.args.question.now.reach c.requires.asked c.hits_are_short.ensures
    c.args.runs c.requires.no_rows c.requires.shortest long is
