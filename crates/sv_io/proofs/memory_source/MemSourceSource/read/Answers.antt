use Rattle.std.proofs.Common.{◌≡◌, ◌∙◌, ◌≤◌, ◌+◌, ◌++◌, List, ℕ, ap, length, take, drop, arith, rules}
use Rattle.std.proofs.lemmas.List.{drop_all}
use Rattle.sv_io.proofs.Given.{given_front, given_more}
use Rattle.sv_io.proofs.memory_source.MemSourceSource.read.Goals as goal

pub returns-clause-bytes : goal.returns-clause-bytes
returns-clause-bytes c =
    let inside = c.self.inside in
    let count = c.min-count.result in
    let fits : inside.at + count ≤ length inside.bytes.items = omega arith in
    let left : c.args.self.now.left ≡ drop inside.at inside.bytes.items = search rules in (
      left ∙ (given_front inside.at count inside.bytes.items c.copy_from_slice.new.self _ (rw c.deref.ensures.value at c.copy_from_slice.ensures.after) fits),
      λ none long. let past : length inside.bytes.items ≤ inside.at + count = omega arith in drop_all _ _ past,
    )

pub returns-clause-given : goal.returns-clause-given
returns-clause-given c =
    let inside = c.self.inside in
    let count = c.min-count.result in
    let fits : inside.at + count ≤ length inside.bytes.items = omega arith in
    let given : take inside.at inside.bytes.items ≡ c.args.self.now.given = search rules in
    given_more inside.at count inside.bytes.items c.copy_from_slice.new.self _ (rw c.deref.ensures.value at c.copy_from_slice.ensures.after) fits ∙ ap (λ (l : List ℕ). l ++ take count (c.copy_from_slice.new.self ++ drop count c.args.buffer.now)) given
