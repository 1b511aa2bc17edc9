use Rattle.std.proofs.Common.{◌≡◌, ◌∙◌}
use Rattle.std.specs.List.{remove}
use Rattle.flat_cubes.specs.declared.variable.Own.TheVariants.{InRe}
use Rattle.length_parts.specs.Steps.{parted}
use Rattle.length_parts.proofs.RewriteLemmas.{part-written}
use Rattle.length_parts.proofs.rewriting.with_part.Goals as goal

pub returns : goal.returns
returns c =
    let variables : c.from_vec.result ≡ parted (InRe c.args.regex) c.args.variable c.args.flat.variables =
    c.from_vec.ensures ∙ part-written (InRe c.args.regex) c.args.variable c.args.flat.variables c.into_vec-list.result.items c.index_mut.result.now c.push.new.self c.into_vec-list.ensures c.index_mut.ensures.value c.in_ok-push.ensures.ok c.requires.variable in
    let rows : c.remove-row.new.self ≡ remove c.args.flat.rows c.args.at = c.remove-row.ensures.rest in
    λ i. record { variables = variables i; definitions = c.args.flat.definitions; rows = rows i; registers = c.args.flat.registers; integers = c.args.flat.integers; truths = c.args.flat.truths; broken = c.args.flat.broken }
