use Rattle.std.proofs.Common.{◌++◌, codes}
use Rattle.generated_script.specs.Blocks.{assertions, line}
use Rattle.generated_script.proofs.Lines.{more-behind}
use Rattle.generated_script.proofs.shape.Shape.push_block.Goals as goal

pub returns : goal.returns
returns c =
    let text = c.args.text.now.items in
    let level = line (codes "(push 1)") in
    let first = level ++ line (codes "(declare-const x String)") in
    let both = first ++ line (codes "(declare-const y String)") in
    let asserted = both ++ assertions c.args.self c.args.number in
    let asked = asserted ++ line (codes "(check-sat)") in
    more-behind text c.push_line-4.new.text.items c.push_line-5.new.text.items asked (line (codes "(pop 1)"))
    (more-behind text c.push_assertions.new.text.items c.push_line-4.new.text.items asserted (line (codes "(check-sat)"))
    (more-behind text c.push_line-3.new.text.items c.push_assertions.new.text.items both (assertions c.args.self c.args.number)
    (more-behind text c.push_line-2.new.text.items c.push_line-3.new.text.items first (line (codes "(declare-const y String)"))
    (more-behind text c.push_line.new.text.items c.push_line-2.new.text.items level (line (codes "(declare-const x String)")) c.in_ok-push_line.ensures c.in_ok-push_line-2.ensures)
    c.in_ok-push_line-3.ensures) c.in_ok-push_assertions.ensures) c.in_ok-push_line-4.ensures) c.in_ok-push_line-5.ensures
