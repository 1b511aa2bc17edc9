use Rattle.std.proofs.Common.{rules}
use Rattle.generated_script.proofs.Lines.{numbered-behind}
use Rattle.generated_script.proofs.shape.push_numbered.Goals as goal

pub returns : goal.returns
returns c = numbered-behind c.args.text.now.items c.extend_from_slice.new.self.items c.extend_from_slice-2.new.self.items c.extend_from_slice-3.new.self.items c.push.new.self.items c.args.before.now c.args.after.now c.args.number (search rules) (search rules) (search rules) (search rules)
