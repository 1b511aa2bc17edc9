use Rattle.generated_script.proofs.Lines.{line-behind}
use Rattle.generated_script.proofs.shape.push_line.Goals as goal

pub returns : goal.returns
returns c = line-behind c.args.text.now.items c.extend_from_slice.new.self.items c.push.new.self.items c.args.sentence.now c.in_ok-extend_from_slice.ensures.items c.in_ok-push.ensures.items
