use Rattle.std.proofs.Common.{arith, ◌∙◌}
use Rattle.literal_forms.specs.Numbered.{place_of}
use Rattle.literal_forms.proofs.Numbers.{found, put_behind}
use Rattle.literal_forms.proofs.unknowns.Unknowns.number.Goals as goal

pub returns : goal.returns
returns c u e = put_behind c.args.self.now.codes c.push.new.self c.args.code u c.place-at.result c.in-Ok.number c.requires e (c.place-at.ensures ∙ (λ i. place_of (c.as_slice.ensures i) (c.as_slice-2.ensures i))) (omega arith) (omega (arith, c.in-Ok.ensures)) c.in_ok-push.ensures.ok

pub returns-then-at-len : goal.returns-then-at-len
returns-then-at-len c u e = found c.args.self.now.codes c.args.code u c.place-at.result c.in-Ok.number c.requires e (c.place-at.ensures ∙ (λ i. place_of (c.as_slice.ensures i) (c.as_slice-2.ensures i))) (omega arith) (omega (arith, c.in-Ok.ensures))
