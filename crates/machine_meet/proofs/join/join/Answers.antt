use Rattle.std.proofs.Common.{◌∙◌}
use Rattle.std.proofs.lemmas.Bool.{and_from}
use Rattle.machine_core.proofs.LikeLemmas.{apart-inhabited}
use Rattle.sv_word.specs.Ranges.{in_ranges}
use Rattle.machine_meet.proofs.join.join.Goals as goal

pub add-requires : goal.add-requires
add-requires g c = record { same = c.requires.add.same; fits = c.requires.add.fits }

pub returns : goal.returns
returns g c =
    let both = c.requires.meet in
    record {
      on = c.in_ok-on.ensures;
      cost = c.in_ok-add.ensures;
      to = c.in_ok-cons.ensures;
      inhabited = apart-inhabited 0 c.in_ok-on.on both.0 c.as_slice-characters.ensures.apart
          (c.in_ok-on.ensures both.0 ∙ and_from (in_ranges c.args.head.now.on both.0) (in_ranges c.args.tail.now.on both.0) both.1 both.2);
    }
