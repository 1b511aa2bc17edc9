use Rattle.box_search.proofs.ShortLemmas.{hit-short}
use Rattle.box_search.proofs.laws.hits_are_short.Goals as goal

pub returns : goal.returns
returns c = λ integers rows runs numbers h. hit-short c.args.machines.now c.args.region.now c.requires integers rows runs numbers h
