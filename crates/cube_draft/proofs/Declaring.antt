-- What a new key does to a map.
use Rattle.indexmap.proofs.CallerLemmas.{insert_entry-new}

pub ruleset declaring = (insert_entry-new)
