use Rattle.length_parts.proofs.LengthLemmas.{words-at-least, words-at-most, words-exactly}
use Rattle.length_parts.proofs.lengths.regex_of.Goals as goal

pub returns-in_ok-regex-in-AtMost : goal.returns-in_ok-regex-in-AtMost
returns-in_ok-regex-in-AtMost c = words-at-most c.args.bound c.in-AtMost.most c.in_ok-regex-in-AtMost.regex c.in-AtMost.is c.in_ok-regex-in-AtMost.ensures

pub returns-in_ok-regex-in-AtLeast : goal.returns-in_ok-regex-in-AtLeast
returns-in_ok-regex-in-AtLeast c = words-at-least c.args.bound c.in-AtLeast.least c.in_ok-regex-in-AtLeast.regex c.in-AtLeast.is c.in_ok-regex-in-AtLeast.ensures

pub returns-in_ok-regex-in-Exactly : goal.returns-in_ok-regex-in-Exactly
returns-in_ok-regex-in-Exactly c = words-exactly c.args.bound c.in-Exactly.length c.in_ok-regex-in-Exactly.regex c.in-Exactly.is c.in_ok-regex-in-Exactly.ensures
