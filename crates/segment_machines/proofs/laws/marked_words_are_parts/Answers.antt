use Rattle.segment_machines.specs.MarkedLaws.{marked-parts, marked-phased, marked-before, marked-part, marked-after}
use Rattle.segment_machines.proofs.laws.marked_words_are_parts.Goals as goal

pub returns-clause-parts : goal.returns-clause-parts
returns-clause-parts c = marked-parts

pub returns-clause-phased : goal.returns-clause-phased
returns-clause-phased c = marked-phased

pub returns-clause-first : goal.returns-clause-first
returns-clause-first c = marked-before

pub returns-clause-second : goal.returns-clause-second
returns-clause-second c = marked-part

pub returns-clause-third : goal.returns-clause-third
returns-clause-third c = marked-after
