-- What an identifier stands for, as the walk holds it.
use Rattle.term_walk.specs.declared.head.Head.{Head as Held}
use Rattle.term_walk.specs.declared.head.Head.TheVariants as v
use Rattle.term_walk.specs.Meant.{Head, theory, constant, macro, machine}

abbrev pub kept : Held → Head
kept (v.Theory f) = theory f
kept (v.Constant n s) = constant n s
kept (v.Macro m) = macro m.parameters.now m.body.now
kept (v.Machine t) = machine t.now
