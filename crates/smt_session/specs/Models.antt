-- The model that is made of the values of a verdict. Nothing public rests on it.
use Rattle.std.specs.Prelude.{nat_eq, List, [], ◌∷◌}
use Rattle.std.specs.Map.{lookup}
use Rattle.std.specs.Cmp.Lexicographic.{pointwise}
use Rattle.assert_stack.specs.Levels.{Symbol}
use Rattle.assertion_parts.specs.Filling.{or_default}
use Rattle.sv_terms.specs.Meaning.{Named}
use Rattle.sv_terms.specs.declared.entry.Entry.TheVariants.{Constant, Macro, Machine}

-- a value for each declared constant, in order: the one of the verdict where that has its sort, else the default
abbrev pub model_of : Named → List Symbol → Named
model_of values [] = []
model_of values ((name, Constant s) ∷ symbols) = (name, or_default s (lookup (pointwise nat_eq name) values)) ∷ model_of values symbols
model_of values ((name, Macro parameters body) ∷ symbols) = model_of values symbols
model_of values ((name, Machine t) ∷ symbols) = model_of values symbols
