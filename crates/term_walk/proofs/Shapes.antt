-- Forms with the indices that a function takes.
use Rattle.std.proofs.Common.{◌≡◌, refl, ◌<◌, ◌≤◌, List, [], ◌∷◌, length, map, Err, arith}
use Rattle.sexpr_reader.specs.declared.sexpr.Sexpr.{Sexpr}
use Rattle.smt_names.specs.Form.{forms, seen}
use Rattle.smt_names.specs.Shapes.{none-seen, one-seen, two-seen, first-seen}
use Rattle.smt_names.specs.declared.check_fault.CheckFault.TheVariants as fault
use Rattle.term_walk.specs.Meant.{powered, charred, looped}

pub power-many : (xs : List Sexpr) → 2 ≤ length xs → powered (forms (map seen xs)) ≡ Err fault.Index
power-many [] h = absurd (omega arith)
power-many (a ∷ []) h = absurd (omega arith)
power-many (a ∷ b ∷ xs) h = refl

pub power-none : (xs : List Sexpr) → length xs < 1 → powered (forms (map seen xs)) ≡ Err fault.Index
power-none [] h = refl
power-none (a ∷ xs) h = absurd (omega arith)

pub char-many : (xs : List Sexpr) → 2 ≤ length xs → charred (forms (map seen xs)) ≡ Err fault.Index
char-many [] h = absurd (omega arith)
char-many (a ∷ []) h = absurd (omega arith)
char-many (a ∷ b ∷ xs) h = refl

pub char-none : (xs : List Sexpr) → length xs < 1 → charred (forms (map seen xs)) ≡ Err fault.Index
char-none [] h = refl
char-none (a ∷ xs) h = absurd (omega arith)

pub loop-many : (xs : List Sexpr) → 3 ≤ length xs → looped (forms (map seen xs)) ≡ Err fault.Index
loop-many [] h = absurd (omega arith)
loop-many (a ∷ []) h = absurd (omega arith)
loop-many (a ∷ b ∷ []) h = absurd (omega arith)
loop-many (a ∷ b ∷ c ∷ xs) h = refl

pub loop-few : (xs : List Sexpr) → length xs < 2 → looped (forms (map seen xs)) ≡ Err fault.Index
loop-few [] h = refl
loop-few (a ∷ []) h = refl
loop-few (a ∷ b ∷ xs) h = absurd (omega arith)

pub ruleset indices = (none-seen, one-seen, two-seen, first-seen, power-many, power-none, char-many, char-none, loop-many, loop-few)
