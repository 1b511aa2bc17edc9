-- What commands make of parts in a number that they don't take.
use Rattle.std.proofs.Common.{◌≡◌, refl, ℕ, ◌<◌, ◌≤◌, List, [], ◌∷◌, length, map, Some, Ok, Err, arith}
use Rattle.sexpr_reader.specs.declared.sexpr.Sexpr.{Sexpr}
use Rattle.smt_names.specs.declared.check_fault.CheckFault.TheVariants as fault
use Rattle.sort_check.specs.declared.commands.Command.{Command}
use Rattle.sort_check.specs.declared.commands.Command.TheVariants as command
use Rattle.sort_check.specs.Checking.{without_parts, set_logic, set_option, declare_const, declare_fun, define_fun, define_transducer, attributes, assertion, check_assuming, stepped, get_value, get_info, echo}
use Rattle.smt_names.specs.Form.{forms, end, seen}
use Rattle.term_walk.specs.Meant.{Names}
use Rattle.smt_names.specs.Shapes.{none-seen, one-seen, two-seen, first-seen, seen-Atom, seen-List}

pub without_parts-many : (c : Command) (xs : List Sexpr) → 1 ≤ length xs → without_parts c (forms (map seen xs)) ≡ Err fault.Shape
without_parts-many c [] h = absurd (omega arith)
without_parts-many c (a ∷ xs) h = refl

pub set_logic-few : (xs : List Sexpr) → length xs < 1 → set_logic (forms (map seen xs)) ≡ Err fault.Shape
set_logic-few [] h = refl
set_logic-few (a ∷ xs) h = absurd (omega arith)

pub set_logic-many : (xs : List Sexpr) → 2 ≤ length xs → set_logic (forms (map seen xs)) ≡ Err fault.Shape
set_logic-many [] h = absurd (omega arith)
set_logic-many (a ∷ []) h = absurd (omega arith)
set_logic-many (a ∷ b ∷ xs) h = refl

pub attributes-few : (xs : List Sexpr) → length xs < 2 → attributes (Some (forms (map seen xs))) ≡ end
attributes-few [] h = refl
attributes-few (a ∷ []) h = refl
attributes-few (a ∷ b ∷ xs) h = absurd (omega arith)

pub get_info-few : (xs : List Sexpr) → length xs < 1 → get_info (forms (map seen xs)) ≡ Err fault.Shape
get_info-few [] h = refl
get_info-few (a ∷ xs) h = absurd (omega arith)

pub get_info-many : (xs : List Sexpr) → 2 ≤ length xs → get_info (forms (map seen xs)) ≡ Err fault.Shape
get_info-many [] h = absurd (omega arith)
get_info-many (a ∷ []) h = absurd (omega arith)
get_info-many (a ∷ b ∷ xs) h = refl

pub echo-few : (xs : List Sexpr) → length xs < 1 → echo (forms (map seen xs)) ≡ Err fault.Shape
echo-few [] h = refl
echo-few (a ∷ xs) h = absurd (omega arith)

pub echo-many : (xs : List Sexpr) → 2 ≤ length xs → echo (forms (map seen xs)) ≡ Err fault.Shape
echo-many [] h = absurd (omega arith)
echo-many (a ∷ []) h = absurd (omega arith)
echo-many (a ∷ b ∷ xs) h = refl

pub set_option-few : (xs : List Sexpr) → length xs < 2 → set_option (forms (map seen xs)) ≡ Ok command.Unsupported
set_option-few [] h = refl
set_option-few (a ∷ []) h = refl
set_option-few (a ∷ b ∷ xs) h = absurd (omega arith)

pub set_option-many : (xs : List Sexpr) → 3 ≤ length xs → set_option (forms (map seen xs)) ≡ Ok command.Unsupported
set_option-many [] h = absurd (omega arith)
set_option-many (a ∷ []) h = absurd (omega arith)
set_option-many (a ∷ b ∷ []) h = absurd (omega arith)
set_option-many (a ∷ b ∷ d ∷ xs) h = refl

pub stepped-many : (make : ℕ → Command) (xs : List Sexpr) → 2 ≤ length xs → stepped make (forms (map seen xs)) ≡ Err fault.Shape
stepped-many make [] h = absurd (omega arith)
stepped-many make (a ∷ []) h = absurd (omega arith)
stepped-many make (a ∷ b ∷ xs) h = refl

pub declare_const-few : (symbols : Names) (xs : List Sexpr) → length xs < 2 → declare_const symbols (forms (map seen xs)) ≡ Err fault.Shape
declare_const-few symbols [] h = refl
declare_const-few symbols (a ∷ []) h = refl
declare_const-few symbols (a ∷ b ∷ xs) h = absurd (omega arith)

pub declare_const-many : (symbols : Names) (xs : List Sexpr) → 3 ≤ length xs → declare_const symbols (forms (map seen xs)) ≡ Err fault.Shape
declare_const-many symbols [] h = absurd (omega arith)
declare_const-many symbols (a ∷ []) h = absurd (omega arith)
declare_const-many symbols (a ∷ b ∷ []) h = absurd (omega arith)
declare_const-many symbols (a ∷ b ∷ d ∷ xs) h = refl

pub declare_fun-few : (symbols : Names) (xs : List Sexpr) → length xs < 3 → declare_fun symbols (forms (map seen xs)) ≡ Err fault.Shape
declare_fun-few symbols [] h = refl
declare_fun-few symbols (a ∷ []) h = refl
declare_fun-few symbols (a ∷ b ∷ []) h = refl
declare_fun-few symbols (a ∷ b ∷ d ∷ xs) h = absurd (omega arith)

pub declare_fun-many : (symbols : Names) (xs : List Sexpr) → 4 ≤ length xs → declare_fun symbols (forms (map seen xs)) ≡ Err fault.Shape
declare_fun-many symbols [] h = absurd (omega arith)
declare_fun-many symbols (a ∷ []) h = absurd (omega arith)
declare_fun-many symbols (a ∷ b ∷ []) h = absurd (omega arith)
declare_fun-many symbols (a ∷ b ∷ d ∷ []) h = absurd (omega arith)
declare_fun-many symbols (a ∷ b ∷ d ∷ e ∷ xs) h = refl

pub define_fun-few : (symbols : Names) (xs : List Sexpr) → length xs < 4 → define_fun symbols (forms (map seen xs)) ≡ Err fault.Shape
define_fun-few symbols [] h = refl
define_fun-few symbols (a ∷ []) h = refl
define_fun-few symbols (a ∷ b ∷ []) h = refl
define_fun-few symbols (a ∷ b ∷ d ∷ []) h = refl
define_fun-few symbols (a ∷ b ∷ d ∷ e ∷ xs) h = absurd (omega arith)

pub define_fun-many : (symbols : Names) (xs : List Sexpr) → 5 ≤ length xs → define_fun symbols (forms (map seen xs)) ≡ Err fault.Shape
define_fun-many symbols [] h = absurd (omega arith)
define_fun-many symbols (a ∷ []) h = absurd (omega arith)
define_fun-many symbols (a ∷ b ∷ []) h = absurd (omega arith)
define_fun-many symbols (a ∷ b ∷ d ∷ []) h = absurd (omega arith)
define_fun-many symbols (a ∷ b ∷ d ∷ e ∷ []) h = absurd (omega arith)
define_fun-many symbols (a ∷ b ∷ d ∷ e ∷ g ∷ xs) h = refl

pub define_transducer-few : (symbols : Names) (xs : List Sexpr) → length xs < 5 → define_transducer symbols (forms (map seen xs)) ≡ Err fault.Shape
define_transducer-few symbols [] h = refl
define_transducer-few symbols (a ∷ []) h = refl
define_transducer-few symbols (a ∷ b ∷ []) h = refl
define_transducer-few symbols (a ∷ b ∷ d ∷ []) h = refl
define_transducer-few symbols (a ∷ b ∷ d ∷ e ∷ []) h = refl
define_transducer-few symbols (a ∷ b ∷ d ∷ e ∷ g ∷ xs) h = absurd (omega arith)

pub define_transducer-many : (symbols : Names) (xs : List Sexpr) → 6 ≤ length xs → define_transducer symbols (forms (map seen xs)) ≡ Err fault.Shape
define_transducer-many symbols [] h = absurd (omega arith)
define_transducer-many symbols (a ∷ []) h = absurd (omega arith)
define_transducer-many symbols (a ∷ b ∷ []) h = absurd (omega arith)
define_transducer-many symbols (a ∷ b ∷ d ∷ []) h = absurd (omega arith)
define_transducer-many symbols (a ∷ b ∷ d ∷ e ∷ []) h = absurd (omega arith)
define_transducer-many symbols (a ∷ b ∷ d ∷ e ∷ g ∷ []) h = absurd (omega arith)
define_transducer-many symbols (a ∷ b ∷ d ∷ e ∷ g ∷ k ∷ xs) h = refl

pub assertion-few : (symbols : Names) (xs : List Sexpr) → length xs < 1 → assertion symbols (forms (map seen xs)) ≡ Err fault.Shape
assertion-few symbols [] h = refl
assertion-few symbols (a ∷ xs) h = absurd (omega arith)

pub assertion-many : (symbols : Names) (xs : List Sexpr) → 2 ≤ length xs → assertion symbols (forms (map seen xs)) ≡ Err fault.Shape
assertion-many symbols [] h = absurd (omega arith)
assertion-many symbols (a ∷ []) h = absurd (omega arith)
assertion-many symbols (a ∷ b ∷ xs) h = refl

pub get_value-few : (symbols : Names) (xs : List Sexpr) → length xs < 1 → get_value symbols (forms (map seen xs)) ≡ Err fault.Shape
get_value-few symbols [] h = refl
get_value-few symbols (a ∷ xs) h = absurd (omega arith)

pub get_value-many : (symbols : Names) (xs : List Sexpr) → 2 ≤ length xs → get_value symbols (forms (map seen xs)) ≡ Err fault.Shape
get_value-many symbols [] h = absurd (omega arith)
get_value-many symbols (a ∷ []) h = absurd (omega arith)
get_value-many symbols (a ∷ b ∷ xs) h = refl

pub check_assuming-few : (symbols : Names) (xs : List Sexpr) → length xs < 1 → check_assuming symbols (forms (map seen xs)) ≡ Err fault.Shape
check_assuming-few symbols [] h = refl
check_assuming-few symbols (a ∷ xs) h = absurd (omega arith)

pub check_assuming-many : (symbols : Names) (xs : List Sexpr) → 2 ≤ length xs → check_assuming symbols (forms (map seen xs)) ≡ Err fault.Shape
check_assuming-many symbols [] h = absurd (omega arith)
check_assuming-many symbols (a ∷ []) h = absurd (omega arith)
check_assuming-many symbols (a ∷ b ∷ xs) h = refl

pub ruleset annotating = (attributes-few)

pub ruleset commands = (none-seen, one-seen, two-seen, first-seen, seen-Atom, seen-List, without_parts-many, set_logic-few, set_logic-many, get_info-few, get_info-many, echo-few, echo-many, stepped-many)
