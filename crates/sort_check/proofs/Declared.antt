-- What `declare-fun` makes of three parts.
use Rattle.std.proofs.Common.{◌≡◌, sym, ap, ◌∙◌, ◌<◌, ◌≤◌, Bool, true, false, List, [], ◌∷◌, length, map, get_or, Result, Err, arith}
use Rattle.sexpr_reader.specs.declared.sexpr.Sexpr.{Sexpr}
use Rattle.smt_names.specs.declared.check_fault.CheckFault.{CheckFault}
use Rattle.smt_names.specs.declared.check_fault.CheckFault.TheVariants as fault
use Rattle.sort_check.specs.declared.commands.Command.{Command}
use Rattle.sort_check.specs.Checking.{declaration, declare_fun, is_empty}
use Rattle.smt_names.specs.Answering.{answers-same}
use Rattle.smt_names.specs.Faults.{Answers, need, ◌>>◌}
use Rattle.smt_names.specs.Form.{forms, seen}
use Rattle.smt_names.specs.Tokens.{listed}
use Rattle.term_walk.specs.Meant.{Names}

pub declare_fun-empty : (symbols : Names) (xs : List Sexpr) (n ps s : Sexpr) (b : Bool) (r : Result Command CheckFault) → 3 ≤ length xs → length xs < 4 → n ≡ get_or xs 0 n → ps ≡ get_or xs 1 ps → s ≡ get_or xs 2 s → b ≡ is_empty (listed (seen ps)) → b ≡ true → Answers (declaration symbols (seen n) (seen s)) r → Answers (declare_fun symbols (forms (map seen xs))) r
declare_fun-empty symbols [] n ps s b r h k e f g q t a = absurd (omega (arith, h))
declare_fun-empty symbols (x ∷ []) n ps s b r h k e f g q t a = absurd (omega (arith, h))
declare_fun-empty symbols (x ∷ y ∷ []) n ps s b r h k e f g q t a = absurd (omega (arith, h))
declare_fun-empty symbols (x ∷ y ∷ z ∷ []) n ps s b r h k e f g q t a =
    let empty : is_empty (listed (seen y)) ≡ true = ap (λ w. is_empty (listed (seen w))) (sym f) ∙ sym q ∙ t in
    answers-same (declaration symbols (seen n) (seen s)) (declare_fun symbols (forms (map seen (x ∷ y ∷ z ∷ [])))) r
    (ap (λ w. need w fault.Shape >> declaration symbols (seen x) (seen z)) empty ∙ (λ i. declaration symbols (seen (sym e i)) (seen (sym g i)))) a
declare_fun-empty symbols (x ∷ y ∷ z ∷ w ∷ xs) n ps s b r h k e f g q t a = absurd (omega (arith, k))

pub declare_fun-full : (symbols : Names) (xs : List Sexpr) (ps : Sexpr) (b : Bool) → 3 ≤ length xs → length xs < 4 → ps ≡ get_or xs 1 ps → b ≡ is_empty (listed (seen ps)) → b ≡ false → declare_fun symbols (forms (map seen xs)) ≡ Err fault.Shape
declare_fun-full symbols [] ps b h k f q t = absurd (omega (arith, h))
declare_fun-full symbols (x ∷ []) ps b h k f q t = absurd (omega (arith, h))
declare_fun-full symbols (x ∷ y ∷ []) ps b h k f q t = absurd (omega (arith, h))
declare_fun-full symbols (x ∷ y ∷ z ∷ []) ps b h k f q t =
    let full : is_empty (listed (seen y)) ≡ false = ap (λ w. is_empty (listed (seen w))) (sym f) ∙ sym q ∙ t in
    ap (λ w. need w fault.Shape >> declaration symbols (seen x) (seen z)) full
declare_fun-full symbols (x ∷ y ∷ z ∷ w ∷ xs) ps b h k f q t = absurd (omega (arith, k))
