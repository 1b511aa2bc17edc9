-- What the first of a command's parts tells.
use Rattle.std.proofs.Common.{◌≡◌, refl, sym, ap, ◌∙◌, ◌-◌, ◌≤◌, Bool, true, false, List, length, map, get_or, drop, take, Option, Some, None, Result, Ok, Err}
use Rattle.std.specs.Prelude.{is_some, not, option_map}
use Rattle.sexpr_reader.specs.declared.sexpr.Sexpr.{Sexpr}
use Rattle.smt_names.specs.declared.check_fault.CheckFault.{CheckFault}
use Rattle.smt_names.specs.declared.check_fault.CheckFault.TheVariants as fault
use Rattle.smt_names.specs.declared.verb.CommandName.{CommandName}
use Rattle.sort_check.specs.declared.commands.Command.{Command}
use Rattle.sort_check.specs.declared.commands.Command.TheVariants as command
use Rattle.sort_check.specs.Checking.{begun, commanded}
use Rattle.smt_names.specs.Answering.{answers-same}
use Rattle.smt_names.specs.Faults.{Answers, need, ◌>>◌}
use Rattle.smt_names.specs.Form.{Forms, forms, seen}
use Rattle.smt_names.specs.Tokens.{symbol, word}
use Rattle.smt_names.specs.Verbs.{verb_of}
use Rattle.term_walk.specs.Meant.{Names}
use Rattle.term_walk.proofs.Termwise.{rest-seen}

mapped-some : {A B : Type 0} (f : A → B) (o : Option A) → is_some (option_map f o) ≡ is_some o
mapped-some f None = refl
mapped-some f (Some x) = refl

-- whether there is a symbol, by a test of what was found
pub tested : {A B : Type 0} (f : A → B) (o : Option A) (q : Option B) (b w : Bool) → option_map f o ≡ q → is_some o ≡ not b → b ≡ w → is_some q ≡ not w
tested f o q b w e g h = ap is_some (sym e) ∙ mapped-some f o ∙ g ∙ ap not h

module _ (symbols : Names) (xs : List Sexpr) (x : Sexpr) (h : 1 ≤ length xs) (e : x ≡ get_or xs 0 x) where
  abbrev behind : Forms
  behind = forms (map seen (take (length xs - 1) (drop 1 xs)))

  pub begun-unnamed : is_some (symbol (seen x)) ≡ false → begun symbols (forms (map seen xs)) ≡ Err fault.Shape
  begun-unnamed g = ap (begun symbols) (rest-seen xs x h e) ∙ ap (λ b. need b fault.Shape >> commanded symbols (verb_of (word (seen x))) behind) g

  module _ (g : is_some (symbol (seen x)) ≡ true) (o : Option CommandName) (v : o ≡ verb_of (word (seen x))) where
    begun-named : begun symbols (forms (map seen xs)) ≡ commanded symbols o behind
    begun-named = ap (begun symbols) (rest-seen xs x h e) ∙ ap (λ b. need b fault.Shape >> commanded symbols (verb_of (word (seen x))) behind) g ∙ ap (λ z. commanded symbols z behind) (sym v)

    pub begun-verb : (r : Result Command CheckFault) → Answers (commanded symbols o behind) r → Answers (begun symbols (forms (map seen xs))) r
    begun-verb r a = answers-same (commanded symbols o behind) (begun symbols (forms (map seen xs))) r begun-named a

    pub begun-other : o ≡ None → begun symbols (forms (map seen xs)) ≡ Ok command.Unsupported
    begun-other n = begun-named ∙ ap (λ z. commanded symbols z behind) n
