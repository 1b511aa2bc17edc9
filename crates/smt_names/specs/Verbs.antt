-- The words of the commands (SMT-LIB 2.6, section 3.9).
use Rattle.std.specs.Prelude.{List, [], ◌∷◌, ◌++◌, Option, Some, None, codes}
use Rattle.std.specs.Map.{lookup}
use Rattle.smt_names.specs.declared.verb.CommandName.{CommandName}
use Rattle.smt_names.specs.declared.verb.CommandName.TheVariants as verb
use Rattle.smt_names.specs.Signature.{Name, same_name}

-- the words of the commands that declare and assert, and of the others
abbrev pub script_verbs : List (Name × CommandName)
script_verbs = (codes "set-logic", verb.SetLogic) ∷ (codes "set-info", verb.SetInfo) ∷ (codes "set-option", verb.SetOption)
    ∷ (codes "declare-const", verb.DeclareConst) ∷ (codes "declare-fun", verb.DeclareFun) ∷ (codes "define-fun", verb.DefineFun)
    ∷ (codes "define-transducer", verb.DefineTransducer) ∷ (codes "assert", verb.Assert) ∷ (codes "get-value", verb.GetValue) ∷ []

abbrev pub session_verbs : List (Name × CommandName)
session_verbs = (codes "push", verb.Push) ∷ (codes "pop", verb.Pop)
    ∷ (codes "check-sat", verb.CheckSat) ∷ (codes "check-sat-assuming", verb.CheckSatAssuming) ∷ (codes "get-model", verb.GetModel)
    ∷ (codes "get-unsat-core", verb.GetUnsatCore) ∷ (codes "get-info", verb.GetInfo)
    ∷ (codes "echo", verb.Echo) ∷ (codes "reset", verb.Reset)
    ∷ (codes "reset-assertions", verb.ResetAssertions) ∷ (codes "exit", verb.Exit) ∷ []

abbrev pub verbs : List (Name × CommandName)
verbs = script_verbs ++ session_verbs

-- the command of a word, if it is one
abbrev pub verb_of : Option Name → Option CommandName
verb_of (Some w) = lookup (same_name w) verbs
verb_of None = None
