-- The summaries that are kept of macros.
use Rattle.std.specs.Prelude.{◌≡◌, ◌<◌, false, List, [], ◌∷◌, ◌++◌, length, Option, Some, None}
use Rattle.std.specs.Map.{lookup}
use Rattle.sv_terms.specs.declared.entry.Body.{Body}
use Rattle.sv_terms.specs.declared.entry.Entry.{Entry}
use Rattle.sv_terms.specs.declared.entry.Entry.TheVariants as entry
use Rattle.sv_terms.specs.declared.sort.Sort.{Sort}
use Rattle.smt_names.specs.Signature.{Name, same_name}
use Rattle.term_weight.specs.declared.declared.Declared.{Declared}
use Rattle.term_weight.specs.declared.declared.Declared.TheVariants as declared
use Rattle.term_weight.specs.declared.summary.Summary.{Summary}
use Rattle.term_weight.specs.Summaries.{Summarises}

-- there is a summary, which is that of the macro
abbrev pub IsSummaryOf : List (Name × Sort) → Body → Option Summary → Type 0
IsSummaryOf parameters body None = ⊥
IsSummaryOf parameters body (Some x) = Summarises x parameters body

-- where this was declared under a name, what is kept under it is its summary
pub record HasSummary (e : Entry) (kept : Option Summary) : Type 0 where
  pub is : (ps : List (Name × Sort)) (b : Body) → e ≡ entry.Macro ps b → IsSummaryOf ps b kept

-- a name that isn't declared
pub record IsUndeclared (symbols : List (Name × Entry)) (kept : List (Name × Summary)) : Type 0 where
  pub some : 0 < length kept
  pub last : (rest : List (Name × Summary)) (e : Name × Summary) → kept ≡ rest ++ e ∷ [] → lookup (same_name e.0) symbols ≡ None

-- what is kept under any other name stays
pub record KeepsOthers (n : Name) (old new : List (Name × Summary)) : Type 0 where
  pub same : (m : Name) → same_name m n ≡ false → lookup (same_name m) new ≡ lookup (same_name m) old

-- what a name was declared for
abbrev pub entry_of : Declared → Entry
entry_of (declared.Constant s) = entry.Constant s
entry_of (declared.Macro m) = entry.Macro m.parameters.now m.body.now
entry_of (declared.Machine t) = entry.Machine t.now

-- each macro among these symbols has its summary
pub record HaveSummaries (symbols : List (Name × Entry)) (kept : List (Name × Summary)) : Type 0 where
  pub found : (n : Name) (ps : List (Name × Sort)) (b : Body) → lookup (same_name n) symbols ≡ Some (entry.Macro ps b) → IsSummaryOf ps b (lookup (same_name n) kept)
