use Rattle.std.proofs.Common.{map, take}
use Rattle.smt_names.specs.Form.{seen}
use Rattle.term_walk.specs.Meant.{Scope, meant, meant_value}
use Rattle.term_walk.specs.Walks.{Each, Bound, Read}
use Rattle.term_walk.proofs.Reading.{gathered, single}
use Rattle.term_walk.proofs.walk.+read.Given as goal

-- what was read so far
abbrev pub invariant-read_all-loop-item : goal.invariant-read_all-loop-item
invariant-read_all-loop-item l = (s : Scope) → Bound l.fn.walk.draft l.fn.walk.scope s → Read Each (λ t. gathered (λ f. single (meant t l.symbols s f)) (map seen (take l.item-index l.items))) l.fn.walk l.walk l.all

abbrev pub invariant-read_values-loop-binding : goal.invariant-read_values-loop-binding
invariant-read_values-loop-binding l = (s : Scope) → Bound l.fn.walk.draft l.fn.walk.scope s → Read Bound (λ t. gathered (meant_value t l.symbols s) (map seen (take l.binding-index l.bindings))) l.fn.walk l.walk l.all
