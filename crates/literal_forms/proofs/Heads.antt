-- The sort of a term is that of its shape.
use Rattle.std.proofs.Common.{◌≡◌, sym, ap, ◌∙◌}
use Rattle.sv_terms.specs.declared.term.Term.{Term}
use Rattle.sv_terms.specs.Sorting as term
use Rattle.sv_terms.specs.SortingLaws.{sort-Truth, sort-Number, sort-Text, sort-Constant, sort-Apply, sort-InRe, sort-Related, sort-Opaque}
use Rattle.literal_forms.specs.Shapes.{Shape, truth, number, text, constant, apply, member, related, opaque, seen, raw, raws, head_sort}
use Rattle.literal_forms.specs.Mirrors.{raw-seen}

raw-sort : (s : Shape) → term.head_sort (raw s) ≡ head_sort s
raw-sort (truth b) = sort-Truth b
raw-sort (number n) = sort-Number n
raw-sort (text w) = sort-Text w
raw-sort (constant name s) = sort-Constant name s
raw-sort (apply o ss) = sort-Apply o (raws ss)
raw-sort (member s r) = sort-InRe (raw s) r
raw-sort (related t s u) = sort-Related t (raw s) (raw u)
raw-sort (opaque s) = sort-Opaque s

pub seen-sort : (t : Term) → term.head_sort t ≡ head_sort (seen t)
seen-sort t = ap term.head_sort (sym (raw-seen t)) ∙ raw-sort (seen t)

pub ruleset heads = (seen-sort)
