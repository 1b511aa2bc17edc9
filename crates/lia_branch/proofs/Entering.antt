-- What comes of going to one side of a split.
use Rattle.std.proofs.Common.{◌≡◌, ℕ, ◌+◌, ◌-◌, ◌<◌, List, [], ◌∷◌, ◌++◌, subst, arith}
use Rattle.std.proofs.lemmas.List.Elements.{All-get_or}
use Rattle.std.proofs.lemmas.Option.{get_or_from_slice_get, slice_get_within}
use Rattle.sv_linear.specs.declared.row.Row.{Row}
use Rattle.farkas_check.specs.Systems.{Constraint}
use Rattle.farkas_check.specs.Cuts.{IsNetWithin}
use Rattle.farkas_check.specs.declared.system.System.{System}
use Rattle.farkas_check.specs.declared.tree.Tree.{Tree}
use Rattle.farkas_check.specs.declared.tree.Tree.TheVariants as v
use Rattle.lia_tableau.specs.declared.table.Table.{Table}
use Rattle.lia_pack.specs.Tables.{IsPackedOf}
use Rattle.lia_pack.specs.declared.packed.PackedTableau.{PackedTableau}
use Rattle.lia_branch.specs.Nodes.{Node, IsRowOf, child_of}
use Rattle.lia_branch.specs.Founds.{IsReadyTableau, IsNodeClosing}
use Rattle.lia_branch.specs.Forks.{fork_tree, AreForkSides, IsForkWithin, IsForkAt, Path, IsClosing, IsResumed, IsStopping, EnteredHolds, EnteredBy, next_of, NextHolds}
use Rattle.lia_branch.specs.declared.fork.Fork.{Fork}
use Rattle.lia_branch.specs.declared.fork.Fork.TheVariants.{Unknown, Set}
use Rattle.lia_branch.specs.declared.level.SplitLevel.{SplitLevel}
use Rattle.lia_branch.specs.declared.level.SplitLevel.TheVariants.{First, Second}
use Rattle.lia_branch.specs.declared.level.Entered.{Entered}
use Rattle.lia_branch.specs.declared.level.Entered.TheVariants as entered
use Rattle.lia_branch.specs.declared.stop.StopReason.TheVariants.{Branches}
use Rattle.lia_branch.proofs.Forking.{used_up, sides_of}
use Rattle.lia_branch.proofs.Paths.{side_searched, first_path, second_path}
use Rattle.sv_linear.specs.Rows.{IsRowWithin}

entered_by : (s : System) (node : Node) (t : Table) (fork : Fork) (c : Constraint) (row : Row) → IsForkAt s node t fork → IsReadyTableau s t.rows t → IsRowOf c row → IsRowWithin s.unknowns row → (levels : List SplitLevel) (left : ℕ) → Path s levels (child_of node t c) left → 0 < left →
    (e : Entered) → EnteredHolds t row e → EnteredBy s levels left e
entered_by s node t fork c row at ready means within levels left path p (entered.Node after) h = side_searched s node t after fork c row at ready means within h.0 h.1.0 h.1.1 levels left path p
entered_by s node t fork c row at ready means within levels left path p (entered.Past stop) h = record { node = child_of node t c; left = left; path = path; stops = h node c means left }

pub entered_first : (s : System) (node : Node) (t : Table) (packed : PackedTableau) (fork : Fork) (row : Row) (below levels : List SplitLevel) (left : ℕ) → Path s below node left → 1 < left → IsForkAt s node t fork → IsReadyTableau s t.rows t → IsPackedOf t packed → levels ≡ below ++ First fork packed ∷ [] →
    ((c d : Constraint) → AreForkSides s.nets fork c d → IsRowOf c row) → IsRowWithin s.unknowns row → (e : Entered) → EnteredHolds t row e → EnteredBy s levels (left - 1) e
entered_first s node t packed fork row below levels left path more at ready is_packed grown means within e h =
    let k = sides_of s node t fork at in
    entered_by s node t fork k.0 row at ready (means k.0 k.1.0 k.1.1) within levels (left - 1)
    (first_path s below levels node left t packed fork k.0 k.1.0 grown (omega (arith, more)) path is_packed at k.1.1 ready) (omega (arith, more)) e h

pub entered_second : (s : System) (t : Table) (fork : Fork) (tree : Tree) (row : Row) (below levels : List SplitLevel) (left : ℕ) → (k : IsResumed s below left t fork tree) → 0 < left → levels ≡ below ++ Second fork tree ∷ [] →
    ((c d : Constraint) → AreForkSides s.nets fork c d → IsRowOf d row) → IsRowWithin s.unknowns row → (e : Entered) → EnteredHolds t row e → EnteredBy s levels left e
entered_second s t fork tree row below levels left k more grown means within e h =
    entered_by s k.node t fork k.second row k.waiting.at k.waiting.ready (means k.first k.second k.waiting.sides) within levels left (second_path s below levels left t fork tree grown k) more e h

pub fork_within : (s : System) (node : Node) (t : Table) (fork : Fork) → IsReadyTableau s t.rows t → IsForkAt s node t fork → IsForkWithin s fork
fork_within s node t (Unknown u at) ready f = (f.due.within, (f.due.symmetric, f.due.next_symmetric))
fork_within s node t (Set i states) ready f =
    let cut = f.due.cut in
    (cut.net, (cut.is_net, subst (IsNetWithin s.unknowns) (get_or_from_slice_get s.nets i cut.net cut.net cut.is_net) (All-get_or (IsNetWithin s.unknowns) s.nets i cut.net (slice_get_within s.nets i cut.net cut.is_net) ready.nets)))

pub entered_next : (s : System) (levels : List SplitLevel) (left : ℕ) (e : Entered) → EnteredBy s levels left e → NextHolds s levels (next_of e left)
entered_next s levels left (entered.Node after) h = h
entered_next s levels left (entered.Past stop) h = h

pub last_split : (s : System) (levels : List SplitLevel) (node : Node) (left : ℕ) (t : Table) (fork : Fork) → Path s levels node left → IsForkAt s node t fork → left ≡ 1 → IsStopping s levels (fork_tree fork v.Open v.Open) Branches
last_split s levels node left t fork path at one =
    let k = sides_of s node t fork at in
    record { node = node; left = 1; path = subst (Path s levels node) one path; stops = used_up s node t fork k.0 k.1.0 at k.1.1 }

pub leaf_closing : (s : System) (levels : List SplitLevel) (left : ℕ) (node : Node) (tree : Tree) → Path s levels node left → IsNodeClosing node tree 0 → IsClosing s levels left tree
leaf_closing s levels left node tree path h = let same : left ≡ 0 + left = omega arith in record { node = node; splits = 0; path = subst (Path s levels node) same path; closing = h }
