-- The way from a node up to the root.
use Rattle.std.proofs.Common.{◌≡◌, ℕ, ℤ, suc, ◌+◌, ◌-◌, ◌<◌, List, [], ◌∷◌, ◌++◌, refl, ap, sym, ◌∙◌, subst, arith}
use Rattle.std.proofs.lemmas.List.{same_from_push}
use Rattle.sv_list.specs.Lists.{push-not_empty}
use Rattle.sv_linear.specs.declared.row.Row.{Row}
use Rattle.farkas_check.specs.Systems.{Constraint}
use Rattle.farkas_check.specs.declared.system.System.{System}
use Rattle.farkas_check.specs.declared.tree.Tree.{Tree}
use Rattle.farkas_check.specs.declared.tree.Tree.TheVariants as v
use Rattle.lia_tableau.specs.Adding.{IsRowAdded}
use Rattle.lia_tableau.specs.declared.table.Table.{Table}
use Rattle.lia_pack.specs.Tables.{IsPackedOf}
use Rattle.lia_pack.specs.declared.packed.PackedTableau.{PackedTableau}
use Rattle.lia_branch.specs.Nodes.{Node, IsRowOf, root_of, child_of}
use Rattle.lia_branch.specs.EvidenceHolds.{split_limit}
use Rattle.lia_branch.specs.Founds.{IsReadyTableau, IsSystemNode, IsNodeSolution, IsNodeClosing, IsNodeStop}
use Rattle.lia_branch.specs.Forks.{fork_tree, AreForkSides, IsForkAt, IsWaiting, Path, top, in_first, in_second, IsSearching, IsClosing, IsResumed, IsStopping, is_first}
use Rattle.lia_branch.specs.declared.fork.Fork.{Fork}
use Rattle.lia_branch.specs.declared.level.SplitLevel.{SplitLevel}
use Rattle.lia_branch.specs.declared.level.SplitLevel.TheVariants.{First, Second}
use Rattle.lia_branch.specs.declared.stop.StopReason.{StopReason}
use Rattle.lia_branch.proofs.Branching.{solution_above, side_ready, side_node, goes_on}
use Rattle.lia_branch.proofs.Forking.{fork_closed, stopped_first, stopped_second}
use Rattle.sv_linear.specs.Rows.{IsRowWithin}

abbrev fork_of : SplitLevel → Fork
fork_of (First f packed) = f
fork_of (Second f tree) = f

abbrev packed_of : PackedTableau → SplitLevel → PackedTableau
packed_of d (First f packed) = packed
packed_of d (Second f tree) = d

abbrev tree_of : SplitLevel → Tree
tree_of (First f packed) = v.Open
tree_of (Second f tree) = tree

pub record IsInFirst (s : System) (below : List SplitLevel) (node : Node) (left : ℕ) (packed : PackedTableau) (fork : Fork) : Type 0 where
  pub above : Node
  pub t : Table
  pub first : Constraint
  pub second : Constraint
  pub path : Path s below above (suc left)
  pub is_packed : IsPackedOf t packed
  pub waiting : IsWaiting s above t fork first second
  pub is : child_of above t first ≡ node

pub record IsInSecond (s : System) (below : List SplitLevel) (node : Node) (left : ℕ) (fork : Fork) (tree : Tree) : Type 0 where
  pub above : Node
  pub first : Constraint
  pub second : Constraint
  pub splits : ℕ
  pub t : Table
  pub path : Path s below above (suc (splits + left))
  pub waiting : IsWaiting s above t fork first second
  pub closing : IsNodeClosing (child_of above t first) tree splits
  pub is : child_of above t second ≡ node

up_first : (s : System) (levels below : List SplitLevel) (node : Node) (left : ℕ) (packed : PackedTableau) (fork : Fork) → levels ≡ below ++ First fork packed ∷ [] → Path s levels node left → IsInFirst s below node left packed fork
up_first s levels below node left packed fork e (top r) = absurd (push-not_empty below (First fork packed) (sym e))
up_first s levels below node left packed fork e (in_first r b l above k u x f c d g p q w) =
    let same = same_from_push b below (First f x) (First fork packed) (sym g ∙ e) in
    let forks : f ≡ fork = ap fork_of same.1 in
    let tables : x ≡ packed = ap (packed_of packed) same.1 in
    subst (λ (z : List SplitLevel). IsInFirst s z node left packed fork) same.0
    (subst (λ (z : Fork). IsInFirst s b node left packed z) forks
    (subst (λ (z : PackedTableau). IsInFirst s b node left z f) tables
    (record { above = above; t = u; first = c; second = d; path = p; is_packed = q; waiting = w; is = refl })))
up_first s levels below node left packed fork e (in_second r b l above k n u f tree c d g p w cl) =
    let same = same_from_push b below (Second f tree) (First fork packed) (sym g ∙ e) in
    absurd (let z = ap is_first same.1 in cc)

up_second : (s : System) (levels below : List SplitLevel) (node : Node) (left : ℕ) (fork : Fork) (tree : Tree) → levels ≡ below ++ Second fork tree ∷ [] → Path s levels node left → IsInSecond s below node left fork tree
up_second s levels below node left fork tree e (top r) = absurd (push-not_empty below (Second fork tree) (sym e))
up_second s levels below node left fork tree e (in_first r b l above k u x f c d g p q w) =
    let same = same_from_push b below (First f x) (Second fork tree) (sym g ∙ e) in
    absurd (let z = ap is_first same.1 in cc)
up_second s levels below node left fork tree e (in_second r b l above k n u f own c d g p w cl) =
    let same = same_from_push b below (Second f own) (Second fork tree) (sym g ∙ e) in
    subst (λ (x : List SplitLevel). IsInSecond s x node left fork tree) same.0
    (subst (λ (x : Fork). IsInSecond s b node left x tree) (ap fork_of same.1)
    (subst (λ (x : Tree). IsInSecond s b node left f x) (ap tree_of same.1)
    (record { above = above; first = c; second = d; splits = n; t = u; path = p; waiting = w; closing = cl; is = refl })))

pub at_top : (s : System) (levels : List SplitLevel) (node : Node) (left : ℕ) → levels ≡ [] → Path s levels node left → (root_of s ≡ node) × (split_limit ≡ left)
at_top s levels node left e (top r) = (refl, refl)
at_top s levels node left e (in_first r b l above k u x f c d g p q w) = absurd (push-not_empty b (First f x) (sym g ∙ e))
at_top s levels node left e (in_second r b l above k n u f own c d g p w cl) = absurd (push-not_empty b (Second f own) (sym g ∙ e))

pub closing_up : (s : System) (levels below : List SplitLevel) (left : ℕ) (fork : Fork) (first tree : Tree) → levels ≡ below ++ Second fork first ∷ [] → IsClosing s levels left tree → IsClosing s below left (fork_tree fork first tree)
closing_up s levels below left fork first tree e k =
    let u = up_second s levels below k.node (k.splits + left) fork first e k.path in
    let inner = subst (λ (x : Node). IsNodeClosing x tree k.splits) (sym u.is) k.closing in
    let count : suc (u.splits + (k.splits + left)) ≡ (u.splits + k.splits + 1) + left = omega arith in
    record {
      node = u.above;
      splits = u.splits + k.splits + 1;
      path = subst (Path s below u.above) count u.path;
      closing = fork_closed s u.above u.t fork u.first u.second u.waiting.at u.waiting.sides first tree u.splits k.splits u.closing inner;
    }

pub closing_first : (s : System) (levels below : List SplitLevel) (left : ℕ) (fork : Fork) (packed : PackedTableau) (tree : Tree) → levels ≡ below ++ First fork packed ∷ [] → IsClosing s levels left tree →
    (t : Table) × (IsPackedOf t packed × IsResumed s below left t fork tree)
closing_first s levels below left fork packed tree e k =
    let u = up_first s levels below k.node (k.splits + left) packed fork e k.path in (
      u.t,
      (
        u.is_packed,
        record {
          node = u.above;
          splits = k.splits;
          first = u.first;
          second = u.second;
          path = u.path;
          waiting = u.waiting;
          closing = subst (λ (x : Node). IsNodeClosing x tree k.splits) (sym u.is) k.closing;
        },
      ),
    )

pub closing_top : (s : System) (levels : List SplitLevel) (left : ℕ) (tree : Tree) → levels ≡ [] → IsClosing s levels left tree → (splits : ℕ) × IsNodeClosing (root_of s) tree splits
closing_top s levels left tree e k = (k.splits, subst (λ (x : Node). IsNodeClosing x tree k.splits) (sym (at_top s levels k.node (k.splits + left) e k.path).0) k.closing)

pub stopping_first : (s : System) (levels below : List SplitLevel) (fork : Fork) (packed : PackedTableau) (tree : Tree) (stop : StopReason) → levels ≡ below ++ First fork packed ∷ [] → IsStopping s levels tree stop → IsStopping s below (fork_tree fork tree v.Open) stop
stopping_first s levels below fork packed tree stop e k =
    let u = up_first s levels below k.node k.left packed fork e k.path in
    record {
      node = u.above;
      left = suc k.left;
      path = u.path;
      stops = stopped_first s u.above u.t fork u.first u.second u.waiting.at u.waiting.sides k.left tree stop (subst (λ (x : Node). IsNodeStop x k.left tree stop) (sym u.is) k.stops);
    }

pub stopping_second : (s : System) (levels below : List SplitLevel) (fork : Fork) (first tree : Tree) (stop : StopReason) → levels ≡ below ++ Second fork first ∷ [] → IsStopping s levels tree stop → IsStopping s below (fork_tree fork first tree) stop
stopping_second s levels below fork first tree stop e k =
    let u = up_second s levels below k.node k.left fork first e k.path in
    record {
      node = u.above;
      left = suc (u.splits + k.left);
      path = u.path;
      stops = stopped_second s u.above u.t fork u.first u.second u.waiting.at u.waiting.sides k.left u.splits first tree stop u.closing (subst (λ (x : Node). IsNodeStop x k.left tree stop) (sym u.is) k.stops);
    }

pub stopping_top : (s : System) (levels : List SplitLevel) (tree : Tree) (stop : StopReason) → levels ≡ [] → IsStopping s levels tree stop → IsNodeStop (root_of s) split_limit tree stop
stopping_top s levels tree stop e k =
    let u = at_top s levels k.node k.left e k.path in
    subst (λ (x : Node). IsNodeStop x split_limit tree stop) (sym u.0) (subst (λ n. IsNodeStop k.node n tree stop) (sym u.1) k.stops)

pub path_solution : (s : System) (levels : List SplitLevel) (node : Node) (left : ℕ) (point : List ℤ) → Path s levels node left → IsNodeSolution node point → IsNodeSolution (root_of s) point
path_solution s levels node left point (top r) h = h
path_solution s levels node left point (in_first r b l above k u x f c d g p q w) h = path_solution s b above (suc k) point p (solution_above above u c point h)
path_solution s levels node left point (in_second r b l above k n u f own c d g p w cl) h = path_solution s b above (suc (n + k)) point p (solution_above above u d point h)

-- the row of one side of a split, added to the basis of the split's node
module _ (s : System) (node : Node) (t after : Table) (fork : Fork) (c : Constraint) (row : Row) (at : IsForkAt s node t fork) (ready : IsReadyTableau s t.rows t) (means : IsRowOf c row) (within : IsRowWithin s.unknowns row)
    (unknowns : after.unknowns ≡ t.unknowns) (rows : after.rows ≡ t.rows ++ row ∷ []) (added : IsRowAdded t.lines after.lines row) where
  pub side_searched : (levels : List SplitLevel) (left : ℕ) → Path s levels (child_of node t c) left → 0 < left → IsSearching s levels after left
  side_searched levels left path positive = record {
    node = child_of node t c;
    path = path;
    node_of = subst (λ (rs : List Row). IsSystemNode s rs (child_of node t c)) (sym rows) (side_node s t.rows node t c row at.node_of means);
    begins = goes_on t after c row means unknowns rows added;
    ready = subst (λ (rs : List Row). IsReadyTableau s rs after) (sym rows) (side_ready s t.rows t after row ready within unknowns rows);
    positive = positive;
  }

pub first_path : (s : System) (below levels : List SplitLevel) (node : Node) (left : ℕ) (t : Table) (packed : PackedTableau) (fork : Fork) (c d : Constraint) → levels ≡ below ++ First fork packed ∷ [] → 0 < left → Path s below node left → IsPackedOf t packed → IsForkAt s node t fork → AreForkSides s.nets fork c d → IsReadyTableau s t.rows t →
    Path s levels (child_of node t c) (left - 1)
first_path s below levels node left t packed fork c d e p path is_packed at sides ready =
    let same : left ≡ suc (left - 1) = omega (arith, p) in
    in_first s below levels node (left - 1) t packed fork c d e (subst (Path s below node) same path) is_packed (record { at = at; sides = sides; ready = ready })

pub second_path : (s : System) (below levels : List SplitLevel) (left : ℕ) (t : Table) (fork : Fork) (tree : Tree) → levels ≡ below ++ Second fork tree ∷ [] → (k : IsResumed s below left t fork tree) → Path s levels (child_of k.node t k.second) left
second_path s below levels left t fork tree e k = in_second s below levels k.node left k.splits t fork tree k.first k.second e k.path k.waiting k.closing
