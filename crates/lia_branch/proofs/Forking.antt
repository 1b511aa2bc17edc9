-- What is found at a node, from what is found at the two sides of its split.
use Rattle.std.proofs.Common.{◌≡◌, ℕ, suc, ◌+◌, ◌<◌, ℤ, pos, ◌+ℤ◌, List, [], ◌∷◌, ◌++◌, slice_get, Some, ◌⊎◌, inl, inr, refl, ap, sym, ◌∙◌, subst, arith}
use Rattle.std.specs.Prelude.{true}
use Rattle.farkas_check.specs.Systems.{Constraint}
use Rattle.farkas_check.specs.Closings.{ClosesRows, at_most, at_least, none_out, some_in, contains_number, never}
use Rattle.farkas_check.specs.Fitting.{RowsFit}
use Rattle.farkas_check.specs.Cuts.{IsNetCut}
use Rattle.farkas_check.specs.declared.net.Net.{Net}
use Rattle.farkas_check.specs.declared.system.System.{System}
use Rattle.farkas_check.specs.declared.tree.Tree.{Tree}
use Rattle.farkas_check.specs.declared.tree.Tree.TheVariants as v
use Rattle.lia_tableau.specs.declared.table.Table.{Table}
use Rattle.lia_branch.specs.Nodes.{Node, child_of}
use Rattle.lia_branch.specs.DueSplits.{IsSplitDue, IsSetSplitDue}
use Rattle.lia_branch.specs.DueTrees.{SplitHolds, SetSplitHolds, split_count, IsClosed, IsLeafTree, StopsByFact}
use Rattle.lia_branch.specs.Founds.{IsNodeClosing, IsNodeStop, stop_fact}
use Rattle.lia_branch.specs.Forks.{fork_tree, AreForkSides, IsForkAt}
use Rattle.lia_branch.specs.declared.fork.Fork.{Fork}
use Rattle.lia_branch.specs.declared.fork.Fork.TheVariants.{Unknown, Set}
use Rattle.lia_branch.specs.declared.stop.StopReason.{StopReason}
use Rattle.lia_branch.specs.declared.stop.StopReason.TheVariants.{Branches}
use Rattle.lia_branch.proofs.DueTreeRules.{closed_split, closed_set_split, stops_split, stops_set_split, open_leaf, stops_open, count_split, count_set_split, count_open}
use Rattle.farkas_check.specs.NodeLaws.{split_met, split_fits, set_split_met, set_split_fits}
use Rattle.lia_branch.proofs.Branching.{fits_symmetric, fits_negated}
use Rattle.lia_branch.proofs.Cutting.{start_not_contained}

abbrev split_due : (s : System) (node : Node) (t : Table) (u : ℕ) (at : ℤ) → IsForkAt s node t (Unknown u at) → IsSplitDue node u at
split_due s node t u at f = record {
  last = t;
  comes = f.comes;
  meets = f.meets;
  within = subst (λ m. u < m) (sym f.node_of.unknowns) f.due.within;
  least = f.due.least;
  between = f.due.between;
}

abbrev set_due : (s : System) (node : Node) (t : Table) (i : ℕ) (states : List ℕ) → IsForkAt s node t (Set i states) → IsSetSplitDue node i states
set_due s node t i states f = record {
  last = t;
  comes = f.comes;
  meets = f.meets;
  x = f.due.x;
  whole = λ u h. f.due.whole u (subst (λ m. u < m) f.node_of.unknowns h);
  cut = subst (λ (ns : List Net). IsNetCut f.due.x ns i states) (sym f.node_of.nets) f.due.cut;
}

same_net : (nets : List Net) (i : ℕ) (a b : Net) → slice_get nets i ≡ Some a → slice_get nets i ≡ Some b → a ≡ b
same_net nets i a b e f = let h = sym e ∙ f in cc

-- of both kinds of splits: a claim of both sides is one of the node
module _ (s : System) (node : Node) (t : Table) where
  holds_split : (u : ℕ) (at : ℤ) (c d : Constraint) (f : IsForkAt s node t (Unknown u at)) → AreForkSides s.nets (Unknown u at) c d → (claim : Node → Node → Type 0) → claim (child_of node t c) (child_of node t d) → SplitHolds node u at claim
  holds_split u at c d f a claim h = record { due = split_due s node t u at f; below = subst (λ (w : Constraint). claim (child_of node t (at_most u at)) (child_of node t w)) a.1 (subst (λ (w : Constraint). claim (child_of node t w) (child_of node t d)) a.0 h) }

  holds_set : (i : ℕ) (states : List ℕ) (c d : Constraint) (f : IsForkAt s node t (Set i states)) → AreForkSides s.nets (Set i states) c d → (claim : Node → Node → Type 0) → claim (child_of node t c) (child_of node t d) → SetSplitHolds node i states claim
  holds_set i states c d f a claim h =
      let due = set_due s node t i states f in
      let net : a.0 ≡ due.cut.net = same_net node.nets i a.0 due.cut.net (ap (λ (ns : List Net). slice_get ns i) f.node_of.nets ∙ a.1.0) due.cut.is_net in
      record {
        due = due;
        below = subst (λ (w : Net). claim (child_of node t (none_out w states)) (child_of node t (some_in w states))) net
            (subst (λ (w : Constraint). claim (child_of node t (none_out a.0 states)) (child_of node t w)) a.1.1.1 (subst (λ (w : Constraint). claim (child_of node t w) (child_of node t d)) a.1.1.0 h));
      }

  pub fork_closed : (fork : Fork) (c d : Constraint) → IsForkAt s node t fork → AreForkSides s.nets fork c d → (low high : Tree) (a b : ℕ) → IsNodeClosing (child_of node t c) low a → IsNodeClosing (child_of node t d) high b → IsNodeClosing node (fork_tree fork low high) (a + b + 1)
  fork_closed (Unknown u at) c d f e low high a b k l = record {
    due = closed_split node u at low high (holds_split u at c d f e (λ m n. IsClosed low m × IsClosed high n) (k.due, l.due));
    closes = split_met never node.nets node.rows u at low high
        (subst (λ (w : Constraint). ClosesRows node.nets (node.rows ++ w ∷ []) low) e.0 k.closes) (subst (λ (w : Constraint). ClosesRows node.nets (node.rows ++ w ∷ []) high) e.1 l.closes);
    fits = split_fits node.nets node.rows u at low high (fits_negated at f.due.symmetric) (fits_symmetric (at +ℤ pos 1) f.due.next_symmetric)
        (subst (λ (w : Constraint). RowsFit node.nets (node.rows ++ w ∷ []) low) e.0 k.fits) (subst (λ (w : Constraint). RowsFit node.nets (node.rows ++ w ∷ []) high) e.1 l.fits);
    count = let x = k.count in let y = l.count in count_split u at low high ∙ omega arith;
  }
  fork_closed (Set i states) c d f e low high a b k l =
      let net_is : slice_get node.nets i ≡ Some e.0 = ap (λ (ns : List Net). slice_get ns i) f.node_of.nets ∙ e.1.0 in
      let due = set_due s node t i states f in
      let same : due.cut.net ≡ e.0 = same_net node.nets i due.cut.net e.0 due.cut.is_net net_is in
      record {
        due = closed_set_split node i states low high (holds_set i states c d f e (λ m n. IsClosed low m × IsClosed high n) (k.due, l.due));
        closes = set_split_met never node.nets node.rows i states low high e.0 net_is
            (subst (λ (w : Net). contains_number w.start states ≡ true → ⊥) same (start_not_contained due.x node.nets i states due.cut))
            (subst (λ (w : Constraint). ClosesRows node.nets (node.rows ++ w ∷ []) low) e.1.1.0 k.closes) (subst (λ (w : Constraint). ClosesRows node.nets (node.rows ++ w ∷ []) high) e.1.1.1 l.closes);
        fits = set_split_fits node.nets node.rows i states low high (λ net g.
            let is : e.0 ≡ net = same_net node.nets i e.0 net net_is g in (
              subst (λ (w : Net). RowsFit node.nets (node.rows ++ none_out w states ∷ []) low) is (subst (λ (w : Constraint). RowsFit node.nets (node.rows ++ w ∷ []) low) e.1.1.0 k.fits),
              subst (λ (w : Net). RowsFit node.nets (node.rows ++ some_in w states ∷ []) high) is (subst (λ (w : Constraint). RowsFit node.nets (node.rows ++ w ∷ []) high) e.1.1.1 l.fits),
            ));
        count = let x = k.count in let y = l.count in count_set_split i states low high ∙ omega arith;
      }

  fork_stops : (stop : StopReason) (fork : Fork) (c d : Constraint) → IsForkAt s node t fork → AreForkSides s.nets fork c d → (low high : Tree) →
      ((StopsByFact (stop_fact stop) low (child_of node t c) × IsLeafTree high (child_of node t d)) ⊎ (IsClosed low (child_of node t c) × StopsByFact (stop_fact stop) high (child_of node t d))) → StopsByFact (stop_fact stop) (fork_tree fork low high) node
  fork_stops stop (Unknown u at) c d f e low high h = stops_split (stop_fact stop) node u at low high (holds_split u at c d f e (λ m n. (StopsByFact (stop_fact stop) low m × IsLeafTree high n) ⊎ (IsClosed low m × StopsByFact (stop_fact stop) high n)) h)
  fork_stops stop (Set i states) c d f e low high h = stops_set_split (stop_fact stop) node i states low high (holds_set i states c d f e (λ m n. (StopsByFact (stop_fact stop) low m × IsLeafTree high n) ⊎ (IsClosed low m × StopsByFact (stop_fact stop) high n)) h)

fork_count : (fork : Fork) (low high : Tree) → split_count (fork_tree fork low high) ≡ split_count low + split_count high + 1
fork_count (Unknown u at) low high = count_split u at low high
fork_count (Set i states) low high = count_set_split i states low high

module _ (s : System) (node : Node) (t : Table) (fork : Fork) (c d : Constraint) (f : IsForkAt s node t fork) (a : AreForkSides s.nets fork c d) where
  pub used_up : IsNodeStop node 1 (fork_tree fork v.Open v.Open) Branches
  used_up = record {
    stops = fork_stops s node t Branches fork c d f a v.Open v.Open (inl (stops_open (stop_fact Branches) (child_of node t c) tt, open_leaf (child_of node t d)));
    count = λ e. fork_count fork v.Open v.Open ∙ omega (arith, count_open);
  }

  pub stopped_first : (left : ℕ) (low : Tree) (stop : StopReason) → IsNodeStop (child_of node t c) left low stop → IsNodeStop node (suc left) (fork_tree fork low v.Open) stop
  stopped_first left low stop h = record {
    stops = fork_stops s node t stop fork c d f a low v.Open (inl (h.stops, open_leaf (child_of node t d)));
    count = λ e. let k = h.count e in fork_count fork low v.Open ∙ omega (arith, count_open);
  }

  pub stopped_second : (left splits : ℕ) (low high : Tree) (stop : StopReason) → IsNodeClosing (child_of node t c) low splits → IsNodeStop (child_of node t d) left high stop → IsNodeStop node (suc (splits + left)) (fork_tree fork low high) stop
  stopped_second left splits low high stop k h = record {
    stops = fork_stops s node t stop fork c d f a low high (inr (k.due, h.stops));
    count = λ e. let x = h.count e in let y = k.count in fork_count fork low high ∙ omega arith;
  }

-- each split has two sides
pub sides_of : (s : System) (node : Node) (t : Table) (fork : Fork) → IsForkAt s node t fork → (c : Constraint) × ((d : Constraint) × AreForkSides s.nets fork c d)
sides_of s node t (Unknown u at) f = (at_most u at, (at_least u (at +ℤ pos 1), (refl, refl)))
sides_of s node t (Set i states) f = (none_out f.due.cut.net states, (some_in f.due.cut.net states, (f.due.cut.net, (f.due.cut.is_net, (refl, refl)))))
