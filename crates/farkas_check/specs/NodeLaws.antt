-- What a node's children say of it.
use Rattle.std.proofs.Common.{◌≡◌, ℕ, ℤ, pos, neg_ℤ, ◌+ℤ◌, List, [], ◌∷◌, ◌++◌, true, Some, FitsSigned, refl, ap, sym, ◌∙◌, subst}
use Rattle.std.specs.Int.{w128}
use Rattle.std.specs.Prelude.{slice_get}
use Rattle.farkas_check.specs.Systems.{Constraint}
use Rattle.farkas_check.specs.Closings.{Closing, NodeRule, said_by, never, ClosesRows, FarkasRule, DivisorRule, contains_number, at_most, at_least, none_out, some_in}
use Rattle.farkas_check.specs.Fitting.{Fitting, FitsLayer, fitting_of, RowsFit, LeafFits}
use Rattle.farkas_check.specs.declared.net.Net.{Net}
use Rattle.farkas_check.specs.declared.tree.Tree.{Tree, roll-Tree}
use Rattle.farkas_check.specs.declared.tree.Tree.TheFolds.{rec-roll-Tree, map-Tree}
use Rattle.farkas_check.specs.declared.tree.Tree.TheVariants as v
use Rattle.farkas_check.specs.declared.tree.Tree.TheOpen.{Tree-F}

rule_natural : (of_open : Closing) (X : Type 0) (v : X → Tree) (k : Tree → Closing) (x : Tree-F X) → NodeRule of_open (λ p. k (v p)) x ≡ NodeRule of_open k (map-Tree X Tree v x)
rule_natural of_open X v k (Tree-F.Split u at low high) = refl
rule_natural of_open X v k (Tree-F.SetSplit i states none some) = refl
rule_natural of_open X v k (Tree-F.Farkas ms) = refl
rule_natural of_open X v k (Tree-F.Divisor ms d) = refl
rule_natural of_open X v k Tree-F.Open = refl

pub said-roll : (of_open : Closing) (x : Tree-F Tree) → said_by of_open (roll-Tree x) ≡ NodeRule of_open (said_by of_open) x
unfolding said_by
said-roll of_open x = rec-roll-Tree Closing (λ X back inner layer. NodeRule of_open inner layer) (rule_natural of_open) x

fits_natural : (X : Type 0) (v : X → Tree) (k : Tree → Fitting) (x : Tree-F X) → FitsLayer (λ p. k (v p)) x ≡ FitsLayer k (map-Tree X Tree v x)
fits_natural X v k (Tree-F.Split u at low high) = refl
fits_natural X v k (Tree-F.SetSplit i states none some) = refl
fits_natural X v k (Tree-F.Farkas ms) = refl
fits_natural X v k (Tree-F.Divisor ms d) = refl
fits_natural X v k Tree-F.Open = refl

pub fitting-roll : (x : Tree-F Tree) → fitting_of (roll-Tree x) ≡ FitsLayer fitting_of x
unfolding fitting_of
fitting-roll x = rec-roll-Tree Fitting (λ X back inner layer. FitsLayer inner layer) fits_natural x

-- the tree closes the rows, and no sum leaves 128 bits
abbrev pub Told : List Net → List Constraint → Tree → Type 0
Told nets rows tree = ClosesRows nets rows tree × RowsFit nets rows tree

abbrev ToldLayer : List Net → List Constraint → Tree-F Tree → Type 0
ToldLayer nets rows x = NodeRule never (said_by never) x nets rows × FitsLayer fitting_of x nets rows

opened : (nets : List Net) (rows : List Constraint) (tree : Tree) (x : Tree-F Tree) → roll-Tree x ≡ tree → Told nets rows tree → ToldLayer nets rows x
opened nets rows tree x e t = (
  subst (λ (L : Closing). L nets rows) (ap (said_by never) (sym e) ∙ said-roll never x) t.0,
  subst (λ (L : Fitting). L nets rows) (ap fitting_of (sym e) ∙ fitting-roll x) t.1,
)

closed : (nets : List Net) (rows : List Constraint) (tree : Tree) (x : Tree-F Tree) → roll-Tree x ≡ tree → ToldLayer nets rows x → Told nets rows tree
closed nets rows tree x e t = (
  subst (λ (L : Closing). L nets rows) (sym (ap (said_by never) (sym e) ∙ said-roll never x)) t.0,
  subst (λ (L : Fitting). L nets rows) (sym (ap fitting_of (sym e) ∙ fitting-roll x)) t.1,
)

pub record IsSplit (nets : List Net) (rows : List Constraint) (u : ℕ) (at : ℤ) (low high : Tree) : Type 0 where
  pub minus_fits : FitsSigned w128 (neg_ℤ at)
  pub next_fits : FitsSigned w128 (at +ℤ pos 1)
  pub low_told : Told nets (rows ++ at_most u at ∷ []) low
  pub high_told : Told nets (rows ++ at_least u (at +ℤ pos 1) ∷ []) high

pub split_opened : (nets : List Net) (rows : List Constraint) (u : ℕ) (at : ℤ) (low high : Tree) → Told nets rows (v.Split u at low high) → IsSplit nets rows u at low high
split_opened nets rows u at low high t =
    let o = opened nets rows _ (Tree-F.Split u at low high) (v.rolls-Split u at low high) t in
    record { minus_fits = o.1.0; next_fits = o.1.1.0; low_told = (o.0.0, o.1.1.1.0); high_told = (o.0.1, o.1.1.1.1) }

pub split_closed : (nets : List Net) (rows : List Constraint) (u : ℕ) (at : ℤ) (low high : Tree) → IsSplit nets rows u at low high → Told nets rows (v.Split u at low high)
split_closed nets rows u at low high s =
    closed nets rows _ (Tree-F.Split u at low high) (v.rolls-Split u at low high)
    ((s.low_told.0, s.high_told.0), (s.minus_fits, (s.next_fits, (s.low_told.1, s.high_told.1))))

pub record IsSetSplit (nets : List Net) (rows : List Constraint) (net : Net) (states : List ℕ) (none some : Tree) : Type 0 where
  pub outside : contains_number net.start states ≡ true → ⊥
  pub none_told : Told nets (rows ++ none_out net states ∷ []) none
  pub some_told : Told nets (rows ++ some_in net states ∷ []) some

same_set_split : (nets : List Net) (rows : List Constraint) (i : ℕ) (net other : Net) (states : List ℕ) (none some : Tree) → slice_get nets i ≡ Some net → slice_get nets i ≡ Some other →
    IsSetSplit nets rows net states none some → IsSetSplit nets rows other states none some
same_set_split nets rows i net other states none some e f s =
    let same : net ≡ other = cc in subst (λ (w : Net). IsSetSplit nets rows w states none some) same s

pub set_split_opened : (nets : List Net) (rows : List Constraint) (i : ℕ) (net : Net) (states : List ℕ) (none some : Tree) → slice_get nets i ≡ Some net →
    Told nets rows (v.SetSplit i states none some) → IsSetSplit nets rows net states none some
set_split_opened nets rows i net states none some e t =
    let o = opened nets rows _ (Tree-F.SetSplit i states none some) (v.rolls-SetSplit i states none some) t in
    let fits = o.1 o.0.0 o.0.1.0 in
    same_set_split nets rows i o.0.0 net states none some o.0.1.0 e
    (record { outside = o.0.1.1.0; none_told = (o.0.1.1.1.0, fits.0); some_told = (o.0.1.1.1.1, fits.1) })

pub set_split_net : (nets : List Net) (rows : List Constraint) (i : ℕ) (states : List ℕ) (none some : Tree) → Told nets rows (v.SetSplit i states none some) → (net : Net) × (slice_get nets i ≡ Some net)
set_split_net nets rows i states none some t =
    let o = opened nets rows _ (Tree-F.SetSplit i states none some) (v.rolls-SetSplit i states none some) t in
    (o.0.0, o.0.1.0)

pub set_split_closed : (nets : List Net) (rows : List Constraint) (i : ℕ) (net : Net) (states : List ℕ) (none some : Tree) → slice_get nets i ≡ Some net →
    IsSetSplit nets rows net states none some → Told nets rows (v.SetSplit i states none some)
set_split_closed nets rows i net states none some e s =
    closed nets rows _ (Tree-F.SetSplit i states none some) (v.rolls-SetSplit i states none some) (
      (net, (e, (s.outside, (s.none_told.0, s.some_told.0)))),
      (λ other f. let t = same_set_split nets rows i net other states none some e f s in (t.none_told.1, t.some_told.1)),
    )

pub farkas_opened : (nets : List Net) (rows : List Constraint) (ms : List (ℕ × ℤ)) → Told nets rows (v.Farkas ms) → FarkasRule rows ms × LeafFits rows ms
farkas_opened nets rows ms t = opened nets rows _ (Tree-F.Farkas ms) (v.rolls-Farkas ms) t

pub farkas_closed : (nets : List Net) (rows : List Constraint) (ms : List (ℕ × ℤ)) → FarkasRule rows ms × LeafFits rows ms → Told nets rows (v.Farkas ms)
farkas_closed nets rows ms t = closed nets rows _ (Tree-F.Farkas ms) (v.rolls-Farkas ms) t

pub divisor_opened : (nets : List Net) (rows : List Constraint) (ms : List (ℕ × ℤ)) (d : ℤ) → Told nets rows (v.Divisor ms d) → DivisorRule rows ms d × LeafFits rows ms
divisor_opened nets rows ms d t = opened nets rows _ (Tree-F.Divisor ms d) (v.rolls-Divisor ms d) t

pub divisor_closed : (nets : List Net) (rows : List Constraint) (ms : List (ℕ × ℤ)) (d : ℤ) → DivisorRule rows ms d × LeafFits rows ms → Told nets rows (v.Divisor ms d)
divisor_closed nets rows ms d t = closed nets rows _ (Tree-F.Divisor ms d) (v.rolls-Divisor ms d) t

pub open_opened : (nets : List Net) (rows : List Constraint) → Told nets rows v.Open → ⊥
open_opened nets rows t = (opened nets rows _ Tree-F.Open v.rolls-Open t).0

-- a node that meets its rule, of any variant
rule_met : (of_open : Closing) (nets : List Net) (rows : List Constraint) (tree : Tree) (x : Tree-F Tree) → roll-Tree x ≡ tree → NodeRule of_open (said_by of_open) x nets rows → said_by of_open tree nets rows
rule_met of_open nets rows tree x e h = subst (λ (L : Closing). L nets rows) (sym (ap (said_by of_open) (sym e) ∙ said-roll of_open x)) h

fits_met : (nets : List Net) (rows : List Constraint) (tree : Tree) (x : Tree-F Tree) → roll-Tree x ≡ tree → FitsLayer fitting_of x nets rows → RowsFit nets rows tree
fits_met nets rows tree x e h = subst (λ (L : Fitting). L nets rows) (sym (ap fitting_of (sym e) ∙ fitting-roll x)) h

pub split_met : (of_open : Closing) (nets : List Net) (rows : List Constraint) (u : ℕ) (at : ℤ) (low high : Tree) → said_by of_open low nets (rows ++ at_most u at ∷ []) → said_by of_open high nets (rows ++ at_least u (at +ℤ pos 1) ∷ []) →
    said_by of_open (v.Split u at low high) nets rows
split_met of_open nets rows u at low high l h = rule_met of_open nets rows _ (Tree-F.Split u at low high) (v.rolls-Split u at low high) (l, h)

pub split_fits : (nets : List Net) (rows : List Constraint) (u : ℕ) (at : ℤ) (low high : Tree) → FitsSigned w128 (neg_ℤ at) → FitsSigned w128 (at +ℤ pos 1) →
    RowsFit nets (rows ++ at_most u at ∷ []) low → RowsFit nets (rows ++ at_least u (at +ℤ pos 1) ∷ []) high → RowsFit nets rows (v.Split u at low high)
split_fits nets rows u at low high m p l h = fits_met nets rows _ (Tree-F.Split u at low high) (v.rolls-Split u at low high) (m, (p, (l, h)))

pub set_split_met : (of_open : Closing) (nets : List Net) (rows : List Constraint) (i : ℕ) (states : List ℕ) (none some : Tree) (net : Net) → slice_get nets i ≡ Some net → (contains_number net.start states ≡ true → ⊥) →
    said_by of_open none nets (rows ++ none_out net states ∷ []) → said_by of_open some nets (rows ++ some_in net states ∷ []) → said_by of_open (v.SetSplit i states none some) nets rows
set_split_met of_open nets rows i states none some net g c a b = rule_met of_open nets rows _ (Tree-F.SetSplit i states none some) (v.rolls-SetSplit i states none some) (net, (g, (c, (a, b))))

pub set_split_fits : (nets : List Net) (rows : List Constraint) (i : ℕ) (states : List ℕ) (none some : Tree) →
    ((net : Net) → slice_get nets i ≡ Some net → RowsFit nets (rows ++ none_out net states ∷ []) none × RowsFit nets (rows ++ some_in net states ∷ []) some) → RowsFit nets rows (v.SetSplit i states none some)
set_split_fits nets rows i states none some h = fits_met nets rows _ (Tree-F.SetSplit i states none some) (v.rolls-SetSplit i states none some) h

pub farkas_met : (of_open : Closing) (nets : List Net) (rows : List Constraint) (ms : List (ℕ × ℤ)) → FarkasRule rows ms → said_by of_open (v.Farkas ms) nets rows
farkas_met of_open nets rows ms h = rule_met of_open nets rows _ (Tree-F.Farkas ms) (v.rolls-Farkas ms) h

pub farkas_fits : (nets : List Net) (rows : List Constraint) (ms : List (ℕ × ℤ)) → LeafFits rows ms → RowsFit nets rows (v.Farkas ms)
farkas_fits nets rows ms h = fits_met nets rows _ (Tree-F.Farkas ms) (v.rolls-Farkas ms) h

pub divisor_met : (of_open : Closing) (nets : List Net) (rows : List Constraint) (ms : List (ℕ × ℤ)) (d : ℤ) → DivisorRule rows ms d → said_by of_open (v.Divisor ms d) nets rows
divisor_met of_open nets rows ms d h = rule_met of_open nets rows _ (Tree-F.Divisor ms d) (v.rolls-Divisor ms d) h

pub divisor_fits : (nets : List Net) (rows : List Constraint) (ms : List (ℕ × ℤ)) (d : ℤ) → LeafFits rows ms → RowsFit nets rows (v.Divisor ms d)
divisor_fits nets rows ms d h = fits_met nets rows _ (Tree-F.Divisor ms d) (v.rolls-Divisor ms d) h
