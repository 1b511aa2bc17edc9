-- A tree that closes rows shows that they have no solution.
use Rattle.std.proofs.Common.{◌≡◌, ℕ, zero, suc, ◌<◌, ℤ, pos, neg_ℤ, ◌+ℤ◌, ◌*ℤ◌, ◌≤ℤ◌, ◌<ℤ◌, List, [], ◌∷◌, ◌++◌, length, get_or, Bool, true, false, cond, ◌&&◌, not, ◌⊎◌, ⊎_elim, inl, inr, refl, ap, sym, ◌∙◌, subst, arith}
use Rattle.std.proofs.lemmas.Int.{ints, by_lt_z}
use Rattle.sv_linear.specs.Terms.{terms_value}
use Rattle.sv_linear.specs.Integers.{mul-add, mul_assoc, mul-neg}
use Rattle.sv_linear.specs.Divisors.{Divides}
use Rattle.farkas_check.specs.Systems.{Constraint, Meets, Reached, reached_start, reached_edge, Joined}
use Rattle.farkas_check.specs.declared.net.Net.{Net}
use Rattle.farkas_check.specs.declared.net.NetEdge.{NetEdge}
use Rattle.farkas_check.specs.declared.tree.Tree.{Tree, roll-Tree}
use Rattle.farkas_check.specs.declared.tree.Tree.TheFolds.{ind-Tree, map-Tree}
use Rattle.farkas_check.specs.declared.tree.Tree.TheOpen.{Tree-F}
use Rattle.farkas_check.specs.NodeLaws.{said-roll}
use Rattle.farkas_check.specs.Closings.{contains_number, edges_out, edges_in, FarkasRule, DivisorRule, at_most, at_least, none_out, some_in, Closing, NodeRule, said_by, never, ClosesRows}
use Rattle.std.specs.Prelude.{All, Some, slice_get}
use Rattle.farkas_check.proofs.Combining.{MeetsAll, IsIdeal, value_in_ideal, all_terms, coefficient-all_terms, value-all_terms, combined_value, combined_at_most, combined_equal}

pub zero_ideal : IsIdeal (λ z. z ≡ pos 0)
zero_ideal = record {
  at_zero = refl;
  at_sum = λ a b p q. omega (arith, ints);
  at_product = λ a b p. ap (λ w. w *ℤ b) p ∙ omega (arith, ints);
}

multiples_of : (d : ℤ) → IsIdeal (Divides d)
multiples_of d = record {
  at_zero = (pos 0, omega (arith, ints));
  at_sum = λ a b p q. (p.0 +ℤ q.0, omega (arith, ints, p.1, q.1, mul-add d p.0 q.0));
  at_product = λ a b p. (p.0 *ℤ b, ap (λ w. w *ℤ b) p.1 ∙ mul_assoc d p.0 b);
}

farkas_sound : (x : ℕ → ℤ) (rows : List Constraint) (ms : List (ℕ × ℤ)) → FarkasRule rows ms → MeetsAll x rows → ⊥
farkas_sound x rows ms f meets =
    let none : terms_value x (all_terms rows ms) ≡ pos 0 =
    value_in_ideal (λ z. z ≡ pos 0) zero_ideal x (length (all_terms rows ms)) (all_terms rows ms) (omega arith) (λ u. coefficient-all_terms u rows ms ∙ f.vanishes u) in
    omega (arith, ints, value-all_terms x rows ms, combined_value x rows ms, combined_at_most x 0 rows ms meets f.allowed, f.above_zero)

divisor_sound : (x : ℕ → ℤ) (rows : List Constraint) (ms : List (ℕ × ℤ)) (d : ℤ) → DivisorRule rows ms d → MeetsAll x rows → ⊥
divisor_sound x rows ms d f meets =
    let part : Divides d (terms_value x (all_terms rows ms)) =
    value_in_ideal (Divides d) (multiples_of d) x (length (all_terms rows ms)) (all_terms rows ms) (omega arith) (λ u. subst (Divides d) (sym (coefficient-all_terms u rows ms)) (f.divides u)) in
    f.apart (neg_ℤ part.0, omega (arith, ints, part.1, mul-neg d part.0, value-all_terms x rows ms, combined_value x rows ms, combined_equal x 0 rows ms meets f.allowed))

pub meets_more : (x : ℕ → ℤ) (rows : List Constraint) (c : Constraint) → MeetsAll x rows → Meets x c → MeetsAll x (rows ++ c ∷ [])
meets_more x [] c all m zero h = m
meets_more x [] c all m (suc k) h = absurd (omega arith)
meets_more x (r ∷ rs) c all m zero h = all zero (omega arith)
meets_more x (r ∷ rs) c all m (suc k) h = meets_more x rs c (λ i p. all (suc i) (omega arith)) m k (omega arith)

split_either : (a b : ℤ) → (a ≤ℤ b) ⊎ ((b +ℤ pos 1) ≤ℤ a)
split_either a b = by_lt_z b a (λ h. inr (omega (arith, ints))) inl

meets_at_most : (x : ℕ → ℤ) (u : ℕ) (at : ℤ) → x u ≤ℤ at → Meets x (at_most u at)
meets_at_most x u at h = record { at_most = omega (arith, ints); equal = λ e. cc }

meets_at_least : (x : ℕ → ℤ) (u : ℕ) (at : ℤ) → at ≤ℤ x u → Meets x (at_least u at)
meets_at_least x u at h = record { at_most = omega (arith, ints); equal = λ e. cc }

-- an edge of a list that is used and enters the set from outside
pub record Enters (x : ℕ → ℤ) (set : List ℕ) (es : List NetEdge) : Type 0 where
  pub edge : NetEdge
  pub place : ℕ
  pub within : place < length es
  pub is : get_or es place edge ≡ edge
  pub used : pos 0 <ℤ x edge.unknown
  pub to_in : contains_number edge.to set ≡ true
  pub from_out : contains_number edge.«from» set ≡ false

-- an edge of a list that is used and leaves the set
pub record Leaves (x : ℕ → ℤ) (set : List ℕ) (es : List NetEdge) : Type 0 where
  pub edge : NetEdge
  pub place : ℕ
  pub within : place < length es
  pub is : get_or es place edge ≡ edge
  pub used : pos 0 <ℤ x edge.unknown
  pub from_in : contains_number edge.«from» set ≡ true

NoneBelow : (ℕ → ℤ) → List NetEdge → Type 0
NoneBelow x es = All (λ e. pos 0 ≤ℤ x e.unknown) es

leaves_later : (x : ℕ → ℤ) (set : List ℕ) (e : NetEdge) (es : List NetEdge) → Leaves x set es → Leaves x set (e ∷ es)
leaves_later x set e es n = record { edge = n.edge; place = suc n.place; within = omega (arith, n.within); is = n.is; used = n.used; from_in = n.from_in }

none_below_rest : (x : ℕ → ℤ) (e : NetEdge) (es : List NetEdge) → NoneBelow x (e ∷ es) → NoneBelow x es
unfolding NoneBelow
none_below_rest x e es h k d p = h (suc k) d (omega arith)

none_below_first : (x : ℕ → ℤ) (e : NetEdge) (es : List NetEdge) → NoneBelow x (e ∷ es) → pos 0 ≤ℤ x e.unknown
unfolding NoneBelow
none_below_first x e es h = h zero e (omega arith)

entered_by : (x : ℕ → ℤ) (net : Net) (set : List ℕ) (e : NetEdge) (k : ℕ) → k < length net.edges → get_or net.edges k e ≡ e → pos 0 <ℤ x e.unknown →
    contains_number e.to set ≡ true → (contains_number e.«from» set ≡ true → Enters x set net.edges) →
    (b : Bool) → contains_number e.«from» set ≡ b → Enters x set net.edges
entered_by x net set e k p g used h rest true is = rest is
entered_by x net set e k p g used h rest false is = record { edge = e; place = k; within = p; is = g; used = used; to_in = h; from_out = is }

-- a state of the set that is reached, where the start is outside
entered : (x : ℕ → ℤ) (net : Net) (set : List ℕ) → (contains_number net.start set ≡ true → ⊥) → (s : ℕ) → Reached x net s → contains_number s set ≡ true → Enters x set net.edges
entered x net set out s reached_start h = absurd (out h)
entered x net set out s (reached_edge e m used r) h =
    entered_by x net set e m.0 m.1 m.2 used h (entered x net set out e.«from» r) (contains_number e.«from» set) refl

leave_step : (x : ℕ → ℤ) (set : List ℕ) (e : NetEdge) (es : List NetEdge) → pos 0 ≤ℤ x e.unknown → (pos 0 <ℤ terms_value x (edges_out set es (pos 1)) → Leaves x set es) →
    (b : Bool) → contains_number e.«from» set ≡ b → pos 0 <ℤ terms_value x (cond b ((e.unknown, pos 1) ∷ edges_out set es (pos 1)) (edges_out set es (pos 1))) → Leaves x set (e ∷ es)
leave_step x set e es low rest false is h = leaves_later x set e es (rest h)
leave_step x set e es low rest true is h =
    by_lt_z (pos 0) (x e.unknown)
    (λ used. record { edge = e; place = zero; within = omega arith; is = refl; used = used; from_in = is })
    (λ none. leaves_later x set e es (rest (omega (arith, ints))))

leaving : (x : ℕ → ℤ) (set : List ℕ) (es : List NetEdge) → NoneBelow x es → pos 0 <ℤ terms_value x (edges_out set es (pos 1)) → Leaves x set es
leaving x set [] low h = absurd (omega (arith, ints))
leaving x set (e ∷ es) low h = leave_step x set e es (none_below_first x e es low) (leaving x set es (none_below_rest x e es low)) (contains_number e.«from» set) refl h

in_step : (x : ℕ → ℤ) (set : List ℕ) (e : NetEdge) (es : List NetEdge) → pos 0 ≤ℤ x e.unknown → terms_value x (edges_in set es (neg_ℤ (pos 1))) ≤ℤ pos 0 →
    (b : Bool) → terms_value x (cond b ((e.unknown, neg_ℤ (pos 1)) ∷ edges_in set es (neg_ℤ (pos 1))) (edges_in set es (neg_ℤ (pos 1)))) ≤ℤ pos 0
in_step x set e es low h true = omega (arith, ints)
in_step x set e es low h false = h

in_low : (x : ℕ → ℤ) (set : List ℕ) (es : List NetEdge) → NoneBelow x es → terms_value x (edges_in set es (neg_ℤ (pos 1))) ≤ℤ pos 0
in_low x set [] low = omega (arith, ints)
in_low x set (e ∷ es) low = in_step x set e es (none_below_first x e es low) (in_low x set es (none_below_rest x e es low)) (contains_number e.to set && not (contains_number e.«from» set))

enter_step : (x : ℕ → ℤ) (set : List ℕ) (e : NetEdge) (es : List NetEdge) → pos 0 ≤ℤ x e.unknown → (terms_value x (edges_in set es (neg_ℤ (pos 1))) +ℤ pos 1) ≤ℤ pos 0 →
    (b : Bool) → (terms_value x (cond b ((e.unknown, neg_ℤ (pos 1)) ∷ edges_in set es (neg_ℤ (pos 1))) (edges_in set es (neg_ℤ (pos 1)))) +ℤ pos 1) ≤ℤ pos 0
enter_step x set e es low h true = omega (arith, ints)
enter_step x set e es low h false = h

enter_here : (x : ℕ → ℤ) (set : List ℕ) (e : NetEdge) (es : List NetEdge) → pos 0 <ℤ x e.unknown → terms_value x (edges_in set es (neg_ℤ (pos 1))) ≤ℤ pos 0 →
    (b : Bool) → b ≡ true → (terms_value x (cond b ((e.unknown, neg_ℤ (pos 1)) ∷ edges_in set es (neg_ℤ (pos 1))) (edges_in set es (neg_ℤ (pos 1)))) +ℤ pos 1) ≤ℤ pos 0
enter_here x set e es used h true is = omega (arith, ints)
enter_here x set e es used h false is = absurd (cc)

entering : (x : ℕ → ℤ) (set : List ℕ) (es : List NetEdge) (f : NetEdge) (k : ℕ) → NoneBelow x es → k < length es → get_or es k f ≡ f → pos 0 <ℤ x f.unknown →
    contains_number f.to set ≡ true → contains_number f.«from» set ≡ false → (terms_value x (edges_in set es (neg_ℤ (pos 1))) +ℤ pos 1) ≤ℤ pos 0
entering x set [] f k low p g used ti fo = absurd (omega arith)
entering x set (e ∷ es) f zero low p g used ti fo =
    enter_here x set e es (subst (λ (w : NetEdge). pos 0 <ℤ x w.unknown) (sym g) used) (in_low x set es (none_below_rest x e es low)) (contains_number e.to set && not (contains_number e.«from» set))
    (subst (λ (w : NetEdge). contains_number w.to set && not (contains_number w.«from» set) ≡ true) (sym g) (ap (λ w. w && not (contains_number f.«from» set)) ti ∙ ap not fo))
entering x set (e ∷ es) f (suc k) low p g used ti fo =
    enter_step x set e es (none_below_first x e es low) (entering x set es f k (none_below_rest x e es low) (omega arith) g used ti fo) (contains_number e.to set && not (contains_number e.«from» set))

meets_none_out : (x : ℕ → ℤ) (net : Net) (set : List ℕ) → terms_value x (edges_out set net.edges (pos 1)) ≤ℤ pos 0 → Meets x (none_out net set)
meets_none_out x net set h = record { at_most = omega (arith, ints); equal = λ e. cc }

meets_some_in : (x : ℕ → ℤ) (net : Net) (set : List ℕ) → (terms_value x (edges_in set net.edges (neg_ℤ (pos 1))) +ℤ pos 1) ≤ℤ pos 0 → Meets x (some_in net set)
meets_some_in x net set h = record { at_most = h; equal = λ e. cc }

-- at a joined point, no edge leaves the set, or some edge enters it
cut_either : (x : ℕ → ℤ) (net : Net) (set : List ℕ) → (contains_number net.start set ≡ true → ⊥) → Joined x net → Meets x (none_out net set) ⊎ Meets x (some_in net set)
unfolding NoneBelow
cut_either x net set out j =
    by_lt_z (pos 0) (terms_value x (edges_out set net.edges (pos 1)))
    (λ more.
    let l = leaving x set net.edges j.not_negative more in
    let from : Reached x net l.edge.«from» = subst (λ (w : NetEdge). pos 0 <ℤ x w.unknown → Reached x net w.«from») l.is (j.reached l.place l.edge l.within) l.used in
    let e = entered x net set out l.edge.«from» from l.from_in in
    inr (meets_some_in x net set (entering x set net.edges e.edge e.place j.not_negative e.within e.is e.used e.to_in e.from_out)))
    (λ none. inl (meets_none_out x net set none))

held_at : (P : Net → Type 0) (nets : List Net) (i : ℕ) (net : Net) → All P nets → slice_get nets i ≡ Some net → P net
held_at P [] i net all e = absurd (cc)
held_at P (n ∷ ns) zero net all e = let same : n ≡ net = cc in subst P same (all zero n (omega arith))
held_at P (n ∷ ns) (suc i) net all e = held_at P ns i net (λ k d h. all (suc k) d (omega arith)) e

coe_closing : (x : Tree-F Tree) (nets : List Net) (rows : List Constraint) → said_by never (roll-Tree x) nets rows → NodeRule never (said_by never) x nets rows
coe_closing x nets rows c = subst (λ (L : Closing). L nets rows) (said-roll never x) c

-- no values meet the rows and join the nets
abbrev IsUnsolved : List Net → List Constraint → Type 0
IsUnsolved nets rows = (x : ℕ → ℤ) → MeetsAll x rows → All (Joined x) nets → ⊥

abbrev IsSound : Tree → Type 0
IsSound tree = (nets : List Net) (rows : List Constraint) → ClosesRows nets rows tree → IsUnsolved nets rows

-- a tree that is sound
abbrev Sound : Type 0
Sound = (tree : Tree) × IsSound tree

layer_sound : (y : Tree-F Sound) (nets : List Net) (rows : List Constraint) → NodeRule never (said_by never) (map-Tree Sound Tree (λ e. e.0) y) nets rows → IsUnsolved nets rows
layer_sound (Tree-F.Split u at low high) nets rows c x meets joined =
    ⊎_elim
    (λ h. low.1 nets (rows ++ at_most u at ∷ []) c.0 x (meets_more x rows (at_most u at) meets (meets_at_most x u at h)) joined)
    (λ h. high.1 nets (rows ++ at_least u (at +ℤ pos 1) ∷ []) c.1 x (meets_more x rows (at_least u (at +ℤ pos 1)) meets (meets_at_least x u (at +ℤ pos 1) h)) joined)
    (split_either (x u) at)
layer_sound (Tree-F.SetSplit i states none some) nets rows c x meets joined =
    let net = c.0 in
    ⊎_elim
    (λ m. none.1 nets (rows ++ none_out net states ∷ []) c.1.1.1.0 x (meets_more x rows (none_out net states) meets m) joined)
    (λ m. some.1 nets (rows ++ some_in net states ∷ []) c.1.1.1.1 x (meets_more x rows (some_in net states) meets m) joined)
    (cut_either x net states c.1.1.0 (held_at (Joined x) nets i net joined c.1.0))
layer_sound (Tree-F.Farkas ms) nets rows c x meets joined = farkas_sound x rows ms c meets
layer_sound (Tree-F.Divisor ms d) nets rows c x meets joined = divisor_sound x rows ms d c meets
layer_sound Tree-F.Open nets rows c x meets joined = absurd c

pub closes_sound : (tree : Tree) (nets : List Net) (rows : List Constraint) → ClosesRows nets rows tree → (x : ℕ → ℤ) → MeetsAll x rows → All (Joined x) nets → ⊥
closes_sound = ind-Tree IsSound (λ x y is nets rows c.
    let sound = subst (λ z. NodeRule never (said_by never) z nets rows → IsUnsolved nets rows) is (layer_sound y nets rows) in
    sound (coe_closing x nets rows c))
