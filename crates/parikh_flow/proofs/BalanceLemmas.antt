-- The forms of all states, while edges and ends are added to them.
use Rattle.std.proofs.Common.{◌≡◌, ℕ, zero, suc, ◌+◌, ◌<◌, ◌≤◌, ℤ, pos, negsuc, neg_ℤ, ◌+ℤ◌, Bool, true, false, cond, nat_eq, List, [], ◌∷◌, ◌++◌, length, map, take, get_or, slice_get, slice_set, Some, All, append_assoc, refl, ap, sym, ◌∙◌, subst, arith}
use Rattle.std.specs.List.{range_with_len}
use Rattle.std.proofs.lemmas.Int.{ints}
use Rattle.std.proofs.lemmas.Bool.Decides.{nat_tests}
use Rattle.std.proofs.lemmas.List.{map_push, take_all}
use Rattle.std.proofs.lemmas.List.Elements.{Contains-get_or}
use Rattle.sv_linear.specs.Points.{unit}
use Rattle.sv_linear.specs.Terms.{coefficient, AscendsWithin}
use Rattle.sv_linear.specs.declared.form.Form.{Form}
use Rattle.sv_linear.specs.declared.row.Row.{Row}
use Rattle.sv_linear.proofs.Ascending.{AscendsWithin-widen}
use Rattle.machine_core.specs.declared.edge.Edge.{Edge}
use Rattle.machine_core.specs.declared.end.End.{End}
use Rattle.machine_core.specs.declared.graph.Graph.{Graph}
use Rattle.parikh_flow.specs.Rows.{terms_by, machine_terms, edge_balance, end_balance, state_row, IsSameRow, AreSameRows}
use Rattle.parikh_flow.specs.Building.{AreTermsAdded, IsTermAdded, AreAdded, AreOpened, AreStateForms, equation_row}
use Rattle.parikh_flow.proofs.FormLemmas.{added-join, added-term, added-zero, ascends-push, terms-more}

pub by_same : {P : Type 0} (m n : ℕ) → (m ≡ n → P) → ((m ≡ n → ⊥) → P) → P
by_same zero zero f g = f refl
by_same zero (suc n) f g = g (λ e. absurd (omega arith))
by_same (suc m) zero f g = g (λ e. absurd (omega arith))
by_same (suc m) (suc n) f g = by_same m n (λ e. f (ap suc e)) (λ ne. g (λ e. ne (omega arith)))

get-same : (xs : List Form) (i : ℕ) (x y : Form) → slice_get xs i ≡ Some x → slice_get (slice_set xs i y) i ≡ Some y
get-same [] i x y e = cc
get-same (z ∷ xs) zero x y e = refl
get-same (z ∷ xs) (suc i) x y e = get-same xs i x y e

get-other : (xs : List Form) (i k : ℕ) (y : Form) → (k ≡ i → ⊥) → slice_get (slice_set xs i y) k ≡ slice_get xs k
get-other [] i k y h = refl
get-other (z ∷ xs) zero zero y h = absurd (h refl)
get-other (z ∷ xs) zero (suc k) y h = refl
get-other (z ∷ xs) (suc i) zero y h = refl
get-other (z ∷ xs) (suc i) (suc k) y h = get-other xs i k y (λ e. h (ap suc e))

length-set : (xs : List Form) (i : ℕ) (y : Form) → length (slice_set xs i y) ≡ length xs
length-set [] i y = refl
length-set (z ∷ xs) zero y = refl
length-set (z ∷ xs) (suc i) y = ap suc (length-set xs i y)

get-below : (xs : List Form) (i : ℕ) (x : Form) → slice_get xs i ≡ Some x → i < length xs
get-below [] i x e = cc
get-below (z ∷ xs) zero x e = omega arith
get-below (z ∷ xs) (suc i) x e = let h = get-below xs i x e in omega arith

get-some : (xs : List Form) (i : ℕ) → i < length xs → (x : Form) × (slice_get xs i ≡ Some x)
get-some [] i lt = absurd (omega arith)
get-some (x ∷ xs) zero lt = (x, refl)
get-some (x ∷ xs) (suc i) lt = get-some xs i (omega arith)

-- nothing was added
pub added-nothing : (ts : ℕ → List (ℕ × ℤ)) (next more : ℕ) (a : List Form) → next ≤ more → ((s : ℕ) (f : Form) → slice_get a s ≡ Some f → AscendsWithin 0 next f.coefficients)
    → ((s : ℕ) (f : Form) → AreTermsAdded (ts s) f f) → AreAdded ts more a a
added-nothing ts next more a le ascend none = record {
  size = refl;
  each = λ s f g e h. (let same : f ≡ g = cc in subst (AreTermsAdded (ts s) f) same (none s f));
  ascend = λ s g e. AscendsWithin-widen 0 next more g.coefficients le (ascend s g e);
}

pub added-both : (ts us : ℕ → List (ℕ × ℤ)) (m n : ℕ) (a b d : List Form) → AreAdded ts m a b → AreAdded us n b d → AreAdded (λ s. ts s ++ us s) n a d
added-both ts us m n a b d p q = record {
  size = q.size ∙ p.size;
  each = λ s f g e h.
      let lt = get-below a s f e in
      let size = p.size in
      let x = get-some b s (omega arith) in
      added-join (ts s) (us s) f x.0 g (p.each s f x.0 e x.1) (q.each s x.0 g x.1 h);
  ascend = q.ascend;
}

pub added-same : (ts us : ℕ → List (ℕ × ℤ)) (n : ℕ) (a b : List Form) → ((s : ℕ) (f g : Form) → AreTermsAdded (ts s) f g → AreTermsAdded (us s) f g) → AreAdded ts n a b → AreAdded us n a b
added-same ts us n a b h p = record { size = p.size; each = λ s f g e k. h s f g (p.each s f g e k); ascend = p.ascend }

-- a term was added at one place
pub added-at : (at unknown : ℕ) (c : ℤ) (by : ℕ → ℤ) (a b : List Form) → (c ≡ pos 0 → ⊥) → by at ≡ c → ((s : ℕ) → (s ≡ at → ⊥) → by s ≡ pos 0)
    → ((f : Form) → slice_get a at ≡ Some f → AscendsWithin 0 unknown f.coefficients) → ((s : ℕ) (f : Form) → slice_get a s ≡ Some f → AscendsWithin 0 (unknown + 1) f.coefficients)
    → IsTermAdded at unknown c a b → AreAdded (λ s. (unknown, by s) ∷ []) (unknown + 1) a b
added-at at unknown c by a b some here others below ascend p = record {
  size = ap length p.set ∙ length-set a at p.now;
  each = λ s f g e h. by_same s at (here-added s f g e h) (other-added s f g e h);
  ascend = λ s g h. by_same s at (here-ascends s g h) (λ ne. ascend s g (other s g ne h));
}
  where
    now-at : slice_get b at ≡ Some p.now
    now-at = subst (λ l. slice_get l at ≡ Some p.now) (sym p.set) (get-same a at p.before p.now p.found)

    other : (s : ℕ) (g : Form) → (s ≡ at → ⊥) → slice_get b s ≡ Some g → slice_get a s ≡ Some g
    other s g ne h = sym (get-other a at s p.now ne) ∙ subst (λ l. slice_get l s ≡ Some g) p.set h

    here-added : (s : ℕ) (f g : Form) → slice_get a s ≡ Some f → slice_get b s ≡ Some g → s ≡ at → AreTermsAdded ((unknown, by s) ∷ []) f g
    here-added s f g e h z =
        let e' = subst (λ n. slice_get a n ≡ Some f) z e in
        let h' = subst (λ n. slice_get b n ≡ Some g) z h in
        let k = p.found in
        let l = now-at in
        let first : p.before ≡ f = cc in
        let second : p.now ≡ g = cc in
        let added = added-term unknown c p.before p.now p.coefficients p.constant in
        let is : c ≡ by s = sym here ∙ ap by (sym z) in
        subst (λ (x : Form). AreTermsAdded ((unknown, by s) ∷ []) f x) second (subst (λ (x : Form). AreTermsAdded ((unknown, by s) ∷ []) x p.now) first (subst (λ z. AreTermsAdded ((unknown, z) ∷ []) p.before p.now) is added))

    other-added : (s : ℕ) (f g : Form) → slice_get a s ≡ Some f → slice_get b s ≡ Some g → (s ≡ at → ⊥) → AreTermsAdded ((unknown, by s) ∷ []) f g
    other-added s f g e h ne =
        let k = other s g ne h in
        let same : f ≡ g = cc in
        subst (λ (x : Form). AreTermsAdded ((unknown, by s) ∷ []) f x) same (added-zero unknown (by s) f (others s ne))

    here-ascends : (s : ℕ) (g : Form) → slice_get b s ≡ Some g → s ≡ at → AscendsWithin 0 (unknown + 1) g.coefficients
    here-ascends s g h z =
        let h' = subst (λ n. slice_get b n ≡ Some g) z h in
        let l = now-at in
        let second : p.now ≡ g = cc in
        subst (λ (x : Form). AscendsWithin 0 (unknown + 1) x.coefficients) second
        (subst (AscendsWithin 0 (unknown + 1)) (sym p.coefficients) (ascends-push 0 unknown c p.before.coefficients some (below p.before p.found)))

unit-same : (s v : ℕ) → v ≡ s → unit s v ≡ pos 1
unit-same s v e = let t : nat_eq v s ≡ true = grind (arith, nat_tests) in ap (λ b. cond b (pos 1) (pos 0)) t

unit-other : (s v : ℕ) → (v ≡ s → ⊥) → unit s v ≡ pos 0
unit-other s v ne = by_test (nat_eq v s) refl
  where
    by_test : (b : Bool) → nat_eq v s ≡ b → unit s v ≡ pos 0
    by_test false t = ap (λ b. cond b (pos 1) (pos 0)) t
    by_test true t = absurd (ne (grind (arith, nat_tests)))

-- two terms of one unknown
added-sum : (unknown : ℕ) (x y : ℤ) (f g : Form) → AreTermsAdded ((unknown, x) ∷ (unknown, y) ∷ []) f g → AreTermsAdded ((unknown, x +ℤ y) ∷ []) f g
added-sum unknown x y f g a = record { terms = λ u. a.terms u ∙ ap (λ z. coefficient u f.coefficients +ℤ z) (by_test u (nat_eq unknown u)); constant = a.constant }
  where
    by_test : (u : ℕ) (b : Bool) → cond b x (pos 0) +ℤ (cond b y (pos 0) +ℤ pos 0) ≡ cond b (x +ℤ y) (pos 0) +ℤ pos 0
    by_test u true = omega (arith, ints)
    by_test u false = omega (arith, ints)

-- an edge
module _ (e : Edge) (unknown : ℕ) (a b d : List Form) (ascend : (s : ℕ) (f : Form) → slice_get a s ≡ Some f → AscendsWithin 0 unknown f.coefficients) where
  pub added-loop : e.from ≡ e.to → AreAdded (λ s. (unknown, edge_balance s e) ∷ []) (unknown + 1) a a
  added-loop same = added-nothing (λ s. (unknown, edge_balance s e) ∷ []) unknown (unknown + 1) a (omega arith) ascend
      (λ s f. added-zero unknown (edge_balance s e) f (let z = ap (unit s) same in omega (arith, ints)))

  first : IsTermAdded e.to unknown (pos 1) a b → AreAdded (λ s. (unknown, unit s e.to) ∷ []) (unknown + 1) a b
  first p = added-at e.to unknown (pos 1) (λ s. unit s e.to) a b (λ z. absurd (omega (arith, ints))) (unit-same e.to e.to refl) (λ s ne. unit-other s e.to (λ z. ne (sym z)))
      (λ f h. ascend e.to f h) (λ s f h. AscendsWithin-widen 0 unknown (unknown + 1) f.coefficients (omega arith) (ascend s f h)) p

  pub second-below : (e.from ≡ e.to → ⊥) → IsTermAdded e.to unknown (pos 1) a b → (f : Form) → slice_get b e.from ≡ Some f → AscendsWithin 0 unknown f.coefficients
  second-below ne p f h = ascend e.from f (sym (get-other a e.to e.from p.now ne) ∙ subst (λ l. slice_get l e.from ≡ Some f) p.set h)

  pub added-edge : (e.from ≡ e.to → ⊥) → IsTermAdded e.to unknown (pos 1) a b → IsTermAdded e.from unknown (negsuc 0) b d → AreAdded (λ s. (unknown, edge_balance s e) ∷ []) (unknown + 1) a d
  added-edge ne p q =
      let one = first p in
      let two = added-at e.from unknown (negsuc 0) (λ s. neg_ℤ (unit s e.from)) b d (λ z. absurd (omega (arith, ints))) (let z = unit-same e.from e.from refl in omega (arith, ints))
      (λ s other. (let z = unit-other s e.from (λ z. other (sym z)) in omega (arith, ints))) (second-below ne p) one.ascend q in
      added-same (λ s. (unknown, unit s e.to) ∷ (unknown, neg_ℤ (unit s e.from)) ∷ []) (λ s. (unknown, edge_balance s e) ∷ []) (unknown + 1) a d
      (λ s f g h. added-sum unknown (unit s e.to) (neg_ℤ (unit s e.from)) f g h)
      (added-both (λ s. (unknown, unit s e.to) ∷ []) (λ s. (unknown, neg_ℤ (unit s e.from)) ∷ []) (unknown + 1) (unknown + 1) a b d one two)

-- an end
pub added-end : (e : End) (unknown : ℕ) (a b : List Form) → ((s : ℕ) (f : Form) → slice_get a s ≡ Some f → AscendsWithin 0 unknown f.coefficients) → IsTermAdded e.at unknown (negsuc 0) a b
    → AreAdded (λ s. (unknown, end_balance s e) ∷ []) (unknown + 1) a b
added-end e unknown a b ascend p =
    added-at e.at unknown (negsuc 0) (λ s. end_balance s e) a b (λ z. absurd (omega (arith, ints))) (let z = unit-same e.at e.at refl in omega (arith, ints))
    (λ s other. (let z = unit-other s e.at (λ z. other (sym z)) in omega (arith, ints)))
    (λ f h. ascend e.at f h) (λ s f h. AscendsWithin-widen 0 unknown (unknown + 1) f.coefficients (omega arith) (ascend s f h)) p

-- one more of the edges or ends
pub added-more : {X : Type 0} (by : ℕ → X → ℤ) (base i unknown : ℕ) (xs : List X) (x : X) (a b d : List Form) → i < length xs → x ≡ get_or xs i x → unknown ≡ base + i
    → AreAdded (λ s. terms_by (by s) base (take i xs)) unknown a b → AreAdded (λ s. (unknown, by s x) ∷ []) (unknown + 1) b d → AreAdded (λ s. terms_by (by s) base (take (i + 1) xs)) (unknown + 1) a d
added-more {X} by base i unknown xs x a b d lt read next p q =
    added-same (λ s. terms_by (by s) base (take i xs) ++ (unknown, by s x) ∷ []) (λ s. terms_by (by s) base (take (i + 1) xs)) (unknown + 1) a d
    (λ s f g h. subst (λ ts. AreTermsAdded ts f g) (ap (λ n. terms_by (by s) base (take i xs) ++ (n, by s x) ∷ []) next ∙ sym (terms-more (by s) base xs i x x lt read)) h)
    (added-both (λ s. terms_by (by s) base (take i xs)) (λ s. (unknown, by s x) ∷ []) unknown (unknown + 1) a b d p q)

-- all of them were looked at
pub added-all : {X : Type 0} (by : ℕ → X → ℤ) (base i unknown : ℕ) (xs : List X) (a b : List Form) → length xs ≤ i → i ≤ length xs → unknown ≡ base + i
    → AreAdded (λ s. terms_by (by s) base (take i xs)) unknown a b → AreAdded (λ s. terms_by (by s) base xs) (base + length xs) a b
added-all by base i unknown xs a b past within next p =
    let same : unknown ≡ base + length xs = omega arith in
    subst (λ n. AreAdded (λ s. terms_by (by s) base xs) n a b) same
    (subst (λ l. AreAdded (λ s. terms_by (by s) base l) unknown a b) (take_all i xs past) p)

-- forms without unknowns
pub opened-ascend : (states n : ℕ) (forms : List Form) → AreOpened states forms → (s : ℕ) (f : Form) → slice_get forms s ≡ Some f → AscendsWithin 0 n f.coefficients
opened-ascend states n forms o s f e = rw (o.each s f e).0 (omega arith)

-- the forms of all states
pub state-forms : (base : ℕ) (m : Graph) (a b d : List Form) → AreOpened m.states a → AreAdded (λ s. terms_by (edge_balance s) base m.edges) (base + length m.edges) a b
    → AreAdded (λ s. terms_by (end_balance s) (base + length m.edges) m.ends) (base + length m.edges + length m.ends) b d → AreStateForms base m d
state-forms base m a b d o p q =
    let all = added-both (λ s. terms_by (edge_balance s) base m.edges) (λ s. terms_by (end_balance s) (base + length m.edges) m.ends) (base + length m.edges) (base + length m.edges + length m.ends) a b d p q in
    record {
      size = all.size ∙ o.size;
      terms = λ s g e u.
          let lt = get-below d s g e in
          let size = all.size in
          let f = get-some a s (omega arith) in
          let h = (all.each s f.0 g f.1 e).terms u in
          let z = ap (coefficient u) (o.each s f.0 f.1).0 in
          omega (arith, ints, h, z);
      constant = λ s g e.
          let lt = get-below d s g e in
          let size = all.size in
          let f = get-some a s (omega arith) in
          (all.each s f.0 g f.1 e).constant ∙ (o.each s f.0 f.1).1;
    }

pub state-rows : (base : ℕ) (m : Graph) (forms : List Form) → AreStateForms base m forms → AreSameRows (map equation_row forms) (map (state_row base m) (range_with_len 0 m.states))
state-rows base m forms are =
    rows forms 0 m.states are.size (λ s f e. (let z : 0 + s ≡ s = omega arith in record {
      terms = λ u. are.terms s f e u ∙ ap (λ n. coefficient u (machine_terms (edge_balance n) (end_balance n) base m)) (sym z);
      constant = are.constant s f e ∙ ap (λ n. unit n 0) (sym z);
      equal = refl;
    }))
  where
    rows : (fs : List Form) (k n : ℕ) → length fs ≡ n → ((s : ℕ) (f : Form) → slice_get fs s ≡ Some f → IsSameRow (equation_row f) (state_row base m (k + s))) → AreSameRows (map equation_row fs) (map (state_row base m) (range_with_len k n))
    rows [] k zero e h = tt
    rows [] k (suc n) e h = absurd (omega arith)
    rows (f ∷ fs) k zero e h = absurd (omega arith)
    rows (f ∷ fs) k (suc n) e h = (
      subst (λ i. IsSameRow (equation_row f) (state_row base m i)) (let z : k + 0 ≡ k = omega arith in z) (h zero f refl),
      rows fs (k + 1) n (omega arith) (λ s g i. subst (λ j. IsSameRow (equation_row g) (state_row base m j)) (let z : k + suc s ≡ k + 1 + s = omega arith in z) (h (suc s) g i)),
    )

-- edges and ends stand at states
pub edge-states : (m : Graph) (all : List Edge) (n : ℕ) → all ≡ m.edges → n ≡ m.states → All (λ (e : Edge). (e.from < n) × (e.to < n)) all
edge-states m all n a b = rw (a, b) (λ k d lt. let f = m.formed.edge (get_or m.edges k d) (Contains-get_or m.edges k d lt) in (f.from, f.to))

pub end-states : (m : Graph) (all : List End) (n : ℕ) → all ≡ m.ends → n ≡ m.states → All (λ (e : End). e.at < n) all
end-states m all n a b = rw (a, b) (λ k d lt. (m.formed.ending (get_or m.ends k d) (Contains-get_or m.ends k d lt)).at)

-- the rows of forms that are read one after another
pub rows-end : (forms read left : List Form) (rows : List Row) → forms ≡ read ++ left → length left ≡ 0 → rows ≡ map equation_row read → rows ≡ map equation_row forms
rows-end forms read [] rows e none made = made ∙ ap (map equation_row) (sym (e ∙ append-nil read))
  where
    append-nil : (xs : List Form) → xs ++ [] ≡ xs
    append-nil [] = refl
    append-nil (x ∷ xs) = ap (λ l. x ∷ l) (append-nil xs)
rows-end forms read (f ∷ left) rows e none made = absurd (omega arith)

pub rows-step : (forms read left rest : List Form) (f : Form) → forms ≡ read ++ left → left ≡ f ∷ rest → forms ≡ (read ++ f ∷ []) ++ rest
rows-step forms read left rest f e g = e ∙ ap (λ l. read ++ l) g ∙ sym (append_assoc read (f ∷ []) rest)

pub rows-more : (read : List Form) (f : Form) (rows new : List Row) → rows ≡ map equation_row read → new ≡ rows ++ equation_row f ∷ [] → new ≡ map equation_row (read ++ f ∷ [])
rows-more read f rows new e g = g ∙ ap (λ l. l ++ equation_row f ∷ []) e ∙ sym (map_push equation_row read f)
