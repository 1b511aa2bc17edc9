-- Terms that are added to forms, one after another, and machines in their order.
use Rattle.std.proofs.Common.{◌≡◌, ℕ, zero, suc, ◌+◌, ◌<◌, ◌≤◌, ℤ, pos, ◌+ℤ◌, Bool, true, false, cond, nat_eq, List, [], ◌∷◌, ◌++◌, length, map, take, get_or, replicate, unsigned_abs, append_assoc, negsuc, refl, ap, sym, ◌∙◌, subst, arith, length-take-le}
use Rattle.std.proofs.lemmas.Int.{ints}
use Rattle.std.proofs.lemmas.List.{take_all, take_more}
use Rattle.sv_linear.specs.Terms.{coefficient, AscendsWithin}
use Rattle.sv_linear.specs.declared.form.Form.{Form}
use Rattle.sv_linear.specs.TermLaws.{coefficient-append}
use Rattle.machine_core.specs.declared.graph.Graph.{Graph}
use Rattle.parikh_flow.specs.Counts.{size_of}
use Rattle.parikh_flow.specs.Nets.{net_of, nets_of, net_edge, net_edges}
use Rattle.machine_core.specs.declared.edge.Edge.{Edge}
use Rattle.parikh_flow.specs.Rows.{terms_by, by_machine, unknowns_after}
use Rattle.parikh_flow.specs.Building.{numbered, AreTermsAdded}

pub added-none : (f : Form) → AreTermsAdded [] f f
added-none f = record { terms = λ u. omega (arith, ints); constant = refl }

pub added-join : (ts us : List (ℕ × ℤ)) (f g h : Form) → AreTermsAdded ts f g → AreTermsAdded us g h → AreTermsAdded (ts ++ us) f h
added-join ts us f g h a b = record {
  terms = λ u. (let x = a.terms u in let y = b.terms u in let e = coefficient-append u ts us in omega (arith, ints));
  constant = b.constant ∙ a.constant;
}

pub added-term : (unknown : ℕ) (c : ℤ) (f g : Form) → g.coefficients ≡ f.coefficients ++ (unknown, c) ∷ [] → g.constant ≡ f.constant → AreTermsAdded ((unknown, c) ∷ []) f g
added-term unknown c f g e k = record { terms = λ u. ap (coefficient u) e ∙ coefficient-append u f.coefficients ((unknown, c) ∷ []); constant = k }

-- a term with the coefficient 0 adds nothing
pub added-zero : (unknown : ℕ) (c : ℤ) (f : Form) → c ≡ pos 0 → AreTermsAdded ((unknown, c) ∷ []) f f
added-zero unknown c f z = record { terms = λ u. by_test u (nat_eq unknown u); constant = refl }
  where
    by_test : (u : ℕ) (b : Bool) → coefficient u f.coefficients ≡ coefficient u f.coefficients +ℤ (cond b c (pos 0) +ℤ pos 0)
    by_test u true = omega (arith, ints)
    by_test u false = omega (arith, ints)

pub ascends-push : (low unknown : ℕ) (c : ℤ) (ts : List (ℕ × ℤ)) → (c ≡ pos 0 → ⊥) → AscendsWithin low unknown ts → AscendsWithin low (unknown + 1) (ts ++ (unknown, c) ∷ [])
ascends-push low unknown c [] some h = (h, (not-zero c some, omega arith))
  where
    not-zero : (c : ℤ) → (c ≡ pos 0 → ⊥) → 0 < unsigned_abs c
    not-zero (pos zero) some = absurd (some refl)
    not-zero (pos (suc n)) some = omega (arith, ints)
    not-zero (negsuc n) some = omega (arith, ints)
ascends-push low unknown c (t ∷ ts) some h = (h.0, (h.1.0, ascends-push (t.0 + 1) unknown c ts some h.1.1))

-- one element more
pub terms-push : {X : Type 0} (by : X → ℤ) (base : ℕ) (xs : List X) (x : X) → terms_by by base (xs ++ x ∷ []) ≡ terms_by by base xs ++ (base + length xs, by x) ∷ []
terms-push by base [] x = ap (λ n. (n, by x) ∷ []) (let z : base ≡ base + 0 = omega arith in z)
terms-push by base (y ∷ ys) x = ap (λ l. (base, by y) ∷ l) (terms-push by (suc base) ys x ∙ ap (λ n. terms_by by (suc base) ys ++ (n, by x) ∷ []) (let z : suc base + length ys ≡ base + suc (length ys) = omega arith in z))

pub terms-more : {X : Type 0} (by : X → ℤ) (base : ℕ) (xs : List X) (i : ℕ) (x d : X) → i < length xs → x ≡ get_or xs i d → terms_by by base (take (i + 1) xs) ≡ terms_by by base (take i xs) ++ (base + i, by x) ∷ []
terms-more by base xs i x d lt e =
    ap (terms_by by base) (take_more xs i d lt ∙ ap (λ y. take i xs ++ y ∷ []) (sym e)) ∙ terms-push by base (take i xs) x
    ∙ ap (λ n. terms_by by base (take i xs) ++ (base + n, by x) ∷ []) (length-take-le i xs (omega arith))

-- the terms by coefficients that were listed before
pub numbered-map : {X : Type 0} (by : X → ℤ) (base : ℕ) (xs : List X) → numbered base (map by xs) ≡ terms_by by base xs
numbered-map by base [] = refl
numbered-map by base (x ∷ xs) = ap (λ l. (base, by x) ∷ l) (numbered-map by (suc base) xs)

pub numbered-ones : {X : Type 0} (base : ℕ) (xs : List X) → numbered base (replicate (length xs) (pos 1)) ≡ terms_by (λ _. pos 1) base xs
numbered-ones base [] = refl
numbered-ones base (x ∷ xs) = ap (λ l. (base, pos 1) ∷ l) (numbered-ones (suc base) xs)

-- the first machines, and one more
pub after-push : (base : ℕ) (ms : List Graph) (m : Graph) → unknowns_after base (ms ++ m ∷ []) ≡ unknowns_after base ms + size_of m
after-push base [] m = refl
after-push base (x ∷ ms) m = after-push (base + size_of x) ms m

pub machines-push : {X : Type 0} (f : ℕ → Graph → List X) (base : ℕ) (ms : List Graph) (m : Graph) → by_machine f base (ms ++ m ∷ []) ≡ by_machine f base ms ++ f (unknowns_after base ms) m
machines-push f base [] m = append-nil (f base m)
  where
    append-nil : {X : Type 0} (xs : List X) → xs ++ [] ≡ xs
    append-nil [] = refl
    append-nil (x ∷ xs) = ap (λ l. x ∷ l) (append-nil xs)
machines-push f base (x ∷ ms) m = ap (λ l. f base x ++ l) (machines-push f (base + size_of x) ms m) ∙ sym (append_assoc (f base x) (by_machine f (base + size_of x) ms) (f (unknowns_after (base + size_of x) ms) m))

pub after-most : (base : ℕ) (ms : List Graph) → base ≤ unknowns_after base ms
after-most base [] = omega arith
after-most base (m ∷ ms) = let r = after-most (base + size_of m) ms in omega arith

pub after-within : (base : ℕ) (ms : List Graph) (i : ℕ) → unknowns_after base (take i ms) ≤ unknowns_after base ms
after-within base [] zero = omega arith
after-within base [] (suc i) = omega arith
after-within base (m ∷ ms) zero = after-most base (m ∷ ms)
after-within base (m ∷ ms) (suc i) = after-within (base + size_of m) ms i

module _ (base : ℕ) (ms : List Graph) (i : ℕ) (m : Graph) (lt : i < length ms) (e : m ≡ get_or ms i m) where
  one-more : take (i + 1) ms ≡ take i ms ++ m ∷ []
  one-more = take_more ms i m lt ∙ ap (λ x. take i ms ++ x ∷ []) (sym e)

  pub after-more : unknowns_after base (take (i + 1) ms) ≡ unknowns_after base (take i ms) + size_of m
  after-more = ap (unknowns_after base) one-more ∙ after-push base (take i ms) m

  pub after-room : unknowns_after base (take i ms) + size_of m ≤ unknowns_after base ms
  after-room = let a = after-more in let b = after-within base ms (i + 1) in omega arith

  pub machines-more : {X : Type 0} (f : ℕ → Graph → List X) → by_machine f base (take (i + 1) ms) ≡ by_machine f base (take i ms) ++ f (unknowns_after base (take i ms)) m
  machines-more f = ap (by_machine f base) one-more ∙ machines-push f base (take i ms) m

  nets-push : (base : ℕ) (ms : List Graph) (m : Graph) → nets_of base (ms ++ m ∷ []) ≡ nets_of base ms ++ net_of (unknowns_after base ms) m ∷ []
  nets-push base [] m = refl
  nets-push base (x ∷ ms) m = ap (λ l. net_of base x ∷ l) (nets-push (base + size_of x) ms m)

  pub nets-more : nets_of base (take (i + 1) ms) ≡ nets_of base (take i ms) ++ net_of (unknowns_after base (take i ms)) m ∷ []
  nets-more = ap (nets_of base) one-more ∙ nets-push base (take i ms) m

pub all-taken : {X : Type 0} (xs : List X) (i : ℕ) → length xs ≤ i → i ≤ length xs → (take i xs ≡ xs) × (i ≡ length xs)
all-taken xs i le ge = (take_all i xs le, omega arith)

-- the edges of a net, one more
net-push : (base : ℕ) (es : List Edge) (e : Edge) → net_edges base (es ++ e ∷ []) ≡ net_edges base es ++ net_edge (base + length es) e ∷ []
net-push base [] e = ap (λ n. net_edge n e ∷ []) (let z : base ≡ base + 0 = omega arith in z)
net-push base (x ∷ es) e = ap (λ l. net_edge base x ∷ l) (net-push (suc base) es e ∙ ap (λ n. net_edges (suc base) es ++ net_edge n e ∷ []) (let z : suc base + length es ≡ base + suc (length es) = omega arith in z))

pub net-more : (base : ℕ) (es : List Edge) (i : ℕ) (e : Edge) → i < length es → e ≡ get_or es i e → net_edges base (take (i + 1) es) ≡ net_edges base (take i es) ++ net_edge (base + i) e ∷ []
net-more base es i e lt read =
    ap (net_edges base) (take_more es i e lt ∙ ap (λ y. take i es ++ y ∷ []) (sym read)) ∙ net-push base (take i es) e
    ∙ ap (λ n. net_edges base (take i es) ++ net_edge (base + n) e ∷ []) (length-take-le i es (omega arith))

-- one coefficient more
pub added-next : (base i unknown : ℕ) (cs : List ℤ) (c : ℤ) (f g h : Form) → i < length cs → unknown ≡ base + i → c ≡ get_or cs i (pos 0)
    → AreTermsAdded (numbered base (take i cs)) f g → AreTermsAdded ((unknown, c) ∷ []) g h → AreTermsAdded (numbered base (take (i + 1) cs)) f h
added-next base i unknown cs c f g h lt next read a b =
    subst (λ ts. AreTermsAdded ts f h) (ap (λ n. numbered base (take i cs) ++ (n, c) ∷ []) next ∙ sym (terms-more (λ z. z) base cs i c (pos 0) lt read))
    (added-join (numbered base (take i cs)) ((unknown, c) ∷ []) f g h a b)
