-- How a search goes on.
use Rattle.std.proofs.Common.{◌≡◌, ◌<◌, ◌≤◌, ◌+◌, ◌-◌, ℕ, zero, suc, List, [], ◌∷◌, ◌++◌, Bool, length, take, drop, get_or, refl, sym, ap, ◌∙◌, subst, arith}
use Rattle.std.proofs.lemmas.List.{take-append-drop, drop-drop}
use Rattle.std.proofs.Math.Seq.{take-add, drop-length}
use Rattle.decide.specs.declared.verdict.Verdict.{Verdict}
use Rattle.sv_terms.specs.Truth.{HasNoValues, clear_of}
use Rattle.sv_terms.specs.declared.term.Term.{Term}
use Rattle.core_search.specs.Cores.{NamedPlace, Entry, staying, without, IsReasonToStay, IsCoreFrom, tried, stays, goes}
use Rattle.core_search.specs.Searches.{Stands, Leads, IsBound, all_out, between}
use Rattle.core_search.specs.declared.search.Bound.{Bound}
use Rattle.core_search.specs.declared.search.Search.{Search}

pub all_out-append : (xs ys : List NamedPlace) (outs : List Bool) → all_out (xs ++ ys) outs ≡ all_out ys (all_out xs outs)
all_out-append [] ys outs = refl
all_out-append (x ∷ xs) ys outs = all_out-append xs ys (without x.1 outs)

-- the names of two blocks
pub between-split : (low mid high : ℕ) (names : List NamedPlace) → low ≤ mid → mid ≤ high → between low high names ≡ between low mid names ++ between mid high names
between-split low mid high names a b =
    let size : high - low ≡ (mid - low) + (high - mid) = omega (arith, a, b) in
    let place : low + (mid - low) ≡ mid = omega (arith, a) in
    ap (λ (n : ℕ). take n (drop low names)) size
    ∙ take-add (mid - low) (high - mid) (drop low names)
    ∙ ap (λ (l : List NamedPlace). take (mid - low) (drop low names) ++ take (high - mid) l) (drop-drop (mid - low) low names ∙ ap (λ (n : ℕ). drop n names) place)

-- the names from a place on
pub drop-split : (low high : ℕ) (names : List NamedPlace) → low ≤ high → drop low names ≡ between low high names ++ drop high names
drop-split low high names a =
    let place : low + (high - low) ≡ high = omega (arith, a) in
    sym (take-append-drop (high - low) (drop low names)) ∙ ap (λ (l : List NamedPlace). take (high - low) (drop low names) ++ l) (drop-drop (high - low) low names ∙ ap (λ (n : ℕ). drop n names) place)

pub drop-at : (names : List NamedPlace) (at : ℕ) (n : NamedPlace) → at < length names → n ≡ get_or names at n → drop at names ≡ n ∷ drop (suc at) names
drop-at [] at n l e = absurd (omega (arith, l))
drop-at (x ∷ names) zero n l e = ap (λ y. y ∷ names) (sym e)
drop-at (x ∷ names) (suc at) n l e = drop-at names at n (omega (arith, l)) e

one-between : (names : List NamedPlace) (at : ℕ) (n : NamedPlace) → at < length names → n ≡ get_or names at n → between at (at + 1) names ≡ n ∷ []
one-between names at n l e =
    let size : at + 1 - at ≡ 1 = omega arith in
    ap (λ (k : ℕ). take k (drop at names)) size ∙ ap (take 1) (drop-at names at n l e)

none-between : (low : ℕ) (names : List NamedPlace) → between low low names ≡ []
none-between low names = let size : low - low ≡ 0 = omega arith in ap (λ (k : ℕ). take k (drop low names)) size

pub none-out : (low : ℕ) (names : List NamedPlace) (outs : List Bool) → outs ≡ all_out (between low low names) outs
none-out low names outs = sym (ap (λ l. all_out l outs) (none-between low names))

-- one name more is left out
pub out-next : (names : List NamedPlace) (low at : ℕ) (n : NamedPlace) (outs : List Bool) → low ≤ at → at < length names → n ≡ get_or names at n → all_out (between low (at + 1) names) outs ≡ without n.1 (all_out (between low at names) outs)
out-next names low at n outs a l e =
    ap (λ l. all_out l outs) (between-split low at (at + 1) names a (omega arith) ∙ ap (λ l. between low at names ++ l) (one-between names at n l e))
    ∙ all_out-append (between low at names) (n ∷ []) outs

-- names that go
goes-many : (terms : List Term) (xs names : List NamedPlace) (list : List Entry) (outs : List Bool) → IsCoreFrom terms (all_out xs outs) names list → IsCoreFrom terms outs (xs ++ names) list
goes-many terms [] names list outs h = h
goes-many terms ((name, place) ∷ xs) names list outs h = goes outs name place (xs ++ names) list (goes-many terms xs names list (without place outs) h)

module _ (terms : List Term) (names : List NamedPlace) where
  pub leads-self : (s : Search) → Stands terms names s → Leads terms names s s
  leads-self s h = record { stands = h; further = omega arith; listed = λ list k. k }

  -- a block of names went
  pub leads-on : (s t : Search) (to : ℕ) (outs : List Bool) → t.tried ≤ to → to ≤ length names → outs ≡ all_out (between t.tried to names) t.outs → HasNoValues (clear_of (staying outs terms)) → Leads terms names s t → Leads terms names s (record { outs = outs; tried = to })
  leads-on s t to outs a b e none h = record {
    stands = record { within = b; refuted = none };
    further = omega (arith, a, h.further);
    listed = λ list k.
        h.listed list (subst (λ l. IsCoreFrom terms t.outs l list) (sym (drop-split t.tried to names a))
        (goes-many terms (between t.tried to names) (drop to names) list t.outs (subst (λ o. IsCoreFrom terms o (drop to names) list) e k)));
  }

  -- the bound is one for what is left of the names before it
  pub bound-on : (t : Search) (bound : Bound) (to : ℕ) (outs : List Bool) → t.tried ≤ to → to < bound.to → outs ≡ all_out (between t.tried to names) t.outs → IsBound terms names t bound → IsBound terms names (record { outs = outs; tried = to }) bound
  bound-on t bound to outs a b e h = record {
    after = b;
    within = h.within;
    outs =
        h.outs
        ∙ ap (λ l. all_out l t.outs) (between-split t.tried to bound.to names a (omega (arith, b)))
        ∙ all_out-append (between t.tried to names) (between to bound.to names) t.outs
        ∙ ap (all_out (between to bound.to names)) (sym e);
    reason = h.reason;
  }

  -- nothing is before the bound but one name
  pub bound-last : (t : Search) (bound : Bound) → IsBound terms names t bound → bound.to ≡ t.tried + 1 → IsReasonToStay (staying (all_out (between t.tried (t.tried + 1) names) t.outs) terms) bound.answer
  bound-last t bound h e =
      subst (λ o. IsReasonToStay (staying o terms) bound.answer) (h.outs ∙ ap (λ (k : ℕ). all_out (between t.tried k names) t.outs) e) h.reason

  -- a name stays
  pub name-stays : (t : Search) (n : NamedPlace) (answer : Verdict) (list : List Entry) → t.tried < length names → n ≡ get_or names t.tried n → IsReasonToStay (staying (all_out (between t.tried (t.tried + 1) names) t.outs) terms) answer
      → IsCoreFrom terms t.outs (drop (t.tried + 1) names) list → IsCoreFrom terms t.outs (drop t.tried names) ((n.0, answer) ∷ list)
  name-stays t n answer list l e reason h =
      let next : t.tried + 1 ≡ suc t.tried = omega arith in
      subst (λ x. IsCoreFrom terms t.outs x ((n.0, answer) ∷ list)) (sym (drop-at names t.tried n l e))
      (stays t.outs n.0 n.1 answer (drop (suc t.tried) names) list
      (subst (λ x. IsReasonToStay (staying (all_out x t.outs) terms) answer) (one-between names t.tried n l e) reason)
      (subst (λ (k : ℕ). IsCoreFrom terms t.outs (drop k names) list) next h))

  -- all names were tried
  pub ends : (t : Search) → Stands terms names t → t.tried ≡ length names → IsCoreFrom terms t.outs (drop t.tried names) []
  ends t h e = subst (λ x. IsCoreFrom terms t.outs x []) (sym (ap (λ (k : ℕ). drop k names) e ∙ drop-length names)) (tried t.outs h.refuted)
