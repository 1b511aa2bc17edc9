-- Which terms stay.
use Rattle.std.proofs.Common.{◌≡◌, ◌<◌, ℕ, zero, suc, List, [], ◌∷◌, ◌++◌, ◌+◌, Bool, true, false, length, take, get_or, replicate, All, IsTrue, Some, refl, sym, ap, ◌∙◌, arith}
use Rattle.std.proofs.lemmas.List.{append-nil, length-take-le}
use Rattle.std.specs.List.{AllByRecursion}
use Rattle.sv_list.specs.Lists.{take-read}
use Rattle.sv_terms.specs.Sorting.{sort_of, is_valued}
use Rattle.sv_terms.specs.TransducerSizes.{has_formed}
use Rattle.sv_terms.specs.declared.sort.Sort.TheVariants as sort
use Rattle.sv_terms.specs.declared.term.Term.{Term}
use Rattle.core_search.specs.Cores.{staying}
use Rattle.core_search.specs.Searches.{AreTerms}

pub none_stays : (outs : List Bool) → staying outs [] ≡ []
none_stays [] = refl
none_stays (out ∷ outs) = refl

-- what stays of one term
pub stay_one : Bool → Term → List Term
stay_one true t = []
stay_one false t = t ∷ []

first_stays : (b : Bool) (outs : List Bool) (t : Term) → staying (b ∷ outs) (t ∷ []) ≡ stay_one b t
unfolding stay_one
first_stays true outs t = none_stays outs
first_stays false outs t = ap (λ l. t ∷ l) (none_stays outs)

-- one term more
pub staying-last : (outs : List Bool) (ts : List Term) (t : Term) → staying outs (ts ++ t ∷ []) ≡ staying outs ts ++ stay_one (get_or outs (length ts) false) t
unfolding stay_one
staying-last [] ts t = refl
staying-last (b ∷ outs) [] t = first_stays b outs t
staying-last (true ∷ outs) (x ∷ ts) t = staying-last outs ts t
staying-last (false ∷ outs) (x ∷ ts) t = ap (λ l. x ∷ l) (staying-last outs ts t)

has-element : (ts : List Term) (at : ℕ) → at < length ts → (t : Term) × (t ≡ get_or ts at t)
has-element [] at l = absurd (omega (arith, l))
has-element (t ∷ ts) zero l = (t, refl)
has-element (t ∷ ts) (suc at) l = has-element ts at (omega (arith, l))

next : (outs : List Bool) (ts : List Term) (at : ℕ) (t : Term) (b : Bool) → at < length ts → t ≡ get_or ts at t → b ≡ get_or outs at false → staying outs (take (at + 1) ts) ≡ staying outs (take at ts) ++ stay_one b t
next outs ts at t b l e f =
    ap (staying outs) (take-read ts at t l e)
    ∙ staying-last outs (take at ts) t
    ∙ ap (λ (n : ℕ). staying outs (take at ts) ++ stay_one (get_or outs n false) t) (length-take-le at ts (omega (arith, l)))
    ∙ ap (λ o. staying outs (take at ts) ++ stay_one o t) (sym f)

pub next-stays : (outs : List Bool) (ts : List Term) (at : ℕ) (t : Term) (b : Bool) → at < length ts → t ≡ get_or ts at t → b ≡ get_or outs at false → b ≡ false → staying outs (take (at + 1) ts) ≡ staying outs (take at ts) ++ t ∷ []
unfolding stay_one
next-stays outs ts at t b l e f is = next outs ts at t b l e f ∙ ap (λ o. staying outs (take at ts) ++ stay_one o t) is

pub next-goes : (outs : List Bool) (ts : List Term) (at : ℕ) (b : Bool) → at < length ts → b ≡ get_or outs at false → b ≡ true → staying outs (take (at + 1) ts) ≡ staying outs (take at ts)
unfolding stay_one
next-goes outs ts at b l f is =
    let t = has-element ts at l in
    next outs ts at t.0 b l t.1 f ∙ ap (λ o. staying outs (take at ts) ++ stay_one o t.0) is ∙ append-nil (staying outs (take at ts))

-- where none is left out
pub all-stay : (n : ℕ) (ts : List Term) → staying (replicate n false) ts ≡ ts
all-stay zero ts = refl
all-stay (suc n) [] = refl
all-stay (suc n) (t ∷ ts) = ap (λ l. t ∷ l) (all-stay n ts)

-- what holds of all terms holds of those that stay
staying-holds : (P : Term → Type 0) (outs : List Bool) (ts : List Term) → AllByRecursion P ts → AllByRecursion P (staying outs ts)
staying-holds P [] ts h = h
staying-holds P (b ∷ outs) [] h = tt
staying-holds P (true ∷ outs) (t ∷ ts) h = staying-holds P outs ts h.1
staying-holds P (false ∷ outs) (t ∷ ts) h = (h.0, staying-holds P outs ts h.1)

recursive : (P : Term → Type 0) (ts : List Term) → All P ts → AllByRecursion P ts
recursive P [] h = tt
recursive P (t ∷ ts) h = (h 0 t (omega arith), recursive P ts (λ i d l. h (suc i) d (omega (arith, l))))

each : (P : Term → Type 0) (ts : List Term) → AllByRecursion P ts → All P ts
each P [] h = λ i d l. absurd (omega (arith, l))
each P (t ∷ ts) h = λ i d l. at P t ts h.0 (each P ts h.1) i d l where
  at : (P : Term → Type 0) (t : Term) (ts : List Term) → P t → All P ts → (i : ℕ) (d : Term) → i < length (t ∷ ts) → P (get_or (t ∷ ts) i d)
  at P t ts h rest zero d l = h
  at P t ts h rest (suc i) d l = rest i d (omega (arith, l))

pub terms_stay : (outs : List Bool) (ts : List Term) → AreTerms ts → AreTerms (staying outs ts)
terms_stay outs ts h = record {
  sorted = staying-holds (λ t. sort_of t ≡ Some sort.Bool) outs ts h.sorted;
  formed = staying-holds (λ t. IsTrue (has_formed t)) outs ts h.formed;
  sorts = let valued : Term → Type 0 = λ t. IsTrue (is_valued h.sorts.0 t) in (h.sorts.0, each valued (staying outs ts) (staying-holds valued outs ts (recursive valued ts h.sorts.1)));
}
