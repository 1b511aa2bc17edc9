-- The levels of a script stay sound, whatever command is done.
use Rattle.std.proofs.Common.{◌≡◌, refl, sym, subst, ℕ, zero, suc, List, [], ◌∷◌, ◌++◌, drop, take, length, ◌-◌, Some, IsTrue, append_assoc, append-nil}
use Rattle.std.specs.List.{AllByRecursion}
use Rattle.sv_list.specs.Lists.{AllByRecursion-append, AllByRecursion-first, AllByRecursion-push}
use Rattle.assert_stack.specs.Levels.{Level, Symbol, empty, symbols_of, live, pushed, declared, asserted, asserted_all, asserted_named, dropped_last}
use Rattle.sort_check.specs.WellFormed.{is_well_formed, IsAdded}
use Rattle.sv_terms.specs.Sorting.{sort_of}
use Rattle.sv_terms.specs.declared.entry.Body.TheVariants as body
use Rattle.sv_terms.specs.declared.entry.Entry.{Entry}
use Rattle.sv_terms.specs.declared.entry.Entry.TheVariants as entry
use Rattle.sv_terms.specs.declared.sort.Sort.TheVariants as sort
use Rattle.sv_terms.specs.declared.term.Term.{Term}
use Rattle.cube_table.specs.Standing.{IsStanding}

abbrev IsBool : Term → Type 0
IsBool t = sort_of t ≡ Some sort.Bool

-- the first names of those that are well formed are
abbrev pub Prefixes : Type 0
Prefixes = (xs ys : List Symbol) → IsTrue (is_well_formed (xs ++ ys)) → IsTrue (is_well_formed xs)

pub stands_opened : IsStanding (empty ∷ [])
stands_opened = record { formed = refl; sorted = tt }

outer : Prefixes → (level : Level) (levels : List Level) → IsStanding (level ∷ levels) → IsStanding levels
outer prefixes level levels h = record { formed = prefixes (symbols_of levels) level.0 h.formed; sorted = AllByRecursion-first IsBool (live levels) level.1 h.sorted }

pub stands_dropped : Prefixes → (n : ℕ) (levels : List Level) → IsStanding levels → IsStanding (drop n levels)
stands_dropped prefixes zero [] h = h
stands_dropped prefixes zero (level ∷ levels) h = h
stands_dropped prefixes (suc n) [] h = h
stands_dropped prefixes (suc n) (level ∷ levels) h = stands_dropped prefixes n levels (outer prefixes level levels h)

inner : (levels : List Level) → IsStanding levels → IsStanding (empty ∷ levels)
inner levels h = record { formed = subst (λ z. IsTrue (is_well_formed z)) (sym (append-nil (symbols_of levels))) h.formed; sorted = subst (AllByRecursion IsBool) (sym (append-nil (live levels))) h.sorted }

pub stands_pushed : (n : ℕ) (levels : List Level) → IsStanding levels → IsStanding (pushed n levels)
stands_pushed zero levels h = h
stands_pushed (suc n) levels h = inner (pushed n levels) (stands_pushed n levels h)

pub stands_declared : (name : List ℕ) (e : Entry) (levels : List Level) → IsAdded (symbols_of levels) name e → IsStanding levels → IsStanding (declared name e levels)
stands_declared name e [] a h = h
stands_declared name e (level ∷ levels) a h = record { formed = subst (λ z. IsTrue (is_well_formed z)) (append_assoc (symbols_of levels) level.0 ((name, e) ∷ [])) a.well_formed; sorted = h.sorted }

pub stands_asserted : (t : Term) (levels : List Level) → IsBool t → IsStanding levels → IsStanding (asserted t levels)
stands_asserted t [] b h = h
stands_asserted t (level ∷ levels) b h = record {
  formed = h.formed;
  sorted = subst (AllByRecursion IsBool) (append_assoc (live levels) level.1 (t ∷ [])) (AllByRecursion-push IsBool (live levels ++ level.1) t h.sorted b);
}

-- a name for an assertion is known as a macro
pub stands_named : (name : List ℕ) (t : Term) (levels : List Level) → IsAdded (symbols_of levels) name (entry.Macro [] (body.Term t)) → IsBool t → IsStanding levels → IsStanding (asserted_named name t levels)
stands_named name t [] a b h = h
stands_named name t (level ∷ levels) a b h =
    let s = stands_asserted t (declared name (entry.Macro [] (body.Term t)) (level ∷ levels)) b (stands_declared name (entry.Macro [] (body.Term t)) (level ∷ levels) a h) in
    record { formed = s.formed; sorted = s.sorted }

all-last : (xs ys : List Term) → AllByRecursion IsBool (xs ++ ys) → AllByRecursion IsBool ys
all-last [] ys h = h
all-last (x ∷ xs) ys h = all-last xs ys h.1

all-taken : (n : ℕ) (xs : List Term) → AllByRecursion IsBool xs → AllByRecursion IsBool (take n xs)
all-taken zero [] h = tt
all-taken zero (x ∷ xs) h = tt
all-taken (suc n) [] h = tt
all-taken (suc n) (x ∷ xs) h = (h.0, all-taken n xs h.1)

pub stands_assumed : (ts : List Term) (levels : List Level) → AllByRecursion IsBool ts → IsStanding levels → IsStanding (asserted_all ts levels)
stands_assumed ts [] b h = h
stands_assumed ts (level ∷ levels) b h = record {
  formed = h.formed;
  sorted = subst (AllByRecursion IsBool) (append_assoc (live levels) level.1 ts) (AllByRecursion-append IsBool (live levels ++ level.1) ts h.sorted b);
}

pub stands_left : (n : ℕ) (levels : List Level) → IsStanding levels → IsStanding (dropped_last n levels)
stands_left n [] h = h
stands_left n (level ∷ levels) h = record {
  formed = h.formed;
  sorted = AllByRecursion-append IsBool (live levels) (take (length level.1 - n) level.1) (AllByRecursion-first IsBool (live levels) level.1 h.sorted) (all-taken (length level.1 - n) level.1 (all-last (live levels) level.1 h.sorted));
}
