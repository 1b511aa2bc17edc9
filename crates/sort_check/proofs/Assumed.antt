-- Terms that are assumed together are built one by one.
use Rattle.std.proofs.Common.{◌≡◌, refl, sym, ap, ◌∙◌, append_assoc, append-nil, subst, ◌++◌, ◌&&◌, Bool, true, false, List, [], ◌∷◌, map, Result, Ok, Err}
use Rattle.std.specs.List.{list_all}
use Rattle.sexpr_reader.specs.declared.sexpr.Sexpr.{Sexpr}
use Rattle.smt_names.specs.Answering.{fault-passes}
use Rattle.smt_names.specs.Faults.{Answers, and_then, ◌>>◌, made_of, need}
use Rattle.smt_names.specs.Form.{Forms, forms, seen, are_all, end, ◌⨾◌}
use Rattle.smt_names.specs.declared.check_fault.CheckFault.{CheckFault}
use Rattle.smt_names.specs.declared.check_fault.CheckFault.TheVariants as fault
use Rattle.sort_check.proofs.Asked.{IsTaken, made-ok, one-by-one}
use Rattle.sort_check.specs.Checking.{assumed, assumptions, is_assumption, is_truth}
use Rattle.sort_check.specs.declared.commands.Command.{Command}
use Rattle.sort_check.specs.declared.commands.Command.TheVariants as command
use Rattle.sv_terms.specs.Sorting.{same_sort}
use Rattle.sv_terms.specs.declared.entry.Body.{Body}
use Rattle.sv_terms.specs.declared.sort.Sort.{Sort}
use Rattle.sv_terms.specs.declared.sort.Sort.TheVariants as sort
use Rattle.sv_terms.specs.declared.term.Term.{Term}
use Rattle.term_walk.specs.Meant.{Names, settled, settled_sorts}
use Rattle.term_weight.specs.Bodies.{body_sort, term_of}

-- so many terms are built, and these items are left
pub record AreBuilt (symbols : Names) (left : List Sexpr) (terms : List Term) (bodies : List Body) : Type 0 where
  pub rest : List Body
  pub settles : settled symbols [] (forms (map seen left)) ≡ Ok rest
  pub joined : terms ++ map term_of rest ≡ map term_of bodies

-- the first of what is left is settled alone, and a fault of it was want of memory
module _ (symbols : Names) (t : Sexpr) (left : List Sexpr) (terms : List Term) (bodies : List Body) (built : AreBuilt symbols (t ∷ left) terms bodies) where
  taken : IsTaken symbols (seen t) (forms (map seen left)) built.rest
  taken = one-by-one symbols (seen t) (forms (map seen left)) built.rest built.settles

  pub built-fault : (f : CheckFault) (r : Result (List Term) CheckFault) → r ≡ Err f → Answers (settled symbols [] (seen t ⨾ end)) (Err f) → Answers (Ok (map term_of bodies)) r
  built-fault f r is a = subst (λ (q : Result (List Term) CheckFault). Answers (Ok (map term_of bodies)) q) (sym is) (fault-passes (settled symbols [] (seen t ⨾ end)) (Ok (map term_of bodies)) f (λ k. absurd (differ taken.first f taken.one k)) a)
    where
      differ : (b : Body) (f : CheckFault) → settled symbols [] (seen t ⨾ end) ≡ Ok (b ∷ []) → settled symbols [] (seen t ⨾ end) ≡ Err f → ⊥
      differ b f e g = cc

  pub built-more : (b : Body) → settled symbols [] (seen t ⨾ end) ≡ Ok (b ∷ []) → AreBuilt symbols left (terms ++ term_of b ∷ []) bodies
  built-more b e = record {
    rest = taken.others;
    settles = taken.rest;
    joined = append_assoc terms (term_of b ∷ []) (map term_of taken.others)
        ∙ ap (λ (x : Body). terms ++ term_of x ∷ map term_of taken.others) (one-body b taken.first e taken.one)
        ∙ ap (λ (l : List Body). terms ++ map term_of l) (sym taken.all) ∙ built.joined;
  }
    where
      one-body : (b d : Body) → settled symbols [] (seen t ⨾ end) ≡ Ok (b ∷ []) → settled symbols [] (seen t ⨾ end) ≡ Ok (d ∷ []) → b ≡ d
      one-body b d e g = cc

pub built-all : (symbols : Names) (terms : List Term) (bodies : List Body) → AreBuilt symbols [] terms bodies → map term_of bodies ≡ terms
built-all symbols terms bodies built = sym built.joined ∙ ap (λ (l : List Body). terms ++ map term_of l) (none built.rest built.settles) ∙ append-nil terms
  where
    none : (l : List Body) → settled symbols [] end ≡ Ok l → l ≡ []
    none l e = cc

-- which sorts are Bool
truths-are : (bs : List Body) → list_all is_truth bs ≡ list_all (same_sort sort.Bool) (map body_sort bs)
truths-are [] = refl
truths-are (b ∷ bs) = ap (λ r. same_sort sort.Bool (body_sort b) && r) (truths-are bs)

module _ (symbols : Names) (ts : Forms) (formed : are_all is_assumption ts ≡ true) where
  past-form : assumptions symbols ts ≡ and_then assumed (settled symbols [] ts)
  past-form = ap (λ b. need b fault.Shape >> and_then assumed (settled symbols [] ts)) formed

  pub assumptions-fault : (f : CheckFault) (r : Result Command CheckFault) → r ≡ Err f → Answers (settled_sorts symbols [] ts) (Err f) → Answers (assumptions symbols ts) r
  assumptions-fault f r is a = subst (λ (q : Result Command CheckFault). Answers (assumptions symbols ts) q) (sym is) (fault-passes (settled_sorts symbols [] ts) (assumptions symbols ts) f (λ k. past-form ∙ ap (and_then assumed) (made-fault (settled symbols [] ts) f k)) a)
    where
      made-fault : (r : Result (List Body) CheckFault) (f : CheckFault) → made_of (map body_sort) r ≡ Err f → r ≡ Err f
      made-fault (Ok x) f e = absurd (cc)
      made-fault (Err g) f e = ap Err (cc)

  module _ (ss : List Sort) (sorts : settled_sorts symbols [] ts ≡ Ok ss) where
    record AreSettled : Type 0 where
      bodies : List Body
      settles : settled symbols [] ts ≡ Ok bodies
      tested : list_all is_truth bodies ≡ list_all (same_sort sort.Bool) ss

    settles-all : AreSettled
    settles-all = let a = made-ok (map body_sort) (settled symbols [] ts) ss sorts in record { bodies = a.0; settles = a.1; tested = truths-are a.0 ∙ ap (list_all (same_sort sort.Bool)) a.2 }

    tested-all : (b : Bool) → b ≡ list_all (same_sort sort.Bool) ss → assumptions symbols ts ≡ (need b fault.Sort >> Ok (command.CheckAssuming (map term_of settles-all.bodies)))
    tested-all b e = past-form ∙ ap (and_then assumed) settles-all.settles ∙ ap (λ d. need d fault.Sort >> Ok (command.CheckAssuming (map term_of settles-all.bodies))) (settles-all.tested ∙ sym e)

    pub assumptions-sort : false ≡ list_all (same_sort sort.Bool) ss → assumptions symbols ts ≡ Err fault.Sort
    assumptions-sort e = tested-all false e

    pub assumptions-memory : (f : CheckFault) (r : Result Command CheckFault) → r ≡ Err f → ((bodies : List Body) → settled symbols [] ts ≡ Ok bodies → Answers (Ok (map term_of bodies)) (Err f)) → Answers (assumptions symbols ts) r
    assumptions-memory f r is a = subst (λ (q : Result Command CheckFault). Answers (assumptions symbols ts) q) (sym is) (fault-passes (Ok (map term_of settles-all.bodies)) (assumptions symbols ts) f (λ k. absurd (differ (map term_of settles-all.bodies) f k)) (a settles-all.bodies settles-all.settles))
      where
        differ : (us : List Term) (f : CheckFault) → Ok us ≡ Err f → ⊥
        differ us f k = cc

    pub assumptions-made : (us : List Term) → true ≡ list_all (same_sort sort.Bool) ss → ((bodies : List Body) → settled symbols [] ts ≡ Ok bodies → Answers (Ok (map term_of bodies)) (Ok us)) → assumptions symbols ts ≡ Ok (command.CheckAssuming us)
    assumptions-made us e a = tested-all true e ∙ ap (λ (r : Result (List Term) CheckFault). made_of command.CheckAssuming r) (a settles-all.bodies settles-all.settles)
