-- What holds while assumptions are asserted, and after they went.
use Rattle.std.proofs.Common.{◌≡◌, ℕ, List, ◌++◌, Result, Ok, Err, OnErr, length, ap, sym, ◌∙◌, subst}
use Rattle.std.specs.List.{AllByRecursion}
use Rattle.sv_list.specs.Lists.{AllByRecursion-append}
use Rattle.assert_stack.specs.Levels.{Level, Symbol, symbols_of, live, asserted_all, dropped_last}
use Rattle.core_search.specs.Searches.{AreTerms}
use Rattle.sort_check.specs.WellFormed.{IsTermOf}
use Rattle.sv_terms.specs.declared.sort.Sort.TheVariants as sort
use Rattle.sv_terms.specs.declared.term.Term.{Term}
use Rattle.smt_session.specs.Standing.{AreSound}
use Rattle.smt_session.proofs.Models.{Allowed, Placed, one-sort}
use Rattle.smt_session.proofs.Soundness.{Kept_known, Valued, formed-all, known, sorted-all, sound-formed, sound-live, symbols-assumed, dropped-assumed}

pub err_then : {T E P Q : Type 0} (r : Result T E) → (P → Q) → OnErr r P → OnErr r Q
err_then (Ok x) f h = tt
err_then (Err y) f h = f h

-- these levels, and with a copy of the assumptions
module _ (levels grown : List Level) (copy assumed : List Term) (same : copy ≡ assumed) (is : grown ≡ asserted_all copy levels) (longer : live grown ≡ live levels ++ copy) where
  pub same-symbols : (symbols : List Symbol) → symbols ≡ symbols_of grown → symbols ≡ symbols_of levels
  same-symbols symbols e = e ∙ ap symbols_of is ∙ symbols-assumed copy levels

  pub all-live : (all : List Term) → all ≡ live grown → all ≡ live levels ++ assumed
  all-live all e = e ∙ longer ∙ ap (λ (l : List Term). live levels ++ l) same

  pub back : (left : List Level) (n : ℕ) → left ≡ dropped_last n grown → n ≡ length assumed → left ≡ levels
  back left n e count =
      e ∙ ap (dropped_last n) is ∙ ap (λ (k : ℕ). dropped_last k (asserted_all copy levels)) (count ∙ sym (ap length same)) ∙ dropped-assumed copy levels

  -- the terms of a core may be checked
  pub are-terms : Kept_known → Allowed → Placed → Valued → AreSound levels → AllByRecursion (IsTermOf (symbols_of levels) sort.Bool) assumed → (all : List Term) → all ≡ live grown → AreTerms all
  are-terms kept allowed placed valued sound terms all f =
      let every = subst (AllByRecursion (IsTermOf (symbols_of levels) sort.Bool)) (sym (all-live all f)) (AllByRecursion-append (IsTermOf (symbols_of levels) sort.Bool) (live levels) assumed (sound-live kept levels sound) terms) in
      record {
        sorted = sorted-all (symbols_of levels) all every;
        formed = formed-all (symbols_of levels) all every;
        sorts = one-sort allowed placed valued (symbols_of levels) all (sound-formed levels sound) (known (symbols_of levels) all every);
      }

  pub all-terms : Kept_known → AreSound levels → AllByRecursion (IsTermOf (symbols_of levels) sort.Bool) assumed → (symbols : List Symbol) (all : List Term) → symbols ≡ symbols_of grown → all ≡ live grown → AllByRecursion (IsTermOf symbols sort.Bool) all
  all-terms kept sound terms symbols all e f =
      subst (λ z. AllByRecursion (IsTermOf z sort.Bool) all) (sym (same-symbols symbols e))
      (subst (AllByRecursion (IsTermOf (symbols_of levels) sort.Bool)) (sym (all-live all f))
      (AllByRecursion-append (IsTermOf (symbols_of levels) sort.Bool) (live levels) assumed (sound-live kept levels sound) terms))
