use Rattle.std.proofs.Common.{◌≡◌, ℕ, ◌++◌, ◌∷◌, [], List, Bool, length, MatchOption, ap, sym, ◌∙◌, subst, arith, append-nil, append_assoc}
use Rattle.sv_terms.specs.Truth.{HasNoValues, clear_of}
use Rattle.sv_terms.specs.declared.term.Term.{Term}
use Rattle.core_search.specs.Cores.{Entry, NamedPlace, IsCoreFrom, all_stay, staying}
use Rattle.core_search.specs.Searches.{IsBound}
use Rattle.core_search.proofs.Stayings.{all-stay}
use Rattle.core_search.proofs.Searching.{ends, name-stays}
use Rattle.core_search.proofs.search.find_core.Goals as goal

pub names-init : goal.names-init
names-init g c =
    let outs = c.in_ok-none_out.ensures in
    let none : HasNoValues (clear_of (staying (all_stay c.args.named) c.args.terms.now)) = subst (λ (l : List Term). HasNoValues (clear_of l)) (sym (all-stay c.args.named c.args.terms.now)) c.requires.refuted in
    record {
      stands = record { within = omega arith; refuted = subst (λ (o : List Bool). HasNoValues (clear_of (staying o c.args.terms.now))) (sym outs) none };
      listed = λ late k. subst (λ (l : List Entry). IsCoreFrom c.args.terms.now (all_stay c.args.named) c.args.names.now (l ++ late)) (sym c.new-list.ensures) (subst (λ (o : List Bool). IsCoreFrom c.args.terms.now o c.args.names.now late) outs k);
    }

pub returns-in_default : goal.returns-in_default
returns-in_default g c =
    let s = c.gallop.new.search in
    let leads = c.in_ok-bound.ensures.leads in
    let all : s.tried ≡ length c.args.names.now = subst (λ b. MatchOption b (s.tried ≡ length c.args.names.now) (IsBound c.args.terms.now c.args.names.now s)) c.in_default.is c.in_ok-bound.ensures.bound in
    subst (IsCoreFrom c.args.terms.now (all_stay c.args.named) c.args.names.now) (append-nil c.names.list) (c.names.invariant.listed [] (leads.listed [] (ends c.args.terms.now c.args.names.now s leads.stands all)))

pub names-preserved : goal.names-preserved
names-preserved g c =
    let s = c.narrow.new.search in
    let n = c.index-names-search.result in
    let answer = c.in_ok-answer.answer in
    let before = c.in_ok-bound.ensures.leads in
    let leads = c.in_ok-answer.ensures.leads in
    let pushed : c.push.new.self ≡ c.names.list ++ (n.0, answer) ∷ [] = c.in_ok-push.ensures.ok ∙ ap (λ (m : List ℕ). c.names.list ++ (m, answer) ∷ []) (c.in_ok-copy.ensures ∙ sym (ap (λ (m : NamedPlace). m.0) c.index-names-search.is)) in
    record {
      stands = record { within = omega (arith, c.in_ok-answer.ensures.within); refuted = leads.stands.refuted };
      listed = λ late k.
          let stays = name-stays c.args.terms.now c.args.names.now s n answer late c.in_ok-answer.ensures.within c.index-names-search.is c.in_ok-answer.ensures.reason k in
          let whole = c.names.invariant.listed ((n.0, answer) ∷ late) (before.listed ((n.0, answer) ∷ late) (leads.listed ((n.0, answer) ∷ late) stays)) in
          subst (IsCoreFrom c.args.terms.now (all_stay c.args.named) c.args.names.now) (sym (ap (λ (l : List Entry). l ++ late) pushed ∙ append_assoc c.names.list ((n.0, answer) ∷ []) late)) whole;
    }
