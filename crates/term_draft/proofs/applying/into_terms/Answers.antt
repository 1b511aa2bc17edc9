use Rattle.std.proofs.Common.{rules, sym, ap, ◌∙◌, List, ◌++◌, [], ◌∷◌, append_assoc}
use Rattle.std.specs.Vec.Iter.{into_iter_items}
use Rattle.std.proofs.lemmas.List.{map_push}
use Rattle.sv_terms.specs.declared.entry.Body.{Body}
use Rattle.sv_terms.specs.declared.term.Term.{Term}
use Rattle.term_weight.specs.Bodies.{term_of}
use Rattle.term_draft.proofs.applying.into_terms.Goals as goal

pub loop-body-preserved : goal.loop-body-preserved
loop-body-preserved c = record {
  can = search rules;
  finite = search rules;
  split = c.loop-body.invariant.split ∙ ap (λ (l : List Body). c.loop-body.yielded ++ l) c.in-Some.ensures.steps.0 ∙ sym (append_assoc c.loop-body.yielded (c.in-Some.body ∷ []) (into_iter_items c.next.new.self));
  made = c.in_ok-push.ensures.ok ∙ ap (λ (r : Term). c.loop-body.all ++ r ∷ []) c.into_term.ensures ∙ ap (λ (l : List Term). l ++ term_of c.in-Some.body ∷ []) c.loop-body.invariant.made ∙ sym (map_push term_of c.loop-body.yielded c.in-Some.body);
}
