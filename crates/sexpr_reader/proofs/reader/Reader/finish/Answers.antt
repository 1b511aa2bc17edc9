use Rattle.std.proofs.Common.{◌≡◌, ◌-◌, ◌∷◌, [], sym, ap, ◌∙◌, subst, List, ℕ, take, drop}
use Rattle.sexpr_reader.specs.declared.sexpr.Sexpr.{Sexpr}
use Rattle.sexpr_reader.specs.Items.{Feeds}
use Rattle.sexpr_reader.specs.Tokens.{Token, Atomic}
use Rattle.sexpr_reader.proofs.Nests.{tokens_of-Atom}
use Rattle.sexpr_reader.proofs.reader.Reader.finish.Goals as goal

pub returns-clause-ok : goal.returns-clause-ok
returns-clause-ok c =
    let r = c.args.self.now in
    let is : c.in_ok-bytes.bytes ≡ take (c.args.end - r.start) (drop r.start r.pending.items) = c.in_ok-bytes.ensures ∙ ap (λ (l : List ℕ). take (c.args.end - r.start) (drop r.start l)) c.deref.ensures.value in
    subst (λ (l : List (List Sexpr)). Feeds r.nest.lists.items (Atomic c.args.kind (take (c.args.end - r.start) (drop r.start r.pending.items)) ∷ []) c.in_ok-item.item l) (sym c.settle.ensures.lists)
    (subst (λ (ts : List Token). Feeds r.nest.lists.items ts c.in_ok-item.item c.put.new.self.lists.items) (tokens_of-Atom c.args.kind c.in_ok-bytes.bytes ∙ ap (λ (bs : List ℕ). Atomic c.args.kind bs ∷ []) is) c.in_ok-item.ensures.ok)
