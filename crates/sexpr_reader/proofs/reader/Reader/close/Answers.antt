use Rattle.std.proofs.Common.{◌≡◌, ◌+◌, ◌-◌, ◌++◌, ◌∷◌, [], refl, sym, ap, ◌∙◌, subst, List, ℕ, suc, Some, take, drop, length, arith, get_or}
use Rattle.sexpr_reader.specs.declared.syntax_fault.SyntaxFault.TheVariants as f
use Rattle.sexpr_reader.specs.declared.sexpr.Sexpr.{Sexpr}
use Rattle.sexpr_reader.specs.Items.{Feeds, tokens_of_all, open_tokens}
use Rattle.sexpr_reader.specs.Progress.{IsSettled}
use Rattle.sexpr_reader.specs.Tokens.{Close}
use Rattle.sexpr_reader.proofs.Levels.{levels-close}
use Rattle.sexpr_reader.proofs.Readers.{stands_token, fault_here}
use Rattle.sexpr_reader.proofs.Shapes.{close_shape, kept_is, part_more}
use Rattle.sexpr_reader.proofs.reader.Reader.close.Goals as goal

pub returns-then-is_empty-clause-steps : goal.returns-then-is_empty-clause-steps
returns-then-is_empty-clause-steps c = λ ended bytes given s.
    let r = c.args.self.now in
    let p = r.pending.items in
    let k = close_shape r.mode (get_or p r.at 0) s.at.blank s.at.part c.requires.acts s.at.gap s.at.begun in
    let none : length r.nest.lists.items ≡ 0 = ap length (c.is_empty.ensures.empty c.if-is_empty.true) in
    (s, fault_here ended r bytes given s (f.Close r.place) k.gap (refl, none, (drop (r.at + 1) p, kept_is p s.at.part r.start r.at 41 [] s.at.split c.requires.within k.empty k.byte)))

pub returns-clause-steps : goal.returns-clause-steps
returns-clause-steps c = λ ended bytes given s.
    let r = c.args.self.now in
    let p = r.pending.items in
    let k = close_shape r.mode (get_or p r.at 0) s.at.blank s.at.part c.requires.acts s.at.gap s.at.begun in
    let lists_is : c.settle.new.self.nest.lists.items ≡ c.close.new.self.lists.items = c.settle.ensures.lists in
    let fewer : length r.nest.lists.items ≡ suc (length c.settle.new.self.nest.lists.items) = omega (arith, c.in_ok-item.ensures.len, ap length lists_is) in
    let feeds : Feeds r.nest.lists.items (Close ∷ []) c.in_ok-item.item c.settle.new.self.nest.lists.items = subst (λ (l : List (List Sexpr)). Feeds r.nest.lists.items (Close ∷ []) c.in_ok-item.item l) (sym lists_is) c.in_ok-item.ensures.ok in
    let token : 41 ∷ [] ≡ take (r.at + 1 - r.start) (drop r.start p) = sym (part_more p s.at.part r.start r.at s.at.split r.order r.within c.requires.within ∙ ap (λ (l : List ℕ). l ++ get_or p r.at 0 ∷ []) k.empty ∙ ap (λ (b : ℕ). b ∷ []) k.byte) in
    let settled : IsSettled r c.settle.new.self (r.at + 1) = record { pending = c.settle.ensures.settled.pending; start = c.settle.ensures.settled.start; at = c.settle.ensures.settled.at; place = c.settle.ensures.settled.place; mode = c.settle.ensures.settled.mode } in
    stands_token ended r c.settle.new.self bytes given s Close (r.at + 1) c.in_ok-item.item (omega (arith, r.order)) (omega arith) k.gap token tt tt feeds
    (levels-close _ (tokens_of_all given ++ open_tokens r.nest.lists.items) (s.at.level ∙ ap (λ (n : ℕ). Some n) fewer)) settled
