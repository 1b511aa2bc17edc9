use Rattle.std.proofs.Common.{◌≡◌, ◌≤◌, ◌<◌, ◌+◌, ◌-◌, ◌++◌, ◌∷◌, [], refl, sym, ap, ◌∙◌, List, ℕ, suc, Some, None, take, drop, length, arith, get_or, length-append}
use Rattle.sexpr_reader.specs.declared.syntax_fault.SyntaxFault.TheVariants as f
use Rattle.sexpr_reader.specs.Items.{tokens_of_all, open_tokens, most_open_lists}
use Rattle.sexpr_reader.specs.Progress.{IsSettled}
use Rattle.sexpr_reader.specs.Tokens.{Open}
use Rattle.sexpr_reader.proofs.Levels.{levels-open, levels_bound}
use Rattle.sexpr_reader.proofs.Nests.{open_feeds}
use Rattle.sexpr_reader.proofs.Readers.{stands_token, fault_here}
use Rattle.sexpr_reader.proofs.Shapes.{open_shape, kept_is, part_more}
use Rattle.sexpr_reader.proofs.reader.Reader.open.Goals as goal

pub returns-then-is_full-clause-steps : goal.returns-then-is_full-clause-steps
returns-then-is_full-clause-steps c = λ ended bytes given s.
    let r = c.args.self.now in
    let p = r.pending.items in
    let k = open_shape r.mode (get_or p r.at 0) s.at.blank s.at.part c.requires.acts s.at.gap s.at.begun in
    let most : length r.nest.lists.items ≤ most_open_lists = levels_bound 0 _ (tokens_of_all given ++ open_tokens r.nest.lists.items) (omega arith) s.at.level in
    let full : length r.nest.lists.items ≡ most_open_lists = omega (arith, most, c.is_full.ensures.full c.if-is_full.true) in
    (s, fault_here ended r bytes given s (f.Depth r.place) k.gap (refl, full, (drop (r.at + 1) p, kept_is p s.at.part r.start r.at 40 [] s.at.split c.requires.within k.empty k.byte)))

pub returns-clause-steps : goal.returns-clause-steps
returns-clause-steps c = λ ended bytes given s.
    let r = c.args.self.now in
    let p = r.pending.items in
    let k = open_shape r.mode (get_or p r.at 0) s.at.blank s.at.part c.requires.acts s.at.gap s.at.begun in
    let lists_is : c.settle.new.self.nest.lists.items ≡ r.nest.lists.items ++ [] ∷ [] = c.settle.ensures.lists ∙ c.in_ok-open.ensures.ok in
    let room : length r.nest.lists.items < most_open_lists = c.is_full.ensures.room c.if-is_full.false in
    let long : length c.settle.new.self.nest.lists.items ≡ suc (length r.nest.lists.items) = omega (arith, ap length lists_is, length-append r.nest.lists.items ([] ∷ [])) in
    let token : 40 ∷ [] ≡ take (r.at + 1 - r.start) (drop r.start p) = sym (part_more p s.at.part r.start r.at s.at.split r.order r.within c.requires.within ∙ ap (λ (l : List ℕ). l ++ get_or p r.at 0 ∷ []) k.empty ∙ ap (λ (b : ℕ). b ∷ []) k.byte) in
    let settled : IsSettled r c.settle.new.self (r.at + 1) = record { pending = c.settle.ensures.settled.pending; start = c.settle.ensures.settled.start; at = c.settle.ensures.settled.at; place = c.settle.ensures.settled.place; mode = c.settle.ensures.settled.mode } in
    stands_token ended r c.settle.new.self bytes given s Open (r.at + 1) None (omega (arith, r.order)) (omega arith) k.gap token tt tt (open_feeds _ _ lists_is)
    (levels-open _ (tokens_of_all given ++ open_tokens r.nest.lists.items) s.at.level room ∙ ap (λ (n : ℕ). Some n) (sym long)) settled
