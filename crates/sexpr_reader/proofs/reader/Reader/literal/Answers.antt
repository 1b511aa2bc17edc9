use Rattle.std.proofs.Common.{◌≡◌, ◌-◌, ◌++◌, ◌∷◌, [], refl, sym, ap, ◌∙◌, List, ℕ, true, false, Some, take, drop, append_assoc}
use Rattle.sexpr_reader.specs.declared.syntax_fault.SyntaxFault.TheVariants as f
use Rattle.sexpr_reader.specs.declared.kind.TokenKind.TheVariants.{Literal}
use Rattle.sexpr_reader.specs.Items.{tokens_of_all, open_tokens}
use Rattle.sexpr_reader.specs.Tokens.{Atomic, IsLiteral, doubled, is_readable}
use Rattle.sexpr_reader.proofs.Levels.{levels-word}
use Rattle.sexpr_reader.proofs.Readers.{stands_token, fault_here}
use Rattle.sexpr_reader.proofs.Shapes.{literal_part, part_slice}
use Rattle.sexpr_reader.proofs.reader.Reader.literal.Goals as goal

pub returns-then-not-is_text-clause-steps : goal.returns-then-not-is_text-clause-steps
returns-then-not-is_text-clause-steps c = λ ended bytes given ends s.
    let r = c.args.self.now in
    let p = r.pending.items in
    let ts = tokens_of_all given ++ open_tokens r.nest.lists.items in
    let bs = take (r.at - r.start) (drop r.start p) in
    let same : take (r.at - r.start) (drop r.start c.deref.result.now) ≡ bs = ap (λ (l : List ℕ). take (r.at - r.start) (drop r.start l)) c.deref.ensures.value in
    let token : bs ≡ s.at.part = part_slice p s.at.part r.start r.at s.at.split r.order r.within in
    let k = literal_part r.mode s.at.blank s.at.part c.requires s.at.gap s.at.begun in
    let unread : is_readable (doubled k.1.0) ≡ false = sym (c.in_ok-is_text.ensures (doubled k.1.0) (same ∙ token ∙ k.1.1)) ∙ c.if-not-is_text.true in (
      s,
      fault_here ended r bytes given s (f.Literal r.place) k.0 (
        refl,
        (
          k.1.0,
          drop r.at p,
          s.at.split ∙ ap (λ (l : List ℕ). l ++ drop r.at p) k.1.1 ∙ ap (λ (l : List ℕ). 34 ∷ l) (append_assoc (doubled k.1.0) (34 ∷ []) (drop r.at p)),
          ends,
          unread,
        ),
      ),
    )

pub returns-clause-steps : goal.returns-clause-steps
returns-clause-steps c = λ ended bytes given ends s.
    let r = c.args.self.now in
    let p = r.pending.items in
    let ts = tokens_of_all given ++ open_tokens r.nest.lists.items in
    let bs = take (r.at - r.start) (drop r.start p) in
    let same : take (r.at - r.start) (drop r.start c.deref.result.now) ≡ bs = ap (λ (l : List ℕ). take (r.at - r.start) (drop r.start l)) c.deref.ensures.value in
    let token : bs ≡ s.at.part = part_slice p s.at.part r.start r.at s.at.split r.order r.within in
    let k = literal_part r.mode s.at.blank s.at.part c.requires s.at.gap s.at.begun in
    let read : is_readable (doubled k.1.0) ≡ true = sym (c.in_ok-is_text.ensures (doubled k.1.0) (same ∙ token ∙ k.1.1)) ∙ c.if-not-is_text.false in
    let is : IsLiteral bs = (k.1.0, token ∙ k.1.1, read) in
    stands_token ended r c.finish.new.self bytes given s (Atomic Literal bs) r.at c.in_ok-finish.field-0 r.order r.within k.0 refl is ends c.in_ok-finish.ensures.ok
    (levels-word _ ts Literal bs s.at.level ∙ ap (λ (n : ℕ). Some n) (sym c.in_ok-finish.ensures.len)) c.in_ok-finish.ensures.settled
