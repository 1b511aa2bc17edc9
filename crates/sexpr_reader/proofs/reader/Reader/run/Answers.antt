use Rattle.std.proofs.Common.{◌≡◌, ◌-◌, ◌++◌, inl, refl, sym, ap, ◌∙◌, subst, List, ℕ, Some, take, drop}
use Rattle.sexpr_reader.specs.declared.syntax_fault.SyntaxFault.TheVariants as f
use Rattle.sexpr_reader.specs.declared.kind.TokenKind.{TokenKind}
use Rattle.sexpr_reader.specs.Items.{tokens_of_all, open_tokens}
use Rattle.sexpr_reader.specs.Tokens.{Atomic, IsTokenRun, IsPlain}
use Rattle.sexpr_reader.proofs.Levels.{levels-word}
use Rattle.sexpr_reader.proofs.Readers.{stands_token, fault_here}
use Rattle.sexpr_reader.proofs.Shapes.{run_part, part_slice, plain_token, plain_ends}
use Rattle.sexpr_reader.proofs.reader.Reader.run.Goals as goal

pub returns-in_ok-finish-in-Some-clause-steps : goal.returns-in_ok-finish-in-Some-clause-steps
returns-in_ok-finish-in-Some-clause-steps c = λ ended bytes given ends s.
    let r = c.args.self.now in
    let p = r.pending.items in
    let ts = tokens_of_all given ++ open_tokens r.nest.lists.items in
    let bs = take (r.at - r.start) (drop r.start p) in
    let same : take (r.at - r.start) (drop r.start c.deref.result.now) ≡ bs = ap (λ (l : List ℕ). take (r.at - r.start) (drop r.start l)) c.deref.ensures.value in
    let token : bs ≡ s.at.part = part_slice p s.at.part r.start r.at s.at.split r.order r.within in
    let k = run_part r.mode s.at.blank s.at.part c.requires s.at.gap s.at.begun in
    let plain : IsPlain c.in-Some.kind bs = subst (IsPlain c.in-Some.kind) same c.in-Some.ensures.some in
    let run : IsTokenRun bs = subst IsTokenRun (sym token) k.1 in
    stands_token ended r c.finish.new.self bytes given s (Atomic c.in-Some.kind bs) r.at c.in_ok-finish-in-Some.field-0 r.order r.within k.0 refl (plain_token c.in-Some.kind bs run plain) (plain_ends c.in-Some.kind bs ended (drop r.at p) plain ends) c.in_ok-finish-in-Some.ensures.ok
    (levels-word _ ts c.in-Some.kind bs s.at.level ∙ ap (λ (n : ℕ). Some n) (sym c.in_ok-finish-in-Some.ensures.len)) c.in_ok-finish-in-Some.ensures.settled

pub returns-in-None-clause-steps : goal.returns-in-None-clause-steps
returns-in-None-clause-steps c = λ ended bytes given ends s.
    let r = c.args.self.now in
    let p = r.pending.items in
    let ts = tokens_of_all given ++ open_tokens r.nest.lists.items in
    let bs = take (r.at - r.start) (drop r.start p) in
    let same : take (r.at - r.start) (drop r.start c.deref.result.now) ≡ bs = ap (λ (l : List ℕ). take (r.at - r.start) (drop r.start l)) c.deref.ensures.value in
    let token : bs ≡ s.at.part = part_slice p s.at.part r.start r.at s.at.split r.order r.within in
    let k = run_part r.mode s.at.blank s.at.part c.requires s.at.gap s.at.begun in
    let odd : (kind : TokenKind) → IsPlain kind s.at.part → ⊥ = λ kind h. c.in-None.ensures.none kind (subst (IsPlain kind) (sym (same ∙ token)) h) in
    (s, fault_here ended r bytes given s (f.Token r.place) k.0 (refl, inl (s.at.part, drop r.at p, s.at.split, k.1, ends, odd)))
