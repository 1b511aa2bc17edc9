use Rattle.std.proofs.Common.{◌≡◌, ◌+◌, ◌-◌, ◌≤◌, ◌++◌, suc, true, false, [], refl, sym, ap, ◌∙◌, subst, arith}
use Rattle.std.proofs.lemmas.Bool.{false≢true}
use Rattle.generated_script.specs.Blocks.{blocks, script}
use Rattle.generated_script.specs.Draws.{behind}
use Rattle.smt_session.proofs.Scripted.{next-fed, all-fed, cut-front, here-front, stopped}
use Rattle.sv_io.specs.Histories.{Output}
use Rattle.smt_session.specs.declared.generating.Mute.{Mute}
use Rattle.smt_session.proofs.generating.answer_blocks.Goals as goal

-- what was written to it
abbrev told : Mute → Output
told m = record { taken = m.taken.items; sent = m.sent.items }

pub loop-block-init : goal.loop-block-init
loop-block-init g c =
    let all : c.args.size ≡ c.args.size - 0 = omega arith in
    record {
      bytes = [];
      first = told c.new-mute.result;
      waits = c.requires (told c.new-mute.result);
      left = ap (λ s. blocks s c.args.size) (sym c.new-blocks.ensures) ∙ ap (blocks c.new-blocks.result) all;
    }

pub returns-in-Err : goal.returns-in-Err
returns-in-Err g c =
    let i = c.loop-block.invariant in
    here-front (script c.args.seed c.args.size) i.bytes (blocks c.loop-block.blocks (c.args.size - c.loop-block._block)) c.loop-block.answering i.first (told c.loop-block.mute) i.left i.waits

pub returns-in-Err-feed : goal.returns-in-Err-feed
returns-in-Err-feed g c =
    let i = c.loop-block.invariant in
    let less : c.args.size - c.loop-block._block ≡ suc (c.args.size - (c.loop-block._block + 1)) = omega (arith, c.loop-block-test.true) in
    let fed = next-fed (script c.args.seed c.args.size) i.bytes c.deref.result.now c.loop-block.blocks (c.args.size - c.loop-block._block) (c.args.size - (c.loop-block._block + 1)) less (c.deref.ensures.value ∙ c.in-Ok.ensures.text) i.left in
    cut-front (script c.args.seed c.args.size) (i.bytes ++ c.deref.result.now) (blocks (behind c.loop-block.blocks) (c.args.size - (c.loop-block._block + 1))) c.feed.new.self.replies false i.first (told c.loop-block.mute) fed (c.in-Err-feed.ensures.err i.bytes i.first (told c.loop-block.mute) i.waits.answering)

pub answer_whole-requires-clause-answering : goal.answer_whole-requires-clause-answering
answer_whole-requires-clause-answering g c κs within = let i = c.loop-block.invariant in (i.bytes ++ c.deref.result.now, i.first, c.in-Ok-feed.ensures.ok i.bytes i.first (told c.loop-block.mute) i.waits.answering)

pub returns-in-Some : goal.returns-in-Some
returns-in-Some g c =
    let i = c.loop-block.invariant in
    let less : c.args.size - c.loop-block._block ≡ suc (c.args.size - (c.loop-block._block + 1)) = omega (arith, c.loop-block-test.true) in
    let fed = next-fed (script c.args.seed c.args.size) i.bytes c.deref.result.now c.loop-block.blocks (c.args.size - c.loop-block._block) (c.args.size - (c.loop-block._block + 1)) less (c.deref.ensures.value ∙ c.in-Ok.ensures.text) i.left in
    stopped (script c.args.seed c.args.size) (i.bytes ++ c.deref.result.now) (blocks (behind c.loop-block.blocks) (c.args.size - (c.loop-block._block + 1))) c.answer_whole.new.self.replies false i.first (told c.answer_whole.new.sink) c.in-Some.status fed (λ e. absurd (false≢true e))
    (λ e. let rose : 1 ≤ 0 = c.in-Some.ensures.failed e in omega arith)
    (c.in-Some.ensures.went (i.bytes ++ c.deref.result.now) i.first (c.in-Ok-feed.ensures.ok i.bytes i.first (told c.loop-block.mute) i.waits.answering))

pub loop-block-preserved : goal.loop-block-preserved
loop-block-preserved g c =
    let i = c.loop-block.invariant in
    let less : c.args.size - c.loop-block._block ≡ suc (c.args.size - (c.loop-block._block + 1)) = omega (arith, c.loop-block-test.true) in
    let fed = next-fed (script c.args.seed c.args.size) i.bytes c.deref.result.now c.loop-block.blocks (c.args.size - c.loop-block._block) (c.args.size - (c.loop-block._block + 1)) less (c.deref.ensures.value ∙ c.in-Ok.ensures.text) i.left in record {
      bytes = i.bytes ++ c.deref.result.now;
      first = i.first;
      waits = c.in_default.ensures.went (i.bytes ++ c.deref.result.now) i.first (c.in-Ok-feed.ensures.ok i.bytes i.first (told c.loop-block.mute) i.waits.answering);
      left = subst (λ s. script c.args.seed c.args.size ≡ (i.bytes ++ c.deref.result.now) ++ blocks s (c.args.size - (c.loop-block._block + 1))) (sym c.in-Ok.ensures.ok) fed;
    }

pub returns : goal.returns
returns g c =
    let i = c.loop-block.invariant in
    let none : c.args.size - c.loop-block._block ≡ 0 = omega (arith, c.loop-block-test.false) in
    stopped (script c.args.seed c.args.size) i.bytes [] c.answer_rest.new.self.replies true i.first (told c.answer_rest.new.sink) c.answer_rest.result (all-fed (script c.args.seed c.args.size) i.bytes c.loop-block.blocks (c.args.size - c.loop-block._block) none i.left) (λ e. refl)
    (λ e. let rose : 1 ≤ 0 = c.answer_rest.ensures.failed e in omega arith)
    (c.answer_rest.ensures.went i.bytes i.first i.waits.answering)
