use Rattle.std.proofs.Common.{◌≡◌, ◌++◌, ◌∷◌, ◌+◌, [], take, ap, sym, ◌∙◌, subst, arith}
use Rattle.std.proofs.lemmas.List.{take_more, take_all, flat_map_more}
use Rattle.std.proofs.lemmas.List.Elements.{All-push}
use Rattle.std.proofs.lemmas.List.Sorted.{IsNonDecreasingBy-from_sort}
use Rattle.std.specs.List.{All, flat_map}
use Rattle.std.specs.List.Sorted.{IsPermutation}
use Rattle.sv_word.proofs.CutLemmas.{borders-top}
use Rattle.sv_word.specs.Cuts.{borders_of}
use Rattle.sv_word.specs.Ranges.{IsApartFrom}
use Rattle.sv_word.proofs.pieces.sorted_borders.Goals as goal

pub loop-ranges-preserved : goal.loop-ranges-preserved
loop-ranges-preserved c =
    let i = c.loop-ranges.ranges-index in
    let item = c.ranges-item.result in
    let more : take (i + 1) c.args.list.now ≡ take i c.args.list.now ++ item ∷ [] =
    take_more c.args.list.now i item (omega arith) ∙ ap (λ x. take i c.args.list.now ++ x ∷ []) (sym c.ranges-item.is) in
    record {
      borders = c.in_ok-push_borders.ensures.borders ∙ ap (λ l. l ++ borders_of item) c.loop-ranges.invariant.borders
          ∙ flat_map_more borders_of [] (take i c.args.list.now) item ∙ ap (flat_map borders_of) (sym more);
      apart = rw more (All-push (IsApartFrom 0) (take i c.args.list.now) item c.loop-ranges.invariant.apart c.in_ok-push_borders.ensures.apart);
    }

pub returns-clause-top : goal.returns-clause-top
returns-clause-top c =
    let all = take_all c.loop-ranges.ranges-index c.args.list.now (omega arith) in
    let made : c.push.new.self.items ≡ flat_map borders_of c.args.list.now ++ 0x30000 ∷ [] =
    c.in_ok-push.ensures.items ∙ ap (λ l. l ++ 0x30000 ∷ []) (c.loop-ranges.invariant.borders ∙ ap (flat_map borders_of) all) in
    borders-top c.args.list.now c.sort_unstable.new.self.items (subst (All (IsApartFrom 0)) all c.loop-ranges.invariant.apart)
    (subst (λ l. IsPermutation l c.sort_unstable.new.self.items) made c.sort_unstable.ensures.permutation)

pub returns-clause-order : goal.returns-clause-order
returns-clause-order c = IsNonDecreasingBy-from_sort (λ b. b) c.sort_unstable.new.self.items c.sort_unstable.ensures.sorted
