use Rattle.std.proofs.Common.{◌≡◌, ◌<◌, ℕ, arith, List, length, Any, Contains, get_or, slice_set, ◌||◌, ◌⊎◌, ◌↔◌, sym, ap, ◌∙◌, subst}
use Rattle.sv_word.specs.Ranges.{in_ranges}
use Rattle.sv_list.specs.Lists.{read-at}
use Rattle.machine_core.specs.declared.machine.Move.{Move}
use Rattle.machine_core.specs.Moves.{Moves}
use Rattle.machine_core.proofs.LikeLemmas.{joined-moves, joined-some, stands-below}
use Rattle.machine_core.proofs.joined.join_move.Goals as goal

pub returns-clause-exact : goal.returns-clause-exact
returns-clause-exact c d cost to =
    let l = c.requires.like.earlier in
    let f = c.args.further in
    let on = c.in_ok-on.on in
    let read : get_or c.as_slice.result.now c.args.at c.index-as_slice-at.result ≡ l = read-at c.args.moves.now c.as_slice.result.now c.as_slice.ensures c.args.at l c.index-as_slice-at.result c.requires.like.stands in
    let both : (e : ℕ) → in_ranges on e ≡ (in_ranges l.on e || in_ranges f.on e) = λ e. c.in_ok-on.ensures e ∙ ap (λ (m : Move ℕ). in_ranges m.on e || in_ranges f.on e) read in
    let new : c.set.new.self ≡ slice_set c.args.moves.now c.args.at (record { on = on; cost = f.cost; to = f.to }) = c.set.ensures in
    subst (λ (ms : List (Move ℕ)). Any (Moves d cost to) ms ↔ (Any (Moves d cost to) c.args.moves.now ⊎ Moves d cost to f)) (sym new)
    (joined-moves l f on c.requires.like.to c.requires.like.cost both c.args.moves.now c.args.at c.requires.like.stands d cost to)

pub returns-clause-inhabited : goal.returns-clause-inhabited
returns-clause-inhabited c x i =
    let l = c.requires.like.earlier in
    let f = c.args.further in
    let on = c.in_ok-on.on in
    let read : get_or c.as_slice.result.now c.args.at c.index-as_slice-at.result ≡ l = read-at c.args.moves.now c.as_slice.result.now c.as_slice.ensures c.args.at l c.index-as_slice-at.result c.requires.like.stands in
    let both : (e : ℕ) → in_ranges on e ≡ (in_ranges l.on e || in_ranges f.on e) = λ e. c.in_ok-on.ensures e ∙ ap (λ (m : Move ℕ). in_ranges m.on e || in_ranges f.on e) read in
    let new : c.set.new.self ≡ slice_set c.args.moves.now c.args.at (record { on = on; cost = f.cost; to = f.to }) = c.set.ensures in
    joined-some c.args.moves.now c.args.at l f on c.requires.like.stands both c.requires.old c.as_slice-2.ensures.apart x (subst (λ (ms : List (Move ℕ)). Contains ms x) new i)

pub bounds-as_slice-at : goal.bounds-as_slice-at
bounds-as_slice-at c =
    subst (λ (l : List (Move ℕ)). c.args.at < length l) (sym c.as_slice.ensures) (stands-below c.args.moves.now c.args.at c.requires.like.earlier c.requires.like.stands)

pub offset_bounds-as_slice-at : goal.offset_bounds-as_slice-at
offset_bounds-as_slice-at c =
    let below = subst (λ (l : List (Move ℕ)). c.args.at < length l) (sym c.as_slice.ensures) (stands-below c.args.moves.now c.args.at c.requires.like.earlier c.requires.like.stands) in
    omega arith

pub set-requires : goal.set-requires
set-requires c = stands-below c.args.moves.now c.args.at c.requires.like.earlier c.requires.like.stands
