use Rattle.std.proofs.Common.{◌≤◌, ap, sym, ◌∙◌, subst, w64, SFits, rules}
use Rattle.std.specs.Option.{option_map}
use Rattle.std.proofs.lemmas.Int.{to_z-of_z}
use Rattle.sv_terms.specs.CutOff.{cut_off}
use Rattle.cube_bounds.specs.Bounds.{greatest, product_by, states_of}
use Rattle.cube_bounds.specs.Growth.{growth, growth_of}
use Rattle.cube_bounds.specs.Sides.{points_of}
use Rattle.cube_bounds.proofs.Grown.{most_is}
use Rattle.cube_bounds.proofs.Owned.{greatest_cut}
use Rattle.cube_bounds.proofs.Splits.{splits_of}
use Rattle.cube_bounds.proofs.measuring.numbers.Goals as goal

pub reach_of-reach-requires : goal.reach_of-reach-requires
reach_of-reach-requires c = subst (λ n. 1 ≤ n) (sym c.most-growth.ensures) (most_is c.as_slice-4.result.now)

pub is_small-small-requires-clause-states : goal.is_small-small-requires-clause-states
is_small-small-requires-clause-states c =
    c.most-states.ensures ∙ ap (greatest 1) (c.as_slice.ensures ∙ c.in_ok-machines.ensures) ∙ greatest_cut (states_of c.args.flat.now)

pub is_small-small-requires-clause-reach : goal.is_small-small-requires-clause-reach
is_small-small-requires-clause-reach c =
    let g = c.most-growth.ensures ∙ ap (greatest 1) (c.as_slice-4.ensures ∙ c.in_ok-growths.ensures) ∙ greatest_cut (growth_of c.args.flat.now) in
    (let f : SFits w64 c.reach_of-reach.result = search rules in to_z-of_z w64 c.reach_of-reach.result f) ∙ c.reach_of-reach.ensures (growth c.args.flat.now) g

pub returns : goal.returns
returns c =
    let s = c.most-states.ensures ∙ ap (greatest 1) (c.as_slice.ensures ∙ c.in_ok-machines.ensures) ∙ greatest_cut (states_of c.args.flat.now) in
    let g = c.most-growth.ensures ∙ ap (greatest 1) (c.as_slice-4.ensures ∙ c.in_ok-growths.ensures) ∙ greatest_cut (growth_of c.args.flat.now) in
    record {
      states = s;
      splits = c.all_splits-splits.ensures (states_of c.args.flat.now) (c.as_slice-2.ensures ∙ c.in_ok-machines.ensures) ∙ ap (λ ds. cut_off (product_by (splits_of (states_of c.args.flat.now)) ds)) c.as_slice-3.ensures;
      sources = c.all_sources-sources.ensures;
      growth = g;
      reach = (let f : SFits w64 c.reach_of-reach.result = search rules in to_z-of_z w64 c.reach_of-reach.result f) ∙ c.reach_of-reach.ensures (growth c.args.flat.now) g;
      points = c.all_points-points.ensures ∙ ap (λ ss. option_map cut_off (points_of ss)) (c.as_slice-5.ensures ∙ c.in_ok-sides.ensures);
      sides = c.in_ok-sides.ensures;
      small = c.is_small-small.ensures;
    }
