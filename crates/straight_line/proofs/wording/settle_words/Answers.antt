use Rattle.std.proofs.Common.{◌∙◌, ◌<◌, ◌^◌, ap, map, sym, subst, refl, length, replicate, Ok, Err}
use Rattle.std.proofs.lemmas.Result.{err_from_is_err_and}
use Rattle.std.specs.List.{range_with_len}
use Rattle.straight_line.specs.Filling.{free_variable, named_all, parted_all}
use Rattle.straight_line.specs.Leading.{ArePairsBelow, ordinal, roots_in}
use Rattle.straight_line.specs.Wording.{least_of}
use Rattle.straight_line.proofs.Worded.{of_below, of_count, of_definitions, of_parts, renamed_straight, renamed_within, worded}
use Rattle.straight_line.proofs.wording.settle_words.Goals as goal

pub number_places-requires : goal.number_places-requires
number_places-requires c = subst (λ m. ArePairsBelow m c.args.equalities.now) (sym c.len.ensures) c.requires.equalities_in

pub definitions-requires : goal.definitions-requires
definitions-requires c =
    let of = c.as_slice.ensures.value ∙ c.in_ok-numbering.ensures.of ∙ ap (λ m. map (ordinal m (least_of m c.args.equalities.now)) (range_with_len 0 m)) c.len.ensures in
    of_definitions (length c.args.names) c.args.equalities.now c.requires.equalities_in c.as_slice.result.now of _ refl c.args.definitions c.requires.definitions_in

pub straighten-requires : goal.straighten-requires
straighten-requires c =
    let of = c.as_slice.ensures.value ∙ c.in_ok-numbering.ensures.of ∙ ap (λ m. map (ordinal m (least_of m c.args.equalities.now)) (range_with_len 0 m)) c.len.ensures in
    let k = c.in_ok-numbering.ensures.count ∙ ap (λ m. length (roots_in m (least_of m c.args.equalities.now))) c.len.ensures in
    renamed_within (length c.args.names) c.args.equalities.now c.requires.equalities_in c.as_slice.result.now of c.in_ok-numbering.numbering.count k c.args.definitions c.requires.definitions_in c.in_ok-renamed.renamed c.in_ok-renamed.ensures

pub variables-requires-clause-places : goal.variables-requires-clause-places
variables-requires-clause-places c =
    let of = c.as_slice-2.ensures.value ∙ c.in_ok-numbering.ensures.of ∙ ap (λ m. map (ordinal m (least_of m c.args.equalities.now)) (range_with_len 0 m)) c.len.ensures in
    sym (of_count (length c.args.names) c.args.equalities.now c.requires.equalities_in c.as_slice-2.result.now of _ refl)

pub variables-requires-clause-numbers : goal.variables-requires-clause-numbers
variables-requires-clause-numbers c =
    let of = c.as_slice-2.ensures.value ∙ c.in_ok-numbering.ensures.of ∙ ap (λ m. map (ordinal m (least_of m c.args.equalities.now)) (range_with_len 0 m)) c.len.ensures in
    let k = c.in_ok-numbering.ensures.count ∙ ap (λ m. length (roots_in m (least_of m c.args.equalities.now))) c.len.ensures in
    of_below (length c.args.names) c.args.equalities.now c.requires.equalities_in c.as_slice-2.result.now of c.in_ok-numbering.numbering.count k

pub variables-requires-clause-parts : goal.variables-requires-clause-parts
variables-requires-clause-parts c =
    let of = c.as_slice-2.ensures.value ∙ c.in_ok-numbering.ensures.of ∙ ap (λ m. map (ordinal m (least_of m c.args.equalities.now)) (range_with_len 0 m)) c.len.ensures in
    of_parts (length c.args.names) c.args.equalities.now c.requires.equalities_in c.as_slice-2.result.now of _ refl c.args.parts c.requires.parts_in

pub returns : goal.returns
returns c =
    let own = c.in_ok-numbering.ensures.of ∙ ap (λ m. map (ordinal m (least_of m c.args.equalities.now)) (range_with_len 0 m)) c.len.ensures in
    let of = c.as_slice.ensures.value ∙ own in
    let k = c.in_ok-numbering.ensures.count ∙ ap (λ m. length (roots_in m (least_of m c.args.equalities.now))) c.len.ensures in
    let s = renamed_straight (length c.args.names) c.args.equalities.now c.requires.equalities_in c.as_slice.result.now of c.in_ok-numbering.numbering.count k c.args.definitions c.requires.definitions_in c.in_ok-renamed.renamed c.in_ok-renamed.ensures (Ok c.in_ok-definitions.definitions) c.in_ok-definitions.ensures in
    let few = subst (λ n. n < 2 ^ 32) c.len.ensures c.in_ok-numbering.ensures.few in
    worded c.args.names c.args.equalities.now c.requires.equalities_in few (record { of = c.in_ok-numbering.numbering.of; variables = c.in_ok-variables.variables; definitions = c.in_ok-definitions.definitions }) c.in_ok-numbering.numbering.count c.args.parts c.args.definitions own k c.requires.parts_in c.requires.definitions_in (c.in_ok-variables.ensures ∙ ap (λ z. parted_all z c.args.parts (named_all z c.args.names (replicate c.in_ok-numbering.numbering.count free_variable))) c.as_slice-2.ensures.value) s

pub returns-in_err-definitions : goal.returns-in_err-definitions
returns-in_err-definitions c =
    let of = c.as_slice.ensures.value ∙ c.in_ok-numbering.ensures.of ∙ ap (λ m. map (ordinal m (least_of m c.args.equalities.now)) (range_with_len 0 m)) c.len.ensures in
    let k = c.in_ok-numbering.ensures.count ∙ ap (λ m. length (roots_in m (least_of m c.args.equalities.now))) c.len.ensures in
    let exit = err_from_is_err_and c.from_residual-in_err-definitions.result c.from_residual-in_err-definitions.ensures.1 in
    rw (exit.1, exit.2) (renamed_straight (length c.args.names) c.args.equalities.now c.requires.equalities_in c.as_slice.result.now of c.in_ok-numbering.numbering.count k c.args.definitions c.requires.definitions_in c.in_ok-renamed.renamed c.in_ok-renamed.ensures (Err c.in_err-definitions.field-0.0) c.in_err-definitions.ensures)
