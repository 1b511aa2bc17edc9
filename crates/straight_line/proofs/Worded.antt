-- Variables and definitions from numbered places.
use Rattle.std.proofs.Common.{◌≡◌, sym, ap, ◌∙◌, subst, ℕ, ◌<◌, ◌≤◌, ◌^◌, Bool, List, [], map, length, get_or, replicate, Option, Result, Ok, nat_eq, arith}
use Rattle.std.specs.List.{range_with_len}
use Rattle.std.proofs.lemmas.List.{length-map}
use Rattle.std.proofs.lemmas.List.FromFn.{length-range_with_len}
use Rattle.sv_list.specs.Lists.{filter-shorter}
use Rattle.straight_line.specs.Filling.{ArePartsBelow, AreNumbersBelow, free_variable, named_all, parted_all, variable_from}
use Rattle.straight_line.specs.Leading.{AreDefinitionsBelow, ArePairsBelow, AreRooted, IsForest, definition_by, ordinal, roots_in}
use Rattle.flat_cubes.specs.Straight.{HaveVariablesBelow}
use Rattle.straight_line.specs.Tracing.{IsStraightened}
use Rattle.straight_line.specs.Wording.{IsWording, definitions_by, least_of}
use Rattle.flat_cubes.specs.declared.definition.By.{By}
use Rattle.flat_cubes.specs.declared.definition.Definition.{Definition}
use Rattle.flat_cubes.specs.declared.fault.FlatFault.{FlatFault}
use Rattle.flat_cubes.specs.declared.variable.Own.{Own}
use Rattle.straight_line.specs.declared.wording.NumberedDefinitions.{NumberedDefinitions}
use Rattle.straight_line.proofs.Linked.{definitions_are, definitions_within, least_count, least_lower, least_rooted, number_at, numbers_count}
use Rattle.straight_line.proofs.Variables.{numbers_below, variables_are}

module _ (n : ℕ) (es : List (ℕ × ℕ)) (w : ArePairsBelow n es) (xs : List ℕ) (is : xs ≡ least_of n es) where
  pub firsts_count : length xs ≡ n
  firsts_count = ap length is ∙ least_count n es w

  pub firsts_lower : IsForest xs
  firsts_lower = subst IsForest (sym is) (least_lower n es w)

  pub firsts_rooted : AreRooted xs
  firsts_rooted = subst AreRooted (sym is) (least_rooted n es w)

  pub numbers_are : (of : List ℕ) → of ≡ map (ordinal (length xs) xs) (range_with_len 0 (length xs)) → of ≡ map (ordinal n (least_of n es)) (range_with_len 0 n)
  numbers_are of e = e ∙ ap (λ m. map (ordinal m xs) (range_with_len 0 m)) firsts_count ∙ ap (λ z. map (ordinal n z) (range_with_len 0 n)) is

  pub count_is : (c : ℕ) → c ≡ length (roots_in (length xs) xs) → c ≡ length (roots_in n (least_of n es))
  count_is c e = e ∙ ap (λ m. length (roots_in m xs)) firsts_count ∙ ap (λ z. length (roots_in n z)) is

module _ (n : ℕ) (es : List (ℕ × ℕ)) (w : ArePairsBelow n es) (of : List ℕ) (is : of ≡ map (ordinal n (least_of n es)) (range_with_len 0 n)) (count : ℕ) (count_is : count ≡ length (roots_in n (least_of n es))) where
  pub of_count : length of ≡ n
  of_count = numbers_count n es w of is

  pub of_below : AreNumbersBelow count of
  of_below = subst (λ z. AreNumbersBelow z of) (sym count_is) (numbers_below n es w of is [] [] tt)

  pub of_definitions : (ds : List (ℕ × By)) → AreDefinitionsBelow n ds → AreDefinitionsBelow (length of) ds
  of_definitions ds a = subst (λ z. AreDefinitionsBelow z ds) (sym of_count) a

  pub of_parts : (ps : List (ℕ × (Own × Bool))) → ArePartsBelow n ps → ArePartsBelow (length of) ps
  of_parts ps a = subst (λ z. ArePartsBelow z ps) (sym of_count) a

  module _ (ds : List (ℕ × By)) (a : AreDefinitionsBelow n ds) (renamed : List Definition) (e : renamed ≡ map (definition_by (λ i. get_or of i 0)) ds) where
    pub renamed_are : renamed ≡ definitions_by n es ds
    renamed_are = e ∙ definitions_are n es w of is ds a

    pub renamed_within : HaveVariablesBelow count renamed
    renamed_within = subst (HaveVariablesBelow count) (sym renamed_are) (subst (λ z. HaveVariablesBelow z (definitions_by n es ds)) (sym count_is) (definitions_within n es w of is ds a))

    pub renamed_straight : (r : Result (List Definition) FlatFault) → IsStraightened renamed r → IsStraightened (definitions_by n es ds) r
    renamed_straight r h = subst (λ z. IsStraightened z r) renamed_are h

roots-at-most : (n : ℕ) (firsts : List ℕ) → length (roots_in n firsts) ≤ n
roots-at-most n firsts = let l = filter-shorter (λ i. nat_eq (get_or firsts i i) i) (range_with_len 0 n) in let e = length-range_with_len 0 n in omega arith

pub worded : (names : List (Option (List ℕ))) (es : List (ℕ × ℕ)) (w : ArePairsBelow (length names) es) (few : length names < 2 ^ 32) (words : NumberedDefinitions) (count : ℕ) (ps : List (ℕ × (Own × Bool))) (ds : List (ℕ × By)) → words.of.items ≡ map (ordinal (length names) (least_of (length names) es)) (range_with_len 0 (length names)) → count ≡ length (roots_in (length names) (least_of (length names) es)) → ArePartsBelow (length names) ps → AreDefinitionsBelow (length names) ds → words.variables ≡ parted_all words.of.items ps (named_all words.of.items names (replicate count free_variable)) → IsStraightened (definitions_by (length names) es ds) (Ok words.definitions) → IsWording names ps ds es words
worded names es w few words count ps ds of_is count_is in_parts in_ds v s =
    let n = length names in
    let are : words.variables ≡ map (variable_from names ps (least_of (length names) es)) (roots_in (length names) (least_of (length names) es)) = v ∙ ap (λ z. parted_all words.of.items ps (named_all words.of.items names (replicate z free_variable))) count_is ∙ variables_are (length names) es w words.of.items of_is names ps in_parts in
    record {
      numbers = λ i l. number_at (length names) es w words.of.items of_is i 0 l;
      count = numbers_count (length names) es w words.of.items of_is;
      variables = are;
      few =
          let e = ap length are ∙ length-map (roots_in (length names) (least_of (length names) es)) (variable_from names ps (least_of (length names) es)) in
          let l = roots-at-most (length names) (least_of (length names) es) in
          omega arith;
      within = subst (λ z. HaveVariablesBelow z (definitions_by (length names) es ds)) (sym (ap length are ∙ length-map (roots_in (length names) (least_of (length names) es)) (variable_from names ps (least_of (length names) es)))) (definitions_within (length names) es w words.of.items of_is ds in_ds);
      straight = s;
    }
