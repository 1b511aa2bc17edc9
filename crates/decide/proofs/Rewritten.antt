-- A flat cube that is rewritten: its models are those of the one it comes from.
use Rattle.std.proofs.Common.{◌≡◌, refl, sym, ap, subst, ◌∙◌, ◌<◌, ◌^◌, ℕ, suc, pos, ◌≤ℤ◌, ◌-ℤ◌, ◌/◌, Bool, not, List, [], ◌∷◌, ◌++◌, map, length}
use Rattle.std.specs.Prelude.{filter, nat_eq}
use Rattle.std.specs.List.{AllByRecursion, AllZip, IsDistinct, list_any, range_with_len, sum_by}
use Rattle.std.specs.Cmp.Lexicographic.{pointwise}
use Rattle.sv_terms.specs.Language.{Word}
use Rattle.sv_terms.specs.Meaning.{Named}
use Rattle.sv_terms.specs.declared.value.Value.TheVariants as value
use Rattle.cube_bounds.specs.Bounds.{greatest}
use Rattle.cube_bounds.specs.Growth.{growth, grown, longest_word, reach}
use Rattle.cube_bounds.specs.NumberLaws.{source_length}
use Rattle.flat_cubes.specs.Satisfying.{HasValue, NamesHave, word_at}
use Rattle.flat_cubes.specs.Straight.{AreNamesApart, HasFormed, IsFormedBy, all_names, string_names}
use Rattle.flat_cubes.specs.Using.{is_defined}
use Rattle.flat_cubes.specs.declared.definition.Definition.{Definition}
use Rattle.flat_cubes.specs.declared.flat.Flat.{Flat}
use Rattle.flat_cubes.specs.declared.variable.Variable.{Variable}
use Rattle.length_parts.specs.Rewriting.{HaveSameNames, IsRewriting}
use Rattle.cube_search.specs.Answers.{AreOnlyIn, IsModelOf}
use Rattle.cube_search.specs.Causes.{EachSolution}

strings-same : (vs ws : List Variable) → HaveSameNames vs ws → string_names vs ≡ string_names ws
strings-same [] [] h = refl
strings-same [] (w ∷ ws) h = absurd h
strings-same (v ∷ vs) [] h = absurd h
strings-same (v ∷ vs) (w ∷ ws) h = λ i. h.0 i ++ strings-same vs ws h.1 i

long-same : (vs ws : List Variable) → HaveSameNames vs ws → length vs ≡ length ws
long-same [] [] h = refl
long-same [] (w ∷ ws) h = absurd h
long-same (v ∷ vs) [] h = absurd h
long-same (v ∷ vs) (w ∷ ws) h = ap (λ n. suc n) (long-same vs ws h.1)

ones-same : (vs ws : List Variable) → HaveSameNames vs ws → map {B = ℕ} (λ (v : Variable). 1) vs ≡ map {B = ℕ} (λ (v : Variable). 1) ws
ones-same [] [] h = refl
ones-same [] (w ∷ ws) h = absurd h
ones-same (v ∷ vs) [] h = absurd h
ones-same (v ∷ vs) (w ∷ ws) h = ap (λ ns. 1 ∷ ns) (ones-same vs ws h.1)

texts-same : (values : Named) (vs ws : List Variable) (us : List Word) → HaveSameNames vs ws → AllZip (NamesHave values) vs us → AllZip (NamesHave values) ws us
texts-same values [] [] us h k = k
texts-same values [] (w ∷ ws) us h k = absurd h
texts-same values (v ∷ vs) [] us h k = absurd h
texts-same values (v ∷ vs) (w ∷ ws) [] h k = absurd k
texts-same values (v ∷ vs) (w ∷ ws) (u ∷ us) h k = (subst (AllByRecursion (HasValue values (value.Text u))) h.0 k.0, texts-same values vs ws us h.1 k.1)

module _ (old new : Flat) (r : IsRewriting old new) where
  names-same : all_names new ≡ all_names old
  names-same = λ i. strings-same new.variables old.variables r.names i ++ r.integers i ++ map (λ (t : List ℕ × Bool). t.0) (r.truths i)

  pub apart-stays : AreNamesApart old → AreNamesApart new
  apart-stays h = subst (IsDistinct (pointwise nat_eq)) (sym names-same) h

  pub formed-stays : HasFormed old → HasFormed new
  formed-stays h = subst (AllByRecursion (λ (d : Definition). IsFormedBy d.by)) (sym r.definitions) h

  pub few-stays : length old.variables < 2 ^ 32 → length new.variables < 2 ^ 32
  few-stays h = subst (λ n. n < 2 ^ 32) (sym (long-same new.variables old.variables r.names)) h

  growth-same : growth new ≡ growth old
  growth-same = λ i. greatest 1 (grown (ones-same new.variables old.variables r.names i) (r.definitions i))

  reach-same : reach new ≡ reach old
  reach-same = ap (λ g. pos (longest_word / g) -ℤ pos 1) growth-same

  sources-same : (words : List Word) → source_length new words ≡ source_length old words
  sources-same words = λ i. sum_by (λ v. length (word_at words v)) (filter (λ v. not (is_defined (r.definitions i) v)) (range_with_len 0 (long-same new.variables old.variables r.names i)))

  pub model-back : (values : Named) → IsModelOf new values → IsModelOf old values
  model-back values m = record {
    words = m.words;
    numbers = m.numbers;
    worded = m.worded;
    of = record {
      names = texts-same values new.variables old.variables m.words r.names m.of.names;
      integers = subst (λ ns. AllZip (λ n z. HasValue values (value.Number z) n) ns m.numbers) r.integers m.of.integers;
      truths = subst (AllByRecursion (λ (t : List ℕ × Bool). HasValue values (value.Truth t.1) t.0)) r.truths m.of.truths;
    };
    satisfies = (r.same m.words m.numbers).0 m.satisfies;
    within = subst (λ n. pos n ≤ℤ reach old) (sources-same m.words) (subst (λ z. pos (source_length new m.words) ≤ℤ z) reach-same m.within);
  }

  pub only-back : (values : Named) → AreOnlyIn new values → AreOnlyIn old values
  only-back values h name e = h name (ap (list_any (pointwise nat_eq name)) names-same ∙ e)

  pub none-back : EachSolution new (λ ws ints. ⊥) → EachSolution old (λ ws ints. ⊥)
  none-back h ws ints s = h ws ints ((r.same ws ints).1 s)
