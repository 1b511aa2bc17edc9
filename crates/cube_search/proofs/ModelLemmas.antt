-- The model of runs and numbers, entry by entry.
use Rattle.std.proofs.Common.{◌≡◌, refl, ap, sym, subst, ◌∙◌, Bool, true, false, ◌||◌, ℕ, suc, zero, ◌+◌, ◌<◌, ◌≤◌, ℤ, List, [], ◌∷◌, ◌++◌, map, length, get_or, Option, nat_eq, arith}
use Rattle.std.specs.Prelude.{if◌then◌else◌}
use Rattle.std.specs.List.{AllByRecursion, AllZip, IsDistinct, list_any, range_with_len}
use Rattle.std.specs.Map.{keys_of, lookup}
use Rattle.std.specs.Cmp.Lexicographic.{pointwise}
use Rattle.std.proofs.lemmas.Bool.{true≢false}
use Rattle.std.proofs.lemmas.List.Elements.{All-nil, All-cons, All-head, All-tail}
use Rattle.sv_list.specs.Lists.{AllByRecursion-append}
use Rattle.indexmap.specs.IndexMap.{insert_all, insert_entry}
use Rattle.sv_word.specs.Words.{IsWord}
use Rattle.sv_terms.specs.Language.{Word}
use Rattle.sv_terms.specs.Meaning.{Named}
use Rattle.sv_terms.specs.Truth.{AreWorded, IsWorded}
use Rattle.sv_terms.specs.declared.value.Value.{Value}
use Rattle.sv_terms.specs.declared.value.Value.TheVariants as value
use Rattle.machine_core.specs.declared.run.Run.{Run}
use Rattle.flat_cubes.specs.Satisfying.{HasValue, MeetsParts, NamesHave, Satisfies}
use Rattle.flat_cubes.specs.Straight.{AreNamesApart, all_names, string_names}
use Rattle.flat_cubes.specs.declared.flat.Flat.{Flat}
use Rattle.flat_cubes.specs.declared.variable.Variable.{Variable}
use Rattle.cube_search.specs.Answers.{AreOnlyIn}
use Rattle.cube_search.specs.Entries.{all_entries, number_entries, string_entries, text_entries, truth_entries, word_by, word_of}
use Rattle.cube_search.specs.Models.{IsNamedBy, all_words}
use Rattle.cube_search.specs.declared.found.FoundRuns.{FoundRuns}
use Rattle.cube_search.proofs.Named.{all-found, found-behind}

abbrev same : List ℕ → List ℕ → Bool
same = pointwise nat_eq

-- the word at a place
pub word-there : (rs : List (Option (Run ℕ))) (v : ℕ) (o : Option (Run ℕ)) → v < length rs → o ≡ get_or rs v o → word_of o ≡ word_by rs v
word-there [] v o l e = absurd (omega arith)
word-there (r ∷ rs) zero o l e = ap word_of e
word-there (r ∷ rs) (suc v) o l e = word-there rs v o (omega arith) e

pub word-past : (rs : List (Option (Run ℕ))) (v : ℕ) → length rs ≤ v → [] ≡ word_by rs v
word-past [] v l = refl
word-past (r ∷ rs) zero l = absurd (omega arith)
word-past (r ∷ rs) (suc v) l = word-past rs v (omega arith)

-- entries behind others
pub set-behind : (es xs ys : Named) → insert_all same es (xs ++ ys) ≡ insert_all same (insert_all same es xs) ys
set-behind es [] ys = refl
set-behind es (x ∷ xs) ys = set-behind (insert_entry same es x.0 x.1) xs ys

-- the names of the entries are those of the cube
keys-joined : (xs ys : Named) → keys_of (xs ++ ys) ≡ keys_of xs ++ keys_of ys
keys-joined [] ys = refl
keys-joined (x ∷ xs) ys = ap (λ ks. x.0 ∷ ks) (keys-joined xs ys)

text-keys : (w : Word) (names : List (List ℕ)) → keys_of (text_entries w names) ≡ names
text-keys w [] = refl
text-keys w (n ∷ names) = ap (λ ks. n ∷ ks) (text-keys w names)

string-keys : (rs : List (Option (Run ℕ))) (v : ℕ) (vs : List Variable) → keys_of (string_entries rs v vs) ≡ string_names vs
string-keys rs v [] = refl
string-keys rs v (x ∷ vs) =
    keys-joined (text_entries (word_by rs v) x.names) (string_entries rs (suc v) vs)
    ∙ (λ i. text-keys (word_by rs v) x.names i ++ string-keys rs (suc v) vs i)

number-keys : (ns : List (List ℕ)) (zs : List ℤ) → length zs ≡ length ns → keys_of (number_entries ns zs) ≡ ns
number-keys [] zs e = refl
number-keys (n ∷ ns) [] e = absurd (omega arith)
number-keys (n ∷ ns) (z ∷ zs) e = ap (λ ks. n ∷ ks) (number-keys ns zs (omega arith))

truth-keys : (ts : List (List ℕ × Bool)) → keys_of (truth_entries ts) ≡ map (λ (t : List ℕ × Bool). t.0) ts
truth-keys [] = refl
truth-keys (t ∷ ts) = ap (λ ks. t.0 ∷ ks) (truth-keys ts)

all-keys : (flat : Flat) (found : FoundRuns) → length found.integers ≡ length flat.integers → keys_of (all_entries flat found) ≡ all_names flat
all-keys flat found e =
    keys-joined (string_entries found.runs 0 flat.variables ++ number_entries flat.integers found.integers) (truth_entries flat.truths)
    ∙ (λ i. keys-joined (string_entries found.runs 0 flat.variables) (number_entries flat.integers found.integers) i ++ truth-keys flat.truths i)
    ∙ (λ i. (string-keys found.runs 0 flat.variables i ++ number-keys flat.integers found.integers e i) ++ map (λ (t : List ℕ × Bool). t.0) flat.truths)

-- what holds of all entries of a list holds of those of its parts
parts : (P : List ℕ × Value → Type 0) (xs ys : Named) → AllByRecursion P (xs ++ ys) → AllByRecursion P xs × AllByRecursion P ys
parts P [] ys h = (tt, h)
parts P (x ∷ xs) ys h = let r = parts P xs ys h.1 in ((h.0, r.0), r.1)

module _ (values : Named) where
  abbrev IsThere : List ℕ × Value → Type 0
  IsThere e = HasValue values e.1 e.0

  texts-there : (w : Word) (names : List (List ℕ)) → AllByRecursion IsThere (text_entries w names) → AllByRecursion (HasValue values (value.Text w)) names
  texts-there w [] h = tt
  texts-there w (n ∷ names) h = (h.0, texts-there w names h.1)

  strings-there : (rs : List (Option (Run ℕ))) (v : ℕ) (vs : List Variable) → AllByRecursion IsThere (string_entries rs v vs) → AllZip (NamesHave values) vs (map (word_by rs) (range_with_len v (length vs)))
  strings-there rs v [] h = tt
  strings-there rs v (x ∷ vs) h =
      let k = parts IsThere (text_entries (word_by rs v) x.names) (string_entries rs (suc v) vs) h in (
        texts-there (word_by rs v) x.names k.0,
        subst (λ n. AllZip (NamesHave values) vs (map (word_by rs) (range_with_len n (length vs)))) (let e : suc v ≡ v + 1 = omega arith in e) (strings-there rs (suc v) vs k.1),
      )

  numbers-there : (ns : List (List ℕ)) (zs : List ℤ) → length zs ≡ length ns → AllByRecursion IsThere (number_entries ns zs) → AllZip (λ n z. HasValue values (value.Number z) n) ns zs
  numbers-there [] [] e h = tt
  numbers-there [] (z ∷ zs) e h = absurd (omega arith)
  numbers-there (n ∷ ns) [] e h = absurd (omega arith)
  numbers-there (n ∷ ns) (z ∷ zs) e h = (h.0, numbers-there ns zs (omega arith) h.1)

  truths-there : (ts : List (List ℕ × Bool)) → AllByRecursion IsThere (truth_entries ts) → AllByRecursion (λ (t : List ℕ × Bool). HasValue values (value.Truth t.1) t.0) ts
  truths-there [] h = tt
  truths-there (t ∷ ts) h = (h.0, truths-there ts h.1)

-- texts that are words
module _ where
  abbrev W : List ℕ × Value → Type 0
  W e = IsWorded e.1

  worded-set : (es : Named) (k : List ℕ) (v : Value) → AreWorded es → IsWorded v → AreWorded (insert_entry same es k v)
  worded-set [] k v h w = All-cons W (k, v) [] w (All-nil W)
  worded-set (e ∷ es) k v h w = by_test (same k e.0) (worded-set es k v (All-tail W e es h) w)
    where
      by_test : (b : Bool) → AreWorded (insert_entry same es k v) → AreWorded (if b then (e.0, v) ∷ es else e ∷ insert_entry same es k v)
      by_test true r = All-cons W (e.0, v) es w (All-tail W e es h)
      by_test false r = All-cons W e (insert_entry same es k v) (All-head W e es h) r

  worded-all : (es xs : Named) → AreWorded es → AllByRecursion W xs → AreWorded (insert_all same es xs)
  worded-all es [] h k = h
  worded-all es (x ∷ xs) h k = worded-all (insert_entry same es x.0 x.1) xs (worded-set es x.0 x.1 h k.0) k.1

  texts-worded : (w : Word) (names : List (List ℕ)) → IsWord w → AllByRecursion W (text_entries w names)
  texts-worded w [] h = tt
  texts-worded w (n ∷ names) h = (h, texts-worded w names h)

  strings-worded : (rs : List (Option (Run ℕ))) (v : ℕ) (vs : List Variable) → AllZip MeetsParts vs (map (word_by rs) (range_with_len v (length vs))) → AllByRecursion W (string_entries rs v vs)
  strings-worded rs v [] h = tt
  strings-worded rs v (x ∷ vs) h =
      AllByRecursion-append W (text_entries (word_by rs v) x.names) (string_entries rs (suc v) vs) (texts-worded (word_by rs v) x.names h.0.0)
      (strings-worded rs (suc v) vs (subst (λ n. AllZip MeetsParts vs (map (word_by rs) (range_with_len n (length vs)))) (let e : v + 1 ≡ suc v = omega arith in e) h.1))

  numbers-worded : (ns : List (List ℕ)) (zs : List ℤ) → AllByRecursion W (number_entries ns zs)
  numbers-worded [] zs = tt
  numbers-worded (n ∷ ns) [] = tt
  numbers-worded (n ∷ ns) (z ∷ zs) = (tt, numbers-worded ns zs)

  truths-worded : (ts : List (List ℕ × Bool)) → AllByRecursion W (truth_entries ts)
  truths-worded [] = tt
  truths-worded (t ∷ ts) = (tt, truths-worded ts)

-- a name that isn't among these is none of them
none-same : (name : List ℕ) (ns : List (List ℕ)) → list_any (same name) ns ≡ false → AllByRecursion (λ k. same name k ≡ false) ns
none-same name [] h = tt
none-same name (n ∷ ns) h = by (same name n) refl h (none-same name ns)
  where
    by : (b : Bool) → same name n ≡ b → (b || list_any (same name) ns) ≡ false → (list_any (same name) ns ≡ false → AllByRecursion (λ k. same name k ≡ false) ns) → AllByRecursion (λ k. same name k ≡ false) (n ∷ ns)
    by true e g rest = absurd (true≢false g)
    by false e g rest = (e, rest g)

module _ (flat : Flat) (found : FoundRuns) (values : Named) (is : values ≡ insert_all same [] (all_entries flat found)) where
  pub named-by : AreNamesApart flat → length found.integers ≡ length flat.integers → IsNamedBy flat found values
  named-by apart e =
      let d = subst (IsDistinct same) (sym (all-keys flat found e)) apart in
      let all = subst (λ vs. AllByRecursion (IsThere vs) (all_entries flat found)) (sym is) (all-found (all_entries flat found) [] d) in
      let one = parts (IsThere values) (string_entries found.runs 0 flat.variables ++ number_entries flat.integers found.integers) (truth_entries flat.truths) all in
      let two = parts (IsThere values) (string_entries found.runs 0 flat.variables) (number_entries flat.integers found.integers) one.0 in
      record {
        names = strings-there values found.runs 0 flat.variables two.0;
        integers = numbers-there values flat.integers found.integers e two.1;
        truths = truths-there values flat.truths one.1;
      }

  pub all-worded : Satisfies flat (all_words (length flat.variables) found.runs) found.integers → AreWorded values
  all-worded h =
      subst AreWorded (sym is) (worded-all [] (all_entries flat found) (All-nil W)
      (AllByRecursion-append W (string_entries found.runs 0 flat.variables ++ number_entries flat.integers found.integers) (truth_entries flat.truths)
      (AllByRecursion-append W (string_entries found.runs 0 flat.variables) (number_entries flat.integers found.integers) (strings-worded found.runs 0 flat.variables h.strings.parts) (numbers-worded flat.integers found.integers))
      (truths-worded flat.truths)))

  -- a name that isn't one of the cube has no value
  pub only-in : length found.integers ≡ length flat.integers → AreOnlyIn flat values
  only-in e = λ name no.
      ap (lookup (same name)) is
      ∙ found-behind (all_entries flat found) [] name (subst (AllByRecursion (λ k. same name k ≡ false)) (sym (all-keys flat found e)) (none-same name (all_names flat) no))

-- the entries, set one list after another
pub set-in-turn : (flat : Flat) (found : FoundRuns) (a b d : Named) → a ≡ insert_all same [] (string_entries found.runs 0 flat.variables) → b ≡ insert_all same a (number_entries flat.integers found.integers)
    → d ≡ insert_all same b (truth_entries flat.truths) → d ≡ insert_all same [] (all_entries flat found)
set-in-turn flat found a b d e f g =
    g ∙ ap (λ vs. insert_all same vs (truth_entries flat.truths)) (f ∙ ap (λ vs. insert_all same vs (number_entries flat.integers found.integers)) e
    ∙ sym (set-behind [] (string_entries found.runs 0 flat.variables) (number_entries flat.integers found.integers)))
    ∙ sym (set-behind [] (string_entries found.runs 0 flat.variables ++ number_entries flat.integers found.integers) (truth_entries flat.truths))
