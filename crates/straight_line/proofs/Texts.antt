-- The words of string terms under values.
use Rattle.std.proofs.Common.{◌≡◌, refl, sym, ap, ◌∙◌, map, Bool, true, IsTrue, ℕ, List, [], ◌∷◌, ◌++◌, Option, Some, None, nat_eq, append_assoc}
use Rattle.std.specs.List.{list_all}
use Rattle.std.specs.Map.{lookup}
use Rattle.std.specs.Option.{option_map}
use Rattle.std.specs.Cmp.Lexicographic.{pointwise}
use Rattle.std.proofs.lemmas.Bool.{and_parts}
use Rattle.sv_terms.specs.declared.value.Value.{Value}
use Rattle.sv_terms.specs.declared.value.Value.TheVariants.{Truth, Number, Text}
use Rattle.sv_terms.specs.declared.op.Op.TheVariants as op
use Rattle.sv_terms.specs.declared.sort.Sort.{Sort}
use Rattle.sv_terms.specs.declared.sort.Sort.TheVariants as sort
use Rattle.sv_terms.specs.declared.term.Term.TheVariants as term
use Rattle.sv_terms.specs.declared.term.Term.TheOpen.{Term-F}
use Rattle.sv_terms.specs.Language.{Word}
use Rattle.sv_terms.specs.Replacement.{replace_first, replace_all}
use Rattle.sv_terms.specs.Meaning.{Named, all_of, each_of, word_of, joined, applied_if, val, val_step}
use Rattle.sv_terms.specs.SortingLaws.{fold-at, val-apply, valued-apply}
use Rattle.sv_terms.specs.Sorting.{same_sort, is_of, valued_step, is_valued}
use Rattle.literal_forms.specs.Shapes.{Shape, Shapes, truth, number, text, constant, apply, member, related, opaque, end, ◌⨾◌, raw, raws}
use Rattle.literal_forms.specs.Linear.{is_string, are_strings, written, pieces, before, set_before as spliced}

module _ (values : Named) where
  abbrev pub text_or : Option Value → Word
  text_or (Some (Text w)) = w
  text_or _ = []

  -- the word of a string term
  abbrev mutual
    pub word : Shape → Word
    word (text w) = w
    word (constant n s) = text_or (lookup (pointwise nat_eq n) values)
    word (apply op.Concat ss) = joined (words ss)
    word (apply op.Replace (s ⨾ text p ⨾ text u ⨾ end)) = replace_first p u (word s)
    word (apply op.ReplaceAll (s ⨾ text p ⨾ text u ⨾ end)) = replace_all p u (word s)
    word _ = []

    pub words : Shapes → List Word
    words end = []
    words (s ⨾ ss) = word s ∷ words ss

  -- nested concatenations written as one have the same word
  joined_more : (vs ws : List Word) → joined (vs ++ ws) ≡ joined vs ++ joined ws
  joined_more [] ws = refl
  joined_more (v ∷ vs) ws = ap (λ w. v ++ w) (joined_more vs ws) ∙ sym (append_assoc v (joined vs) (joined ws))

  words_spliced : (ss ts : Shapes) → words (spliced ss ts) ≡ words ss ++ words ts
  words_spliced end ts = refl
  words_spliced (s ⨾ ss) ts = ap (λ ws. word s ∷ ws) (words_spliced ss ts)

  word_before : (s : Shape) (ts : Shapes) → joined (words (before s ts)) ≡ word s ++ joined (words ts)
  word_before (apply op.Concat ss) ts = ap joined (words_spliced ss ts) ∙ joined_more (words ss) (words ts)
  word_before (truth b) ts = refl
  word_before (number n) ts = refl
  word_before (text w) ts = refl
  word_before (constant n s) ts = refl
  word_before (member s r) ts = refl
  word_before (related t s u) ts = refl
  word_before (opaque s) ts = refl
  word_before (apply op.Not ss) ts = refl
  word_before (apply op.And ss) ts = refl
  word_before (apply op.Or ss) ts = refl
  word_before (apply op.Xor ss) ts = refl
  word_before (apply op.Implies ss) ts = refl
  word_before (apply op.Equal ss) ts = refl
  word_before (apply op.Distinct ss) ts = refl
  word_before (apply op.IfThenElse ss) ts = refl
  word_before (apply op.LessEqual ss) ts = refl
  word_before (apply op.Less ss) ts = refl
  word_before (apply op.GreaterEqual ss) ts = refl
  word_before (apply op.Greater ss) ts = refl
  word_before (apply op.Add ss) ts = refl
  word_before (apply op.Subtract ss) ts = refl
  word_before (apply op.Multiply ss) ts = refl
  word_before (apply op.Length ss) ts = refl
  word_before (apply op.Replace ss) ts = refl
  word_before (apply op.ReplaceAll ss) ts = refl
  word_before (apply op.PrefixOf ss) ts = refl
  word_before (apply op.SuffixOf ss) ts = refl
  word_before (apply op.Contains ss) ts = refl
  word_before (apply op.IsDigit ss) ts = refl

  -- nested concatenations written as one have the same word
  mutual
    pub word_written : (s : Shape) → word (written s) ≡ word s
    word_written (truth b) = refl
    word_written (number n) = refl
    word_written (text w) = refl
    word_written (constant n s) = refl
    word_written (member s r) = refl
    word_written (related t s u) = refl
    word_written (opaque s) = refl
    word_written (apply op.Concat ss) = words_pieces ss
    word_written (apply op.Replace (s ⨾ text p ⨾ text u ⨾ end)) = ap (replace_first p u) (word_written s)
    word_written (apply op.ReplaceAll (s ⨾ text p ⨾ text u ⨾ end)) = ap (replace_all p u) (word_written s)
    word_written _ = refl

    words_pieces : (ss : Shapes) → joined (words (pieces ss)) ≡ joined (words ss)
    words_pieces end = refl
    words_pieces (s ⨾ ss) = word_before (written s) (pieces ss) ∙ (λ i. word_written s i ++ words_pieces ss i)

  pub val_text : (w : Word) → val values (term.Text w) ≡ Some (Text w)
  val_text w = fold-at (Option Value) (val_step values) _ (Term-F.Text w) (term.rolls-Text w)

  pub val_constant : (n : List ℕ) (s : Sort) → val values (term.Constant n s) ≡ lookup (pointwise nat_eq n) values
  val_constant n s = fold-at (Option Value) (val_step values) _ (Term-F.Constant n s) (term.rolls-Constant n s)

  pub valued_constant : (n : List ℕ) (s : Sort) → is_valued values (term.Constant n s) ≡ is_of s (lookup (pointwise nat_eq n) values)
  valued_constant n s = fold-at Bool (valued_step values) _ (Term-F.Constant n s) (term.rolls-Constant n s)

  -- a constant of sort String that has a value of its sort has its word
  pub text_is : (o : Option Value) (s : Sort) → same_sort s sort.String ≡ true → IsTrue (is_of s o) → o ≡ Some (Text (text_or o))
  text_is None s e h = absurd (cc)
  text_is (Some (Text w)) s e h = refl
  text_is (Some (Truth b)) sort.String e h = absurd (cc)
  text_is (Some (Truth b)) sort.Bool e h = absurd (cc)
  text_is (Some (Truth b)) sort.Int e h = absurd (cc)
  text_is (Some (Truth b)) sort.RegLan e h = absurd (cc)
  text_is (Some (Number n)) sort.String e h = absurd (cc)
  text_is (Some (Number n)) sort.Bool e h = absurd (cc)
  text_is (Some (Number n)) sort.Int e h = absurd (cc)
  text_is (Some (Number n)) sort.RegLan e h = absurd (cc)

  each_text : (ws : List Word) → each_of word_of (map (λ w. Text w) ws) ≡ Some ws
  each_text [] = refl
  each_text (w ∷ ws) = ap (option_map (λ vs. w ∷ vs)) (each_text ws)

  -- a string term whose constants have values of their sorts has its word
  mutual
    pub val_word : (s : Shape) → is_string s ≡ true → IsTrue (is_valued values (raw s)) → val values (raw s) ≡ Some (Text (word s))
    val_word (text w) e h = val_text w
    val_word (constant n s) e h = val_constant n s ∙ text_is (lookup (pointwise nat_eq n) values) s e (sym (valued_constant n s) ∙ h)
    val_word (apply op.Concat (s ⨾ ss)) e h =
        let a = and_parts (is_string s) (are_strings ss) e in
        let k = sym (valued-apply values op.Concat (raws (s ⨾ ss))) ∙ h in
        let b = and_parts (is_valued values (raw s)) (list_all (λ c. c) (map (is_valued values) (raws ss))) k in
        let vs = val_words (s ⨾ ss) e k in
        val-apply values op.Concat (raws (s ⨾ ss)) ∙ ap (applied_if op.Concat) vs ∙ ap (option_map (λ ws. Text (joined ws))) (each_text (words (s ⨾ ss)))
    val_word (apply op.Replace (s ⨾ text p ⨾ text u ⨾ end)) e h =
        let k = sym (valued-apply values op.Replace (raws (s ⨾ text p ⨾ text u ⨾ end))) ∙ h in
        let b = and_parts (is_valued values (raw s)) (list_all (λ c. c) (map (is_valued values) (raws (text p ⨾ text u ⨾ end)))) k in
        val-apply values op.Replace (raws (s ⨾ text p ⨾ text u ⨾ end)) ∙ (λ i. applied_if op.Replace (all_of (val_word s e b.0 i ∷ val_text p i ∷ val_text u i ∷ [])))
    val_word (apply op.ReplaceAll (s ⨾ text p ⨾ text u ⨾ end)) e h =
        let k = sym (valued-apply values op.ReplaceAll (raws (s ⨾ text p ⨾ text u ⨾ end))) ∙ h in
        let b = and_parts (is_valued values (raw s)) (list_all (λ c. c) (map (is_valued values) (raws (text p ⨾ text u ⨾ end)))) k in
        val-apply values op.ReplaceAll (raws (s ⨾ text p ⨾ text u ⨾ end)) ∙ (λ i. applied_if op.ReplaceAll (all_of (val_word s e b.0 i ∷ val_text p i ∷ val_text u i ∷ [])))
    val_word _ e h = absurd (cc)

    val_words : (ss : Shapes) → are_strings ss ≡ true → IsTrue (list_all (λ c. c) (map (is_valued values) (raws ss))) → all_of (map (val values) (raws ss)) ≡ Some (map (λ w. Text w) (words ss))
    val_words end e h = refl
    val_words (s ⨾ ss) e h =
        let a = and_parts (is_string s) (are_strings ss) e in
        let b = and_parts (is_valued values (raw s)) (list_all (λ c. c) (map (is_valued values) (raws ss))) h in
        ap (λ z. all_of (z ∷ map (val values) (raws ss))) (val_word s a.0 b.0) ∙ ap (option_map (λ vs. Text (word s) ∷ vs)) (val_words ss a.1 b.1)
