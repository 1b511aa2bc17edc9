-- What is made of words is a word: joined, replaced, and written by a transducer that writes words.
use Rattle.std.proofs.Common.{Bool, true, false, ℕ, zero, suc, ◌-◌, List, [], ◌∷◌, ◌++◌, length, drop, Option, Some, nat_eq, cond, arith}
use Rattle.std.specs.Prelude.{if◌then◌else◌}
use Rattle.std.specs.Map.{lookup}
use Rattle.std.specs.Cmp.Lexicographic.{pointwise}
use Rattle.sv_word.specs.Words.{IsWord}
use Rattle.sv_terms.specs.declared.op.Op.TheVariants as op
use Rattle.sv_terms.specs.declared.value.Value.{Value}
use Rattle.sv_terms.specs.declared.value.Value.TheVariants as value
use Rattle.sv_terms.specs.Language.{Word}
use Rattle.sv_terms.specs.Meaning.{Named, joined}
use Rattle.sv_terms.specs.Replacement.{begins, replace_first, replace_from, replace_all}
use Rattle.literal_forms.specs.Shapes.{Shape, Shapes, text, constant, apply, end, ◌⨾◌}
use Rattle.sv_terms.specs.Truth.{IsWorded, AreWorded}
use Rattle.sv_terms.specs.OnlyWords.{word_join}
use Rattle.straight_line.specs.Laws.{IsSpelled, AreSpelled}
use Rattle.straight_line.proofs.Texts.{word, words, text_or}

word_drop : (n : ℕ) (w : Word) → IsWord w → IsWord (drop n w)
word_drop zero w a = a
word_drop (suc n) [] a = tt
word_drop (suc n) (c ∷ w) a = word_drop n w a.1

word_if : (b : Bool) (v w : Word) → IsWord v → IsWord w → IsWord (if b then v else w)
word_if true v w a b = a
word_if false v w a b = b

pub word_first : (p u w : Word) → IsWord u → IsWord w → IsWord (replace_first p u w)
word_first p u [] a b = word_if (begins p []) u [] a tt
word_first p u (c ∷ w) a b = word_if (begins p (c ∷ w)) (u ++ drop (length p) (c ∷ w)) (c ∷ replace_first p u w) (word_join u (drop (length p) (c ∷ w)) a (word_drop (length p) (c ∷ w) b)) (b.0, word_first p u w a b.1)

word_from : (p u : Word) (skip : ℕ) (w : Word) → IsWord u → IsWord w → IsWord (replace_from p u skip w)
word_from p u skip [] a b = tt
word_from p u (suc skip) (c ∷ w) a b = word_from p u skip w a b.1
word_from p u zero (c ∷ w) a b = word_if (begins p (c ∷ w)) (u ++ replace_from p u (length p - 1) w) (c ∷ replace_from p u zero w) (word_join u (replace_from p u (length p - 1) w) a (word_from p u (length p - 1) w a b.1)) (b.0, word_from p u zero w a b.1)

pub word_all : (p u w : Word) → IsWord u → IsWord w → IsWord (replace_all p u w)
word_all [] u w a b = b
word_all (c ∷ p) u w a b = word_from (c ∷ p) u zero w a b

-- the values of constants, and so the words of terms
module _ (values : Named) (worded : AreWorded values) where
  given_word : (n : List ℕ) (vs : Named) → AreWorded vs → IsWord (text_or values (lookup (pointwise nat_eq n) vs))
  given_word n [] a = tt
  given_word n (v ∷ vs) a = by_test (pointwise nat_eq n v.0) v.1 (lookup (pointwise nat_eq n) vs) (a 0 v (omega arith)) (given_word n vs (λ k d l. a (suc k) d (omega arith)))
    where
      of_value : (v : Value) → IsWorded v → IsWord (text_or values (Some v))
      of_value (value.Truth b) h = tt
      of_value (value.Number z) h = tt
      of_value (value.Text w) h = h

      by_test : (b : Bool) (v : Value) (o : Option Value) → IsWorded v → IsWord (text_or values o) → IsWord (text_or values (cond b (Some v) o))
      by_test true v o h k = of_value v h
      by_test false v o h k = k

  mutual
    pub term_word : (s : Shape) → IsSpelled s → IsWord (word values s)
    term_word (text w) h = h
    term_word (constant n s) h = given_word n values worded
    term_word (apply op.Concat ss) h = terms_word ss h
    term_word (apply op.Replace (s ⨾ text p ⨾ text u ⨾ end)) h = word_first p u (word values s) h.1.1.0 (term_word s h.0)
    term_word (apply op.ReplaceAll (s ⨾ text p ⨾ text u ⨾ end)) h = word_all p u (word values s) h.1.1.0 (term_word s h.0)
    term_word _ h = tt

    terms_word : (ss : Shapes) → AreSpelled ss → IsWord (joined (words values ss))
    terms_word end h = tt
    terms_word (s ⨾ ss) h = word_join (word values s) (joined (words values ss)) (term_word s h.0) (terms_word ss h.1)
