-- Configurations of a family at other words.
use Rattle.std.proofs.Common.{◌≡◌, ℕ, List, sym, ap, ◌∙◌, inl, inr}
use Rattle.std.proofs.lemmas.Bool.Decides.{eqb_tells}
use Rattle.sv_terms.specs.Language.{Word}
use Rattle.backward.specs.Families.{Family, Words, put, Conf}
use Rattle.backward.proofs.ConfLemmas.{conf-agree, put-same, put-other}

-- putting the word that a variable has changes nothing
put-own : (words : Words) (x v : ℕ) (w : Word) → words x ≡ w → words v ≡ put words x w v
put-own words x v w e = elim (eqb_tells v x) [
  | inl is ↦ ap words is.1 ∙ e ∙ sym (ap (put words x w) is.1 ∙ put-same words x w)
  | inr apart ↦ sym (put-other words x w v apart.1)
]

pub conf-put : (width : ℕ) (ms : Family) (words : Words) (x : ℕ) (w : Word) (totals : List ℕ) → words x ≡ w → Conf width ms words totals → Conf width ms (put words x w) totals
conf-put width ms words x w totals e = conf-agree width ms words (put words x w) (λ v m h. put-own words x v w e) totals
