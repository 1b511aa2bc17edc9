-- The word of a term: a literal has one, and no other term has.
use Rattle.std.proofs.Common.{◌≡◌, sym, ap, ◌∙◌, List, ℕ, None}
use Rattle.sv_terms.specs.declared.entry.Body.TheVariants as body
use Rattle.sv_terms.specs.declared.term.Term.{Term, roll-Term}
use Rattle.sv_terms.specs.declared.term.Term.TheVariants as term
use Rattle.sv_terms.specs.declared.term.Term.TheOpen.{Term-F}
use Rattle.sv_terms.specs.declared.term.Term.TheViews.{out-Term, roll-out-Term}
use Rattle.term_weight.specs.Bodies.{literal}
use Rattle.term_weight.specs.LayerLaws.{word-Truth, word-Number, word-Constant, word-Apply, word-InRe, word-Related, word-Opaque}

of_form : (s t : Term) → s ≡ t → literal (body.Term t) ≡ None → None ≡ literal (body.Term s)
of_form s t e h = sym (ap (λ z. literal (body.Term z)) e ∙ h)

other_word : (x : Term-F Term) (t : Term) → roll-Term x ≡ t → ((w : List ℕ) → t ≡ term.Text w → ⊥) → None ≡ literal (body.Term t)
other_word (Term-F.Text w) t e n = absurd (n w (sym e ∙ term.rolls-Text w))
other_word (Term-F.Truth b) t e n = of_form t (term.Truth b) (sym e ∙ term.rolls-Truth b) (word-Truth b)
other_word (Term-F.Number k) t e n = of_form t (term.Number k) (sym e ∙ term.rolls-Number k) (word-Number k)
other_word (Term-F.Constant m s) t e n = of_form t (term.Constant m s) (sym e ∙ term.rolls-Constant m s) (word-Constant m s)
other_word (Term-F.Apply o ts) t e n = of_form t (term.Apply o ts) (sym e ∙ term.rolls-Apply o ts) (word-Apply o ts)
other_word (Term-F.InRe u r) t e n = of_form t (term.InRe u r) (sym e ∙ term.rolls-InRe u r) (word-InRe u r)
other_word (Term-F.Related m u v) t e n = of_form t (term.Related m u v) (sym e ∙ term.rolls-Related m u v) (word-Related m u v)
other_word (Term-F.Opaque s) t e n = of_form t (term.Opaque s) (sym e ∙ term.rolls-Opaque s) (word-Opaque s)

pub word-other : (t : Term) → ((w : List ℕ) → t ≡ term.Text w → ⊥) → None ≡ literal (body.Term t)
word-other t n = other_word (out-Term t) t (roll-out-Term t) n
