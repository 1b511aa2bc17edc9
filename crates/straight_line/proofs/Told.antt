-- The literals of a cube are true exactly where all that was met holds, at words that fit the terms.
use Rattle.std.proofs.Common.{◌≡◌, refl, sym, ap, ◌∙◌, subst, false, IsTrue, ◌↔◌, ℕ, suc, List, [], ◌∷◌, ◌++◌, length, get_or, length-append, add-one, None}
use Rattle.std.specs.List.{AllByRecursion}
use Rattle.cube_draft.proofs.Proper.{inside_first, IsFormedSaid}
use Rattle.sv_terms.specs.declared.regex.Regex.{Regex}
use Rattle.sv_terms.specs.declared.transducer.Transducer.{Transducer}
use Rattle.sv_terms.specs.Language.{Word, In}
use Rattle.sv_terms.specs.Matches.{matches}
use Rattle.sv_terms.specs.Meaning.{Named, val}
use Rattle.sv_terms.specs.Sorting.{is_valued}
use Rattle.sv_terms.specs.Transduction.{Pairs, writes}
use Rattle.literal_forms.specs.Literals.{IsTrueLiteral, AreTrueLiterals}
use Rattle.literal_forms.specs.Mirrors.{raw-seen}
use Rattle.literal_forms.specs.Shapes.{Shape, text, seen, raw}
use Rattle.literal_forms.specs.declared.literal.Literal.{Literal}
use Rattle.straight_line.specs.Laws.{IsGood}
use Rattle.flat_cubes.specs.Met.{DraftView, add, add_all, nothing_met, met}
use Rattle.flat_cubes.specs.Said.{said, is_outside, first_outside}
use Rattle.straight_line.proofs.Meetings.{Fits, FitsFrom, Holds}
use Rattle.straight_line.proofs.Texts.{word}
use Rattle.straight_line.proofs.Adding.{Truth, is_added}
use Rattle.straight_line.proofs.Saying.{atom_tells}

module _ (values : Named) (ws : ℕ → Word) (decided : (r : Regex) (w : Word) → IsTrue (matches r w) ↔ In r w) (pairs_decided : (t : Transducer) (v w : Word) → IsTrue (writes t t.start v w) ↔ Pairs t v w) where
  literal_tells : (l : Literal) → IsTrue (is_valued values l.atom) → is_outside (said l) ≡ false → IsFormedSaid (said l) × (IsTrueLiteral values l ↔ Truth values ws (said l))
  literal_tells l v o =
      let q : raw (seen l.atom) ≡ l.atom = raw-seen l.atom in
      let k = atom_tells values ws decided pairs_decided (seen l.atom) l.positive (subst (λ t. IsTrue (is_valued values t)) (sym q) v) o in
      (k.0, (λ h. k.1.0 (ap (val values) q ∙ h), λ h. sym (ap (val values) q) ∙ k.1.1 h))

  -- the same of what was met behind the literals
  pub record AreTold (ls : List Literal) (d e : DraftView) : Type 0 where
    pub earlier : Fits values ws e → Fits values ws d
    pub keeps : Fits values ws e → AreTrueLiterals values ls → Holds values ws d → Holds values ws e
    pub tells : Fits values ws e → Holds values ws e → AreTrueLiterals values ls
    pub back : Holds values ws e → Holds values ws d

  pub all_told : (ls : List Literal) (d : DraftView) → AllByRecursion (IsGood values) ls → first_outside ls ≡ None → AreTold ls d (add_all ls d)
  all_told [] d g o = record { earlier = λ f. f; keeps = λ f t h. h; tells = λ f h. tt; back = λ h. h }
  all_told (l ∷ ls) d g o =
      let i = inside_first (is_outside (said l)) l (first_outside ls) o in
      let t = literal_tells l g.0.valued i.0 in
      let a = is_added values ws (said l) d t.0 in
      let r = all_told ls (add (said l) d) g.1 i.1 in
      record {
        earlier = λ f. a.earlier (r.earlier f);
        keeps = λ f x h. r.keeps f x.1 (a.keeps (r.earlier f) (t.1.0 x.0) h);
        tells = λ f h. (t.1.1 (a.tells (r.earlier f) (r.back h)), r.tells f h);
        back = λ h. a.back (r.back h);
      }

  nothing_holds : Holds values ws nothing_met
  nothing_holds = record { parts = tt; definitions = tt; equalities = tt; comparisons = tt; truths = tt; whole = refl }

  -- the literals are true exactly where all that was met holds
  pub told : (ls : List Literal) → AllByRecursion (IsGood values) ls → first_outside ls ≡ None → Fits values ws (met ls) → AreTrueLiterals values ls ↔ Holds values ws (met ls)
  told ls g o f = let r = all_told ls nothing_met g o in (λ t. r.keeps f t nothing_holds, λ h. r.tells f h)

-- the word of the term at each place
module _ (values : Named) where
  abbrev pub words_at : List Shape → ℕ → Word
  words_at ts i = word values (get_or ts i (text []))

  at_end : (ts : List Shape) (s : Shape) (us : List Shape) → get_or (ts ++ s ∷ us) (length ts) (text []) ≡ s
  at_end [] s us = refl
  at_end (t ∷ ts) s us = at_end ts s us

  pushed : (ts : List Shape) (s : Shape) (us : List Shape) → (ts ++ s ∷ []) ++ us ≡ ts ++ s ∷ us
  pushed [] s us = refl
  pushed (t ∷ ts) s us = ap (λ x. t ∷ x) (pushed ts s us)

  fit_from : (ts us : List Shape) (n : ℕ) → n ≡ length ts → FitsFrom values (words_at (ts ++ us)) n us
  fit_from ts [] n e = tt
  fit_from ts (s ∷ us) n e =
      let m : suc n ≡ length (ts ++ s ∷ []) = ap suc e ∙ sym (length-append ts (s ∷ []) ∙ add-one (length ts)) in
      (ap (words_at (ts ++ s ∷ us)) e ∙ ap (word values) (at_end ts s us), subst (λ x. FitsFrom values (words_at x) (suc n) us) (pushed ts s us) (fit_from (ts ++ s ∷ []) us (suc n) m))

  pub all_fit : (d : DraftView) → Fits values (words_at d.terms) d
  all_fit d = fit_from [] d.terms 0 refl
