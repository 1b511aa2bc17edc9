-- A sound term with nested concatenations written as one is sound.
use Rattle.std.proofs.Common.{◌≡◌, refl, sym, ◌∙◌, true, ◌&&◌, IsTrue, map}
use Rattle.std.specs.List.{list_all}
use Rattle.std.proofs.lemmas.Bool.{false≢true, and_parts}
use Rattle.sv_terms.specs.declared.op.Op.{Op}
use Rattle.sv_terms.specs.declared.op.Op.TheVariants as op
use Rattle.sv_terms.specs.Meaning.{Named}
use Rattle.sv_terms.specs.Sorting.{is_valued}
use Rattle.sv_terms.specs.SortingLaws.{valued-apply}
use Rattle.literal_forms.specs.Shapes.{Shape, Shapes, text, constant, apply, end, ◌⨾◌, raw, raws}
use Rattle.literal_forms.specs.Linear.{are_strings, written, pieces, before, set_before as spliced}
use Rattle.straight_line.specs.Laws.{AreSpelled}
use Rattle.cube_draft.proofs.Strings.{concat_before}
use Rattle.straight_line.proofs.Parted.{AllOf, IsSound, sound_passes}

module _ (values : Named) where
  abbrev Sound : Shape → Type 0
  Sound s = IsSound values s

  abbrev Valued : Shapes → Type 0
  Valued ss = IsTrue (list_all (λ b. b) (map (is_valued values) (raws ss)))

  strings_of : (ss : Shapes) → AllOf Sound ss → are_strings ss ≡ true
  strings_of end a = refl
  strings_of (s ⨾ ss) a = (λ i. a.0.0 i && are_strings ss) ∙ strings_of ss a.1

  valued_of : (ss : Shapes) → AllOf Sound ss → Valued ss
  valued_of end a = refl
  valued_of (s ⨾ ss) a = (λ i. a.0.1.0 i && list_all (λ b. b) (map (is_valued values) (raws ss))) ∙ valued_of ss a.1

  spelled_of : (ss : Shapes) → AllOf Sound ss → AreSpelled ss
  spelled_of end a = tt
  spelled_of (s ⨾ ss) a = (a.0.1.1, spelled_of ss a.1)

  sounds_spliced : (ss ts : Shapes) → AllOf Sound ss → AllOf Sound ts → AllOf Sound (spliced ss ts)
  sounds_spliced end ts a b = b
  sounds_spliced (s ⨾ ss) ts a b = (a.0, sounds_spliced ss ts a.1 b)

  sound_before : (s : Shape) (ts : Shapes) → Sound s → AllOf Sound ts → AllOf Sound (before s ts)
  sound_before (text w) ts q a = (q, a)
  sound_before (constant n s) ts q a = (q, a)
  sound_before (apply op.Concat ss) ts q a = sounds_spliced ss ts ((sound_passes values).concat ss q) a
  sound_before (apply op.Replace ss) ts q a = (q, a)
  sound_before (apply op.ReplaceAll ss) ts q a = (q, a)
  sound_before _ ts q a = absurd (false≢true q.0)

  sound_concat : (s : Shape) (ts : Shapes) → Sound s → AllOf Sound ts → Sound (apply op.Concat (before s ts))
  sound_concat s ts q a =
      let b = sound_before s ts q a in
      (concat_before s ts q.0 (strings_of ts a), (valued-apply values op.Concat (raws (before s ts)) ∙ valued_of (before s ts) b, spelled_of (before s ts) b))

  -- another term in the place of the first argument
  valued_other : (o : Op) (s t : Shape) (ss : Shapes) → IsTrue (is_valued values (raw (apply o (s ⨾ ss)))) → IsTrue (is_valued values (raw t)) → IsTrue (is_valued values (raw (apply o (t ⨾ ss))))
  valued_other o s t ss h k =
      let a = and_parts (is_valued values (raw s)) (list_all (λ c. c) (map (is_valued values) (raws ss))) (sym (valued-apply values o (raws (s ⨾ ss))) ∙ h) in
      valued-apply values o (raws (t ⨾ ss)) ∙ (λ i. k i && list_all (λ c. c) (map (is_valued values) (raws ss))) ∙ a.1

  mutual
    pub sound_written : (s : Shape) → Sound s → Sound (written s)
    sound_written (text w) q = q
    sound_written (constant n s) q = q
    sound_written (apply op.Concat (s ⨾ ss)) q =
        let a = (sound_passes values).concat (s ⨾ ss) q in
        sound_concat (written s) (pieces ss) (sound_written s a.0) (sounds_written ss a.1)
    sound_written (apply op.Replace (s ⨾ text p ⨾ text u ⨾ end)) q =
        let a = sound_written s ((sound_passes values).first s p u q) in
        (a.0, (valued_other op.Replace s (written s) (text p ⨾ text u ⨾ end) q.1.0 a.1.0, (a.1.1, q.1.1.1)))
    sound_written (apply op.ReplaceAll (s ⨾ text p ⨾ text u ⨾ end)) q =
        let a = sound_written s ((sound_passes values).all s p u q) in
        (a.0, (valued_other op.ReplaceAll s (written s) (text p ⨾ text u ⨾ end) q.1.0 a.1.0, (a.1.1, q.1.1.1)))
    sound_written _ q = absurd (false≢true q.0)

    sounds_written : (ss : Shapes) → AllOf Sound ss → AllOf Sound (pieces ss)
    sounds_written end a = tt
    sounds_written (s ⨾ ss) a = sound_before (written s) (pieces ss) (sound_written s a.0) (sounds_written ss a.1)
