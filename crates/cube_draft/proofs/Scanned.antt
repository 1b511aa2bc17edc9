-- The literals of a cube are gathered one after another.
use Rattle.std.proofs.Common.{◌≡◌, refl, sym, ap, ◌∙◌, subst, true, ℕ, zero, suc, ◌+◌, ◌<◌, ◌≤◌, List, [], ◌∷◌, ◌++◌, length, take, get_or, Some, None, arith}
use Rattle.std.specs.Prelude.{if◌then◌else◌}
use Rattle.std.specs.List.{AllByRecursion}
use Rattle.std.proofs.lemmas.List.{take_more}
use Rattle.literal_forms.specs.Past.{IsFitting}
use Rattle.literal_forms.specs.declared.literal.Literal.{Literal}
use Rattle.cube_draft.specs.Comparing.{IsGathered}
use Rattle.cube_draft.specs.Gathered.{Gathers, IsLiteralAdded}
use Rattle.flat_cubes.specs.Met.{DraftView, add, add_all, met, nothing_met}
use Rattle.flat_cubes.specs.Said.{first_outside, is_outside, said}
use Rattle.cube_draft.specs.declared.literals.LiteralReading.{LiteralReading}
use Rattle.cube_draft.specs.declared.literals.LiteralReading.TheVariants as kind
use Rattle.cube_draft.specs.declared.meeting.DraftBuilder.{DraftBuilder}
use Rattle.cube_draft.proofs.Proper.{inside_first}

added_push : (ls : List Literal) (l : Literal) (d : DraftView) → add_all (ls ++ l ∷ []) d ≡ add (said l) (add_all ls d)
added_push [] l d = refl
added_push (k ∷ ls) l d = added_push ls l (add (said k) d)

outside_push : (ls : List Literal) (l : Literal) → first_outside ls ≡ None → first_outside (ls ++ l ∷ []) ≡ (if is_outside (said l) then Some l else None)
outside_push [] l o = refl
outside_push (k ∷ ls) l o =
    let h = inside_first (is_outside (said k)) k (first_outside ls) o in
    ap (λ b. if b then Some k else first_outside (ls ++ l ∷ [])) h.0 ∙ outside_push ls l h.1

pub record IsScanned (ls : List Literal) (m : DraftBuilder) (i : ℕ) : Type 0 where
  pub gathers : Gathers m (met (take i ls))
  pub inside : first_outside (take i ls) ≡ None

pub scanned_first : (ls : List Literal) (m : DraftBuilder) → Gathers m nothing_met → IsScanned ls m 0
scanned_first ls m g = record { gathers = g; inside = refl }

pub scanned_gathered : (ls : List Literal) (m : DraftBuilder) (i : ℕ) → IsScanned ls m i → IsGathered m
scanned_gathered ls m i s = record { draft = met (take i ls); gathers = s.gathers }

pub fitting_at : (ls : List Literal) (i : ℕ) (l : Literal) → AllByRecursion IsFitting ls → i < length ls → l ≡ get_or ls i l → IsFitting l
fitting_at [] i l a h e = absurd (omega arith)
fitting_at (x ∷ ls) zero l a h e = subst IsFitting (sym e) a.0
fitting_at (x ∷ ls) (suc i) l a h e = fitting_at ls i l a.1 (omega arith) e

more : (ls : List Literal) (i : ℕ) (l : Literal) → i < length ls → l ≡ get_or ls i l → take (i + 1) ls ≡ take i ls ++ l ∷ []
more ls i l h e = take_more ls i l h ∙ ap (λ x. take i ls ++ x ∷ []) (sym e)

pub scanned_step : (ls : List Literal) (m n : DraftBuilder) (i : ℕ) (l : Literal) (k : LiteralReading) → i < length ls → l ≡ get_or ls i l → IsScanned ls m i → IsLiteralAdded m n (said l) k → k ≡ kind.Written → IsScanned ls n (i + 1)
scanned_step ls m n i l k h e s a w =
    let b = (subst (IsLiteralAdded m n (said l)) w a).each (met (take i ls)) s.gathers in
    record {
      gathers = subst (Gathers n) (sym (ap met (more ls i l h e) ∙ added_push (take i ls) l nothing_met)) b.1;
      inside = ap first_outside (more ls i l h e) ∙ outside_push (take i ls) l s.inside ∙ ap (λ c. if c then Some l else None) b.0;
    }

outside_at : (ls : List Literal) (i : ℕ) (l : Literal) → i < length ls → l ≡ get_or ls i l → first_outside (take i ls) ≡ None → is_outside (said l) ≡ true → first_outside ls ≡ Some l
outside_at [] i l h e o q = absurd (omega arith)
outside_at (x ∷ ls) zero l h e o q = subst (λ y. first_outside (y ∷ ls) ≡ Some l) e (ap (λ b. if b then Some l else first_outside ls) q)
outside_at (x ∷ ls) (suc i) l h e o q =
    let p = inside_first (is_outside (said x)) x (first_outside (take i ls)) o in
    ap (λ b. if b then Some x else first_outside ls) p.0 ∙ outside_at ls i l (omega arith) e p.1 q

pub scanned_outside : (ls : List Literal) (m n : DraftBuilder) (i : ℕ) (l c : Literal) (k : LiteralReading) → i < length ls → l ≡ get_or ls i l → IsScanned ls m i → IsLiteralAdded m n (said l) k → k ≡ kind.Outside → c ≡ l → first_outside ls ≡ Some c
scanned_outside ls m n i l c k h e s a w q = outside_at ls i l h e s.inside ((subst (IsLiteralAdded m n (said l)) w a).each (met (take i ls)) s.gathers) ∙ ap Some (sym q)

pub scanned_all : (ls : List Literal) (m : DraftBuilder) (i : ℕ) → length ls ≤ i → IsScanned ls m i → (first_outside ls ≡ None) × Gathers m (met ls)
scanned_all ls m i h s = let e = take_whole ls i h in (ap first_outside (sym e) ∙ s.inside, subst (λ us. Gathers m (met us)) e s.gathers)
  where
    take_whole : {X : Type 0} (xs : List X) (j : ℕ) → length xs ≤ j → take j xs ≡ xs
    take_whole [] zero h = refl
    take_whole [] (suc j) h = refl
    take_whole (x ∷ xs) zero h = absurd (omega arith)
    take_whole (x ∷ xs) (suc j) h = ap (λ ys. x ∷ ys) (take_whole xs j (omega arith))
