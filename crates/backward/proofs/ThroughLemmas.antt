-- A machine carried through a transducer.
use Rattle.std.proofs.Common.{◌≡◌, ℕ, ◌+◌, ◌*◌, Some, None, slice_get, slice_set, sym, ap, ◌∙◌, subst, arith, mul-le-mul_left, inl, inr}
use Rattle.std.proofs.lemmas.Bool.Decides.{eqb_tells}
use Rattle.machine_core.specs.declared.graph.Graph.{Graph}
use Rattle.machine_core.specs.Graphs.{Accepts}
use Rattle.sv_terms.specs.Transduction.{Pairs, WritesWithin}
use Rattle.sv_terms.specs.declared.transducer.Transducer.{Transducer}
use Rattle.pre_image.specs.Slices.{Between}
use Rattle.backward.specs.Families.{Family, HasMachine, IsWithout, without, put, AreWide}
use Rattle.backward.specs.Meetings.{IsCostWithin, IsTrimmed, IsMeeting}
use Rattle.backward.specs.PreBuilt.{IsPreImage}
use Rattle.backward.specs.Carried.{IsCarriedThrough}
use Rattle.backward.proofs.ConfLemmas.{grow-out, grow-in, take-out, take-in, free-put, put-same, set-same, set-other, without-other}
use Rattle.backward.proofs.CarryLemmas.{without-is, first-power}

module _ (width : ℕ) (ms : Family) (wide : AreWide width ms) (x : ℕ) (target : Graph) (there : HasMachine ms x target) (v : ℕ) (ne : v ≡ x → ⊥) (k : Graph) (reader : HasMachine ms v k)
    (t : Transducer) (built : Graph) (pre : IsPreImage t target built) (n : Graph) (met : IsMeeting k built 0 None n) where
  reader-left : HasMachine (without ms x) v k
  reader-left = set-other ms x v None ne ∙ reader

  pub carried-through : (slope base : ℕ) → WritesWithin t (λ n. slope * n + base)
      → IsCarriedThrough (Pairs t) t.states slope base width ms x target v (slice_set (without ms x) v (Some n))
  carried-through slope base writes = record {
    conf = λ words totals. (
      λ c.
          let g = grow-out width k n (Between built 0 None) met.language (without ms x) v reader-left words totals c in
          let p = (pre.language (words v) g.0).0 g.2 in (
            p.0,
            p.1,
            take-in width target ms x there (put words x p.0) totals
                (g.0, g.1, subst (λ l. Accepts target l g.0) (sym (put-same words x p.0)) p.2, (free-put width ms x words p.0 g.1).0 g.3, g.4),
          ),
      λ c.
          let g = take-out width target ms x there (put words x c.0) totals c.2 in
          let run = subst (λ l. Accepts target l g.0) (put-same words x c.0) g.2 in
          grow-in width k n (Between built 0 None) met.language (without ms x) v reader-left words totals
          (g.0, g.1, (pre.language (words v) g.0).1 (c.0, c.1, run), (free-put width ms x words c.0 g.1).1 g.3, g.4),
    );
    shape = shape;
    same = λ u m g out e f.
        let a = set-other (without ms x) v u (Some n) out in
        let inside = sym a ∙ f in
        same u m g e inside;
    registers = λ m g e f. let g' = now g f in let m' = was m e in ap (λ (h : Graph). h.registers) (sym g') ∙ met.grown.registers ∙ ap (λ (h : Graph). h.registers) m';
    bounded = λ m g e f.
        let g' = ap (λ (h : Graph). h.states) (now g f) in
        let m' = ap (λ (h : Graph). h.states) (was m e) in
        let s = met.grown.states in
        let b = mul-le-mul_left k.states pre.states in
        let one = first-power built.states in
        let power = ap (λ i. k.states * i) one in
        let last = ap (λ i. i * (t.states * target.states)) m' in
        omega arith;
    within = λ m g e f register a b c d w u.
        let r = met.grown.within register a b (c * slope) (c * base + d) (subst (λ h. IsCostWithin h register a b) (sym (was m e)) w) (pre.within slope base register c d writes u) in
        subst (λ h. IsCostWithin h register (a + c * slope) (b + (c * base + d))) (now g f)
        (subst (λ i. IsCostWithin n register i (b + (c * base + d))) (one-more a (c * slope)) (subst (IsCostWithin n register (a + 1 * (c * slope))) (one-more b (c * base + d)) r));
    trimmed = λ g f. subst IsTrimmed (now g f) met.trimmed;
  }
    where
      one-more : (i j : ℕ) → i + 1 * j ≡ i + j
      one-more i j = omega arith

      now : (g : Graph) → HasMachine (slice_set (without ms x) v (Some n)) v g → n ≡ g
      now g f = let s = set-same (without ms x) v (Some k) (Some n) reader-left in cc

      was : (m : Graph) → HasMachine ms v m → k ≡ m
      was m e = let r = reader in cc

      same : (u : ℕ) (m g : Graph) → HasMachine ms u m → HasMachine (without ms x) u g → g ≡ m
      same u m g e f = elim (eqb_tells u x) [
        | inl is ↦
            let gone = set-same ms x (Some target) None there in
            let at = ap (slice_get (without ms x)) is.1 in
            cc
        | inr out ↦ let a = set-other ms x u None out.1 in cc
      ]

      base-shape : IsWithout ms x (without ms x)
      base-shape = without-is width ms wide x target there

      shape : IsWithout ms x (slice_set (without ms x) v (Some n))
      shape = record {
        carried = set-other (without ms x) v x (Some n) (λ e. ne (sym e)) ∙ base-shape.carried;
        others = λ u out e. set-other (without ms x) v u (Some n) (λ is. (let r = reader in let at = ap (slice_get ms) is in cc)) ∙ base-shape.others u out e;
        kept = λ u m out e. kept u m out e;
        past = λ u e. set-other (without ms x) v u (Some n) (λ is. (let r = reader in let at = ap (slice_get ms) is in cc)) ∙ base-shape.past u e;
      }
        where
          kept : (u : ℕ) (m : Graph) → (u ≡ x → ⊥) → HasMachine ms u m → (g : Graph) × HasMachine (slice_set (without ms x) v (Some n)) u g
          kept u m ne' e = elim (eqb_tells u v) [
            | inl is ↦ (n, subst (λ j. HasMachine (slice_set (without ms x) v (Some n)) j n) (sym is.1) (set-same (without ms x) v (Some k) (Some n) reader-left))
            | inr out ↦ (m, set-other (without ms x) v u (Some n) out.1 ∙ set-other ms x u None ne' ∙ e)
          ]

-- what came of a family has its width
pub through-wide : (width : ℕ) (ms : Family) → AreWide width ms → (x v : ℕ) → (v ≡ x → ⊥) → (k : Graph) → HasMachine ms v k → (built n : Graph) → IsMeeting k built 0 None n
    → AreWide width (slice_set (without ms x) v (Some n))
through-wide width ms wide x v ne k reader built n met u m h = elim (eqb_tells u v) [
  | inl is ↦
      let here = set-same (without ms x) v (Some k) (Some n) (set-other ms x v None ne ∙ reader) in
      let there = subst (λ j. HasMachine (slice_set (without ms x) v (Some n)) j m) is.1 h in
      let same : n ≡ m = cc in
      ap (λ (g : Graph). g.registers) (sym same) ∙ met.grown.registers ∙ wide v k reader
  | inr off ↦
      let left = sym (set-other (without ms x) v u (Some n) off.1) ∙ h in
      wide u m (sym (set-other ms x u None (without-other ms x u m left)) ∙ left)
]
