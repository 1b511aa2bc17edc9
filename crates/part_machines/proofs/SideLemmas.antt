-- Parts by their sides.
use Rattle.std.proofs.Common.{◌≡◌, ℕ, zero, suc, ◌+◌, ◌*◌, ◌^◌, ◌<◌, ◌≤◌, ◌↔◌, inl, inr, ⊎_elim, Bool, true, false, List, [], ◌∷◌, ◌++◌, length, get_or, take, map, sym, ap, ◌∙◌, subst, arith, mul-le-mul}
use Rattle.std.specs.List.{AllByRecursion}
use Rattle.std.proofs.Math.Nat.{mul_assoc, mul_comm}
use Rattle.std.proofs.lemmas.List.{take_more, take_all}
use Rattle.std.proofs.lemmas.Nat.{pow_pos}
use Rattle.sv_word.specs.Words.{IsWord}
use Rattle.sv_terms.specs.Bounds.{fold_left, from_left, without_size}
use Rattle.sv_terms.specs.CutOff.{power-more}
use Rattle.sv_terms.specs.Language.{Word, InAllOf, InFirstOnly, InOneOf}
use Rattle.sv_terms.specs.declared.regex.Regex.{Regex}
use Rattle.machine_core.specs.declared.graph.Graph.{Graph}
use Rattle.machine_meet.specs.Products.{multiplied}
use Rattle.regex_machine.specs.Joined.{HaveNoRegisters, HasWords, WordsOf}
use Rattle.regex_machine.specs.Kinds.{states_of}
use Rattle.cube_bounds.specs.Bounds.{part_bound, product_by}
use Rattle.flat_cubes.specs.Satisfying.{MeetsPart}
use Rattle.flat_cubes.specs.declared.variable.Own.{Own}
use Rattle.flat_cubes.specs.declared.variable.Own.TheVariants.{InRe}
use Rattle.part_machines.specs.Kept.{IsMachineOf}
use Rattle.part_machines.specs.Parts.{AreOfParts, IsOfPart, ReadsParts}
use Rattle.part_machines.specs.Sides.{MeetsNone, sets_bound, AreSides, AddsSide}
use Rattle.part_machines.proofs.PartLemmas.{of-push, of-states, of-words}

abbrev Part : Type 0
Part = Own × Bool

-- lists with one part more
all-push : (w : Word) (parts : List Part) (part : Part) → AllByRecursion (MeetsPart w) (parts ++ part ∷ []) ↔ (AllByRecursion (MeetsPart w) parts × MeetsPart w part)
all-push w [] part = (λ h. (tt, h.0), λ h. (h.1, tt))
all-push w (p ∷ parts) part =
    let rest = all-push w parts part in
    (λ h. let r = rest.0 h.1 in ((h.0, r.0), r.1), λ h. (h.0.0, rest.1 (h.0.1, h.1)))

none-push : (w : Word) (parts : List Part) (part : Part) → MeetsNone w (parts ++ part ∷ []) ↔ (MeetsNone w parts × (MeetsPart w part → ⊥))
none-push w [] part = (λ h. (tt, h.0), λ h. (h.1, tt))
none-push w (p ∷ parts) part =
    let rest = none-push w parts part in
    (λ h. let r = rest.0 h.1 in ((h.0, r.0), r.1), λ h. (h.0.0, rest.1 (h.0.1, h.1)))

product-push : (f : Part → ℕ) (parts : List Part) (part : Part) → product_by f (parts ++ part ∷ []) ≡ product_by f parts * f part
product-push f [] part = omega arith
product-push f (p ∷ parts) part = ap (λ n. f p * n) (product-push f parts part) ∙ sym (mul_assoc (f p) (product_by f parts) (f part))

pub no-sides : AreSides [] [] []
no-sides = record {
  met = [];
  barred = [];
  of_met = tt;
  of_barred = tt;
  words = λ w is. (λ h. (tt, tt), λ h. tt);
  few = omega arith;
}

module _ (parts : List Part) (within outside : List Graph) (sides : AreSides parts within outside) where
  add-met : (part : Part) (m : Graph) → IsOfPart part m → AreSides (parts ++ part ∷ []) (within ++ m ∷ []) outside
  add-met part m is = record {
    met = sides.met ++ part ∷ [];
    barred = sides.barred;
    of_met = of-push sides.met within part m sides.of_met is;
    of_barred = sides.of_barred;
    words = λ w word.
        let all = all-push w parts part in
        let mets = all-push w sides.met part in
        let old = sides.words w word in (
          λ h. let a = all.0 h in let b = old.0 a.0 in (mets.1 (b.0, a.1), b.1),
          λ h. let a = mets.0 h.0 in all.1 (old.1 (a.0, h.1), a.1),
        );
    few =
        (let p = product-push part_bound sides.met part in
        let q = product-push part_bound parts part in
        let same : part_bound part ≤ part_bound part = omega arith in
        let le : product_by part_bound sides.met * product_by sets_bound sides.barred * part_bound part ≤ product_by part_bound parts * part_bound part = mul-le-mul sides.few same in
        let turn : product_by part_bound sides.met * part_bound part * product_by sets_bound sides.barred ≡ product_by part_bound sides.met * product_by sets_bound sides.barred * part_bound part =
        mul_assoc (product_by part_bound sides.met) (part_bound part) (product_by sets_bound sides.barred) ∙ ap (λ n. product_by part_bound sides.met * n) (mul_comm (part_bound part) (product_by sets_bound sides.barred))
        ∙ sym (mul_assoc (product_by part_bound sides.met) (product_by sets_bound sides.barred) (part_bound part)) in
        let left : product_by part_bound (sides.met ++ part ∷ []) * product_by sets_bound sides.barred ≡ product_by part_bound sides.met * part_bound part * product_by sets_bound sides.barred = ap (λ n. n * product_by sets_bound sides.barred) p in
        omega arith);
  }

  add-barred : (r : Regex) (m : Graph) → IsMachineOf r m → AreSides (parts ++ (InRe r, false) ∷ []) within (outside ++ m ∷ [])
  add-barred r m is = record {
    met = sides.met;
    barred = sides.barred ++ (InRe r, true) ∷ [];
    of_met = sides.of_met;
    of_barred = of-push sides.barred outside (InRe r, true) m sides.of_barred is;
    words = λ w word.
        let all = all-push w parts (InRe r, false) in
        let none = none-push w sides.barred (InRe r, true) in
        let old = sides.words w word in (
          λ h. let a = all.0 h in let b = old.0 a.0 in (b.0, none.1 (b.1, a.1)),
          λ h. let a = none.0 h.1 in all.1 (old.1 (h.0, a.0), a.1),
        );
    few =
        (let p = product-push sets_bound sides.barred (InRe r, true) in
        let q = product-push part_bound parts (InRe r, false) in
        let same : sets_bound (InRe r, true) ≤ part_bound (InRe r, false) = omega arith in
        let le : product_by part_bound sides.met * product_by sets_bound sides.barred * sets_bound (InRe r, true) ≤ product_by part_bound parts * part_bound (InRe r, false) = mul-le-mul sides.few same in
        let turn : product_by part_bound sides.met * (product_by sets_bound sides.barred * sets_bound (InRe r, true)) ≡ product_by part_bound sides.met * product_by sets_bound sides.barred * sets_bound (InRe r, true) =
        sym (mul_assoc (product_by part_bound sides.met) (product_by sets_bound sides.barred) (sets_bound (InRe r, true))) in
        let left : product_by part_bound sides.met * product_by sets_bound (sides.barred ++ (InRe r, true) ∷ []) ≡ product_by part_bound sides.met * (product_by sets_bound sides.barred * sets_bound (InRe r, true)) =
        ap (λ n. product_by part_bound sides.met * n) p in
        omega arith);
  }

  pub side-added : (part : Part) (more_within more_outside : List Graph) → AddsSide part within more_within outside more_outside → AreSides (parts ++ part ∷ []) more_within more_outside
  side-added part more_within more_outside (inl h) = subst (λ ms. AreSides (parts ++ part ∷ []) ms more_outside) (sym h.2) (subst (AreSides (parts ++ part ∷ []) (within ++ h.0 ∷ [])) (sym h.3) (add-met part h.0 h.1))
  side-added part more_within more_outside (inr h) =
      subst (λ p. AreSides (parts ++ p ∷ []) more_within more_outside) (sym h.2)
      (subst (λ ms. AreSides (parts ++ (InRe h.0, false) ∷ []) ms more_outside) (sym h.4) (subst (AreSides (parts ++ (InRe h.0, false) ∷ []) within) (sym h.5) (add-barred h.0 h.1 h.3)))

pub side-more : (parts : List Part) (i : ℕ) (part : Part) (within more_within outside more_outside : List Graph) → i < length parts → part ≡ get_or parts i part
    → AreSides (take i parts) within outside → AddsSide part within more_within outside more_outside → AreSides (take (i + 1) parts) more_within more_outside
side-more parts i part within more_within outside more_outside lt is sides added =
    let grown : take (i + 1) parts ≡ take i parts ++ part ∷ [] = take_more parts i part lt ∙ ap (λ p. take i parts ++ p ∷ []) (sym is) in
    subst (λ l. AreSides l more_within more_outside) (sym grown) (side-added (take i parts) within outside sides part more_within more_outside added)

pub side-every : (parts : List Part) (i : ℕ) (within outside : List Graph) → length parts ≤ i → AreSides (take i parts) within outside → AreSides parts within outside
side-every parts i within outside past sides = subst (λ l. AreSides l within outside) (take_all i parts past) sides

-- bounds of the machines that are met
sets-some : (parts : List Part) → 1 ≤ product_by sets_bound parts
sets-some [] = omega arith
sets-some (part ∷ parts) =
    let here = pow_pos (part_bound part) in
    let rest = sets-some parts in
    let one : 1 ≤ sets_bound part = omega (arith, here) in
    let h : 1 * 1 ≤ sets_bound part * product_by sets_bound parts = mul-le-mul one rest in
    omega (arith, h)

pub met-below : (parts : List Part) (within outside : List Graph) → AreSides parts within outside → multiplied states_of within ≤ product_by part_bound parts
met-below parts within outside sides =
    let low = of-states sides.met within sides.of_met in
    let some = sets-some sides.barred in
    let more : multiplied states_of within * 1 ≤ product_by part_bound sides.met * product_by sets_bound sides.barred = mul-le-mul low some in
    let le = sides.few in
    omega (arith, more, le)

-- what no machine of some parts reads
none-read : (parts : List Part) (ms : List Graph) → AreOfParts parts ms → (w : Word) → IsWord w → (InOneOf WordsOf ms w → ⊥) ↔ MeetsNone w parts
none-read [] [] h w word = (λ n. tt, λ n o. o)
none-read [] (m ∷ ms) h w word = absurd h
none-read (part ∷ parts) [] h w word = absurd h
none-read (part ∷ parts) (m ∷ ms) h w word =
    let here = h.0.reads.words w in
    let rest = none-read parts ms h.1 w word in (
      λ n. (λ meets. n (inl (here.1 (word, meets))), rest.0 (λ o. n (inr o))),
      λ n o. ⊎_elim (λ reads. n.0 (here.0 reads).1) (λ other. rest.1 n.1 other) o,
    )

sets-few : (parts : List Part) (ms : List Graph) (n most : ℕ) → AreOfParts parts ms → n ≤ most → fold_left without_size n (map states_of ms) ≤ most * product_by sets_bound parts
sets-few [] [] n most h le = omega arith
sets-few [] (m ∷ ms) n most h le = absurd h
sets-few (part ∷ parts) [] n most h le = absurd h
sets-few (part ∷ parts) (m ∷ ms) n most h le =
    let power = power-more m.states (part_bound part) h.0.few in
    let more : n * 2 ^ m.states ≤ most * sets_bound part = mul-le-mul le power in
    let rest = sets-few parts ms (n * 2 ^ m.states) (most * sets_bound part) h.1 more in
    let turn = mul_assoc most (sets_bound part) (product_by sets_bound parts) in
    omega arith

module _ (parts : List Part) (within outside : List Graph) (met : Graph) (sides : AreSides parts within outside) (reads : HasWords (InAllOf WordsOf within) met) (few : met.states ≤ multiplied states_of within) where
  pub sides-few : from_left without_size (map states_of (met ∷ outside)) ≤ product_by part_bound parts
  sides-few =
      let low = of-states sides.met within sides.of_met in
      let h = sets-few sides.barred outside met.states (product_by part_bound sides.met) sides.of_barred (omega arith) in
      let le = sides.few in
      omega arith

  pub sides-read : (m : Graph) → HasWords (InFirstOnly WordsOf (met ∷ outside)) m → m.states ≤ from_left without_size (map states_of (met ∷ outside)) → ReadsParts parts m
  sides-read m read low = record {
    reads = record {
      plain = read.plain;
      words = λ w.
          let all = of-words sides.met within sides.of_met w in (
            λ r.
                let first = (read.words w).0 r in
                let a = all.0 ((reads.words w).0 first.0) in
                let none = (none-read sides.barred outside sides.of_barred w a.0).0 first.1 in
                (a.0, (sides.words w a.0).1 (a.1, none)),
            λ a.
                let b = (sides.words w a.0).0 a.1 in
                (read.words w).1 ((reads.words w).1 (all.1 (a.0, b.0)), (none-read sides.barred outside sides.of_barred w a.0).1 b.1),
          );
    };
    few = (let h = sides-few in omega arith);
  }

-- where no word is barred
pub sides-met : (parts : List Part) (within outside : List Graph) (met : Graph) → AreSides parts within outside → outside ≡ [] → HasWords (InAllOf WordsOf within) met → met.states ≤ multiplied states_of within → ReadsParts parts met
sides-met parts within outside met sides none reads few =
    sides-read parts within outside met sides reads few met
    (subst (λ ms. HasWords (InFirstOnly WordsOf (met ∷ ms)) met) (sym none) (record { plain = reads.plain; words = λ w. (λ r. (r, λ o. o), λ h. h.0) }))
    (subst (λ ms. met.states ≤ from_left without_size (map states_of (met ∷ ms))) (sym none) (omega arith))

-- a list of machines without registers
pub plain-more : (m : Graph) (ms all : List Graph) → all ≡ m ∷ ms → m.registers ≡ 0 → HaveNoRegisters ms → HaveNoRegisters all
plain-more m ms all e plain others = subst HaveNoRegisters (sym e) each
  where
    each : HaveNoRegisters (m ∷ ms)
    each x (zero, lt, same) = subst (λ (g : Graph). g.registers ≡ 0) same plain
    each x (suc n, lt, same) = others x (n, omega (arith, lt), same)
