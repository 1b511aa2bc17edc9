-- What the parts say of a word, by tests; and the machines of parts together.
use Rattle.std.proofs.Common.{◌≡◌, ℕ, zero, suc, ◌+◌, ◌*◌, ◌<◌, ◌≤◌, ◌↔◌, Bool, true, false, ◌&&◌, nat_eq, if◌then◌else◌, List, [], ◌∷◌, ◌++◌, length, get_or, refl, sym, ap, ◌∙◌, subst, arith, mul-le-mul}
use Rattle.std.specs.Prelude.{Result, Ok, Err, IfOk}
use Rattle.std.specs.List.{AllByRecursion}
use Rattle.std.proofs.lemmas.Bool.{eqb-true, eq-eqb, and_parts, false_from_ne_true}
use Rattle.std.proofs.lemmas.Bool.Decides.{nat_tests}
use Rattle.std.proofs.lemmas.Result.{IfOk-weaker}
use Rattle.sv_list.specs.Bools.{and-true, and-false}
use Rattle.sv_word.specs.Ranges.{in_pair}
use Rattle.sv_word.specs.Words.{IsWord}
use Rattle.sv_terms.specs.Language.{Word, In, InAllOf}
use Rattle.sv_terms.specs.Meaning.{is_digit}
use Rattle.sv_terms.specs.Replacement.{begins}
use Rattle.sv_terms.specs.Bounds.{size}
use Rattle.sv_terms.specs.BoundLaws.{size-some, size-Comp}
use Rattle.sv_terms.specs.Opened.{In-Comp}
use Rattle.sv_terms.specs.declared.regex.Regex.TheVariants as v
use Rattle.sv_terms.specs.CutOff.{below-power, power-more}
use Rattle.sv_terms.specs.declared.regex.Regex.{Regex}
use Rattle.machine_core.specs.declared.graph.Graph.{Graph}
use Rattle.machine_meet.specs.Products.{multiplied}
use Rattle.regex_machine.specs.Joined.{HaveNoRegisters, HasWords, WordsOf}
use Rattle.regex_machine.specs.Built.{Builds}
use Rattle.regex_machine.specs.Kinds.{states_of}
use Rattle.trim_search.specs.declared.build_fault.BuildFault.{BuildFault}
use Rattle.trim_search.specs.declared.build_fault.BuildFault.TheVariants.{States}
use Rattle.cube_bounds.specs.Bounds.{part_bound, product_by}
use Rattle.flat_cubes.specs.Satisfying.{MeetsPart, Says}
use Rattle.flat_cubes.specs.declared.variable.Own.{Own}
use Rattle.flat_cubes.specs.declared.variable.Own.TheVariants as own
use Rattle.part_machines.specs.Chains.{follows, ranges_of}
use Rattle.part_machines.specs.Patterns.{finds}
use Rattle.part_machines.specs.Parts.{AreOfParts, Decides, IsOfPart, ReadsParts}
use Rattle.part_machines.specs.Sides.{ReadsOthers}

-- the tests
within-one : (a c : ℕ) → in_pair (a, a) c ≡ nat_eq a c
within-one a c = by (nat_eq a c) refl
  where
    by : (b : Bool) → nat_eq a c ≡ b → in_pair (a, a) c ≡ nat_eq a c
    by true e =
        let h : a ≡ c = eqb-true a c e in
        let t : in_pair (a, a) c ≡ true = grind (arith, nat_tests) in
        t ∙ sym e
    by false e = false_from_ne_true (in_pair (a, a) c) (λ t.
        let low : a ≤ c = grind (arith, nat_tests) in
        let high : c ≤ a = grind (arith, nat_tests) in
        let f = eq-eqb a c (omega (arith, low, high)) in cc) ∙ sym e

follows-prefix : (p w : Word) → follows true (ranges_of p) w ≡ begins p w
follows-prefix [] [] = refl
follows-prefix [] (c ∷ w) = refl
follows-prefix (a ∷ p) [] = refl
follows-prefix (a ∷ p) (c ∷ w) = ap (λ b. b && follows true (ranges_of p) w) (within-one a c) ∙ ap (λ b. nat_eq a c && b) (follows-prefix p w)

-- one character more
follows-next : (a c : ℕ) (u w : Word) → (follows false (ranges_of u) w ≡ true) ↔ (w ≡ u) → (follows false (ranges_of (a ∷ u)) (c ∷ w) ≡ true) ↔ ((c ∷ w) ≡ a ∷ u)
follows-next a c u w rest = (
  λ e.
      let b = and_parts (in_pair (a, a) c) (follows false (ranges_of u) w) e in
      let f : a ≡ c = eqb-true a c (sym (within-one a c) ∙ b.0) in
      let g = rest.0 b.1 in
      cc,
  λ e.
      let f : a ≡ c = cc in
      let g : w ≡ u = cc in
      ap (λ b. b && follows false (ranges_of u) w) (within-one a c ∙ eq-eqb a c f) ∙ rest.1 g,
)

follows-word : (u w : Word) → (follows false (ranges_of u) w ≡ true) ↔ (w ≡ u)
follows-word [] [] = (λ e. refl, λ e. refl)
follows-word [] (c ∷ w) = (λ e. cc, λ e. cc)
follows-word (a ∷ u) [] = (λ e. cc, λ e. cc)
follows-word (a ∷ u) (c ∷ w) = follows-next a c u w (follows-word u w)

follows-digit : (w : Word) → follows false ((48, 57) ∷ []) w ≡ is_digit w
follows-digit [] = refl
follows-digit (c ∷ []) = and-true (in_pair (48, 57) c)
follows-digit (c ∷ d ∷ w) = and-false (in_pair (48, 57) c)

-- a machine that decides what the part says is one of the part
pub part-decides : (o : Own) (b : Bool) (test : Word → Bool) (most : ℕ) (m : Graph) → ((w : Word) → (test w ≡ true) ↔ Says o w) → most ≤ part_bound (o, b) → Decides test b most m → IsOfPart (o, b) m
part-decides o true test most m tells fits d = record {
  reads = record {
    plain = d.reads.plain;
    words = λ w. (
      λ r. let h = (d.reads.words w).0 r in (h.0, (tells w).0 h.1),
      λ h. (d.reads.words w).1 (h.0, (tells w).1 h.1),
    );
  };
  few = (let x = d.few in omega (arith, x, fits));
}
part-decides o false test most m tells fits d = record {
  reads = record {
    plain = d.reads.plain;
    words = λ w. (
      λ r. let h = (d.reads.words w).0 r in (h.0, λ s. let t = (tells w).1 s in let f = h.1 in cc),
      λ h. (d.reads.words w).1 (h.0, false_from_ne_true (test w) (λ t. h.1 ((tells w).0 t))),
    );
  };
  few = (let x = d.few in omega (arith, x, fits));
}

same-true : (a b : Bool) → a ≡ b → (a ≡ true) ↔ (b ≡ true)
same-true a b e = (λ h. sym e ∙ h, λ h. e ∙ h)

ranges-size : (u : Word) → length (ranges_of u) ≡ length u
ranges-size [] = refl
ranges-size (c ∷ u) = ap suc (ranges-size u)

word-fits : (u : Word) (b : Bool) → length (ranges_of u) + (if b then 1 else 2) ≤ part_bound (own.Word u, b)
word-fits u true = let n = ranges-size u in omega (arith, n)
word-fits u false = let n = ranges-size u in omega (arith, n)

prefix-fits : (u : Word) (b : Bool) → length (ranges_of u) + (if b then 1 else 2) ≤ part_bound (own.Prefix u, b)
prefix-fits u true = let n = ranges-size u in omega (arith, n)
prefix-fits u false = let n = ranges-size u in omega (arith, n)

digit-fits : (b : Bool) → 1 + (if b then 1 else 2) ≤ part_bound (own.Digit, b)
digit-fits true = omega arith
digit-fits false = omega arith

pub word-part : (u : Word) (b : Bool) (m : Graph) → Decides (follows false (ranges_of u)) b (length (ranges_of u) + (if b then 1 else 2)) m → IsOfPart (own.Word u, b) m
word-part u b m d = part-decides (own.Word u) b (follows false (ranges_of u)) (length (ranges_of u) + (if b then 1 else 2)) m (follows-word u) (word-fits u b) d

pub prefix-part : (u : Word) (b : Bool) (m : Graph) → Decides (follows true (ranges_of u)) b (length (ranges_of u) + (if b then 1 else 2)) m → IsOfPart (own.Prefix u, b) m
prefix-part u b m d = part-decides (own.Prefix u) b (follows true (ranges_of u)) (length (ranges_of u) + (if b then 1 else 2)) m
    (λ w. same-true (follows true (ranges_of u) w) (begins u w) (follows-prefix u w)) (prefix-fits u b) d

pub contains-part : (u : Word) (b : Bool) (m : Graph) → Decides (finds true u) b (length u + 1) m → IsOfPart (own.Contains u, b) m
contains-part u b m d = part-decides (own.Contains u) b (finds true u) (length u + 1) m (λ w. (λ h. h, λ h. h)) (omega arith) d

pub suffix-part : (u : Word) (b : Bool) (m : Graph) → Decides (finds false u) b (length u + 1) m → IsOfPart (own.Suffix u, b) m
suffix-part u b m d = part-decides (own.Suffix u) b (finds false u) (length u + 1) m (λ w. (λ h. h, λ h. h)) (omega arith) d

pub digit-part : (b : Bool) (m : Graph) → Decides (follows false ((48, 57) ∷ [])) b (1 + (if b then 1 else 2)) m → IsOfPart (own.Digit, b) m
digit-part b m d = part-decides own.Digit b (follows false ((48, 57) ∷ [])) (1 + (if b then 1 else 2)) m (λ w. same-true (follows false ((48, 57) ∷ []) w) (is_digit w) (follows-digit w)) (digit-fits b) d

-- a part by what it says
pub part-of : (part : Own × Bool) (o : Own) (P : Graph → Type 0) (r : Result Graph BuildFault) → part.0 ≡ o → ((m : Graph) → P m → IsOfPart (o, part.1) m) → IfOk r P → IfOk r (IsOfPart part)
part-of part o P r e f h = subst (λ x. IfOk r (IsOfPart (x, part.1))) (sym e) (IfOk-weaker r P (IsOfPart (o, part.1)) f h)

-- what is built
pub refused : (P : Word → Type 0) (most limit : ℕ) (r : Result Graph BuildFault) (n : ℕ) → Builds P most limit r → r ≡ Err (States n) → limit < most
refused P most limit r n h e = (subst (Builds P most limit) e h).0

pub made-as : (P : Word → Type 0) (most limit : ℕ) {Q : Graph → Type 0} (r : Result Graph BuildFault) → Builds P most limit r → ((m : Graph) → HasWords P m → m.states ≤ most → Q m) → IfOk r Q
made-as P most limit (Ok m) h f = f m h.0 h.1
made-as P most limit (Err e) h f = tt

-- the machine of a complement is that of the others
pub others-kept : (r : Regex) (m : Graph) → ((w : Word) → In r w → IsWord w) → IsOfPart (own.InRe (v.Comp r), true) m → IsOfPart (own.InRe r, false) m
others-kept r m only is = record {
  reads = record {
    plain = is.reads.plain;
    words = λ w. (
      λ h. let g = (is.reads.words w).0 h in (g.0, (subst (λ T. T) (In-Comp r w) g.1).1),
      λ h. (is.reads.words w).1 (h.0, rw (In-Comp r w) (h.0, h.1)),
    );
  };
  few = (let x = is.few in let e = size-Comp r in omega (arith, x, e));
}

pub others-made : (r : Regex) (m n : Graph) → IsOfPart (own.InRe r, true) m → ReadsOthers m n → IsOfPart (own.InRe r, false) n
others-made r m n is others = record {
  reads = record {
    plain = others.0.plain;
    words = λ w. (
      λ h. let g = (others.0.words w).0 h in (g.0, λ i. g.1 ((is.reads.words w).1 (g.0, i))),
      λ h. (others.0.words w).1 (h.0, λ o. h.1 ((is.reads.words w).0 o).1),
    );
  };
  few = (let x = others.1 in let y = power-more m.states (size r) is.few in omega (arith, x, y));
}

-- bounds
part-some : (part : Own × Bool) → 1 ≤ part_bound part
part-some (own.Word w, true) = omega arith
part-some (own.Word w, false) = omega arith
part-some (own.InRe r, true) = size-some r
part-some (own.InRe r, false) = let x = below-power (size r) in omega (arith, x)
part-some (own.Prefix w, true) = omega arith
part-some (own.Prefix w, false) = omega arith
part-some (own.Suffix w, b) = omega arith
part-some (own.Contains w, b) = omega arith
part-some (own.Digit, true) = omega arith
part-some (own.Digit, false) = omega arith

pub product-some : (parts : List (Own × Bool)) → 1 ≤ product_by part_bound parts
product-some [] = omega arith
product-some (part ∷ parts) =
    let here = part-some part in
    let rest = product-some parts in
    let h : 1 * 1 ≤ part_bound part * product_by part_bound parts = mul-le-mul here rest in
    omega (arith, h)

pub bound-at : (parts : List (Own × Bool)) (i : ℕ) (d : Own × Bool) → i < length parts → part_bound (get_or parts i d) ≤ product_by part_bound parts
bound-at [] i d lt = absurd (omega (arith, lt))
bound-at (part ∷ parts) zero d lt =
    let rest = product-some parts in
    let here : part_bound part ≤ part_bound part = omega arith in
    let h : part_bound part * 1 ≤ part_bound part * product_by part_bound parts = mul-le-mul here rest in
    omega (arith, h)
bound-at (part ∷ parts) (suc i) d lt =
    let here = part-some part in
    let rest = bound-at parts i d (omega (arith, lt)) in
    let h : 1 * part_bound (get_or parts i d) ≤ part_bound part * product_by part_bound parts = mul-le-mul here rest in
    omega (arith, h)

pub item-below : (parts : List (Own × Bool)) (i : ℕ) (d : Own × Bool) → i < length parts → d ≡ get_or parts i d → part_bound d ≤ product_by part_bound parts
item-below parts i d lt is =
    let b = bound-at parts i d lt in
    let e = ap part_bound is in
    omega (arith, b, e)

-- one machine for each part
pub of-push : (parts : List (Own × Bool)) (ms : List Graph) (part : Own × Bool) (m : Graph) → AreOfParts parts ms → IsOfPart part m → AreOfParts (parts ++ part ∷ []) (ms ++ m ∷ [])
of-push [] [] part m h is = (is, tt)
of-push [] (n ∷ ms) part m h is = absurd h
of-push (p ∷ parts) [] part m h is = absurd h
of-push (p ∷ parts) (n ∷ ms) part m h is = (h.0, of-push parts ms part m h.1 is)

pub of-plain : (parts : List (Own × Bool)) (ms : List Graph) → AreOfParts parts ms → HaveNoRegisters ms
of-plain [] [] h m (n, lt, e) = absurd (omega (arith, lt))
of-plain [] (x ∷ ms) h m i = absurd h
of-plain (part ∷ parts) [] h m i = absurd h
of-plain (part ∷ parts) (x ∷ ms) h m (zero, lt, e) = let same : x ≡ m = e in subst (λ (g : Graph). g.registers ≡ 0) same h.0.reads.plain
of-plain (part ∷ parts) (x ∷ ms) h m (suc n, lt, e) = of-plain parts ms h.1 m (n, omega (arith, lt), e)

pub of-words : (parts : List (Own × Bool)) (ms : List Graph) → AreOfParts parts ms → (w : Word) → InAllOf WordsOf ms w ↔ (IsWord w × AllByRecursion (MeetsPart w) parts)
of-words [] [] h w = (λ a. (a, tt), λ a. a.0)
of-words [] (m ∷ ms) h w = absurd h
of-words (part ∷ parts) [] h w = absurd h
of-words (part ∷ parts) (m ∷ ms) h w =
    let here = h.0.reads.words w in
    let rest = of-words parts ms h.1 w in (
      λ a. let x = here.0 a.0 in let y = rest.0 a.1 in (x.0, (x.1, y.1)),
      λ a. (here.1 (a.0, a.1.0), rest.1 (a.0, a.1.1)),
    )

pub of-states : (parts : List (Own × Bool)) (ms : List Graph) → AreOfParts parts ms → multiplied states_of ms ≤ product_by part_bound parts
of-states [] [] h = omega arith
of-states [] (m ∷ ms) h = absurd h
of-states (part ∷ parts) [] h = absurd h
of-states (part ∷ parts) (m ∷ ms) h = mul-le-mul h.0.few (of-states parts ms h.1)

pub single-reads : (parts : List (Own × Bool)) (part : Own × Bool) (m : Graph) → length parts ≡ 1 → part ≡ get_or parts 0 part → IsOfPart part m → ReadsParts parts m
single-reads [] part m e is h = absurd (omega (arith, e))
single-reads (p ∷ []) part m e is h =
    let same : part ≡ p = is in
    let g = subst (λ x. IsOfPart x m) same h in
    record {
      reads = record {
        plain = g.reads.plain;
        words = λ w. (λ r. let x = (g.reads.words w).0 r in (x.0, (x.1, tt)), λ a. (g.reads.words w).1 (a.0, a.1.0));
      };
      few = (let x = g.few in omega (arith, x));
    }
single-reads (p ∷ q ∷ parts) part m e is h = absurd (omega (arith, e))
