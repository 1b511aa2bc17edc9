-- Whatever a family that the text of a cube leads to reads extends to words of all variables that meet the cube.
use Rattle.std.proofs.Common.{◌≡◌, ℕ, zero, suc, ◌<◌, ◌≤◌, ◌+◌, ◌*◌, ◌↔◌, Bool, true, false, not, cond, nat_eq, List, [], ◌∷◌, length, map, filter, drop, All, Option, Some, None, slice_get, get_or, refl, sym, ap, ◌∙◌, subst, arith, inl, inr}
use Rattle.std.specs.List.{AllByRecursion, AllZip, range_with_len}
use Rattle.std.proofs.lemmas.Bool.{ne_eqb, or_parts}
use Rattle.std.proofs.lemmas.Bool.Decides.{eqb_tells}
use Rattle.std.proofs.lemmas.Option.{slice_get_within}
use Rattle.std.proofs.lemmas.List.{drop_all}
use Rattle.sv_list.specs.Lists.{drop-found, AllByRecursion-weaker, slice_get-some}
use Rattle.sv_terms.specs.Language.{Word}
use Rattle.sv_terms.specs.Meaning.{joined}
use Rattle.sv_terms.specs.Replacement.{replace_first, replace_all}
use Rattle.sv_terms.specs.Transduction.{Pairs}
use Rattle.machine_core.specs.Costs.{add_costs, zeros}
use Rattle.machine_core.specs.Graphs.{Accepts}
use Rattle.machine_core.specs.declared.graph.Graph.{Graph}
use Rattle.flat_cubes.specs.Using.{used, is_defined}
use Rattle.cube_bounds.specs.Bounds.{states, states_at, own_bound, product_by}
use Rattle.cube_bounds.specs.NumberLaws.{factor, StatesAreBounded, StatesAreSolved}
use Rattle.flat_cubes.specs.Satisfying.{ComesBy, Defines, MeetsParts, word_at}
use Rattle.flat_cubes.specs.Straight.{IsStraight, InOrder, AreBelow}
use Rattle.flat_cubes.specs.declared.definition.By.{By}
use Rattle.flat_cubes.specs.declared.definition.By.TheVariants as by
use Rattle.flat_cubes.specs.declared.definition.Definition.{Definition}
use Rattle.flat_cubes.specs.declared.flat.Flat.{Flat}
use Rattle.flat_cubes.specs.declared.variable.Variable.{Variable}
use Rattle.backward.specs.Families.{Family, Words, after, HasMachine, AreWide, put, Conf}
use Rattle.backward.specs.Definitions.{definition}
use Rattle.backward.specs.Chains.{width, own_cost, ReadsOwn, IsOwnFamily, IsLed, begun, same, cut, through, IsLedFrom}
use Rattle.backward.specs.Leaves.{Obey, ExtendsTo, IsLeaf, IsLess, IsLessened, IsOverSources, IsUseful, machines_of}
use Rattle.backward.specs.States.{IsState}
use Rattle.backward.specs.declared.leaf_state.LeafState.{LeafState}
use Rattle.backward.proofs.ConfLemmas.{put-same, put-other}
use Rattle.backward.proofs.CutLemmas.{cuts-within}
use Rattle.backward.proofs.OrderLemmas.{stands-at, not-of}
use Rattle.backward.proofs.PlaceLemmas.{none-some, free-held, held-once}

-- what the words from k on, n of them, cost at the register of u
abbrev pub own_entry : Words → ℕ → ℕ → ℕ → ℕ
own_entry f k zero u = 0
own_entry f k (suc n) u = cond (nat_eq u k) (length (f k)) 0 + own_entry f (suc k) n u

entry-below : (f : Words) (k n u : ℕ) → u < k → own_entry f k n u ≡ 0
entry-below f k zero u h = refl
entry-below f k (suc n) u h =
    let other : cond (nat_eq u k) (length (f k)) 0 ≡ 0 = ap (λ b. cond b (length (f k)) 0) (ne_eqb u k (λ e. omega (arith, e))) in
    let rest = entry-below f (suc k) n u (omega arith) in
    omega arith

entry-at : (f : Words) (k n u : ℕ) → k ≤ u → u < k + n → own_entry f k n u ≡ length (f u)
entry-at f k zero u h g = absurd (omega arith)
entry-at f k (suc n) u h g = elim (eqb_tells u k) [
  | inl is ↦
      let here : cond (nat_eq u k) (length (f k)) 0 ≡ length (f k) = ap (λ b. cond b (length (f k)) 0) is.0 in
      let rest = entry-below f (suc k) n u (omega (arith, is.1)) in
      let same : length (f k) ≡ length (f u) = ap (λ v. length (f v)) (sym is.1) in
      omega arith
  | inr apart ↦
      let here : cond (nat_eq u k) (length (f k)) 0 ≡ 0 = ap (λ b. cond b (length (f k)) 0) apart.0 in
      let past : suc k ≤ u = (let ne = apart.1 in omega arith) in
      let rest = entry-at f (suc k) n u past (omega arith) in
      omega arith
]

pub map-add : (a b : ℕ → ℕ) (us : List ℕ) → map (λ u. a u + b u) us ≡ add_costs (map a us) (map b us)
map-add a b [] = refl
map-add a b (u ∷ us) = ap (λ l. (a u + b u) ∷ l) (map-add a b us)

pub map-zero : (us : List ℕ) → map (λ u. 0) us ≡ zeros (length us)
map-zero [] = refl
map-zero (u ∷ us) = ap (λ l. 0 ∷ l) (map-zero us)

pub map-below : (f : Words) (n : ℕ) (us : List ℕ) → AreBelow n us → map (own_entry f 0 n) us ≡ map (λ v. length (f v)) us
map-below f n [] h = refl
map-below f n (u ∷ us) h = let here = entry-at f 0 n u (omega arith) (omega (arith, h.0)) in let rest = map-below f n us h.1 in cc

pub own-full : (flat : Flat) (ms : Family) → IsOwnFamily flat ms → (v : ℕ) → slice_get ms v ≡ Some None → ⊥
own-full flat ms own v e =
    let below = slice_get_within ms v None e in
    let size = own.size in
    let there = slice_get-some flat.variables v (omega arith) in
    let m = own.each v there.0 there.1 in
    free-held m.0 (sym e ∙ m.1)

pub own-reads : (flat : Flat) (ms : Family) → IsOwnFamily flat ms → (v : ℕ) (m : Graph) → HasMachine ms v m → (variable : Variable) × (slice_get flat.variables v ≡ Some variable) × ReadsOwn flat v variable m
own-reads flat ms own v m h =
    let below = slice_get_within ms v (Some m) h in
    let size = own.size in
    let there = slice_get-some flat.variables v (omega arith) in
    let n = own.each v there.0 there.1 in
    let same = held-once n.0 m (sym n.1 ∙ h) in
    (there.0, there.1, subst (ReadsOwn flat v there.0) same n.2)

pub range-at : (f : Words) (k n v : ℕ) → v < n → get_or (map f (range_with_len k n)) v [] ≡ f (k + v)
range-at f k zero v h = absurd (omega arith)
range-at f k (suc n) zero h = ap f (omega arith)
range-at f k (suc n) (suc v) h = range-at f (k + 1) n v (omega arith) ∙ ap f (omega arith)

pub zip-range : (f : Words) (k : ℕ) (xs : List Variable) → ((v : ℕ) (x : Variable) → slice_get xs v ≡ Some x → MeetsParts x (f (k + v))) → AllZip MeetsParts xs (map f (range_with_len k (length xs)))
zip-range f k [] h = tt
zip-range f k (x ∷ xs) h = (
  subst (λ j. MeetsParts x (f j)) (omega arith) (h 0 x refl),
  zip-range f (k + 1) xs (λ v y e. let at : k + suc v ≡ k + 1 + v = omega arith in subst (λ j. MeetsParts y (f j)) at (h (suc v) y e)),
)

below-agree : (f g : Words) (n : ℕ) → ((v : ℕ) → v < n → f v ≡ g v) → (vs : List ℕ) → AreBelow n vs → AllByRecursion (λ u. f u ≡ g u) vs
below-agree f g n agree [] h = tt
below-agree f g n agree (v ∷ vs) h = (agree v h.0, below-agree f g n agree vs h.1)

map-agree : (f g : Words) (vs : List ℕ) → AllByRecursion (λ v. f v ≡ g v) vs → map f vs ≡ map g vs
map-agree f g [] h = refl
map-agree f g (v ∷ vs) h = let here = h.0 in let rest = map-agree f g vs h.1 in cc

-- what comes by a definition depends on the words that it uses alone
pub comes-agree : (b : By) (f g : Words) (v w : Word) → AllByRecursion (λ u. f u ≡ g u) (used b) → v ≡ w → ComesBy f v b → ComesBy g w b
comes-agree (by.Concat vs) f g v w h e d = sym e ∙ d ∙ ap joined (map-agree f g vs h)
comes-agree (by.First p u x) f g v w h e d = sym e ∙ d ∙ ap (replace_first p u) h.0
comes-agree (by.All p u x) f g v w h e d = sym e ∙ d ∙ ap (replace_all p u) h.0
comes-agree (by.Through t x) f g v w h e d = subst (λ a. Pairs t a w) h.0 (subst (Pairs t (f x)) e d)

pub obeyed : (ws : List Word) (f : Words) (n : ℕ) → ((v : ℕ) → v < n → f v ≡ word_at ws v) → (ds : List Definition) → InOrder n ds → Obey ds f → AllByRecursion (Defines ws) ds
obeyed ws f n agree [] o h = tt
obeyed ws f n agree (d ∷ ds) o h = (
  comes-agree d.by f (word_at ws) (f d.variable) (word_at ws d.variable) (below-agree f (word_at ws) n agree (used d.by) o.0.uses) (agree d.variable o.0.defined) h.0,
  obeyed ws f n agree ds o.1 h.1,
)

pub lengths-agree : (f g : Words) (n : ℕ) → ((v : ℕ) → v < n → f v ≡ g v) → (us : List ℕ) → AreBelow n us → map (λ v. length (f v)) us ≡ map (λ v. length (g v)) us
lengths-agree f g n agree [] h = refl
lengths-agree f g n agree (u ∷ us) h = let here = ap length (agree u h.0) in let rest = lengths-agree f g n agree us h.1 in cc

-- each machine reads the word of its variable
pub conf-accepts : (n : ℕ) (ms : Family) (g : Words) (totals : List ℕ) → Conf n ms g totals → (v : ℕ) (m : Graph) → HasMachine ms v m → (cost : List ℕ) × Accepts m (g v) cost
conf-accepts n [] g totals c v m h = absurd (none-some (Some m) h)
conf-accepts n (None ∷ ms) g totals c zero m h = absurd (free-held m h)
conf-accepts n (None ∷ ms) g totals c (suc v) m h = conf-accepts n ms (after g) totals c v m h
conf-accepts n (Some k ∷ ms) g totals c zero m h = (c.0, subst (λ x. Accepts x (g 0) c.0) (held-once k m h) c.2)
conf-accepts n (Some k ∷ ms) g totals c (suc v) m h = conf-accepts n ms (after g) c.1 c.3 v m h

-- and the words of a first family cost their lengths
pub conf-totals : (registers : List ℕ) (f : Words) (ms : Family) (k : ℕ) (g : Words) → ((v : ℕ) → g v ≡ f (k + v)) → ((v : ℕ) → slice_get ms v ≡ Some None → ⊥)
    → ((v : ℕ) (m : Graph) → HasMachine ms v m → (word cost : List ℕ) → Accepts m word cost → cost ≡ own_cost registers (k + v) word)
    → (totals : List ℕ) → Conf (length registers) ms g totals → totals ≡ map (own_entry f k (length ms)) registers
conf-totals registers f [] k g agree full h totals c = c ∙ sym (map-zero registers)
conf-totals registers f (None ∷ ms) k g agree full h totals c = absurd (full 0 refl)
conf-totals registers f (Some m ∷ ms) k g agree full h totals c =
    let at : k + 0 ≡ k = omega arith in
    let word : g 0 ≡ f k = agree 0 ∙ ap f at in
    let cost : c.0 ≡ own_cost registers k (f k) = h 0 m refl (g 0) c.0 c.2 ∙ ap (λ j. own_cost registers j (g 0)) at ∙ ap (own_cost registers k) word in
    let rest = conf-totals registers f ms (suc k) (after g) (λ v. agree (suc v) ∙ ap f (omega arith)) (λ v e. full (suc v) e)
    (λ v n e w d a. h (suc v) n e w d a ∙ ap (λ j. own_cost registers j w) (omega arith)) c.1 c.3 in
    sym c.4 ∙ ap (λ l. add_costs l c.1) cost ∙ ap (add_costs (own_cost registers k (f k))) rest
    ∙ sym (map-add (λ u. cond (nat_eq u k) (length (f k)) 0) (own_entry f (suc k) (length ms)) registers)

-- words of all variables, which are the given ones where no carried definition defines the variable
record Extended (flat : Flat) (left : ℕ) (words : Words) (totals : List ℕ) : Type 0 where
  all : Words
  agree : (v : ℕ) → is_defined (drop left flat.definitions) v ≡ false → all v ≡ words v
  parts : (v : ℕ) (x : Variable) → slice_get flat.variables v ≡ Some x → MeetsParts x (all v)
  lengths : map (λ v. length (all v)) flat.registers ≡ totals
  obey : Obey (drop left flat.definitions) all

own-extended : (flat : Flat) (ms : Family) → IsStraight flat → IsOwnFamily flat ms → (words : Words) (totals : List ℕ) → Conf (width flat) ms words totals
    → Extended flat (length flat.definitions) words totals
own-extended flat ms straight own words totals conf = record {
  all = words;
  agree = λ v h. refl;
  parts = λ v x e.
      let m = own.each v x e in
      let a = conf-accepts (width flat) ms words totals conf v m.0 m.1 in
      ((m.2 (words v) a.0).0 a.1).0;
  lengths =
      sym (map-below words (length ms) flat.registers (subst (λ k. AreBelow k flat.registers) (sym own.size) straight.registers))
      ∙ sym (conf-totals flat.registers words ms 0 words (λ v. ap words (omega arith)) (own-full flat ms own)
      (λ v m h w c a. let r = own-reads flat ms own v m h in ((r.2 w c).0 a).1 ∙ ap (λ j. own_cost flat.registers j w) (omega arith)) totals conf);
  obey = subst (λ ds. Obey ds words) (sym (drop_all (length flat.definitions) flat.definitions (omega arith))) tt;
}

-- one definition more: its variable has the word that was put
step-extended : (flat : Flat) (left : ℕ) (d : Definition) → IsStraight flat → slice_get flat.definitions left ≡ Some d → (words : Words) (w : Word) (totals : List ℕ)
    → ComesBy words w d.by → Extended flat (suc left) (put words d.variable w) totals → Extended flat left words totals
step-extended flat left d straight e words w totals defined ext =
    let behind = drop (suc left) flat.definitions in
    let stands = stands-at (length flat.variables) flat.definitions left d straight.order e in
    let front = drop-found flat.definitions left d e in
    let others : (v : ℕ) → is_defined (d ∷ behind) v ≡ false → ext.all v ≡ words v =
    λ v h. ext.agree v ((or_parts (nat_eq d.variable v) (is_defined behind v) h).1) ∙ put-other words d.variable w v (not-of d behind v h) in
    let own : ext.all d.variable ≡ w = ext.agree d.variable stands.once ∙ put-same words d.variable w in
    let uses : AllByRecursion (λ u. words u ≡ ext.all u) (used d.by) =
    AllByRecursion-weaker (λ v. is_defined (d ∷ behind) v ≡ false) (λ u. words u ≡ ext.all u) (λ v h. sym (others v h)) (used d.by) stands.apart in
    record {
      all = ext.all;
      agree = λ v h. others v (sym (ap (λ ds. is_defined ds v) front) ∙ h);
      parts = ext.parts;
      lengths = ext.lengths;
      obey = subst (λ ds. Obey ds ext.all) (sym front) (comes-agree d.by words ext.all w (ext.all d.variable) uses (sym own) defined, ext.obey);
    }

led-extended : (flat : Flat) → IsStraight flat → (left : ℕ) (ms : Family) → IsLed (width flat) flat.definitions (states_at flat) (IsOwnFamily flat) left ms
    → (words : Words) (totals : List ℕ) → Conf (width flat) ms words totals → Extended flat left words totals
led-extended flat straight left ms (begun {ms = ns} own) words totals conf = own-extended flat ns straight own words totals conf
led-extended flat straight left ms (same {left = k} {ms = ns} before is) words totals conf = led-extended flat straight k ns before words totals ((is words totals).1 conf)
led-extended flat straight left ms (cut {left = k} {ms = ns} x pieces cuts m before e there few is) words totals conf =
    let at = (is words totals).0 conf in
    step-extended flat k (definition x (by.Concat pieces)) straight e words (joined (map words pieces)) totals refl
    (led-extended flat straight (suc k) ns before (put words x (joined (map words pieces))) totals (cuts-within (width flat) ns x m there words pieces cuts totals at))
led-extended flat straight left ms (through {left = k} {ms = ns} x v b m before e reads there few is) words totals conf =
    let at = (is words totals).0 conf in
    step-extended flat k (definition x b) straight e words at.0 totals at.1 (led-extended flat straight (suc k) ns before (put words x at.0) totals at.2)

sources-same : (flat : Flat) (ws : List Word) (f words : Words) → ((v : ℕ) → v < length flat.variables → word_at ws v ≡ f v) → ((v : ℕ) → is_defined flat.definitions v ≡ false → f v ≡ words v)
    → (k n : ℕ) → k + n ≤ length flat.variables → map (word_at ws) (filter (λ v. not (is_defined flat.definitions v)) (range_with_len k n)) ≡ map words (filter (λ v. not (is_defined flat.definitions v)) (range_with_len k n))
sources-same flat ws f words at agree k zero h = refl
sources-same flat ws f words at agree k (suc n) h = go (is_defined flat.definitions k) refl (sources-same flat ws f words at agree (k + 1) n (omega arith))
  where
    go : (b : Bool) → is_defined flat.definitions k ≡ b
        → map (word_at ws) (filter (λ v. not (is_defined flat.definitions v)) (range_with_len (k + 1) n)) ≡ map words (filter (λ v. not (is_defined flat.definitions v)) (range_with_len (k + 1) n))
        → map (word_at ws) (filter (λ v. not (is_defined flat.definitions v)) (range_with_len k (suc n))) ≡ map words (filter (λ v. not (is_defined flat.definitions v)) (range_with_len k (suc n)))
    go true e rest = rw e rest
    go false e rest = rw e (let here : word_at ws k ≡ words k = at k (omega arith) ∙ agree k e in cc)

-- a family that a chain leads to, in which no definition is left
pub leaf-extends : (flat : Flat) (ms : Family) → IsStraight flat → IsLedFrom flat 0 ms → (words : Words) (totals : List ℕ) → Conf (width flat) ms words totals → ExtendsTo flat words totals
leaf-extends flat ms straight led words totals conf =
    let ext = led-extended flat straight 0 ms led words totals conf in
    let n = length flat.variables in
    let f = ext.all in
    let ws = map f (range_with_len 0 n) in
    let at : (v : ℕ) → v < n → word_at ws v ≡ f v = λ v h. range-at f 0 n v h ∙ ap f (omega arith) in
    record {
      all = ws;
      same = sources-same flat ws f words at ext.agree 0 n (omega arith);
      satisfies = record {
        parts = zip-range f 0 flat.variables (λ v x e. let here : v ≡ 0 + v = omega arith in subst (λ j. MeetsParts x (f j)) here (ext.parts v x e));
        definitions = obeyed ws f n (λ v h. sym (at v h)) flat.definitions straight.order ext.obey;
      };
      lengths = sym (lengths-agree f (word_at ws) n (λ v h. sym (at v h)) flat.registers straight.registers) ∙ ext.lengths;
    }

-- machines with the same words and costs have the same configurations
lessened-conf : (n : ℕ) (ms ns : Family) → length ns ≡ length ms → ((v : ℕ) → slice_get ms v ≡ Some None → slice_get ns v ≡ Some None)
    → ((v : ℕ) (m : Graph) → HasMachine ms v m → (g : Graph) × HasMachine ns v g × ((word cost : List ℕ) → Accepts g word cost ↔ Accepts m word cost))
    → (words : Words) (totals : List ℕ) → Conf n ms words totals ↔ Conf n ns words totals
lessened-conf n [] [] size none some words totals = (λ c. c, λ c. c)
lessened-conf n [] (o ∷ ns) size none some words totals = absurd (omega (arith, size))
lessened-conf n (o ∷ ms) [] size none some words totals = absurd (omega (arith, size))
lessened-conf n (None ∷ ms) (None ∷ ns) size none some words totals = lessened-conf n ms ns (omega (arith, size)) (λ v. none (suc v)) (λ v. some (suc v)) (after words) totals
lessened-conf n (None ∷ ms) (Some g ∷ ns) size none some words totals = absurd (free-held g (sym (none 0 refl)))
lessened-conf n (Some m ∷ ms) (None ∷ ns) size none some words totals = let one = some 0 m refl in absurd (free-held one.0 one.1)
lessened-conf n (Some m ∷ ms) (Some g ∷ ns) size none some words totals =
    let one = some 0 m refl in
    let is = sym (held-once g one.0 one.1) in
    let reads = subst (λ h. (word cost : List ℕ) → Accepts h word cost ↔ Accepts m word cost) is one.2 in
    let rest : (t : List ℕ) → Conf n ms (after words) t ↔ Conf n ns (after words) t = λ t. lessened-conf n ms ns (omega (arith, size)) (λ v. none (suc v)) (λ v. some (suc v)) (after words) t in (
      λ c. (c.0, c.1, (reads (words 0) c.0).1 c.2, (rest c.1).0 c.3, c.4),
      λ c. (c.0, c.1, (reads (words 0) c.0).0 c.2, (rest c.1).1 c.3, c.4),
    )

-- each of the machines in order is that of a variable
machines-all : {P : Graph → Type 0} (ns : Family) → ((v : ℕ) (g : Graph) → HasMachine ns v g → P g) → All P (machines_of ns)
machines-all [] h = λ k d lt. absurd (omega (arith, lt))
machines-all (None ∷ ns) h = machines-all ns (λ v. h (suc v))
machines-all {P = P} (Some g ∷ ns) h = each (machines-all ns (λ v. h (suc v)))
  where
    each : All P (machines_of ns) → All P (g ∷ machines_of ns)
    each rest zero d lt = h 0 g refl
    each rest (suc k) d lt = rest k d (omega (arith, lt))

-- a place of the lessened family is one of the family
place-of : (ms ns : Family) → length ns ≡ length ms → (v : ℕ) (o : Option Graph) → slice_get ns v ≡ Some o → (x : Option Graph) × (slice_get ms v ≡ Some x)
place-of ms ns size v o e = let below = slice_get_within ns v o e in slice_get-some ms v (omega (arith, size, below))

gone : (ms ns : Family) → IsLessened ms ns → (v : ℕ) → slice_get ns v ≡ Some None → slice_get ms v ≡ Some None
gone ms ns less v e = go (place-of ms ns less.size v None e)
  where
    go : (x : Option Graph) × (slice_get ms v ≡ Some x) → slice_get ms v ≡ Some None
    go (None, h) = h
    go (Some m, h) = let n = (less.each v m h).1 in absurd (free-held (less.each v m h).0 (sym e ∙ n))

was : (ms ns : Family) → IsLessened ms ns → (v : ℕ) (g : Graph) → HasMachine ns v g → (m : Graph) × HasMachine ms v m
was ms ns less v g e = go (place-of ms ns less.size v (Some g) e)
  where
    go : (x : Option Graph) × (slice_get ms v ≡ Some x) → (m : Graph) × HasMachine ms v m
    go (None, h) = absurd (free-held g (sym (less.carried v h) ∙ e))
    go (Some m, h) = (m, h)

-- the machine of the family that a lessened one comes of
less-of : (ms ns : Family) → IsLessened ms ns → (v : ℕ) (g m : Graph) → HasMachine ns v g → HasMachine ms v m → IsLess m g
less-of ms ns less v g m e h = let n = less.each v m h in subst (IsLess m) (held-once n.0 g (sym n.1 ∙ e)) n.2

lessened-wide : (width : ℕ) (ms ns : Family) → IsLessened ms ns → AreWide width ms → AreWide width ns
lessened-wide width ms ns less wide v g e = let w = was ms ns less v g e in (less-of ms ns less v g w.0 e w.1).registers ∙ wide v w.0 w.1

pub few-states : StatesAreSolved → StatesAreBounded → (flat : Flat) → IsStraight flat → (s : LeafState) → IsState flat 0 s → (v : ℕ) (m : Graph) → HasMachine s.machines v m → m.states ≤ states flat
few-states solved bounded flat straight s state v m h =
    let below = slice_get_within s.machines v (Some m) h in
    let x = slice_get-some flat.variables v (omega (arith, below, state.size)) in
    let few : m.states ≤ own_bound x.0 * product_by (factor flat v) flat.definitions = state.bounded v x.0 m x.1 h in
    let all : states_at flat v ≡ own_bound x.0 * product_by (factor flat v) flat.definitions = solved flat straight v x.0 x.1 in
    let most : states_at flat v ≤ states flat = bounded flat v in
    omega (arith, few, all, most)

lessened-useful : (bound : ℕ) (ms ns : Family) → IsLessened ms ns → ((v : ℕ) (m : Graph) → HasMachine ms v m → m.states ≤ bound) → (v : ℕ) (g : Graph) → HasMachine ns v g → IsUseful bound g
lessened-useful bound ms ns less few v g e =
    let w = was ms ns less v g e in
    let n = less-of ms ns less v g w.0 e w.1 in
    let most : w.0.states ≤ bound = few v w.0 w.1 in
    let fewer : g.states ≤ w.0.states = n.states in
    record { inhabited = n.inhabited; bounded = omega (arith, most, fewer); used = n.used }

lessened-led : (flat : Flat) (ms ns : Family) → IsLessened ms ns → IsLedFrom flat 0 ms → IsLedFrom flat 0 ns
lessened-led flat ms ns less led = same led (lessened-conf (width flat) ms ns less.size less.carried (λ v m h. let n = less.each v m h in (n.0, n.1, n.2.language)))

lessened-over : (flat : Flat) (s : LeafState) (ns : Family) → IsState flat 0 s → IsLessened s.machines ns → IsOverSources flat ns
lessened-over flat s ns state less = record {
  size = less.size ∙ state.size;
  sources = λ v g e. let w = was s.machines ns less v g e in state.standing v w.0 w.1;
  others = λ v e. state.carried v (gone s.machines ns less v e);
}

pub is-leaf : StatesAreSolved → StatesAreBounded → (flat : Flat) → IsStraight flat → flat.broken ≡ false → (s : LeafState) → IsState flat 0 s → (ns : Family) → IsLessened s.machines ns → IsLeaf flat (machines_of ns)
is-leaf solved bounded flat straight whole s state ns less =
    let led = lessened-led flat s.machines ns less state.led in record {
      family = ns;
      over = lessened-over flat s ns state less;
      are = refl;
      wide = lessened-wide (width flat) s.machines ns less (λ v m h. s.wide v m h ∙ state.registers);
      useful = machines-all ns (lessened-useful (states flat) s.machines ns less (few-states solved bounded flat straight s state));
      extends = leaf-extends flat ns straight led;
      whole = whole;
      chain = led;
    }
