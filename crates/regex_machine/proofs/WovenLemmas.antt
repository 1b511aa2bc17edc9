-- The runs of a machine of states that are made from the end on, and of a part among them.
use Rattle.std.proofs.Common.{◌≡◌, ℕ, zero, suc, ◌+◌, ◌<◌, ◌≤◌, ◌↔◌, inl, inr, false, IsTrue, Some, List, [], ◌∷◌, ◌++◌, map, length, slice_get, get_or, All, Any, Contains, append_assoc, refl, ap, sym, ◌∙◌, subst, length-append, arith}
use Rattle.std.proofs.lemmas.List.{nil_from_length, append-nil, length_push}
use Rattle.std.proofs.lemmas.List.Elements.{Contains-append_cases, Contains-get_or}
use Rattle.sv_word.specs.Ranges.{IsInhabited, in_ranges, least_of}
use Rattle.sv_word.specs.Words.{greatest_character}
use Rattle.machine_core.specs.declared.graph.Graph.{Graph}
use Rattle.machine_core.specs.declared.machine.Move.{Move}
use Rattle.machine_core.specs.Costs.{add_costs}
use Rattle.machine_core.specs.Edges.{EndsAt, StepsBy}
use Rattle.machine_core.specs.EdgeLaws.{step_target, step_character, step_cost}
use Rattle.machine_core.specs.Language.{RunsFrom}
use Rattle.sv_list.specs.Lists.{Any-map, Any-from_map, Any-contains, Any-append_left, Any-append_right, Any-append_cases, contained, slice_get-contains, slice_get-push_cases, some-once}
use Rattle.machine_core.specs.Moves.{Moves, IsMove}
use Rattle.sv_terms.specs.Language.{Word, Then}
use Rattle.regex_machine.specs.Joined.{WordsOf}
use Rattle.regex_machine.specs.Stepped.{AreEndsIf}
use Rattle.regex_machine.specs.Onwards.{ReadsOn, AreClosed, AreBegun, PrecedesRest, unmade}
use Rattle.regex_machine.specs.Woven.{WovenEnds, WovenSteps, woven-free, IsPlaced, ArePlaced, counted}
use Rattle.regex_machine.specs.declared.onward.Onward.{Onward}
use Rattle.regex_machine.specs.declared.onward.Rest.{Rest}
use Rattle.regex_machine.proofs.OnwardLemmas.{reads-grown, onward-weaker, rest-grown}
use Rattle.regex_machine.proofs.WordLemmas.{run-free}

pub woven-reads : (states : List Onward) → AreClosed states → (w : Word) (s : ℕ) (o : Onward) → slice_get states s ≡ Some o
    → RunsFrom (WovenEnds states) (WovenSteps states) s w [] ↔ ReadsOn states o w
woven-reads states closed [] s o at = (
  λ h. subst (λ (x : Onward). IsTrue x.may_end) (some-once (slice_get states s) h.0 o h.1 at) h.3,
  λ h. (o, at, refl, h),
)
woven-reads states closed (c ∷ w) s o at = (
  λ h.
      let st = h.3 in
      let moves = subst (λ (x : Onward). Any (Moves c h.0 h.1) x.moves) (some-once (slice_get states s) st.0 o st.1 at) st.2 in
      let free : h.0 ≡ [] = woven-free states closed s c h.0 h.1 st in
      let rest : h.2 ≡ [] = runs-free w h.1 h.2 h.4 in
      let m = contained (Moves c h.0 h.1) o.moves moves in
      let to = subst (λ n. n < length states) m.2.2 ((closed o (slice_get-contains states s o at)).moves m.0 m.1).to in
      let u = there states h.1 to in
      (h.1, u.0, subst (λ k. Any (Moves c k h.1) o.moves) free moves, u.1, (woven-reads states closed w h.1 u.0 u.1).0 (subst (RunsFrom (WovenEnds states) (WovenSteps states) h.1 w) rest h.4)),
  λ h. ([], h.0, [], (o, at, h.2), (woven-reads states closed w h.0 h.1 h.3).1 h.4, refl),
)
  where
    there : (xs : List Onward) (n : ℕ) → n < length xs → (x : Onward) × (slice_get xs n ≡ Some x)
    there [] n lt = absurd (omega arith)
    there (x ∷ xs) zero lt = (x, refl)
    there (x ∷ xs) (suc n) lt = there xs n (omega arith)

    runs-free : (v : Word) (t : ℕ) (k : List ℕ) → RunsFrom (WovenEnds states) (WovenSteps states) t v k → k ≡ []
    runs-free [] t k h = h.2
    runs-free (d ∷ v) t k h = h.5 ∙ ap (λ l. add_costs l h.2) (woven-free states closed t d h.0 h.1 h.3)

module _ (m : Graph) (plain : m.registers ≡ 0) where
  free-step : (u c v : ℕ) (k : List ℕ) → StepsBy m.edges u c k v → k ≡ []
  free-step u c v k h = nil_from_length k ((step_cost m.states m.registers m.edges m.ends m.formed u v c k h).entries ∙ plain)

  module _ (old new : List Onward) (rest : Rest) (begun : AreBegun old rest) (placed : ArePlaced m m.states rest.onward old new) where
    at-place : (s : ℕ) (o : Onward) → slice_get new (length old + s) ≡ Some o → IsPlaced m s (length old) rest.onward o
    at-place s o e = placed.each s o (behind old placed.more s o (subst (λ l. slice_get l (length old + s) ≡ Some o) placed.grown e))
      where
        behind : (xs ys : List Onward) (n : ℕ) (x : Onward) → slice_get (xs ++ ys) (length xs + n) ≡ Some x → slice_get ys n ≡ Some x
        behind [] ys n x h = let e : 0 + n ≡ n = omega arith in subst (λ k. slice_get ys k ≡ Some x) e h
        behind (z ∷ zs) ys n x h = let e : suc (length zs) + n ≡ suc (length zs + n) = omega arith in behind zs ys n x (subst (λ k. slice_get (z ∷ (zs ++ ys)) k ≡ Some x) e h)

    same-rest : (w : Word) → ReadsOn new rest.onward w ↔ ReadsOn old rest.onward w
    same-rest w = reads-grown old new placed.more rest.onward w placed.grown begun.formed.onward begun.closed

    abbrev Reads : ℕ → Word → Type 0
    Reads s u = RunsFrom (EndsAt m.ends) (StepsBy m.edges) s u []

    placed-out : (w : Word) (s : ℕ) (o : Onward) → slice_get new (length old + s) ≡ Some o → ReadsOn new o w → Then (Reads s) (ReadsOn old rest.onward) w
    placed-out [] s o at h = let e = (at-place s o at).may_end.0 h in ([], [], refl, e.0, e.1)
    placed-out (c ∷ w) s o at h = elim (((at-place s o at).moves c h.0).0 h.2) [
      | inl x ↦
          let r = placed-out w x.0 h.1 (subst (λ n. slice_get new n ≡ Some h.1) x.1 h.3) h.4 in
          (c ∷ r.0, r.1, ap (λ l. c ∷ l) r.2, ([], x.0, [], x.2, r.3, refl), r.4)
      | inr x ↦ ([], c ∷ w, refl, x.0, (same-rest (c ∷ w)).0 (h.0, h.1, x.1, h.3, h.4))
    ]

    placed-in : (u : Word) (v : Word) (s : ℕ) (o : Onward) → slice_get new (length old + s) ≡ Some o → Reads s u → ReadsOn old rest.onward v → ReadsOn new o (u ++ v)
    placed-in [] [] s o at r h = (at-place s o at).may_end.1 (r, h)
    placed-in [] (c ∷ v) s o at r h = let n = (same-rest (c ∷ v)).1 h in (n.0, n.1, ((at-place s o at).moves c n.0).1 (inr (r, n.2)), n.3, n.4)
    placed-in (c ∷ u) v s o at r h =
        let step = subst (λ k. StepsBy m.edges s c k r.1) (free-step s c r.1 r.0 r.3) r.3 in
        let run = subst (RunsFrom (EndsAt m.ends) (StepsBy m.edges) r.1 u) (run-free m plain u r.1 r.2 r.4) r.4 in
        let to = step_target m.states m.registers m.edges m.ends m.formed s r.1 c [] step in
        let t = there placed.more r.1 (let n = placed.count in omega arith) in
        let e = subst (λ l. slice_get l (length old + r.1) ≡ Some t.0) (sym placed.grown) (behind old placed.more r.1 t.0 t.1) in
        (length old + r.1, t.0, ((at-place s o at).moves c (length old + r.1)).1 (inl (r.1, refl, step)), e, placed-in u v r.1 t.0 e run h)
      where
        there : (xs : List Onward) (n : ℕ) → n < length xs → (x : Onward) × (slice_get xs n ≡ Some x)
        there [] n lt = absurd (omega arith)
        there (x ∷ xs) zero lt = (x, refl)
        there (x ∷ xs) (suc n) lt = there xs n (omega arith)

        behind : (xs ys : List Onward) (n : ℕ) (x : Onward) → slice_get ys n ≡ Some x → slice_get (xs ++ ys) (length xs + n) ≡ Some x
        behind [] ys n x h = let e : n ≡ 0 + n = omega arith in subst (λ k. slice_get ys k ≡ Some x) e h
        behind (z ∷ zs) ys n x h = let e : suc (length zs + n) ≡ suc (length zs) + n = omega arith in subst (λ k. slice_get (z ∷ (zs ++ ys)) k ≡ Some x) e (behind zs ys n x h)

    pub placed-size : length new ≡ length old + m.states
    placed-size = let count = placed.count in let whole : length new ≡ length old + length placed.more = ap length placed.grown ∙ length-append old placed.more in omega arith

    pub embedded : (front : Rest) → slice_get new (length old) ≡ Some front.onward → front.state ≡ Some (length old)
        → PrecedesRest (WordsOf m) (length old + m.states) old rest new rest front
    embedded front at made = record {
      more = placed.more;
      grown = placed.grown;
      begun = record { closed = closed; formed = rest-grown old new placed.more rest placed.grown begun.formed };
      same = refl;
      formed = record {
        onward = closed front.onward (slice_get-contains new (length old) front.onward at);
        state = λ s e. let f : length old ≡ s = (let g : Some (length old) ≡ Some s = sym made ∙ e in cc) in subst (λ n. slice_get new n ≡ Some front.onward) f at;
      };
      words = λ w. (
        λ h. placed-out w 0 front.onward start h,
        λ h. subst (ReadsOn new front.onward) (sym h.2) (placed-in h.0 h.1 0 front.onward start h.3 h.4),
      );
      few = subst (λ x. length new + unmade x ≤ length old + m.states) (sym made) (let s = placed-size in omega arith);
    }
      where
        start : slice_get new (length old + 0) ≡ Some front.onward
        start = let e : length old ≡ length old + 0 = omega arith in subst (λ n. slice_get new n ≡ Some front.onward) e at

        closed : AreClosed new
        closed o i = elim (Contains-append_cases old placed.more o (subst (λ l. Contains l o) placed.grown i)) [
          | inl j ↦ onward-weaker (length old) (length new) o (let s = placed-size in omega arith) (begun.closed o j)
          | inr j ↦ let g = get placed.more o j in
              (placed.each g.0 o g.1).onward (length new) (let s = placed-size in omega arith) (onward-weaker (length old) (length new) rest.onward (let s = placed-size in omega arith) begun.formed.onward)
        ]
          where
            get : (xs : List Onward) (x : Onward) → Contains xs x → (n : ℕ) × (slice_get xs n ≡ Some x)
            get [] x (k, lt, e) = absurd (omega arith)
            get (y ∷ ys) x (zero, lt, e) = (0, ap Some e)
            get (y ∷ ys) x (suc k, lt, e) = let r = get ys x (k, omega arith, e) in (suc r.0, r.1)

-- the moves of a state of the part, their targets counted from `base`
module _ (m : Graph) (plain : m.registers ≡ 0) (at base : ℕ) (own : List (Move ℕ)) (exact : (c : ℕ) (cost : List ℕ) (t : ℕ) → StepsBy m.edges at c cost t ↔ Any (Moves c cost t) own)
    (inhabited : All (λ m. IsInhabited m.on) own) where
  own-step : (x : Move ℕ) → Contains own x → (c : ℕ) → IsTrue (in_ranges x.on c) → StepsBy m.edges at c x.cost x.to
  own-step x i c h = (exact c x.cost x.to).1 (i.0, x, i.1, i.2, (h, refl, refl))

  own-some : (x : Move ℕ) → Contains own x → IsInhabited x.on
  own-some x i = subst (λ (y : Move ℕ). IsInhabited y.on) i.2 (inhabited i.0 x i.1)

  pub own-below : (x : Move ℕ) → Contains own x → x.to < m.states
  own-below x i = step_target m.states m.registers m.edges m.ends m.formed at x.to (least_of x.on) x.cost (own-step x i (least_of x.on) (own-some x i))

  counted-moves : (c t : ℕ) → Any (Moves c [] t) (map (counted base) own) ↔ ((v : ℕ) × (t ≡ base + v) × StepsBy m.edges at c [] v)
  counted-moves c t = (
    λ a. let b = Any-from_map (counted base) (Moves c [] t) own a in (b.1.to, sym b.4.2, (exact c [] b.1.to).1 (b.0, b.1, b.2, b.3, (b.4.0, b.4.1, refl))),
    λ h. let a = (exact c [] h.0).0 h.2 in
        Any-map (counted base) (Moves c [] t) own (a.0, a.1, a.2, a.3, (a.4.0, a.4.1, ap (λ n. base + n) a.4.2 ∙ sym h.1)),
  )

  contains-map : (f : Move ℕ → Move ℕ) (xs : List (Move ℕ)) (y : Move ℕ) → Contains (map f xs) y → (x : Move ℕ) × Contains xs x × (f x ≡ y)
  contains-map f xs y i =
      let b = Any-from_map f (λ z. z ≡ y) xs (Any-contains (λ z. z ≡ y) (map f xs) y i refl) in
      (b.1, (b.0, b.2, b.3), b.4)

  counted-onward : (n : ℕ) → base + m.states ≤ n → (y : Move ℕ) → Contains (map (counted base) own) y → IsMove n 0 y × ((c : ℕ) → IsTrue (in_ranges y.on c) → c ≤ greatest_character)
  counted-onward n le y i =
      let x = contains-map (counted base) own y i in
      let step = own-step x.0 x.1 (least_of x.0.on) (own-some x.0 x.1) in
      let below = step_target m.states m.registers m.edges m.ends m.formed at x.0.to (least_of x.0.on) x.0.cost step in (
        subst (IsMove n 0) x.2 (record {
          on = own-some x.0 x.1;
          cost = (step_cost m.states m.registers m.edges m.ends m.formed at x.0.to (least_of x.0.on) x.0.cost step).entries ∙ plain;
          to = omega (arith, below);
        }),
        λ c h. step_character m.states m.registers m.edges m.ends m.formed at x.0.to c x.0.cost (own-step x.0 x.1 c (subst (λ (z : Move ℕ). IsTrue (in_ranges z.on c)) (sym x.2) h)),
      )

  pub placed-within : (rest o : Onward) → o.moves ≡ map (counted base) own → o.may_end ≡ false → (EndsAt m.ends at [] → ⊥) → IsPlaced m at base rest o
  placed-within rest o moves never none = record {
    moves = λ c t. (
      λ a. inl ((counted-moves c t).0 (subst (Any (Moves c [] t)) moves a)),
      λ h. subst (Any (Moves c [] t)) (sym moves) (elim h [ inl x ↦ (counted-moves c t).1 x | inr x ↦ absurd (none x.0) ]),
    );
    may_end = (λ h. absurd (let f = never in cc), λ h. absurd (none h.0));
    onward = λ n le r. record {
      moves = λ y i. (counted-onward n le y (subst (λ l. Contains l y) moves i)).0;
      characters = λ y i. (counted-onward n le y (subst (λ l. Contains l y) moves i)).1;
    };
  }

  pub placed-end : (rest o : Onward) → o.moves ≡ map (counted base) own ++ rest.moves → o.may_end ≡ rest.may_end → EndsAt m.ends at [] → IsPlaced m at base rest o
  placed-end rest o moves may end = record {
    moves = λ c t. (
      λ a. elim (Any-append_cases (Moves c [] t) (map (counted base) own) rest.moves (subst (Any (Moves c [] t)) moves a)) [ inl x ↦ inl ((counted-moves c t).0 x) | inr x ↦ inr (end, x) ],
      λ h. subst (Any (Moves c [] t)) (sym moves) (elim h [
        | inl x ↦ Any-append_left (Moves c [] t) (map (counted base) own) rest.moves ((counted-moves c t).1 x)
        | inr x ↦ Any-append_right (Moves c [] t) (map (counted base) own) rest.moves x.1
      ]),
    );
    may_end = (λ h. (end, sym may ∙ h), λ h. may ∙ h.1);
    onward = λ n le r. record {
      moves = λ y i. elim (Contains-append_cases (map (counted base) own) rest.moves y (subst (λ l. Contains l y) moves i)) [ inl j ↦ (counted-onward n le y j).0 | inr j ↦ r.moves y j ];
      characters = λ y i. elim (Contains-append_cases (map (counted base) own) rest.moves y (subst (λ l. Contains l y) moves i)) [ inl j ↦ (counted-onward n le y j).1 | inr j ↦ r.characters y j ];
    };
  }

pub placed-none : (m : Graph) (rest : Onward) (states : List Onward) → ArePlaced m 0 rest states states
placed-none m rest states = record { more = []; grown = sym (append-nil states); count = refl; each = λ s o e. absurd (cc) }

pub placed-more : (m : Graph) (n base : ℕ) (rest o : Onward) (old mid new : List Onward) → base ≡ length old → new ≡ mid ++ o ∷ [] → IsPlaced m n base rest o → ArePlaced m n rest old mid → ArePlaced m (n + 1) rest old new
placed-more m n base rest o old mid new at pushed one h = record {
  more = h.more ++ o ∷ [];
  grown = pushed ∙ ap (λ l. l ++ o ∷ []) h.grown ∙ append_assoc old h.more (o ∷ []);
  count = length_push h.more o ∙ ap (λ k. k + 1) h.count;
  each = λ s u e. elim (slice_get-push_cases h.more o s u e) [
    | inl x ↦ h.each s u x
    | inr x ↦ subst (λ k. IsPlaced m k (length old) rest u) (sym (x.0 ∙ h.count)) (subst (IsPlaced m n (length old) rest) x.1 (subst (λ k. IsPlaced m n k rest o) at one))
  ];
}

pub woven-ends : (states : List Onward) (s : ℕ) (o : Onward) → slice_get states s ≡ Some o → (costs : List (List ℕ)) → AreEndsIf o.may_end costs
    → (cost : List ℕ) → WovenEnds states s cost ↔ Any (λ e. e ≡ cost) costs
woven-ends states s o at costs exact cost = (
  λ h. (exact cost).1 (h.2, subst (λ (x : Onward). IsTrue x.may_end) (some-once (slice_get states s) h.0 o h.1 at) h.3),
  λ a. let e = (exact cost).0 a in (o, at, e.0, e.1),
)

pub woven-moves : (states : List Onward) (s : ℕ) (o : Onward) → slice_get states s ≡ Some o → (moves : List (Move ℕ)) → moves ≡ o.moves
    → (c : ℕ) (cost : List ℕ) (t : ℕ) → WovenSteps states s c cost t ↔ Any (Moves c cost t) moves
woven-moves states s o at moves same c cost t = (
  λ h. subst (Any (Moves c cost t)) (ap (λ (x : Onward). x.moves) (some-once (slice_get states s) h.0 o h.1 at) ∙ sym same) h.2,
  λ a. (o, at, subst (Any (Moves c cost t)) same a),
)

pub woven-inhabited : (states : List Onward) → AreClosed states → (s : ℕ) (o : Onward) → slice_get states s ≡ Some o → (moves : List (Move ℕ)) → moves ≡ o.moves → All (λ m. IsInhabited m.on) moves
woven-inhabited states closed s o at moves same k d lt =
    ((closed o (slice_get-contains states s o at)).moves (get_or moves k d) (subst (λ l. Contains l (get_or moves k d)) same (Contains-get_or moves k d lt))).on
