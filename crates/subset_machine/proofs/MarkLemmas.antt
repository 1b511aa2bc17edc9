-- The characters cut into intervals, in order.
use Rattle.std.proofs.Common.{◌≡◌, ℕ, ◌+◌, ◌-◌, ◌<◌, ◌≤◌, ◌⊎◌, inl, inr, false, IsTrue, List, [], ◌∷◌, ◌++◌, length, get_or, Contains, refl, sym, subst, arith}
use Rattle.std.proofs.lemmas.Bool.{cases_lt}
use Rattle.std.proofs.lemmas.List.{get_or_default}
use Rattle.std.proofs.lemmas.List.Elements.{Contains-append_left, Contains-push, Contains-push_cases, Contains-get_or}
use Rattle.std.proofs.lemmas.List.Sorted.{Contains-permutation, IsPermutation-sym, IsNonDecreasingBy-push}
use Rattle.std.specs.List.Sorted.{IsPermutation, IsNonDecreasingBy, IsSorted, IsSortedByKey}
use Rattle.std.specs.Ordering.{nat_cmp, ordering_then, is_lt}
use Rattle.std.specs.declared.cmp.Ordering.{Ordering}
use Rattle.std.specs.declared.cmp.Ordering.TheVariants.{Less, Equal, Greater}
use Rattle.sv_list.specs.Lists.{Contains-none}
use Rattle.sv_word.specs.Ranges.{in_ranges}
use Rattle.sv_word.specs.Words.{greatest_character}
use Rattle.subset_machine.specs.declared.leaving.EdgeRange.{EdgeRange}
use Rattle.subset_machine.specs.Legs.{IsRange, AreBorders, AreUniformIntervals}
use Rattle.subset_machine.proofs.LeavingLemmas.{ranges-in, ranges-out}

-- the order of pairs
abbrev pub pairs_cmp : ℕ × ℕ → ℕ × ℕ → Ordering
pairs_cmp p q = ordering_then (nat_cmp p.0 q.0) (nat_cmp p.1 q.1)

first-first : (o p : Ordering) → is_lt (ordering_then o p) ≡ false → is_lt o ≡ false
first-first Less p e = e
first-first Equal p e = refl
first-first Greater p e = refl

-- pairs in order are in the order of their first parts
pub sorted-first : (ps : List (ℕ × ℕ)) → IsSorted pairs_cmp ps → IsSortedByKey (λ (p : ℕ × ℕ). p.0) nat_cmp ps
sorted-first ps h k d l lt = first-first (nat_cmp (get_or ps (k + 1) d).0 (get_or ps k d).0) (nat_cmp (get_or ps (k + 1) d).1 (get_or ps k d).1) (h k d l lt)

-- where ranges begin and stop
pub record AreListed (legs : List EdgeRange) (borders : List ℕ) : Type 0 where
  pub begins : (s : EdgeRange) → Contains legs s → Contains borders s.low
  pub stops : (s : EdgeRange) → Contains legs s → Contains borders (s.high + 1)
  pub top : (b : ℕ) → Contains borders b → b ≤ greatest_character + 1

pub listed-none : AreListed [] []
listed-none = record { begins = λ s i. absurd (Contains-none s i); stops = λ s i. absurd (Contains-none s i); top = λ b i. absurd (Contains-none b i) }

pub listed-more : (before grown : List EdgeRange) (s : EdgeRange) (old mid new : List ℕ) → grown ≡ before ++ s ∷ [] → IsRange s → mid ≡ old ++ s.low ∷ [] → new ≡ mid ++ (s.high + 1) ∷ []
    → AreListed before old → AreListed grown new
listed-more before grown s old mid new more range low high h = record {
  begins = λ t i. elim (Contains-push_cases before s t (subst (λ l. Contains l t) more i)) [
    | inl j ↦ kept t.low (h.begins t j)
    | inr e ↦ later t.low (subst (λ l. Contains l t.low) (sym low) (subst (λ (x : EdgeRange). Contains (old ++ s.low ∷ []) x.low) e (Contains-push old s.low)))
  ];
  stops = λ t i. elim (Contains-push_cases before s t (subst (λ l. Contains l t) more i)) [
    | inl j ↦ kept (t.high + 1) (h.stops t j)
    | inr e ↦ subst (λ l. Contains l (t.high + 1)) (sym high) (subst (λ (x : EdgeRange). Contains (mid ++ (s.high + 1) ∷ []) (x.high + 1)) e (Contains-push mid (s.high + 1)))
  ];
  top = λ b i. elim (Contains-push_cases mid (s.high + 1) b (subst (λ l. Contains l b) high i)) [
    | inl j ↦ elim (Contains-push_cases old s.low b (subst (λ l. Contains l b) low j)) [ inl k ↦ h.top b k | inr e ↦ (let x = range.0 in let y = range.1 in omega (arith, e)) ]
    | inr e ↦ (let y = range.1 in omega (arith, e))
  ];
}
  where
    later : (b : ℕ) → Contains mid b → Contains new b
    later b i = subst (λ l. Contains l b) (sym high) (Contains-append_left mid ((s.high + 1) ∷ []) b i)

    kept : (b : ℕ) → Contains old b → Contains new b
    kept b i = later b (subst (λ l. Contains l b) (sym low) (Contains-append_left old (s.low ∷ []) b i))

pub borders-made : (legs : List EdgeRange) (listed pushed sorted : List ℕ) → AreListed legs listed → pushed ≡ listed ++ (greatest_character + 1) ∷ [] → IsPermutation pushed sorted
    → IsNonDecreasingBy (λ b. b) sorted → AreBorders legs sorted
borders-made legs listed pushed sorted h more perm order = record {
  begins = λ s i. kept s.low (h.begins s i);
  stops = λ s i. kept (s.high + 1) (h.stops s i);
  last = there (greatest_character + 1) (Contains-push listed (greatest_character + 1));
  top = λ b i. elim (Contains-push_cases listed (greatest_character + 1) b (subst (λ l. Contains l b) more (Contains-permutation sorted pushed b (IsPermutation-sym pushed sorted perm) i))) [
    | inl j ↦ h.top b j
    | inr e ↦ omega (arith, e)
  ];
  order = order;
}
  where
    there : (b : ℕ) → Contains (listed ++ (greatest_character + 1) ∷ []) b → Contains sorted b
    there b i = Contains-permutation pushed sorted b perm (subst (λ l. Contains l b) (sym more) i)

    kept : (b : ℕ) → Contains listed b → Contains sorted b
    kept b i = there b (Contains-append_left listed ((greatest_character + 1) ∷ []) b i)

-- the first `at` borders are passed, and the characters before `from` are cut where borders lie
pub record IsCutting (borders : List ℕ) (at from : ℕ) (marks : List (ℕ × ℕ)) : Type 0 where
  pub order : IsNonDecreasingBy (λ (m : ℕ × ℕ). m.0) marks
  pub inside : (m : ℕ × ℕ) → Contains marks m → (m.0 ≤ m.1) × (m.1 < from)
  pub covering : (c : ℕ) → c < from → IsTrue (in_ranges marks c)
  pub uncut : (m : ℕ × ℕ) → Contains marks m → (b : ℕ) → Contains borders b → (b ≤ m.0) ⊎ (m.1 < b)
  pub passed : (k d : ℕ) → k < at → k < length borders → get_or borders k d ≤ from
  pub top : from ≤ greatest_character + 1

pub cutting-start : (borders : List ℕ) (order : IsNonDecreasingBy (λ (m : ℕ × ℕ). m.0) []) → IsCutting borders 0 0 []
cutting-start borders order = record {
  order = order;
  inside = λ m i. absurd (Contains-none m i);
  covering = λ c lt. absurd (omega arith);
  uncut = λ m i. absurd (Contains-none m i);
  passed = λ k d lt l. absurd (omega arith);
  top = omega arith;
}

module _ (legs : List EdgeRange) (borders : List ℕ) (a : AreBorders legs borders) (at from : ℕ) (marks : List (ℕ × ℕ)) (h : IsCutting borders at from marks) (room : at < length borders) where
  -- the border at hand
  abbrev border : ℕ
  border = get_or borders at 0

  passed-more : (high : ℕ) → from ≤ high → border ≤ high → (k d : ℕ) → k < at + 1 → k < length borders → get_or borders k d ≤ high
  passed-more high l b k d lt room' = elim (cases_lt k at) [
    | inl before ↦ (let p = h.passed k d before room' in omega arith)
    | inr le ↦ (let same : k ≡ at = omega arith in let here : get_or borders at d ≡ border = get_or_default borders at d 0 room in subst (λ j. get_or borders j d ≤ high) (sym same) (omega arith))
  ]

  pub border-top : border ≤ greatest_character + 1
  border-top = a.top border (Contains-get_or borders at 0 room)

  pub cutting-skip : border ≤ from → IsCutting borders (at + 1) from marks
  cutting-skip le = record { order = h.order; inside = h.inside; covering = h.covering; uncut = h.uncut; passed = passed-more from (omega arith) le; top = h.top }

  beyond : (b : ℕ) → Contains borders b → (b ≤ from) ⊎ (border ≤ b)
  beyond b (k, lt, e) = elim (cases_lt k at) [
    | inl before ↦ inl (let p = h.passed k b before lt in omega arith)
    | inr le ↦ inr (let up = a.order at k 0 le lt in let same = get_or_default borders k b 0 lt in omega arith)
  ]

  pub cutting-cut : (new : List (ℕ × ℕ)) → new ≡ marks ++ (from, border - 1) ∷ [] → from < border → IsCutting borders (at + 1) border new
  cutting-cut new made lt = record {
    order = subst (IsNonDecreasingBy (λ (m : ℕ × ℕ). m.0)) (sym made) (IsNonDecreasingBy-push (λ (m : ℕ × ℕ). m.0) marks (from, border - 1) h.order
        (λ d some. let m = get_or marks (length marks - 1) d in let p = h.inside m (Contains-get_or marks (length marks - 1) d (omega arith)) in let x = p.0 in let y = p.1 in omega arith));
    inside = λ m i. elim (cases m i) [
      | inl j ↦ (let p = h.inside m j in (p.0, (let y = p.1 in omega arith)))
      | inr e ↦ subst (λ (m : ℕ × ℕ). (m.0 ≤ m.1) × (m.1 < border)) e ((omega arith), omega arith)
    ];
    covering = λ c l. elim (cases_lt c from) [
      | inl before ↦ (let p = ranges-in marks c (h.covering c before) in ranges-out new c p.0 (kept p.0 p.1) p.2)
      | inr le ↦ ranges-out new c (from, border - 1) (subst (λ l. Contains l (from, border - 1)) (sym made) (Contains-push marks (from, border - 1))) (le, omega arith)
    ];
    uncut = λ m i b j. elim (cases m i) [
      | inl k ↦ h.uncut m k b j
      | inr e ↦ subst (λ (m : ℕ × ℕ). (b ≤ m.0) ⊎ (m.1 < b)) e (elim (beyond b j) [ inl x ↦ inl x | inr x ↦ inr (omega arith) ])
    ];
    passed = passed-more border (omega arith) (omega arith);
    top = border-top;
  }
    where
      cases : (m : ℕ × ℕ) → Contains new m → Contains marks m ⊎ ((from, border - 1) ≡ m)
      cases m i = Contains-push_cases marks (from, border - 1) m (subst (λ l. Contains l m) made i)

      kept : (m : ℕ × ℕ) → Contains marks m → Contains new m
      kept m i = subst (λ l. Contains l m) (sym made) (Contains-append_left marks ((from, border - 1) ∷ []) m i)

pub marks-made : (legs : List EdgeRange) (borders : List ℕ) (at from : ℕ) (marks : List (ℕ × ℕ)) → AreBorders legs borders → IsCutting borders at from marks → length borders ≤ at → AreUniformIntervals legs marks
marks-made legs borders at from marks a h le = record {
  order = h.order;
  inside = λ m i. let p = h.inside m i in (p.0, (let y = p.1 in let t = h.top in omega arith));
  covering = λ c l. h.covering c (omega arith);
  uniform = λ m i s j c d t lc hc ld hd leads. (
    elim (h.uncut m i s.low (a.begins s j)) [ inl x ↦ omega arith | inr x ↦ (let l = leads.0 in absurd (omega arith)) ],
    elim (h.uncut m i (s.high + 1) (a.stops s j)) [ inl x ↦ (let l = leads.1 in absurd (omega arith)) | inr x ↦ omega arith ],
    leads.2,
  );
}
  where
    end : from ≡ greatest_character + 1
    end =
        let last = a.last in
        let passed = h.passed last.0 (greatest_character + 1) (let l = last.1 in omega arith) last.1 in
        let e = last.2 in
        let t = h.top in
        omega arith
