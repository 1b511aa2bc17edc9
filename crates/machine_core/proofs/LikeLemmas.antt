-- A move whose characters are joined with those of one like it.
use Rattle.std.proofs.Common.{◌≡◌, ℕ, zero, suc, ◌<◌, ◌↔◌, ◌⊎◌, inl, inr, ◌&&◌, ◌||◌, nat_le, IsTrue, List, [], ◌∷◌, length, Any, Contains, Some, slice_get, slice_set, sym, ◌∙◌, subst, arith}
use Rattle.std.proofs.lemmas.Bool.{le-leb, and_from, or_cases, or_left, or_right}
use Rattle.sv_word.specs.Ranges.{in_ranges, IsInhabited, IsApartFrom, least_of}
use Rattle.machine_core.specs.declared.machine.Move.{Move}
use Rattle.machine_core.specs.Moves.{Moves}
use Rattle.sv_list.specs.Lists.{Any-here, Any-there, Any-cases, slice_get-contains, set-contains}

pub stands-below : (moves : List (Move ℕ)) (at : ℕ) (m : Move ℕ) → slice_get moves at ≡ Some m → at < length moves
stands-below [] at m h = cc
stands-below (x ∷ moves) zero m h = omega arith
stands-below (x ∷ moves) (suc at) m h = let r = stands-below moves at m h in omega (arith, r)

module _ (lead further : Move ℕ) (on : List (ℕ × ℕ)) (to : lead.to ≡ further.to) (cost : lead.cost ≡ further.cost)
    (both : (c : ℕ) → in_ranges on c ≡ (in_ranges lead.on c || in_ranges further.on c)) where
  abbrev pub joined : Move ℕ
  joined = record { on = on; cost = further.cost; to = further.to }

  one : (c : ℕ) (k : List ℕ) (t : ℕ) → Moves c k t joined ↔ (Moves c k t lead ⊎ Moves c k t further)
  one c k t = (
    λ h. elim (or_cases (in_ranges lead.on c) (in_ranges further.on c) (subst IsTrue (both c) h.0)) [
      | inl l ↦ inl (l, cost ∙ h.1, to ∙ h.2)
      | inr r ↦ inr (r, h.1, h.2)
    ],
    λ h. elim h [
      | inl l ↦ (subst IsTrue (sym (both c)) (or_left (in_ranges lead.on c) (in_ranges further.on c) l.0), sym cost ∙ l.1, sym to ∙ l.2)
      | inr r ↦ (subst IsTrue (sym (both c)) (or_right (in_ranges lead.on c) (in_ranges further.on c) r.0), r.1, r.2)
    ],
  )

  pub joined-moves : (leads : List (Move ℕ)) (at : ℕ) → slice_get leads at ≡ Some lead → (c : ℕ) (k : List ℕ) (t : ℕ)
      → Any (Moves c k t) (slice_set leads at joined) ↔ (Any (Moves c k t) leads ⊎ Moves c k t further)
  joined-moves [] at h c k t = cc
  joined-moves (l ∷ ls) zero h c k t =
      let same : l ≡ lead = cc in (
        λ a. elim (Any-cases (Moves c k t) joined ls a) [
          | inl m ↦ elim ((one c k t).0 m) [ inl x ↦ inl (Any-here (Moves c k t) l ls (subst (Moves c k t) (sym same) x)) | inr y ↦ inr y ]
          | inr r ↦ inl (Any-there (Moves c k t) l ls r)
        ],
        λ o. elim o [
          | inl a ↦ elim (Any-cases (Moves c k t) l ls a) [
            | inl m ↦ Any-here (Moves c k t) joined ls ((one c k t).1 (inl (subst (Moves c k t) same m)))
            | inr r ↦ Any-there (Moves c k t) joined ls r
          ]
          | inr f ↦ Any-here (Moves c k t) joined ls ((one c k t).1 (inr f))
        ],
      )
  joined-moves (l ∷ ls) (suc at) h c k t =
      let rest = joined-moves ls at h c k t in (
        λ a. elim (Any-cases (Moves c k t) l (slice_set ls at joined) a) [
          | inl m ↦ inl (Any-here (Moves c k t) l ls m)
          | inr r ↦ elim (rest.0 r) [ inl x ↦ inl (Any-there (Moves c k t) l ls x) | inr y ↦ inr y ]
        ],
        λ o. elim o [
          | inl a ↦ elim (Any-cases (Moves c k t) l ls a) [
            | inl m ↦ Any-here (Moves c k t) l (slice_set ls at joined) m
            | inr r ↦ Any-there (Moves c k t) l (slice_set ls at joined) (rest.1 (inl r))
          ]
          | inr f ↦ Any-there (Moves c k t) l (slice_set ls at joined) (rest.1 (inr f))
        ],
      )

-- sets of pairs that are apart have their least character
pub apart-inhabited : (low : ℕ) (rs : List (ℕ × ℕ)) (c : ℕ) → IsApartFrom low rs → IsTrue (in_ranges rs c) → IsInhabited rs
apart-inhabited low [] c h i = cc
apart-inhabited low (p ∷ ps) c h i =
    let a = le-leb p.0 p.0 (omega arith) in
    let b = le-leb p.0 p.1 h.1 in
    or_left (nat_le p.0 p.0 && nat_le p.0 p.1) (in_ranges ps p.0) (and_from (nat_le p.0 p.0) (nat_le p.0 p.1) a b)

-- all moves still read some character
pub joined-some : (leads : List (Move ℕ)) (at : ℕ) (l f : Move ℕ) (on : List (ℕ × ℕ)) → slice_get leads at ≡ Some l
    → ((c : ℕ) → in_ranges on c ≡ (in_ranges l.on c || in_ranges f.on c)) → ((m : Move ℕ) → Contains leads m → IsInhabited m.on) → IsApartFrom 0 on
    → (x : Move ℕ) → Contains (slice_set leads at (record { on = on; cost = f.cost; to = f.to })) x → IsInhabited x.on
joined-some leads at l f on stands both old apart x i = elim (set-contains leads at (record { on = on; cost = f.cost; to = f.to }) x i) [
  | inl o ↦ old x o
  | inr e ↦
      let some = old l (slice_get-contains leads at l stands) in
      let here = subst IsTrue (sym (both (least_of l.on))) (or_left (in_ranges l.on (least_of l.on)) (in_ranges f.on (least_of l.on)) some) in
      subst (λ (m : Move ℕ). IsInhabited m.on) e (apart-inhabited 0 on (least_of l.on) apart here)
]
