-- A table of layers keeps up with layers that are added.
use Rattle.std.proofs.Common.{◌≡◌, ℕ, ◌<◌, inl, inr, List, [], ◌∷◌, ◌++◌, length, Option, Some, None, slice_get, slice_set, cond, true, false, refl, ap, sym, ◌∙◌, subst}
use Rattle.std.specs.Prelude.{MatchOption}
use Rattle.std.specs.BTreeMap.{BTreeMap, IsUnchanged, get}
use Rattle.std.specs.Ordering.{is_eq}
use Rattle.std.proofs.lemmas.Cmp.{tied_itself, nat_cmp_total, nat_list_cmp_total}
use Rattle.std.specs.declared.cmp.Ordering.{Ordering}
use Rattle.std.specs.declared.cmp.Ordering.TheVariants.{Less, Equal, Greater}
use Rattle.sv_list.specs.Lists.{slice_get-append, slice_get-end, slice_get-push_cases, slice_get-set_same}
use Rattle.trim_search.specs.Explored.{HasNoRepeat}
use Rattle.trim_search.proofs.TableLemmas.{set-other}
use Rattle.box_layers.specs.declared.layer.Layer.{Layer}
use Rattle.box_layers.specs.LayerOrder.{layer-same}
use Rattle.box_search.specs.Places.{layer_cmp, HasPlace, place_of, IsLayerIndex}
use Rattle.box_search.proofs.PlaceLemmas.{place-same}

pub layer-itself : (s : Layer) → is_eq (layer_cmp s s) ≡ true
layer-itself s = rw (tied_itself nat_cmp_total s.machine, tied_itself nat_cmp_total s.state, tied_itself nat_list_cmp_total s.spent) refl

module _ (uppers : List ℕ) (states machines : ℕ) where
  abbrev pub Index : List Layer → List (Option ℕ) → BTreeMap Layer ℕ → Type 0
  Index = IsLayerIndex uppers states machines

  abbrev pub Placed : Layer → Type 0
  Placed = HasPlace uppers states machines

  -- a row that tells nothing, or none, has no layer
  pub find-table : (names : List Layer) (table : List (Option ℕ)) (others : BTreeMap Layer ℕ) (s : Layer) → Index names table others → Placed s
      → (o : Option ℕ) → slice_get table (place_of uppers states s) ≡ Some o → MatchOption o ((n : ℕ) → slice_get names n ≡ Some s → ⊥) (λ n. slice_get names n ≡ Some s)
  find-table names table others s ok h None e = λ n g. (let k = ok.known s n g h in cc)
  find-table names table others s ok h (Some n) e =
      let f = ok.found (place_of uppers states s) n e in
      f.1 ∙ ap Some (place-same uppers states machines f.0 s f.2 h f.3)

  pub find-other : (names : List Layer) (table : List (Option ℕ)) (others : BTreeMap Layer ℕ) (s : Layer) → Index names table others → (Placed s → ⊥)
      → (o : Option ℕ) → get layer_cmp others s ≡ o → MatchOption o ((n : ℕ) → slice_get names n ≡ Some s → ⊥) (λ n. slice_get names n ≡ Some s)
  find-other names table others s ok h None e = λ n g. (let k = ok.others_known s n g h in cc)
  find-other names table others s ok h (Some n) e = ok.others_found s n e

  -- a longer table
  pub index-more : (names : List Layer) (old new : List (Option ℕ)) (others : BTreeMap Layer ℕ) → Index names old others
      → ((s n : ℕ) → slice_get old s ≡ Some (Some n) → slice_get new s ≡ Some (Some n))
      → ((s n : ℕ) → slice_get new s ≡ Some (Some n) → slice_get old s ≡ Some (Some n)) → Index names new others
  index-more names old new others ok kept found = record {
    distinct = ok.distinct;
    found = λ p n e. ok.found p n (found p n e);
    known = λ s n e h. kept (place_of uppers states s) n (ok.known s n e h);
    others_found = ok.others_found;
    others_known = ok.others_known;
  }

  -- the map is as it was
  pub index-kept : (names : List Layer) (table : List (Option ℕ)) (old new : BTreeMap Layer ℕ) → IsUnchanged old new → Index names table old → Index names table new
  index-kept names table old new same ok = record {
    distinct = ok.distinct;
    found = ok.found;
    known = ok.known;
    others_found = λ s n e. ok.others_found s n (rw same at e);
    others_known = λ s n e h. rw same (ok.others_known s n e h);
  }

  module _ (names : List Layer) (s : Layer) (fresh : (n : ℕ) → slice_get names n ≡ Some s → ⊥) where
    push-distinct : HasNoRepeat names → HasNoRepeat (names ++ s ∷ [])
    push-distinct ok t m n p q = elim (slice_get-push_cases names s m t p) [
      | inl a ↦ elim (slice_get-push_cases names s n t q) [
        | inl b ↦ ok t m n a b
        | inr b ↦ absurd (fresh m (a ∙ ap Some (sym b.1)))
      ]
      | inr a ↦ elim (slice_get-push_cases names s n t q) [
        | inl b ↦ absurd (fresh n (b ∙ ap Some (sym a.1)))
        | inr b ↦ a.0 ∙ sym b.0
      ]
    ]

    -- one that has a place
    module _ (table : List (Option ℕ)) (others : BTreeMap Layer ℕ) (ok : Index names table others) (h : Placed s) (lt : place_of uppers states s < length table) where
      abbrev set : List (Option ℕ)
      set = slice_set table (place_of uppers states s) (Some (length names))

      here : slice_get set (place_of uppers states s) ≡ Some (Some (length names))
      here = slice_get-set_same table (place_of uppers states s) (Some (length names)) lt

      found-set : (p n : ℕ) → slice_get set p ≡ Some (Some n) → (t : Layer) × (slice_get (names ++ s ∷ []) n ≡ Some t) × Placed t × (place_of uppers states t ≡ p)
      found-set p n e = elim (set-other table (place_of uppers states s) p (Some (length names))) [
        | inl at ↦
            let e2 = subst (λ x. slice_get set x ≡ Some (Some n)) at e in
            let is : length names ≡ n = (let w = here in cc) in
            (s, subst (λ x. slice_get (names ++ s ∷ []) x ≡ Some s) is (slice_get-end names s), h, sym at)
        | inr apart ↦
            let f = ok.found p n (sym apart ∙ e) in
            (f.0, slice_get-append names (s ∷ []) n f.0 f.1, f.2, f.3)
      ]

      known-set : (t : Layer) (n : ℕ) → slice_get (names ++ s ∷ []) n ≡ Some t → Placed t → slice_get set (place_of uppers states t) ≡ Some (Some n)
      known-set t n e g = elim (slice_get-push_cases names s n t e) [
        | inl k ↦ elim (set-other table (place_of uppers states s) (place_of uppers states t) (Some (length names))) [
          | inl at ↦ absurd (fresh n (k ∙ ap Some (place-same uppers states machines t s g h at)))
          | inr apart ↦ apart ∙ ok.known t n k g
        ]
        | inr k ↦ subst (λ (x : Layer). slice_get set (place_of uppers states x) ≡ Some (Some n)) k.1 (here ∙ ap (λ x. Some (Some x)) (sym k.0))
      ]

      pub index-place : Index (names ++ s ∷ []) set others
      index-place = record {
        distinct = push-distinct ok.distinct;
        found = found-set;
        known = known-set;
        others_found = λ t n e. slice_get-append names (s ∷ []) n t (ok.others_found t n e);
        others_known = λ t n e without. elim (slice_get-push_cases names s n t e) [
          | inl k ↦ ok.others_known t n k without
          | inr k ↦ absurd (without (subst Placed k.1 h))
        ];
      }

    -- one that has none
    module _ (table : List (Option ℕ)) (old new : BTreeMap Layer ℕ) (ok : Index names table old) (h : Placed s → ⊥) (itself : is_eq (layer_cmp s s) ≡ true)
        (updates : (q : Layer) → get layer_cmp new q ≡ cond (is_eq (layer_cmp s q)) (Some (length names)) (get layer_cmp old q)) where
      get-at : get layer_cmp new s ≡ Some (length names)
      get-at = updates s ∙ rw itself refl

      get-other : (q : Layer) (r : Ordering) → layer_cmp s q ≡ r → is_eq r ≡ false → get layer_cmp new q ≡ get layer_cmp old q
      get-other q r e ne = updates q ∙ rw (e, ne) refl

      found-by : (q : Layer) (n : ℕ) (r : Ordering) → layer_cmp s q ≡ r → get layer_cmp new q ≡ Some n → slice_get (names ++ s ∷ []) n ≡ Some q
      found-by q n Less e g = slice_get-append names (s ∷ []) n q (ok.others_found q n (sym (get-other q Less e refl) ∙ g))
      found-by q n Greater e g = slice_get-append names (s ∷ []) n q (ok.others_found q n (sym (get-other q Greater e refl) ∙ g))
      found-by q n Equal e g =
          let eq = layer-same s q e in
          let at = subst (λ (x : Layer). get layer_cmp new x ≡ Some (length names)) eq get-at in
          let is : length names ≡ n = cc in
          rw (← is, ← eq) (slice_get-end names s)

      known-old : (q : Layer) (n : ℕ) (r : Ordering) → layer_cmp s q ≡ r → slice_get names n ≡ Some q → (Placed q → ⊥) → get layer_cmp new q ≡ Some n
      known-old q n Less e g without = get-other q Less e refl ∙ ok.others_known q n g without
      known-old q n Greater e g without = get-other q Greater e refl ∙ ok.others_known q n g without
      known-old q n Equal e g without = absurd (fresh n (g ∙ ap Some (sym (layer-same s q e))))

      pub index-other : Index (names ++ s ∷ []) table new
      index-other = record {
        distinct = push-distinct ok.distinct;
        found = λ p n e. (let f = ok.found p n e in (f.0, slice_get-append names (s ∷ []) n f.0 f.1, f.2, f.3));
        known = λ t n e g. elim (slice_get-push_cases names s n t e) [
          | inl k ↦ ok.known t n k g
          | inr k ↦ absurd (h (subst Placed (sym k.1) g))
        ];
        others_found = λ q n g. found-by q n (layer_cmp s q) refl g;
        others_known = λ q n e without. elim (slice_get-push_cases names s n q e) [
          | inl k ↦ known-old q n (layer_cmp s q) refl k without
          | inr k ↦ subst (λ (x : Layer). get layer_cmp new x ≡ Some n) k.1 (get-at ∙ ap Some (sym k.0))
        ];
      }
