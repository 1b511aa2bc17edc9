-- What is bound, and the index of it.
use Rattle.std.proofs.Common.{◌≡◌, refl, sym, ap, ◌∙◌, subst, ℕ, suc, ◌-◌, ◌<◌, ◌≤◌, Bool, true, false, cond, List, [], ◌∷◌, ◌++◌, length, take, Option, Some, None, arith, append_assoc, take-take, take_all, length-take-le}
use Rattle.std.specs.Prelude.{if◌then◌else◌}
use Rattle.std.proofs.lemmas.Grind.{common_steps}
use Rattle.std.proofs.lemmas.List.{map-append}
use Rattle.std.proofs.Math.ListN.{length-append}
use Rattle.std.proofs.Math.Seq.{take-append_seam}
use Rattle.std.proofs.lemmas.Cmp.{nat_list_eq_equiv}
use Rattle.term_walk.specs.declared.scope.Binding.{Binding}
use Rattle.term_weight.specs.Places.{shown}
use Rattle.term_weight.proofs.Placing.{same-swap}
use Rattle.term_walk.specs.Meant.{latest, or_else}
use Rattle.term_walk.specs.Scopes.{bound_pairs, HidesFrom, IsNameIndex}
use Rattle.smt_names.specs.Signature.{Name, same_name}

abbrev Places : Type 0
Places = List (Name × Option ℕ)

same-self : (a : Name) → same_name a a ≡ true
same-self a = nat_list_eq_equiv.refl a

or-none : {A : Type 0} (o : Option A) → or_else None o ≡ or_else o None
or-none None = refl
or-none (Some x) = refl

or-assoc : {A : Type 0} (o p q : Option A) → or_else (or_else o p) q ≡ or_else o (or_else p q)
or-assoc None p q = refl
or-assoc (Some x) p q = refl

-- the latest binding counts first
pub latest-snoc : {A : Type 0} (n : Name) (bs : List (Name × A)) (b : Name × A) → latest n (bs ++ b ∷ []) ≡ or_else (if same_name n b.0 then Some b.1 else None) (latest n bs)
latest-snoc n [] b = or-none (if same_name n b.0 then Some b.1 else None)
latest-snoc n (c ∷ bs) b = ap (λ o. or_else o (if same_name n c.0 then Some c.1 else None)) (latest-snoc n bs b) ∙ or-assoc (if same_name n b.0 then Some b.1 else None) (latest n bs) (if same_name n c.0 then Some c.1 else None)

latest-same : {A : Type 0} (m n : Name) → same_name m n ≡ true → (bs : List (Name × A)) → latest m bs ≡ latest n bs
latest-same m n h [] = refl
latest-same m n h (b ∷ bs) = λ i. or_else (latest-same m n h bs i) (if nat_list_eq_equiv.congr m n b.0 h i then Some b.1 else None)

cond-or : {A : Type 0} (t : Bool) (x : A) (o : Option A) → cond t (Some x) o ≡ or_else (if t then Some x else None) o
cond-or true x o = refl
cond-or false x o = refl

hides-snoc : (done : List (Name × ℕ)) (bs : List Binding) (b : Binding) → HidesFrom done bs → b.hides ≡ latest b.name (done ++ bound_pairs bs) → HidesFrom done (bs ++ b ∷ [])
hides-snoc done [] b h e = (e ∙ ap (latest b.name) (append-none done), tt)
  where
    append-none : (xs : List (Name × ℕ)) → xs ++ [] ≡ xs
    append-none [] = refl
    append-none (x ∷ xs) = ap (λ z. x ∷ z) (append-none xs)
hides-snoc done (c ∷ bs) b h e = (h.0, hides-snoc (done ++ (c.name, c.place) ∷ []) bs b h.1 (e ∙ ap (latest b.name) (sym (append_assoc done ((c.name, c.place) ∷ []) (bound_pairs bs)))))

hides-left : (done : List (Name × ℕ)) (bs : List Binding) (b : Binding) → HidesFrom done (bs ++ b ∷ []) → HidesFrom done bs × (b.hides ≡ latest b.name (done ++ bound_pairs bs))
hides-left done [] b h = (tt, h.0 ∙ ap (latest b.name) (sym (append-none done)))
  where
    append-none : (xs : List (Name × ℕ)) → xs ++ [] ≡ xs
    append-none [] = refl
    append-none (x ∷ xs) = ap (λ z. x ∷ z) (append-none xs)
hides-left done (c ∷ bs) b h =
    let k = hides-left (done ++ (c.name, c.place) ∷ []) bs b h.1 in
    ((h.0, k.0), k.1 ∙ ap (latest b.name) (append_assoc done ((c.name, c.place) ∷ []) (bound_pairs bs)))

pub index-none : (bs : List Binding) (places : Places) → bs ≡ [] → places ≡ [] → IsNameIndex bs places
index-none bs places e f = subst (λ (z : List Binding). IsNameIndex z places) (sym e) (subst (λ (z : Places). IsNameIndex [] z) (sym f) (record { found = λ n. refl; hidden = tt }))

pub pairs-snoc : (bs : List Binding) (b : Binding) → bound_pairs (bs ++ b ∷ []) ≡ bound_pairs bs ++ (b.name, b.place) ∷ []
pairs-snoc bs b = map-append (λ (b : Binding). (b.name, b.place)) bs (b ∷ [])

pub length-pairs : (bs : List Binding) → length (bound_pairs bs) ≡ length bs
length-pairs [] = refl
length-pairs (b ∷ bs) = ap suc (length-pairs bs)

pub pairs-bound : (bs cs : List Binding) (name : Name) (place : ℕ) (hides : Option ℕ) (old : List (Name × ℕ)) → cs ≡ bs ++ record { name = name; place = place; hides = hides } ∷ [] → bound_pairs bs ≡ old → bound_pairs cs ≡ old ++ (name, place) ∷ []
pairs-bound bs cs name place hides old e f = ap bound_pairs e ∙ pairs-snoc bs (record { name = name; place = place; hides = hides }) ∙ ap (λ z. z ++ (name, place) ∷ []) f

pub index-bound : (bs cs : List Binding) (places more : Places) (name key : Name) (place : ℕ) (hides : Option ℕ) → IsNameIndex bs places → hides ≡ shown name places → key ≡ name → cs ≡ bs ++ record { name = name; place = place; hides = hides } ∷ [] → ((n : Name) → shown n more ≡ cond (same_name key n) (Some place) (shown n places)) → IsNameIndex cs more
index-bound bs cs places more name key place hides k h e f g = subst (λ (z : List Binding). IsNameIndex z more) (sym f) (record {
  found = λ n.
      g n ∙ ap (λ z. cond (same_name z n) (Some place) (shown n places)) e
      ∙ (λ i. cond (same-swap name n i) (Some place) (k.found n i))
      ∙ cond-or (same_name n name) place (latest n (bound_pairs bs))
      ∙ sym (latest-snoc n (bound_pairs bs) (name, place))
      ∙ ap (latest n) (sym (pairs-snoc bs (record { name = name; place = place; hides = hides })));
  hidden = hides-snoc [] bs (record { name = name; place = place; hides = hides }) k.hidden (h ∙ k.found name);
})

pub index-same : (bs cs ds : List Binding) (b : Binding) (places more : Places) (n : ℕ) → IsNameIndex bs places → cs ≡ bs ++ b ∷ [] → n ≡ length bs → ds ≡ take n cs → more ≡ places → IsNameIndex ds more
index-same bs cs ds b places more n k e f g h =
    let q : ds ≡ bs = g ∙ (λ i. take (f i) (e i)) ∙ take-append_seam bs (b ∷ []) in
    subst (λ (z : List Binding). IsNameIndex z more) (sym q) (subst (λ (z : Places). IsNameIndex bs z) (sym h) k)

-- without the latest binding
shown-left : (b : Binding) (bs : List Binding) (n : Name) (t : Bool) → same_name b.name n ≡ t → b.hides ≡ latest b.name (bound_pairs bs) → cond t b.hides (latest n (bound_pairs (bs ++ b ∷ []))) ≡ latest n (bound_pairs bs)
shown-left b bs n true e h = h ∙ latest-same b.name n e (bound_pairs bs)
shown-left b bs n false e h = ap (latest n) (pairs-snoc bs b) ∙ latest-snoc n (bound_pairs bs) (b.name, b.place) ∙ ap (λ t. or_else (if t then Some b.place else None) (latest n (bound_pairs bs))) (same-swap n b.name ∙ e)

pub index-left : (bs cs : List Binding) (b : Binding) (name : Name) (hides : Option ℕ) (places more : Places) → IsNameIndex bs places → bs ≡ cs ++ b ∷ [] → name ≡ b.name → hides ≡ b.hides → ((n : Name) → shown n more ≡ cond (same_name name n) hides (shown n places)) → IsNameIndex cs more
index-left bs cs b name hides places more k e u v g' =
    let g : (n : Name) → shown n more ≡ cond (same_name b.name n) b.hides (shown n places) = λ n. g' n ∙ (λ i. cond (same_name (u i) n) (v i) (shown n places)) in
    let q : IsNameIndex (cs ++ b ∷ []) places = subst (λ (z : List Binding). IsNameIndex z places) e k in
    let l = hides-left [] cs b q.hidden in
    record {
      found = λ n. g n ∙ ap (cond (same_name b.name n) b.hides) (q.found n) ∙ shown-left b cs n (same_name b.name n) refl l.1;
      hidden = l.0;
    }

pub index-there : (bs cs : List Binding) (b : Binding) (name : Name) (places : Places) → IsNameIndex bs places → bs ≡ cs ++ b ∷ [] → name ≡ b.name → shown name places ≡ None → ⊥
index-there bs cs b name places k e u g' =
    let g : shown b.name places ≡ None = ap (λ n. shown n places) (sym u) ∙ g' in
    let q : IsNameIndex (cs ++ b ∷ []) places = subst (λ (z : List Binding). IsNameIndex z places) e k in
    let f : None ≡ or_else (Some b.place) (latest b.name (bound_pairs cs)) = sym g ∙ q.found b.name ∙ ap (latest b.name) (pairs-snoc cs b) ∙ latest-snoc b.name (bound_pairs cs) (b.name, b.place) ∙ ap (λ t. or_else (if t then Some b.place else None) (latest b.name (bound_pairs cs))) (same-self b.name) in
    absurd (cc)

pub pairs-left : (bs cs : List Binding) (b : Binding) (old : List (Name × ℕ)) → bs ≡ cs ++ b ∷ [] → bound_pairs bs ≡ old → bound_pairs cs ≡ take (length old - 1) old
pairs-left bs cs b old e f =
    let o : old ≡ bound_pairs cs ++ (b.name, b.place) ∷ [] = sym f ∙ ap bound_pairs e ∙ pairs-snoc cs b in
    let n : length old - 1 ≡ length (bound_pairs cs) = omega (arith, ap length o, length-append (bound_pairs cs) ((b.name, b.place) ∷ [])) in
    sym (take-append_seam (bound_pairs cs) ((b.name, b.place) ∷ []))
    ∙ sym (λ i. take (n i) (o i))

pub pairs-empty : (bs cs : List Binding) (old : List (Name × ℕ)) → bs ≡ [] → cs ≡ [] → bound_pairs bs ≡ old → bound_pairs cs ≡ take (length old - 1) old
pairs-empty bs cs old e f g =
    let o : [] ≡ old = sym (ap bound_pairs e) ∙ g in
    ap bound_pairs f ∙ subst (λ (z : List (Name × ℕ)). [] ≡ take (length z - 1) z) o (take-none)
  where
    take-none : [] ≡ take {A = Name × ℕ} (0 - 1) []
    take-none = grind (arith, common_steps)

pub leave-more : {A : Type 0} (n : ℕ) (old now next : List A) → n < length now → take n now ≡ take n old → next ≡ take (length now - 1) now → take n next ≡ take n old
leave-more n old now next h e f = ap (take n) f ∙ take-take n (length now - 1) now (omega arith) ∙ e

pub leave-fewer : {A : Type 0} (n : ℕ) (now next : List A) → n < length now → next ≡ take (length now - 1) now → length next < length now
leave-fewer n now next h f = let e : length next ≡ length now - 1 = ap length f ∙ length-take-le (length now - 1) now (omega arith) in omega arith

pub leave-end : {A : Type 0} (n : ℕ) (old now : List A) → length now ≤ n → take n now ≡ take n old → now ≡ take n old
leave-end n old now h e = sym (take_all n now h) ∙ e

pub ruleset scoping = (index-none, length-pairs, pairs-bound, index-bound, index-same, index-left, index-there, pairs-left, pairs-empty)

pub ruleset leaving = (leave-more, leave-fewer, leave-end)
