-- What nodes write, when more are added.
use Rattle.std.proofs.Common.{◌≡◌, refl, sym, ap, ◌∙◌, subst, Bool, true, false, ℕ, zero, suc, ◌+◌, ◌-◌, ◌<◌, ◌≤◌, ◌⊎◌, inl, inr, ⊎_elim, ◌↔◌, List, [], ◌∷◌, ◌++◌, length, get_or, take, drop, Contains, Some, ◌||◌, arith}
use Rattle.std.specs.Prelude.{◌==◌, slice_get}
use Rattle.std.proofs.lemmas.Bool.{eqb-true, or_cases, or_left, or_right}
use Rattle.std.proofs.lemmas.List.{append-nil, append_assoc, length-append, take_all, take_more}
use Rattle.std.proofs.lemmas.List.Elements.{Contains-append_left, Contains-append_right, Contains-append_cases}
use Rattle.std.proofs.lemmas.Option.{get_or_from_slice_get, same_Some}
use Rattle.sv_list.specs.Lists.{slice_get-append, slice_get-end, slice_get-contains}
use Rattle.transducer_core.specs.Nodes.{AddsText, LeadToNodes, AreGrown, IsChain, LeadsWithin, NodeSpells, Spells}
use Rattle.sv_word.specs.Words.{IsWord, greatest_character}
use Rattle.transducer_core.specs.declared.node.OutputNode.{OutputNode}

pub only_one : {X : Type 0} (x y : X) → Contains (x ∷ []) y → x ≡ y
only_one x y (zero, h, e) = e
only_one x y (suc k, h, e) = absurd (omega (arith, h))

pub one_there : {X : Type 0} (x : X) → Contains (x ∷ []) x
one_there x = (0, omega arith, refl)

pub not_both : {C : Type 0} (b : Bool) → b ≡ true → b ≡ false → C
not_both b e f = absurd (cc)

next_below : (k n m : ℕ) → m ≡ n + 1 → k ≡ n → k < m
next_below k n m e f = omega arith

at_least : (n m k : ℕ) → m ≡ n + k → n ≤ m
at_least n m k e = omega arith

below_more : (k n m : ℕ) → k < n → n ≤ m → k < m
below_more k n m h l = omega arith

-- what stands at a place of the old nodes stands there still, and nothing else does
front_back : (ns more : List OutputNode) (k : ℕ) (n : OutputNode) → k < length ns → slice_get (ns ++ more) k ≡ Some n → slice_get ns k ≡ Some n
front_back [] more k n h e = absurd (omega arith)
front_back (x ∷ ns) more zero n h e = e
front_back (x ∷ ns) more (suc k) n h e = front_back ns more k n (omega arith) e

pub spells_more : (ns more : List OutputNode) (w : List ℕ) (n : OutputNode) → NodeSpells ns w n → NodeSpells (ns ++ more) w n
spells_more ns more [] n s = s
spells_more ns more (c ∷ w) n s = (s.0, s.1, s.2, slice_get-append ns more s.0 s.1 s.3, spells_more ns more w s.1 s.4)

pub spells_back : (ns more : List OutputNode) → LeadToNodes ns → (w : List ℕ) (n : OutputNode) → LeadsWithin (length ns) n → NodeSpells (ns ++ more) w n → NodeSpells ns w n
spells_back ns more closed [] n l s = s
spells_back ns more closed (c ∷ w) n l s =
    let at = front_back ns more s.0 s.1 (l c s.0 s.2).0 s.3 in
    (s.0, s.1, s.2, at, spells_back ns more closed w s.1 (closed s.1 (slice_get-contains ns s.0 s.1 at)) s.4)

pub at_more : (ns more : List OutputNode) (k : ℕ) (w : List ℕ) → Spells ns k w → Spells (ns ++ more) k w
at_more ns more k w s = (s.0, slice_get-append ns more k s.0 s.1, spells_more ns more w s.0 s.2)

pub at_back : (ns more : List OutputNode) → LeadToNodes ns → (k : ℕ) (w : List ℕ) → k < length ns → Spells (ns ++ more) k w → Spells ns k w
at_back ns more closed k w h s =
    let at = front_back ns more k s.0 h s.1 in
    (s.0, at, spells_back ns more closed w s.0 (closed s.0 (slice_get-contains ns k s.0 at)) s.2)

-- one more node that leads to those before it
leads_more : (n m : ℕ) (x : OutputNode) → n ≤ m → LeadsWithin n x → LeadsWithin m x
leads_more n m x h l c to has = let k = l c to has in (below_more to n m k.0 h, k.1)

pub closed_push : (ns : List OutputNode) (n : OutputNode) → LeadToNodes ns → LeadsWithin (length ns) n → LeadToNodes (ns ++ n ∷ [])
closed_push ns n closed l x has =
    let long : length (ns ++ n ∷ []) ≡ length ns + 1 = length-append ns (n ∷ []) in
    let more = at_least (length ns) (length (ns ++ n ∷ [])) 1 long in
    ⊎_elim (λ old. leads_more (length ns) (length (ns ++ n ∷ [])) x more (closed x old))
    (λ new. leads_more (length ns) (length (ns ++ n ∷ [])) x more (subst (LeadsWithin (length ns)) (only_one n x new) l))
    (Contains-append_cases ns (n ∷ []) x has)

pub grown_none : (ns : List OutputNode) → LeadToNodes ns → AreGrown ns ns
grown_none ns closed = record { more = []; are = sym (append-nil ns); closed = closed }

pub grown_push : (ns ms : List OutputNode) (n : OutputNode) (new : List OutputNode) → AreGrown ns ms → LeadsWithin (length ms) n → new ≡ ms ++ n ∷ [] → AreGrown ns new
grown_push ns ms n new g l e = record {
  more = g.more ++ n ∷ [];
  are = e ∙ ap (λ xs. xs ++ n ∷ []) g.are ∙ append_assoc ns g.more (n ∷ []);
  closed = subst LeadToNodes (sym e) (closed_push ms n g.closed l);
}

module _ (ns ms new : List OutputNode) (text : List ℕ) (c target place : ℕ) (n : OutputNode) (chain : IsChain ns ms text target place) (firsts : n.firsts ≡ (c, place) ∷ []) (ends : n.ends ≡ false) (e : new ≡ ms ++ n ∷ []) (low : c ≤ greatest_character) where
  first_there : Contains {X = ℕ × ℕ} n.firsts (c, place)
  first_there = subst (λ fs. Contains {X = ℕ × ℕ} fs (c, place)) (sym firsts) (one_there (c, place))

  pub one_within : LeadsWithin (length ms) n
  one_within d to has =
      let same : (c, place) ≡ (d, to) = only_one (c, place) (d, to) (subst (λ fs. Contains {X = ℕ × ℕ} fs (d, to)) firsts has) in
      let at : place ≡ to = ap (λ (p : ℕ × ℕ). p.1) same in
      (subst (λ k. k < length ms) at chain.within, subst (λ d. d ≤ greatest_character) (ap (λ (p : ℕ × ℕ). p.0) same) low)

  there : (w : List ℕ) → ((r : List ℕ) × (w ≡ (c ∷ text) ++ r) × Spells ns target r) → Spells new (length ms) w
  there w k =
      let s = (chain.spells (text ++ k.0)).1 (k.0, refl, k.2) in
      let t = at_more ms (n ∷ []) place (text ++ k.0) s in
      subst (λ xs. Spells xs (length ms) w) (sym e)
      (subst (Spells (ms ++ n ∷ []) (length ms)) (sym k.1) (n, slice_get-end ms n, (place, t.0, first_there, t.1, t.2)))

  back : (w : List ℕ) (m : OutputNode) → n ≡ m → NodeSpells (ms ++ n ∷ []) w m → (r : List ℕ) × (w ≡ (c ∷ text) ++ r) × Spells ns target r
  back [] m q s = not_both m.ends s (ap (λ (x : OutputNode). x.ends) (sym q) ∙ ends)
  back (d ∷ w) m q s =
      let has : Contains {X = ℕ × ℕ} ((c, place) ∷ []) (d, s.0) = subst (λ fs. Contains {X = ℕ × ℕ} fs (d, s.0)) (ap (λ (x : OutputNode). x.firsts) (sym q) ∙ firsts) s.2 in
      let same : (c, place) ≡ (d, s.0) = only_one (c, place) (d, s.0) has in
      let at : place ≡ s.0 = ap (λ (p : ℕ × ℕ). p.1) same in
      let here : Spells (ms ++ n ∷ []) place w = (s.1, subst (λ k. slice_get (ms ++ n ∷ []) k ≡ Some s.1) (sym at) s.3, s.4) in
      let k = (chain.spells w).0 (at_back ms (n ∷ []) chain.grown.closed place w chain.within here) in
      (k.0, (λ i. ap (λ (p : ℕ × ℕ). p.0) (sym same) i ∷ k.1 i), k.2)

  from_there : (w : List ℕ) → Spells new (length ms) w → (r : List ℕ) × (w ≡ (c ∷ text) ++ r) × Spells ns target r
  from_there w s =
      let t = subst (λ xs. Spells xs (length ms) w) e s in
      back w t.0 (same_Some n t.0 (sym (slice_get-end ms n) ∙ t.1)) t.2

  pub chain_more : (k : ℕ) → k ≡ length ms → IsChain ns new (c ∷ text) target k
  chain_more k q = record {
    grown = grown_push ns ms n new chain.grown one_within e;
    within = next_below k (length ms) (length new) (ap length e ∙ length-append ms (n ∷ [])) q;
    spells = λ w. subst (λ j. Spells new j w ↔ ((r : List ℕ) × (w ≡ (c ∷ text) ++ r) × Spells ns target r)) (sym q) (from_there w, there w);
  }

-- one element more of what is added
pub added_more : (ns ms old firsts : List (ℕ × ℕ)) (i : ℕ) (x : ℕ × ℕ) → i < length firsts → slice_get firsts i ≡ Some x
    → ((f : ℕ × ℕ) → Contains ns f ↔ (Contains old f ⊎ Contains (take i firsts) f)) → ((f : ℕ × ℕ) → Contains ms f ↔ (Contains ns f ⊎ (x ≡ f)))
    → (f : ℕ × ℕ) → Contains ms f ↔ (Contains old f ⊎ Contains (take (i + 1) firsts) f)
added_more ns ms old firsts i x h at g k f =
    let e : x ≡ get_or firsts i x = sym (get_or_from_slice_get firsts i x x at) in
    let t : take (i + 1) firsts ≡ take i firsts ++ x ∷ [] = take_more firsts i x h ∙ ap (λ y. take i firsts ++ y ∷ []) (sym e) in (
      λ c. ⊎_elim
          (λ a. ⊎_elim inl (λ b. inr (subst (λ xs. Contains xs f) (sym t) (Contains-append_left (take i firsts) (x ∷ []) f b))) ((g f).0 a))
          (λ a. inr (subst (λ xs. Contains xs f) (sym t) (Contains-append_right (take i firsts) (x ∷ []) f (0, omega arith, a))))
          ((k f).0 c),
      λ c. ⊎_elim
          (λ a. (k f).1 (inl ((g f).1 (inl a))))
          (λ a. ⊎_elim (λ b. (k f).1 (inl ((g f).1 (inr b)))) (λ b. (k f).1 (inr (only_one x f b))) (Contains-append_cases (take i firsts) (x ∷ []) f (subst (λ xs. Contains xs f) t a)))
          c,
    )

-- a node that writes what another one did too
module _ (ns : List OutputNode) (closed : LeadToNodes ns) (old new other : OutputNode) (target : ℕ) (l : LeadsWithin (length ns) old) (at : slice_get ns target ≡ Some other)
    (firsts : (f : ℕ × ℕ) → Contains new.firsts f ↔ (Contains old.firsts f ⊎ Contains other.firsts f)) (ends : new.ends ≡ old.ends || other.ends) where
  joined_within : LeadsWithin (length ns) new
  joined_within c to has = ⊎_elim (λ a. l c to a) (λ b. closed other (slice_get-contains ns target other at) c to b) ((firsts (c, to)).0 has)

  joined_to : (w : List ℕ) → NodeSpells ns w new → NodeSpells ns w old ⊎ ((r : List ℕ) × (w ≡ [] ++ r) × Spells ns target r)
  joined_to [] s = ⊎_elim inl (λ b. inr ([], refl, (other, at, b))) (or_cases old.ends other.ends (sym ends ∙ s))
  joined_to (c ∷ w) s = ⊎_elim (λ a. inl (s.0, s.1, a, s.3, s.4)) (λ b. inr (c ∷ w, refl, (other, at, (s.0, s.1, b, s.3, s.4)))) ((firsts (c, s.0)).0 s.2)

  from_old : (w : List ℕ) → NodeSpells ns w old → NodeSpells ns w new
  from_old [] s = ends ∙ or_left old.ends other.ends s
  from_old (c ∷ w) s = (s.0, s.1, (firsts (c, s.0)).1 (inl s.2), s.3, s.4)

  from_other : (w : List ℕ) (m : OutputNode) → other ≡ m → NodeSpells ns w m → NodeSpells ns w new
  from_other [] m e s = ends ∙ or_right old.ends other.ends (ap (λ (x : OutputNode). x.ends) e ∙ s)
  from_other (c ∷ w) m e s = (s.0, s.1, (firsts (c, s.0)).1 (inr (subst (λ (x : OutputNode). Contains {X = ℕ × ℕ} x.firsts (c, s.0)) (sym e) s.2)), s.3, s.4)

  pub text_joined : (text : List ℕ) → text ≡ [] → AddsText ns ns old new text target
  text_joined text e = subst (λ t. AddsText ns ns old new t target) (sym e) (record {
    grown = grown_none ns closed;
    within = joined_within;
    spells = λ w. (joined_to w, λ k. ⊎_elim (from_old w) (λ b. subst (λ v. NodeSpells ns v new) (sym b.1) (from_other b.0 b.2.0 (same_Some other b.2.0 (sym at ∙ b.2.1)) b.2.2)) k);
  })

-- and one that writes a text too, by its first character and a chain for the others
module _ (ns ms : List OutputNode) (closed : LeadToNodes ns) (old new : OutputNode) (c : ℕ) (text : List ℕ) (target k : ℕ) (l : LeadsWithin (length ns) old) (chain : IsChain ns ms text target k)
    (firsts : (f : ℕ × ℕ) → Contains new.firsts f ↔ (Contains old.firsts f ⊎ ((c, k) ≡ f))) (ends : new.ends ≡ old.ends) (low : c ≤ greatest_character) where
  longer : length ns ≤ length ms
  longer = at_least (length ns) (length ms) (length chain.grown.more) (ap length chain.grown.are ∙ length-append ns chain.grown.more)

  added_within : LeadsWithin (length ms) new
  added_within d to has = ⊎_elim (λ a. let h = l d to a in (below_more to (length ns) (length ms) h.0 longer, h.1))
      (λ b. (subst (λ n. n < length ms) (ap (λ (p : ℕ × ℕ). p.1) b) chain.within, subst (λ x. x ≤ greatest_character) (ap (λ (p : ℕ × ℕ). p.0) b) low)) ((firsts (d, to)).0 has)

  old_back : (w : List ℕ) → NodeSpells ms w old → NodeSpells ns w old
  old_back w s = spells_back ns chain.grown.more closed w old l (subst (λ xs. NodeSpells xs w old) chain.grown.are s)

  old_more : (w : List ℕ) → NodeSpells ns w old → NodeSpells ms w old
  old_more w s = subst (λ xs. NodeSpells xs w old) (sym chain.grown.are) (spells_more ns chain.grown.more w old s)

  added_to : (w : List ℕ) → NodeSpells ms w new → NodeSpells ns w old ⊎ ((r : List ℕ) × (w ≡ (c ∷ text) ++ r) × Spells ns target r)
  added_to [] s = inl (sym ends ∙ s)
  added_to (d ∷ w) s = ⊎_elim
      (λ a. inl (old_back (d ∷ w) (s.0, s.1, a, s.3, s.4)))
      (λ b.
      let here : Spells ms k w = (s.1, subst (λ n. slice_get ms n ≡ Some s.1) (sym (ap (λ (p : ℕ × ℕ). p.1) b)) s.3, s.4) in
      let q = (chain.spells w).0 here in
      inr (q.0, (λ i. ap (λ (p : ℕ × ℕ). p.0) (sym b) i ∷ q.1 i), q.2))
      ((firsts (d, s.0)).0 s.2)

  old_added : (w : List ℕ) → NodeSpells ms w old → NodeSpells ms w new
  old_added [] s = ends ∙ s
  old_added (d ∷ w) s = (s.0, s.1, (firsts (d, s.0)).1 (inl s.2), s.3, s.4)

  text_added_from : (w : List ℕ) → ((r : List ℕ) × (w ≡ (c ∷ text) ++ r) × Spells ns target r) → NodeSpells ms w new
  text_added_from w q =
      let s = (chain.spells (text ++ q.0)).1 (q.0, refl, q.2) in
      subst (λ v. NodeSpells ms v new) (sym q.1) (k, s.0, (firsts (c, k)).1 (inr refl), s.1, s.2)

  pub text_added : AddsText ns ms old new (c ∷ text) target
  text_added = record {
    grown = chain.grown;
    within = added_within;
    spells = λ w. (added_to w, λ q. ⊎_elim (λ a. old_added w (old_more w a)) (text_added_from w) q);
  }

pub pushed_contains : (ns ms : List (ℕ × ℕ)) (x : ℕ × ℕ) → ms ≡ ns ++ x ∷ [] → (f : ℕ × ℕ) → Contains ms f ↔ (Contains ns f ⊎ (x ≡ f))
pushed_contains ns ms x e f = (
  λ c. ⊎_elim inl (λ b. inr (only_one x f b)) (Contains-append_cases ns (x ∷ []) f (subst (λ xs. Contains xs f) e c)),
  λ c. subst (λ xs. Contains xs f) (sym e) (⊎_elim (Contains-append_left ns (x ∷ []) f) (λ b. Contains-append_right ns (x ∷ []) f (0, omega arith, b)) c),
)

pub text_split : (text : List ℕ) → 0 < length text → text ≡ get_or text 0 0 ∷ take (length text - 1) (drop 1 text)
text_split [] h = absurd (omega arith)
text_split (c ∷ text) h =
    let n : length (c ∷ text) - 1 ≡ length text = omega arith in
    ap (λ t. c ∷ t) (sym (ap (λ k. take k (drop 1 (c ∷ text))) n ∙ take_all (length text) text (omega arith)))

pub empty_text : (text : List ℕ) → true ≡ (length text == 0) → text ≡ []
empty_text [] e = refl
empty_text (c ∷ text) e = let h = eqb-true (length (c ∷ text)) 0 (sym e) in absurd (omega (arith, h))

pub some_text : (text : List ℕ) → false ≡ (length text == 0) → 0 < length text
some_text [] e = absurd (cc)
some_text (c ∷ text) e = omega arith

-- growth of growth, and what old places write then
pub grown_again : (ns ms ls : List OutputNode) → AreGrown ns ms → AreGrown ms ls → AreGrown ns ls
grown_again ns ms ls g h = record {
  more = g.more ++ h.more;
  are = h.are ∙ ap (λ xs. xs ++ h.more) g.are ∙ append_assoc ns g.more h.more;
  closed = h.closed;
}

pub grown_long : (ns ms : List OutputNode) → AreGrown ns ms → length ns ≤ length ms
grown_long ns ms g = at_least (length ns) (length ms) (length g.more) (ap length g.are ∙ length-append ns g.more)

pub grown_at : (ns ms : List OutputNode) → LeadToNodes ns → AreGrown ns ms → (k : ℕ) (w : List ℕ) → k < length ns → Spells ms k w ↔ Spells ns k w
grown_at ns ms closed g k w h = (
  λ s. at_back ns g.more closed k w h (subst (λ xs. Spells xs k w) g.are s),
  λ s. subst (λ xs. Spells xs k w) (sym g.are) (at_more ns g.more k w s),
)

pub grown_node : (ns ms : List OutputNode) → LeadToNodes ns → AreGrown ns ms → (n : OutputNode) (w : List ℕ) → LeadsWithin (length ns) n → NodeSpells ms w n ↔ NodeSpells ns w n
grown_node ns ms closed g n w l = (
  λ s. spells_back ns g.more closed w n l (subst (λ xs. NodeSpells xs w n) g.are s),
  λ s. subst (λ xs. NodeSpells xs w n) (sym g.are) (spells_more ns g.more w n s),
)

pub word_at : (text : List ℕ) (i : ℕ) → IsWord text → i < length text → get_or text i 0 ≤ greatest_character
word_at [] i w h = absurd (omega arith)
word_at (c ∷ text) zero w h = w.0
word_at (c ∷ text) (suc i) w h = word_at text i w.1 (omega arith)

pub word_rest : (text rest : List ℕ) (c : ℕ) → text ≡ c ∷ rest → IsWord text → IsWord rest
word_rest text rest c e w = (let v = subst IsWord e w in v.1)
