-- Nodes of what a transducer may write.
use Rattle.std.proofs.Common.{◌≡◌, refl, sym, ap, ◌∙◌, subst, true, false, ℕ, zero, suc, ◌+◌, ◌<◌, ◌⊎◌, inl, inr, ⊎_elim, ◌↔◌, List, [], ◌∷◌, ◌++◌, length, get_or, take, drop, Contains, Option, Some, None, arith}
use Rattle.std.specs.Prelude.{slice_get}
use Rattle.std.proofs.lemmas.List.{append-nil, append_assoc, length-append, take_more}
use Rattle.std.proofs.lemmas.List.Elements.{Contains-append_left, Contains-append_right, Contains-append_cases}
use Rattle.std.proofs.lemmas.Option.{slice_get-get_or, same_Some}
use Rattle.std.proofs.lemmas.Bool.{false≢true}
use Rattle.sv_list.specs.Lists.{slice_get-end, Contains-none}
use Rattle.sv_terms.specs.Transduction.{Transduces, Writes}
use Rattle.sv_terms.specs.declared.transducer.TransEdge.{TransEdge}
use Rattle.sv_terms.specs.declared.transducer.Transducer.{Transducer}
use Rattle.transducer_core.specs.Nodes.{AddsText, LeadToNodes, AreGrown, LeadsWithin, NodeSpells, Spells}
use Rattle.transducer_core.specs.Outputs.{AddsWords, ArePlaces, EndsBy, IsBase, IsOutput, MakesNode, MakesPlaces, OverEdge, OverEdges}
use Rattle.transducer_core.specs.declared.node.OutputNode.{OutputNode}
use Rattle.transducer_core.proofs.NodeLemmas.{grown_again, grown_at, grown_long, grown_node, grown_none, grown_push, only_one}

pub none_some : {X : Type 0} (o : Option X) (x : X) → o ≡ None → o ≡ Some x → ⊥
none_some o x e f = cc (e, f)

pub adds_none : (ns : List OutputNode) (node : OutputNode) (Q : List ℕ → Type 0) → LeadToNodes ns → LeadsWithin (length ns) node → ((w : List ℕ) → Q w → ⊥) → AddsWords ns ns node node Q
adds_none ns node Q closed l n = record {
  grown = grown_none ns closed;
  within = l;
  spells = λ w. (inl, λ k. ⊎_elim (λ s. s) (λ q. absurd (n w q)) k);
}

-- what a text adds, by any other telling of it
pub adds_told : (ns ms : List OutputNode) (old new : OutputNode) (text : List ℕ) (target : ℕ) (Q : List ℕ → Type 0) → AddsText ns ms old new text target
    → ((w : List ℕ) → Q w ↔ ((r : List ℕ) × (w ≡ text ++ r) × Spells ns target r)) → AddsWords ns ms old new Q
adds_told ns ms old new text target Q a q = record {
  grown = a.grown;
  within = a.within;
  spells = λ w. (λ s. ⊎_elim inl (λ k. inr ((q w).1 k)) ((a.spells w).0 s), λ k. (a.spells w).1 (⊎_elim inl (λ x. inr ((q w).0 x)) k));
}

pub end_told : (ns : List OutputNode) (e : ℕ × List ℕ) (s : ℕ) → IsBase ns → e.0 ≡ s → (w : List ℕ) → (e ≡ (s, w)) ↔ ((r : List ℕ) × (w ≡ e.1 ++ r) × Spells ns 0 r)
end_told ns e s base h w = (
  λ q. ([], sym (ap (λ (p : ℕ × List ℕ). p.1) q) ∙ sym (append-nil e.1), (base.nothing []).1 refl),
  λ k. let none : k.0 ≡ [] = (base.nothing k.0).0 k.2 in
      let same : e.1 ≡ w = sym (k.1 ∙ ap (λ r. e.1 ++ r) none ∙ append-nil e.1) in
      (λ i. (h i, same i)),
)

pub edge_told : (ns : List OutputNode) (places : List ℕ) (s c : ℕ) (e : TransEdge) (text : List ℕ) (target : ℕ) → Transduces s c text e → slice_get places e.to ≡ Some target
    → (w : List ℕ) → OverEdge ns places s c e w ↔ ((r : List ℕ) × (w ≡ text ++ r) × Spells ns target r)
edge_told ns places s c e text target m at w = (
  λ k.
      let same : k.0 ≡ text = same_Some k.0 text (sym k.3.3 ∙ m.3) in
      let place : k.2 ≡ target = same_Some k.2 target (sym k.4 ∙ at) in
      (k.1, k.5 ∙ ap (λ t. t ++ k.1) same, subst (λ p. Spells ns p k.1) place k.6),
  λ k. (text, k.0, target, m, at, k.1, k.2),
)

-- one end or edge more
pub ends_more : (ends : List (ℕ × List ℕ)) (i s : ℕ) (e : ℕ × List ℕ) → i < length ends → e ≡ get_or ends i e → (w : List ℕ)
    → EndsBy (take (i + 1) ends) s w ↔ (EndsBy (take i ends) s w ⊎ (e ≡ (s, w)))
ends_more ends i s e h at w =
    let t : take (i + 1) ends ≡ take i ends ++ e ∷ [] = take_more ends i e h ∙ ap (λ y. take i ends ++ y ∷ []) (sym at) in (
      λ c. ⊎_elim inl (λ b. inr (only_one e (s, w) b)) (Contains-append_cases (take i ends) (e ∷ []) (s, w) (subst (λ xs. Contains {X = ℕ × List ℕ} xs (s, w)) t c)),
      λ c. subst (λ xs. Contains {X = ℕ × List ℕ} xs (s, w)) (sym t) (⊎_elim (Contains-append_left (take i ends) (e ∷ []) (s, w)) (λ b. Contains-append_right (take i ends) (e ∷ []) (s, w) (0, omega arith, b)) c),
    )

pub edges_more : (ns : List OutputNode) (places : List ℕ) (edges : List TransEdge) (i s c : ℕ) (e : TransEdge) → i < length edges → e ≡ get_or edges i e → (w : List ℕ)
    → OverEdges ns places s c (take (i + 1) edges) w ↔ (OverEdges ns places s c (take i edges) w ⊎ OverEdge ns places s c e w)
edges_more ns places edges i s c e h at w =
    let t : take (i + 1) edges ≡ take i edges ++ e ∷ [] = take_more edges i e h ∙ ap (λ y. take i edges ++ y ∷ []) (sym at) in (
      λ k. ⊎_elim (λ a. inl (k.0, a, k.2)) (λ b. inr (subst (λ x. OverEdge ns places s c x w) (sym (only_one e k.0 b)) k.2)) (Contains-append_cases (take i edges) (e ∷ []) k.0 (subst (λ xs. Contains xs k.0) t k.1)),
      λ k. ⊎_elim (λ a. (a.0, subst (λ xs. Contains xs a.0) (sym t) (Contains-append_left (take i edges) (e ∷ []) a.0 a.1), a.2))
          (λ b. (e, subst (λ xs. Contains xs e) (sym t) (Contains-append_right (take i edges) (e ∷ []) e (0, omega arith, refl)), b)) k,
    )

-- the same over nodes that are more
pub over_same : (ns ms : List OutputNode) (places : List ℕ) (s c : ℕ) (e : TransEdge) → LeadToNodes ns → AreGrown ns ms → ArePlaces ns places → (w : List ℕ)
    → OverEdge ms places s c e w ↔ OverEdge ns places s c e w
over_same ns ms places s c e closed g p w = (
  λ k. (k.0, k.1, k.2, k.3, k.4, k.5, (grown_at ns ms closed g k.2 k.1 (p e.to k.2 k.4)).0 k.6),
  λ k. (k.0, k.1, k.2, k.3, k.4, k.5, (grown_at ns ms closed g k.2 k.1 (p e.to k.2 k.4)).1 k.6),
)

pub over_all_same : (ns ms : List OutputNode) (places : List ℕ) (s c : ℕ) (edges : List TransEdge) → LeadToNodes ns → AreGrown ns ms → ArePlaces ns places → (w : List ℕ)
    → OverEdges ms places s c edges w ↔ OverEdges ns places s c edges w
over_all_same ns ms places s c edges closed g p w =
    (λ k. (k.0, k.1, (over_same ns ms places s c k.0 closed g p w).0 k.2), λ k. (k.0, k.1, (over_same ns ms places s c k.0 closed g p w).1 k.2))

pub places_grown : (ns ms : List OutputNode) (places : List ℕ) → AreGrown ns ms → ArePlaces ns places → ArePlaces ms places
places_grown ns ms places g p s k e = let h = p s k e in let l = grown_long ns ms g in omega (arith, h, l)

pub base_grown : (ns ms : List OutputNode) → IsBase ns → AreGrown ns ms → IsBase ms
base_grown ns ms b g = record {
  closed = g.closed;
  some = (let l = grown_long ns ms g in let h = b.some in omega (arith, l, h));
  nothing = λ w. (λ s. (b.nothing w).0 ((grown_at ns ms b.closed g 0 w b.some).0 s), λ e. (grown_at ns ms b.closed g 0 w b.some).1 ((b.nothing w).1 e));
}

-- a node of no word, and one with more words
pub made_none : (ns : List OutputNode) (n : OutputNode) (P : List ℕ → Type 0) → LeadToNodes ns → n.firsts ≡ [] → n.ends ≡ false → ((w : List ℕ) → P w → ⊥) → MakesNode ns ns n P
made_none ns n P closed firsts ends none = record {
  grown = grown_none ns closed;
  within = λ c to has. absurd (nothing_there c to has);
  spells = λ w. (λ s. absurd (no_word w s), λ p. absurd (none w p));
}
  where
    nothing_there : (c to : ℕ) → Contains {X = ℕ × ℕ} n.firsts (c, to) → ⊥
    nothing_there c to has = Contains-none {X = ℕ × ℕ} (c, to) (subst (λ fs. Contains {X = ℕ × ℕ} fs (c, to)) firsts has)

    no_word : (w : List ℕ) → NodeSpells ns w n → ⊥
    no_word [] s = false≢true (sym ends ∙ s)
    no_word (c ∷ w) s = nothing_there c s.0 s.2

pub made_more : (ns ms ls : List OutputNode) (old new : OutputNode) (P Q R : List ℕ → Type 0) → MakesNode ns ms old P → AddsWords ms ls old new Q → ((w : List ℕ) → R w ↔ (P w ⊎ Q w)) → MakesNode ns ls new R
made_more ns ms ls old new P Q R m a r = record {
  grown = grown_again ns ms ls m.grown a.grown;
  within = a.within;
  spells = λ w. (
    λ s. (r w).1 (⊎_elim (λ x. inl ((m.spells w).0 x)) inr ((a.spells w).0 s)),
    λ x. (a.spells w).1 (⊎_elim (λ p. inl ((m.spells w).1 p)) inr ((r w).0 x)),
  );
}

pub places_more : (ns ms ls new : List OutputNode) (places more : List ℕ) (i k : ℕ) (n : OutputNode) (P : ℕ → List ℕ → Type 0) (Q : List ℕ → Type 0)
    → MakesPlaces ns ms i places P → MakesNode ms ls n Q → ((w : List ℕ) → Q w ↔ P i w) → new ≡ ls ++ n ∷ [] → k ≡ length ls → more ≡ places ++ k ∷ [] → MakesPlaces ns new (i + 1) more P
places_more ns ms ls new places more i k n P Q p m q e h f = record {
  grown = grown;
  many = ap length f ∙ length-append places (k ∷ []) ∙ ap (λ x. x + 1) p.many;
  within = λ s j at. ⊎_elim (λ old. let a = p.within s j old in let l = grown_long ms new later in omega (arith, a, l)) (λ last. let l = ap length e ∙ length-append ls (n ∷ []) in omega (arith, last.1, l, h)) (which s j at);
  spells = λ s j at w. ⊎_elim (λ old. (λ x. (p.spells s j old w).0 ((grown_at ms new p.grown.closed later j w (p.within s j old)).0 x), λ x. (grown_at ms new p.grown.closed later j w (p.within s j old)).1 ((p.spells s j old w).1 x)))
      (λ last. (
        λ x. subst (λ y. P y w) (sym last.0) ((q w).0 ((m.spells w).0 (own w (subst (λ y. Spells new y w) last.1 x)))),
        λ x. subst (λ y. Spells new y w) (sym last.1) (own_back w ((m.spells w).1 ((q w).1 (subst (λ y. P y w) last.0 x)))),
      ))
      (which s j at);
}
  where
    later : AreGrown ms new
    later = grown_push ms ls n new m.grown m.within e

    grown : AreGrown ns new
    grown = grown_again ns ms new p.grown later

    split : (xs : List ℕ) (y s j : ℕ) → slice_get (xs ++ y ∷ []) s ≡ Some j → (slice_get xs s ≡ Some j) ⊎ ((s ≡ length xs) × (j ≡ y))
    split [] y zero j at = inr (refl, sym (same_Some y j at))
    split [] y (suc s) j at = absurd (cc)
    split (x ∷ xs) y zero j at = inl at
    split (x ∷ xs) y (suc s) j at = ⊎_elim inl (λ r. inr (ap suc r.0, r.1)) (split xs y s j at)

    which : (s j : ℕ) → slice_get more s ≡ Some j → (slice_get places s ≡ Some j) ⊎ ((s ≡ i) × (j ≡ length ls))
    which s j at = ⊎_elim inl (λ r. inr (r.0 ∙ p.many, r.1 ∙ h)) (split places k s j (subst (λ xs. slice_get xs s ≡ Some j) f at))

    push : AreGrown ls (ls ++ n ∷ [])
    push = grown_push ls ls n (ls ++ n ∷ []) (grown_none ls m.grown.closed) m.within refl

    own : (w : List ℕ) → Spells new (length ls) w → NodeSpells ls w n
    own w s =
        let t = subst (λ xs. Spells xs (length ls) w) e s in
        let same : t.0 ≡ n = same_Some t.0 n (sym t.1 ∙ slice_get-end ls n) in
        (grown_node ls (ls ++ n ∷ []) m.grown.closed push n w m.within).0 (subst (NodeSpells (ls ++ n ∷ []) w) same t.2)

    own_back : (w : List ℕ) → NodeSpells ls w n → Spells new (length ls) w
    own_back w s = subst (λ xs. Spells xs (length ls) w) (sym e) (n, slice_get-end ls n, (grown_node ls (ls ++ n ∷ []) m.grown.closed push n w m.within).1 s)

-- the first node of all
pub base_one : (ns : List OutputNode) (n : OutputNode) → ns ≡ n ∷ [] → n.firsts ≡ [] → n.ends ≡ true → IsBase ns
base_one ns n e firsts ends = subst IsBase (sym e) (record {
  closed = λ m has c to there. absurd (none_here m has c to there);
  some = omega arith;
  nothing = λ w. (λ s. only w s, λ q. (n, refl, subst (λ v. NodeSpells (n ∷ []) v n) (sym q) ends));
})
  where
    none_here : (m : OutputNode) → Contains (n ∷ []) m → (c to : ℕ) → Contains {X = ℕ × ℕ} m.firsts (c, to) → ⊥
    none_here m has c to there = Contains-none {X = ℕ × ℕ} (c, to) (subst (λ fs. Contains {X = ℕ × ℕ} fs (c, to)) (ap (λ (x : OutputNode). x.firsts) (sym (only_one n m has)) ∙ firsts) there)

    none_from : (m : OutputNode) (c to : ℕ) → n ≡ m → Contains {X = ℕ × ℕ} m.firsts (c, to) → ⊥
    none_from m c to q there = Contains-none {X = ℕ × ℕ} (c, to) (subst (λ fs. Contains {X = ℕ × ℕ} fs (c, to)) (ap (λ (x : OutputNode). x.firsts) (sym q) ∙ firsts) there)

    only : (w : List ℕ) → Spells (n ∷ []) 0 w → w ≡ []
    only [] s = refl
    only (c ∷ w) s = absurd (none_from s.0 c s.2.0 (same_Some n s.0 s.1) s.2.2)

-- where nothing is left to read, an end is written
pub end_writes : (t : Transducer) (s : ℕ) (w : List ℕ) → EndsBy t.ends s w ↔ Writes t s [] w
end_writes t s w = (
  λ h. (s, [], w, (refl, refl), h, refl),
  λ k.
      let same : w ≡ k.2 = k.5 ∙ ap (λ p. p ++ k.2) k.3.0 in
      subst (λ v. EndsBy t.ends s v) (sym same) (subst (λ n. EndsBy t.ends n k.2) (sym k.3.1) k.4),
)

writes_more : (t : Transducer) (s a : ℕ) (read text r : List ℕ) (e : TransEdge) → Contains t.edges e → Transduces s a text e → Writes t e.to read r → Writes t s (a ∷ read) (text ++ r)
writes_more t s a read text r e has m k =
    (k.0, text ++ k.1, k.2, (e, text, k.1, has, m, refl, k.3), k.4, ap (λ (x : List ℕ). text ++ x) k.5 ∙ sym (append_assoc text k.1 k.2))

-- and else an edge is taken
pub edges_write : (t : Transducer) (ns ms : List OutputNode) (places read : List ℕ) (s c : ℕ) → MakesPlaces ns ms t.states places (λ q w. Writes t q read w) → ((e : TransEdge) → Contains t.edges e → e.to < t.states)
    → (w : List ℕ) → OverEdges ms places s c t.edges w ↔ Writes t s (c ∷ read) w
edges_write t ns ms places read s c p to w = (
  λ k. subst (Writes t s (c ∷ read)) (sym k.2.5) (writes_more t s c read k.2.0 k.2.1 k.0 k.1 k.2.3 ((p.spells k.0.to k.2.2 k.2.4 k.2.1).0 k.2.6)),
  λ k.
      let e = k.3.0 in
      let low : k.3.0.to < length places = (let a = to k.3.0 k.3.3 in let m = p.many in omega (arith, a, m)) in
      let at = slice_get-get_or places k.3.0.to 0 low in
      let rest = k.3.2 ++ k.2 in (
        k.3.0,
        k.3.3,
        (
          k.3.1,
          k.3.2 ++ k.2,
          get_or places k.3.0.to 0,
          k.3.4,
          at,
          k.5 ∙ ap (λ x. x ++ k.2) k.3.5 ∙ append_assoc k.3.1 k.3.2 k.2,
          (p.spells k.3.0.to (get_or places k.3.0.to 0) at (k.3.2 ++ k.2)).1 (k.0, k.3.2, k.2, k.3.6, k.4, refl),
        ),
      ),
)

pub places_told : (ns ms ls : List OutputNode) (count : ℕ) (places : List ℕ) (P Q : ℕ → List ℕ → Type 0) → AreGrown ns ms → MakesPlaces ms ls count places P → ((s : ℕ) (w : List ℕ) → P s w ↔ Q s w) → MakesPlaces ns ls count places Q
places_told ns ms ls count places P Q g p q = record {
  grown = grown_again ns ms ls g p.grown;
  many = p.many;
  within = p.within;
  spells = λ s k at w. (λ x. (q s w).0 ((p.spells s k at w).0 x), λ y. (p.spells s k at w).1 ((q s w).1 y));
}

pub places_fresh : (ns ms : List OutputNode) (count : ℕ) (places : List ℕ) (P Q : ℕ → List ℕ → Type 0) → MakesPlaces ns ms count places P → ((s : ℕ) (w : List ℕ) → P s w ↔ Q s w) → MakesPlaces ms ms count places Q
places_fresh ns ms count places P Q p q = record {
  grown = grown_none ms p.grown.closed;
  many = p.many;
  within = p.within;
  spells = λ s k at w. (λ x. (q s w).0 ((p.spells s k at w).0 x), λ y. (p.spells s k at w).1 ((q s w).1 y));
}

pub drop_all : (read : List ℕ) → drop (length read) read ≡ []
drop_all [] = refl
drop_all (c ∷ read) = drop_all read

pub ends_write : (t : Transducer) (read : List ℕ) (s : ℕ) (w : List ℕ) → EndsBy t.ends s w ↔ Writes t s (drop (length read) read) w
ends_write t read s w = subst (λ r. EndsBy t.ends s w ↔ Writes t s r w) (sym (drop_all read)) (end_writes t s w)

pub output_of : (t : Transducer) (read : List ℕ) (ns ms : List OutputNode) (places : List ℕ) → MakesPlaces ns ms t.states places (λ s w. Writes t s read w) → t.start < t.states → IsOutput t read ms (get_or places t.start 0)
output_of t read ns ms places p h =
    let low : t.start < length places = (let m = p.many in omega (arith, h, m)) in
    let at = slice_get-get_or places t.start 0 low in
    record {
      closed = p.grown.closed;
      within = p.within t.start (get_or places t.start 0) at;
      spells = p.spells t.start (get_or places t.start 0) at;
    }
