-- Edges and ends stay well formed, and found by their states, where one more is added.
use Rattle.std.proofs.Common.{◌≡◌, ℕ, ◌≤◌, inl, inr, List, [], ◌∷◌, ◌++◌, length, replicate, IsTrue, ◌&&◌, nat_le, ◌+◌, sym, ap, ◌∙◌, subst, arith, Result, Ok, Err, OnOk, OnErr, Bool, false}
use Rattle.std.specs.Result.{is_err}
use Rattle.std.proofs.lemmas.Bool.Decides.{nat_tests}
use Rattle.std.proofs.lemmas.List.Elements.{Contains-push_cases}
use Rattle.std.proofs.lemmas.List.{length-replicate}
use Rattle.std.proofs.lemmas.Bool.{or_cases}
use Rattle.sv_word.specs.Ranges.{in_ranges, IsApartFrom}
use Rattle.machine_core.specs.declared.edge.Edge.{Edge}
use Rattle.machine_core.specs.declared.end.End.{End}
use Rattle.machine_core.specs.Places.{IsIndex, add_to}
use Rattle.machine_core.specs.Edges.{IsEdge, IsEnd, AreEdgesAndEnds, from_of, at_of}
use Rattle.machine_core.specs.Indexed.{AreIndexed}
use Rattle.machine_core.specs.PlaceLaws.{index-add, index-new, length-add_to}
use Rattle.sv_word.specs.Words.{greatest_character}

-- no edges and no ends
pub formed-none : (states width : ℕ) (edges : List Edge) (ends : List End) → edges ≡ [] → ends ≡ [] → AreEdgesAndEnds states width edges ends
formed-none states width edges ends a b = record {
  edge = λ e i. absurd (let n = ap length a in let x = i.1 in omega (arith, n, x));
  ending = λ e i. absurd (let n = ap length b in let x = i.1 in omega (arith, n, x));
}

pub indexed-none : (states : ℕ) (edges : List Edge) (ends : List End) (edge_places end_places : List (List ℕ)) → edges ≡ [] → ends ≡ []
    → edge_places ≡ replicate states [] → end_places ≡ replicate states [] → AreIndexed states edges ends edge_places end_places
indexed-none states edges ends edge_places end_places a b c d = record {
  edge_rows = ap length c ∙ length-replicate states [];
  end_rows = ap length d ∙ length-replicate states [];
  edges_found = subst (λ l. IsIndex from_of l edge_places) (sym a) (subst (IsIndex from_of []) (sym c) (index-new from_of states));
  ends_found = subst (λ l. IsIndex at_of l end_places) (sym b) (subst (IsIndex at_of []) (sym d) (index-new at_of states));
}

module _ (states width : ℕ) (edges : List Edge) (ends : List End) (formed : AreEdgesAndEnds states width edges ends) where
  formed-edge : (e : Edge) → IsEdge states width e → AreEdgesAndEnds states width (edges ++ e ∷ []) ends
  formed-edge e ok = record {
    edge = λ f k. elim (Contains-push_cases edges e f k) [ inl h ↦ formed.edge f h | inr h ↦ subst (IsEdge states width) h ok ];
    ending = formed.ending;
  }

  formed-end : (e : End) → IsEnd states width e → AreEdgesAndEnds states width edges (ends ++ e ∷ [])
  formed-end e ok = record {
    edge = formed.edge;
    ending = λ f k. elim (Contains-push_cases ends e f k) [ inl h ↦ formed.ending f h | inr h ↦ subst (IsEnd states width) h ok ];
  }

-- after a push that may have failed
module _ {T E : Type 0} (r : Result T E) (states width : ℕ) (edges new_edges : List Edge) (ends new_ends : List End) (formed : AreEdgesAndEnds states width edges ends) where
  pub formed-edge-pushed : (e : Edge) → IsEdge states width e → OnOk r (new_edges ≡ edges ++ e ∷ []) → OnErr r (new_edges ≡ edges) → AreEdgesAndEnds states width new_edges ends
  formed-edge-pushed e ok a b = by_case r a b
    where
      by_case : (r : Result T E) → OnOk r (new_edges ≡ edges ++ e ∷ []) → OnErr r (new_edges ≡ edges) → AreEdgesAndEnds states width new_edges ends
      by_case (Ok x) a b = subst (λ l. AreEdgesAndEnds states width l ends) (sym a) (formed-edge states width edges ends formed e ok)
      by_case (Err x) a b = subst (λ l. AreEdgesAndEnds states width l ends) (sym b) formed

  pub formed-end-pushed : (e : End) → IsEnd states width e → OnOk r (new_ends ≡ ends ++ e ∷ []) → OnErr r (new_ends ≡ ends) → AreEdgesAndEnds states width edges new_ends
  formed-end-pushed e ok a b = by_case r a b
    where
      by_case : (r : Result T E) → OnOk r (new_ends ≡ ends ++ e ∷ []) → OnErr r (new_ends ≡ ends) → AreEdgesAndEnds states width edges new_ends
      by_case (Ok x) a b = subst (λ l. AreEdgesAndEnds states width edges l) (sym a) (formed-end states width edges ends formed e ok)
      by_case (Err x) a b = subst (λ l. AreEdgesAndEnds states width edges l) (sym b) formed

module _ (states : ℕ) (edges : List Edge) (ends : List End) (edge_places end_places : List (List ℕ)) (ok : AreIndexed states edges ends edge_places end_places) where
  pub indexed-edge : (e : Edge) (new : List Edge) (rows : List (List ℕ)) (n : ℕ) → new ≡ edges ++ e ∷ [] → n ≡ length edges → rows ≡ add_to e.from n edge_places
      → AreIndexed states new ends rows end_places
  indexed-edge e new rows n a b d = rw (a, d, b) (record {
    edge_rows = length-add_to e.from (length edges) edge_places ∙ ok.edge_rows;
    end_rows = ok.end_rows;
    edges_found = index-add (λ e. e.from) edges e edge_places ok.edges_found;
    ends_found = ok.ends_found;
  })

  pub indexed-end : (e : End) (new : List End) (rows : List (List ℕ)) (n : ℕ) → new ≡ ends ++ e ∷ [] → n ≡ length ends → rows ≡ add_to e.at n end_places
      → AreIndexed states edges new edge_places rows
  indexed-end e new rows n a b d = rw (a, d, b) (record {
    edge_rows = ok.edge_rows;
    end_rows = length-add_to e.at (length ends) end_places ∙ ok.end_rows;
    edges_found = ok.edges_found;
    ends_found = index-add (λ e. e.at) ends e end_places ok.ends_found;
  })

-- what holds where a call did not fail
pub got : {X E P : Type 0} (r : Result X E) (b : Bool) → OnOk r P → b ≡ is_err r → b ≡ false → P
got (Ok x) b h e f = h
got (Err x) b h e f = cc

below_last : (low high c : ℕ) → IsTrue (nat_le low c && nat_le c high) → high ≤ greatest_character → c ≤ greatest_character
below_last low high c h e = grind (arith, nat_tests)

-- ranges hold characters alone
pub apart-characters : (low : ℕ) (rs : List (ℕ × ℕ)) → IsApartFrom low rs → (c : ℕ) → IsTrue (in_ranges rs c) → c ≤ greatest_character
apart-characters low [] h c e = cc
apart-characters low (p ∷ ps) h c e = elim (or_cases (nat_le p.0 c && nat_le c p.1) (in_ranges ps c) e) [
  | inl here ↦ below_last p.0 p.1 c here h.2
  | inr there ↦ apart-characters (p.1 + 2) ps h.3 c there
]
