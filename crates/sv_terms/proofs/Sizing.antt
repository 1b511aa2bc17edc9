-- How much transducers write, and when they are formed.
use Rattle.std.proofs.Common.{refl, subst, ℕ, zero, suc, ◌↔◌, IsTrue, Bool, List, [], ◌∷◌, arith, Contains, ltb-true, lt-ltb, leb-true, le-leb}
use Rattle.std.specs.Prelude.{nat_le, nat_lt}
use Rattle.std.specs.List.{list_all}
use Rattle.std.proofs.lemmas.Bool.{and_parts, and_from}
use Rattle.sv_word.specs.Words.{greatest_character}
use Rattle.sv_terms.specs.Language.{Word}
use Rattle.sv_terms.specs.Matches.{is_word}
use Rattle.sv_terms.specs.Transduction.{AreItems, IsFormedEdge, IsFormedEnd, IsFormed}
use Rattle.sv_terms.specs.TransducerSizes.{are_items, is_formed_edge, is_formed_end, is_formed}
use Rattle.sv_terms.specs.declared.transducer.Item.{Item}
use Rattle.sv_terms.specs.declared.transducer.Item.TheVariants as item
use Rattle.sv_terms.specs.declared.transducer.TransEdge.{TransEdge}
use Rattle.sv_terms.specs.declared.transducer.Transducer.{Transducer}
use Rattle.sv_terms.proofs.Matching.{is_word_same}

all_to : {X : Type 0} (p : X → Bool) (xs : List X) → IsTrue (list_all p xs) → (x : X) → Contains xs x → IsTrue (p x)
all_to p [] h x (k, lt, e) = absurd (omega (arith, lt))
all_to p (y ∷ xs) h x (zero, lt, e) = subst (λ z. IsTrue (p z)) e (and_parts (p y) (list_all p xs) h).0
all_to p (y ∷ xs) h x (suc k, lt, e) = all_to p xs (and_parts (p y) (list_all p xs) h).1 x (k, omega (arith, lt), e)

all_from : {X : Type 0} (p : X → Bool) (xs : List X) → ((x : X) → Contains xs x → IsTrue (p x)) → IsTrue (list_all p xs)
all_from p [] h = refl
all_from p (y ∷ xs) h = and_from (p y) (list_all p xs) (h y (zero, omega arith, refl)) (all_from p xs (λ x c. h x (suc c.0, omega (arith, c.1), c.2)))

items_to : (is : List Item) → IsTrue (are_items is) → AreItems is
items_to [] h = tt
items_to (item.Text w ∷ is) h = let k = and_parts (is_word w) (are_items is) h in ((is_word_same w).0 k.0, items_to is k.1)
items_to (item.Shift z ∷ is) h = items_to is h

items_from : (is : List Item) → AreItems is → IsTrue (are_items is)
items_from [] h = refl
items_from (item.Text w ∷ is) h = and_from (is_word w) (are_items is) ((is_word_same w).1 h.0) (items_from is h.1)
items_from (item.Shift z ∷ is) h = items_from is h

edge_to : (n : ℕ) (e : TransEdge) → IsTrue (is_formed_edge n e) → IsFormedEdge n e
edge_to n e h =
    let a = and_parts (nat_lt e.from n) _ h in
    let b = and_parts (nat_lt e.to n) _ a.1 in
    let c = and_parts (nat_le e.lo e.hi) _ b.1 in
    let d = and_parts (nat_le e.hi greatest_character) (are_items e.items) c.1 in
    record { from = ltb-true e.from n a.0; to = ltb-true e.to n b.0; order = leb-true e.lo e.hi c.0; high = leb-true e.hi greatest_character d.0; items = items_to e.items d.1 }

edge_from : (n : ℕ) (e : TransEdge) → IsFormedEdge n e → IsTrue (is_formed_edge n e)
edge_from n e h = and_from (nat_lt e.from n) _ (lt-ltb e.from n h.from) (and_from (nat_lt e.to n) _ (lt-ltb e.to n h.to) (and_from (nat_le e.lo e.hi) _ (le-leb e.lo e.hi h.order) (and_from (nat_le e.hi greatest_character) (are_items e.items) (le-leb e.hi greatest_character h.high) (items_from e.items h.items))))

end_to : (n : ℕ) (e : ℕ × Word) → IsTrue (is_formed_end n e) → IsFormedEnd n e
end_to n e h = let a = and_parts (nat_lt e.0 n) (is_word e.1) h in record { at = ltb-true e.0 n a.0; word = (is_word_same e.1).0 a.1 }

end_from : (n : ℕ) (e : ℕ × Word) → IsFormedEnd n e → IsTrue (is_formed_end n e)
end_from n e h = and_from (nat_lt e.0 n) (is_word e.1) (lt-ltb e.0 n h.at) ((is_word_same e.1).1 h.word)

pub formed-same : (t : Transducer) → IsTrue (is_formed t) ↔ IsFormed t
formed-same t = (
  λ h.
      let a = and_parts (nat_lt t.start t.states) _ h in
      let b = and_parts (list_all (is_formed_edge t.states) t.edges) (list_all (is_formed_end t.states) t.ends) a.1 in
      record {
        start = ltb-true t.start t.states a.0;
        edge = λ e c. edge_to t.states e (all_to (is_formed_edge t.states) t.edges b.0 e c);
        ending = λ e c. end_to t.states e (all_to (is_formed_end t.states) t.ends b.1 e c);
      },
  λ f. and_from (nat_lt t.start t.states) _ (lt-ltb t.start t.states f.start)
      (and_from (list_all (is_formed_edge t.states) t.edges) (list_all (is_formed_end t.states) t.ends)
      (all_from (is_formed_edge t.states) t.edges (λ e c. edge_from t.states e (f.edge e c)))
      (all_from (is_formed_end t.states) t.ends (λ e c. end_from t.states e (f.ending e c)))),
)
