-- Moves that are joined.
use Rattle.std.proofs.Common.{◌≡◌, ℕ, ◌↔◌, ◌⊎◌, inl, inr, List, [], ◌∷◌, ◌++◌, Any, Contains, sym, subst, arith}
use Rattle.std.proofs.lemmas.List.Sorted.{Contains-permutation, IsPermutation-sym}
use Rattle.std.proofs.lemmas.List.Elements.{Contains-push_cases}
use Rattle.std.specs.List.Sorted.{IsPermutation}
use Rattle.sv_word.specs.Ranges.{IsInhabited}
use Rattle.sv_list.specs.Lists.{Any-here, Any-append_left, Any-append_right, Any-push_cases, Any-contains, contained}
use Rattle.machine_core.specs.Moves.{Moves}
use Rattle.machine_core.specs.Joined.{AreJoinedMoves}
use Rattle.machine_core.specs.declared.machine.Move.{Move}

pub joined-none : AreJoinedMoves [] []
joined-none = record { exact = λ c k t. (λ a. a, λ a. a); inhabited = λ m i. absurd (let l = i.1 in omega arith) }

pub joined-same : (moves : List (Move ℕ)) → ((m : Move ℕ) → Contains moves m → IsInhabited m.on) → AreJoinedMoves moves moves
joined-same moves inhabited = record { exact = λ c k t. (λ a. a, λ a. a); inhabited = inhabited }

pub joined-more : (moves old new : List (Move ℕ)) (m : Move ℕ) → AreJoinedMoves moves old
    → ((c : ℕ) (k : List ℕ) (t : ℕ) → Any (Moves c k t) new ↔ (Any (Moves c k t) old ⊎ Moves c k t m)) → ((e : Move ℕ) → Contains new e → IsInhabited e.on) → AreJoinedMoves (moves ++ m ∷ []) new
joined-more moves old new m h adds inhabited = record {
  exact = λ c k t. let P = Moves c k t in (
    λ a. elim ((adds c k t).0 a) [
      | inl x ↦ Any-append_left P moves (m ∷ []) ((h.exact c k t).0 x)
      | inr x ↦ Any-append_right P moves (m ∷ []) (Any-here P m [] x)
    ],
    λ a. (adds c k t).1 (elim (Any-push_cases P moves m a) [ inl x ↦ inl ((h.exact c k t).1 x) | inr x ↦ inr x ]),
  );
  inhabited = inhabited;
}

pub moves-push : (old new : List (Move ℕ)) (m : Move ℕ) → new ≡ old ++ m ∷ [] → (c : ℕ) (k : List ℕ) (t : ℕ) → Any (Moves c k t) new ↔ (Any (Moves c k t) old ⊎ Moves c k t m)
moves-push old new m made c k t = let P = Moves c k t in (
  λ a. Any-push_cases P old m (subst (Any P) made a),
  λ a. subst (Any P) (sym made) (elim a [ inl h ↦ Any-append_left P old (m ∷ []) h | inr h ↦ Any-append_right P old (m ∷ []) (Any-here P m [] h) ]),
)

pub inhabited-push : (old new : List (Move ℕ)) (m : Move ℕ) → new ≡ old ++ m ∷ [] → ((e : Move ℕ) → Contains old e → IsInhabited e.on) → IsInhabited m.on
    → (e : Move ℕ) → Contains new e → IsInhabited e.on
inhabited-push old new m made all some e i = elim (Contains-push_cases old m e (subst (λ l. Contains l e) made i)) [
  | inl j ↦ all e j
  | inr same ↦ subst (λ (x : Move ℕ). IsInhabited x.on) same some
]

any-permutation : {X : Type 0} (P : X → Type 0) (xs ys : List X) → IsPermutation xs ys → Any P xs → Any P ys
any-permutation P xs ys perm a = let h = contained P xs a in Any-contains P ys h.0 (Contains-permutation xs ys h.0 perm h.1) h.2

pub joined-sorted : (moves sorted joined : List (Move ℕ)) → IsPermutation moves sorted → AreJoinedMoves sorted joined → AreJoinedMoves moves joined
joined-sorted moves sorted joined perm h = record {
  exact = λ c k t. let P = Moves c k t in (
    λ a. any-permutation P sorted moves (IsPermutation-sym moves sorted perm) ((h.exact c k t).0 a),
    λ a. (h.exact c k t).1 (any-permutation P moves sorted perm a),
  );
  inhabited = h.inhabited;
}
