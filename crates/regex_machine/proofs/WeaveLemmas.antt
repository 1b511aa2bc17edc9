-- Lists of parts, written from the end on.
use Rattle.std.proofs.Common.{◌≡◌, ℕ, zero, suc, ◌+◌, ◌-◌, ◌<◌, ◌≤◌, ◌↔◌, ◌⊎◌, inl, inr, ◌||◌, max, Bool, true, false, IsTrue, None, List, [], ◌∷◌, ◌++◌, length, take, drop, get_or, Any, Contains, Result, refl, ap, sym, ◌∙◌, subst, append_assoc, length-append, arith}
use Rattle.std.proofs.lemmas.List.{append-nil, take_more, take_all, drop_all}
use Rattle.std.proofs.lemmas.List.Elements.{Contains-append_cases}
use Rattle.machine_core.specs.declared.graph.Graph.{Graph}
use Rattle.machine_core.specs.declared.machine.Move.{Move}
use Rattle.sv_list.specs.Lists.{Any-none, Any-append_left, Any-append_right, Any-append_cases}
use Rattle.machine_core.specs.Moves.{Moves}
use Rattle.machine_meet.specs.Products.{summed}
use Rattle.sv_terms.specs.Bounds.{size}
use Rattle.sv_terms.specs.Language.{Word, Then, In, InOneOf, InEachInTurn}
use Rattle.sv_terms.specs.declared.regex.Regex.{Regex}
use Rattle.trim_search.specs.declared.build_fault.BuildFault.{BuildFault}
use Rattle.regex_machine.specs.Built.{Builds}
use Rattle.regex_machine.specs.Onwards.{ReadsOn, AreBegun, PrecedesRest, stateless, unmade}
use Rattle.regex_machine.specs.declared.onward.Onward.{Onward}
use Rattle.regex_machine.specs.declared.onward.Rest.{Rest}
use Rattle.regex_machine.proofs.BuiltLemmas.{builds-as}
use Rattle.regex_machine.proofs.KindLemmas.{choice-few, formed, formed-size, formed-words}
use Rattle.regex_machine.specs.Kinds.{Together, weight, most_states}
use Rattle.regex_machine.specs.Letters.{OneOf}
use Rattle.regex_machine.specs.declared.kind.JoinKind.{JoinKind}
use Rattle.regex_machine.proofs.OnwardLemmas.{reads-grown, onward-weaker, before-both, precedes-as, unmade-most}

pub drop-first : {X : Type 0} (xs : List X) (n : ℕ) (x : X) → n < length xs → x ≡ get_or xs n x → drop n xs ≡ x ∷ drop (suc n) xs
drop-first [] n x lt e = absurd (omega arith)
drop-first (y ∷ ys) zero x lt e = ap (λ z. z ∷ ys) (sym e)
drop-first (y ∷ ys) (suc n) x lt e = drop-first ys n x (omega arith) e

module _ (rs : List Regex) (old : List Onward) (rest : Rest) where
  -- the parts from the nth on are written
  abbrev pub IsWritten : ℕ → List Onward → Rest → Rest → Type 0
  IsWritten n new now front = PrecedesRest (InEachInTurn In (drop n rs)) (length old + summed size (drop n rs)) old rest new now front

  pub each-last : (n : ℕ) (r : Regex) (new : List Onward) (now front : Rest) → suc n ≡ length rs → r ≡ get_or rs n r → PrecedesRest (In r) (length old + size r) old rest new now front → IsWritten n new now front
  each-last n r new now front last is p =
      let one : drop n rs ≡ r ∷ [] = drop-first rs n r (omega arith) is ∙ ap (λ l. r ∷ l) (drop_all (suc n) rs (omega arith)) in
      subst (λ l. PrecedesRest (InEachInTurn In l) (length old + summed size l) old rest new now front) (sym one)
      (precedes-as (In r) (InEachInTurn In (r ∷ [])) (length old + size r) (length old + (size r + 0)) old new rest now front alone (omega arith) p)
    where
      alone : (w : Word) → In r w ↔ Then (In r) (λ v. v ≡ []) w
      alone w = (
        λ h. (w, [], sym (append-nil w), h, refl),
        λ h. subst (In r) (sym (h.2 ∙ ap (λ v. h.0 ++ v) h.4 ∙ append-nil h.0)) h.3,
      )

  pub each-step : (n : ℕ) (r : Regex) (mid new : List Onward) (now front between first : Rest) → n < length rs → r ≡ get_or rs n r → IsWritten (suc n) mid now front
      → (AreBegun mid front → PrecedesRest (In r) (length mid + size r) mid front new between first) → IsWritten n new now first
  each-step n r mid new now front between first lt is p q =
      let more : drop n rs ≡ r ∷ drop (suc n) rs = drop-first rs n r lt is in
      let few = p.few in
      subst (λ l. PrecedesRest (InEachInTurn In l) (length old + summed size l) old rest new now first) (sym more)
      (precedes-as (Then (In r) (InEachInTurn In (drop (suc n) rs))) (InEachInTurn In (r ∷ drop (suc n) rs)) (length mid + size r) (length old + (size r + summed size (drop (suc n) rs))) old new rest now first
      (λ w. (λ h. h, λ h. h)) (omega arith)
      (before-both (InEachInTurn In (drop (suc n) rs)) (In r) (length old + summed size (drop (suc n) rs)) (length mid + size r) old mid new rest now front between first p
      (q (record { closed = p.begun.closed; formed = p.formed }))))

  pub each-all : (new : List Onward) (now front : Rest) → IsWritten 0 new now front → PrecedesRest (InEachInTurn In rs) (length old + max 1 (summed size rs)) old rest new now front
  each-all new now front p = precedes-as (InEachInTurn In rs) (InEachInTurn In rs) (length old + summed size rs) (length old + max 1 (summed size rs)) old new rest now front (λ w. (λ h. h, λ h. h)) (omega arith) p

-- what one of two places reads
either-reads : (states : List Onward) (a b o : Onward) → o.moves ≡ a.moves ++ b.moves → o.may_end ≡ (a.may_end || b.may_end) → (w : Word) → ReadsOn states o w ↔ (ReadsOn states a w ⊎ ReadsOn states b w)
either-reads states a b o moves may [] = (
  λ h. or-cases a.may_end b.may_end (sym may ∙ h),
  λ h. may ∙ elim h [ inl x ↦ or-left a.may_end b.may_end x | inr x ↦ or-right a.may_end b.may_end x ],
)
  where
    or-cases : (x y : Bool) → IsTrue (x || y) → IsTrue x ⊎ IsTrue y
    or-cases true y h = inl refl
    or-cases false y h = inr h

    or-left : (x y : Bool) → IsTrue x → IsTrue (x || y)
    or-left true y h = refl
    or-left false y h = absurd (cc)

    or-right : (x y : Bool) → IsTrue y → IsTrue (x || y)
    or-right true y h = refl
    or-right false y h = h
either-reads states a b o moves may (c ∷ w) = (
  λ h. elim (Any-append_cases (Moves c [] h.0) a.moves b.moves (subst (Any (Moves c [] h.0)) moves h.2)) [
    | inl x ↦ inl (h.0, h.1, x, h.3, h.4)
    | inr x ↦ inr (h.0, h.1, x, h.3, h.4)
  ],
  λ h. elim h [
    | inl x ↦ (x.0, x.1, subst (Any (Moves c [] x.0)) (sym moves) (Any-append_left (Moves c [] x.0) a.moves b.moves x.2), x.3, x.4)
    | inr x ↦ (x.0, x.1, subst (Any (Moves c [] x.0)) (sym moves) (Any-append_right (Moves c [] x.0) a.moves b.moves x.2), x.3, x.4)
  ],
)

one-push : (rs : List Regex) (r : Regex) (w : Word) → (InOneOf In rs w ⊎ In r w) ↔ InOneOf In (rs ++ r ∷ []) w
one-push [] r w = (λ h. elim h [ inl x ↦ absurd x | inr x ↦ inl x ], λ h. elim h [ inl x ↦ inr x | inr x ↦ absurd x ])
one-push (q ∷ qs) r w = let e = one-push qs r w in (
  λ h. elim h [
    | inl x ↦ elim x [ inl y ↦ inl y | inr y ↦ inr (e.0 (inl y)) ]
    | inr x ↦ inr (e.0 (inr x))
  ],
  λ h. elim h [
    | inl x ↦ inl (inl x)
    | inr x ↦ elim (e.1 x) [ inl y ↦ inl (inr y) | inr y ↦ inr y ]
  ],
)

summed-push : {X : Type 0} (f : X → ℕ) (xs : List X) (x : X) → summed f (xs ++ x ∷ []) ≡ summed f xs + f x
summed-push f [] x = omega arith
summed-push f (y ∷ ys) x = let e = summed-push f ys x in omega arith

-- what the first n parts read, each with what follows
abbrev pub IsChosen : List Regex → List Onward → Rest → ℕ → List Onward → Rest → List (Move ℕ) → Bool → Type 0
IsChosen rs old rest n new now moves may_end = PrecedesRest (InOneOf In (take n rs)) (length old + summed size (take n rs) + 1) old rest new now (stateless moves may_end)

module _ (rs : List Regex) (old : List Onward) (rest : Rest) (begun : AreBegun old rest) where
  pub one-none : IsChosen rs old rest 0 old rest [] false
  one-none = record {
    more = [];
    grown = sym (append-nil old);
    begun = begun;
    same = refl;
    formed = record {
      onward = record { moves = λ m i. absurd (let l = i.1 in omega arith); characters = λ m i. absurd (let l = i.1 in omega arith) };
      state = λ s e. absurd (cc);
    };
    words = λ w. (λ h. absurd (reads w h), λ h. absurd h.3);
    few = omega arith;
  }
    where
      reads : (w : Word) → ReadsOn old (stateless [] false).onward w → ⊥
      reads [] h = absurd (cc)
      reads (c ∷ w) h = Any-none (Moves c [] h.0) h.2

  pub one-step : (n : ℕ) (r : Regex) (mid new : List Onward) (now later front : Rest) (moves both : List (Move ℕ)) (may_end may : Bool) → n < length rs → r ≡ get_or rs n r → IsChosen rs old rest n mid now moves may_end
      → (AreBegun mid now → PrecedesRest (In r) (length mid + size r) mid now new later front) → both ≡ moves ++ front.onward.moves → may ≡ (may_end || front.onward.may_end)
      → IsChosen rs old rest (n + 1) new later both may
  one-step n r mid new now later front moves both may_end may lt is p q' joined ends =
      let q = q' (record { closed = p.begun.closed; formed = p.begun.formed }) in
      let grown : take (n + 1) rs ≡ take n rs ++ r ∷ [] = take_more rs n r lt ∙ ap (λ x. take n rs ++ x ∷ []) (sym is) in
      let total : summed size (take (n + 1) rs) ≡ summed size (take n rs) + size r = ap (summed size) grown ∙ summed-push size (take n rs) r in
      let acc = stateless moves may_end in
      let on_acc = λ (w : Word). reads-grown mid new q.more acc.onward w q.grown p.formed.onward p.begun.closed in
      let on_rest = λ (w : Word). subst (λ o. ReadsOn mid o w ↔ ReadsOn old rest.onward w) (sym p.same) (reads-grown old mid p.more rest.onward w p.grown begun.formed.onward begun.closed) in
      let longer : length mid ≤ length new = (let l : length new ≡ length mid + length q.more = ap length q.grown ∙ length-append mid q.more in omega arith) in
      record {
        more = p.more ++ q.more;
        grown = q.grown ∙ ap (λ l. l ++ q.more) p.grown ∙ append_assoc old p.more q.more;
        begun = q.begun;
        same = q.same ∙ p.same;
        formed = record {
          onward = record {
            moves = λ m i. elim (Contains-append_cases moves front.onward.moves m (subst (λ l. Contains l m) joined i)) [
              | inl j ↦ (onward-weaker (length mid) (length new) acc.onward longer p.formed.onward).moves m j
              | inr j ↦ q.formed.onward.moves m j
            ];
            characters = λ m i. elim (Contains-append_cases moves front.onward.moves m (subst (λ l. Contains l m) joined i)) [
              | inl j ↦ p.formed.onward.characters m j
              | inr j ↦ q.formed.onward.characters m j
            ];
          };
          state = λ s e. absurd (cc);
        };
        words = λ w. (
          λ h. elim ((either-reads new acc.onward front.onward (stateless both may).onward joined ends w).0 h) [
            | inl x ↦ let y = (p.words w).0 ((on_acc w).0 x) in (y.0, y.1, y.2, in-list y.0 (inl y.3), y.4)
            | inr x ↦ let y = (q.words w).0 x in (y.0, y.1, y.2, in-list y.0 (inr y.3), (on_rest y.1).0 y.4)
          ],
          λ h. (either-reads new acc.onward front.onward (stateless both may).onward joined ends w).1 (elim (out-list h.0 h.3) [
            | inl x ↦ inl ((on_acc w).1 ((p.words w).1 (h.0, h.1, h.2, x, h.4)))
            | inr x ↦ inr ((q.words w).1 (h.0, h.1, h.2, x, (on_rest h.1).1 h.4))
          ]),
        );
        few = let f = q.few in let g = p.few in omega arith;
      }
    where
      in-list : (u : Word) → (InOneOf In (take n rs) u ⊎ In r u) → InOneOf In (take (n + 1) rs) u
      in-list u h = subst (λ l. InOneOf In l u) (sym (take_more rs n r lt ∙ ap (λ x. take n rs ++ x ∷ []) (sym is))) ((one-push (take n rs) r u).0 h)

      out-list : (u : Word) → InOneOf In (take (n + 1) rs) u → (InOneOf In (take n rs) u ⊎ In r u)
      out-list u h = (one-push (take n rs) r u).1 (subst (λ l. InOneOf In l u) (take_more rs n r lt ∙ ap (λ x. take n rs ++ x ∷ []) (sym is)) h)

  pub one-all : (n : ℕ) (new : List Onward) (now : Rest) (moves : List (Move ℕ)) (may_end : Bool) → length rs ≤ n → (length rs ≡ 1 → ⊥) → IsChosen rs old rest n new now moves may_end
      → PrecedesRest (InOneOf In rs) (length old + max 1 (summed (λ q. size q + 1) rs - 1)) old rest new now (stateless moves may_end)
  one-all n new now moves may_end le many p =
      let all = take_all n rs le in
      let few = choice-few size rs many in
      precedes-as (InOneOf In rs) (InOneOf In rs) (length old + summed size rs + 1) (length old + max 1 (summed (λ q. size q + 1) rs - 1)) old new rest now (stateless moves may_end) (λ w. (λ h. h, λ h. h))
      (omega arith)
      (subst (λ l. PrecedesRest (InOneOf In l) (length old + summed size l + 1) old rest new now (stateless moves may_end)) all p)

-- the words of the whole, behind which nothing follows
pub end-words : (P : Word → Type 0) (new : List Onward) (front : Rest) (o : Onward) → o.moves ≡ [] → o.may_end ≡ true → ((w : Word) → ReadsOn new front.onward w ↔ Then P (ReadsOn [] o) w)
    → (w : Word) → ReadsOn new front.onward w ↔ P w
end-words P new front o none may words w = (
  λ h. let x = (words w).0 h in subst P (sym (x.2 ∙ ap (λ v. x.0 ++ v) (end x.1 x.4) ∙ append-nil x.0)) x.3,
  λ h. (words w).1 (w, [], sym (append-nil w), h, may),
)
  where
    end : (v : Word) → ReadsOn [] o v → v ≡ []
    end [] h = refl
    end (c ∷ v) h = absurd (Any-none (Moves c [] h.0) (subst (Any (Moves c [] h.0)) none h.2))

-- an expression of a known form
pub before-form : (regex q : Regex) (P : Word → Type 0) (b : ℕ) (old new : List Onward) (rest now front : Rest) → regex ≡ q → ((w : Word) → In q w ≡ P w) → b ≤ length old + size q
    → PrecedesRest P b old rest new now front → PrecedesRest (In regex) (length old + size regex) old rest new now front
before-form regex q P b old new rest now front is same le p =
    subst (λ r. PrecedesRest (In r) (length old + size r) old rest new now front) (sym is)
    (precedes-as P (In q) b (length old + size q) old new rest now front (λ w. (subst (λ (T : Type 0). T) (sym (same w)), subst (λ (T : Type 0). T) (same w))) le p)

pub begun-end : (states : List Onward) (end : Rest) → states ≡ [] → end.onward.moves ≡ [] → end.state ≡ None → AreBegun states end
begun-end states end none moves state = record {
  closed = λ o i. absurd (let j = subst (λ l. Contains l o) none i in let l = j.1 in omega arith);
  formed = record {
    onward = record {
      moves = λ m i. absurd (let j = subst (λ l. Contains l m) moves i in let l = j.1 in omega arith);
      characters = λ m i. absurd (let j = subst (λ l. Contains l m) moves i in let l = j.1 in omega arith);
    };
    state = λ s e. absurd (let f = state in cc);
  };
}

-- the words of a machine that is made of what stands before the end
pub finished : (P : Word → Type 0) (n limit : ℕ) (old new : List Onward) (end now front : Rest) (r : Result Graph BuildFault) → old ≡ [] → end.onward.moves ≡ [] → end.onward.may_end ≡ true
    → PrecedesRest P (length old + n) old end new now front → Builds (ReadsOn new front.onward) (length new + unmade front.state) limit r → Builds P n limit r
finished P n limit old new end now front r none moves may p h =
    let few = p.few in
    let empty : length old ≡ 0 = ap length none in
    builds-as (ReadsOn new front.onward) P (length new + unmade front.state) n limit
    (end-words P new front end.onward moves may (subst (λ l. (w : Word) → ReadsOn new front.onward w ↔ Then P (ReadsOn l end.onward) w) none p.words)) (omega arith) r h

pub before-letter : (regex q : Regex) (P : Word → Type 0) (on : List (ℕ × ℕ)) (old new : List Onward) (rest now front : Rest) → regex ≡ q → ((w : Word) → In q w ≡ P w) → 2 ≤ size q
    → ((w : Word) → OneOf on w ↔ P w) → PrecedesRest (OneOf on) (length old + unmade rest.state + 1) old rest new now front → PrecedesRest (In regex) (length old + size regex) old rest new now front
before-letter regex q P on old new rest now front is same le words p =
    let most = unmade-most rest.state in
    before-form regex q P (length old + 2) old new rest now front is same (omega arith)
    (precedes-as (OneOf on) P (length old + unmade rest.state + 1) (length old + 2) old new rest now front words (omega arith) p)

pub before-inner : (k : JoinKind) (regex : Regex) (rs slice : List Regex) (old new : List Onward) (rest now front : Rest) → regex ≡ formed k rs → slice ≡ rs
    → PrecedesRest (Together k In slice) (length old + most_states k (weight k size slice)) old rest new now front → PrecedesRest (In regex) (length old + size regex) old rest new now front
before-inner k regex rs slice old new rest now front is seen p =
    let few = formed-size k rs in
    before-form regex (formed k rs) (Together k In rs) (length old + most_states k (weight k size rs)) old new rest now front is (formed-words k rs) (omega arith)
    (subst (λ l. PrecedesRest (Together k In l) (length old + most_states k (weight k size l)) old rest new now front) seen p)
