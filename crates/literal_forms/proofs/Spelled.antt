-- Codes of terms as lists of numbers that are made from the front.
use Rattle.std.proofs.Common.{◌≡◌, refl, sym, ap, ◌∙◌, ℕ, suc, ◌+◌, ◌<◌, ◌≤◌, ℤ, pos, Bool, true, false, List, [], ◌∷◌, ◌++◌, inl, inr, map, length, take, drop, get_or, drop-cons, append_assoc, arith, append-nil, take_all}
use Rattle.std.proofs.lemmas.List.{drop_all, take_more, map-append}
use Rattle.sv_terms.specs.declared.op.Op.{Op}
use Rattle.sv_terms.specs.declared.op.Op.TheVariants as op
use Rattle.sv_terms.specs.declared.regex.Regex.{Regex}
use Rattle.sv_terms.specs.declared.sort.Sort.{Sort}
use Rattle.sv_terms.specs.declared.term.Term.{Term}
use Rattle.sv_terms.specs.declared.term.Term.TheVariants as term
use Rattle.sv_terms.specs.declared.transducer.Transducer.{Transducer}
use Rattle.literal_forms.specs.Codes.{code, codes, op_number, sort_number, truth_number, word}
use Rattle.literal_forms.specs.Flats.{IsReplacement, closing, each_flat, flat, opening, replaced}
use Rattle.literal_forms.specs.Linear.{before, pieces, set_before, written}
use Rattle.literal_forms.specs.Mirrors.{raw-seen, seen-Truth, seen-Number, seen-Text, seen-Constant, seen-Apply, seen-InRe, seen-Related, seen-Opaque}
use Rattle.literal_forms.specs.Shapes.{Shape, Shapes, truth, number, text, constant, apply, member, related, opaque, end, ◌⨾◌, shapes, seen, raw}

pub next : (k : ℕ) → suc k ≡ k + 1
next k = omega arith

pub refuted : {P : Type 0} (b : Bool) → (P → b ≡ true) → b ≡ false → P → ⊥
refuted b f e p = let h = f p in cc

chain_two : (a b c x y : List ℤ) → b ≡ a ++ x → c ≡ b ++ y → c ≡ a ++ (x ++ y)
chain_two a b c x y e f = f ∙ ap (λ z. z ++ y) e ∙ append_assoc a x y

pub two : (a b c : List ℤ) (x y : ℤ) → b ≡ a ++ x ∷ [] → c ≡ b ++ y ∷ [] → c ≡ a ++ x ∷ y ∷ []
two a b c x y e f = chain_two a b c (x ∷ []) (y ∷ []) e f

pub three : (a b c d : List ℤ) (x y z : ℤ) → b ≡ a ++ x ∷ [] → c ≡ b ++ y ∷ [] → d ≡ c ++ z ∷ [] → d ≡ a ++ x ∷ y ∷ z ∷ []
three a b c d x y z e f g = chain_two a c d (x ∷ y ∷ []) (z ∷ []) (two a b c x y e f) g

pub four : (a b c d h : List ℤ) (x y z w : ℤ) → b ≡ a ++ x ∷ [] → c ≡ b ++ y ∷ [] → d ≡ c ++ z ∷ [] → h ≡ d ++ w ∷ [] → h ≡ a ++ x ∷ y ∷ z ∷ w ∷ []
four a b c d h x y z w e f g i = chain_two a d h (x ∷ y ∷ z ∷ []) (w ∷ []) (three a b c d x y z e f g) i

-- what opens a pair under a tag whose first is a small number
abbrev pub numbered : ℕ → ℕ → List ℤ
numbered tag n = (opening tag ++ pos 2 ∷ []) ++ flat (word (n ∷ []))

pub numbered_made : (a b c d : List ℤ) (tag n : ℕ) → b ≡ a ++ opening tag → c ≡ b ++ pos 2 ∷ [] → d ≡ c ++ flat (word (n ∷ [])) → d ≡ a ++ numbered tag n
numbered_made a b c d tag n p q r = chain_two a c d (opening tag ++ pos 2 ∷ []) (flat (word (n ∷ []))) (chain_two a b c (opening tag) (pos 2 ∷ []) p q) r

abbrev pub begun : List ℕ → ℕ → List ℤ
begun w k = pos 1 ∷ pos (length w) ∷ map pos (take k w)

pub text_none : (a b c : List ℤ) (w : List ℕ) → b ≡ a ++ pos 1 ∷ [] → c ≡ b ++ pos (length w) ∷ [] → c ≡ a ++ begun w 0
text_none a b c w e f = two a b c (pos 1) (pos (length w)) e f

pub text_step : (a b c : List ℤ) (w : List ℕ) (i k : ℕ) → i < length w → k ≡ get_or w i k → b ≡ a ++ begun w i → c ≡ b ++ pos k ∷ [] → c ≡ a ++ begun w (i + 1)
text_step a b c w i k l h e f =
    let more : map pos (take i w) ++ pos k ∷ [] ≡ map pos (take (i + 1) w) = sym (ap (map pos) (take_more w i k l ∙ ap (λ x. take i w ++ x ∷ []) (sym h)) ∙ map-append pos (take i w) (k ∷ [])) in
    chain_two a b c (begun w i) (pos k ∷ []) e f ∙ ap (λ x. a ++ pos 1 ∷ pos (length w) ∷ x) more

pub text_all : (a b : List ℤ) (w : List ℕ) (i : ℕ) → length w ≤ i → b ≡ a ++ begun w i → b ≡ a ++ flat (word w)
text_all a b w i l e = e ∙ ap (λ u. a ++ pos 1 ∷ pos (length w) ∷ map pos u) (take_all i w l)

-- terms one after another
flat_codes : (ss : Shapes) → flat (codes ss) ≡ each_flat ss ++ closing
flat_codes end = refl
flat_codes (s ⨾ ss) = ap (λ x. pos 2 ∷ (flat (code s) ++ x)) (flat_codes ss) ∙ ap (λ x. pos 2 ∷ x) (sym (append_assoc (flat (code s)) (each_flat ss) closing))

abbrev pub each_of : List Term → List ℤ
each_of ts = each_flat (shapes (map seen ts))

pub each_step : (a b c d : List ℤ) (ts : List Term) (k : ℕ) (t : Term) → k < length ts → t ≡ get_or ts k t → b ++ each_of (drop k ts) ≡ a → c ≡ b ++ pos 2 ∷ [] → d ≡ c ++ flat (code (seen t)) → d ++ each_of (drop (k + 1) ts) ≡ a
each_step a b c d ts k t l e h f g =
    let front : drop k ts ≡ t ∷ drop (k + 1) ts = drop-cons ts k t l ∙ (λ i. sym e i ∷ drop (suc k) ts) ∙ ap (λ n. t ∷ drop n ts) (next k) in
    let two_on : d ≡ b ++ (pos 2 ∷ flat (code (seen t))) = chain_two b c d (pos 2 ∷ []) (flat (code (seen t))) f g in
    ap (λ x. x ++ each_of (drop (k + 1) ts)) two_on ∙ append_assoc b (pos 2 ∷ flat (code (seen t))) (each_of (drop (k + 1) ts)) ∙ ap (λ us. b ++ each_of us) (sym front) ∙ h

pub each_all : (a b : List ℤ) (ts : List Term) (k : ℕ) → length ts ≤ k → b ++ each_of (drop k ts) ≡ a → b ≡ a
each_all a b ts k l h = sym (append-nil b) ∙ ap (λ us. b ++ each_of us) (sym (drop_all k ts l)) ∙ h

-- the code of a term, by its head
module _ (a b c d e : List ℤ) (t : Term) where
  pub truth_arm : (x : Bool) (n : ℕ) → t ≡ term.Truth x → b ≡ a ++ opening 0 → n ≡ truth_number x → c ≡ b ++ flat (word (n ∷ [])) → c ≡ a ++ flat (code (seen t))
  truth_arm x n i p q r = chain_two a b c (opening 0) (flat (word (n ∷ []))) p r ∙ ap (λ m. a ++ (opening 0 ++ flat (word (m ∷ [])))) q ∙ ap (λ s. a ++ flat (code s)) (sym (ap seen i ∙ seen-Truth x))

  pub number_arm : (x : ℤ) → t ≡ term.Number x → b ≡ a ++ opening 1 → c ≡ b ++ pos 0 ∷ x ∷ [] → c ≡ a ++ flat (code (seen t))
  number_arm x i p r = chain_two a b c (opening 1) (pos 0 ∷ x ∷ []) p r ∙ ap (λ s. a ++ flat (code s)) (sym (ap seen i ∙ seen-Number x))

  pub text_arm : (x : List ℕ) → t ≡ term.Text x → b ≡ a ++ opening 2 → c ≡ b ++ flat (word x) → c ≡ a ++ flat (code (seen t))
  text_arm x i p r = chain_two a b c (opening 2) (flat (word x)) p r ∙ ap (λ s. a ++ flat (code s)) (sym (ap seen i ∙ seen-Text x))

  pub constant_arm : (x : List ℕ) (s : Sort) (n : ℕ) → t ≡ term.Constant x s → n ≡ sort_number s → b ≡ a ++ numbered 3 n → c ≡ b ++ flat (word x) → c ≡ a ++ flat (code (seen t))
  constant_arm x s n i k p m =
      chain_two a b c (numbered 3 n) (flat (word x)) p m
      ∙ ap (λ j. a ++ (numbered 3 j ++ flat (word x))) k ∙ ap (λ z. a ++ flat (code z)) (sym (ap seen i ∙ seen-Constant x s))

  pub apply_arm : (o : Op) (ts : List Term) (n : ℕ) → t ≡ term.Apply o ts → n ≡ op_number o → b ≡ a ++ numbered 4 n → c ≡ b ++ each_of (drop 0 ts) → d ≡ c ++ closing → d ≡ a ++ flat (code (seen t))
  apply_arm o ts n i k p m z =
      let rest = chain_two b c d (each_of ts) closing m z ∙ ap (λ x. b ++ x) (sym (flat_codes (shapes (map seen ts)))) in
      chain_two a b d (numbered 4 n) (flat (codes (shapes (map seen ts)))) p rest
      ∙ ap (λ j. a ++ (numbered 4 j ++ flat (codes (shapes (map seen ts))))) k ∙ ap (λ z. a ++ flat (code z)) (sym (ap seen i ∙ seen-Apply o ts))

  pub member_arm : (x : Term) (r : Regex) → t ≡ term.InRe x r → b ≡ a ++ opening 5 → c ≡ b ++ flat (code (seen x)) → c ≡ a ++ flat (code (seen t))
  member_arm x r i p q = chain_two a b c (opening 5) (flat (code (seen x))) p q ∙ ap (λ s. a ++ flat (code s)) (sym (ap seen i ∙ seen-InRe x r))

  pub related_arm : (m : Transducer) (x y : Term) → t ≡ term.Related m x y → b ≡ a ++ opening 6 → c ≡ b ++ pos 2 ∷ [] → d ≡ c ++ flat (code (seen x)) → e ≡ d ++ flat (code (seen y)) → e ≡ a ++ flat (code (seen t))
  related_arm m x y i p q r k =
      let one = chain_two a b c (opening 6) (pos 2 ∷ []) p q in
      let rest = chain_two c d e (flat (code (seen x))) (flat (code (seen y))) r k in
      chain_two a c e (opening 6 ++ pos 2 ∷ []) (flat (code (seen x)) ++ flat (code (seen y))) one rest ∙ ap (λ s. a ++ flat (code s)) (sym (ap seen i ∙ seen-Related m x y))

  pub opaque_arm : (s : Sort) (n : ℕ) → t ≡ term.Opaque s → b ≡ a ++ opening 7 → n ≡ sort_number s → c ≡ b ++ flat (word (n ∷ [])) → c ≡ a ++ flat (code (seen t))
  opaque_arm s n i p q r = chain_two a b c (opening 7) (flat (word (n ∷ []))) p r ∙ ap (λ m. a ++ (opening 7 ++ flat (word (m ∷ [])))) q ∙ ap (λ x. a ++ flat (code x)) (sym (ap seen i ∙ seen-Opaque s))

  -- with nested concatenations written as one
  concat_arm : (ts : List Term) (n : ℕ) → t ≡ term.Apply op.Concat ts → n ≡ 16 → b ≡ a ++ numbered 4 n → c ≡ b ++ each_flat (pieces (shapes (map seen ts))) → d ≡ c ++ closing → d ≡ a ++ flat (code (written (seen t)))
  concat_arm ts n i k p m z =
      let rest = chain_two b c d (each_flat (pieces (shapes (map seen ts)))) closing m z ∙ ap (λ x. b ++ x) (sym (flat_codes (pieces (shapes (map seen ts))))) in
      chain_two a b d (numbered 4 n) (flat (codes (pieces (shapes (map seen ts))))) p rest
      ∙ ap (λ j. a ++ (numbered 4 j ++ flat (codes (pieces (shapes (map seen ts)))))) k ∙ ap (λ z. a ++ flat (code (written z))) (sym (ap seen i ∙ seen-Apply op.Concat ts))

pub ruleset arms = (truth_arm, number_arm, text_arm, constant_arm, apply_arm, member_arm, related_arm, opaque_arm)

-- a function that isn't made of pieces stays as it is
written_other : (o : Op) (ss : Shapes) → (o ≡ op.Concat → ⊥) → (IsReplacement o → ⊥) → written (apply o ss) ≡ apply o ss
written_other op.Concat ss h k = absurd (h refl)
written_other op.Replace ss h k = absurd (k (inl refl))
written_other op.ReplaceAll ss h k = absurd (k (inr refl))
written_other _ ss h k = refl

written_replaced : (o : Op) (ss : Shapes) → IsReplacement o → written (apply o ss) ≡ replaced o ss
written_replaced op.Replace end h = refl
written_replaced op.Replace (s ⨾ ss) h = refl
written_replaced op.ReplaceAll end h = refl
written_replaced op.ReplaceAll (s ⨾ ss) h = refl
written_replaced _ ss (inl h) = absurd (cc)
written_replaced _ ss (inr h) = absurd (cc)

written_leaf : (t : Term) → ((o : Op) (ts : List Term) → t ≡ term.Apply o ts → ⊥) → written (seen t) ≡ seen t
written_leaf t h = by_shape (seen t) (raw-seen t)
  where
    by_shape : (s : Shape) → raw s ≡ t → written s ≡ s
    by_shape (apply o ss) e = absurd (h o _ (sym e))
    by_shape (truth b) e = refl
    by_shape (number n) e = refl
    by_shape (text w) e = refl
    by_shape (constant n s) e = refl
    by_shape (member s r) e = refl
    by_shape (related m s u) e = refl
    by_shape (opaque s) e = refl

pub other_arm : (a b : List ℤ) (t : Term) (o : Op) (ts : List Term) → t ≡ term.Apply o ts → (o ≡ op.Concat → ⊥) → (IsReplacement o → ⊥) → b ≡ a ++ flat (code (seen t)) → b ≡ a ++ flat (code (written (seen t)))
other_arm a b t o ts e h k p =
    let s : seen t ≡ apply o (shapes (map seen ts)) = ap seen e ∙ seen-Apply o ts in
    p ∙ ap (λ z. a ++ flat (code z)) (s ∙ sym (written_other o (shapes (map seen ts)) h k) ∙ ap written (sym s))

pub replaced_arm : (a b : List ℤ) (t : Term) (o : Op) (ts : List Term) → t ≡ term.Apply o ts → IsReplacement o → b ≡ a ++ flat (code (replaced o (shapes (map seen ts)))) → b ≡ a ++ flat (code (written (seen t)))
replaced_arm a b t o ts e h p =
    let s : seen t ≡ apply o (shapes (map seen ts)) = ap seen e ∙ seen-Apply o ts in
    p ∙ ap (λ z. a ++ flat (code z)) (sym (written_replaced o (shapes (map seen ts)) h) ∙ ap written (sym s))

pub leaf_arm : (a b : List ℤ) (t : Term) → ((o : Op) (ts : List Term) → t ≡ term.Apply o ts → ⊥) → b ≡ a ++ flat (code (seen t)) → b ≡ a ++ flat (code (written (seen t)))
leaf_arm a b t h p = p ∙ ap (λ z. a ++ flat (code z)) (sym (written_leaf t h))

pub concat_written : (a b c d : List ℤ) (t : Term) (o : Op) (ts : List Term) (n : ℕ) → t ≡ term.Apply o ts → o ≡ op.Concat → n ≡ op_number op.Concat → b ≡ a ++ numbered 4 n → c ≡ b ++ each_flat (pieces (shapes (map seen ts))) → d ≡ c ++ closing → d ≡ a ++ flat (code (written (seen t)))
concat_written a b c d t o ts n i j k p m z = concat_arm a b c d [] t ts n (i ∙ ap (λ x. term.Apply x ts) j) k p m z

pub ruleset string_arms = (concat_written, other_arm, replaced_arm, leaf_arm)

-- a replacement
pub replacement_none : (a d e : List ℤ) (o : Op) (ts : List Term) (n : ℕ) → n ≡ op_number o → d ≡ a ++ numbered 4 n → length ts ≡ 0 → e ≡ d ++ closing → e ≡ a ++ flat (code (replaced o (shapes (map seen ts))))
replacement_none a d e o (t ∷ ts) n k p l m = absurd (omega arith)
replacement_none a d e o [] n k p l m = chain_two a d e (numbered 4 n) closing p m ∙ ap (λ j. a ++ (numbered 4 j ++ closing)) k

pub replacement_some : (a d e f g h : List ℤ) (o : Op) (ts : List Term) (t : Term) (n : ℕ) → n ≡ op_number o → d ≡ a ++ numbered 4 n → (length ts ≡ 0 → ⊥) → e ≡ d ++ pos 2 ∷ [] → t ≡ get_or ts 0 t → f ≡ e ++ flat (code (written (seen t))) → g ≡ f ++ each_of (drop 1 ts) → h ≡ g ++ closing → h ≡ a ++ flat (code (replaced o (shapes (map seen ts))))
replacement_some a d e f g h o [] t n k p l m i s u v = absurd (l refl)
replacement_some a d e f g h o (x ∷ ts) t n k p l m i s u v =
    let tail = chain_two f g h (each_of ts) closing u v ∙ ap (λ y. f ++ y) (sym (flat_codes (shapes (map seen ts)))) in
    let head = chain_two d e f (pos 2 ∷ []) (flat (code (written (seen t)))) m s in
    let rest = chain_two d f h (pos 2 ∷ flat (code (written (seen t)))) (flat (codes (shapes (map seen ts)))) head tail in
    chain_two a d h (numbered 4 n) (pos 2 ∷ (flat (code (written (seen t))) ++ flat (codes (shapes (map seen ts))))) p rest
    ∙ (λ j. a ++ (numbered 4 (k j) ++ (pos 2 ∷ (flat (code (written (seen (i j)))) ++ flat (codes (shapes (map seen ts)))))))

-- pieces of concatenations
set_flat : (ss ts : Shapes) → each_flat (set_before ss ts) ≡ each_flat ss ++ each_flat ts
set_flat end ts = refl
set_flat (s ⨾ ss) ts = ap (λ x. pos 2 ∷ (flat (code s) ++ x)) (set_flat ss ts) ∙ ap (λ x. pos 2 ∷ x) (sym (append_assoc (flat (code s)) (each_flat ss) (each_flat ts)))

pub set_end : (ss : Shapes) → set_before ss end ≡ ss
set_end end = refl
set_end (s ⨾ ss) = ap (λ x. s ⨾ x) (set_end ss)

plain_split : (u : Shape) (ts : Shapes) → each_flat (u ⨾ ts) ≡ each_flat (u ⨾ end) ++ each_flat ts
plain_split u ts = ap (λ x. pos 2 ∷ (x ++ each_flat ts)) (sym (append-nil (flat (code u))))

before_split : (u : Shape) (ts : Shapes) → each_flat (before u ts) ≡ each_flat (before u end) ++ each_flat ts
before_split (apply op.Concat ss) ts = set_flat ss ts ∙ ap (λ x. each_flat x ++ each_flat ts) (sym (set_end ss))
before_split u ts = plain_split u ts

abbrev pub pieces_of : List Term → List ℤ
pieces_of ts = each_flat (pieces (shapes (map seen ts)))

pub pieces_step : (a b c : List ℤ) (ts : List Term) (k : ℕ) (t : Term) → k < length ts → t ≡ get_or ts k t → b ++ pieces_of (drop k ts) ≡ a → c ≡ b ++ each_flat (before (written (seen t)) end) → c ++ pieces_of (drop (k + 1) ts) ≡ a
pieces_step a b c ts k t l e h f =
    let front : drop k ts ≡ t ∷ drop (k + 1) ts = drop-cons ts k t l ∙ (λ i. sym e i ∷ drop (suc k) ts) ∙ ap (λ n. t ∷ drop n ts) (next k) in
    ap (λ x. x ++ pieces_of (drop (k + 1) ts)) f ∙ append_assoc b (each_flat (before (written (seen t)) end)) (pieces_of (drop (k + 1) ts))
    ∙ ap (λ x. b ++ x) (sym (before_split (written (seen t)) (pieces (shapes (map seen (drop (k + 1) ts)))))) ∙ ap (λ us. b ++ pieces_of us) (sym front) ∙ h

pub pieces_all : (a b : List ℤ) (ts : List Term) (k : ℕ) → length ts ≤ k → b ++ pieces_of (drop k ts) ≡ a → b ≡ a
pieces_all a b ts k l h = sym (append-nil b) ∙ ap (λ us. b ++ pieces_of us) (sym (drop_all k ts l)) ∙ h

-- one piece
pub before_other : (o : Op) (ss : Shapes) → (o ≡ op.Concat → ⊥) → before (written (apply o ss)) end ≡ written (apply o ss) ⨾ end
before_other op.Concat ss h = absurd (h refl)
before_other op.Replace end h = refl
before_other op.Replace (s ⨾ ss) h = refl
before_other op.ReplaceAll end h = refl
before_other op.ReplaceAll (s ⨾ ss) h = refl
before_other _ ss h = refl

pub before_leaf : (t : Term) → ((o : Op) (ts : List Term) → t ≡ term.Apply o ts → ⊥) → before (written (seen t)) end ≡ written (seen t) ⨾ end
before_leaf t h = by_shape (seen t) (raw-seen t)
  where
    by_shape : (s : Shape) → raw s ≡ t → before (written s) end ≡ written s ⨾ end
    by_shape (apply o ss) e = absurd (h o _ (sym e))
    by_shape (truth b) e = refl
    by_shape (number n) e = refl
    by_shape (text w) e = refl
    by_shape (constant n s) e = refl
    by_shape (member s r) e = refl
    by_shape (related m s u) e = refl
    by_shape (opaque s) e = refl

pub piece_concat : (a b : List ℤ) (t : Term) (o : Op) (ts : List Term) → t ≡ term.Apply o ts → o ≡ op.Concat → b ≡ a ++ each_flat (pieces (shapes (map seen ts))) → b ≡ a ++ each_flat (before (written (seen t)) end)
piece_concat a b t o ts e h p =
    let s : seen t ≡ apply op.Concat (shapes (map seen ts)) = ap seen (e ∙ ap (λ x. term.Apply x ts) h) ∙ seen-Apply op.Concat ts in
    p ∙ ap (λ x. a ++ each_flat x) (sym (set_end (pieces (shapes (map seen ts)))) ∙ ap (λ z. before (written z) end) (sym s))

one_piece : (a b c : List ℤ) (u : Shape) → b ≡ a ++ pos 2 ∷ [] → c ≡ b ++ flat (code u) → c ≡ a ++ each_flat (u ⨾ end)
one_piece a b c u p q = chain_two a b c (pos 2 ∷ []) (flat (code u)) p q ∙ ap (λ x. a ++ pos 2 ∷ x) (sym (append-nil (flat (code u))))

pub piece_other : (a b c : List ℤ) (t : Term) (o : Op) (ts : List Term) → t ≡ term.Apply o ts → (o ≡ op.Concat → ⊥) → b ≡ a ++ pos 2 ∷ [] → c ≡ b ++ flat (code (written (seen t))) → c ≡ a ++ each_flat (before (written (seen t)) end)
piece_other a b c t o ts e h p q =
    let s : seen t ≡ apply o (shapes (map seen ts)) = ap seen e ∙ seen-Apply o ts in
    one_piece a b c (written (seen t)) p q ∙ ap (λ x. a ++ each_flat x) (ap (λ z. written z ⨾ end) s ∙ sym (before_other o (shapes (map seen ts)) h) ∙ ap (λ z. before (written z) end) (sym s))

pub piece_leaf : (a b c : List ℤ) (t : Term) → ((o : Op) (ts : List Term) → t ≡ term.Apply o ts → ⊥) → b ≡ a ++ pos 2 ∷ [] → c ≡ b ++ flat (code (written (seen t))) → c ≡ a ++ each_flat (before (written (seen t)) end)
piece_leaf a b c t h p q = one_piece a b c (written (seen t)) p q ∙ ap (λ x. a ++ each_flat x) (sym (before_leaf t h))

pub ruleset piece_arms = (piece_concat, piece_other, piece_leaf)
