-- At one place stands one token.
use Rattle.std.proofs.Common.{◌≡◌, ℕ, ◌==◌, ◌||◌, not, List, [], ◌∷◌, ◌++◌, Bool, true, false, IsTrue, if◌then◌else◌, refl, sym, ap, ◌∙◌, subst, append_assoc, rules}
use Rattle.std.specs.List.{list_all}
use Rattle.std.proofs.lemmas.Bool.{not-true}
use Rattle.sv_list.specs.Bools.{and-first}
use Rattle.sexpr_reader.specs.declared.kind.TokenKind.{TokenKind}
use Rattle.sexpr_reader.specs.declared.kind.TokenKind.TheVariants.{Quoted, Literal}
use Rattle.sexpr_reader.specs.Bytes.{is_border}
use Rattle.sexpr_reader.specs.Tokens.{doubled, is_barred, IsTokenRun, IsPlain, Token, Atomic, text, IsToken}
use Rattle.sexpr_reader.specs.Lexes.{IsBlank, EndsOrPasses, IsEnded, Lexes}
use Rattle.sexpr_reader.proofs.Classes.{kinds_apart}
use Rattle.sexpr_reader.proofs.Determined.{skip, skip-blank, skip-token, View, view, opens, closes, bars, quotes, plain, same_front}

is_quote : (x : ℕ) → (x == 34) ≡ true → x ≡ 34
is_quote x e = search rules

literal_step : (p q : Bool) (x y : ℕ) (c d a b : List ℕ) → (x == 34) ≡ p → (y == 34) ≡ q → (doubled c ++ 34 ∷ a ≡ doubled d ++ 34 ∷ b → (c ≡ d) × (a ≡ b))
    → (if p then 34 ∷ 34 ∷ doubled c else x ∷ doubled c) ++ 34 ∷ a ≡ (if q then 34 ∷ 34 ∷ doubled d else y ∷ doubled d) ++ 34 ∷ b → (x ∷ c ≡ y ∷ d) × (a ≡ b)
literal_step true true x y c d a b e f back k =
    let x_is = is_quote x e in
    let y_is = is_quote y f in
    let later : doubled c ++ 34 ∷ a ≡ doubled d ++ 34 ∷ b = cc in
    let r = back later in
    let c_is : c ≡ d = r.0 in (cc, r.1)
literal_step true false x y c d a b e f back k = let h : 34 ≡ y = cc in let g : true ≡ (y == 34) = ap (λ (n : ℕ). n == 34) h in cc
literal_step false true x y c d a b e f back k = let h : x ≡ 34 = cc in let g : (x == 34) ≡ true = ap (λ (n : ℕ). n == 34) h in cc
literal_step false false x y c d a b e f back k =
    let h : x ≡ y = cc in
    let later : doubled c ++ 34 ∷ a ≡ doubled d ++ 34 ∷ b = cc in
    let r = back later in
    let c_is : c ≡ d = r.0 in (cc, r.1)

literal_end : (ended q : Bool) (y : ℕ) (d a b : List ℕ) → (y == 34) ≡ q → EndsOrPasses (λ x. not (x == 34)) ended a → 34 ∷ a ≡ (if q then 34 ∷ 34 ∷ doubled d else y ∷ doubled d) ++ 34 ∷ b → ⊥
literal_end ended true y d a b f h k = let a_is : a ≡ 34 ∷ (doubled d ++ 34 ∷ b) = cc in let g : false ≡ true = subst (EndsOrPasses (λ x. not (x == 34)) ended) a_is h in cc
literal_end ended false y d a b f h k = let h : 34 ≡ y = cc in let g : true ≡ (y == 34) = ap (λ (n : ℕ). n == 34) h in cc

pub same_literal : (ended : Bool) (c d a b : List ℕ) → EndsOrPasses (λ x. not (x == 34)) ended a → EndsOrPasses (λ x. not (x == 34)) ended b → doubled c ++ 34 ∷ a ≡ doubled d ++ 34 ∷ b → (c ≡ d) × (a ≡ b)
same_literal ended [] [] a b h g k = (refl, cc)
same_literal ended [] (y ∷ d) a b h g k = absurd (literal_end ended (y == 34) y d a b refl h k)
same_literal ended (x ∷ c) [] a b h g k = absurd (literal_end ended (x == 34) x c b a refl g (sym k))
same_literal ended (x ∷ c) (y ∷ d) a b h g k = literal_step (x == 34) (y == 34) x y c d a b refl refl (λ e. same_literal ended c d a b h g e) k

same_bars : (ended : Bool) (c d a b : List ℕ) → IsTrue (is_barred c) → IsTrue (is_barred d) → c ++ 124 ∷ a ≡ d ++ 124 ∷ b → (c ≡ d) × (a ≡ b)
same_bars ended c d a b h g k =
    let r = same_front (λ x. x == 124 || x == 92) ended c d (124 ∷ a) (124 ∷ b) h g refl refl k in
    let e : 124 ∷ a ≡ 124 ∷ b = r.1 in (r.0, cc)

pub run_not : (bs after rest : List ℕ) (c : ℕ) → IsTokenRun bs → is_border c ≡ true → bs ++ after ≡ c ∷ rest → ⊥
run_not [] after rest c h e k = cc
run_not (b ∷ bs) after rest c h e k =
    let same : b ≡ c = cc in
    let here : is_border b ≡ false = not-true (is_border b) (and-first (not (is_border b)) _ h) in
    let there : is_border b ≡ true = ap is_border same ∙ e in cc

pub run_all : (bs : List ℕ) → IsTokenRun bs → IsTrue (list_all (λ x. not (is_border x)) bs)
run_all [] h = cc
run_all (b ∷ bs) h = h

pub differ : (x y : ℕ) (a b : List ℕ) → (x == y) ≡ false → x ∷ a ≡ y ∷ b → ⊥
differ x y a b no_way k = let e : x ≡ y = cc in let g : (x == y) ≡ true = search rules in cc

pub same_token : (ended : Bool) (t u : Token) (a b : List ℕ) → View ended t a → View ended u b → text t ++ a ≡ text u ++ b → (t ≡ u) × (a ≡ b)
same_token ended t u a b (opens x) (opens y) k = (refl, cc)
same_token ended t u a b (closes x) (closes y) k = (refl, cc)
same_token ended t u a b (bars c x h) (bars d y g) k =
    let later : c ++ 124 ∷ a ≡ d ++ 124 ∷ b = let e : 124 ∷ (c ++ 124 ∷ a) ≡ 124 ∷ (d ++ 124 ∷ b) = sym (ap (λ (l : List ℕ). 124 ∷ l) (append_assoc c (124 ∷ []) a)) ∙ k ∙ ap (λ (l : List ℕ). 124 ∷ l) (append_assoc d (124 ∷ []) b) in cc in
    let r = same_bars ended c d a b h g later in (ap (λ (l : List ℕ). Atomic Quoted (124 ∷ l ++ 124 ∷ [])) r.0, r.1)
same_token ended t u a b (quotes c x lit_c h) (quotes d y lit_d g) k =
    let later : doubled c ++ 34 ∷ a ≡ doubled d ++ 34 ∷ b = let e : 34 ∷ (doubled c ++ 34 ∷ a) ≡ 34 ∷ (doubled d ++ 34 ∷ b) = sym (ap (λ (l : List ℕ). 34 ∷ l) (append_assoc (doubled c) (34 ∷ []) a)) ∙ k ∙ ap (λ (l : List ℕ). 34 ∷ l) (append_assoc (doubled d) (34 ∷ []) b) in cc in
    let r = same_literal ended c d a b h g later in (ap (λ (l : List ℕ). Atomic Literal (34 ∷ doubled l ++ 34 ∷ [])) r.0, r.1)
same_token ended t u a b (plain k1 bs x h i e) (plain k2 cs y g j f) k =
    let r = same_front is_border ended bs cs a b (run_all bs h) (run_all cs g) e f k in
    let kind : k1 ≡ k2 = kinds_apart k1 k2 bs i (subst (IsPlain k2) (sym r.0) j) in
    (ap (λ (z : TokenKind). Atomic z bs) kind ∙ ap (λ (l : List ℕ). Atomic k2 l) r.0, r.1)
same_token ended t u a b (plain k1 bs x h i e) (opens y) k = absurd (run_not bs a b 40 h refl k)
same_token ended t u a b (plain k1 bs x h i e) (closes y) k = absurd (run_not bs a b 41 h refl k)
same_token ended t u a b (plain k1 bs x h i e) (bars d y g) k = absurd (run_not bs a _ 124 h refl k)
same_token ended t u a b (plain k1 bs x h i e) (quotes d y lit_d g) k = absurd (run_not bs a _ 34 h refl k)
same_token ended t u a b (opens x) (plain k2 cs y g j f) k = absurd (run_not cs b a 40 g refl (sym k))
same_token ended t u a b (closes x) (plain k2 cs y g j f) k = absurd (run_not cs b a 41 g refl (sym k))
same_token ended t u a b (bars c x h) (plain k2 cs y g j f) k = absurd (run_not cs b _ 124 g refl (sym k))
same_token ended t u a b (quotes c x lit_c h) (plain k2 cs y g j f) k = absurd (run_not cs b _ 34 g refl (sym k))
same_token ended t u a b (opens x) (closes y) k = absurd (differ 40 41 _ _ refl k)
same_token ended t u a b (opens x) (bars d y g) k = absurd (differ 40 124 _ _ refl k)
same_token ended t u a b (opens x) (quotes d y lit_d g) k = absurd (differ 40 34 _ _ refl k)
same_token ended t u a b (closes x) (opens y) k = absurd (differ 41 40 _ _ refl k)
same_token ended t u a b (closes x) (bars d y g) k = absurd (differ 41 124 _ _ refl k)
same_token ended t u a b (closes x) (quotes d y lit_d g) k = absurd (differ 41 34 _ _ refl k)
same_token ended t u a b (bars c x h) (opens y) k = absurd (differ 124 40 _ _ refl k)
same_token ended t u a b (bars c x h) (closes y) k = absurd (differ 124 41 _ _ refl k)
same_token ended t u a b (bars c x h) (quotes d y lit_d g) k = absurd (differ 124 34 _ _ refl k)
same_token ended t u a b (quotes c x lit_c h) (opens y) k = absurd (differ 34 40 _ _ refl k)
same_token ended t u a b (quotes c x lit_c h) (closes y) k = absurd (differ 34 41 _ _ refl k)
same_token ended t u a b (quotes c x lit_c h) (bars d y g) k = absurd (differ 34 124 _ _ refl k)

-- one token with its gap
pub same_gap_token : (ended : Bool) (blank gap : List ℕ) (t u : Token) (a b : List ℕ) → IsBlank blank → IsBlank gap → IsToken t → IsEnded t ended a → IsToken u → IsEnded u ended b → blank ++ (text t ++ a) ≡ gap ++ (text u ++ b) → (t ≡ u) × (a ≡ b)
same_gap_token ended blank gap t u a b h g it et iu eu k =
    let v = view ended t a it et in
    let w = view ended u b iu eu in
    same_token ended t u a b v w (sym (skip-blank blank (text t ++ a) h ∙ skip-token ended t a v) ∙ ap (skip false) k ∙ skip-blank gap (text u ++ b) g ∙ skip-token ended u b w)

-- of two lexings one goes on where the other stops
pub data Further (ended : Bool) (ts us : List Token) (rest after : List ℕ) : Type 0 where
  first : (vs : List Token) → us ≡ ts ++ vs → Lexes ended rest vs after → Further ended ts us rest after
  second : (vs : List Token) → ts ≡ us ++ vs → Lexes ended after vs rest → Further ended ts us rest after

further-cons : (ended : Bool) (t u : Token) (ts us : List Token) (rest after : List ℕ) → t ≡ u → Further ended ts us rest after → Further ended (t ∷ ts) (u ∷ us) rest after
further-cons ended t u ts us rest after e (first vs k l) = first vs (cc) l
further-cons ended t u ts us rest after e (second vs k l) = second vs (cc) l

pub same_lexing : (ended : Bool) (bytes : List ℕ) (ts us : List Token) (rest after : List ℕ) → Lexes ended bytes ts rest → Lexes ended bytes us after → Further ended ts us rest after
same_lexing ended bytes [] us rest after h g = first us refl (subst (λ (l : List ℕ). Lexes ended l us after) h g)
same_lexing ended bytes (t ∷ ts) [] rest after h g = second (t ∷ ts) refl (subst (λ (l : List ℕ). Lexes ended l (t ∷ ts) rest) g h)
same_lexing ended bytes (t ∷ ts) (u ∷ us) rest after h g =
    let r = same_gap_token ended h.0 g.0 t u h.1 g.1 h.2 g.2 h.4 h.5 g.4 g.5 (sym h.3 ∙ g.3) in
    further-cons ended t u ts us rest after r.0 (same_lexing ended h.1 ts us rest after h.6 (subst (λ (l : List ℕ). Lexes ended l us after) (sym r.1) g.6))

-- the tokens so far can be cut
pub cut_lexing : (ended : Bool) (bytes : List ℕ) (ts us : List Token) (rest : List ℕ) → Lexes ended bytes (ts ++ us) rest → (middle : List ℕ) × Lexes ended bytes ts middle × Lexes ended middle us rest
cut_lexing ended bytes [] us rest h = (bytes, refl, h)
cut_lexing ended bytes (t ∷ ts) us rest h = let r = cut_lexing ended h.1 ts us rest h.6 in (r.0, (h.0, h.1, h.2, h.3, h.4, h.5, r.1), r.2)
