-- Where all bytes were looked at, no further item is whole.
use Rattle.std.proofs.Common.{◌≡◌, ℕ, ◌==◌, ◌||◌, not, List, [], ◌∷◌, ◌++◌, Bool, true, false, IsTrue, if◌then◌else◌, refl, sym, ap, ◌∙◌, subst, append_assoc, append-nil}
use Rattle.std.proofs.lemmas.Bool.{not-true}
use Rattle.sv_list.specs.Bools.{and-first, and-second}
use Rattle.sexpr_reader.specs.declared.mode.Mode.{Mode}
use Rattle.sexpr_reader.specs.declared.mode.Mode.TheVariants as m
use Rattle.sexpr_reader.specs.Bytes.{is_line_end, is_border}
use Rattle.sexpr_reader.specs.Tokens.{doubled, is_barred, IsTokenRun, Token, text}
use Rattle.sexpr_reader.specs.Lexes.{EndsOrPasses, Lexes, is_comment}
use Rattle.sexpr_reader.specs.Parts.{IsPart, IsGap}
use Rattle.sexpr_reader.specs.Progress.{IsOpenToken}
use Rattle.sexpr_reader.proofs.Fronts.{Stuck}
use Rattle.sexpr_reader.proofs.Determined.{skip, skip-blank, skip-token, skip-stays, View, view, opens, closes, bars, quotes, plain, run_first, same_front, border_parts}
use Rattle.sexpr_reader.proofs.Tokens.{run_not, run_all, differ, same_literal}

pub skip-inside : (body : List ℕ) → IsTrue (is_comment body) → skip true body ≡ []
skip-inside [] h = refl
skip-inside (b ∷ body) h = ap (λ (c : Bool). if c then skip false body else skip true body) (not-true (is_line_end b) (and-first (not (is_line_end b)) _ h)) ∙ skip-inside body (and-second (not (is_line_end b)) _ h)

skip-run : (part : List ℕ) → IsTokenRun part → skip false part ≡ part
skip-run part run = let f = run_first part run in let parts = border_parts f.0 f.3 in ap (skip false) f.2 ∙ skip-stays f.0 f.1 parts.0 parts.1 ∙ sym f.2

-- what is skipped in front of an unfinished token
pub skip-part : (mode : Mode) (blank part : List ℕ) → IsGap mode blank → IsPart mode part → skip false (blank ++ part) ≡ part
skip-part m.Blank blank part gap is = skip-blank blank part gap ∙ ap (skip false) is ∙ sym is
skip-part m.Comment blank part gap is =
    ap (λ (l : List ℕ). skip false (l ++ part)) gap.2 ∙ ap (skip false) (append_assoc gap.0 (59 ∷ gap.1) part) ∙ skip-blank gap.0 (59 ∷ (gap.1 ++ part)) gap.3
    ∙ ap (λ (l : List ℕ). skip true (gap.1 ++ l)) is ∙ ap (skip true) (append-nil gap.1) ∙ skip-inside gap.1 gap.4 ∙ sym is
skip-part m.Run blank part gap is = skip-blank blank part gap ∙ skip-run part is
skip-part m.Bars blank part gap is = skip-blank blank part gap ∙ ap (skip false) is.1 ∙ sym is.1
skip-part m.Quotes blank part gap is = skip-blank blank part gap ∙ ap (skip false) is.1 ∙ sym is.1
skip-part m.Quote blank part gap is = skip-blank blank part gap ∙ ap (skip false) is.1 ∙ sym is.1

pub more_bytes : (q : ℕ → Bool) (ended : Bool) (after : List ℕ) → EndsOrPasses q false after → (after ≡ [] → ⊥) × EndsOrPasses q ended after
more_bytes q ended [] h = cc
more_bytes q ended (b ∷ after) h = ((λ e. cc), h)

pub no_run : (part : List ℕ) (t : Token) (after : List ℕ) → IsTokenRun part → View false t after → part ≡ text t ++ after → ⊥
no_run part t after run (opens a) e = run_not part [] after 40 run refl (append-nil part ∙ e)
no_run part t after run (closes a) e = run_not part [] after 41 run refl (append-nil part ∙ e)
no_run part t after run (bars body a h) e = run_not part [] _ 124 run refl (append-nil part ∙ e)
no_run part t after run (quotes content a lit_content h) e = run_not part [] _ 34 run refl (append-nil part ∙ e)
no_run part t after run (plain kind bs a r h ends) e =
    let k = more_bytes is_border true after ends in
    let s = same_front is_border true part bs [] after (run_all part run) (run_all bs r) refl k.1 (append-nil part ∙ e) in
    k.0 (sym s.1)

pub no_bars : (ended : Bool) (body : List ℕ) (t : Token) (after : List ℕ) → IsTrue (is_barred body) → View ended t after → 124 ∷ body ≡ text t ++ after → ⊥
no_bars ended body t after barred (opens a) e = differ 124 40 _ _ refl e
no_bars ended body t after barred (closes a) e = differ 124 41 _ _ refl e
no_bars ended body t after barred (bars c a h) e =
    let whole : 124 ∷ body ≡ 124 ∷ (c ++ 124 ∷ after) = e ∙ ap (λ (l : List ℕ). 124 ∷ l) (append_assoc c (124 ∷ []) after) in
    let later : body ++ [] ≡ c ++ 124 ∷ after = append-nil body ∙ cc in
    let s = same_front (λ x. x == 124 || x == 92) true body c [] (124 ∷ after) barred h refl refl later in
    let bad : [] ≡ 124 ∷ after = s.1 in cc
no_bars ended body t after barred (quotes content a lit_content h) e = differ 124 34 _ _ refl e
no_bars ended body t after barred (plain kind bs a r h ends) e = run_not bs after body 124 r refl (sym e)

not_quote : (x : ℕ) → (x == 34) ≡ false → x ≡ 34 → ⊥
not_quote x e k = let g : (x == 34) ≡ true = ap (λ (n : ℕ). n == 34) k in cc

quote_goes_on : (ended : Bool) (xs ys : List ℕ) → EndsOrPasses (λ x. not (x == 34)) ended xs → xs ≡ 34 ∷ ys → ⊥
quote_goes_on ended xs ys h e = let g : false ≡ true = subst (EndsOrPasses (λ x. not (x == 34)) ended) e h in cc

half_step : (ended p q : Bool) (x y : ℕ) (c d a : List ℕ) → (x == 34) ≡ p → (y == 34) ≡ q → EndsOrPasses (λ x. not (x == 34)) ended a → (doubled c ≡ doubled d ++ 34 ∷ a → ⊥)
    → (if p then 34 ∷ 34 ∷ doubled c else x ∷ doubled c) ≡ (if q then 34 ∷ 34 ∷ doubled d else y ∷ doubled d) ++ 34 ∷ a → ⊥
half_step ended true true x y c d a e f h back k = let later : doubled c ≡ doubled d ++ 34 ∷ a = cc in back later
half_step ended true false x y c d a e f h back k = let same : y ≡ 34 = cc in not_quote y f same
half_step ended false true x y c d a e f h back k = let same : x ≡ 34 = cc in not_quote x e same
half_step ended false false x y c d a e f h back k = let later : doubled c ≡ doubled d ++ 34 ∷ a = cc in back later

half_last : (ended p : Bool) (x : ℕ) (c a : List ℕ) → (x == 34) ≡ p → EndsOrPasses (λ x. not (x == 34)) ended a → (if p then 34 ∷ 34 ∷ doubled c else x ∷ doubled c) ≡ 34 ∷ a → ⊥
half_last ended true x c a e h k = let more : a ≡ 34 ∷ doubled c = cc in quote_goes_on ended a (doubled c) h more
half_last ended false x c a e h k = let same : x ≡ 34 = cc in not_quote x e same

half_first : (q : Bool) (y : ℕ) (d a : List ℕ) → [] ≡ (if q then 34 ∷ 34 ∷ doubled d else y ∷ doubled d) ++ 34 ∷ a → ⊥
half_first true y d a k = cc
half_first false y d a k = cc

-- a text whose quotes are all doubled holds no quote that ends it
pub no_half : (ended : Bool) (c d a : List ℕ) → EndsOrPasses (λ x. not (x == 34)) ended a → doubled c ≡ doubled d ++ 34 ∷ a → ⊥
no_half ended [] [] a h k = cc
no_half ended [] (y ∷ d) a h k = half_first (y == 34) y d a k
no_half ended (x ∷ c) [] a h k = half_last ended (x == 34) x c a refl h k
no_half ended (x ∷ c) (y ∷ d) a h k = half_step ended (x == 34) (y == 34) x y c d a refl refl h (no_half ended c d a h) k

pub no_quotes : (ended : Bool) (content : List ℕ) (t : Token) (after : List ℕ) → View ended t after → 34 ∷ doubled content ≡ text t ++ after → ⊥
no_quotes ended content t after (opens a) e = differ 34 40 _ _ refl e
no_quotes ended content t after (closes a) e = differ 34 41 _ _ refl e
no_quotes ended content t after (bars c a h) e = differ 34 124 _ _ refl e
no_quotes ended content t after (plain kind bs a r h ends) e = run_not bs after _ 34 r refl (sym e)
no_quotes ended content t after (quotes d a lit_d ends) e =
    let whole : 34 ∷ doubled content ≡ 34 ∷ (doubled d ++ 34 ∷ after) = e ∙ ap (λ (l : List ℕ). 34 ∷ l) (append_assoc (doubled d) (34 ∷ []) after) in
    let inner : doubled content ≡ doubled d ++ 34 ∷ after = cc in
    no_half ended content d after ends inner

no_quote : (content : List ℕ) (t : Token) (after : List ℕ) → View false t after → 34 ∷ doubled content ++ 34 ∷ [] ≡ text t ++ after → ⊥
no_quote content t after (opens a) e = differ 34 40 _ _ refl e
no_quote content t after (closes a) e = differ 34 41 _ _ refl e
no_quote content t after (bars c a h) e = differ 34 124 _ _ refl e
no_quote content t after (plain kind bs a r h ends) e = run_not bs after _ 34 r refl (sym e)
no_quote content t after (quotes d a lit_d ends) e =
    let whole : 34 ∷ (doubled content ++ 34 ∷ []) ≡ 34 ∷ (doubled d ++ 34 ∷ after) = e ∙ ap (λ (l : List ℕ). 34 ∷ l) (append_assoc (doubled d) (34 ∷ []) after) in
    let inner : doubled content ++ 34 ∷ [] ≡ doubled d ++ 34 ∷ after = cc in
    let k = more_bytes (λ x. not (x == 34)) true after ends in
    let s = same_literal true content d [] after refl k.1 inner in
    k.0 (sym s.1)

pub no_text : (ended : Bool) (t : Token) (after : List ℕ) → View ended t after → [] ≡ text t ++ after → ⊥
no_text ended t after (opens a) e = cc
no_text ended t after (closes a) e = cc
no_text ended t after (bars c a h) e = cc
no_text ended t after (quotes d a lit_d ends) e = cc
no_text ended t after (plain kind bs a r h ends) e = let f = run_first bs r in let k : [] ≡ (f.0 ∷ f.1) ++ after = e ∙ ap (λ (l : List ℕ). l ++ after) f.2 in cc

no_part : (mode : Mode) (part : List ℕ) (t : Token) (after : List ℕ) → IsPart mode part → View false t after → part ≡ text t ++ after → ⊥
no_part m.Blank part t after is v e = no_text false t after v (sym is ∙ e)
no_part m.Comment part t after is v e = no_text false t after v (sym is ∙ e)
no_part m.Run part t after is v e = no_run part t after is v e
no_part m.Bars part t after is v e = no_bars false is.0 t after is.2 v (sym is.1 ∙ e)
no_part m.Quotes part t after is v e = no_quotes false is.0 t after v (sym is.1 ∙ e)
no_part m.Quote part t after is v e = no_quote is.0 t after v (sym is.1 ∙ e)

-- where the input has ended
no_left : (mode : Mode) (part : List ℕ) (t : Token) (after : List ℕ) → IsOpenToken mode → IsPart mode part → View true t after → part ≡ text t ++ after → ⊥
no_left m.Blank part t after left is v e = no_text true t after v (sym is ∙ e)
no_left m.Comment part t after left is v e = no_text true t after v (sym is ∙ e)
no_left m.Bars part t after left is v e = no_bars true is.0 t after is.2 v (sym is.1 ∙ e)
no_left m.Quotes part t after left is v e = no_quotes true is.0 t after v (sym is.1 ∙ e)
no_left m.Run part t after left is v e = absurd left
no_left m.Quote part t after left is v e = absurd left

-- what a token stands at, behind white space and comments
pub token_front : (ended : Bool) (bytes : List ℕ) (t : Token) (ts : List Token) (rest : List ℕ) (h : Lexes ended bytes (t ∷ ts) rest) → View ended t h.1 × (skip false bytes ≡ text t ++ h.1)
token_front ended bytes t ts rest h = let v = view ended t h.1 h.4 h.5 in (v, ap (skip false) h.3 ∙ skip-blank h.0 (text t ++ h.1) h.2 ∙ skip-token ended t h.1 v)

-- no token is whole in what is kept
pub part_stuck : (mode : Mode) (n : ℕ) (blank part : List ℕ) → IsGap mode blank → IsPart mode part → Stuck false n (blank ++ part)
part_stuck mode n blank part gap is = record { none = λ t ts after k h e. let f = token_front false (blank ++ part) t ts after h in no_part mode part t h.1 is f.0 (sym (skip-part mode blank part gap is) ∙ f.1) }

pub left_stuck : (mode : Mode) (n : ℕ) (blank part : List ℕ) → IsOpenToken mode → IsGap mode blank → IsPart mode part → Stuck true n (blank ++ part)
left_stuck mode n blank part left gap is = record { none = λ t ts after k h e. let f = token_front true (blank ++ part) t ts after h in no_left mode part t h.1 left is f.0 (sym (skip-part mode blank part gap is) ∙ f.1) }
