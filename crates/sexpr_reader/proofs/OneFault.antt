-- At one place stands one fault.
use Rattle.std.proofs.Common.{◌≡◌, ℕ, ◌==◌, ◌||◌, List, [], ◌∷◌, ◌++◌, ⊎_elim, Bool, true, false, IsTrue, length, refl, sym, ap, ◌∙◌, subst, append-nil, arith}
use Rattle.std.proofs.lemmas.Option.{same_Some}
use Rattle.sexpr_reader.specs.declared.syntax_fault.SyntaxFault.{SyntaxFault}
use Rattle.sexpr_reader.specs.declared.sexpr.Sexpr.{Sexpr}
use Rattle.sexpr_reader.specs.Tokens.{doubled, is_barred}
use Rattle.sexpr_reader.specs.Lexes.{IsBlankEnd}
use Rattle.sexpr_reader.specs.Items.{tokens_of_all, levels}
use Rattle.sexpr_reader.specs.Reads.{IsOpenEnd, SyntaxAt, Ends}
use Rattle.sexpr_reader.proofs.Determined.{skip, skip-blank, same_front}
use Rattle.sexpr_reader.proofs.Faults.{Cause, placed, Bad, odd, slash, shut, deep, unread, Sight, stands, lacks, sight, bad_stays, bad_some, skip-end, fault_stuck}
use Rattle.sexpr_reader.proofs.Fronts.{Stuck, one_front}
use Rattle.sexpr_reader.proofs.Tokens.{run_not, differ}
use Rattle.sexpr_reader.proofs.Waits.{no_half, no_text, token_front}

module _ (ended : Bool) (n : ℕ) (bytes : List ℕ) where
  -- bytes that stand for one cause stand for no other
  same_cause : (c d : Cause) → Bad ended n bytes c → Bad ended n bytes d → c ≡ d
  same_cause c d (odd r) (odd s) = refl
  same_cause c d (odd r) (slash s) = refl
  same_cause c d (odd r) (shut y z s) = absurd (run_not r.0 r.1 _ 41 r.3 refl (sym r.2 ∙ s))
  same_cause c d (odd r) (deep y z s) = absurd (run_not r.0 r.1 _ 40 r.3 refl (sym r.2 ∙ s))
  same_cause c d (odd r) (unread s) = absurd (run_not r.0 r.1 _ 34 r.3 refl (sym r.2 ∙ s.2))
  same_cause c d (slash r) (odd s) = refl
  same_cause c d (slash r) (slash s) = refl
  same_cause c d (slash r) (shut y z s) = absurd (differ 124 41 _ _ refl (sym r.2 ∙ s))
  same_cause c d (slash r) (deep y z s) = absurd (differ 124 40 _ _ refl (sym r.2 ∙ s))
  same_cause c d (slash r) (unread s) = absurd (differ 124 34 _ _ refl (sym r.2 ∙ s.2))
  same_cause c d (shut x w r) (odd s) = absurd (run_not s.0 s.1 _ 41 s.3 refl (sym s.2 ∙ r))
  same_cause c d (shut x w r) (slash s) = absurd (differ 41 124 _ _ refl (sym r ∙ s.2))
  same_cause c d (shut x w r) (shut y z s) = refl
  same_cause c d (shut x w r) (deep y z s) = absurd (differ 41 40 _ _ refl (sym r ∙ s))
  same_cause c d (shut x w r) (unread s) = absurd (differ 41 34 _ _ refl (sym r ∙ s.2))
  same_cause c d (deep x w r) (odd s) = absurd (run_not s.0 s.1 _ 40 s.3 refl (sym s.2 ∙ r))
  same_cause c d (deep x w r) (slash s) = absurd (differ 40 124 _ _ refl (sym r ∙ s.2))
  same_cause c d (deep x w r) (shut y z s) = absurd (differ 40 41 _ _ refl (sym r ∙ s))
  same_cause c d (deep x w r) (deep y z s) = refl
  same_cause c d (deep x w r) (unread s) = absurd (differ 40 34 _ _ refl (sym r ∙ s.2))
  same_cause c d (unread r) (odd s) = absurd (run_not s.0 s.1 _ 34 s.3 refl (sym s.2 ∙ r.2))
  same_cause c d (unread r) (slash s) = absurd (differ 34 124 _ _ refl (sym r.2 ∙ s.2))
  same_cause c d (unread r) (shut y z s) = absurd (differ 34 41 _ _ refl (sym r.2 ∙ s))
  same_cause c d (unread r) (deep y z s) = absurd (differ 34 40 _ _ refl (sym r.2 ∙ s))
  same_cause c d (unread r) (unread s) = refl

  -- a fault that has a place is no open literal, quoted symbol or list
  not_quotes : (c : Cause) → Bad ended n bytes c → (content : List ℕ) → bytes ≡ 34 ∷ doubled content → ⊥
  not_quotes c (odd r) content e = run_not r.0 r.1 _ 34 r.3 refl (sym r.2 ∙ e)
  not_quotes c (slash r) content e = differ 124 34 _ _ refl (sym r.2 ∙ e)
  not_quotes c (shut y z r) content e = differ 41 34 _ _ refl (sym r ∙ e)
  not_quotes c (deep y z r) content e = differ 40 34 _ _ refl (sym r ∙ e)
  not_quotes c (unread r) content e =
      let whole : 34 ∷ doubled content ≡ 34 ∷ (doubled r.0 ++ 34 ∷ r.1) = sym e ∙ r.2 in
      let inner : doubled content ≡ doubled r.0 ++ 34 ∷ r.1 = cc in
      no_half ended content r.0 r.1 r.3 inner

  not_bars : (c : Cause) → Bad ended n bytes c → (body : List ℕ) → bytes ≡ 124 ∷ body → IsTrue (is_barred body) → ⊥
  not_bars c (odd r) body e h = run_not r.0 r.1 body 124 r.3 refl (sym r.2 ∙ e)
  not_bars c (slash r) body e h =
      let whole : 124 ∷ body ≡ 124 ∷ (r.0 ++ 92 ∷ r.1) = sym e ∙ r.2 in
      let later : body ++ [] ≡ r.0 ++ 92 ∷ r.1 = append-nil body ∙ cc in
      let s = same_front (λ x. x == 124 || x == 92) true body r.0 [] (92 ∷ r.1) h r.3 refl refl later in
      let none : [] ≡ 92 ∷ r.1 = s.1 in cc
  not_bars c (shut y z r) body e h = differ 41 124 _ _ refl (sym r ∙ e)
  not_bars c (deep y z r) body e h = differ 40 124 _ _ refl (sym r ∙ e)
  not_bars c (unread r) body e h = differ 34 124 _ _ refl (sym r.2 ∙ e)

  not_open : (c : Cause) (rest : List ℕ) → Bad ended n bytes c → IsOpenEnd n rest → skip false rest ≡ bytes → ⊥
  not_open c rest b o e = ⊎_elim
      (λ q. not_quotes c b q.0 (sym e ∙ ap (skip false) q.1))
      (λ p. ⊎_elim (λ w. not_bars c b w.0 (sym e ∙ ap (skip false) w.1) w.2) (λ z. bad_some ended n bytes c b (sym e ∙ skip-end rest z.1)) p) o

same_sight : (ended : Bool) (n here there : ℕ) (rest after : List ℕ) (x y : SyntaxFault) → Sight ended n here rest x → Sight ended n there after y → skip false rest ≡ skip false after → (rest ≡ after → here ≡ there) → x ≡ y
same_sight ended n here there rest after x y (stands c b) (stands d w) e f =
    let same : rest ≡ after = sym (bad_stays ended n rest c b) ∙ e ∙ bad_stays ended n after d w in
    ap (λ (k : Cause). placed k here) (same_cause ended n rest c d b (subst (λ (l : List ℕ). Bad ended n l d) (sym same) w)) ∙ ap (placed d) (f same)
same_sight ended n here there rest after x y (stands c b) (lacks u o) e f = absurd (not_open ended n rest c after b o (sym e ∙ bad_stays ended n rest c b))
same_sight ended n here there rest after x y (lacks v p) (stands d w) e f = absurd (not_open ended n after d rest w p (e ∙ bad_stays ended n after d w))
same_sight ended n here there rest after x y (lacks v p) (lacks u o) e f = refl

-- the first fault is one
pub one_fault : (ended : Bool) (bytes : List ℕ) (x y : SyntaxFault) → SyntaxAt ended bytes x → SyntaxAt ended bytes y → x ≡ y
one_fault ended bytes x y s t =
    let r = one_front ended s.front.tokens t.front.tokens (s.front.blank ++ s.rest) (t.front.blank ++ t.rest) s.level t.level s.front.level t.front.level
    (fault_stuck ended s.level s.rest s.here x s.front.blank s.front.gap s.found) (fault_stuck ended t.level t.rest t.here y t.front.blank t.front.gap t.found) bytes s.front.lexed t.front.lexed in
    let deep : s.level ≡ t.level = same_Some s.level t.level (sym s.front.level ∙ ap (levels 0) r.0 ∙ t.front.level) in
    let rests : skip false s.rest ≡ skip false t.rest = sym (skip-blank s.front.blank s.rest s.front.gap) ∙ ap (skip false) r.1 ∙ skip-blank t.front.blank t.rest t.front.gap in
    same_sight ended t.level s.here t.here s.rest t.rest x y (subst (λ (n : ℕ). Sight ended n s.here s.rest x) deep (sight ended s.level s.here s.rest x s.found)) (sight ended t.level t.here t.rest y t.found) rests
    (λ e. omega (arith, s.behind, t.behind, ap length e))

end_sight : (n here : ℕ) (rest after : List ℕ) (x : SyntaxFault) → Sight true n here rest x → n ≡ 0 → skip false rest ≡ [] → ⊥
end_sight n here rest after x (stands c b) z e = bad_some true n rest c b (sym (bad_stays true n rest c b) ∙ e)
end_sight n here rest after x (lacks u o) z e = ⊎_elim
    (λ q. let k : 34 ∷ doubled q.0 ≡ [] = sym (ap (skip false) q.1) ∙ e in cc)
    (λ p. ⊎_elim (λ w. let k : 124 ∷ w.0 ≡ [] = sym (ap (skip false) w.1) ∙ e in cc) (λ l. l.0 z) p) o

-- white space and comments hold no token
blank_stuck : (ended : Bool) (n : ℕ) (rest : List ℕ) → IsBlankEnd rest → Stuck ended n rest
blank_stuck ended n rest h = record { none = λ t ts after k l e. let w = token_front ended rest t ts after l in no_text ended t l.1 w.0 (sym (skip-end rest h) ∙ w.1) }

-- where nothing but white space and comments is left there is no fault
pub no_fault_end : (bytes : List ℕ) (items : List Sexpr) (x : SyntaxFault) → Ends bytes items → SyntaxAt true bytes x → ⊥
no_fault_end bytes items x h s =
    let r = one_front true (tokens_of_all items) s.front.tokens h.rest (s.front.blank ++ s.rest) 0 s.level h.reads.begins.nested s.front.level
    (blank_stuck true 0 h.rest h.blank) (fault_stuck true s.level s.rest s.here x s.front.blank s.front.gap s.found) bytes h.reads.begins.lexed s.front.lexed in
    let deep : s.level ≡ 0 = same_Some s.level 0 (sym s.front.level ∙ sym (ap (levels 0) r.0) ∙ h.reads.begins.nested) in
    end_sight s.level s.here s.rest h.rest x (sight true s.level s.here s.rest x s.found) deep (sym (skip-blank s.front.blank s.rest s.front.gap) ∙ sym (ap (skip false) r.1) ∙ skip-end h.rest h.blank)
