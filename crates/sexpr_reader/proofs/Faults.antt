-- Where a fault stands nothing further is read, and no other fault stands there.
use Rattle.std.proofs.Common.{◌≡◌, ℕ, ◌==◌, ◌||◌, not, List, [], ◌∷◌, ◌++◌, ⊎_elim, Bool, true, false, IsTrue, Some, None, refl, sym, ap, ◌∙◌, subst, append_assoc, append-nil}
use Rattle.sexpr_reader.specs.declared.mode.Mode.{Mode}
use Rattle.sexpr_reader.specs.declared.mode.Mode.TheVariants as m
use Rattle.sexpr_reader.specs.declared.syntax_fault.SyntaxFault.{SyntaxFault}
use Rattle.sexpr_reader.specs.declared.syntax_fault.SyntaxFault.TheVariants as f
use Rattle.sexpr_reader.specs.Bytes.{is_border}
use Rattle.sexpr_reader.specs.Tokens.{Token, Open, Close, text, doubled, is_barred, is_readable, IsTokenRun, IsPlain}
use Rattle.sexpr_reader.specs.Lexes.{IsBlank, IsBlankEnd, Lexes}
use Rattle.sexpr_reader.specs.Items.{levels, most_open_lists}
use Rattle.sexpr_reader.specs.Parts.{IsPart, IsGap}
use Rattle.sexpr_reader.specs.Reads.{IsOddRun, IsBarredBackslash, IsOddLiteral, IsOpenEnd, FaultAt, SyntaxAt}
use Rattle.sexpr_reader.proofs.Determined.{skip, skip-blank, skip-stays, View, opens, closes, bars, quotes, plain, run_first, same_front, border_parts}
use Rattle.sexpr_reader.proofs.Fronts.{Stuck, one_front}
use Rattle.sexpr_reader.proofs.Tokens.{run_not, run_all, differ, same_literal}
use Rattle.sexpr_reader.proofs.Waits.{skip-part, skip-inside, more_bytes, no_half, no_bars, no_quotes, no_text, token_front, part_stuck}

-- the faults that have a place
pub data Cause : Type 0 where
  token : Cause
  close : Cause
  depth : Cause
  literal : Cause

abbrev pub placed : Cause → ℕ → SyntaxFault
placed token p = f.Token p
placed close p = f.Close p
placed depth p = f.Depth p
placed literal p = f.Literal p

pub data Bad (ended : Bool) (n : ℕ) (bytes : List ℕ) : Cause → Type 0 where
  odd : IsOddRun ended bytes → Bad ended n bytes token
  slash : IsBarredBackslash bytes → Bad ended n bytes token
  shut : (after : List ℕ) → n ≡ 0 → bytes ≡ 41 ∷ after → Bad ended n bytes close
  deep : (after : List ℕ) → n ≡ most_open_lists → bytes ≡ 40 ∷ after → Bad ended n bytes depth
  unread : IsOddLiteral ended bytes → Bad ended n bytes literal

pub data Sight (ended : Bool) (n here : ℕ) (bytes : List ℕ) : SyntaxFault → Type 0 where
  stands : (c : Cause) → Bad ended n bytes c → Sight ended n here bytes (placed c here)
  lacks : IsTrue ended → IsOpenEnd n bytes → Sight ended n here bytes f.Incomplete

moved : (ended : Bool) (n here place : ℕ) (bytes : List ℕ) (c : Cause) → place ≡ here → Bad ended n bytes c → Sight ended n here bytes (placed c place)
moved ended n here place bytes c e b = subst (λ (p : ℕ). Sight ended n here bytes (placed c p)) (sym e) (stands c b)

pub sight : (ended : Bool) (n here : ℕ) (bytes : List ℕ) (fault : SyntaxFault) → FaultAt ended n here bytes fault → Sight ended n here bytes fault
sight ended n here bytes (f.Token p) h = moved ended n here p bytes token h.0 (⊎_elim (λ k. odd k) (λ k. slash k) h.1)
sight ended n here bytes (f.Close p) h = moved ended n here p bytes close h.0 (shut h.2.0 h.1 h.2.1)
sight ended n here bytes (f.Depth p) h = moved ended n here p bytes depth h.0 (deep h.2.0 h.1 h.2.1)
sight ended n here bytes (f.Literal p) h = moved ended n here p bytes literal h.0 (unread h.1)
sight ended n here bytes f.Incomplete h = lacks h.0 h.1
sight ended n here bytes (f.Memory e) h = absurd h

-- a fault's first byte is no white space and begins no comment
pub bad_stays : (ended : Bool) (n : ℕ) (bytes : List ℕ) (c : Cause) → Bad ended n bytes c → skip false bytes ≡ bytes
bad_stays ended n bytes c (odd k) =
    let r = run_first k.0 k.3 in
    let parts = border_parts r.0 r.3 in
    let first : bytes ≡ r.0 ∷ (r.1 ++ k.1) = k.2 ∙ ap (λ (l : List ℕ). l ++ k.1) r.2 in
    ap (skip false) first ∙ skip-stays r.0 (r.1 ++ k.1) parts.0 parts.1 ∙ sym first
bad_stays ended n bytes c (slash k) = ap (skip false) k.2 ∙ sym k.2
bad_stays ended n bytes c (shut after d e) = ap (skip false) e ∙ sym e
bad_stays ended n bytes c (deep after d e) = ap (skip false) e ∙ sym e
bad_stays ended n bytes c (unread k) = ap (skip false) k.2 ∙ sym k.2

pub bad_some : (ended : Bool) (n : ℕ) (bytes : List ℕ) (c : Cause) → Bad ended n bytes c → bytes ≡ [] → ⊥
bad_some ended n bytes c (odd k) e = let r = run_first k.0 k.3 in let first : bytes ≡ r.0 ∷ (r.1 ++ k.1) = k.2 ∙ ap (λ (l : List ℕ). l ++ k.1) r.2 in cc
bad_some ended n bytes c (slash k) e = let first = k.2 in cc
bad_some ended n bytes c (shut after d first) e = cc
bad_some ended n bytes c (deep after d first) e = cc
bad_some ended n bytes c (unread k) e = let first = k.2 in cc

-- white space and comments up to the end
pub skip-end : (bytes : List ℕ) → IsBlankEnd bytes → skip false bytes ≡ []
skip-end bytes h = ⊎_elim
    (λ b. ap (skip false) (sym (append-nil bytes)) ∙ skip-blank bytes [] b)
    (λ k. ap (skip false) k.2 ∙ skip-blank k.0 (59 ∷ k.1) k.3 ∙ skip-inside k.1 k.4) h

-- bars that end, and bars with a backslash
bars_apart : (ended : Bool) (c d a b : List ℕ) → IsTrue (is_barred c) → IsTrue (is_barred d) → 124 ∷ c ++ 92 ∷ a ≡ 124 ∷ d ++ 124 ∷ b → ⊥
bars_apart ended c d a b h g k =
    let later : c ++ 92 ∷ a ≡ d ++ 124 ∷ b = cc in
    let r = same_front (λ x. x == 124 || x == 92) ended c d (92 ∷ a) (124 ∷ b) h g refl refl later in
    differ 92 124 a b refl r.1

module _ (ended : Bool) (n : ℕ) (bytes : List ℕ) where
  bars_text : (c a : List ℕ) → bytes ≡ (124 ∷ c ++ 124 ∷ []) ++ a → bytes ≡ 124 ∷ c ++ 124 ∷ a
  bars_text c a e = e ∙ ap (λ (l : List ℕ). 124 ∷ l) (append_assoc c (124 ∷ []) a)

  quotes_text : (c a : List ℕ) → bytes ≡ (34 ∷ doubled c ++ 34 ∷ []) ++ a → bytes ≡ 34 ∷ doubled c ++ 34 ∷ a
  quotes_text c a e = e ∙ ap (λ (l : List ℕ). 34 ∷ l) (append_assoc (doubled c) (34 ∷ []) a)

  -- no token that keeps the levels stands where a fault stands
  bad_token : (c : Cause) → Bad ended n bytes c → (t : Token) (ts : List Token) (k : ℕ) (a : List ℕ) → View ended t a → levels n (t ∷ ts) ≡ Some k → bytes ≡ text t ++ a → ⊥
  bad_token c (odd r) t ts k a (opens x) l e = run_not r.0 r.1 a 40 r.3 refl (sym r.2 ∙ e)
  bad_token c (odd r) t ts k a (closes x) l e = run_not r.0 r.1 a 41 r.3 refl (sym r.2 ∙ e)
  bad_token c (odd r) t ts k a (bars d x h) l e = run_not r.0 r.1 _ 124 r.3 refl (sym r.2 ∙ e)
  bad_token c (odd r) t ts k a (quotes d x lit h) l e = run_not r.0 r.1 _ 34 r.3 refl (sym r.2 ∙ e)
  bad_token c (odd r) t ts k a (plain kind bs x run is ends) l e =
      let s = same_front is_border ended r.0 bs r.1 a (run_all r.0 r.3) (run_all bs run) r.4 ends (sym r.2 ∙ e) in
      r.5 kind (subst (IsPlain kind) (sym s.0) is)
  bad_token c (slash r) t ts k a (opens x) l e = differ 124 40 _ _ refl (sym r.2 ∙ e)
  bad_token c (slash r) t ts k a (closes x) l e = differ 124 41 _ _ refl (sym r.2 ∙ e)
  bad_token c (slash r) t ts k a (bars d x h) l e = bars_apart ended r.0 d r.1 a r.3 h (sym r.2 ∙ bars_text d a e)
  bad_token c (slash r) t ts k a (quotes d x lit h) l e = differ 124 34 _ _ refl (sym r.2 ∙ e)
  bad_token c (slash r) t ts k a (plain kind bs x run is ends) l e = run_not bs a _ 124 run refl (sym e ∙ r.2)
  bad_token c (shut y d r) t ts k a (opens x) l e = differ 41 40 _ _ refl (sym r ∙ e)
  bad_token c (shut y d r) t ts k a (closes x) l e = let g : levels 0 (Close ∷ ts) ≡ Some k = subst (λ (i : ℕ). levels i (Close ∷ ts) ≡ Some k) d l in cc
  bad_token c (shut y d r) t ts k a (bars b x h) l e = differ 41 124 _ _ refl (sym r ∙ e)
  bad_token c (shut y d r) t ts k a (quotes b x lit h) l e = differ 41 34 _ _ refl (sym r ∙ e)
  bad_token c (shut y d r) t ts k a (plain kind bs x run is ends) l e = run_not bs a _ 41 run refl (sym e ∙ r)
  bad_token c (deep y d r) t ts k a (opens x) l e = let g : levels most_open_lists (Open ∷ ts) ≡ Some k = subst (λ (i : ℕ). levels i (Open ∷ ts) ≡ Some k) d l in let z : None ≡ Some k = g in cc
  bad_token c (deep y d r) t ts k a (closes x) l e = differ 40 41 _ _ refl (sym r ∙ e)
  bad_token c (deep y d r) t ts k a (bars b x h) l e = differ 40 124 _ _ refl (sym r ∙ e)
  bad_token c (deep y d r) t ts k a (quotes b x lit h) l e = differ 40 34 _ _ refl (sym r ∙ e)
  bad_token c (deep y d r) t ts k a (plain kind bs x run is ends) l e = run_not bs a _ 40 run refl (sym e ∙ r)
  bad_token c (unread r) t ts k a (opens x) l e = differ 34 40 _ _ refl (sym r.2 ∙ e)
  bad_token c (unread r) t ts k a (closes x) l e = differ 34 41 _ _ refl (sym r.2 ∙ e)
  bad_token c (unread r) t ts k a (bars b x h) l e = differ 34 124 _ _ refl (sym r.2 ∙ e)
  bad_token c (unread r) t ts k a (quotes d x lit h) l e =
      let both : 34 ∷ doubled r.0 ++ 34 ∷ r.1 ≡ 34 ∷ doubled d ++ 34 ∷ a = sym r.2 ∙ quotes_text d a e in
      let later : doubled r.0 ++ 34 ∷ r.1 ≡ doubled d ++ 34 ∷ a = cc in
      let s = same_literal ended r.0 d r.1 a r.3 h later in
      let g : true ≡ false = sym lit ∙ ap (λ (z : List ℕ). is_readable (doubled z)) (sym s.0) ∙ r.4 in cc
  bad_token c (unread r) t ts k a (plain kind bs x run is ends) l e = run_not bs a _ 34 run refl (sym e ∙ r.2)

  -- nor where a literal, a quoted symbol or a list is open at the end
  open_token : (t : Token) (a : List ℕ) → IsOpenEnd n bytes → View ended t a → skip false bytes ≡ text t ++ a → ⊥
  open_token t a o v e = ⊎_elim
      (λ q. no_quotes ended q.0 t a v (sym (ap (skip false) q.1) ∙ e))
      (λ p. ⊎_elim (λ b. no_bars ended b.0 t a b.2 v (sym (ap (skip false) b.1) ∙ e)) (λ z. no_text ended t a v (sym (skip-end bytes z.1) ∙ e)) p) o

  sight_token : (here : ℕ) (fault : SyntaxFault) → Sight ended n here bytes fault → (t : Token) (ts : List Token) (k : ℕ) (a : List ℕ) → View ended t a → levels n (t ∷ ts) ≡ Some k → skip false bytes ≡ text t ++ a → ⊥
  sight_token here fault (stands c b) t ts k a v l e = bad_token c b t ts k a v l (sym (bad_stays ended n bytes c b) ∙ e)
  sight_token here fault (lacks y o) t ts k a v l e = open_token t a o v e

  pub fault_stuck : (here : ℕ) (fault : SyntaxFault) (blank : List ℕ) → IsBlank blank → FaultAt ended n here bytes fault → Stuck ended n (blank ++ bytes)
  fault_stuck here fault blank gap h = record {
    none = λ t ts after k l e.
        let w = token_front ended (blank ++ bytes) t ts after l in
        sight_token here fault (sight ended n here bytes fault h) t ts k l.1 w.0 e (sym (skip-blank blank bytes gap) ∙ w.1);
  }

-- no fault stands at an unfinished token
module _ (n : ℕ) (part : List ℕ) where
  bad_run : (c : Cause) → Bad false n part c → IsTokenRun part → ⊥
  bad_run c (odd r) run =
      let k = more_bytes is_border true r.1 r.4 in
      let s = same_front is_border true part r.0 [] r.1 (run_all part run) (run_all r.0 r.3) refl k.1 (append-nil part ∙ r.2) in
      k.0 (sym s.1)
  bad_run c (slash r) run = run_not part [] _ 124 run refl (append-nil part ∙ r.2)
  bad_run c (shut y d r) run = run_not part [] _ 41 run refl (append-nil part ∙ r)
  bad_run c (deep y d r) run = run_not part [] _ 40 run refl (append-nil part ∙ r)
  bad_run c (unread r) run = run_not part [] _ 34 run refl (append-nil part ∙ r.2)

  bad_bars : (c : Cause) → Bad false n part c → (body : List ℕ) → part ≡ 124 ∷ body → IsTrue (is_barred body) → ⊥
  bad_bars c (odd r) body e h = run_not r.0 r.1 body 124 r.3 refl (sym r.2 ∙ e)
  bad_bars c (slash r) body e h =
      let whole : 124 ∷ body ≡ 124 ∷ (r.0 ++ 92 ∷ r.1) = sym e ∙ r.2 in
      let later : body ++ [] ≡ r.0 ++ 92 ∷ r.1 = append-nil body ∙ cc in
      let s = same_front (λ x. x == 124 || x == 92) true body r.0 [] (92 ∷ r.1) h r.3 refl refl later in
      let none : [] ≡ 92 ∷ r.1 = s.1 in cc
  bad_bars c (shut y d r) body e h = differ 124 41 _ _ refl (sym e ∙ r)
  bad_bars c (deep y d r) body e h = differ 124 40 _ _ refl (sym e ∙ r)
  bad_bars c (unread r) body e h = differ 124 34 _ _ refl (sym e ∙ r.2)

  bad_quotes : (c : Cause) → Bad false n part c → (content : List ℕ) → part ≡ 34 ∷ doubled content → ⊥
  bad_quotes c (odd r) content e = run_not r.0 r.1 _ 34 r.3 refl (sym r.2 ∙ e)
  bad_quotes c (slash r) content e = differ 34 124 _ _ refl (sym e ∙ r.2)
  bad_quotes c (shut y d r) content e = differ 34 41 _ _ refl (sym e ∙ r)
  bad_quotes c (deep y d r) content e = differ 34 40 _ _ refl (sym e ∙ r)
  bad_quotes c (unread r) content e =
      let whole : 34 ∷ doubled content ≡ 34 ∷ (doubled r.0 ++ 34 ∷ r.1) = sym e ∙ r.2 in
      let inner : doubled content ≡ doubled r.0 ++ 34 ∷ r.1 = cc in
      no_half false content r.0 r.1 r.3 inner

  bad_quote : (c : Cause) → Bad false n part c → (content : List ℕ) → part ≡ 34 ∷ doubled content ++ 34 ∷ [] → ⊥
  bad_quote c (odd r) content e = run_not r.0 r.1 _ 34 r.3 refl (sym r.2 ∙ e)
  bad_quote c (slash r) content e = differ 34 124 _ _ refl (sym e ∙ r.2)
  bad_quote c (shut y d r) content e = differ 34 41 _ _ refl (sym e ∙ r)
  bad_quote c (deep y d r) content e = differ 34 40 _ _ refl (sym e ∙ r)
  bad_quote c (unread r) content e =
      let whole : 34 ∷ (doubled content ++ 34 ∷ []) ≡ 34 ∷ (doubled r.0 ++ 34 ∷ r.1) = sym e ∙ r.2 in
      let inner : doubled content ++ 34 ∷ [] ≡ doubled r.0 ++ 34 ∷ r.1 = cc in
      let k = more_bytes (λ x. not (x == 34)) true r.1 r.3 in
      let s = same_literal true content r.0 [] r.1 refl k.1 inner in
      k.0 (sym s.1)

  bad_part : (c : Cause) → Bad false n part c → (mode : Mode) → IsPart mode part → ⊥
  bad_part c b m.Blank is = bad_some false n part c b is
  bad_part c b m.Comment is = bad_some false n part c b is
  bad_part c b m.Run is = bad_run c b is
  bad_part c b m.Bars is = bad_bars c b is.0 is.1 is.2
  bad_part c b m.Quotes is = bad_quotes c b is.0 is.1
  bad_part c b m.Quote is = bad_quote c b is.0 is.1

sight_part : (n here : ℕ) (bytes part : List ℕ) (fault : SyntaxFault) → Sight false n here bytes fault → (mode : Mode) → IsPart mode part → part ≡ skip false bytes → ⊥
sight_part n here bytes part fault (stands c b) mode is e = bad_part n bytes c b mode (subst (IsPart mode) (e ∙ bad_stays false n bytes c b) is)
sight_part n here bytes part fault (lacks y o) mode is e = cc

-- where the bytes end with an unfinished token, or none, they have no fault so far
pub no_fault : (bytes : List ℕ) (ts : List Token) (n : ℕ) (mode : Mode) (blank part : List ℕ) → Lexes false bytes ts (blank ++ part) → levels 0 ts ≡ Some n → IsGap mode blank → IsPart mode part → (fault : SyntaxFault) → SyntaxAt false bytes fault → ⊥
no_fault bytes ts n mode blank part lexed level gap is fault s =
    let r = one_front false ts s.front.tokens (blank ++ part) (s.front.blank ++ s.rest) n s.level level s.front.level (part_stuck mode n blank part gap is) (fault_stuck false s.level s.rest s.here fault s.front.blank s.front.gap s.found) bytes lexed s.front.lexed in
    sight_part s.level s.here s.rest part fault (sight false s.level s.here s.rest fault s.found) mode is (sym (skip-part mode blank part gap is) ∙ ap (skip false) r.1 ∙ skip-blank s.front.blank s.rest s.front.gap)
