-- The s-expressions of forms: how they are seen, printed and formed.
use Rattle.std.proofs.Common.{◌≡◌, ℕ, suc, List, [], ◌∷◌, ◌++◌, map, refl, ap, ◌∙◌}
use Rattle.sexpr_reader.specs.Items.{HasFormedAtoms, AreFormed}
use Rattle.sexpr_reader.specs.Tokens.{IsOfKind}
use Rattle.sexpr_reader.proofs.Formed.{formed_atom, formed_list}
use Rattle.smt_names.specs.Form.{Form, Forms, token, group, end, ◌⨾◌, forms, seen, raw, raws}
use Rattle.smt_names.specs.Shapes.{seen-Atom, seen-List}
use Rattle.sexpr_print.specs.Printed.{spaced, printed, greatest, depth}
use Rattle.sexpr_print.proofs.Opened.{printed-Atom, printed-List, depth-Atom, depth-List}

mutual
  pub seen-raw : (f : Form) → seen (raw f) ≡ f
  seen-raw (token kind text) = seen-Atom kind text
  seen-raw (group fs) = seen-List (raws fs) ∙ ap group (seen-raws fs)

  seen-raws : (fs : Forms) → forms (map seen (raws fs)) ≡ fs
  seen-raws end = refl
  seen-raws (f ⨾ fs) = λ i. seen-raw f i ⨾ seen-raws fs i

abbrev mutual
  pub form_text : Form → List ℕ
  form_text (token kind text) = text
  form_text (group fs) = 40 ∷ (spaced (form_texts fs) ++ 41 ∷ [])

  pub form_texts : Forms → List (List ℕ)
  form_texts end = []
  form_texts (f ⨾ fs) = form_text f ∷ form_texts fs

mutual
  pub printed-raw : (f : Form) → printed (raw f) ≡ form_text f
  printed-raw (token kind text) = printed-Atom kind text
  printed-raw (group fs) = printed-List (raws fs) ∙ ap (λ (ts : List (List ℕ)). 40 ∷ (spaced ts ++ 41 ∷ [])) (printed-raws fs)

  printed-raws : (fs : Forms) → map printed (raws fs) ≡ form_texts fs
  printed-raws end = refl
  printed-raws (f ⨾ fs) = λ i. printed-raw f i ∷ printed-raws fs i

abbrev mutual
  pub form_depth : Form → ℕ
  form_depth (token kind text) = 0
  form_depth (group fs) = suc (greatest (form_depths fs))

  pub form_depths : Forms → List ℕ
  form_depths end = []
  form_depths (f ⨾ fs) = form_depth f ∷ form_depths fs

mutual
  pub depth-raw : (f : Form) → depth (raw f) ≡ form_depth f
  depth-raw (token kind text) = depth-Atom kind text
  depth-raw (group fs) = depth-List (raws fs) ∙ ap (λ (ns : List ℕ). suc (greatest ns)) (depth-raws fs)

  depth-raws : (fs : Forms) → map depth (raws fs) ≡ form_depths fs
  depth-raws end = refl
  depth-raws (f ⨾ fs) = λ i. depth-raw f i ∷ depth-raws fs i

-- each token is one of its kind
abbrev mutual
  pub HasTokens : Form → Type 0
  HasTokens (token kind text) = IsOfKind kind text
  HasTokens (group fs) = HaveTokens fs

  pub HaveTokens : Forms → Type 0
  HaveTokens end = Unit {0}
  HaveTokens (f ⨾ fs) = HasTokens f × HaveTokens fs

mutual
  pub formed-raw : (f : Form) → HasTokens f → HasFormedAtoms (raw f)
  formed-raw (token kind text) h = (formed_atom kind text).1 h
  formed-raw (group fs) h = (formed_list (raws fs)).1 (formed-raws fs h)

  formed-raws : (fs : Forms) → HaveTokens fs → AreFormed (raws fs)
  formed-raws end h = tt
  formed-raws (f ⨾ fs) h = (formed-raw f h.0, formed-raws fs h.1)
