-- A string term of a written form with nested concatenations written as one has a written form.
use Rattle.std.proofs.Common.{◌≡◌, refl, ◌∙◌, true, ◌&&◌}
use Rattle.std.proofs.lemmas.Bool.{false≢true, and_parts}
use Rattle.sv_terms.specs.declared.op.Op.TheVariants as op
use Rattle.literal_forms.specs.Linear.{is_string, are_strings, written, pieces, before, set_before as spliced}
use Rattle.literal_forms.specs.Shapes.{Shape, Shapes, text, constant, apply, end, ◌⨾◌}

-- a string term with nested concatenations written as one is one
strings_spliced : (ss ts : Shapes) → are_strings ss ≡ true → are_strings ts ≡ true → are_strings (spliced ss ts) ≡ true
strings_spliced end ts e f = f
strings_spliced (s ⨾ ss) ts e f =
    let h = and_parts (is_string s) (are_strings ss) e in
    (λ i. h.0 i && are_strings (spliced ss ts)) ∙ strings_spliced ss ts h.1 f

string_before : (s : Shape) (ts : Shapes) → is_string s ≡ true → are_strings ts ≡ true → are_strings (before s ts) ≡ true
string_before (text w) ts e f = f
string_before (constant n s) ts e f = (λ i. e i && are_strings ts) ∙ f
string_before (apply op.Concat (s ⨾ ss)) ts e f = strings_spliced (s ⨾ ss) ts e f
string_before (apply op.Replace (s ⨾ text p ⨾ text u ⨾ end)) ts e f = (λ i. e i && are_strings ts) ∙ f
string_before (apply op.ReplaceAll (s ⨾ text p ⨾ text u ⨾ end)) ts e f = (λ i. e i && are_strings ts) ∙ f
string_before _ ts e f = absurd (false≢true e)

-- and so is their concatenation, for there is a piece
pub concat_before : (s : Shape) (ts : Shapes) → is_string s ≡ true → are_strings ts ≡ true → is_string (apply op.Concat (before s ts)) ≡ true
concat_before (text w) ts e f = f
concat_before (constant n s) ts e f = (λ i. e i && are_strings ts) ∙ f
concat_before (apply op.Concat (s ⨾ ss)) ts e f = strings_spliced (s ⨾ ss) ts e f
concat_before (apply op.Replace (s ⨾ text p ⨾ text u ⨾ end)) ts e f = (λ i. e i && are_strings ts) ∙ f
concat_before (apply op.ReplaceAll (s ⨾ text p ⨾ text u ⨾ end)) ts e f = (λ i. e i && are_strings ts) ∙ f
concat_before _ ts e f = absurd (false≢true e)

mutual
  pub string_written : (s : Shape) → is_string s ≡ true → is_string (written s) ≡ true
  string_written (text w) e = refl
  string_written (constant n s) e = e
  string_written (apply op.Concat (s ⨾ ss)) e =
      let h = and_parts (is_string s) (are_strings ss) e in
      concat_before (written s) (pieces ss) (string_written s h.0) (strings_written ss h.1)
  string_written (apply op.Replace (s ⨾ text p ⨾ text u ⨾ end)) e = string_written s e
  string_written (apply op.ReplaceAll (s ⨾ text p ⨾ text u ⨾ end)) e = string_written s e
  string_written _ e = absurd (false≢true e)

  strings_written : (ss : Shapes) → are_strings ss ≡ true → are_strings (pieces ss) ≡ true
  strings_written end e = refl
  strings_written (s ⨾ ss) e =
      let h = and_parts (is_string s) (are_strings ss) e in
      string_before (written s) (pieces ss) (string_written s h.0) (strings_written ss h.1)
