-- What the assertions of a block mean.
use Rattle.std.proofs.Common.{◌≡◌, ℕ, ◌+◌, ◌*◌, ◌≤◌, pos, Bool, true, false, List, [], ◌∷◌, codes, Ok, Option, ◌&&◌, is_some, if◌then◌else◌, refl, ap, ◌∙◌, arith}
use Rattle.generated_script.specs.declared.shape.Shape.{Shape as Block}
use Rattle.generated_script.specs.declared.shape.Shape.TheVariants.{Power, Odd, Halves, Escaped}
use Rattle.generated_terms.specs.Terms as terms
use Rattle.generated_terms.proofs.Folds.{shape_fold, fold-raw}
use Rattle.generated_items.specs.Forms as forms
use Rattle.literal_forms.specs.Shapes.{Shape, text, apply, member, number, raw, end as last, ◌⨾◌ as ◌⨾⨾◌}
use Rattle.smt_names.specs.Faults.{and_then}
use Rattle.smt_names.specs.Form.{Form, group, end, ◌⨾◌}
use Rattle.smt_names.specs.Signature.{function, power}
use Rattle.smt_names.specs.declared.function.ArgumentSorts.TheVariants.{One, Two, Three, Each, Alike}
use Rattle.smt_names.specs.declared.function.Interpretation.TheVariants as is
use Rattle.sv_terms.specs.Sorting.{layer_sort, same_sort}
use Rattle.sv_terms.specs.declared.entry.Body.{Body}
use Rattle.sv_terms.specs.declared.entry.Body.TheVariants as body
use Rattle.sv_terms.specs.declared.op.Op.TheVariants as op
use Rattle.sv_terms.specs.declared.regex.Regex.{Regex}
use Rattle.sv_terms.specs.declared.regex.Regex.TheVariants as regex
use Rattle.sv_terms.specs.declared.sort.Sort.{Sort}
use Rattle.sv_terms.specs.declared.sort.Sort.TheVariants as sort
use Rattle.term_weight.specs.Bodies.{body_sort, layer_word, opaque, literal}
use Rattle.term_weight.specs.Ranks as ranks
use Rattle.term_walk.specs.Meant.{of_theory}
use Rattle.generated_commands.specs.Commands.{with_both}
use Rattle.generated_commands.proofs.Applied.{Means, AllMean, none-mean, more-mean, applies, numeral-means, index-is}

-- a term by its shape
abbrev pub of : Shape → Body
of s = body.Term (raw s)

pub sort-of : (s : Shape) → body_sort (of s) ≡ shape_fold Sort layer_sort s
sort-of s = fold-raw Sort layer_sort s

word-of : (s : Shape) → literal (of s) ≡ shape_fold (Option (List ℕ)) layer_word s
word-of s = fold-raw (Option (List ℕ)) layer_word s

module _ (test : Body → Bool) where
  abbrev Says : Form → Body → Type 0
  Says = Means test with_both

  x-means : Says forms.x (of terms.x)
  x-means = refl

  y-means : Says forms.y (of terms.y)
  y-means = refl

  -- two arguments
  two : (f g : Form) (b c : Body) → Says f b → Says g c → AllMean test with_both (f ⨾ g ⨾ end) (b ∷ c ∷ [])
  two f g b c h k = more-mean test with_both f (g ⨾ end) b (c ∷ []) h (more-mean test with_both g end c [] k (none-mean test with_both))

  one : (f : Form) (b : Body) → Says f b → AllMean test with_both (f ⨾ end) (b ∷ [])
  one f b h = more-mean test with_both f end b [] h (none-mean test with_both)

  -- languages
  ab-means : Says (forms.language_of (codes "\"ab\"")) (body.Language (regex.Text (codes "ab")))
  ab-means =
      applies test with_both (forms.symbol (codes "str.to_re")) (forms.literal (codes "\"ab\"") ⨾ end) (function (One sort.String) sort.RegLan is.TextOf) (of (text (codes "ab")) ∷ []) (sort.String ∷ []) refl refl
      (one (forms.literal (codes "\"ab\"")) (of (text (codes "ab"))) refl) (λ i. sort-of (text (codes "ab")) i ∷ []) refl refl refl
      ∙ ap (λ (o : Option (List ℕ)). Ok (ranks.text_of o)) (word-of (text (codes "ab")))

  aa-means : Says (forms.language_of (codes "\"aa\"")) (body.Language (regex.Text (codes "aa")))
  aa-means =
      applies test with_both (forms.symbol (codes "str.to_re")) (forms.literal (codes "\"aa\"") ⨾ end) (function (One sort.String) sort.RegLan is.TextOf) (of (text (codes "aa")) ∷ []) (sort.String ∷ []) refl refl
      (one (forms.literal (codes "\"aa\"")) (of (text (codes "aa"))) refl) (λ i. sort-of (text (codes "aa")) i ∷ []) refl refl refl
      ∙ ap (λ (o : Option (List ℕ)). Ok (ranks.text_of o)) (word-of (text (codes "aa")))

  star-means : (f : Form) (r : Regex) → Says f (body.Language r) → Says (group (forms.symbol (codes "re.*") ⨾ f ⨾ end)) (body.Language (regex.Star r))
  star-means f r h = applies test with_both (forms.symbol (codes "re.*")) (f ⨾ end) (function (One sort.RegLan) sort.RegLan is.Star) (body.Language r ∷ []) (sort.RegLan ∷ []) refl refl (one f (body.Language r) h) refl refl refl refl

  power-means : (k : ℕ) → k ≤ 50 → (f : Form) (r : Regex) → Says f (body.Language r) → Says (forms.power_of k f) (body.Language (regex.Loop r k k))
  power-means k small f r h =
      applies test with_both (group (forms.symbol (codes "_") ⨾ forms.symbol (codes "re.^") ⨾ forms.numeral k ⨾ end)) (f ⨾ end) (power k) (body.Language r ∷ []) (sort.RegLan ∷ []) refl
      (ap (λ q. of_theory (and_then (λ (n : ℕ). Ok (power n)) q)) (index-is k (omega (arith, small)))) (one f (body.Language r) h) refl refl refl refl

  member-means : (f : Form) (r : Regex) → Says f (body.Language r) → Says (forms.in_language f) (of (member terms.x r))
  member-means f r h =
      applies test with_both (forms.symbol (codes "str.in_re")) (forms.x ⨾ f ⨾ end) (function (Two sort.String sort.RegLan) sort.Bool is.Membership) (of terms.x ∷ body.Language r ∷ []) (sort.String ∷ sort.RegLan ∷ []) refl refl
      (two forms.x f (of terms.x) (body.Language r) x-means h) (λ i. sort-of terms.x i ∷ sort.RegLan ∷ []) refl refl refl

  -- an equality of two terms of one sort that isn't RegLan
  equal-means : (f g : Form) (s t : Shape) (u : Sort) → same_sort u u ≡ true → same_sort sort.RegLan u ≡ false → shape_fold Sort layer_sort s ≡ u → shape_fold Sort layer_sort t ≡ u → Says f (of s) → Says g (of t) → Says (group (forms.symbol (codes "=") ⨾ f ⨾ g ⨾ end)) (of (apply op.Equal (s ⨾⨾ t ⨾⨾ last)))
  equal-means f g s t u same other p q h k =
      applies test with_both (forms.symbol (codes "=")) (f ⨾ g ⨾ end) (function Alike sort.Bool (is.Equality op.Equal)) (of s ∷ of t ∷ []) (u ∷ u ∷ []) refl refl
      (two f g (of s) (of t) h k) (λ i. (sort-of s ∙ p) i ∷ (sort-of t ∙ q) i ∷ []) refl refl (ap (λ (b : Bool). b && true) same)
      ∙ ap (λ (b : Bool). Ok (if b then opaque sort.Bool else ranks.apply op.Equal (of s ∷ of t ∷ []))) (ap (same_sort sort.RegLan) (sort-of s ∙ p) ∙ other)

  length-means : (n : ℕ) → n ≤ 101 → Says (forms.has_length n) (of (terms.has_length n))
  length-means n small =
      equal-means (group (forms.symbol (codes "str.len") ⨾ forms.x ⨾ end)) (forms.numeral n) (apply op.Length (terms.x ⨾⨾ last)) (number (pos n)) sort.Int refl refl refl refl
      (applies test with_both (forms.symbol (codes "str.len")) (forms.x ⨾ end) (function (One sort.String) sort.Int (is.Meaning op.Length)) (of terms.x ∷ []) (sort.String ∷ []) refl refl (one forms.x (of terms.x) x-means) (λ i. sort-of terms.x i ∷ []) refl refl refl)
      (numeral-means test with_both n small)

  halves-mean : Says (group (forms.symbol (codes "str.++") ⨾ forms.y ⨾ forms.y ⨾ end)) (of (apply op.Concat (terms.y ⨾⨾ terms.y ⨾⨾ last)))
  halves-mean =
      applies test with_both (forms.symbol (codes "str.++")) (forms.y ⨾ forms.y ⨾ end) (function (Each sort.String) sort.String (is.Meaning op.Concat)) (of terms.y ∷ of terms.y ∷ []) (sort.String ∷ sort.String ∷ []) refl refl
      (two forms.y forms.y (of terms.y) (of terms.y) y-means y-means) (λ i. sort-of terms.y i ∷ sort-of terms.y i ∷ []) refl refl refl

  abbrev less_than : Form
  less_than = forms.literal (codes "\"<\"")

  abbrev escape : Form
  escape = forms.literal (codes "\"&lt;\"")

  escaped-means : Says (group (forms.symbol (codes "str.replace_all") ⨾ forms.y ⨾ less_than ⨾ escape ⨾ end)) (of (apply op.ReplaceAll (terms.y ⨾⨾ text (codes "<") ⨾⨾ text (codes "&lt;") ⨾⨾ last)))
  escaped-means =
      applies test with_both (forms.symbol (codes "str.replace_all")) (forms.y ⨾ less_than ⨾ escape ⨾ end) (function (Three sort.String sort.String sort.String) sort.String (is.Replacement op.ReplaceAll))
      (of terms.y ∷ of (text (codes "<")) ∷ of (text (codes "&lt;")) ∷ []) (sort.String ∷ sort.String ∷ sort.String ∷ []) refl refl
      (more-mean test with_both forms.y (less_than ⨾ escape ⨾ end) (of terms.y) (of (text (codes "<")) ∷ of (text (codes "&lt;")) ∷ []) y-means (two less_than escape (of (text (codes "<"))) (of (text (codes "&lt;"))) refl refl))
      (λ i. sort-of terms.y i ∷ sort-of (text (codes "<")) i ∷ sort-of (text (codes "&lt;")) i ∷ []) refl refl refl
      ∙ (λ i. Ok (if is_some (word-of (text (codes "<")) i) && is_some (word-of (text (codes "&lt;")) i) then ranks.apply op.ReplaceAll (of terms.y ∷ of (text (codes "<")) ∷ of (text (codes "&lt;")) ∷ []) else opaque sort.String))

  contains-means : Says (group (forms.symbol (codes "str.contains") ⨾ forms.x ⨾ less_than ⨾ end)) (of (apply op.Contains (terms.x ⨾⨾ text (codes "<") ⨾⨾ last)))
  contains-means =
      applies test with_both (forms.symbol (codes "str.contains")) (forms.x ⨾ less_than ⨾ end) (function (Two sort.String sort.String) sort.Bool (is.Meaning op.Contains)) (of terms.x ∷ of (text (codes "<")) ∷ []) (sort.String ∷ sort.String ∷ []) refl refl
      (two forms.x less_than (of terms.x) (of (text (codes "<"))) x-means refl) (λ i. sort-of terms.x i ∷ sort-of (text (codes "<")) i ∷ []) refl refl refl

  pub first-means : (block : Block) (k : ℕ) → k ≤ 50 → Says (forms.first_form block k) (of (terms.first block k))
  first-means Power k h = member-means (forms.power_of k (forms.language_of (codes "\"ab\""))) (regex.Loop (regex.Text (codes "ab")) k k) (power-means k h (forms.language_of (codes "\"ab\"")) (regex.Text (codes "ab")) ab-means)
  first-means Odd k h = member-means (group (forms.symbol (codes "re.*") ⨾ forms.language_of (codes "\"aa\"") ⨾ end)) (regex.Star (regex.Text (codes "aa"))) (star-means (forms.language_of (codes "\"aa\"")) (regex.Text (codes "aa")) aa-means)
  first-means Halves k h = equal-means forms.x (group (forms.symbol (codes "str.++") ⨾ forms.y ⨾ forms.y ⨾ end)) terms.x (apply op.Concat (terms.y ⨾⨾ terms.y ⨾⨾ last)) sort.String refl refl refl refl x-means halves-mean
  first-means Escaped k h = equal-means forms.x (group (forms.symbol (codes "str.replace_all") ⨾ forms.y ⨾ less_than ⨾ escape ⨾ end)) terms.x (apply op.ReplaceAll (terms.y ⨾⨾ text (codes "<") ⨾⨾ text (codes "&lt;") ⨾⨾ last)) sort.String refl refl refl refl x-means escaped-means

  pub second-means : (block : Block) (k : ℕ) → k ≤ 50 → Says (forms.second_form block k) (of (terms.second block k))
  second-means Power k h = length-means (2 * k) (omega (arith, h))
  second-means Odd k h = length-means (2 * k + 1) (omega (arith, h))
  second-means Halves k h = length-means k (omega (arith, h))
  second-means Escaped k h = contains-means
