-- What is read as a term has a sort, formed transducers and known constants.
use Rattle.std.proofs.Common.{◌≡◌, refl, sym, ap, ◌∙◌, subst, map, length, Bool, true, false, ◌&&◌, IsTrue, nat_le, ℕ, suc, pos, List, [], ◌∷◌, ◌++◌, Option, Some, None, Result, Ok, Err, codes, if◌then◌else◌}
use Rattle.std.specs.Map.{lookup}
use Rattle.std.proofs.lemmas.Bool.{and_parts}
use mathlib.Core.Bool.{cond}
use Rattle.sexpr_reader.specs.declared.kind.TokenKind.{TokenKind}
use Rattle.sexpr_reader.specs.declared.kind.TokenKind.TheVariants.{Numeral, Decimal, Hexadecimal, Binary, Symbol, Quoted, Keyword, Literal}
use Rattle.sv_terms.specs.Names.{symbol_name}
use Rattle.sv_terms.specs.Sorting.{same_sort, sort_of}
use Rattle.sv_terms.specs.declared.entry.Body.{Body}
use Rattle.sv_terms.specs.declared.entry.Body.TheVariants as body
use Rattle.sv_terms.specs.declared.entry.Entry.{Entry}
use Rattle.sv_terms.specs.declared.entry.Entry.TheVariants as entry
use Rattle.sv_terms.specs.declared.sort.Sort.{Sort}
use Rattle.sv_terms.specs.declared.sort.Sort.TheVariants as sort
use Rattle.sv_terms.specs.declared.term.Term.{Term}
use Rattle.sv_terms.specs.declared.term.Term.TheVariants as term
use Rattle.sv_terms.specs.declared.transducer.Transducer.{Transducer}
use Rattle.smt_names.specs.declared.check_fault.CheckFault.{CheckFault}
use Rattle.smt_names.specs.declared.check_fault.CheckFault.TheVariants as fault
use Rattle.smt_names.specs.declared.function.Function.{Function}
use Rattle.item_passes.specs.Binders.{is_binding, is_variable, are_some, variables}
use Rattle.term_weight.specs.Bodies.{body_sort, term_of, called, related, arguments_for, or_constant}
use Rattle.smt_names.specs.Faults.{and_then, or_fault}
use Rattle.smt_names.specs.Form.{Form, Forms, token, group, end, ◌⨾◌, count}
use Rattle.term_walk.specs.Meant.{Scope, Names, Head, theory, constant, macro, machine, of_entry, mapped, named, index_of, powered, looped, charred, indexed, identified, of_theory, named_if, head, head_count, head_sorts, head_applied, application, alone, in_parentheses, latest, meant_name, meant_token, as_constants, quantified_over, quantified, bind, meant, meant_all, meant_let, meant_values, meant_value, meant_quantifier, meant_annotated}
use Rattle.term_weight.specs.Ranks.{are_of}
use Rattle.smt_names.specs.Signature.{Name, same_name, stands_in, signature, indexed_names, power, loop, character}
use Rattle.smt_names.specs.Tokens.{symbol, digits, value, is_too_large, literal_word, character_token, opening, is_identifier}
use Rattle.sv_terms.specs.TransducerSizes.{is_formed, has_formed}
use Rattle.sv_terms.proofs.ValueSorts.{same_is}
use Rattle.sort_check.specs.WellFormed.{is_constant_of, is_declared, hidden_by, is_bound, is_sort, constants_are, is_body, is_well_formed}
use Rattle.sort_check.proofs.WellApplied.{same-self, Sound, function-sound, IsWell, well-term, well-opaque, well-language, well-applied}
use Rattle.sort_check.proofs.WellNames.{sound-entry}
use Rattle.smt_names.specs.Giving.{Gives, Maybe, need-gives, refuse-gives, or-gives, some-maybe, if-maybe, then-gives}
use Rattle.sort_check.proofs.WellSteps.{else-maybe, each-append, one-of, variable-gives, mapped-maybe}
use Rattle.sort_check.proofs.WellTerms.{Each, Fit, fit-number, fit-text, fit-constant, fit-related, fit-weaker, fit-put}

-- all constants that are declared are known
abbrev pub Knows : Names → (Name → Sort → Bool) → Type 0
Knows symbols known = (n : Name) (s : Sort) → IsTrue (is_declared symbols n s) → IsTrue (known n s)

-- a call of a macro with arguments of its parameters' sorts
abbrev Calls : (Name → Sort → Bool) → List (Name × Sort) → Body → Type 0
Calls known parameters b = (bs : List Body) → IsTrue (are_of (map (λ p. p.1) parameters) (map body_sort bs)) → Each (IsWell known) bs → IsWell known (called parameters b bs)

abbrev SoundHead : (Name → Sort → Bool) → Head → Type 0
SoundHead known (theory f) = Sound f
SoundHead known (constant n s) = IsTrue (known n s)
SoundHead known (macro parameters b) = Calls known parameters b
SoundHead known (machine t) = IsTrue (is_formed t)

-- arguments in the place of parameters
module _ (known : Name → Sort → Bool) (n : Name) (s : Sort) (declared : Bool) (knows : IsTrue declared → IsTrue (known n s)) where
  put-argument : (ps : List (Name × Sort)) (bs : List Body) → IsTrue (are_of (map (λ p. p.1) ps) (map body_sort bs)) → Each (IsWell known) bs → IsTrue (hidden_by (lookup (same_name n) ps) declared s) → Fit known s (or_constant n s (lookup (same_name n) (arguments_for ps bs)))
  put-argument [] bs h w k = fit-constant known n s (knows k)
  put-argument (p ∷ ps) [] h w k = absurd (cc)
  put-argument (p ∷ ps) (b ∷ bs) h w k = go (same_name n p.0) (lookup (same_name n) ps) (lookup (same_name n) (arguments_for ps bs)) (put-argument ps bs e.1 w.1) k
    where
      e : IsTrue (same_sort p.1 (body_sort b)) × IsTrue (are_of (map (λ p. p.1) ps) (map body_sort bs))
      e = and_parts (same_sort p.1 (body_sort b)) (are_of (map (λ p. p.1) ps) (map body_sort bs)) h

      go : (c : Bool) (o : Option Sort) (q : Option Term) → (IsTrue (hidden_by o declared s) → Fit known s (or_constant n s q)) → IsTrue (hidden_by (cond c (Some p.1) o) declared s) → Fit known s (or_constant n s (cond c (Some (term_of b)) q))
      go true o q i k = subst (λ z. Fit known z (term_of b)) (same_is p.1 (body_sort b) e.0 ∙ same_is s p.1 k) w.0
      go false o q i k = i k

sort-is : (s : Sort) (o : Option Sort) → IsTrue (is_sort s o) → o ≡ Some s
sort-is s None h = absurd (cc)
sort-is s (Some t) h = ap Some (same_is s t h)

module _ (symbols : Names) (wf : IsTrue (is_well_formed symbols)) (known : Name → Sort → Bool) (knows : Knows symbols known) where
  body-calls : (ps : List (Name × Sort)) (b : Body) → IsTrue (is_body ps symbols b) → Calls known ps b
  body-calls ps (body.Language r) h bs e w = well-language known r
  body-calls ps (body.Term t) h bs e w =
      let k = and_parts (is_sort (body_sort (body.Term t)) (sort_of t) && has_formed t) (constants_are (is_bound ps symbols) t) h in
      let l = and_parts (is_sort (body_sort (body.Term t)) (sort_of t)) (has_formed t) k.0 in
      well-term known (body_sort (body.Term t)) _ (fit-put (is_bound ps symbols) known (λ n. lookup (same_name n) (arguments_for ps bs)) (λ n s q. put-argument known n s (is_declared symbols n s) (knows n s) ps bs e w q)
      (body_sort (body.Term t)) t (record { sorted = sort-is (body_sort (body.Term t)) (sort_of t) l.0; shown = refl; constants = k.1; formed = l.1 }))

  entry-sound : (n : Name) (e : Entry) → lookup (same_name n) symbols ≡ Some e → SoundHead known (of_entry n e)
  entry-sound n (entry.Constant s) f = knows n s (ap (is_constant_of s) f ∙ same-self s)
  entry-sound n (entry.Macro ps b) f = body-calls ps b (sound-entry symbols n (entry.Macro ps b) wf f).entry
  entry-sound n (entry.Machine t) f = (sound-entry symbols n (entry.Machine t) wf f).entry

  named-sound : (n : Name) → Gives (SoundHead known) (named symbols n)
  named-sound n = refuse-gives (SoundHead known) (stands_in indexed_names n) fault.Index _ (λ _. or-gives (SoundHead known) fault.Unknown _ (else-maybe (SoundHead known) (mapped theory (lookup (same_name n) signature)) (mapped (of_entry n) (lookup (same_name n) symbols))
      (mapped-maybe (λ f. lookup (same_name n) signature ≡ Some f) (SoundHead known) theory (lookup (same_name n) signature) (some-maybe (λ f. lookup (same_name n) signature ≡ Some f) (lookup (same_name n) signature) (λ f e. e)) (λ f e. function-sound (same_name n) f e))
      (mapped-maybe (λ e. lookup (same_name n) symbols ≡ Some e) (SoundHead known) (of_entry n) (lookup (same_name n) symbols) (some-maybe (λ e. lookup (same_name n) symbols ≡ Some e) (lookup (same_name n) symbols) (λ e f. f)) (entry-sound n))))

-- functions with indices
abbrev pub Any : {A : Type 0} → A → Type 0
Any x = Unit {0}

pub any-gives : {A : Type 0} (r : Result A CheckFault) → Gives Any r
any-gives (Ok x) = tt
any-gives (Err f) = tt

pub if-gives : {A : Type 0} (P : A → Type 0) (b : Bool) (r q : Result A CheckFault) → Gives P r → Gives P q → Gives P (if b then r else q)
if-gives P true r q h g = h
if-gives P false r q h g = g

powered-sound : (fs : Forms) → Gives Sound (powered fs)
powered-sound end = tt
powered-sound (n ⨾ end) = then-gives Any Sound (λ n. Ok (power n)) (index_of (digits n)) (any-gives (index_of (digits n))) (λ n _. refl)
powered-sound (n ⨾ m ⨾ fs) = tt

looped-sound : (fs : Forms) → Gives Sound (looped fs)
looped-sound end = tt
looped-sound (i ⨾ end) = tt
looped-sound (i ⨾ j ⨾ end) =
    then-gives Any Sound (λ i. and_then (λ j. Ok (loop i j)) (index_of (digits j))) (index_of (digits i)) (any-gives (index_of (digits i)))
    (λ i _. then-gives Any Sound (λ j. Ok (loop i j)) (index_of (digits j)) (any-gives (index_of (digits j))) (λ j _. refl))
looped-sound (i ⨾ j ⨾ k ⨾ fs) = tt

charred-sound : (fs : Forms) → Gives Sound (charred fs)
charred-sound end = tt
charred-sound (h ⨾ end) = then-gives Any Sound (λ c. Ok (character c)) (or_fault fault.Index (character_token h)) (any-gives (or_fault fault.Index (character_token h))) (λ c _. refl)
charred-sound (h ⨾ m ⨾ fs) = tt

indexed-sound : (symbols : Names) (n : Option Name) (fs : Forms) → Gives Sound (indexed symbols n fs)
indexed-sound symbols None fs = tt
indexed-sound symbols (Some n) fs =
    if-gives Sound (same_name n (codes "re.^")) _ _ (powered-sound fs)
    (if-gives Sound (same_name n (codes "re.loop")) _ _ (looped-sound fs)
    (if-gives Sound (same_name n (codes "char")) _ _ (charred-sound fs)
    (then-gives Any Sound (λ h. Err fault.Index) (named symbols n) (any-gives (named symbols n)) (λ h _. tt))))

identified-sound : (symbols : Names) (fs : Forms) → Gives Sound (identified symbols fs)
identified-sound symbols end = tt
identified-sound symbols (n ⨾ fs) = indexed-sound symbols (symbol n) fs

module _ (known : Name → Sort → Bool) where
  theory-sound : (r : Result Function CheckFault) → Gives Sound r → Gives (SoundHead known) (of_theory r)
  theory-sound r h = then-gives Sound (SoundHead known) (λ f. Ok (theory f)) r h (λ f k. k)

  -- so many that are well
  pub record AreWell (n : ℕ) (bs : List Body) : Type 0 where
    pub well : Each (IsWell known) bs
    pub many : length bs ≡ n

  -- a transducer takes two words
  related-well : (m : Transducer) (bs : List Body) → IsTrue (is_formed m) → Each (IsWell known) bs → IsTrue (head_sorts (machine m) (map body_sort bs)) → IsWell known (related m bs)
  related-well m [] s w g = absurd (cc)
  related-well m (a ∷ []) s w g = absurd (cc)
  related-well m (a ∷ b ∷ []) s w g =
      let k = and_parts (same_sort sort.String (body_sort a)) (same_sort sort.String (body_sort b)) g in
      well-term known sort.Bool (term.Related m (term_of a) (term_of b)) (fit-related known m (term_of a) (term_of b) s
      (subst (λ z. Fit known z (term_of a)) (same_is sort.String (body_sort a) k.0) w.0) (subst (λ z. Fit known z (term_of b)) (same_is sort.String (body_sort b) k.1) w.1.0))
  related-well m (a ∷ b ∷ d ∷ bs) s w g = absurd (cc)

  head-well : (h : Head) (bs : List Body) → SoundHead known h → Each (IsWell known) bs → IsTrue (head_count h (length bs)) → IsTrue (head_sorts h (map body_sort bs)) → IsWell known (head_applied h bs)
  head-well (theory f) bs s w c g = well-applied known f bs s w c g
  head-well (constant n s) bs k w c g = well-term known s (term.Constant n s) (fit-constant known n s k)
  head-well (macro ps b) bs s w c g = s bs g w
  head-well (machine t) bs s w c g = related-well t bs s w g

  application-well : (h : Head) (n : ℕ) (r : Result (List Body) CheckFault) → SoundHead known h → Gives (AreWell n) r → Gives (IsWell known) (application h n r)
  application-well h n r s w = need-gives (IsWell known) (head_count h n) fault.Arity _ (λ c.
      then-gives (AreWell n) (IsWell known) _ r w (λ bs a.
      need-gives (IsWell known) (head_sorts h (map body_sort bs)) fault.Sort _ (λ g.
      head-well h bs s a.well (subst (λ z. IsTrue (head_count h z)) (sym a.many) c) g)))

  alone-well : (r : Result Head CheckFault) → Gives (SoundHead known) r → Gives (IsWell known) (alone r)
  alone-well r s = then-gives (SoundHead known) (IsWell known) _ r s (λ h k. application-well h 0 (Ok []) k (record { well = tt; many = refl }))

  parentheses-well : (r : Result Head CheckFault) (n : ℕ) (q : Result (List Body) CheckFault) → Gives (SoundHead known) r → Gives (AreWell n) q → Gives (IsWell known) (in_parentheses r n q)
  parentheses-well r n q s w = then-gives (SoundHead known) (IsWell known) _ r s (λ h k.
      need-gives (IsWell known) (nat_le 1 n) fault.Arity _ (λ c. application-well h n q k w))

  -- each name of a scope stands for what is well
  abbrev pub Scoped : Scope → Type 0
  Scoped scope = Each (λ x. IsWell known x.1) scope

  latest-well : (n : Name) (scope : Scope) → Scoped scope → Maybe (IsWell known) (latest n scope)
  latest-well n [] w = tt
  latest-well n (b ∷ bs) w = else-maybe (IsWell known) (latest n bs) (if same_name n b.0 then Some b.1 else None) (latest-well n bs w.1) (if-maybe (IsWell known) (same_name n b.0) b.1 w.0)

  bind-well : (n : Option Name) (b : Body) → IsWell known b → Scoped (bind n b)
  bind-well (Some n) b w = (w, tt)
  bind-well None b w = tt

  -- variables stand as constants, if these are known
  pub constants-well : (rename : Name → Name) (vs : List (Name × Sort)) → Each (λ v. IsTrue (known (rename v.0) v.1)) vs → Scoped (as_constants rename vs)
  constants-well rename [] k = tt
  constants-well rename (v ∷ vs) k = (well-term known v.1 (term.Constant (rename v.0) v.1) (fit-constant known (rename v.0) v.1 k.0), constants-well rename vs k.1)

-- inside a quantifier, of which nothing but its sort is kept, every constant counts as known
abbrev any_constant : Name → Sort → Bool
any_constant n s = true

any-known : (vs : List (Name × Sort)) → Each (λ v. IsTrue (any_constant v.0 v.1)) vs
any-known [] = tt
any-known (v ∷ vs) = (refl, any-known vs)

loosened : (known : Name → Sort → Bool) (scope : Scope) → Scoped known scope → Scoped any_constant scope
loosened known [] w = tt
loosened known (b ∷ bs) w = (fit-weaker known any_constant (λ n s h. refl) (body_sort b.1) (term_of b.1) w.0, loosened known bs w.1)

module _ (fits : Body → Bool) (symbols : Names) (wf : IsTrue (is_well_formed symbols)) where
  name-well : (known : Name → Sort → Bool) → Knows symbols known → (scope : Scope) → Scoped known scope → (n : Name) → Gives (IsWell known) (meant_name symbols scope n)
  name-well known k scope w n = variable-gives (IsWell known) (latest n scope) _ (latest-well known n scope w) (alone-well known (named symbols n) (named-sound symbols wf known k n))

  any-maybe : {A : Type 0} (o : Option A) → Maybe Any o
  any-maybe (Some x) = tt
  any-maybe None = tt

  if-named : (known : Name → Sort → Bool) → Knows symbols known → (n : Option Name) → Gives (SoundHead known) (named_if symbols n)
  if-named known k (Some n) = named-sound symbols wf known k n
  if-named known k None = tt

  token-well : (known : Name → Sort → Bool) → Knows symbols known → (scope : Scope) → Scoped known scope → (kind : TokenKind) (text : List ℕ) → Gives (IsWell known) (meant_token symbols scope kind text)
  token-well known k scope w Numeral ds = refuse-gives (IsWell known) (is_too_large ds) fault.Number _ (λ _. well-term known sort.Int (term.Number (pos (value ds))) (fit-number known (pos (value ds))))
  token-well known k scope w Literal text = or-gives (IsWell known) fault.Shape _ (mapped-maybe Any (IsWell known) (λ w. body.Term (term.Text w)) (literal_word text) (any-maybe (literal_word text)) (λ w _. well-term known sort.String (term.Text w) (fit-text known w)))
  token-well known k scope w Symbol text = name-well known k scope w (symbol_name text)
  token-well known k scope w Quoted text = name-well known k scope w (symbol_name text)
  token-well known k scope w Decimal text = tt
  token-well known k scope w Hexadecimal text = tt
  token-well known k scope w Binary text = tt
  token-well known k scope w Keyword text = tt

  head-sound : (known : Name → Sort → Bool) → Knows symbols known → (f : Form) → Gives (SoundHead known) (head symbols f)
  head-sound known k (token kind text) = if-named known k (symbol (token kind text))
  head-sound known k (group end) = tt
  head-sound known k (group (u ⨾ fs)) = if-gives (SoundHead known) (is_identifier (opening u)) _ _ (theory-sound known (identified symbols fs) (identified-sound symbols fs)) tt

  mutual
    pub meant-well : (known : Name → Sort → Bool) → Knows symbols known → (scope : Scope) → Scoped known scope → (f : Form) → Gives (IsWell known) (meant fits symbols scope f)
    meant-well known k scope w (token kind text) = token-well known k scope w kind text
    meant-well known k scope w (group end) = tt
    meant-well known k scope w (group (h ⨾ fs)) =
        one-of (IsWell known) (opening h) _ _ _ _ _
        (let-well known k scope w fs)
        (quantifier-well known k scope w fs)
        (annotated-well known k scope w fs)
        (alone-well known (of_theory (identified symbols fs)) (theory-sound known (identified symbols fs) (identified-sound symbols fs)))
        (parentheses-well known (head symbols h) (count fs) (meant_all fits symbols scope fs) (head-sound known k h) (all-well known k scope w fs))

    pub all-well : (known : Name → Sort → Bool) → Knows symbols known → (scope : Scope) → Scoped known scope → (fs : Forms) → Gives (AreWell known (count fs)) (meant_all fits symbols scope fs)
    all-well known k scope w end = record { well = tt; many = refl }
    all-well known k scope w (f ⨾ fs) =
        then-gives (IsWell known) (AreWell known (count (f ⨾ fs))) _ (meant fits symbols scope f) (meant-well known k scope w f) (λ b wb.
        then-gives (AreWell known (count fs)) (AreWell known (count (f ⨾ fs))) _ (meant_all fits symbols scope fs) (all-well known k scope w fs) (λ bs wbs.
        record { well = (wb, wbs.well); many = ap suc wbs.many }))

    let-well : (known : Name → Sort → Bool) → Knows symbols known → (scope : Scope) → Scoped known scope → (fs : Forms) → Gives (IsWell known) (meant_let fits symbols scope fs)
    let-well known k scope w (group bs ⨾ body ⨾ end) = need-gives (IsWell known) (are_some is_binding bs) fault.Shape _ (λ _.
        then-gives (Scoped known) (IsWell known) _ (meant_values fits symbols scope bs) (values-well known k scope w bs) (λ bound v.
        meant-well known k (scope ++ bound) (each-append (λ x. IsWell known x.1) scope bound w v) body))
    let-well known k scope w _ = tt

    values-well : (known : Name → Sort → Bool) → Knows symbols known → (scope : Scope) → Scoped known scope → (fs : Forms) → Gives (Scoped known) (meant_values fits symbols scope fs)
    values-well known k scope w end = tt
    values-well known k scope w (b ⨾ bs) =
        then-gives (Scoped known) (Scoped known) _ (meant_value fits symbols scope b) (value-well known k scope w b) (λ x wx.
        then-gives (Scoped known) (Scoped known) _ (meant_values fits symbols scope bs) (values-well known k scope w bs) (λ xs wxs.
        each-append (λ x. IsWell known x.1) x xs wx wxs))

    value-well : (known : Name → Sort → Bool) → Knows symbols known → (scope : Scope) → Scoped known scope → (f : Form) → Gives (Scoped known) (meant_value fits symbols scope f)
    value-well known k scope w (group (n ⨾ t ⨾ end)) =
        then-gives (IsWell known) (Scoped known) _ (meant fits symbols scope t) (meant-well known k scope w t) (λ b wb.
        need-gives (Scoped known) (fits b) fault.Size _ (λ _. bind-well known (symbol n) b wb))
    value-well known k scope w _ = tt

    quantifier-well : (known : Name → Sort → Bool) → Knows symbols known → (scope : Scope) → Scoped known scope → (fs : Forms) → Gives (IsWell known) (meant_quantifier fits symbols scope fs)
    quantifier-well known k scope w (group vs ⨾ body ⨾ end) = need-gives (IsWell known) (are_some is_variable vs) fault.Shape _ (λ _.
        then-gives (IsWell any_constant) (IsWell known) quantified (meant fits symbols (scope ++ quantified_over vs) body)
        (meant-well any_constant (λ n s h. refl) (scope ++ quantified_over vs) (each-append (λ x. IsWell any_constant x.1) scope (quantified_over vs) (loosened known scope w) (constants-well any_constant (λ n. n) (variables vs) (any-known (variables vs)))) body)
        (λ b wb. need-gives (IsWell known) (same_sort sort.Bool (body_sort b)) fault.Sort _ (λ _. well-opaque known sort.Bool)))
    quantifier-well known k scope w _ = tt

    annotated-well : (known : Name → Sort → Bool) → Knows symbols known → (scope : Scope) → Scoped known scope → (fs : Forms) → Gives (IsWell known) (meant_annotated fits symbols scope fs)
    annotated-well known k scope w end = tt
    annotated-well known k scope w (t ⨾ attributes) = meant-well known k scope w t
