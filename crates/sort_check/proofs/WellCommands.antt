-- The terms of a command have sorts, and what it declares keeps the names well formed.
use Rattle.std.proofs.Common.{◌≡◌, refl, ap, ◌∙◌, map, Bool, true, false, ◌&&◌, ◌||◌, IsTrue, ℕ, List, [], ◌∷◌, ◌++◌, Option, Some, None, Result, Ok, Err, codes, if◌then◌else◌, is_some}
use Rattle.std.specs.List.{list_all, list_any}
use Rattle.std.specs.Map.{lookup}
use Rattle.std.specs.Option.{option_to_list}
use Rattle.std.proofs.lemmas.Bool.{not-true, not_from_false, and_from, and_parts}
use mathlib.Core.Bool.{cond}
use Rattle.sv_terms.specs.Sorting.{same_sort, sort_of}
use Rattle.sv_terms.specs.declared.entry.Body.{Body}
use Rattle.sv_terms.specs.declared.entry.Body.TheVariants as body
use Rattle.sv_terms.specs.declared.entry.Entry.{Entry}
use Rattle.sv_terms.specs.declared.entry.Entry.TheVariants as entry
use Rattle.sv_terms.specs.declared.sort.Sort.{Sort}
use Rattle.sv_terms.specs.declared.sort.Sort.TheVariants as sort
use Rattle.sv_terms.specs.declared.term.Term.{Term}
use Rattle.smt_names.specs.declared.check_fault.CheckFault.{CheckFault}
use Rattle.smt_names.specs.declared.check_fault.CheckFault.TheVariants as fault
use Rattle.sort_check.specs.declared.commands.Command.{Command}
use Rattle.sort_check.specs.declared.commands.Command.TheVariants as command
use Rattle.smt_names.specs.declared.verb.CommandName.{CommandName}
use Rattle.smt_names.specs.declared.verb.CommandName.TheVariants as verb
use Rattle.item_passes.specs.Binders.{is_variable, bound_name, bound_names, repeats, variable_of, variable_sort, variables}
use Rattle.smt_names.specs.Form.{are_all}
use Rattle.term_weight.specs.Bodies.{body_sort, term_of, parameter_name, is_escaped}
use Rattle.item_passes.specs.Passes.{passed}
use Rattle.sort_check.specs.Checking as c
use Rattle.smt_names.specs.Faults.{◌>>◌, refuse, or_fault, made_of}
use Rattle.smt_names.specs.Form.{Form, Forms, token, group, end, ◌⨾◌, count}
use Rattle.term_walk.specs.Meant as m
use Rattle.term_walk.specs.Meant.{Scope, Names, meant_all, any_size, parameters_of}
use Rattle.smt_names.specs.Signature.{Name, same_name, is_reserved}
use Rattle.term_weight.specs.Sizes.{fits}
use Rattle.smt_names.specs.Tokens as t
use Rattle.sort_check.specs.WellFormed.{is_constant_of, is_declared, IsTermOf, IsOfWrittenSort, hidden_by, is_bound, is_sort, constants_are, is_entry, is_well_formed, IsAdded}
use Rattle.sort_check.proofs.Asked.{all-asked}
use Rattle.sort_check.proofs.WellApplied.{same-self, IsWell}
use Rattle.sort_check.proofs.WellMeant.{Knows, AreWell, Scoped, Any, any-gives, constants-well, all-well}
use Rattle.sort_check.proofs.WellNames.{same-name-self, sound-entry, one-more}
use Rattle.smt_names.specs.Verbs.{verb_of}
use Rattle.sv_terms.specs.TransducerSizes.{is_formed, has_formed}
use Rattle.sv_terms.proofs.ValueSorts.{same_is}
use Rattle.transducer_form.specs.Descriptions.{described}
use Rattle.transducer_form.specs.Formed.{described-gives}
use Rattle.transducer_form.specs.Written.{DescriptionForm, description_form}
use Rattle.smt_names.specs.Giving.{Gives, need-gives, refuse-gives, after-gives, then-gives}
use Rattle.sort_check.proofs.WellSteps.{each-both}
use Rattle.sort_check.proofs.WellTerms.{Each}

-- a name that isn't one of a parameter
abbrev pub Open : Name → Type 0
Open n = is_escaped n ≡ false

-- what is known of a command under these names
abbrev pub IsSound : Names → Command → Type 0
IsSound symbols (command.Assert u) = IsTermOf symbols sort.Bool u
IsSound symbols (command.AssertNamed n u) = IsTermOf symbols sort.Bool u × IsAdded symbols n (entry.Macro [] (body.Term u))
IsSound symbols (command.CheckAssuming us) = Each (IsTermOf symbols sort.Bool) us
IsSound symbols (command.GetValue items) = Each (c.IsAskable symbols) items
IsSound symbols (command.Declare n s) = IsAdded symbols n (entry.Constant s)
IsSound symbols (command.Define n e) = IsAdded symbols n e
IsSound symbols _ = Unit {0}

false-true : {A : Type 0} → false ≡ true → A
false-true e = absurd (cc)

or-left : (a b : Bool) → (a || b) ≡ false → a ≡ false
or-left true b e = absurd (cc)
or-left false b e = refl

or-right : (a b : Bool) → (a || b) ≡ false → b ≡ false
or-right true b e = absurd (cc)
or-right false b e = e

-- what comes after nothing was found, and an answer that is itself
past-gives : {A : Type 0} (P : A → Type 0) (r : Result Unit CheckFault) (s : Result A CheckFault) → (r ≡ Ok tt → Gives P s) → Gives P (r >> s)
past-gives P (Ok u) s h = h refl
past-gives P (Err f) s h = tt

self-gives : {A : Type 0} (r : Result A CheckFault) → Gives (λ x. r ≡ Ok x) r
self-gives (Ok x) = refl
self-gives (Err f) = tt

made-gives : {A B : Type 0} (P : A → Type 0) (Q : B → Type 0) (f : A → B) (r : Result A CheckFault) → Gives P r → ((x : A) → P x → Q (f x)) → Gives Q (made_of f r)
made-gives P Q f (Ok x) h k = k x h
made-gives P Q f (Err g) h k = tt

-- parameters with names apart
abbrev escaped : List (Name × Sort) → List (Name × Sort)
escaped vs = map (λ p. (parameter_name p.0, p.1)) vs

abbrev names_of : List (Name × Sort) → List Name
names_of vs = map (λ p. p.0) vs

-- a test that no bound name passes is passed by no variable's
none-variable : (p : Name → Bool) (o : Option Name) (s : Option Sort) (ns : List Name) (vs : List (Name × Sort)) → list_any p (option_to_list o ++ ns) ≡ false → (list_any p ns ≡ false → list_any p (names_of vs) ≡ false) → list_any p (names_of (variable_of o s ++ vs)) ≡ false
none-variable p None s ns vs h k = k h
none-variable p (Some n) None ns vs h k = k (or-right (p n) (list_any p ns) h)
none-variable p (Some n) (Some s) ns vs h k = λ i. or-left (p n) (list_any p ns) h i || k (or-right (p n) (list_any p ns) h) i

none-variables : (p : Name → Bool) (fs : Forms) → list_any p (bound_names fs) ≡ false → list_any p (names_of (variables fs)) ≡ false
none-variables p end h = refl
none-variables p (f ⨾ fs) h = none-variable p (bound_name f) (variable_sort f) (bound_names fs) (variables fs) h (none-variables p fs)

apart-variable : (o : Option Name) (s : Option Sort) (ns : List Name) (vs : List (Name × Sort)) → repeats (option_to_list o ++ ns) ≡ false → (repeats ns ≡ false → repeats (names_of vs) ≡ false) → ((p : Name → Bool) → list_any p ns ≡ false → list_any p (names_of vs) ≡ false) → repeats (names_of (variable_of o s ++ vs)) ≡ false
apart-variable None s ns vs h k l = k h
apart-variable (Some n) None ns vs h k l = k (or-right (list_any (λ m. same_name m n) ns) (repeats ns) h)
apart-variable (Some n) (Some s) ns vs h k l = λ i. l (λ m. same_name m n) (or-left (list_any (λ m. same_name m n) ns) (repeats ns) h) i || k (or-right (list_any (λ m. same_name m n) ns) (repeats ns) h) i

apart-variables : (fs : Forms) → repeats (bound_names fs) ≡ false → repeats (names_of (variables fs)) ≡ false
apart-variables end h = refl
apart-variables (f ⨾ fs) h = apart-variable (bound_name f) (variable_sort f) (bound_names fs) (variables fs) h (apart-variables fs) (λ p. none-variables p fs)

-- each parameter is found under its name
others : (n : Name) (vs : List (Name × Sort)) → list_any (λ m. same_name m n) (names_of vs) ≡ false → Each (λ v. same_name v.0 n ≡ false) vs
others n [] h = tt
others n (v ∷ vs) h = (or-left (same_name v.0 n) (list_any (λ m. same_name m n) (names_of vs)) h, others n vs (or-right (same_name v.0 n) (list_any (λ m. same_name m n) (names_of vs)) h))

abbrev IsFound : List (Name × Sort) → Name × Sort → Type 0
IsFound ps v = lookup (same_name (parameter_name v.0)) ps ≡ Some v.1

found-behind : (w : Name × Sort) (ps : List (Name × Sort)) (v : Name × Sort) → same_name v.0 w.0 ≡ false → IsFound ps v → IsFound ((parameter_name w.0, w.1) ∷ ps) v
found-behind w ps v e f = ap (λ b. cond b (Some w.1) (lookup (same_name (parameter_name v.0)) ps)) e ∙ f

each-found : (vs : List (Name × Sort)) → repeats (names_of vs) ≡ false → Each (IsFound (escaped vs)) vs
each-found [] h = tt
each-found (v ∷ vs) h = (
  ap (λ b. cond b (Some v.1) (lookup (same_name (parameter_name v.0)) (escaped vs))) (same-name-self (parameter_name v.0)),
  each-both (λ u. same_name u.0 v.0 ≡ false) (IsFound (escaped vs)) (IsFound (escaped (v ∷ vs))) vs
      (others v.0 vs (or-left (list_any (λ m. same_name m v.0) (names_of vs)) (repeats (names_of vs)) h))
      (each-found vs (or-right (list_any (λ m. same_name m v.0) (names_of vs)) (repeats (names_of vs)) h))
      (found-behind v (escaped vs)),
)

-- a declared name is no parameter's
no-parameter : (n : Name) (vs : List (Name × Sort)) → Open n → lookup (same_name n) (escaped vs) ≡ None
no-parameter n [] o = refl
no-parameter [] (v ∷ vs) o = no-parameter [] vs o
no-parameter (b ∷ n) (v ∷ vs) o = ap (λ a. cond (a && same_name n v.0) (Some v.1) (lookup (same_name (b ∷ n)) (escaped vs))) o ∙ no-parameter (b ∷ n) vs o

module _ (symbols : Names) (wf : IsTrue (is_well_formed symbols)) where
  abbrev Sound : Command → Type 0
  Sound = IsSound symbols

  declared-knows : Knows symbols (is_declared symbols)
  declared-knows n s h = h

  -- the names of declared constants
  open-declared : (n : Name) (s : Sort) → IsTrue (is_declared symbols n s) → Open n
  open-declared n s h = go (lookup (same_name n) symbols) refl h
    where
      go : (o : Option Entry) → lookup (same_name n) symbols ≡ o → IsTrue (is_constant_of s o) → Open n
      go None e h = false-true h
      go (Some e) f h = (sound-entry symbols n e wf f).open_name

  bound-knows : (ps : Forms) → Knows symbols (is_bound (c.parameters ps) symbols)
  bound-knows ps n s h = ap (λ o. hidden_by o (is_declared symbols n s) s) (no-parameter n (variables ps) (open-declared n s h)) ∙ h

  parameters-well : (ps : Forms) → repeats (bound_names ps) ≡ false → Scoped (is_bound (c.parameters ps) symbols) (parameters_of ps)
  parameters-well ps h = constants-well (is_bound (c.parameters ps) symbols) parameter_name (variables ps) (known-each (variables ps) (each-found (variables ps) (apart-variables ps h)))
    where
      known-each : (vs : List (Name × Sort)) → Each (IsFound (c.parameters ps)) vs → Each (λ v. IsTrue (is_bound (c.parameters ps) symbols (parameter_name v.0) v.1)) vs
      known-each [] f = tt
      known-each (v ∷ vs) f = (ap (λ o. hidden_by o (is_declared symbols (parameter_name v.0) v.1) v.1) f.0 ∙ same-self v.1, known-each vs f.1)

  settled-well : (known : Name → Sort → Bool) → Knows symbols known → (scope : Scope) → Scoped known scope → (ts : Forms) → Gives (AreWell known (count ts)) (m.settled symbols scope ts)
  settled-well known k scope w ts =
      then-gives (AreWell known (count ts)) (AreWell known (count ts)) _ (meant_all any_size symbols scope ts) (all-well any_size symbols wf known k scope w ts) (λ bs a.
      then-gives Any (AreWell known (count ts)) _ (meant_all fits symbols scope ts) (any-gives (meant_all fits symbols scope ts)) (λ _ _.
      need-gives (AreWell known (count ts)) (list_all fits bs) fault.Size _ (λ _. a)))

  -- asserted terms
  written : (s : Sort) (b : Body) → IsWell (is_declared symbols) b → body_sort b ≡ s → IsTermOf symbols s (term_of b)
  written s b w e = record { sorted = w.sorted ∙ ap Some e; known = w.constants; formed = w.formed }

  -- names that may be declared
  free-gives : (n : Name) (r : Result Command CheckFault) → (Open n → lookup (same_name n) symbols ≡ None → Gives Sound r) → Gives Sound (c.free symbols n >> r)
  free-gives n r k = go (is_escaped n) (is_reserved n) (lookup (same_name n) symbols) k
    where
      go : (e b : Bool) (o : Option Entry) → (e ≡ false → o ≡ None → Gives Sound r) → Gives Sound ((refuse e fault.Shape >> refuse b fault.Reserved >> refuse (is_some o) fault.Declared) >> r)
      go true b o k = tt
      go false true o k = tt
      go false false None k = k refl refl
      go false false (Some e) k = tt

  abbrev Truth : Term → Type 0
  Truth u = IsTermOf symbols sort.Bool u × (body_sort (body.Term u) ≡ sort.Bool)

  taken-sort : (b : Body) → body_sort b ≡ sort.Bool → body_sort (body.Term (term_of b)) ≡ sort.Bool
  taken-sort (body.Term u) e = e
  taken-sort (body.Language r) e = absurd (cc)

  assertion_of-sound : (bs : List Body) → Each (IsWell (is_declared symbols)) bs → Gives Truth (c.assertion_of bs)
  assertion_of-sound [] w = tt
  assertion_of-sound (b ∷ []) w = need-gives Truth (c.is_truth b) fault.Sort _ (λ h.
      let e = same_is sort.Bool (body_sort b) h in (written sort.Bool b w.0 e, taken-sort b e))
  assertion_of-sound (b ∷ d ∷ bs) w = tt

  asserted-sound : (u : Form) → Gives Truth (c.asserted symbols u)
  asserted-sound u = after-gives Truth (passed (u ⨾ end)) _
      (then-gives (AreWell (is_declared symbols) 1) Truth c.assertion_of (m.settled symbols [] (u ⨾ end)) (settled-well (is_declared symbols) declared-knows [] tt (u ⨾ end)) (λ bs a. assertion_of-sound bs a.well))

  -- a named term is the body of a macro
  named-entry : (u : Term) → Truth u → IsTrue (is_entry symbols (entry.Macro [] (body.Term u)))
  named-entry u h =
      and_from (is_sort (body_sort (body.Term u)) (sort_of u) && has_formed u) (constants_are (is_bound [] symbols) u)
      (and_from (is_sort (body_sort (body.Term u)) (sort_of u)) (has_formed u) (λ i. is_sort (h.1 i) (h.0.sorted i)) h.0.formed) h.0.known

  labelled-sound : (u : Form) (o : Option Name) → Gives Sound (c.labelled symbols u o)
  labelled-sound u None = made-gives Truth Sound command.Assert (c.asserted symbols u) (asserted-sound u) (λ x h. h.0)
  labelled-sound u (Some n) = free-gives n _ (λ ok new.
      made-gives Truth Sound (command.AssertNamed n) (c.asserted symbols u) (asserted-sound u) (λ x h.
      (h.0, record { new = new; well_formed = one-more symbols n (entry.Macro [] (body.Term x)) wf ok new (named-entry x h) })))

  assertion-sound : (fs : Forms) → Gives Sound (c.assertion symbols fs)
  assertion-sound end = tt
  assertion-sound (u ⨾ end) = then-gives Any Sound (c.labelled symbols u) (c.label u) (any-gives (c.label u)) (λ o _. labelled-sound u o)
  assertion-sound (u ⨾ w ⨾ fs) = tt

  -- assumptions
  each-truth : (bs : List Body) → Each (IsWell (is_declared symbols)) bs → IsTrue (list_all c.is_truth bs) → Each (IsTermOf symbols sort.Bool) (map term_of bs)
  each-truth [] w h = tt
  each-truth (b ∷ bs) w h = let p = and_parts (c.is_truth b) (list_all c.is_truth bs) h in (written sort.Bool b w.0 (same_is sort.Bool (body_sort b) p.0), each-truth bs w.1 p.1)

  assumptions-sound : (ts : Forms) → Gives Sound (c.assumptions symbols ts)
  assumptions-sound ts = need-gives Sound (are_all c.is_assumption ts) fault.Shape _ (λ _.
      then-gives (AreWell (is_declared symbols) (count ts)) Sound c.assumed (m.settled symbols [] ts) (settled-well (is_declared symbols) declared-knows [] tt ts)
      (λ bs a. need-gives Sound (list_all c.is_truth bs) fault.Sort _ (λ h. each-truth bs a.well h)))

  assuming-sound : (fs : Forms) → Gives Sound (c.check_assuming symbols fs)
  assuming-sound end = tt
  assuming-sound (ts ⨾ end) = then-gives Any Sound (c.assumptions symbols) (or_fault fault.Shape (t.listed ts)) (any-gives (or_fault fault.Shape (t.listed ts))) (λ fs _. assumptions-sound fs)
  assuming-sound (ts ⨾ w ⨾ fs) = tt

  -- terms whose values are asked for
  asked-well : (bs : List Body) → Each (IsWell (is_declared symbols)) bs → Gives (IsOfWrittenSort symbols) (c.asked bs)
  asked-well [] w = tt
  asked-well (b ∷ []) w = need-gives (IsOfWrittenSort symbols) (c.has_values (body_sort b)) fault.Sort _ (λ h. (body_sort b, written (body_sort b) b w.0 refl, not-true (same_sort sort.RegLan (body_sort b)) h))
  asked-well (b ∷ d ∷ bs) w = tt

  pub asked-sound : (f : Form) → Gives (IsOfWrittenSort symbols) (c.asked_term symbols f)
  asked-sound f = after-gives (IsOfWrittenSort symbols) (c.passed_term f) _
      (then-gives (AreWell (is_declared symbols) 1) (IsOfWrittenSort symbols) c.asked (m.settled symbols [] (f ⨾ end)) (settled-well (is_declared symbols) declared-knows [] tt (f ⨾ end)) (λ bs a. asked-well bs a.well))

  values-sound : (ts : Forms) → Gives Sound (c.values symbols ts)
  values-sound end = tt
  values-sound (u ⨾ ts) = past-gives Sound (passed (u ⨾ ts)) _ (λ p.
      then-gives (λ ss. m.settled_sorts symbols [] (u ⨾ ts) ≡ Ok ss) Sound (c.valued (u ⨾ ts)) (m.settled_sorts symbols [] (u ⨾ ts)) (self-gives (m.settled_sorts symbols [] (u ⨾ ts)))
      (λ ss e. need-gives Sound (list_all c.has_values ss) fault.Sort _ (λ h. all-asked symbols (u ⨾ ts) ss p e h)))

  get-sound : (fs : Forms) → Gives Sound (c.get_value symbols fs)
  get-sound end = tt
  get-sound (ts ⨾ end) = then-gives Any Sound (c.values symbols) (or_fault fault.Shape (t.listed ts)) (any-gives (or_fault fault.Shape (t.listed ts))) (λ fs _. values-sound fs)
  get-sound (ts ⨾ w ⨾ fs) = tt

  -- declared constants
  declaration-sound : (n s : Form) → Gives Sound (c.declaration symbols n s)
  declaration-sound n s = need-gives Sound (t.is_sort_form s) fault.Shape _ (λ _.
      then-gives Any Sound _ (or_fault fault.Shape (t.symbol n)) (any-gives (or_fault fault.Shape (t.symbol n))) (λ x _.
      free-gives x _ (λ ok new.
      then-gives Any Sound (c.declared_as x) (or_fault fault.Unknown (t.sort_of s)) (any-gives (or_fault fault.Unknown (t.sort_of s))) (λ u _.
      refuse-gives Sound (same_sort sort.RegLan u) fault.Sort _ (λ apart.
      record { new = new; well_formed = one-more symbols x (entry.Constant u) wf ok new (not_from_false (same_sort sort.RegLan u) apart) })))))

  const-sound : (fs : Forms) → Gives Sound (c.declare_const symbols fs)
  const-sound end = tt
  const-sound (n ⨾ end) = tt
  const-sound (n ⨾ s ⨾ end) = declaration-sound n s
  const-sound (n ⨾ s ⨾ u ⨾ fs) = tt

  fun-sound : (fs : Forms) → Gives Sound (c.declare_fun symbols fs)
  fun-sound end = tt
  fun-sound (n ⨾ end) = tt
  fun-sound (n ⨾ ps ⨾ end) = tt
  fun-sound (n ⨾ ps ⨾ s ⨾ end) = need-gives Sound (c.is_empty (t.listed ps)) fault.Shape _ (λ _. declaration-sound n s)
  fun-sound (n ⨾ ps ⨾ s ⨾ u ⨾ fs) = tt

  -- macros
  entry-well : (ps : Forms) (b : Body) → IsWell (is_bound (c.parameters ps) symbols) b → IsTrue (is_entry symbols (entry.Macro (c.parameters ps) b))
  entry-well ps (body.Language r) w = refl
  entry-well ps (body.Term u) w =
      and_from (is_sort (body_sort (body.Term u)) (sort_of u) && has_formed u) (constants_are (is_bound (c.parameters ps) symbols) u)
      (and_from (is_sort (body_sort (body.Term u)) (sort_of u)) (has_formed u) (ap (is_sort (body_sort (body.Term u))) w.sorted ∙ same-self (body_sort (body.Term u))) w.formed) w.constants

  defined-sound : (n : Name) (ps : Forms) (s : Sort) (bs : List Body) → Open n → lookup (same_name n) symbols ≡ None → Each (IsWell (is_bound (c.parameters ps) symbols)) bs → Gives Sound (c.defined n ps s bs)
  defined-sound n ps s [] o new w = tt
  defined-sound n ps s (b ∷ []) o new w = need-gives Sound (same_sort s (body_sort b)) fault.Sort _ (λ _.
      record { new = new; well_formed = one-more symbols n (entry.Macro (c.parameters ps) b) wf o new (entry-well ps b w.0) })
  defined-sound n ps s (b ∷ d ∷ bs) o new w = tt

  passed-gives : (ps : Forms) (s u : Form) (r : Result Command CheckFault) → (repeats (bound_names ps) ≡ false → Gives Sound r) → Gives Sound (c.passed_definition ps s u >> r)
  passed-gives ps s u r k = go (repeats (bound_names ps)) _ k
    where
      go : (b : Bool) (rest : Result Unit CheckFault) → (b ≡ false → Gives Sound r) → Gives Sound ((refuse b fault.Declared >> rest) >> r)
      go true rest k = tt
      go false rest k = after-gives Sound rest r (k refl)

  definition-sound : (n : Name) (ps : Forms) (s u : Form) → Gives Sound (c.definition symbols n ps s u)
  definition-sound n ps s u =
      free-gives n _ (λ ok new.
      passed-gives ps s u _ (λ apart.
      then-gives Any Sound (c.settled_definition symbols n ps u) (or_fault fault.Unknown (t.sort_of s)) (any-gives (or_fault fault.Unknown (t.sort_of s))) (λ r _.
      then-gives (AreWell (is_bound (c.parameters ps) symbols) 1) Sound (c.defined n ps r) (m.settled symbols (parameters_of ps) (u ⨾ end))
      (settled-well (is_bound (c.parameters ps) symbols) (bound-knows ps) (parameters_of ps) (parameters-well ps apart) (u ⨾ end))
      (λ bs a. defined-sound n ps r bs ok new a.well))))

  -- transducers
  machine-sound : (d : DescriptionForm) (n : Name) → Gives Sound (c.machine symbols d n)
  machine-sound d n = free-gives n _ (λ ok new.
      then-gives (λ m. IsTrue (is_formed m)) Sound _ (described d) (described-gives d) (λ m h.
      record { new = new; well_formed = one-more symbols n (entry.Machine m) wf ok new h }))

  transducer-sound : (fs : Forms) → Gives Sound (c.define_transducer symbols fs)
  transducer-sound end = tt
  transducer-sound (n ⨾ end) = tt
  transducer-sound (n ⨾ ss ⨾ end) = tt
  transducer-sound (n ⨾ ss ⨾ s ⨾ end) = tt
  transducer-sound (n ⨾ ss ⨾ s ⨾ es ⨾ end) = tt
  transducer-sound (n ⨾ ss ⨾ s ⨾ es ⨾ ds ⨾ end) =
      then-gives Any Sound _ (or_fault fault.Shape (description_form ss s es ds)) (any-gives (or_fault fault.Shape (description_form ss s es ds))) (λ d _.
      then-gives Any Sound (c.machine symbols d) (or_fault fault.Shape (t.symbol n)) (any-gives (or_fault fault.Shape (t.symbol n))) (λ x _. machine-sound d x))
  transducer-sound (n ⨾ ss ⨾ s ⨾ es ⨾ ds ⨾ w ⨾ fs) = tt

  define-sound : (fs : Forms) → Gives Sound (c.define_fun symbols fs)
  define-sound end = tt
  define-sound (n ⨾ end) = tt
  define-sound (n ⨾ ps ⨾ end) = tt
  define-sound (n ⨾ ps ⨾ s ⨾ end) = tt
  define-sound (n ⨾ ps ⨾ s ⨾ u ⨾ end) =
      then-gives Any Sound _ (or_fault fault.Shape (t.listed ps)) (any-gives (or_fault fault.Shape (t.listed ps))) (λ qs _.
      need-gives Sound (are_all is_variable qs && t.is_sort_form s) fault.Shape _ (λ _.
      then-gives Any Sound _ (or_fault fault.Shape (t.symbol n)) (any-gives (or_fault fault.Shape (t.symbol n))) (λ x _.
      definition-sound x qs s u)))
  define-sound (n ⨾ ps ⨾ s ⨾ u ⨾ w ⨾ fs) = tt

  -- commands that hold no term and declare nothing
  without_parts-sound : (d : Command) (fs : Forms) → Sound d → Gives Sound (c.without_parts d fs)
  without_parts-sound d end h = h
  without_parts-sound d (f ⨾ fs) h = tt

  level_command-sound : (make : ℕ → Command) (o : Option (List ℕ)) → ((n : ℕ) → Sound (make n)) → Gives Sound (c.level_command make o)
  level_command-sound make None h = tt
  level_command-sound make (Some ds) h = refuse-gives Sound (t.is_too_large ds) fault.Number _ (λ _. h (t.level ds))

  stepped-sound : (make : ℕ → Command) (fs : Forms) → ((n : ℕ) → Sound (make n)) → Gives Sound (c.stepped make fs)
  stepped-sound make end h = h 1
  stepped-sound make (n ⨾ end) h = level_command-sound make (t.digits n) h
  stepped-sound make (n ⨾ m ⨾ fs) h = tt

  logic-sound : (fs : Forms) → Gives Sound (c.set_logic fs)
  logic-sound end = tt
  logic-sound (n ⨾ end) = need-gives Sound (is_some (t.symbol n)) fault.Shape _ (λ _. tt)
  logic-sound (n ⨾ m ⨾ fs) = tt

  inform-sound : (fs : Forms) → Gives Sound (c.set_info fs)
  inform-sound end = tt
  inform-sound (k ⨾ rest) = need-gives Sound (is_some (t.keyword k)) fault.Shape _ (λ _. tt)

  if-sound : (b : Bool) (d e : Command) → Sound d → Sound e → Sound (if b then d else e)
  if-sound true d e h g = h
  if-sound false d e h g = g

  set-sound : (k : Option Name) (b : Option Bool) → Sound (c.option_set k b)
  set-sound None b = tt
  set-sound (Some k) None = tt
  set-sound (Some k) (Some b) = if-sound (same_name k (codes ":print-success")) _ _ tt (if-sound (same_name k (codes ":produce-models")) _ _ tt (if-sound (same_name k (codes ":produce-unsat-cores")) _ _ tt (if-sound (same_name k (codes ":produce-proofs")) _ _ tt tt)))

  option-sound : (fs : Forms) → Gives Sound (c.set_option fs)
  option-sound end = tt
  option-sound (k ⨾ end) = tt
  option-sound (k ⨾ b ⨾ end) = set-sound (t.keyword k) (t.truth b)
  option-sound (k ⨾ b ⨾ m ⨾ fs) = tt

  info-sound : (fs : Forms) → Gives Sound (c.get_info fs)
  info-sound end = tt
  info-sound (k ⨾ end) = then-gives Any Sound _ (or_fault fault.Shape (t.keyword k)) (any-gives (or_fault fault.Shape (t.keyword k))) (λ _ _. tt)
  info-sound (k ⨾ m ⨾ fs) = tt

  echo-sound : (fs : Forms) → Gives Sound (c.echo fs)
  echo-sound end = tt
  echo-sound (k ⨾ end) = then-gives Any Sound _ (or_fault fault.Shape (t.literal_text k)) (any-gives (or_fault fault.Shape (t.literal_text k))) (λ _ _. tt)
  echo-sound (k ⨾ m ⨾ fs) = tt

  commanded-sound : (w : Option CommandName) (fs : Forms) → Gives Sound (c.commanded symbols w fs)
  commanded-sound None fs = tt
  commanded-sound (Some verb.SetLogic) fs = logic-sound fs
  commanded-sound (Some verb.SetInfo) fs = inform-sound fs
  commanded-sound (Some verb.SetOption) fs = option-sound fs
  commanded-sound (Some verb.DeclareConst) fs = const-sound fs
  commanded-sound (Some verb.DeclareFun) fs = fun-sound fs
  commanded-sound (Some verb.DefineFun) fs = define-sound fs
  commanded-sound (Some verb.DefineTransducer) fs = transducer-sound fs
  commanded-sound (Some verb.Assert) fs = assertion-sound fs
  commanded-sound (Some verb.Push) fs = stepped-sound command.Push fs (λ n. tt)
  commanded-sound (Some verb.Pop) fs = stepped-sound command.Pop fs (λ n. tt)
  commanded-sound (Some verb.CheckSat) fs = without_parts-sound command.CheckSat fs tt
  commanded-sound (Some verb.CheckSatAssuming) fs = assuming-sound fs
  commanded-sound (Some verb.GetModel) fs = without_parts-sound command.GetModel fs tt
  commanded-sound (Some verb.GetValue) fs = get-sound fs
  commanded-sound (Some verb.GetUnsatCore) fs = without_parts-sound command.GetCore fs tt
  commanded-sound (Some verb.GetInfo) fs = info-sound fs
  commanded-sound (Some verb.Echo) fs = echo-sound fs
  commanded-sound (Some verb.Reset) fs = without_parts-sound command.Reset fs tt
  commanded-sound (Some verb.ResetAssertions) fs = without_parts-sound command.ResetAssertions fs tt
  commanded-sound (Some verb.Exit) fs = without_parts-sound command.Exit fs tt

  begun-sound : (fs : Forms) → Gives Sound (c.begun symbols fs)
  begun-sound end = tt
  begun-sound (w ⨾ parts) = need-gives Sound (is_some (t.symbol w)) fault.Shape _ (λ _. commanded-sound (verb_of (t.word w)) parts)

pub checked-sound : (symbols : Names) (f : Form) → IsTrue (is_well_formed symbols) → Gives (IsSound symbols) (c.checked symbols f)
checked-sound symbols (token kind text) wf = tt
checked-sound symbols (group fs) wf = begun-sound symbols wf fs
