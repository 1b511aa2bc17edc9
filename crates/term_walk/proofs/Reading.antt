-- Steps of a walk: what is read one after another.
use Rattle.std.proofs.Common.{◌≡◌, refl, sym, ap, ◌∙◌, subst, ℕ, Bool, true, false, ◌||◌, List, [], ◌∷◌, ◌++◌, map, Option, Some, None, Result, Ok, Err, append_assoc, append-nil}
use Rattle.std.specs.Prelude.{slice_get, if◌then◌else◌}
use Rattle.sv_list.specs.Bools.{or-assoc}
use Rattle.sv_list.specs.Lists.{slice_get-append}
use std.Path.{fun_ext}
use Rattle.sv_terms.specs.declared.entry.Body.{Body}
use Rattle.smt_names.specs.declared.check_fault.CheckFault.{CheckFault}
use Rattle.smt_names.specs.declared.check_fault.CheckFault.TheVariants as fault
use Rattle.term_walk.specs.declared.walk.Walk.{Walk}
use Rattle.smt_names.specs.Faults.{and_then, ◌>>◌, need}
use Rattle.smt_names.specs.Form.{Form, forms}
use Rattle.term_walk.specs.Meant.{Scope, Names, any_size, latest, or_else, meant, meant_all, meant_values, meant_value}
use Rattle.smt_names.specs.Signature.{Name, same_name}
use Rattle.term_weight.specs.Sizes.{fits}
use Rattle.term_walk.specs.Walks.{Each, Bound, sized, Meaning, Read, ReadsMeaning}

-- the answer where values of `let` are looked at, by the answer where they aren't
sized-then : {A B : Type 0} (k : A → Result B CheckFault) (x : A) (past more : Bool) (y : B) → k x ≡ sized more y → and_then k (sized past x) ≡ sized (past || more) y
sized-then k x true more y e = refl
sized-then k x false more y e = e

module _ {X Y : Type 0} (stands : List Body → X → Y → Type 0) where
  pub alike : (m k : Meaning Y) (old new : Walk) (r : Result X CheckFault) → ((t : Body → Bool) → m t ≡ k t) → ReadsMeaning stands m old new r → ReadsMeaning stands k old new r
  alike m k old new r h a = subst (λ (z : Meaning Y). ReadsMeaning stands z old new r) (fun_ext h) a

-- a fault before what comes next
pub fault-first : {X Y V W : Type 0} (stands : List Body → X → Y → Type 0) (holds : List Body → V → W → Type 0) (m : Meaning Y) (k : Meaning W) (old mid new : Walk) (f : CheckFault) → ((e : CheckFault) → m any_size ≡ Err e → k any_size ≡ Err e) → ReadsMeaning stands m old mid (Err f) → ReadsMeaning holds k old new (Err f)
fault-first stands holds m k old mid new fault.Unknown h a = h fault.Unknown a
fault-first stands holds m k old mid new fault.Sort h a = h fault.Sort a
fault-first stands holds m k old mid new fault.Arity h a = h fault.Arity a
fault-first stands holds m k old mid new fault.Declared h a = h fault.Declared a
fault-first stands holds m k old mid new fault.Number h a = h fault.Number a
fault-first stands holds m k old mid new fault.Reserved h a = h fault.Reserved a
fault-first stands holds m k old mid new fault.Shape h a = h fault.Shape a
fault-first stands holds m k old mid new fault.Transducer h a = h fault.Transducer a
fault-first stands holds m k old mid new fault.Index h a = h fault.Index a
fault-first stands holds m k old mid new fault.Size h a = h fault.Size a
fault-first stands holds m k old mid new (fault.Memory e) h a = tt

module _ {X Y V W : Type 0} (stands : List Body → X → Y → Type 0) (holds : List Body → V → W → Type 0) (m : Meaning Y) (k : (Body → Bool) → Y → Result W CheckFault) (old mid new : Walk) where
  -- what is read first, and then what comes of it
  pub then-read : (x : X) (v : V) (first : Read stands m old mid x) → Read holds (λ t. k t first.what) mid new v → Read holds (λ t. and_then (k t) (m t)) old new v
  then-read x v first second = record {
    what = second.what;
    past = first.past || second.past;
    added = first.added ++ second.added;
    means = ap (and_then (k any_size)) first.means ∙ second.means;
    limits = ap (and_then (k fits)) first.limits ∙ sized-then (k fits) first.what first.past second.past second.what second.limits;
    there = second.there;
    more = second.more ∙ ap (λ z. z ++ second.added) first.more ∙ append_assoc old.draft first.added second.added;
    noted = second.noted ∙ ap (λ b. b || second.past) first.noted ∙ or-assoc old.is_past first.past second.past;
    back = second.back ∙ first.back;
  }

  pub then-reads : (x : X) (r : Result V CheckFault) (first : Read stands m old mid x) → ReadsMeaning holds (λ t. k t first.what) mid new r → ReadsMeaning holds (λ t. and_then (k t) (m t)) old new r
  then-reads x (Ok v) first second = then-read x v first second
  then-reads x (Err f) first second = fault-first holds holds (λ t. k t first.what) (λ t. and_then (k t) (m t)) mid new new f (λ e h. ap (and_then (k any_size)) first.means ∙ h) second

-- a test that holds, or doesn't
pub tested : {X Y : Type 0} (stands : List Body → X → Y → Type 0) (m : Meaning Y) (b : Bool) (f : CheckFault) (old new : Walk) (r : Result X CheckFault) → b ≡ true → ReadsMeaning stands m old new r → ReadsMeaning stands (λ t. need b f >> m t) old new r
tested stands m b f old new r e a = subst (λ (z : Bool). ReadsMeaning stands (λ t. need z f >> m t) old new r) (sym e) a

pub bound-grow : (d e f : List Body) (ps : List (Name × ℕ)) (s : Scope) → f ≡ d ++ e → Bound d ps s → Bound f ps s
bound-grow d e f ps s g b = subst (λ (z : List Body). Bound z ps s) (sym g) (go ps s b)
  where
    go : (ps : List (Name × ℕ)) (s : Scope) → Bound d ps s → Bound (d ++ e) ps s
    go [] [] b = tt
    go [] (q ∷ qs) b = b
    go (p ∷ ps) [] b = b
    go (p ∷ ps) (q ∷ qs) b = (b.0, slice_get-append d e p.1 q.1 b.1, go ps qs b.2)

pub each-grow : (d e f : List Body) (ps : List ℕ) (bs : List Body) → f ≡ d ++ e → Each d ps bs → Each f ps bs
each-grow d e f ps bs g h = subst (λ (z : List Body). Each z ps bs) (sym g) (go ps bs h)
  where
    go : (ps : List ℕ) (bs : List Body) → Each d ps bs → Each (d ++ e) ps bs
    go [] [] h = refl
    go [] (b ∷ bs) h = absurd (cc)
    go (p ∷ ps) [] h = absurd (cc)
    go (p ∷ ps) (b ∷ bs) h =
        let a : slice_get d p ≡ Some b = cc in
        let r : map (slice_get d) ps ≡ map Some bs = cc in
        λ i. slice_get-append d e p b a i ∷ go ps bs r i

pub bound-append : (d : List Body) (ps qs : List (Name × ℕ)) (s t : Scope) → Bound d ps s → Bound d qs t → Bound d (ps ++ qs) (s ++ t)
bound-append d [] qs [] t a b = b
bound-append d [] qs (x ∷ s) t a b = absurd a
bound-append d (p ∷ ps) qs [] t a b = absurd a
bound-append d (p ∷ ps) qs (x ∷ s) t a b = (a.0, a.1, bound-append d ps qs s t a.2 b)

pub each-append : (d : List Body) (ps qs : List ℕ) (as_ bs : List Body) → Each d ps as_ → Each d qs bs → Each d (ps ++ qs) (as_ ++ bs)
each-append d [] qs [] bs h k = k
each-append d [] qs (a ∷ as_) bs h k = absurd (cc)
each-append d (p ∷ ps) qs [] bs h k = absurd (cc)
each-append d (p ∷ ps) qs (a ∷ as_) bs h k =
    let e : slice_get d p ≡ Some a = cc in
    let r : map (slice_get d) ps ≡ map Some as_ = cc in
    λ i. e i ∷ each-append d ps qs as_ bs r k i

-- what a bound name stands for
abbrev pub Stands : List Body → Option ℕ → Option Body → Type 0
Stands d None None = Unit {0}
Stands d (Some p) (Some b) = slice_get d p ≡ Some b
Stands d None (Some b) = ⊥
Stands d (Some p) None = ⊥

stands-else : (d : List Body) (o p : Option ℕ) (a b : Option Body) → Stands d o a → Stands d p b → Stands d (or_else o p) (or_else a b)
stands-else d None p None b h k = k
stands-else d None p (Some a) b h k = absurd h
stands-else d (Some o) p None b h k = absurd h
stands-else d (Some o) p (Some a) b h k = h

pub stands-latest : (d : List Body) (n : Name) (ps : List (Name × ℕ)) (s : Scope) → Bound d ps s → Stands d (latest n ps) (latest n s)
stands-latest d n [] [] b = tt
stands-latest d n [] (q ∷ s) b = absurd b
stands-latest d n (p ∷ ps) [] b = absurd b
stands-latest d n (p ∷ ps) (q ∷ s) b = stands-else d (latest n ps) _ (latest n s) _ (stands-latest d n ps s b.2) (here (same_name n p.0) (same_name n q.0) (ap (same_name n) b.0))
  where
    here : (t u : Bool) → t ≡ u → Stands d (if t then Some p.1 else None) (if u then Some q.1 else None)
    here true true e = b.1
    here false false e = tt
    here true false e = absurd (cc)
    here false true e = absurd (cc)

-- answers joined
abbrev pub joined : {A : Type 0} → Result (List A) CheckFault → Result (List A) CheckFault → Result (List A) CheckFault
joined a b = and_then (λ xs. and_then (λ ys. Ok (xs ++ ys)) b) a

abbrev pub gathered : {A : Type 0} → (Form → Result (List A) CheckFault) → List Form → Result (List A) CheckFault
gathered g [] = Ok []
gathered g (f ∷ fs) = joined (g f) (gathered g fs)

joined-assoc : {A : Type 0} (a b c : Result (List A) CheckFault) → joined (joined a b) c ≡ joined a (joined b c)
joined-assoc (Err e) b c = refl
joined-assoc (Ok xs) (Err e) c = refl
joined-assoc (Ok xs) (Ok ys) (Err e) = refl
joined-assoc (Ok xs) (Ok ys) (Ok zs) = ap Ok (append_assoc xs ys zs)

joined-none : {A : Type 0} (a : Result (List A) CheckFault) → joined a (Ok []) ≡ a
joined-none (Err e) = refl
joined-none (Ok xs) = ap Ok (append-nil xs)

none-joined : {A : Type 0} (a : Result (List A) CheckFault) → joined (Ok []) a ≡ a
none-joined (Err e) = refl
none-joined (Ok xs) = refl

pub gathered-append : {A : Type 0} (g : Form → Result (List A) CheckFault) (fs hs : List Form) → gathered g (fs ++ hs) ≡ joined (gathered g fs) (gathered g hs)
gathered-append g [] hs = sym (none-joined (gathered g hs))
gathered-append g (f ∷ fs) hs = ap (joined (g f)) (gathered-append g fs hs) ∙ sym (joined-assoc (g f) (gathered g fs) (gathered g hs))

pub gathered-snoc : {A : Type 0} (g : Form → Result (List A) CheckFault) (fs : List Form) (f : Form) → gathered g (fs ++ f ∷ []) ≡ joined (gathered g fs) (g f)
gathered-snoc g fs f = gathered-append g fs (f ∷ []) ∙ ap (joined (gathered g fs)) (joined-none (g f))

abbrev pub single : {A : Type 0} → Result A CheckFault → Result (List A) CheckFault
single r = and_then (λ x. Ok (x ∷ [])) r

pub all-gathered : (t : Body → Bool) (symbols : Names) (s : Scope) (fs : List Form) → meant_all t symbols s (forms fs) ≡ gathered (λ f. single (meant t symbols s f)) fs
all-gathered t symbols s [] = refl
all-gathered t symbols s (f ∷ fs) = one (meant t symbols s f) (meant_all t symbols s (forms fs)) (gathered (λ f. single (meant t symbols s f)) fs) (all-gathered t symbols s fs)
  where
    one : (a : Result Body CheckFault) (b c : Result (List Body) CheckFault) → b ≡ c → and_then (λ b'. and_then (λ bs. Ok (b' ∷ bs)) b) a ≡ joined (single a) c
    one (Err e) b c h = refl
    one (Ok x) b c h = ap (and_then (λ bs. Ok (x ∷ bs))) h

pub values-gathered : (t : Body → Bool) (symbols : Names) (s : Scope) (fs : List Form) → meant_values t symbols s (forms fs) ≡ gathered (meant_value t symbols s) fs
values-gathered t symbols s [] = refl
values-gathered t symbols s (f ∷ fs) = ap (λ r. and_then (λ x. and_then (λ xs. Ok (x ++ xs)) r) (meant_value t symbols s f)) (values-gathered t symbols s fs)
