-- Terms that are taken together are taken one by one.
use Rattle.std.proofs.Common.{◌≡◌, refl, sym, ap, subst, ◌∙◌, Bool, true, false, ◌&&◌, IsTrue, List, [], ◌∷◌, map, Result, Ok, Err}
use Rattle.std.specs.List.{list_all}
use Rattle.std.proofs.lemmas.Bool.{and_parts}
use Rattle.sv_terms.specs.declared.entry.Body.{Body}
use Rattle.sv_terms.specs.declared.sort.Sort.{Sort}
use Rattle.item_passes.specs.Passes.{looked, looked_all, passed}
use Rattle.item_passes.specs.declared.pass.Pass.{Pass}
use Rattle.item_passes.specs.declared.pass.Pass.TheVariants as pass
use Rattle.smt_names.specs.Faults.{and_then, ◌>>◌, need, made_of}
use Rattle.smt_names.specs.Form.{Form, Forms, forms, seen, raw, raws, token, group, end, ◌⨾◌}
use Rattle.smt_names.specs.Shapes.{seen-Atom, seen-List}
use Rattle.smt_names.specs.declared.check_fault.CheckFault.{CheckFault}
use Rattle.smt_names.specs.declared.check_fault.CheckFault.TheVariants as fault
use Rattle.sort_check.proofs.WellTerms.{Each}
use Rattle.sort_check.specs.Checking.{asked, asked_term, has_values, passed_term, IsAskable}
use Rattle.term_walk.specs.Meant.{Names, any_size, meant, meant_all, settled, settled_sorts}
use Rattle.term_weight.specs.Bodies.{body_sort, term_of}
use Rattle.term_weight.specs.Sizes.{fits}

-- what an answer that is no fault was made of
need-ok : (b : Bool) (f : CheckFault) → need b f ≡ Ok tt → b ≡ true
need-ok true f e = refl
need-ok false f e = absurd (cc)

after-ok : {A : Type 0} (m : Result Unit CheckFault) (r : Result A CheckFault) (x : A) → (m >> r) ≡ Ok x → (m ≡ Ok tt) × (r ≡ Ok x)
after-ok (Ok u) r x e = (refl, e)
after-ok (Err f) r x e = absurd (cc)

then-ok : {A B : Type 0} (next : A → Result B CheckFault) (r : Result A CheckFault) (y : B) → and_then next r ≡ Ok y → (x : A) × (r ≡ Ok x) × (next x ≡ Ok y)
then-ok next (Ok x) y e = (x, refl, e)
then-ok next (Err f) y e = absurd (cc)

same-ok : {A : Type 0} (r : Result A CheckFault) (x y : A) → r ≡ Ok x → r ≡ Ok y → x ≡ y
same-ok r x y e f = cc

pub made-ok : {A B : Type 0} (f : A → B) (r : Result A CheckFault) (y : B) → made_of f r ≡ Ok y → (x : A) × (r ≡ Ok x) × (f x ≡ y)
made-ok f (Ok x) y e = (x, refl, same-ok (Ok (f x)) (f x) y refl e)
made-ok f (Err g) y e = absurd (cc)

-- a first one and the others
record Split (r : Result Body CheckFault) (s : Result (List Body) CheckFault) (bs : List Body) : Type 0 where
  first : Body
  others : List Body
  means : r ≡ Ok first
  rest : s ≡ Ok others
  all : bs ≡ first ∷ others

split : (r : Result Body CheckFault) (s : Result (List Body) CheckFault) (bs : List Body) → and_then (λ b. and_then (λ bs. Ok (b ∷ bs)) s) r ≡ Ok bs → Split r s bs
split (Ok b) (Ok cs) bs e = record { first = b; others = cs; means = refl; rest = refl; all = same-ok (Ok bs) bs (b ∷ cs) refl (sym e) }
split (Ok b) (Err f) bs e = absurd (cc)
split (Err f) s bs e = absurd (cc)

-- all four passes over terms find nothing
record ArePassed (ts : Forms) : Type 0 where
  names : looked_all pass.Names ts ≡ Ok tt
  sorts : looked_all pass.Sorts ts ≡ Ok tt
  languages : looked_all pass.Languages ts ≡ Ok tt
  numbers : looked_all pass.Numbers ts ≡ Ok tt

are-passed : (ts : Forms) → passed ts ≡ Ok tt → ArePassed ts
are-passed ts e =
    let a = after-ok (looked_all pass.Names ts) (looked_all pass.Sorts ts >> looked_all pass.Languages ts >> looked_all pass.Numbers ts) tt e in
    let b = after-ok (looked_all pass.Sorts ts) (looked_all pass.Languages ts >> looked_all pass.Numbers ts) tt a.1 in
    let c = after-ok (looked_all pass.Languages ts) (looked_all pass.Numbers ts) tt b.1 in
    record { names = a.0; sorts = b.0; languages = c.0; numbers = c.1 }

in-first : (p : Pass) (t : Form) (ts : Forms) → looked_all p (t ⨾ ts) ≡ Ok tt → (looked p t ≡ Ok tt) × (looked_all p ts ≡ Ok tt)
in-first p t ts e = after-ok (looked p t) (looked_all p ts) tt e

first-passed : (t : Form) (ts : Forms) → ArePassed (t ⨾ ts) → passed_term t ≡ Ok tt
first-passed t ts p =
    ap (λ z. z >> looked pass.Sorts t >> looked pass.Languages t >> looked pass.Numbers t) (in-first pass.Names t ts p.names).0
    ∙ ap (λ z. z >> looked pass.Languages t >> looked pass.Numbers t) (in-first pass.Sorts t ts p.sorts).0
    ∙ ap (λ z. z >> looked pass.Numbers t) (in-first pass.Languages t ts p.languages).0
    ∙ (in-first pass.Numbers t ts p.numbers).0

others-passed : (t : Form) (ts : Forms) → ArePassed (t ⨾ ts) → ArePassed ts
others-passed t ts p = record {
  names = (in-first pass.Names t ts p.names).1;
  sorts = (in-first pass.Sorts t ts p.sorts).1;
  languages = (in-first pass.Languages t ts p.languages).1;
  numbers = (in-first pass.Numbers t ts p.numbers).1;
}

-- an s-expression is seen as the form that it is made of
mutual
  seen-raw : (f : Form) → seen (raw f) ≡ f
  seen-raw (token kind text) = seen-Atom kind text
  seen-raw (group fs) = seen-List (raws fs) ∙ ap group (seen-raws fs)

  seen-raws : (fs : Forms) → forms (map seen (raws fs)) ≡ fs
  seen-raws end = refl
  seen-raws (f ⨾ fs) = λ i. seen-raw f i ⨾ seen-raws fs i

module _ (symbols : Names) where
  one-settled : (t : Form) (b c : Body) → meant any_size symbols [] t ≡ Ok b → meant fits symbols [] t ≡ Ok c → fits b ≡ true → settled symbols [] (t ⨾ end) ≡ Ok (b ∷ [])
  one-settled t b c e g h =
      ap (λ z. and_then (λ bs. and_then (λ _. need (list_all fits bs) fault.Size >> Ok bs) (meant_all fits symbols [] (t ⨾ end))) (and_then (λ x. Ok (x ∷ [])) z)) e
      ∙ ap (λ z. and_then (λ _. need (fits b && true) fault.Size >> Ok (b ∷ [])) (and_then (λ x. Ok (x ∷ [])) z)) g
      ∙ ap (λ z. need (z && true) fault.Size >> Ok (b ∷ [])) h

  one-asked : (t : Form) (b c : Body) → passed_term t ≡ Ok tt → meant any_size symbols [] t ≡ Ok b → meant fits symbols [] t ≡ Ok c → fits b ≡ true → has_values (body_sort b) ≡ true → asked_term symbols t ≡ Ok (term_of b)
  one-asked t b c p e g h k =
      ap (λ z. z >> and_then asked (settled symbols [] (t ⨾ end))) p
      ∙ ap (and_then asked) (one-settled t b c e g h)
      ∙ ap (λ z. need z fault.Sort >> Ok (term_of b)) k

  each-asked : (ts : Forms) (bs cs : List Body) → ArePassed ts → meant_all any_size symbols [] ts ≡ Ok bs → meant_all fits symbols [] ts ≡ Ok cs → IsTrue (list_all fits bs) → IsTrue (list_all has_values (map body_sort bs)) → Each (IsAskable symbols) (raws ts)
  each-asked end bs cs p e g h k = tt
  each-asked (t ⨾ ts) bs cs p e g h k =
      let a = split (meant any_size symbols [] t) (meant_all any_size symbols [] ts) bs e in
      let d = split (meant fits symbols [] t) (meant_all fits symbols [] ts) cs g in
      let m = and_parts (fits a.first) (list_all fits a.others) (subst (λ (l : List Body). IsTrue (list_all fits l)) a.all h) in
      let n = and_parts (has_values (body_sort a.first)) (list_all has_values (map body_sort a.others)) (subst (λ (l : List Body). IsTrue (list_all has_values (map body_sort l))) a.all k) in (
        (term_of a.first, ap (asked_term symbols) (seen-raw t) ∙ one-asked t a.first d.first (first-passed t ts p) a.means d.means m.0 n.0),
        each-asked ts a.others d.others (others-passed t ts p) a.rest d.rest m.1 n.1,
      )

  -- the first of terms that are settled together, and the others
  pub record IsTaken (t : Form) (ts : Forms) (bs : List Body) : Type 0 where
    pub first : Body
    pub others : List Body
    pub one : settled symbols [] (t ⨾ end) ≡ Ok (first ∷ [])
    pub rest : settled symbols [] ts ≡ Ok others
    pub all : bs ≡ first ∷ others

  others-settled : (ts : Forms) (bs cs : List Body) → meant_all any_size symbols [] ts ≡ Ok bs → meant_all fits symbols [] ts ≡ Ok cs → list_all fits bs ≡ true → settled symbols [] ts ≡ Ok bs
  others-settled ts bs cs e g h =
      ap (λ z. and_then (λ bs. and_then (λ _. need (list_all fits bs) fault.Size >> Ok bs) (meant_all fits symbols [] ts)) z) e
      ∙ ap (λ z. and_then (λ _. need (list_all fits bs) fault.Size >> Ok bs) z) g
      ∙ ap (λ z. need z fault.Size >> Ok bs) h

  pub one-by-one : (t : Form) (ts : Forms) (bs : List Body) → settled symbols [] (t ⨾ ts) ≡ Ok bs → IsTaken t ts bs
  one-by-one t ts bs e =
      let b = then-ok (λ bs. and_then (λ _. need (list_all fits bs) fault.Size >> Ok bs) (meant_all fits symbols [] (t ⨾ ts))) (meant_all any_size symbols [] (t ⨾ ts)) bs e in
      let c = then-ok (λ _. need (list_all fits b.0) fault.Size >> Ok b.0) (meant_all fits symbols [] (t ⨾ ts)) bs b.2 in
      let d = after-ok (need (list_all fits b.0) fault.Size) (Ok b.0) bs c.2 in
      let p = split (meant any_size symbols [] t) (meant_all any_size symbols [] ts) b.0 b.1 in
      let q = split (meant fits symbols [] t) (meant_all fits symbols [] ts) c.0 c.1 in
      let m = and_parts (fits p.first) (list_all fits p.others) (subst (λ (l : List Body). IsTrue (list_all fits l)) p.all (need-ok (list_all fits b.0) fault.Size d.0)) in
      record {
        first = p.first;
        others = p.others;
        one = one-settled t p.first q.first p.means q.means m.0;
        rest = others-settled ts p.others q.others p.rest q.rest m.1;
        all = same-ok (Ok bs) bs b.0 refl (sym d.1) ∙ p.all;
      }

  -- terms that are taken together
  pub all-asked : (ts : Forms) (ss : List Sort) → passed ts ≡ Ok tt → settled_sorts symbols [] ts ≡ Ok ss → IsTrue (list_all has_values ss) → Each (IsAskable symbols) (raws ts)
  all-asked ts ss p e k =
      let a = made-ok (map body_sort) (settled symbols [] ts) ss e in
      let b = then-ok (λ bs. and_then (λ _. need (list_all fits bs) fault.Size >> Ok bs) (meant_all fits symbols [] ts)) (meant_all any_size symbols [] ts) a.0 a.1 in
      let c = then-ok (λ _. need (list_all fits b.0) fault.Size >> Ok b.0) (meant_all fits symbols [] ts) a.0 b.2 in
      let d = after-ok (need (list_all fits b.0) fault.Size) (Ok b.0) a.0 c.2 in
      let same = same-ok (Ok b.0) b.0 a.0 refl d.1 in
      each-asked ts b.0 c.0 (are-passed ts p) b.1 c.1 (need-ok (list_all fits b.0) fault.Size d.0)
      (subst (λ (l : List Sort). IsTrue (list_all has_values l)) (sym (ap (map body_sort) same ∙ a.2)) k)
