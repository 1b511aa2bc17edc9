-- What is kept of macros, as names come and go.
use Rattle.std.proofs.Common.{◌≡◌, refl, sym, ap, subst, ◌∙◌, ℕ, zero, suc, Bool, true, false, cond, List, [], ◌∷◌, ◌++◌, take, Option, Some, None, Result, Ok, Err}
use Rattle.std.specs.Prelude.{option_to_list, OnOk, OnErr}
use Rattle.std.specs.Map.{lookup}
use Rattle.std.proofs.lemmas.Cmp.{nat_list_eq_equiv}
use Rattle.sv_terms.specs.declared.entry.Body.{Body}
use Rattle.sv_terms.specs.declared.entry.Entry.{Entry}
use Rattle.sv_terms.specs.declared.entry.Entry.TheVariants as entry
use Rattle.sv_terms.specs.declared.sort.Sort.{Sort}
use Rattle.smt_names.specs.Signature.{Name, same_name}
use Rattle.term_weight.specs.declared.summary.Summary.{Summary}
use Rattle.term_weight.specs.Macros.{IsSummaryOf, HasSummary, IsUndeclared, HaveSummaries, KeepsOthers}

abbrev Symbols : Type 0
Symbols = List (Name × Entry)

abbrev Kept : Type 0
Kept = List (Name × Summary)

some-none : {A B : Type 0} (o : Option A) (x : A) → o ≡ Some x → o ≡ None → B
some-none o x e f = absurd (cc)

module _ {A : Type 0} where
  -- under names that are the same the same is found
  lookup-same : (m n : Name) → same_name m n ≡ true → (es : List (Name × A)) → lookup (same_name m) es ≡ lookup (same_name n) es
  lookup-same m n h [] = refl
  lookup-same m n h (e ∷ es) = λ i. cond (nat_list_eq_equiv.congr m n e.0 h i) (Some e.1) (lookup-same m n h es i)

  -- the first entries are found first
  lookup-first : (n : Name) (es : List (Name × A)) (e : Name × A) (x : A) → lookup (same_name n) es ≡ Some x → lookup (same_name n) (es ++ e ∷ []) ≡ Some x
  lookup-first n [] e x h = absurd (cc)
  lookup-first n (d ∷ es) e x h = go (same_name n d.0) h (lookup-first n es e x)
    where
      go : (t : Bool) → cond t (Some d.1) (lookup (same_name n) es) ≡ Some x → (lookup (same_name n) es ≡ Some x → lookup (same_name n) (es ++ e ∷ []) ≡ Some x) → cond t (Some d.1) (lookup (same_name n) (es ++ e ∷ [])) ≡ Some x
      go true h f = h
      go false h f = f h

  lookup-last : (n : Name) (es : List (Name × A)) (e : Name × A) → lookup (same_name n) es ≡ None → lookup (same_name n) (es ++ e ∷ []) ≡ cond (same_name n e.0) (Some e.1) None
  lookup-last n [] e h = refl
  lookup-last n (d ∷ es) e h = go (same_name n d.0) h (lookup-last n es e)
    where
      go : (t : Bool) → cond t (Some d.1) (lookup (same_name n) es) ≡ None → (lookup (same_name n) es ≡ None → lookup (same_name n) (es ++ e ∷ []) ≡ cond (same_name n e.0) (Some e.1) None) → cond t (Some d.1) (lookup (same_name n) (es ++ e ∷ [])) ≡ cond (same_name n e.0) (Some e.1) None
      go true h f = absurd (cc)
      go false h f = f h

  lookup-other : (n : Name) (es : List (Name × A)) (e : Name × A) → same_name n e.0 ≡ false → lookup (same_name n) (es ++ e ∷ []) ≡ lookup (same_name n) es
  lookup-other n es e f = go (lookup (same_name n) es) refl
    where
      go : (o : Option A) → lookup (same_name n) es ≡ o → lookup (same_name n) (es ++ e ∷ []) ≡ lookup (same_name n) es
      go None h = lookup-last n es e h ∙ ap (λ t. cond t (Some e.1) None) f ∙ sym h
      go (Some x) h = lookup-first n es e x h ∙ sym h

  lookup-taken : (n : Name) (k : ℕ) (es : List (Name × A)) (x : A) → lookup (same_name n) (take k es) ≡ Some x → lookup (same_name n) es ≡ Some x
  lookup-taken n zero es x h = absurd (cc)
  lookup-taken n (suc k) [] x h = absurd (cc)
  lookup-taken n (suc k) (d ∷ es) x h = go (same_name n d.0) h (lookup-taken n k es x)
    where
      go : (t : Bool) → cond t (Some d.1) (lookup (same_name n) (take k es)) ≡ Some x → (lookup (same_name n) (take k es) ≡ Some x → lookup (same_name n) es ≡ Some x) → cond t (Some d.1) (lookup (same_name n) es) ≡ Some x
      go true h f = h
      go false h f = f h

-- what is kept under a name that isn't declared
kept-others : (symbols : Symbols) (n : Name) (old new : Kept) → lookup (same_name n) symbols ≡ None → KeepsOthers n old new → HaveSummaries symbols old → HaveSummaries symbols new
kept-others symbols n old new h k a = record { found = λ m ps b e. go m ps b (same_name m n) refl e }
  where
    go : (m : Name) (ps : List (Name × Sort)) (b : Body) (t : Bool) → same_name m n ≡ t → lookup (same_name m) symbols ≡ Some (entry.Macro ps b) → IsSummaryOf ps b (lookup (same_name m) new)
    go m ps b true f e = some-none (lookup (same_name m) symbols) (entry.Macro ps b) e (lookup-same m n f symbols ∙ h)
    go m ps b false f e = subst (IsSummaryOf ps b) (sym (k.same m f)) (a.found m ps b e)

kept-added : (symbols : Symbols) (n : Name) (d : Entry) (kept : Kept) → lookup (same_name n) symbols ≡ None → HasSummary d (lookup (same_name n) kept) → HaveSummaries symbols kept → HaveSummaries (symbols ++ (n, d) ∷ []) kept
kept-added symbols n d kept h k a = record { found = λ m ps b e. go m ps b (same_name m n) refl e }
  where
    go : (m : Name) (ps : List (Name × Sort)) (b : Body) (t : Bool) → same_name m n ≡ t → lookup (same_name m) (symbols ++ (n, d) ∷ []) ≡ Some (entry.Macro ps b) → IsSummaryOf ps b (lookup (same_name m) kept)
    go m ps b true f e = subst (IsSummaryOf ps b) (sym (lookup-same m n f kept)) (k.is ps b (some-inner (sym (lookup-last m symbols (n, d) (lookup-same m n f symbols ∙ h) ∙ ap (λ t. cond t (Some d) None) f) ∙ e)))
      where
        some-inner : Some d ≡ Some (entry.Macro ps b) → d ≡ entry.Macro ps b
        some-inner q = cc
    go m ps b false f e = a.found m ps b (sym (lookup-other m symbols (n, d) f) ∙ e)

-- a new name, where there is memory for it
pub kept-declared : {E : Type 0} (symbols after : Symbols) (n : Name) (d : Entry) (old new : Kept) (r : Result (Unit {0}) E) → lookup (same_name n) symbols ≡ None → KeepsOthers n old new → HasSummary d (lookup (same_name n) new) → HaveSummaries symbols old → OnOk r (after ≡ symbols ++ (n, d) ∷ []) → OnErr r (after ≡ symbols) → HaveSummaries after new
kept-declared symbols after n d old new (Ok u) h o k a p q = subst (λ (z : Symbols). HaveSummaries z new) (sym p) (kept-added symbols n d new h k (kept-others symbols n old new h o a))
kept-declared symbols after n d old new (Err e) h o k a p q = subst (λ (z : Symbols). HaveSummaries z new) (sym q) (kept-others symbols n old new h o a)

-- fewer names
pub kept-taken : (symbols : Symbols) (k : ℕ) (kept : Kept) → HaveSummaries symbols kept → HaveSummaries (take k symbols) kept
kept-taken symbols k kept a = record { found = λ m ps b e. a.found m ps b (lookup-taken m k symbols (entry.Macro ps b) e) }

-- without the last one, which isn't declared
pub kept-popped : (symbols : Symbols) (old new : Kept) (r : Option (Name × Summary)) → old ≡ new ++ option_to_list r → IsUndeclared symbols old → HaveSummaries symbols old → HaveSummaries symbols new
kept-popped symbols old new None e p a = subst (λ (z : Kept). HaveSummaries symbols z) (e ∙ append-none new) a
  where
    append-none : (xs : Kept) → xs ++ [] ≡ xs
    append-none [] = refl
    append-none (x ∷ xs) = ap (λ z. x ∷ z) (append-none xs)
kept-popped symbols old new (Some x) e p a = kept-others symbols x.0 old new (p.last new x e) (record { same = λ m f. sym (ap (lookup (same_name m)) e ∙ lookup-other m new x f) }) a
