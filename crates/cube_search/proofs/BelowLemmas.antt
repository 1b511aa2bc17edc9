-- What is below a family, of what is below the families that come of it.
use Rattle.std.proofs.Common.{◌≡◌, ℕ, suc, ◌<◌, ◌+◌, ◌&&◌, cond, Bool, true, false, List, [], ◌∷◌, ◌++◌, length, Option, None, Some, IfSome, slice_get, refl, sym, ap, ◌∙◌, subst, arith, inl, inr}
use Rattle.std.proofs.lemmas.Bool.Decides.{eqb_tells}
use Rattle.machine_core.specs.declared.graph.Graph.{Graph}
use Rattle.search_hits.specs.declared.region.Region.{Region}
use Rattle.flat_cubes.specs.Straight.{IsStraight}
use Rattle.flat_cubes.specs.Using.{used}
use Rattle.flat_cubes.specs.declared.definition.By.TheVariants as by
use Rattle.flat_cubes.specs.declared.definition.Definition.{Definition}
use Rattle.flat_cubes.specs.declared.flat.Flat.{Flat}
use Rattle.backward.specs.Chains.{width}
use Rattle.backward.specs.Definitions.{definition}
use Rattle.backward.specs.Families.{Family, HasMachine}
use Rattle.backward.specs.Steps.{CanPassAt}
use Rattle.backward.specs.Ways.{is_set, is_marked, AreLive, AreNext}
use Rattle.backward.specs.declared.leaf_state.LeafState.{LeafState}
use Rattle.backward.proofs.StepLemmas.{made-through, one-definition}
use Rattle.cube_search.specs.Conflicts.{is_named, HaveMachines, AreNamesOf, AreRefutedFrom, IsRefutedFrom, IsBelow, IsBelowCuts, IsBelowStep, IsTakenBack, HasOwnNamed, Goes, IsGathered, AreGathered, below_of, of_leaf}
use Rattle.cube_search.specs.Searches.{AreFoundRuns}
use Rattle.cube_search.specs.Steps.{AreExact, IsCutting, IsNextFamily}
use Rattle.cube_search.specs.Tallies.{Keeps, IsCovered}
use Rattle.cube_search.specs.declared.below.Below.{Below}
use Rattle.cube_search.specs.declared.below.Below.TheVariants as below
use Rattle.cube_search.specs.declared.found.FoundRuns.{FoundRuns}
use Rattle.cube_search.specs.declared.gathered.Gathered.{Gathered}
use Rattle.cube_search.specs.declared.tally.LeafTally.{LeafTally}
use Rattle.cube_search.proofs.ConflictLemmas.{concat-refuted, cut-refuted, cuts-refuted, jump-refuted, nowhere-refuted, refuted-covers, refuted-more, through-refuted}
use Rattle.cube_search.proofs.NameLemmas.{not-both}
use Rattle.cube_search.proofs.SearchLemmas.{all-arm, concat-arm, covered-next, through-arm, whole-arm}
use Rattle.cube_search.proofs.WayLemmas.{barred, barred-arm, cutting-others, cutting-pieces}

pub leaf-below : (flat : Flat) (region : Region) (ms : Family) (tally : LeafTally) (o : Option FoundRuns) → (o ≡ None → IsCovered flat region 0 ms tally) → IfSome o (AreFoundRuns flat 0 ms) → IsBelow flat region 0 ms tally (of_leaf o)
leaf-below flat region ms tally None covered found = covered refl
leaf-below flat region ms tally (Some f) covered found = found

-- a step taken back
pub taken-below : (flat : Flat) (region : Region) (at : ℕ) (cuts : List ℕ) (s next : LeafState) (tally : LeafTally) (old new : Below) → IsNextFamily flat at cuts s next → IsBelow flat region at next.machines tally old
    → IsTakenBack flat at s.machines old new → IsBelowStep flat region at cuts s tally new
taken-below flat region at cuts s next tally (below.Found f) new is h back = subst (IsBelowStep flat region at cuts s tally) (sym back.1) back.2
taken-below flat region at cuts s next tally (below.Refuted names) new is h back = subst (IsBelowStep flat region at cuts s tally) (sym back) (next, is, h)
taken-below flat region at cuts s next tally below.Left new is h back = subst (IsBelowStep flat region at cuts s tally) (sym back) (next, is, h)

-- whole cuts
pub whole-below : (flat : Flat) (region : Region) (at : ℕ) (pieces cuts : List ℕ) (s : LeafState) (tally : LeafTally) (b : Below) → s.registers ≡ width flat → length cuts + 1 ≡ length pieces
    → IsBelowStep flat region at cuts s tally b → IsBelowCuts flat region at pieces s.machines cuts tally b
whole-below flat region at pieces cuts s tally (below.Found f) wide full h = h
whole-below flat region at pieces cuts s tally (below.Refuted names) wide full h = λ x m e there.
    cut-refuted flat at x m pieces cuts s.machines h.0 names there full (h.1.made (definition x (by.Concat pieces)) e) h.2
whole-below flat region at pieces cuts s tally below.Left wide full h = whole-arm flat region at pieces cuts s tally wide full h

-- all lists of cuts, once the variable is named too
pub concat-below : (flat : Flat) (region : Region) (left at : ℕ) (pieces : List ℕ) (s : LeafState) (tally : LeafTally) (b new : Below) → left ≡ suc at → IsStraight flat → s.registers ≡ width flat → AreExact s.registers s.machines
    → IsCutting flat at pieces s.machines [] → IsBelowCuts flat region at pieces s.machines [] tally b
    → ((d : Definition) → slice_get flat.definitions at ≡ Some d → HasOwnNamed d.variable (used d.by) b new) → IsBelow flat region left s.machines tally new
concat-below flat region left at pieces s tally (below.Found f) new e straight wide exact c h own =
    let o = own (definition c.variable (by.Concat pieces)) c.defined in
    subst (IsBelow flat region left s.machines tally) (sym o) (subst (λ n. AreFoundRuns flat n s.machines f) (omega (arith, e)) h)
concat-below flat region left at pieces s tally (below.Refuted names) new e straight wide exact c h own =
    let o = own (definition c.variable (by.Concat pieces)) c.defined in
    let r = concat-refuted flat at c.variable pieces s.machines c.machine names o.0 c.has c.fewer c.defined (h c.variable c.machine c.defined c.has) o.2 in
    subst (IsBelow flat region left s.machines tally) (sym o.1) (subst (λ n. IsBelow flat region n s.machines tally (below.Refuted o.0)) (sym e) r)
concat-below flat region left at pieces s tally below.Left new e straight wide exact c h own =
    let o = own (definition c.variable (by.Concat pieces)) c.defined in
    subst (IsBelow flat region left s.machines tally) (sym o) (concat-arm flat region left at pieces s tally e straight wide exact c h)

-- a definition through a transducer, once the variable is named too
pub through-below : (flat : Flat) (region : Region) (left at : ℕ) (s : LeafState) (tally : LeafTally) (b new : Below) → left ≡ suc at → s.registers ≡ width flat → CanPassAt flat at s.machines
    → IsBelowStep flat region at [] s tally b → ((d : Definition) → slice_get flat.definitions at ≡ Some d → HasOwnNamed d.variable (used d.by) b new) → IsBelow flat region left s.machines tally new
through-below flat region left at s tally (below.Found f) new e wide can h own =
    let o = own (definition can.variable can.how) can.defined in
    subst (IsBelow flat region left s.machines tally) (sym o) (subst (λ n. AreFoundRuns flat n s.machines f) (omega (arith, e)) h)
through-below flat region left at s tally (below.Refuted names) new e wide can h own =
    let o = own (definition can.variable can.how) can.defined in
    let made = made-through can.how can.variable can.reader [] s.machines h.0 can.through (h.1.made (definition can.variable can.how) can.defined) in
    let r = through-refuted flat at can.variable can.reader can.how s.machines h.0 made.0 names o.0 can.defined can.through made.1 made.2 h.2 o.2 in
    subst (IsBelow flat region left s.machines tally) (sym o.1) (subst (λ n. IsBelow flat region n s.machines tally (below.Refuted o.0)) (sym e) r)
through-below flat region left at s tally below.Left new e wide can h own =
    let o = own (definition can.variable can.how) can.defined in
    subst (IsBelow flat region left s.machines tally) (sym o) (through-arm flat region left at s tally e wide can h)

module _ (flat : Flat) (region : Region) (at : ℕ) (pieces : List ℕ) (ms : Family) (cuts : List ℕ) (c : IsCutting flat at pieces ms cuts) where
  -- the variable that is defined is the one of the cutting
  own-variable : (x : ℕ) → slice_get flat.definitions at ≡ Some (definition x (by.Concat pieces)) → c.variable ≡ x
  own-variable x e = ap (λ (d : Definition). d.variable) (one-definition flat.definitions at (definition c.variable (by.Concat pieces)) (definition x (by.Concat pieces)) c.defined e)

  -- no list of cuts yet
  pub gathered-none : (own : List Bool) (g : Gathered) (tally : LeafTally) → AreNamesOf pieces own → g.names ≡ own → AreGathered flat region at pieces ms cuts 0 g tally
  gathered-none own g tally of is = record {
    own = λ p stands. ap (λ l. is_named l p) is ∙ of.all p stands;
    have = λ v named. cutting-pieces flat at pieces ms cuts c v (of.only v (sym (ap (λ l. is_named l v) is) ∙ named));
    other = λ x e named. (cutting-others flat at pieces ms cuts c x (of.only x (sym (ap (λ l. is_named l x) is) ∙ named))).0 (sym (own-variable x e));
    covered = λ s lt. absurd (omega (arith, lt));
    refuted = λ all s lt. absurd (omega (arith, lt));
  }

  -- a cut that leads nowhere
  pub gathered-barred : (s : ℕ) (g : Gathered) (tally : LeafTally) (next : List Bool) (live : List (List Bool))
      → ((d : Definition) (m : Graph) → slice_get flat.definitions at ≡ Some d → HasMachine ms d.variable m → AreNext ms m pieces cuts next)
      → ((d : Definition) (m : Graph) → slice_get flat.definitions at ≡ Some d → HasMachine ms d.variable m → AreLive ms m pieces live)
      → (is_set next s && is_marked live (length cuts + 1) s) ≡ false → AreGathered flat region at pieces ms cuts s g tally → AreGathered flat region at pieces ms cuts (s + 1) g tally
  gathered-barred s g tally next live nexts lives bars h = record {
    own = h.own;
    have = h.have;
    other = h.other;
    covered = covered-next flat region at pieces ms cuts tally tally s (record { given = λ k. k; long = λ k. k }) h.covered (barred-arm flat at pieces cuts ms s next live c nexts lives bars region tally);
    refuted = λ all i lt. elim (eqb_tells i s) [
      | inl is ↦ subst (λ j. AreRefutedFrom flat at pieces ms (cuts ++ j ∷ []) g.names) (sym is.1)
          (λ x m e there. nowhere-refuted flat at x m pieces ms cuts s g.names (λ rest lead. barred flat at pieces cuts ms s next live c nexts lives bars x m rest e there lead) h.own h.have (h.other x e))
      | inr ne ↦ h.refuted all i (let k = ne.1 in omega arith)
    ];
  }

  -- one list of cuts more
  pub gathered-more : (s : ℕ) (g new : Gathered) (old tally : LeafTally) (b : Below) → Keeps old tally → AreGathered flat region at pieces ms cuts s g old
      → IsBelowCuts flat region at pieces ms (cuts ++ s ∷ []) tally b → IsGathered b g new → AreGathered flat region at pieces ms cuts (s + 1) new tally
  gathered-more s g new old tally (below.Found f) keeps h k gathered = absurd gathered
  gathered-more s g new old tally (below.Refuted names) keeps h k gathered =
      let join = gathered.1 in
      let here = k c.variable c.machine c.defined c.has in
      let have : HaveMachines ms new.names = λ v named. elim (join.only v named) [ inl o ↦ h.have v o | inr t ↦ here.have v t ] in
      let other : (x : ℕ) → slice_get flat.definitions at ≡ Some (definition x (by.Concat pieces)) → is_named new.names x ≡ true → ⊥ =
      λ x e named. elim (join.only x named) [ inl o ↦ h.other x e o | inr t ↦ here.other (subst (λ u. is_named names u ≡ true) (sym (own-variable x e)) t) ] in
      record {
        own = λ p stands. join.kept p (h.own p stands);
        have = have;
        other = other;
        covered = covered-next flat region at pieces ms cuts old tally s keeps h.covered (refuted-covers flat region at pieces ms (cuts ++ s ∷ []) names tally k);
        refuted = λ all i lt x m e there. elim (eqb_tells i s) [
          | inl is ↦ subst (λ j. IsRefutedFrom flat at x m pieces ms (cuts ++ j ∷ []) new.names) (sym is.1)
              (refuted-more flat at x m pieces ms (cuts ++ s ∷ []) names new.names join.taken have (other x e) (k x m e there))
          | inr ne ↦ refuted-more flat at x m pieces ms (cuts ++ i ∷ []) g.names new.names join.kept have (other x e) (h.refuted (sym gathered.0 ∙ all) i (let n = ne.1 in omega arith) x m e there)
        ];
      }
  gathered-more s g new old tally below.Left keeps h k gathered =
      let same = gathered.1 in
      record {
        own = λ p stands. ap (λ l. is_named l p) same ∙ h.own p stands;
        have = λ v named. h.have v (sym (ap (λ l. is_named l v) same) ∙ named);
        other = λ x e named. h.other x e (sym (ap (λ l. is_named l x) same) ∙ named);
        covered = covered-next flat region at pieces ms cuts old tally s keeps h.covered k;
        refuted = λ all. absurd (not-both new.all all gathered.0);
      }

  -- all lists of cuts
  pub gathered-all : (g : Gathered) (tally : LeafTally) (bound : ℕ)
      → ((d : Definition) (m : Graph) → slice_get flat.definitions at ≡ Some d → HasMachine ms d.variable m → bound ≡ m.states) → (length cuts + 1 ≡ length pieces → ⊥)
      → AreGathered flat region at pieces ms cuts bound g tally → IsBelowCuts flat region at pieces ms cuts tally (below_of g)
  gathered-all g tally bound is ne h = by-all g.all refl
    where
      by-all : (a : Bool) → g.all ≡ a → IsBelowCuts flat region at pieces ms cuts tally (cond a (below.Refuted g.names) below.Left)
      by-all true e = λ x m def there. cuts-refuted flat at x m pieces ms cuts g.names h.have (h.other x def) ne (λ s lt. h.refuted e s (let b = is (definition x (by.Concat pieces)) m def there in omega (arith, lt, b)) x m def there)
      by-all false e = all-arm flat region at pieces cuts ms tally bound is ne h.covered

  -- an answer for all lists of cuts
  pub goes-below : (s bound : ℕ) (tally : LeafTally) (p q : ℕ) (b : Below)
      → ((d : Definition) (m : Graph) → slice_get flat.definitions at ≡ Some d → HasMachine ms d.variable m → bound ≡ m.states) → s < bound
      → slice_get pieces (length cuts) ≡ Some p → slice_get pieces (length cuts + 1) ≡ Some q
      → IsBelowCuts flat region at pieces ms (cuts ++ s ∷ []) tally b → Goes p q b → IsBelowCuts flat region at pieces ms cuts tally b
  goes-below s bound tally p q (below.Found f) is lt at-p at-q k goes = k
  goes-below s bound tally p q (below.Refuted names) is lt at-p at-q k goes = λ x m e there.
      jump-refuted flat at x m pieces ms cuts s names p q (let b = is (definition x (by.Concat pieces)) m e there in omega (arith, lt, b)) at-p at-q goes.0 goes.1 (k x m e there)
  goes-below s bound tally p q below.Left is lt at-p at-q k goes = absurd goes
