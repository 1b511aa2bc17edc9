-- The variables on whose machines a refutation stands, and what is below a family.
use Rattle.std.specs.Prelude.{◌≡◌, ℕ, suc, ◌+◌, ◌<◌, ◌⊎◌, cond, Bool, true, false, List, [], ◌∷◌, ◌++◌, Option, None, Some, get_or, take, slice_get, Contains, ⊤}
use Rattle.machine_core.specs.declared.graph.Graph.{Graph}
use Rattle.machine_core.specs.Graphs.{Accepts}
use Rattle.pre_image.specs.Slices.{Between}
use Rattle.search_hits.specs.declared.region.Region.{Region}
use Rattle.flat_cubes.specs.declared.definition.By.TheVariants.{Concat}
use Rattle.flat_cubes.specs.declared.flat.Flat.{Flat}
use Rattle.backward.specs.Definitions.{definition}
use Rattle.backward.specs.Families.{Family, Words, HasMachine}
use Rattle.backward.specs.Leaves.{Obey}
use Rattle.backward.specs.Pieces.{AreCuts}
use Rattle.backward.specs.declared.leaf_state.LeafState.{LeafState}
use Rattle.cube_search.specs.Searches.{AreFoundRuns}
use Rattle.cube_search.specs.Steps.{IsNextFamily}
use Rattle.cube_search.specs.Tallies.{IsCovered, AreCoveredFrom, IsCoveredBelow}
use Rattle.cube_search.specs.declared.below.Below.{Below}
use Rattle.cube_search.specs.declared.below.Below.TheVariants as below
use Rattle.cube_search.specs.declared.found.FoundRuns.{FoundRuns}
use Rattle.cube_search.specs.declared.gathered.Gathered.{Gathered}
use Rattle.cube_search.specs.declared.tally.LeafTally.{LeafTally}

-- whether the variable is named; one without a mark isn't
abbrev pub is_named : List Bool → ℕ → Bool
is_named names v = get_or names v false

-- this variable is named too
pub record IsNamedToo (v : ℕ) (old new : List Bool) : Type 0 where
  pub here : is_named new v ≡ true
  pub kept : (u : ℕ) → is_named old u ≡ true → is_named new u ≡ true
  pub only : (u : ℕ) → is_named new u ≡ true → (is_named old u ≡ true) ⊎ (u ≡ v)

-- just these variables are named
pub record AreNamesOf (variables : List ℕ) (names : List Bool) : Type 0 where
  pub all : (v : ℕ) → Contains variables v → is_named names v ≡ true
  pub only : (v : ℕ) → is_named names v ≡ true → Contains variables v

-- just what one of two names is named
pub record AreJoined (one other both : List Bool) : Type 0 where
  pub kept : (v : ℕ) → is_named one v ≡ true → is_named both v ≡ true
  pub taken : (v : ℕ) → is_named other v ≡ true → is_named both v ≡ true
  pub only : (v : ℕ) → is_named both v ≡ true → (is_named one v ≡ true) ⊎ (is_named other v ≡ true)

-- each variable that is named has a machine
abbrev pub HaveMachines : Family → List Bool → Type 0
HaveMachines ms names = (v : ℕ) → is_named names v ≡ true → (k : Graph) × HasMachine ms v k

-- and it reads the word of the variable
abbrev pub AreRead : Family → List Bool → Words → Type 0
AreRead ms names words = (v : ℕ) → is_named names v ≡ true → (k : Graph) × (cost : List ℕ) × HasMachine ms v k × Accepts k (words v) cost

-- no words that the machines of the named variables read, whatever the words of others are, obey the definitions that are left
pub record IsRefutedBy (flat : Flat) (left : ℕ) (ms : Family) (names : List Bool) : Type 0 where
  pub have : HaveMachines ms names
  pub none : (words : Words) → AreRead ms names words → Obey (take left flat.definitions) words → ⊥

-- wherever a named piece stands, its word leads the machine from the state there to the next one, and at the last place to an end
abbrev pub LieBetween : Graph → List ℕ → List ℕ → List Bool → Words → Type 0
LieBetween m starts pieces names words = (place p s : ℕ) → slice_get pieces place ≡ Some p → slice_get starts place ≡ Some s → is_named names p ≡ true
    → (cost : List ℕ) × Between m s (slice_get starts (suc place)) (words p) cost

-- the machine m of x, a concatenation of these pieces, is cut at states of which the first are these: no words that the machines of the named variables read,
-- and that lie between the cuts where they are pieces, obey the definitions before
pub record IsRefutedFrom (flat : Flat) (at x : ℕ) (m : Graph) (pieces : List ℕ) (ms : Family) (cuts : List ℕ) (names : List Bool) : Type 0 where
  pub have : HaveMachines ms names
  pub other : is_named names x ≡ true → ⊥
  pub none : (words : Words) (rest : List ℕ) → AreCuts m pieces (cuts ++ rest) → AreRead ms names words → LieBetween m (0 ∷ cuts ++ rest) pieces names words
      → Obey (take at flat.definitions) words → ⊥

-- so where the definition at this place is that concatenation
abbrev pub AreRefutedFrom : Flat → ℕ → List ℕ → Family → List ℕ → List Bool → Type 0
AreRefutedFrom flat at pieces ms cuts names = (x : ℕ) (m : Graph) → slice_get flat.definitions at ≡ Some (definition x (Concat pieces)) → HasMachine ms x m
    → IsRefutedFrom flat at x m pieces ms cuts names

-- runs that satisfy the cube; or nothing does, by the machines of the named variables alone; or the tally accounts for whatever does
abbrev pub IsBelow : Flat → Region → ℕ → Family → LeafTally → Below → Type 0
IsBelow flat region left ms tally (below.Found found) = AreFoundRuns flat left ms found
IsBelow flat region left ms tally (below.Refuted names) = IsRefutedBy flat left ms names
IsBelow flat region left ms tally below.Left = IsCovered flat region left ms tally

-- the same of all lists of cuts that begin with these
abbrev pub IsBelowCuts : Flat → Region → ℕ → List ℕ → Family → List ℕ → LeafTally → Below → Type 0
IsBelowCuts flat region at pieces ms cuts tally (below.Found found) = AreFoundRuns flat (at + 1) ms found
IsBelowCuts flat region at pieces ms cuts tally (below.Refuted names) = AreRefutedFrom flat at pieces ms cuts names
IsBelowCuts flat region at pieces ms cuts tally below.Left = AreCoveredFrom flat region at pieces ms cuts tally

-- the same of the family with the definition at this place carried; the runs are those of the family before
abbrev pub IsBelowStep : Flat → Region → ℕ → List ℕ → LeafState → LeafTally → Below → Type 0
IsBelowStep flat region at cuts state tally (below.Found found) = AreFoundRuns flat (at + 1) state.machines found
IsBelowStep flat region at cuts state tally (below.Refuted names) = (next : LeafState) × IsNextFamily flat at cuts state next × IsRefutedBy flat at next.machines names
IsBelowStep flat region at cuts state tally below.Left = IsCoveredBelow flat region at cuts state tally

abbrev pub of_leaf : Option FoundRuns → Below
of_leaf None = below.Left
of_leaf (Some found) = below.Found found

-- what is below a family, taken back to the family before: runs are others there, all else is the same
abbrev pub IsTakenBack : Flat → ℕ → Family → Below → Below → Type 0
IsTakenBack flat at ms (below.Found found) new = (back : FoundRuns) × (new ≡ below.Found back) × AreFoundRuns flat (at + 1) ms back
IsTakenBack flat at ms (below.Refuted names) new = new ≡ below.Refuted names
IsTakenBack flat at ms below.Left new = new ≡ below.Left

-- a refutation names the variable too that is defined, where it names one of those that the definition uses
pub record NamesOwn (x : ℕ) (uses : List ℕ) (old new : List Bool) : Type 0 where
  pub kept : (v : ℕ) → is_named old v ≡ true → is_named new v ≡ true
  pub only : (v : ℕ) → is_named new v ≡ true → (is_named old v ≡ true) ⊎ (v ≡ x)
  pub own : (v : ℕ) → Contains uses v → is_named old v ≡ true → is_named new x ≡ true

abbrev pub HasOwnNamed : ℕ → List ℕ → Below → Below → Type 0
HasOwnNamed x uses (below.Found found) new = new ≡ below.Found found
HasOwnNamed x uses (below.Refuted names) new = (more : List Bool) × (new ≡ below.Refuted more) × NamesOwn x uses names more
HasOwnNamed x uses below.Left new = new ≡ below.Left

-- what all lists of cuts come to
abbrev pub below_of : Gathered → Below
below_of g = cond g.all (below.Refuted g.names) below.Left

-- an answer for all lists of cuts: runs, or a refutation that names neither of the two pieces beside the cut
abbrev pub Goes : ℕ → ℕ → Below → Type 0
Goes before behind (below.Found found) = ⊤
Goes before behind (below.Refuted names) = (is_named names before ≡ false) × (is_named names behind ≡ false)
Goes before behind below.Left = ⊥

-- what is below one list more was taken in
abbrev pub IsGathered : Below → Gathered → Gathered → Type 0
IsGathered (below.Found found) old new = ⊥
IsGathered (below.Refuted names) old new = (new.all ≡ old.all) × AreJoined old.names names new.names
IsGathered below.Left old new = (new.all ≡ false) × (new.names ≡ old.names)

-- what the lists of cuts come to that begin with these and then a state below this one
pub record AreGathered (flat : Flat) (region : Region) (at : ℕ) (pieces : List ℕ) (ms : Family) (cuts : List ℕ) (next : ℕ) (g : Gathered) (tally : LeafTally) : Type 0 where
  pub own : (p : ℕ) → Contains pieces p → is_named g.names p ≡ true
  pub have : HaveMachines ms g.names
  pub other : (x : ℕ) → slice_get flat.definitions at ≡ Some (definition x (Concat pieces)) → is_named g.names x ≡ true → ⊥
  pub covered : (s : ℕ) → s < next → AreCoveredFrom flat region at pieces ms (cuts ++ s ∷ []) tally
  pub refuted : g.all ≡ true → (s : ℕ) → s < next → AreRefutedFrom flat at pieces ms (cuts ++ s ∷ []) g.names
