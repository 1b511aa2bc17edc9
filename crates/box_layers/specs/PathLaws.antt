-- Where a path stops.
use Rattle.std.proofs.Common.{◌≡◌, ℕ, List, [], ◌∷◌, length, slice_get, Some, sym, ◌∙◌}
use Rattle.machine_core.specs.Runs.{IsPath}

-- the last state of a path
pub path-last : {S : Type 0} (steps : S → ℕ → List ℕ → S → Type 0) (s : S) (us : List S) (word : List ℕ) (costs : List (List ℕ)) (t p : S)
    → IsPath steps s us word costs t → slice_get (s ∷ us) (length word) ≡ Some p → t ≡ p
path-last steps s [] [] [] t p h e = let f : s ≡ p = cc in sym h ∙ f
path-last steps s [] [] (x ∷ costs) t p h e = absurd h
path-last steps s [] (x ∷ word) costs t p h e = absurd h
path-last steps s (v ∷ us) [] costs t p h e = absurd h
path-last steps s (v ∷ us) (x ∷ word) [] t p h e = absurd h
path-last steps s (v ∷ us) (x ∷ word) (y ∷ costs) t p h e = path-last steps v us word costs t p h.1 e
