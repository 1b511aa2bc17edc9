-- The name of a source: a path's bytes, or none, as of standard input.
use Rattle.std.specs.Prelude.{◌≡◌, ℕ, List, ⊤, None, Some}
use Rattle.std.specs.declared.option.Option.{Option}

-- a name is the source's own, where the source tells its own
abbrev pub IsOwn : Option (Option (List ℕ)) → Option (List ℕ) → Type 0
IsOwn None name = ⊤
IsOwn (Some own) name = name ≡ own
