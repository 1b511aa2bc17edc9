-- The numbers that a generated script is drawn from: a linear congruence modulo 65,537.
use Rattle.std.specs.Prelude.{ℕ, ◌+◌, ◌*◌, ◌%◌}

-- the number behind this one
abbrev pub drawn : ℕ → ℕ
drawn s = (75 * s + 74) % 65537

-- the number that a seed begins with
abbrev pub seeded : ℕ → ℕ
seeded seed = seed % 65537

-- each block draws two numbers: this one stands behind those of a block
abbrev pub behind : ℕ → ℕ
behind s = drawn (drawn s)
