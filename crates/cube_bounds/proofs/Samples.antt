-- The numbers of a page that holds a host and a replaced input, and of lengths in a box, computed from their texts.
use Rattle.std.proofs.Common.{◌≡◌, refl, pos, true, false, List, [], ◌∷◌}
use Rattle.sv_terms.specs.declared.op.Op.TheVariants as op
use Rattle.sv_terms.specs.declared.sort.Sort.TheVariants as sort
use Rattle.literal_forms.specs.Shapes.{Shape, text, constant, apply, end, ◌⨾◌}
use Rattle.flat_cubes.specs.Said.{atom_said}
use Rattle.flat_cubes.specs.Met.{DraftView, nothing_met, add}
use Rattle.flat_cubes.specs.Flattening.{variables_of, definitions_of, ordered}
use Rattle.cube_bounds.specs.Bounds.{states, splits, sources}
use Rattle.cube_bounds.specs.Growth.{growth, reach}
use Rattle.flat_cubes.specs.declared.flat.Flat.{Flat}

abbrev host : Shape
host = constant (1 ∷ []) sort.String

abbrev page : Shape
page = constant (2 ∷ []) sort.String

abbrev input : Shape
input = constant (3 ∷ []) sort.String

-- page is "http://", host, "/?q=" and the input with "&lt;" for each "<"
abbrev address : Shape
address = apply op.Concat (text (104 ∷ 116 ∷ 116 ∷ 112 ∷ 58 ∷ 47 ∷ 47 ∷ []) ⨾ host ⨾ text (47 ∷ 63 ∷ 113 ∷ 61 ∷ []) ⨾ apply op.ReplaceAll (input ⨾ text (60 ∷ []) ⨾ text (38 ∷ 108 ∷ 116 ∷ 59 ∷ []) ⨾ end) ⨾ end)

abbrev said_of : List Shape → DraftView → DraftView
said_of [] d = d
said_of (s ∷ ss) d = said_of ss (add (atom_said s true) d)

-- host is a digit, page contains "<script", and page is the address
abbrev draft : DraftView
draft = said_of (apply op.IsDigit (host ⨾ end) ∷ apply op.Contains (page ⨾ text (60 ∷ 115 ∷ 99 ∷ 114 ∷ 105 ∷ 112 ∷ 116 ∷ []) ⨾ end) ∷ apply op.Equal (page ⨾ address ⨾ end) ∷ []) nothing_met

abbrev flat : Flat
flat = record { variables = variables_of draft; definitions = ordered (definitions_of draft); rows = []; registers = []; integers = []; truths = []; broken = false }

pub page_states : states flat ≡ 64
page_states = refl

pub page_splits : splits flat ≡ 512
page_splits = refl

pub page_sources : sources flat ≡ 4
page_sources = refl

pub page_growth : growth flat ≡ 11
page_growth = refl

pub page_reach : reach flat ≡ pos 381299
page_reach = refl
