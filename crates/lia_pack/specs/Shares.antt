-- Bytes that are made of others, layer by layer.
use Rattle.std.specs.Prelude.{ℕ, List, [], ◌∷◌, ◌++◌, take, drop}
use Rattle.lia_pack.specs.declared.pieces.Piece.{Piece}
use Rattle.lia_pack.specs.declared.pieces.Layer.{Layer}
use Rattle.lia_pack.specs.declared.shared.SharedBytes.{SharedBytes}
use Rattle.lia_pack.specs.declared.shared.SharedLayer.{SharedLayer}

-- for each piece, behind some bytes of those below that are skipped, some of these and some fresh ones; then what is left of both
abbrev pub joined : List ℕ → List Piece → List ℕ → List ℕ
joined below [] fresh = below ++ fresh
joined below (p ∷ ps) fresh = take p.length (drop p.skip below) ++ (take p.fresh fresh ++ joined (drop p.length (drop p.skip below)) ps (drop p.fresh fresh))

abbrev pub joined_by : List ℕ → Layer → List ℕ
joined_by below l = joined below l.pieces l.fresh

-- each layer over what those before it make
abbrev pub layered : List ℕ → List Layer → List ℕ
layered bytes [] = bytes
layered bytes (l ∷ ls) = layered (joined_by bytes l) ls

abbrev pub values : List SharedLayer → List Layer
values [] = []
values (r ∷ rs) = r.layer.value ∷ values rs

abbrev pub bytes_of : SharedBytes → List ℕ
bytes_of s = layered s.base.value (values s.layers)
