use Rattle.std.specs.Prelude.{◌≡◌, ℕ, List, Option, Some, slice_get}
use Rattle.lang_pool.specs.declared.pool_note.PoolNote.{PoolNote}

-- the name of the cell that the note is of
abbrev pub cell_of : {V : Type 0} → PoolNote V → ℕ
cell_of note = note.note.cell

-- the value of that cell, once the note has learned it
abbrev pub known : {V : Type 0} → PoolNote V → Option V
known note = note.note.known

-- the note is of this cell of the pool
abbrev pub IsNoteOf : {V : Type 0} → List ℕ → ℕ → PoolNote V → Type 0
IsNoteOf pool cell note = slice_get pool cell ≡ Some (cell_of note)
