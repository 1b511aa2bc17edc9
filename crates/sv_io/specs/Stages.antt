-- Where a source stands between two calls. Nothing public rests on it.
use Rattle.std.specs.Prelude.{Bool, true, false}
use Rattle.sv_io.specs.declared.stage.Stage.{Stage}
use Rattle.sv_io.specs.declared.stage.Stage.TheVariants as stage

-- the last read met the end
abbrev pub is_at_end : Stage → Bool
is_at_end stage.Closed = false
is_at_end stage.Reading = false
is_at_end stage.AtEnd = true
is_at_end stage.Failed = false

-- a read may follow
abbrev pub may_read : Stage → Bool
may_read stage.Closed = false
may_read stage.Reading = true
may_read stage.AtEnd = false
may_read stage.Failed = false
