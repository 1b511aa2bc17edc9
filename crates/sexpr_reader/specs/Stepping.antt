-- What one byte more makes of an unfinished token.
use Rattle.std.specs.Prelude.{◌≡◌, ℕ, ◌==◌, ◌||◌, Bool, true, false, IsTrue}
use Rattle.sexpr_reader.specs.declared.mode.Mode.{Mode}
use Rattle.sexpr_reader.specs.declared.mode.Mode.TheVariants as m
use Rattle.sexpr_reader.specs.declared.action.Action.{Action}
use Rattle.sexpr_reader.specs.declared.action.Action.TheVariants as v
use Rattle.sexpr_reader.specs.Bytes.{is_white, is_line_end, is_border}

-- where no token is begun
abbrev pub Begun : ℕ → Action → Type 0
Begun b (v.Skip m.Blank) = IsTrue (is_white b)
Begun b (v.Skip m.Comment) = b ≡ 59
Begun b v.Open = b ≡ 40
Begun b v.Close = b ≡ 41
Begun b (v.Take m.Bars) = b ≡ 124
Begun b (v.Take m.Quotes) = b ≡ 34
Begun b (v.Take m.Run) = is_border b ≡ false
Begun b _ = ⊥

-- in each mode
abbrev pub Acts : Mode → ℕ → Action → Type 0
Acts m.Blank b x = Begun b x
Acts m.Comment b (v.Skip m.Blank) = is_line_end b ≡ true
Acts m.Comment b (v.Skip m.Comment) = is_line_end b ≡ false
Acts m.Run b v.EndRun = is_border b ≡ true
Acts m.Run b (v.Take m.Run) = is_border b ≡ false
Acts m.Bars b v.EndQuoted = b ≡ 124
Acts m.Bars b v.Refuse = b ≡ 92
Acts m.Bars b (v.Take m.Bars) = (b == 124 || b == 92) ≡ false
Acts m.Quotes b (v.Take m.Quote) = b ≡ 34
Acts m.Quotes b (v.Take m.Quotes) = (b == 34) ≡ false
Acts m.Quote b (v.Take m.Quotes) = b ≡ 34
Acts m.Quote b v.EndLiteral = (b == 34) ≡ false
Acts _ b _ = ⊥

-- no token is unfinished
abbrev pub is_idle : Mode → Bool
is_idle m.Blank = true
is_idle m.Comment = true
is_idle _ = false
