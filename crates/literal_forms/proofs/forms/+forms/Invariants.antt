use Rattle.std.proofs.Common.{take}
use Rattle.literal_forms.specs.Numbered.{IsMore}
use Rattle.literal_forms.proofs.Combined.{IsCombined}
use Rattle.literal_forms.proofs.forms.+forms.Given as goal

abbrev pub invariant-several_form-loop-i : goal.invariant-several_form-loop-i
invariant-several_form-loop-i l = record {
  more : IsMore l.fn.unknowns.codes l.unknowns.codes;
  all : IsCombined l.unknowns.codes l.joint (take l.i l.terms) l.all;
}
