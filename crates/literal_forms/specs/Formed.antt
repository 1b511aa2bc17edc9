-- The forms of several terms.
use Rattle.std.specs.Prelude.{ℤ, List, map}
use Rattle.sv_terms.specs.declared.term.Term.{Term}
use Rattle.literal_forms.specs.Linear.{Linear, Unknown, Step, all_steps, combined, combined_steps, linears, of_unknown}
use Rattle.literal_forms.specs.Numbered.{IsMore, IsNumbered, joint_of, joint_steps}
use Rattle.literal_forms.specs.Shapes.{seen, shapes}
use Rattle.literal_forms.specs.declared.roles.Joint.{Joint}
use Rattle.literal_forms.specs.declared.term_form.TermForm.{TermForm}

abbrev pub linears_of : List Term → List Linear
linears_of ts = linears (shapes (map seen ts))

abbrev pub steps_of : List Term → List Step
steps_of ts = all_steps (shapes (map seen ts))

abbrev pub combined_by : Joint → List Linear → Linear
combined_by j ls = combined (joint_of j) ls

abbrev pub combining_steps : Joint → List Linear → List Step
combining_steps j ls = combined_steps (joint_of j) (joint_steps j) ls

-- the form of an unknown that is among the new ones
pub record IsUnknownForm (old new : List (List ℤ)) (u : Unknown) (f : TermForm) : Type 0 where
  pub more : IsMore old new
  pub form : IsNumbered new (of_unknown u) f
