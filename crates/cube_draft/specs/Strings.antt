-- What string terms of a written form are made of.
use Rattle.std.specs.Prelude.{Bool, true, false, ◌&&◌}
use Rattle.sv_terms.specs.declared.op.Op.{Op}
use Rattle.sv_terms.specs.declared.op.Op.TheVariants as op
use Rattle.literal_forms.specs.Roles.{role_of}
use Rattle.literal_forms.specs.declared.roles.Build.TheVariants as made
use Rattle.literal_forms.specs.declared.roles.Role.{Role}
use Rattle.literal_forms.specs.declared.roles.Role.TheVariants as role
use Rattle.literal_forms.specs.Linear.{is_string}
use Rattle.literal_forms.specs.Shapes.{Shape, Shapes, truth, number, text, constant, apply, member, related, opaque, end, ◌⨾◌}
use Rattle.cube_draft.specs.declared.string_terms.Occurrences.{Occurrences}
use Rattle.cube_draft.specs.declared.string_terms.Occurrences.TheVariants as occurrences
use Rattle.cube_draft.specs.declared.string_terms.PlaceBuild.{PlaceBuild}
use Rattle.cube_draft.specs.declared.string_terms.PlaceBuild.TheVariants as build

abbrev pub is_text : Shape → Bool
is_text (truth b) = false
is_text (number n) = false
is_text (text w) = true
is_text (constant name s) = false
is_text (apply o ss) = false
is_text (member s r) = false
is_text (related t s u) = false
is_text (opaque s) = false

-- what a function builds a string term of
abbrev pub build_by : Role → PlaceBuild
build_by (role.Built made.Concat) = build.Concat
build_by (role.Built made.First) = build.Replace occurrences.First
build_by (role.Built made.All) = build.Replace occurrences.All
build_by _ = build.Nothing

abbrev pub build_of : Op → PlaceBuild
build_of o = build_by (role_of o)

-- the function that replaces these occurrences
abbrev pub replacer : Occurrences → Op
replacer occurrences.First = op.Replace
replacer occurrences.All = op.ReplaceAll

-- a term of a written form, a literal and a literal
abbrev pub is_replaced : Shapes → Bool
is_replaced end = false
is_replaced (s ⨾ end) = false
is_replaced (s ⨾ t ⨾ end) = false
is_replaced (s ⨾ t ⨾ u ⨾ end) = is_text t && is_text u && is_string s
is_replaced (s ⨾ t ⨾ u ⨾ v ⨾ ss) = false
