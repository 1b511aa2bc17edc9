-- Whether terms of sort Int have a written form, and whether an unknown stands in them.
use Rattle.std.specs.Prelude.{Bool, true, false}
use Rattle.sv_terms.specs.declared.op.Op.{Op}
use Rattle.literal_forms.specs.Roles.{role_of}
use Rattle.literal_forms.specs.declared.roles.Joint.TheVariants as joint
use Rattle.literal_forms.specs.declared.roles.Role.{Role}
use Rattle.literal_forms.specs.declared.roles.Role.TheVariants as role
use Rattle.literal_forms.specs.Linear.{is_constant, is_linear, is_string, linear}
use Rattle.literal_forms.specs.Shapes.{Shape, Shapes, end, ◌⨾◌}
use Rattle.cube_draft.specs.Strings.{is_text}
use Rattle.cube_draft.specs.declared.number_terms.Joining.{Joining}
use Rattle.cube_draft.specs.declared.number_terms.Joining.TheVariants as joining
use Rattle.cube_draft.specs.declared.number_terms.Linearity.{Linearity}
use Rattle.cube_draft.specs.declared.number_terms.Linearity.TheVariants as linearity

-- by whether the term has a written form, and whether no unknown stands in it
abbrev pub kind_of : Bool → Bool → Linearity
kind_of false c = linearity.Other
kind_of true true = linearity.Constant
kind_of true false = linearity.Variable

abbrev pub linearity_of : Shape → Linearity
linearity_of s = kind_of (is_linear s) (is_constant (linear s))

-- how a function of sort Int joins what its arguments are
abbrev pub joining_by : Role → Joining
joining_by (role.Joined joint.Sum) = joining.Sum
joining_by (role.Joined joint.Difference) = joining.Sum
joining_by (role.Joined joint.Product) = joining.Product
joining_by role.Length = joining.Length
joining_by _ = joining.Nothing

abbrev pub joining_of : Op → Joining
joining_of o = joining_by (role_of o)

abbrev pub sum_of : Linearity → Linearity → Linearity
sum_of linearity.Constant k = k
sum_of linearity.Variable linearity.Constant = linearity.Variable
sum_of linearity.Variable linearity.Variable = linearity.Variable
sum_of linearity.Variable linearity.Other = linearity.Other
sum_of linearity.Other k = linearity.Other

-- one factor at most has an unknown
abbrev pub product_of : Linearity → Linearity → Linearity
product_of linearity.Constant k = k
product_of linearity.Variable linearity.Constant = linearity.Variable
product_of linearity.Variable linearity.Variable = linearity.Other
product_of linearity.Variable linearity.Other = linearity.Other
product_of linearity.Other k = linearity.Other

abbrev pub joined_of : Joining → Linearity → Linearity → Linearity
joined_of joining.Sum j k = sum_of j k
joined_of joining.Product j k = product_of j k
joined_of joining.Length j k = linearity.Other
joined_of joining.Nothing j k = linearity.Other

abbrev pub joined_on : Joining → Linearity → Shapes → Linearity
joined_on j k end = k
joined_on j k (s ⨾ ss) = joined_on j (joined_of j k (linearity_of s)) ss

-- what terms are joined from the left
abbrev pub joined_from : Joining → Shapes → Linearity
joined_from j end = linearity.Other
joined_from j (s ⨾ ss) = joined_on j (linearity_of s) ss

-- of the length of a string term
abbrev pub one_of : Shape → Linearity
one_of s = kind_of (is_string s) (is_text s)

abbrev pub length_of : Shapes → Linearity
length_of end = linearity.Other
length_of (s ⨾ end) = one_of s
length_of (s ⨾ t ⨾ ss) = linearity.Other

abbrev pub read_of : Joining → Shapes → Linearity
read_of joining.Sum ss = joined_from joining.Sum ss
read_of joining.Product ss = joined_from joining.Product ss
read_of joining.Length ss = length_of ss
read_of joining.Nothing ss = linearity.Other
