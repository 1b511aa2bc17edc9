-- What functions do: one table, from which everything else that is asked of a function comes.
use Rattle.sv_terms.specs.declared.op.Op.{Op}
use Rattle.sv_terms.specs.declared.op.Op.TheVariants as op
use Rattle.literal_forms.specs.declared.roles.Build.TheVariants as build
use Rattle.literal_forms.specs.declared.roles.Joint.TheVariants as joint
use Rattle.literal_forms.specs.declared.roles.IntOrder.TheVariants as order
use Rattle.literal_forms.specs.declared.roles.Role.{Role}
use Rattle.literal_forms.specs.declared.roles.Role.TheVariants as role
use Rattle.literal_forms.specs.declared.roles.Test.TheVariants as test

abbrev pub role_of : Op → Role
role_of op.Not = role.Connective
role_of op.And = role.Connective
role_of op.Or = role.Connective
role_of op.Xor = role.Connective
role_of op.Implies = role.Connective
role_of op.IfThenElse = role.Connective
role_of op.Equal = role.Equality
role_of op.Distinct = role.Distinct
role_of op.LessEqual = role.Order order.AtMost
role_of op.Less = role.Order order.Below
role_of op.GreaterEqual = role.Order order.AtLeast
role_of op.Greater = role.Order order.Above
role_of op.Add = role.Joined joint.Sum
role_of op.Subtract = role.Joined joint.Difference
role_of op.Multiply = role.Joined joint.Product
role_of op.Length = role.Length
role_of op.Concat = role.Built build.Concat
role_of op.Replace = role.Built build.First
role_of op.ReplaceAll = role.Built build.All
role_of op.PrefixOf = role.Test test.Prefix
role_of op.SuffixOf = role.Test test.Suffix
role_of op.Contains = role.Test test.Contains
role_of op.IsDigit = role.Test test.Digit
