-- Which error a fault is answered by; want of memory is answered by none.
use Rattle.std.specs.Prelude.{Option, None, Some}
use Rattle.sexpr_reader.specs.declared.syntax_fault.SyntaxFault.{SyntaxFault}
use Rattle.sexpr_reader.specs.declared.syntax_fault.SyntaxFault.TheVariants as syntax
use Rattle.smt_names.specs.declared.check_fault.CheckFault.{CheckFault}
use Rattle.smt_names.specs.declared.check_fault.CheckFault.TheVariants as check
use Rattle.term_eval.specs.declared.fault.EvalFault.{EvalFault}
use Rattle.term_eval.specs.declared.fault.EvalFault.TheVariants as value
use Rattle.reply_text.specs.declared.error_kind.ErrorKind.{ErrorKind}
use Rattle.reply_text.specs.declared.error_kind.ErrorKind.TheVariants as error

abbrev pub of_check : CheckFault → Option ErrorKind
of_check check.Unknown = Some error.Unknown
of_check check.Sort = Some error.Sort
of_check check.Arity = Some error.Arity
of_check check.Declared = Some error.Declared
of_check check.Number = Some error.Number
of_check check.Reserved = Some error.Reserved
of_check check.Shape = Some error.Shape
of_check check.Transducer = Some error.Transducer
of_check check.Index = Some error.Index
of_check check.Size = Some error.Size
of_check (check.Memory e) = None

abbrev pub of_value : EvalFault → Option ErrorKind
of_value value.Opaque = Some error.OpaqueValue
of_value (value.Past a b) = Some error.Number
of_value (value.Memory e) = None

abbrev pub of_syntax : SyntaxFault → Option ErrorKind
of_syntax (syntax.Token place) = Some (error.SyntaxToken place)
of_syntax (syntax.Close place) = Some (error.SyntaxClose place)
of_syntax (syntax.Depth place) = Some (error.SyntaxDepth place)
of_syntax (syntax.Literal place) = Some (error.SyntaxLiteral place)
of_syntax syntax.Incomplete = Some error.Incomplete
of_syntax (syntax.Memory e) = None
