use Rattle.std.proofs.Common.{sym, ap, subst}
use Rattle.sexpr_reader.specs.declared.kind.TokenKind.{TokenKind}
use Rattle.term_walk.specs.Meant.{meant_token}
use Rattle.term_walk.specs.Walks.{ReadsMeaning, Here}
use Rattle.term_walk.proofs.walk.read_token.Goals as goal

pub returns-in-Numeral : goal.returns-in-Numeral
returns-in-Numeral c = λ s b. subst (λ (k : TokenKind). ReadsMeaning Here (λ t. meant_token c.args.symbols.now s k c.args.text.now) c.args.walk.now c.read_number.new.walk c.read_number.result) (sym c.in-Numeral.is) (c.read_number.ensures s)

pub returns-in-Literal : goal.returns-in-Literal
returns-in-Literal c = λ s b. subst (λ (k : TokenKind). ReadsMeaning Here (λ t. meant_token c.args.symbols.now s k c.args.text.now) c.args.walk.now c.read_literal.new.walk c.read_literal.result) (sym c.in-Literal.is) (c.read_literal.ensures s)

pub returns-in-Symbol : goal.returns-in-Symbol
returns-in-Symbol c = λ s b. subst (λ (k : TokenKind). ReadsMeaning Here (λ t. meant_token c.args.symbols.now s k c.args.text.now) c.args.walk.now c.read_name.new.walk c.read_name.result) (sym c.in-Symbol.is) (c.read_name.ensures s b)

pub returns-in-Quoted : goal.returns-in-Quoted
returns-in-Quoted c = λ s b. subst (λ (k : TokenKind). ReadsMeaning Here (λ t. meant_token c.args.symbols.now s k c.args.text.now) c.args.walk.now c.read_name-in-Quoted.new.walk c.read_name-in-Quoted.result) (sym c.in-Quoted.is) (c.read_name-in-Quoted.ensures s b)

pub returns-in-Decimal : goal.returns-in-Decimal
returns-in-Decimal c = λ s b. ap (λ k. meant_token c.args.symbols.now s k c.args.text.now) c.in-Decimal.is

pub returns-in-Hexadecimal : goal.returns-in-Hexadecimal
returns-in-Hexadecimal c = λ s b. ap (λ k. meant_token c.args.symbols.now s k c.args.text.now) c.in-Hexadecimal.is

pub returns-in-Binary : goal.returns-in-Binary
returns-in-Binary c = λ s b. ap (λ k. meant_token c.args.symbols.now s k c.args.text.now) c.in-Binary.is

pub returns-in-Keyword : goal.returns-in-Keyword
returns-in-Keyword c = λ s b. ap (λ k. meant_token c.args.symbols.now s k c.args.text.now) c.in-Keyword.is
