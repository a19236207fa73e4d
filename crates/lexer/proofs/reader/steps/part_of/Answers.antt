use Rattle.std.proofs.Common.{sym, ◌∙◌}
use Rattle.lexer.specs.Words.{inner, digit}
use Rattle.lexer.proofs.Finding.{or_end, finds_letter, finds_digit, finds_symbol, part_within}
use Rattle.lexer.proofs.reader.steps.part_of.Goals as goal

pub returns-then-is_letter-clause-finds : goal.returns-then-is_letter-clause-finds
returns-then-is_letter-clause-finds c p =
    finds_letter c.args.text.now c.front-name.result.now c.in-Some.first.now p c.map.result c.in-Some.ensures.value (sym c.if-is_letter.ensures)
    (c.front-name.ensures inner (λ b r e. e)) (or_end p c.letters.result c.map.result c.map.ensures.cases ∙ c.letters.ensures p)

pub returns-then-is_letter-clause-within : goal.returns-then-is_letter-clause-within
returns-then-is_letter-clause-within c = part_within (returns-then-is_letter-clause-finds c _)

pub returns-then-is_digit-clause-finds : goal.returns-then-is_digit-clause-finds
returns-then-is_digit-clause-finds c p =
    finds_digit c.args.text.now c.front-number.result.now c.in-Some.first.now p c.map-then-is_digit.result c.in-Some.ensures.value (sym c.if-is_letter.ensures)
    (sym c.if-is_digit.ensures) (c.front-number.ensures digit (λ b r e. e)) (or_end p c.digits.result c.map-then-is_digit.result c.map-then-is_digit.ensures.cases ∙ c.digits.ensures p)

pub returns-then-is_digit-clause-within : goal.returns-then-is_digit-clause-within
returns-then-is_digit-clause-within c = part_within (returns-then-is_digit-clause-finds c _)

pub returns-in-Some-symbol_at-clause-finds : goal.returns-in-Some-symbol_at-clause-finds
returns-in-Some-symbol_at-clause-finds c p =
    finds_symbol c.args.text.now c.in-Some.first.now p c.in-Some-symbol_at.n c.in-Some-symbol_at.mark c.in-Some.ensures.value (sym c.if-is_letter.ensures)
    (sym c.if-is_digit.ensures) c.in-Some-symbol_at.ensures
