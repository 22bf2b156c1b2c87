use Rattle.std.proofs.Common.{subst, refl, sym}
use Rattle.std.proofs.lemmas.Bool.{false≢true}
use Rattle.cal_script.specs.FrameHeads.{SpellsNoNumber}
use Rattle.cal_script.proofs.NumberLemmas.{number_front, parsed_decimal, parses_decimal, utf8_decimal}
use Rattle.cal_script.proofs.number.read_number.Goals as goal

pub returns-then-not-begins_number : goal.returns-then-not-begins_number
returns-then-not-begins_number c n h e = false≢true (c.if-not-begins_number.ensures.1 (number_front c.args.text.now n h e))

pub returns-in_default : goal.returns-in_default
returns-in_default c = utf8_decimal c.args.text.now c.in_default.ensures.cases.0

pub returns-in-Ok-parse : goal.returns-in-Ok-parse
returns-in-Ok-parse c =
    rw (sym c.in-Ok.ensures.cases.0) (parsed_decimal c.in-Ok.digits.now c.in-Ok-parse.number
    (rw c.in-Ok.ensures.cases.0 (c.if-not-begins_number.ensures.0 refl)) c.in-Ok-parse.ensures.value.0)

pub returns-in-Err : goal.returns-in-Err
returns-in-Err c =
    subst SpellsNoNumber c.in-Ok.ensures.cases.0 (parses_decimal c.in-Ok.digits.now c.in-Err.ensures.value.0)
