use Rattle.std.proofs.Common.{◌∙◌, [], sym, inr, refl, arith}
use Rattle.std.proofs.lemmas.Result.{err_from_is_err_and, MatchResult-weaker}
use Rattle.cal_moment.proofs.Fronts.{not_empty, empty_is}
use Rattle.cal_moment.proofs.PartLemmas.{parts_none, parts_join, behind_stops_letter, behind_stops_later, behind_stops_end, behind_stops_parts, parts_stop_behind, parts_stop_count}
use Rattle.cal_moment.proofs.lengths.+parts_behind.Goals as goal

pub returns-then-is_empty-clause-err : goal.returns-then-is_empty-clause-err
returns-then-is_empty-clause-err t c =
    let first = c.first_unit-unit.ensures in
    let last = empty_is c.first_unit-unit.result.1.now (sym c.is_empty.ensures ∙ c.if-is_empty.true) in
    let none = rw c.letter.ensures at c.in_default.ensures.none in
    rw (first, last) (behind_stops_letter c.first_unit-unit.result.0 c.args.number c.args.text.now none)

pub returns-in_default-clause-err : goal.returns-in_default-clause-err
returns-in_default-clause-err t c =
    let first = c.first_unit-unit.ensures in
    let none = rw c.letter.ensures at c.in_default.ensures.none in
    rw first
    (MatchResult-weaker c.parts_behind.result c.parts_behind.ensures.err (λ seconds any. any)
    (λ left s. behind_stops_later c.first_unit-unit.result.0 c.first_unit-unit.result.1.now c.args.number c.args.text.now left.now none s))

pub returns-then-is_empty-2-clause-ok : goal.returns-then-is_empty-2-clause-ok
returns-then-is_empty-2-clause-ok t c =
    let first = c.first_unit-unit.ensures in
    let end = empty_is c.in-Some.rest.now (sym c.is_empty-2.ensures ∙ c.if-is_empty-2.true) in
    rw (first, c.in-Some.ensures.some, c.letter.ensures, end, c.seconds.ensures.value)
    (inr ([], 0, parts_none c.first_unit-unit.result.1.now, refl, omega arith))

pub returns-then-is_empty-3-clause-err : goal.returns-then-is_empty-3-clause-err
returns-then-is_empty-3-clause-err t c =
    let first = c.first_unit-unit.ensures in
    let last = empty_is c.first_unit-unit.result.1.now (sym c.is_empty-3.ensures ∙ c.if-is_empty-3.true) in
    let some = not_empty c.in-Some.rest.now (sym c.is_empty-2.ensures ∙ c.if-is_empty-2.false) in
    rw (first, last, c.in-Some.ensures.some, c.letter.ensures)
    (behind_stops_end c.first_unit-unit.result.0 c.args.number c.in-Some.rest.now some)

pub returns-in_default-count-clause-err : goal.returns-in_default-count-clause-err
returns-in_default-count-clause-err t c =
    let first = c.first_unit-unit.ensures in
    let more = not_empty c.first_unit-unit.result.1.now (sym c.is_empty-3.ensures ∙ c.if-is_empty-3.false) in
    let some = not_empty c.in-Some.rest.now (sym c.is_empty-2.ensures ∙ c.if-is_empty-2.false) in
    rw (first, c.in-Some.ensures.some, c.letter.ensures)
    (behind_stops_parts c.first_unit-unit.result.0 c.first_unit-unit.result.1.now c.args.number c.in-Some.rest.now c.in-Some.rest.now (rw first at c.requires.apart)
    (parts_stop_count c.first_unit-unit.result.1.now c.in-Some.rest.now more some c.in_default-count.ensures.none))

pub returns-in_err-others-clause-err : goal.returns-in_err-others-clause-err
returns-in_err-others-clause-err t c =
    let p = err_from_is_err_and c.from_residual.result c.from_residual.ensures.1 in
    let first = c.first_unit-unit.ensures in
    let some = not_empty c.in-Some.rest.now (sym c.is_empty-2.ensures ∙ c.if-is_empty-2.false) in
    rw (p.1, p.2, first, c.in-Some.ensures.some, c.letter.ensures)
    (behind_stops_parts c.first_unit-unit.result.0 c.first_unit-unit.result.1.now c.args.number c.in-Some.rest.now c.in_err-others.field-0.0.now (rw first at c.requires.apart)
    (parts_stop_behind c.first_unit-unit.result.1.now c.in-Some.rest.now c.in-Some-count.next c.in-Some-count.behind.now c.in_err-others.field-0.0.now some c.in-Some-count.ensures.some c.in_err-others.ensures.err))

pub returns-clause-ok : goal.returns-clause-ok
returns-clause-ok t c =
    let first = c.first_unit-unit.ensures in
    let count = c.in-Some-count.ensures.some in
    let parts = parts_join c.first_unit-unit.result.1.now count.number c.in-Some-count.next c.in-Some-count.behind.now c.in_ok-others.others count.spells c.in_ok-others.ensures.ok in
    rw (first, c.in-Some.ensures.some, c.letter.ensures, c.seconds.ensures.value)
    (inr (c.in-Some.rest.now, c.in_ok-others.others, rw count.split parts, refl, refl))
