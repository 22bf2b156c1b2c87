use Rattle.std.proofs.Common.{◌<◌, ◌≤◌, get_or, arith, ⊎_elim, refl}
use Rattle.std.proofs.lemmas.Bool.{cases_lt, false≢true}
use Rattle.ical_lines.proofs.Folding.{fold_at_boundary, first_octet_begins}
use Rattle.ical_lines.proofs.write.fold_place.Goals as goal

pub overflow_sub-place : goal.overflow_sub-place
overflow_sub-place c = first_octet_begins c.args.text.now c.back.place c.requires.utf8 (omega arith) (c.back-test.ensures.0 refl)

pub back-smaller : goal.back-smaller
back-smaller c =
    let later = first_octet_begins c.args.text.now c.back.place c.requires.utf8 (omega arith) (c.back-test.ensures.0 refl) in
    omega arith

pub returns : goal.returns
returns c =
    let begins = λ (high : 128 ≤ get_or c.args.text.now c.back.place 0).
    ⊎_elim (λ (low : get_or c.args.text.now c.back.place 0 < 192). absurd (false≢true (c.back-test.ensures.1 (high, low))))
    (λ (over : 192 ≤ get_or c.args.text.now c.back.place 0). over) (cases_lt (get_or c.args.text.now c.back.place 0) 192) in
    let is = fold_at_boundary c.args.text.now c.args.room c.back.place c.requires.utf8 c.requires.long c.requires.wide c.back.invariant.fits (omega arith, λ _. begins) c.back.invariant.inside in
    record { some = is.some; fits = c.back.invariant.fits; rest_is_utf8 = is.rest_is_utf8; folds = is.folds }
