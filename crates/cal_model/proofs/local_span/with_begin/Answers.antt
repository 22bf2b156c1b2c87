use Rattle.std.proofs.Common.{rules, subst, get_or, ◌-◌, ◌==◌, to_z-of_z, FitsSigned, w32, w64}
use Rattle.cal_model.specs.Conversions.Stretches.{no_onset}
use Rattle.cal_model.specs.Conversions.LocalSpans.{IsWith, begin_border}
use Rattle.cal_model.proofs.Conversions.SpanLemmas.{with_pushed, with_beyond}
use Rattle.cal_model.proofs.local_span.with_begin.Goals as goal

pub returns-in_ok-all-in-Some : goal.returns-in_ok-all-in-Some
returns-in_ok-all-in-Some c =
    let fits : FitsSigned w64 c.in-Some.border = search rules in
    let at_fits : FitsSigned w64 (get_or c.as_slice.result.now (c.args.k - 1) no_onset).at.0 = search rules in
    let offset_fits : FitsSigned w32 c.stretch_offset.result = search (rules, c.stretch_offset.type_inv) in
    let made = rw (to_z-of_z fits) at c.in_ok-all-in-Some.ensures in
    let some = rw (to_z-of_z at_fits, to_z-of_z offset_fits, c.as_slice.ensures, c.stretch_offset.ensures) at c.in-Some.ensures.some in
    subst (λ b. IsWith c.args.borders c.in_ok-all-in-Some.all (c.args.k == 0) b) some.0
    (with_pushed c.args.borders c.in_ok-all-in-Some.all (c.args.k == 0) c.in-Some.border made some.1)

pub returns-in-None : goal.returns-in-None
returns-in-None c =
    let at_fits : FitsSigned w64 (get_or c.as_slice.result.now (c.args.k - 1) no_onset).at.0 = search rules in
    let offset_fits : FitsSigned w32 c.stretch_offset.result = search (rules, c.stretch_offset.type_inv) in
    let none = rw (to_z-of_z at_fits, to_z-of_z offset_fits, c.as_slice.ensures, c.stretch_offset.ensures) at c.in-None.ensures.none in
    with_beyond c.args.borders (c.args.k == 0) (begin_border c.args.table.now c.args.k) none
