use Rattle.std.proofs.Common.{◌≡◌, ℕ, ◌*◌, ◌++◌, ◌∷◌, List, ℤ, pos, neg_ℤ, arith, rules, ap, ap₂, sym, subst, ◌∙◌, FitsSigned, w64, to_z-of_z}
use Rattle.std.specs.Prelude.{filter}
use Rattle.std.proofs.lemmas.Int.{ints}
use Rattle.cal_moment.specs.Calendar.{IsBetween}
use Rattle.cal_model.specs.Instances.Starts.{ascending}
use Rattle.cal_model.specs.Recurrence.NextPassing.{end_day}
use Rattle.cal_model.specs.Recurrence.RecurrenceSet.{Reading, first_moment}
use Rattle.cal_model.specs.Values.LocalTimes.{local_seconds, moment_of_local}
use Rattle.cal_model.specs.Walks.Clocks.{reading_by}
use Rattle.cal_model.specs.Walks.KeptMoments.{starts_by}
use Rattle.cal_model.specs.Walks.PickedRest.{still_given}
use Rattle.cal_model.proofs.Walks.KeptLemmas.{seconds_of_written}
use Rattle.override_merge.specs.Conversions.{tables_of}
use Rattle.rrule_sets.specs.CountedRows.{is_left, starts_of_walk}
use Rattle.rrule_sets.proofs.CountLemmas.{one_counted, too_many}
use Rattle.rrule_sets.proofs.DateStarts.{IsNearRow, near_instant, short_tables}
use Rattle.rrule_sets.proofs.count.with_moments.Goals as goal

pub moments-init : goal.moments-init
moments-init g c =
    let zones = tables_of c.args.zones.now in
    let left = is_left zones c.args.stamp c.args.taken.now in
    let reading = reading_by c.clock_beside-clock.result in
    record {
      picks = rw c.start_moment-start.ensures.value (c.requires.walk reading.dated);
      made = ap₂ (λ (m : ℕ) (clock : Reading). ascending (c.args.starts ++ filter left (starts_by clock (still_given c.args.rule.now m clock first_moment (86_400 * end_day) c.args.walk.now))))
          c.start_moment-start.ensures.value c.clock_beside-clock.ensures.reading;
    }

pub put_left-requires-clause-near : goal.put_left-requires-clause-near
put_left-requires-clause-near g c =
    let zones = tables_of c.args.zones.now in
    let written = rw c.in-Some.is at c.in_ok-m.ensures.written in
    let from = written.from_first in
    let to = written.to_last in
    let second = written.second_below in
    let digits : IsBetween (neg_ℤ (pos 1_150_000_000_000)) (pos 1_150_000_000_000) (local_seconds c.in-Some.m) = (omega (arith, ints, from, to, second), omega (arith, ints, from, to, second)) in
    let value = c.instant.ensures ∙ ap (λ (reading : Reading). reading.instant (local_seconds c.in-Some.m)) c.clock_beside-clock.ensures.reading in
    let near : IsNearRow c.instant.result = subst IsNearRow (sym value) (near_instant zones c.args.stamp (local_seconds c.in-Some.m) (short_tables c.args.zones.now) digits) in
    let fits : FitsSigned w64 c.instant.result = omega (arith, ints, near) in
    simp to_z-of_z near

pub returns-in_default-2 : goal.returns-in_default-2
returns-in_default-2 g c =
    let zones = tables_of c.args.zones.now in
    let left = is_left zones c.args.stamp c.args.taken.now in
    let reading = reading_by c.clock_beside-clock.result in
    let start = moment_of_local c.start_moment-start.result in
    let rest = starts_by reading (still_given c.args.rule.now start reading first_moment (86_400 * end_day) c.next_moment.new.walk) in
    let written = rw c.in-Some.is at c.in_ok-m.ensures.written in
    let next = rw c.in-Some.is at c.in_ok-m.ensures.next in
    let value = c.instant.ensures ∙ ap reading.instant (sym (seconds_of_written c.in-Some.m written)) in
    let fits : FitsSigned w64 c.instant.result = search (rules, c.instant.type_inv) in
    let put = simp to_z-of_z at c.in_ok-put_left.ensures in
    let whole = ascending (c.args.starts ++ filter left (starts_of_walk zones c.args.stamp c.args.rule.now c.args.walk.now)) in
    let all : ascending (c.moments.starts ++ filter left (c.instant.result ∷ rest)) ≡ whole =
    ap (λ (z : ℤ). ascending (c.moments.starts ++ filter left (z ∷ rest))) value
    ∙ (ap (λ (ms : List ℕ). ascending (c.moments.starts ++ filter left (starts_by reading ms))) (sym next) ∙ c.moments.invariant.made) in
    too_many c.args.room left c.moments.starts c.put_left.new.out c.instant.result rest whole put (rw c.in_default-2.is at c.in_ok-kept.ensures) all

pub moments-preserved : goal.moments-preserved
moments-preserved g c =
    let zones = tables_of c.args.zones.now in
    let left = is_left zones c.args.stamp c.args.taken.now in
    let reading = reading_by c.clock_beside-clock.result in
    let start = moment_of_local c.start_moment-start.result in
    let rest = starts_by reading (still_given c.args.rule.now start reading first_moment (86_400 * end_day) c.next_moment.new.walk) in
    let written = rw c.in-Some.is at c.in_ok-m.ensures.written in
    let next = rw c.in-Some.is at c.in_ok-m.ensures.next in
    let value = c.instant.ensures ∙ ap reading.instant (sym (seconds_of_written c.in-Some.m written)) in
    let fits : FitsSigned w64 c.instant.result = search (rules, c.instant.type_inv) in
    let put = simp to_z-of_z at c.in_ok-put_left.ensures in
    let whole = ascending (c.args.starts ++ filter left (starts_of_walk zones c.args.stamp c.args.rule.now c.args.walk.now)) in
    let all : ascending (c.moments.starts ++ filter left (c.instant.result ∷ rest)) ≡ whole =
    ap (λ (z : ℤ). ascending (c.moments.starts ++ filter left (z ∷ rest))) value
    ∙ (ap (λ (ms : List ℕ). ascending (c.moments.starts ++ filter left (starts_by reading ms))) (sym next) ∙ c.moments.invariant.made) in
    record {
      picks = c.in_ok-m.ensures.walk;
      made = one_counted left c.moments.starts c.put_left.new.out c.in-Some-2.kept c.instant.result rest whole put (rw c.in-Some-2.is at c.in_ok-kept.ensures) all;
    }
