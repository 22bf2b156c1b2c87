use Rattle.std.proofs.Common.{rules, ◌≡◌, ◌+◌, ◌*◌, ◌<◌, ◌++◌, ◌∙◌, sym, ap, arith, true, false, refl, to_z, of_z, w32}
use Rattle.std.specs.Prelude.{nat_le}
use Rattle.std.proofs.lemmas.List.{nil_from_length, append-nil}
use Rattle.std.proofs.lemmas.List.Elements.{All-head, All-tail}
use Rattle.cal_moment.specs.Calendar.{day_of_moment, second_of_day}
use Rattle.cal_model.specs.Values.LocalTimes.{moment_of_local}
use Rattle.cal_model.specs.Walks.Clocks.{reading_by}
use Rattle.cal_model.specs.Walks.KeptMoments.{if_there, moments_of}
use Rattle.cal_model.proofs.Walks.DayLemmas.{at_time, day_and_second, day_kept, kept_one, kept_times, times_small}
use Rattle.cal_model.proofs.walk.days.keep_day.Goals as goal

pub times-init : goal.times-init
times-init c = record {
  found = refl;
  small = (let times = c.requires.times in rw times (times_small c.args.rule.now (moment_of_local c.args.start) (reading_by c.args.clock.now) (reading_by c.args.clock.now).dated));
  written = λ all. all;
}

pub keep_if_there-requires-clause-written : goal.keep_if_there-requires-clause-written
keep_if_there-requires-clause-written c =
    let small = rw c.in-Some.ensures.cases.0 at c.times.invariant.small in
    let here = All-head (λ s. s < 86400) c.in-Some.second.now c.in-Some.behind.now small in
    let day : to_z w32 (of_z w32 c.args.m.day) ≡ c.args.m.day = search rules in
    record { from_first = rw day c.requires.written.from_first; to_last = rw day c.requires.written.to_last; second_below = here }

pub times-preserved-in_ok-keep_if_there : goal.times-preserved-in_ok-keep_if_there
times-preserved-in_ok-keep_if_there c =
    let m = c.args.m in
    let s = c.in-Some.second.now in
    let reading = reading_by c.args.clock.now in
    let parts = day_and_second m c.requires.written in
    let small = rw c.in-Some.ensures.cases.0 at c.times.invariant.small in
    let late : nat_le (second_of_day (moment_of_local m)) s ≡ true = (let from = c.if-second-m.true in let is = parts.1 in grind (arith, from, is)) in
    let day : to_z w32 (of_z w32 c.args.m.day) ≡ c.args.m.day = search rules in
    let at : moment_of_local (record { day = to_z w32 (of_z w32 c.args.m.day); second = s }) ≡ 86400 * day_of_moment (moment_of_local m) + s = (let is = parts.0 in rw day (omega (arith, is))) in
    let grown : moments_of c.keep_if_there.new.found ≡ moments_of c.times.found ++ at_time reading (86400 * day_of_moment (moment_of_local m)) (second_of_day (moment_of_local m)) s =
    rw late (c.in_ok-keep_if_there.ensures.found ∙ ap (λ k. moments_of c.times.found ++ if_there reading k) at) in
    record {
      found = kept_one reading (86400 * day_of_moment (moment_of_local m)) (second_of_day (moment_of_local m)) s c.times.rest.now c.in-Some.behind.now (moments_of c.times.found) (moments_of c.keep_if_there.new.found) (moments_of c.args.found.now ++ kept_times reading (86400 * day_of_moment (moment_of_local m)) (second_of_day (moment_of_local m)) c.args.times.now) c.in-Some.ensures.cases.0 c.times.invariant.found grown;
      small = All-tail (λ s. s < 86400) s c.in-Some.behind.now small;
      written = λ all. c.in_ok-keep_if_there.ensures.written (c.times.invariant.written all);
    }

pub times-preserved : goal.times-preserved
times-preserved c =
    let m = c.args.m in
    let s = c.in-Some.second.now in
    let reading = reading_by c.args.clock.now in
    let parts = day_and_second m c.requires.written in
    let small = rw c.in-Some.ensures.cases.0 at c.times.invariant.small in
    let early : nat_le (second_of_day (moment_of_local m)) s ≡ false = (let from = c.if-second-m.false in let is = parts.1 in grind (arith, from, is)) in
    let grown : moments_of c.times.found ≡ moments_of c.times.found ++ at_time reading (86400 * day_of_moment (moment_of_local m)) (second_of_day (moment_of_local m)) s =
    rw early (sym (append-nil (moments_of c.times.found))) in
    record {
      found = kept_one reading (86400 * day_of_moment (moment_of_local m)) (second_of_day (moment_of_local m)) s c.times.rest.now c.in-Some.behind.now (moments_of c.times.found) (moments_of c.times.found) (moments_of c.args.found.now ++ kept_times reading (86400 * day_of_moment (moment_of_local m)) (second_of_day (moment_of_local m)) c.args.times.now) c.in-Some.ensures.cases.0 c.times.invariant.found grown;
      small = All-tail (λ s. s < 86400) s c.in-Some.behind.now small;
      written = c.times.invariant.written;
    }

pub returns-clause-found : goal.returns-clause-found
returns-clause-found c =
    let m = c.args.m in
    let reading = reading_by c.args.clock.now in
    let none = nil_from_length c.times.rest.now c.in_default.ensures.cases in
    let whole = rw (none, append-nil) at c.times.invariant.found in
    let day = day_kept c.args.rule.now (moment_of_local c.args.start) reading (moment_of_local m) c.requires.coarse c.requires.whole c.requires.passing in
    whole ∙ ap (λ xs. moments_of c.args.found.now ++ xs) (ap (kept_times reading (86400 * day_of_moment (moment_of_local m)) (second_of_day (moment_of_local m))) c.requires.times ∙ day)
