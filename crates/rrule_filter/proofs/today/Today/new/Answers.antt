use Rattle.std.proofs.Common.{refl, arith}
use Rattle.cal_model.proofs.Recurrence.DayTimes.{year_first, year_last, year_end}
use Rattle.cal_moment.specs.Calendar.{year_of}
use Rattle.rrule_filter.proofs.today.Today.new.Goals as goal

pub invariant_of-result : goal.invariant_of-result
invariant_of-result c =
    let date = c.date_of-year.ensures in
    let from = year_first c.args.day in
    let to = year_last c.args.day in
    let end = year_end (year_of c.args.day) in
    record {
      day_is = (c.requires.from, c.requires.to);
      year_is = date.year;
      month_is = date.month;
      of_month_is = date.of_month;
      of_year_is = rw (c.first_of_year.ensures, date.year) refl;
      year_bound = omega (arith, date.bounds);
      of_month_bound = omega (arith, date.bounds);
      of_year_bound = rw (c.first_of_year.ensures, date.year) (omega (arith, from, to, end));
    }
