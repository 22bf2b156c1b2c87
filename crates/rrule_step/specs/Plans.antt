-- What a walk of a rule keeps of it and its start, and what it finds.
use Rattle.std.specs.Prelude.{◌≡◌, ℕ, ◌+◌, ◌*◌, ◌<◌, ◌≤◌, Bool, true, false}
use Rattle.cal_moment.specs.Calendar.{month_of}
use Rattle.cal_model.specs.declared.rule.Rule.{Rule}
use Rattle.cal_model.specs.Recurrence.Passing.{passes, period_number, month_passes, day_passes, time_passes}
use Rattle.cal_model.specs.Recurrence.NextPassing.{IsNextPassing}
use Rattle.rrule_step.specs.declared.step.Plan.{Plan}
use Rattle.rrule_step.specs.declared.step.PeriodPlan.{PeriodPlan}
use Rattle.rrule_step.specs.declared.step.Moment.{Moment}
use Rattle.rrule_step.specs.StartMoment.{moment_of}
use Rattle.rrule_step.specs.Clock.{in_day}
use Rattle.rrule_step.specs.DaySets.{AreDaySets}
use Rattle.rrule_step.specs.Sets.{has}

-- the plan is that of the rule and its own start
pub record IsPlan (rule : Rule) (plan : Plan) : Type 0 where
  pub first : plan.first ≡ period_number rule.freq rule.week_start (moment_of plan.start)
  pub times : (k : ℕ) → k < 86_400 → time_passes rule plan.start.second plan.dated k ≡ in_day plan.times.hours plan.times.minutes plan.times.seconds k
  pub missed : (day : ℕ) → has plan.months (month_of day) ≡ false → day_passes rule plan.start.day day ≡ false
  pub listed : (day : ℕ) → has plan.months (month_of day) ≡ true → month_passes rule day ≡ true
  pub days : AreDaySets rule plan.days

-- it is that of the rule and this start, and where nothing passes from the year 1 on that may be known
pub record IsReady (ready : PeriodPlan) (rule : Rule) (start : ℕ) (dated : Bool) : Type 0 where
  pub plan : IsPlan rule ready.plan
  pub begins : moment_of ready.plan.start ≡ start
  pub is_date : ready.plan.dated ≡ dated
  pub never : ready.never ≡ true → (m : ℕ) → 31_622_400 ≤ m → passes rule start dated m ≡ false

-- a second of a day passes
abbrev pub passes_on : Rule → Plan → ℕ → ℕ → Bool
passes_on rule plan day second = passes rule (moment_of plan.start) plan.dated (86_400 * day + second)

-- the next passing moment from one on
pub record IsFound (rule : Rule) (plan : Plan) (from found : Moment) : Type 0 where
  pub from_first : 366 ≤ found.day
  pub before_end : found.day < 767_740
  pub second_below : found.second < 86_400
  pub next : IsNextPassing rule (moment_of plan.start) plan.dated (86_400 * from.day + from.second) (86_400 * found.day + found.second)
