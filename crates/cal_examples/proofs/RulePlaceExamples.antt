-- Places of faults in the texts of rules.
use Rattle.std.specs.Prelude.{refl, codes}
use Rattle.std.proofs.Common.{arith}
use Rattle.cal_model.specs.Values.ValueTexts.{count_of, integer_of, date_of, time_of, date_time_of}
use Rattle.cal_model.specs.Values.RuleTexts.{rule_in_grammar}
use Rattle.cal_model.specs.Values.BadValues.{IsBadRuleAt}
use Rattle.cal_model.proofs.Values.ValuePlaces.{bad_rule}

-- zeros in front may go on to a number: the text is bad at its end
count_zero : IsBadRuleAt (codes "FREQ=DAILY;COUNT=0") 18
unfolding rule_in_grammar count_of integer_of date_of time_of date_time_of
count_zero = bad_rule (codes "FREQ=DAILY;COUNT=0") 18 refl (omega arith) refl (λ more. absurd (omega (arith, more)))

-- but not the ninth of them
interval_zeros : IsBadRuleAt (codes "FREQ=DAILY;INTERVAL=0000000000") 28
unfolding rule_in_grammar count_of integer_of date_of time_of date_time_of
interval_zeros = bad_rule (codes "FREQ=DAILY;INTERVAL=0000000000") 28 refl (omega arith) refl (λ more. refl)

until_year : IsBadRuleAt (codes "FREQ=DAILY;UNTIL=1997") 21
unfolding rule_in_grammar count_of integer_of date_of time_of date_time_of
until_year = bad_rule (codes "FREQ=DAILY;UNTIL=1997") 21 refl (omega arith) refl (λ more. absurd (omega (arith, more)))

-- no day of February begins with 3
until_day : IsBadRuleAt (codes "FREQ=DAILY;UNTIL=20250230") 23
unfolding rule_in_grammar count_of integer_of date_of time_of date_time_of
until_day = bad_rule (codes "FREQ=DAILY;UNTIL=20250230") 23 refl (omega arith) refl (λ more. refl)

-- BYMONTH can stand by the week
month_day_by_week : IsBadRuleAt (codes "FREQ=WEEKLY;BYMONTHDAY=1") 19
unfolding rule_in_grammar count_of integer_of date_of time_of date_time_of
month_day_by_week = bad_rule (codes "FREQ=WEEKLY;BYMONTHDAY=1") 19 refl (omega arith) refl (λ more. refl)

-- days of the month do not stand by the week
month_day_before_week : IsBadRuleAt (codes "BYMONTHDAY=1;FREQ=WEEKLY") 18
unfolding rule_in_grammar count_of integer_of date_of time_of date_time_of
month_day_before_week = bad_rule (codes "BYMONTHDAY=1;FREQ=WEEKLY") 18 refl (omega arith) refl (λ more. refl)

-- no ordinal stands beside BYWEEKNO
ordinal_beside_week : IsBadRuleAt (codes "FREQ=YEARLY;BYWEEKNO=20;BYDAY=1MO") 30
unfolding rule_in_grammar count_of integer_of date_of time_of date_time_of
ordinal_beside_week = bad_rule (codes "FREQ=YEARLY;BYWEEKNO=20;BYDAY=1MO") 30 refl (omega arith) refl (λ more. refl)

-- and no BYWEEKNO beside an ordinal
week_beside_ordinal : IsBadRuleAt (codes "FREQ=YEARLY;BYDAY=1MO;BYWEEKNO=20") 24
unfolding rule_in_grammar count_of integer_of date_of time_of date_time_of
week_beside_ordinal = bad_rule (codes "FREQ=YEARLY;BYDAY=1MO;BYWEEKNO=20") 24 refl (omega arith) refl (λ more. refl)

-- nothing stands behind an empty part
two_empty : IsBadRuleAt (codes "FREQ=DAILY;;") 11
unfolding rule_in_grammar count_of integer_of date_of time_of date_time_of
two_empty = bad_rule (codes "FREQ=DAILY;;") 11 refl (omega arith) refl (λ more. refl)

empty_in_front : IsBadRuleAt (codes ";") 0
unfolding rule_in_grammar count_of integer_of date_of time_of date_time_of
empty_in_front = bad_rule (codes ";") 0 refl (omega arith) refl (λ more. refl)

-- an empty text is bad at its end
empty_text : IsBadRuleAt (codes "") 0
unfolding rule_in_grammar count_of integer_of date_of time_of date_time_of
empty_text = bad_rule (codes "") 0 refl (omega arith) refl (λ more. absurd (omega (arith, more)))

no_freq : IsBadRuleAt (codes "COUNT=1") 7
unfolding rule_in_grammar count_of integer_of date_of time_of date_time_of
no_freq = bad_rule (codes "COUNT=1") 7 refl (omega arith) refl (λ more. absurd (omega (arith, more)))

no_freq_after_part : IsBadRuleAt (codes "COUNT=1;") 8
unfolding rule_in_grammar count_of integer_of date_of time_of date_time_of
no_freq_after_part = bad_rule (codes "COUNT=1;") 8 refl (omega arith) refl (λ more. absurd (omega (arith, more)))

wrong_freq : IsBadRuleAt (codes "FREQ=MOTHLY") 7
unfolding rule_in_grammar count_of integer_of date_of time_of date_time_of
wrong_freq = bad_rule (codes "FREQ=MOTHLY") 7 refl (omega arith) refl (λ more. refl)

-- a rule has one FREQ
second_freq : IsBadRuleAt (codes "FREQ=DAILY;FREQ=DAILY") 11
unfolding rule_in_grammar count_of integer_of date_of time_of date_time_of
second_freq = bad_rule (codes "FREQ=DAILY;FREQ=DAILY") 11 refl (omega arith) refl (λ more. refl)

hour_24 : IsBadRuleAt (codes "FREQ=DAILY;BYHOUR=24") 19
unfolding rule_in_grammar count_of integer_of date_of time_of date_time_of
hour_24 = bad_rule (codes "FREQ=DAILY;BYHOUR=24") 19 refl (omega arith) refl (λ more. refl)

place_zero : IsBadRuleAt (codes "FREQ=YEARLY;BYSETPOS=0;BYDAY=MO") 22
unfolding rule_in_grammar count_of integer_of date_of time_of date_time_of
place_zero = bad_rule (codes "FREQ=YEARLY;BYSETPOS=0;BYDAY=MO") 22 refl (omega arith) refl (λ more. refl)

until_and_count : IsBadRuleAt (codes "FREQ=DAILY;UNTIL=19971224;COUNT=1") 26
unfolding rule_in_grammar count_of integer_of date_of time_of date_time_of
until_and_count = bad_rule (codes "FREQ=DAILY;UNTIL=19971224;COUNT=1") 26 refl (omega arith) refl (λ more. refl)

unknown : IsBadRuleAt (codes "FREQ=DAILY;BYEASTER=0") 13
unfolding rule_in_grammar count_of integer_of date_of time_of date_time_of
unknown = bad_rule (codes "FREQ=DAILY;BYEASTER=0") 13 refl (omega arith) refl (λ more. refl)

-- X-A is used, and a longer name is not
own_used : IsBadRuleAt (codes "FREQ=DAILY;X-A=1;x-a=2") 20
unfolding rule_in_grammar count_of integer_of date_of time_of date_time_of
own_used = bad_rule (codes "FREQ=DAILY;X-A=1;x-a=2") 20 refl (omega arith) refl (λ more. refl)

-- the bound on BYSETPOS refuses at 0
too_many_times : IsBadRuleAt (codes "FREQ=DAILY;BYHOUR=1,2,3,4,5;BYMINUTE=0,10,20,30,40;BYSETPOS=1") 0
unfolding rule_in_grammar count_of integer_of date_of time_of date_time_of
too_many_times = (refl, refl)
