-- Each row of the table of a rule's parts: how its front goes on, and what it keeps of a rule.
use Rattle.std.proofs.Common.{◌≡◌, ℕ, List, [], ◌∷◌, ◌++◌, length, drop, find, bytes_eq, codes, Some, is_some, option_map, pos, refl, sym, ap, subst, ◌∙◌, arith, ◌⊎◌, inl, inr}
use Rattle.std.proofs.lemmas.Bool.{false≢true}
use Rattle.cal_base.specs.Texts.Text.{raised_all}
use Rattle.cal_model.specs.declared.rule.Freq.{Freq}
use Rattle.cal_model.specs.declared.rule.Freq.TheVariants.{Secondly, Minutely, Hourly, Daily, Weekly, Monthly, Yearly}
use Rattle.cal_model.specs.declared.rule.Rule.{Rule}
use Rattle.cal_model.specs.declared.rule.Until.{Until}
use Rattle.cal_model.specs.Values.ValueTexts.{count_of, integer_of, date_of, time_of, date_time_of}
use Rattle.cal_model.proofs.Values.CutLemmas.{option_map_some}
use Rattle.cal_model.proofs.Values.DayFronts.{word_row, weekday_fronts, DayBelow, day_fronts}
use Rattle.cal_model.proofs.Values.ListFronts.{IsAmong, Anything, list_fronts, number_fronts, place_fronts, second_fronts}
use Rattle.cal_model.proofs.Values.UntilFronts.{first_pattern, second_pattern, until_front}
use Rattle.cal_base.specs.Texts.Text.{raised}
use Rattle.cal_moment.specs.Calendar.{day_of_date, day_since_1970}
use Rattle.cal_model.specs.declared.rule.Until.TheVariants.{Local as UntilLocal}
use Rattle.cal_model.specs.Values.RuleTexts.{freq_of, frequencies, number_of, weekday_named, place_number, second_number, day_of, until_of, list_of, has_some, meanings}
use Rattle.cal_model.proofs.Values.RuleRows.{Implies, Lesser, lesser_same, list_is_some, below_is_some, days_below, Effect, Row, whole_parts, Instead, IsEndOf, RowFront, putting, put_row}

-- Numbers, days and lists

interval_sample : (number_of 1 999999999) (codes "1") ≡ Some (1)
unfolding count_of integer_of
interval_sample = refl

interval_row : RowFront (codes "INTERVAL", putting (λ x rule. record rule { interval = x }) (number_of 1 999999999))
interval_row = put_row (codes "INTERVAL") (λ x rule. record rule { interval = x }) (number_of 1 999999999) (record {
  upper = refl;
  named = refl;
  other = refl;
  sample = codes "1";
  tried = inr (inr (inr (inr (inr (inr (inr (inr (inr (inl refl)))))))));
  value = 1;
  reads = interval_sample;
  first = λ text x rule e. record { freq = refl; count = λ e. e; until = λ e. e; weeks = λ e. e; year_days = λ e. e; month_days = λ e. e; ordinals = λ e. e };
  lesser = λ y x rule below. record { freq = refl; count = λ e. e; until = λ e. e; weeks = λ e. e; year_days = λ e. e; month_days = λ e. e; ordinals = λ e. e };
  fronts = number_fronts 1 999999999 (omega arith) (omega arith);
})

count_sample : (number_of 1 999999999) (codes "1") ≡ Some (1)
unfolding count_of integer_of
count_sample = refl

count_row : RowFront (codes "COUNT", putting (λ x rule. record rule { count = Some x }) (number_of 1 999999999))
count_row = put_row (codes "COUNT") (λ x rule. record rule { count = Some x }) (number_of 1 999999999) (record {
  upper = refl;
  named = refl;
  other = refl;
  sample = codes "1";
  tried = inr (inr (inr (inr (inr (inr (inr (inr (inr (inr (inl refl))))))))));
  value = 1;
  reads = count_sample;
  first = λ text x rule e. record { freq = refl; count = λ _. refl; until = λ e. e; weeks = λ e. e; year_days = λ e. e; month_days = λ e. e; ordinals = λ e. e };
  lesser = λ y x rule below. record { freq = refl; count = λ _. refl; until = λ e. e; weeks = λ e. e; year_days = λ e. e; month_days = λ e. e; ordinals = λ e. e };
  fronts = number_fronts 1 999999999 (omega arith) (omega arith);
})

week_start_sample : weekday_named (codes "MO") ≡ Some (0)
unfolding count_of integer_of
week_start_sample = refl

week_start_row : RowFront (codes "WKST", putting (λ x rule. record rule { week_start = x }) weekday_named)
week_start_row = put_row (codes "WKST") (λ x rule. record rule { week_start = x }) weekday_named (record {
  upper = refl;
  named = refl;
  other = refl;
  sample = codes "MO";
  tried = inr (inr (inr (inr (inr (inr (inr (inr (inr (inr (inr (inl refl)))))))))));
  value = 0;
  reads = week_start_sample;
  first = λ text x rule e. record { freq = refl; count = λ e. e; until = λ e. e; weeks = λ e. e; year_days = λ e. e; month_days = λ e. e; ordinals = λ e. e };
  lesser = λ y x rule below. record { freq = refl; count = λ e. e; until = λ e. e; weeks = λ e. e; year_days = λ e. e; month_days = λ e. e; ordinals = λ e. e };
  fronts = weekday_fronts;
})

month_sample : (list_of (number_of 1 12)) (codes "1") ≡ Some (1 ∷ [])
unfolding count_of integer_of
month_sample = refl

month_row : RowFront (codes "BYMONTH", putting (λ x rule. record rule { by_month = x }) (list_of (number_of 1 12)))
month_row = put_row (codes "BYMONTH") (λ x rule. record rule { by_month = x }) (list_of (number_of 1 12)) (record {
  upper = refl;
  named = refl;
  other = refl;
  sample = codes "1";
  tried = inr (inr (inr (inr (inr (inr (inr (inr (inr (inr (inr (inr (inl refl))))))))))));
  value = 1 ∷ [];
  reads = month_sample;
  first = λ text x rule e. record { freq = refl; count = λ e. e; until = λ e. e; weeks = λ e. e; year_days = λ e. e; month_days = λ e. e; ordinals = λ e. e };
  lesser = λ y x rule below. record { freq = refl; count = λ e. e; until = λ e. e; weeks = λ e. e; year_days = λ e. e; month_days = λ e. e; ordinals = λ e. e };
  fronts = list_fronts (number_of 1 12) Anything (number_fronts 1 12 (omega arith) (omega arith));
})

week_sample : (list_of (place_number 53)) (codes "1") ≡ Some (pos 1 ∷ [])
unfolding count_of integer_of
week_sample = refl

week_row : RowFront (codes "BYWEEKNO", putting (λ x rule. record rule { by_week = x }) (list_of (place_number 53)))
week_row = put_row (codes "BYWEEKNO") (λ x rule. record rule { by_week = x }) (list_of (place_number 53)) (record {
  upper = refl;
  named = refl;
  other = refl;
  sample = codes "1";
  tried = inr (inr (inr (inr (inr (inr (inr (inr (inr (inr (inr (inr (inr (inl refl)))))))))))));
  value = pos 1 ∷ [];
  reads = week_sample;
  first = λ text x rule e. record { freq = refl; count = λ e. e; until = λ e. e; weeks = λ _. list_is_some (place_number 53) text x e; year_days = λ e. e; month_days = λ e. e; ordinals = λ e. e };
  lesser = λ y x rule below. record { freq = refl; count = λ e. e; until = λ e. e; weeks = λ _. below_is_some y x below; year_days = λ e. e; month_days = λ e. e; ordinals = λ e. e };
  fronts = list_fronts (place_number 53) Anything (place_fronts 53 (omega arith));
})

year_day_sample : (list_of (place_number 366)) (codes "1") ≡ Some (pos 1 ∷ [])
unfolding count_of integer_of
year_day_sample = refl

year_day_row : RowFront (codes "BYYEARDAY", putting (λ x rule. record rule { by_year_day = x }) (list_of (place_number 366)))
year_day_row = put_row (codes "BYYEARDAY") (λ x rule. record rule { by_year_day = x }) (list_of (place_number 366)) (record {
  upper = refl;
  named = refl;
  other = refl;
  sample = codes "1";
  tried = inr (inr (inr (inr (inr (inr (inr (inr (inr (inr (inr (inr (inr (inr (inl refl))))))))))))));
  value = pos 1 ∷ [];
  reads = year_day_sample;
  first = λ text x rule e. record { freq = refl; count = λ e. e; until = λ e. e; weeks = λ e. e; year_days = λ _. list_is_some (place_number 366) text x e; month_days = λ e. e; ordinals = λ e. e };
  lesser = λ y x rule below. record { freq = refl; count = λ e. e; until = λ e. e; weeks = λ e. e; year_days = λ _. below_is_some y x below; month_days = λ e. e; ordinals = λ e. e };
  fronts = list_fronts (place_number 366) Anything (place_fronts 366 (omega arith));
})

month_day_sample : (list_of (place_number 31)) (codes "1") ≡ Some (pos 1 ∷ [])
unfolding count_of integer_of
month_day_sample = refl

month_day_row : RowFront (codes "BYMONTHDAY", putting (λ x rule. record rule { by_month_day = x }) (list_of (place_number 31)))
month_day_row = put_row (codes "BYMONTHDAY") (λ x rule. record rule { by_month_day = x }) (list_of (place_number 31)) (record {
  upper = refl;
  named = refl;
  other = refl;
  sample = codes "1";
  tried = inr (inr (inr (inr (inr (inr (inr (inr (inr (inr (inr (inr (inr (inr (inr (inl refl)))))))))))))));
  value = pos 1 ∷ [];
  reads = month_day_sample;
  first = λ text x rule e. record { freq = refl; count = λ e. e; until = λ e. e; weeks = λ e. e; year_days = λ e. e; month_days = λ _. list_is_some (place_number 31) text x e; ordinals = λ e. e };
  lesser = λ y x rule below. record { freq = refl; count = λ e. e; until = λ e. e; weeks = λ e. e; year_days = λ e. e; month_days = λ _. below_is_some y x below; ordinals = λ e. e };
  fronts = list_fronts (place_number 31) Anything (place_fronts 31 (omega arith));
})

day_sample : (list_of day_of) (codes "MO") ≡ Some (record { ordinal = pos 0; weekday = 0 } ∷ [])
unfolding count_of integer_of
day_sample = refl

day_row : RowFront (codes "BYDAY", putting (λ x rule. record rule { by_day = x }) (list_of day_of))
day_row = put_row (codes "BYDAY") (λ x rule. record rule { by_day = x }) (list_of day_of) (record {
  upper = refl;
  named = refl;
  other = refl;
  sample = codes "MO";
  tried = inr (inr (inr (inr (inr (inr (inr (inr (inr (inr (inr (inr (inr (inr (inr (inr (inl refl))))))))))))))));
  value = record { ordinal = pos 0; weekday = 0 } ∷ [];
  reads = day_sample;
  first = λ text x rule e. record { freq = refl; count = λ e. e; until = λ e. e; weeks = λ e. e; year_days = λ e. e; month_days = λ e. e; ordinals = λ f. absurd (false≢true f) };
  lesser = λ y x rule below. record { freq = refl; count = λ e. e; until = λ e. e; weeks = λ e. e; year_days = λ e. e; month_days = λ e. e; ordinals = days_below y x below };
  fronts = list_fronts day_of DayBelow day_fronts;
})

hour_sample : (list_of (number_of 0 23)) (codes "1") ≡ Some (1 ∷ [])
unfolding count_of integer_of
hour_sample = refl

hour_row : RowFront (codes "BYHOUR", putting (λ x rule. record rule { by_hour = x }) (list_of (number_of 0 23)))
hour_row = put_row (codes "BYHOUR") (λ x rule. record rule { by_hour = x }) (list_of (number_of 0 23)) (record {
  upper = refl;
  named = refl;
  other = refl;
  sample = codes "1";
  tried = inr (inr (inr (inr (inr (inr (inr (inr (inr (inr (inr (inr (inr (inr (inr (inr (inr (inl refl)))))))))))))))));
  value = 1 ∷ [];
  reads = hour_sample;
  first = λ text x rule e. record { freq = refl; count = λ e. e; until = λ e. e; weeks = λ e. e; year_days = λ e. e; month_days = λ e. e; ordinals = λ e. e };
  lesser = λ y x rule below. record { freq = refl; count = λ e. e; until = λ e. e; weeks = λ e. e; year_days = λ e. e; month_days = λ e. e; ordinals = λ e. e };
  fronts = list_fronts (number_of 0 23) Anything (number_fronts 0 23 (omega arith) (omega arith));
})

minute_sample : (list_of (number_of 0 59)) (codes "1") ≡ Some (1 ∷ [])
unfolding count_of integer_of
minute_sample = refl

minute_row : RowFront (codes "BYMINUTE", putting (λ x rule. record rule { by_minute = x }) (list_of (number_of 0 59)))
minute_row = put_row (codes "BYMINUTE") (λ x rule. record rule { by_minute = x }) (list_of (number_of 0 59)) (record {
  upper = refl;
  named = refl;
  other = refl;
  sample = codes "1";
  tried = inr (inr (inr (inr (inr (inr (inr (inr (inr (inr (inr (inr (inr (inr (inr (inr (inr (inr (inl refl))))))))))))))))));
  value = 1 ∷ [];
  reads = minute_sample;
  first = λ text x rule e. record { freq = refl; count = λ e. e; until = λ e. e; weeks = λ e. e; year_days = λ e. e; month_days = λ e. e; ordinals = λ e. e };
  lesser = λ y x rule below. record { freq = refl; count = λ e. e; until = λ e. e; weeks = λ e. e; year_days = λ e. e; month_days = λ e. e; ordinals = λ e. e };
  fronts = list_fronts (number_of 0 59) Anything (number_fronts 0 59 (omega arith) (omega arith));
})

second_sample : (list_of second_number) (codes "1") ≡ Some (1 ∷ [])
unfolding count_of integer_of
second_sample = refl

second_row : RowFront (codes "BYSECOND", putting (λ x rule. record rule { by_second = x }) (list_of second_number))
second_row = put_row (codes "BYSECOND") (λ x rule. record rule { by_second = x }) (list_of second_number) (record {
  upper = refl;
  named = refl;
  other = refl;
  sample = codes "1";
  tried = inr (inr (inr (inr (inr (inr (inr (inr (inr (inr (inr (inr (inr (inr (inr (inr (inr (inr (inr (inl refl)))))))))))))))))));
  value = 1 ∷ [];
  reads = second_sample;
  first = λ text x rule e. record { freq = refl; count = λ e. e; until = λ e. e; weeks = λ e. e; year_days = λ e. e; month_days = λ e. e; ordinals = λ e. e };
  lesser = λ y x rule below. record { freq = refl; count = λ e. e; until = λ e. e; weeks = λ e. e; year_days = λ e. e; month_days = λ e. e; ordinals = λ e. e };
  fronts = list_fronts second_number Anything (second_fronts);
})

set_pos_sample : (list_of (place_number 366)) (codes "1") ≡ Some (pos 1 ∷ [])
unfolding count_of integer_of
set_pos_sample = refl

set_pos_row : RowFront (codes "BYSETPOS", putting (λ x rule. record rule { by_set_pos = x }) (list_of (place_number 366)))
set_pos_row = put_row (codes "BYSETPOS") (λ x rule. record rule { by_set_pos = x }) (list_of (place_number 366)) (record {
  upper = refl;
  named = refl;
  other = refl;
  sample = codes "1";
  tried = inr (inr (inr (inr (inr (inr (inr (inr (inr (inr (inr (inr (inr (inr (inr (inr (inr (inr (inr (inr (inl refl))))))))))))))))))));
  value = pos 1 ∷ [];
  reads = set_pos_sample;
  first = λ text x rule e. record { freq = refl; count = λ e. e; until = λ e. e; weeks = λ e. e; year_days = λ e. e; month_days = λ e. e; ordinals = λ e. e };
  lesser = λ y x rule below. record { freq = refl; count = λ e. e; until = λ e. e; weeks = λ e. e; year_days = λ e. e; month_days = λ e. e; ordinals = λ e. e };
  fronts = list_fronts (place_number 366) Anything (place_fronts 366 (omega arith));
})

-- UNTIL

until_sample : (u : Until) × (until_of first_pattern ≡ Some u)
unfolding date_of date_time_of time_of
until_sample = (UntilLocal (record { day = day_since_1970 (day_of_date 4 1 1); second = 0 }), refl)

until_row : RowFront (codes "UNTIL", putting (λ x rule. record rule { until = Some x }) until_of)
until_row = record { upper = refl; named = refl; whole = λ value rule r e. whole value rule r e; goes_on = λ front h rule r e. goes_on front h rule r e }
  where
    less : (y x : Until) (rule : Rule) → Lesser (record rule { until = Some y }) (record rule { until = Some x })
    less y x rule = record { freq = refl; count = λ e. e; until = λ _. refl; weeks = λ e. e; year_days = λ e. e; month_days = λ e. e; ordinals = λ e. e }

    whole : (value : List ℕ) (rule r : Rule) → putting (λ x rule. record rule { until = Some x }) until_of value rule ≡ Some r → (text : List ℕ) × IsAmong (codes "UNTIL" ++ (61 ∷ text)) whole_parts × Instead (codes "UNTIL", putting (λ x rule. record rule { until = Some x }) until_of) value rule r text
    whole value rule r e =
        let x = option_map_some (λ x. record rule { until = Some x }) (until_of value) r e in (
          first_pattern,
          inr (inr (inr (inr (inr (inr (inr (inl refl))))))),
          record {
            result = record rule { until = Some until_sample.0 };
            puts = ap (option_map (λ (x : Until). record rule { until = Some x })) until_sample.1;
            lesser = subst (λ (s : Rule). Lesser (record rule { until = Some until_sample.0 }) s) x.2 (less until_sample.0 x.0 rule);
            freq = inr refl;
          },
        )

    end_of : (front end : List ℕ) → (end ≡ drop (length front) first_pattern) ⊎ (end ≡ drop (length front) second_pattern) → IsEndOf (codes "UNTIL") front end
    end_of front end is = elim is [ inl e ↦ inr (first_pattern, inr (inr (inr (inr (inr (inr (inr (inl refl))))))), e) | inr e ↦ inr (second_pattern, inr (inr (inr (inr (inr (inr (inr (inr (inl refl)))))))), e) ]

    goes_on : (front h : List ℕ) (rule r : Rule) → putting (λ x rule. record rule { until = Some x }) until_of (front ++ h) rule ≡ Some r → (end : List ℕ) × IsEndOf (codes "UNTIL") front end × Instead (codes "UNTIL", putting (λ x rule. record rule { until = Some x }) until_of) (front ++ h) rule r (front ++ end)
    goes_on front h rule r e =
        let x = option_map_some (λ x. record rule { until = Some x }) (until_of (front ++ h)) r e in
        let u = until_front front h x.0 x.1 in (
          u.end,
          end_of front u.end u.is_end,
          record {
            result = record rule { until = Some u.value };
            puts = ap (option_map (λ (x : Until). record rule { until = Some x })) u.reads;
            lesser = subst (λ (s : Rule). Lesser (record rule { until = Some u.value }) s) x.2 (less u.value x.0 rule);
            freq = inr refl;
          },
        )

-- FREQ

-- the word of a frequency
abbrev pub freq_word : Freq → List ℕ
freq_word Secondly = codes "SECONDLY"
freq_word Minutely = codes "MINUTELY"
freq_word Hourly = codes "HOURLY"
freq_word Daily = codes "DAILY"
freq_word Weekly = codes "WEEKLY"
freq_word Monthly = codes "MONTHLY"
freq_word Yearly = codes "YEARLY"

pub freq_tried : (f : Freq) → IsAmong (codes "FREQ=" ++ freq_word f) whole_parts
freq_tried Secondly = inl refl
freq_tried Minutely = inr (inl refl)
freq_tried Hourly = inr (inr (inl refl))
freq_tried Daily = inr (inr (inr (inl refl)))
freq_tried Weekly = inr (inr (inr (inr (inl refl))))
freq_tried Monthly = inr (inr (inr (inr (inr (inl refl)))))
freq_tried Yearly = inr (inr (inr (inr (inr (inr (inl refl))))))

pub freq_upper : (f : Freq) → raised_all (freq_word f) ≡ freq_word f
freq_upper Secondly = refl
freq_upper Minutely = refl
freq_upper Hourly = refl
freq_upper Daily = refl
freq_upper Weekly = refl
freq_upper Monthly = refl
freq_upper Yearly = refl

pub freq_of-word : (f : Freq) → freq_of (freq_word f) ≡ Some f
freq_of-word Secondly = refl
freq_of-word Minutely = refl
freq_of-word Hourly = refl
freq_of-word Daily = refl
freq_of-word Weekly = refl
freq_of-word Monthly = refl
freq_of-word Yearly = refl

raised-freq : (text : List ℕ) (f : Freq) → freq_of text ≡ Some f → raised_all text ≡ freq_word f
raised-freq text f e = elim (word_row frequencies text f e) [
  | inl is ↦ (is.0 ∙ ap freq_word is.1)
  | inr (inl is) ↦ (is.0 ∙ ap freq_word is.1)
  | inr (inr (inl is)) ↦ (is.0 ∙ ap freq_word is.1)
  | inr (inr (inr (inl is))) ↦ (is.0 ∙ ap freq_word is.1)
  | inr (inr (inr (inr (inl is)))) ↦ (is.0 ∙ ap freq_word is.1)
  | inr (inr (inr (inr (inr (inl is))))) ↦ (is.0 ∙ ap freq_word is.1)
  | inr (inr (inr (inr (inr (inr (inl is)))))) ↦ (is.0 ∙ ap freq_word is.1)
  | inr (inr (inr (inr (inr (inr (inr (none))))))) ↦ absurd none
]

-- texts that are raised to one text are one frequency
freq_by_raised : (a b : List ℕ) → raised_all a ≡ raised_all b → freq_of a ≡ freq_of b
freq_by_raised a b e = ap (λ t. option_map (λ (row : List ℕ × Freq). row.1) (find (λ (row : List ℕ × Freq). bytes_eq row.0 t) frequencies)) e

-- the front of a word in any case, with the rest of the word
raised_front : (front h : List ℕ) → raised_all (raised_all (front ++ h)) ≡ raised_all (front ++ h) → raised_all (front ++ drop (length front) (raised_all (front ++ h))) ≡ raised_all (front ++ h)
raised_front [] h e = e
raised_front (c ∷ front) h e = ap (λ t. raised c ∷ t) (raised_front front h (ap (drop 1) e))

pub raised_with : (front h word : List ℕ) → raised_all (front ++ h) ≡ word → raised_all word ≡ word → raised_all (front ++ drop (length front) word) ≡ word
raised_with front h word e upper =
    ap (λ w. raised_all (front ++ drop (length front) w)) (sym e) ∙ (raised_front front h (ap raised_all e ∙ (upper ∙ sym e)) ∙ e)

abbrev freq_effect : Effect
freq_effect text rule = option_map (λ freq. rule) (freq_of text)

freq_row : RowFront (codes "FREQ", freq_effect)
freq_row = record { upper = refl; named = refl; whole = λ value rule r e. whole value rule r e; goes_on = λ front h rule r e. goes_on front h rule r e }
  where
    whole : (value : List ℕ) (rule r : Rule) → freq_effect value rule ≡ Some r → (text : List ℕ) × IsAmong (codes "FREQ" ++ (61 ∷ text)) whole_parts × Instead (codes "FREQ", freq_effect) value rule r text
    whole value rule r e =
        let f = option_map_some (λ freq. rule) (freq_of value) r e in (
          freq_word f.0,
          freq_tried f.0,
          record {
            result = rule;
            puts = ap (option_map (λ freq. rule)) (freq_of-word f.0);
            lesser = subst (λ (s : Rule). Lesser rule s) f.2 (lesser_same rule);
            freq = inl (freq_of-word f.0 ∙ sym f.1);
          },
        )

    goes_on : (front h : List ℕ) (rule r : Rule) → freq_effect (front ++ h) rule ≡ Some r → (end : List ℕ) × IsEndOf (codes "FREQ") front end × Instead (codes "FREQ", freq_effect) (front ++ h) rule r (front ++ end)
    goes_on front h rule r e =
        let f = option_map_some (λ freq. rule) (freq_of (front ++ h)) r e in
        let word = freq_word f.0 in
        let raised_is = raised-freq (front ++ h) f.0 f.1 in
        let same = freq_by_raised (front ++ drop (length front) word) (front ++ h) (raised_with front h word raised_is (freq_upper f.0) ∙ sym raised_is) in (
          drop (length front) word,
          inr (word, freq_tried f.0, refl),
          record {
            result = rule;
            puts = ap (option_map (λ freq. rule)) (same ∙ f.1);
            lesser = subst (λ (s : Rule). Lesser rule s) f.2 (lesser_same rule);
            freq = inl same;
          },
        )

-- All rows

abbrev pub HoldsOfRows : (Row → Type 0) → List Row → Type 0
HoldsOfRows P [] = Unit {0}
HoldsOfRows P (row ∷ rows) = P row × HoldsOfRows P rows

pub rows_go_on : HoldsOfRows RowFront meanings
rows_go_on = (freq_row, (interval_row, (count_row, (until_row, (week_start_row, (month_row, (week_row, (year_day_row, (month_day_row, (day_row, (hour_row, (minute_row, (second_row, (set_pos_row, tt))))))))))))))

-- What a row leaves in a rule

-- what the first rule has of what others refuse, the second has too, ordinals aside
pub record Keeps (r s : Rule) : Type 0 where
  pub freq : r.freq ≡ s.freq
  pub count : Implies (is_some r.count) (is_some s.count)
  pub until : Implies (is_some r.until) (is_some s.until)
  pub weeks : Implies (has_some r.by_week) (has_some s.by_week)
  pub year_days : Implies (has_some r.by_year_day) (has_some s.by_year_day)
  pub month_days : Implies (has_some r.by_month_day) (has_some s.by_month_day)

-- a part that is put in keeps what is refused, and all but BYDAY keep the days
pub record Grows (row : Row) (rule r : Rule) : Type 0 where
  pub keeps : Keeps rule r
  pub days : (row.0 ≡ codes "BYDAY") ⊎ (r.by_day ≡ rule.by_day)

abbrev pub RowGrows : Row → Type 0
RowGrows row = (value : List ℕ) (rule r : Rule) → row.1 value rule ≡ Some r → Grows row rule r

interval_grows : RowGrows (codes "INTERVAL", putting (λ x rule. record rule { interval = x }) (number_of 1 999999999))
interval_grows value rule r e =
    let x = option_map_some (λ x. record rule { interval = x }) ((number_of 1 999999999) value) r e in
    subst (λ (s : Rule). Grows (codes "INTERVAL", putting (λ x rule. record rule { interval = x }) (number_of 1 999999999)) rule s) x.2
    (record { keeps = record { freq = refl; count = λ e. e; until = λ e. e; weeks = λ e. e; year_days = λ e. e; month_days = λ e. e }; days = inr refl })

count_grows : RowGrows (codes "COUNT", putting (λ x rule. record rule { count = Some x }) (number_of 1 999999999))
count_grows value rule r e =
    let x = option_map_some (λ x. record rule { count = Some x }) ((number_of 1 999999999) value) r e in
    subst (λ (s : Rule). Grows (codes "COUNT", putting (λ x rule. record rule { count = Some x }) (number_of 1 999999999)) rule s) x.2
    (record { keeps = record { freq = refl; count = λ _. refl; until = λ e. e; weeks = λ e. e; year_days = λ e. e; month_days = λ e. e }; days = inr refl })

until_grows : RowGrows (codes "UNTIL", putting (λ x rule. record rule { until = Some x }) until_of)
until_grows value rule r e =
    let x = option_map_some (λ x. record rule { until = Some x }) (until_of value) r e in
    subst (λ (s : Rule). Grows (codes "UNTIL", putting (λ x rule. record rule { until = Some x }) until_of) rule s) x.2
    (record { keeps = record { freq = refl; count = λ e. e; until = λ _. refl; weeks = λ e. e; year_days = λ e. e; month_days = λ e. e }; days = inr refl })

week_start_grows : RowGrows (codes "WKST", putting (λ x rule. record rule { week_start = x }) weekday_named)
week_start_grows value rule r e =
    let x = option_map_some (λ x. record rule { week_start = x }) (weekday_named value) r e in
    subst (λ (s : Rule). Grows (codes "WKST", putting (λ x rule. record rule { week_start = x }) weekday_named) rule s) x.2
    (record { keeps = record { freq = refl; count = λ e. e; until = λ e. e; weeks = λ e. e; year_days = λ e. e; month_days = λ e. e }; days = inr refl })

month_grows : RowGrows (codes "BYMONTH", putting (λ x rule. record rule { by_month = x }) (list_of (number_of 1 12)))
month_grows value rule r e =
    let x = option_map_some (λ x. record rule { by_month = x }) ((list_of (number_of 1 12)) value) r e in
    subst (λ (s : Rule). Grows (codes "BYMONTH", putting (λ x rule. record rule { by_month = x }) (list_of (number_of 1 12))) rule s) x.2
    (record { keeps = record { freq = refl; count = λ e. e; until = λ e. e; weeks = λ e. e; year_days = λ e. e; month_days = λ e. e }; days = inr refl })

week_grows : RowGrows (codes "BYWEEKNO", putting (λ x rule. record rule { by_week = x }) (list_of (place_number 53)))
week_grows value rule r e =
    let x = option_map_some (λ x. record rule { by_week = x }) ((list_of (place_number 53)) value) r e in
    subst (λ (s : Rule). Grows (codes "BYWEEKNO", putting (λ x rule. record rule { by_week = x }) (list_of (place_number 53))) rule s) x.2
    (record { keeps = record { freq = refl; count = λ e. e; until = λ e. e; weeks = λ _. list_is_some (place_number 53) value x.0 x.1; year_days = λ e. e; month_days = λ e. e }; days = inr refl })

year_day_grows : RowGrows (codes "BYYEARDAY", putting (λ x rule. record rule { by_year_day = x }) (list_of (place_number 366)))
year_day_grows value rule r e =
    let x = option_map_some (λ x. record rule { by_year_day = x }) ((list_of (place_number 366)) value) r e in
    subst (λ (s : Rule). Grows (codes "BYYEARDAY", putting (λ x rule. record rule { by_year_day = x }) (list_of (place_number 366))) rule s) x.2
    (record { keeps = record { freq = refl; count = λ e. e; until = λ e. e; weeks = λ e. e; year_days = λ _. list_is_some (place_number 366) value x.0 x.1; month_days = λ e. e }; days = inr refl })

month_day_grows : RowGrows (codes "BYMONTHDAY", putting (λ x rule. record rule { by_month_day = x }) (list_of (place_number 31)))
month_day_grows value rule r e =
    let x = option_map_some (λ x. record rule { by_month_day = x }) ((list_of (place_number 31)) value) r e in
    subst (λ (s : Rule). Grows (codes "BYMONTHDAY", putting (λ x rule. record rule { by_month_day = x }) (list_of (place_number 31))) rule s) x.2
    (record { keeps = record { freq = refl; count = λ e. e; until = λ e. e; weeks = λ e. e; year_days = λ e. e; month_days = λ _. list_is_some (place_number 31) value x.0 x.1 }; days = inr refl })

day_grows : RowGrows (codes "BYDAY", putting (λ x rule. record rule { by_day = x }) (list_of day_of))
day_grows value rule r e =
    let x = option_map_some (λ x. record rule { by_day = x }) ((list_of day_of) value) r e in
    subst (λ (s : Rule). Grows (codes "BYDAY", putting (λ x rule. record rule { by_day = x }) (list_of day_of)) rule s) x.2
    (record { keeps = record { freq = refl; count = λ e. e; until = λ e. e; weeks = λ e. e; year_days = λ e. e; month_days = λ e. e }; days = inl refl })

hour_grows : RowGrows (codes "BYHOUR", putting (λ x rule. record rule { by_hour = x }) (list_of (number_of 0 23)))
hour_grows value rule r e =
    let x = option_map_some (λ x. record rule { by_hour = x }) ((list_of (number_of 0 23)) value) r e in
    subst (λ (s : Rule). Grows (codes "BYHOUR", putting (λ x rule. record rule { by_hour = x }) (list_of (number_of 0 23))) rule s) x.2
    (record { keeps = record { freq = refl; count = λ e. e; until = λ e. e; weeks = λ e. e; year_days = λ e. e; month_days = λ e. e }; days = inr refl })

minute_grows : RowGrows (codes "BYMINUTE", putting (λ x rule. record rule { by_minute = x }) (list_of (number_of 0 59)))
minute_grows value rule r e =
    let x = option_map_some (λ x. record rule { by_minute = x }) ((list_of (number_of 0 59)) value) r e in
    subst (λ (s : Rule). Grows (codes "BYMINUTE", putting (λ x rule. record rule { by_minute = x }) (list_of (number_of 0 59))) rule s) x.2
    (record { keeps = record { freq = refl; count = λ e. e; until = λ e. e; weeks = λ e. e; year_days = λ e. e; month_days = λ e. e }; days = inr refl })

second_grows : RowGrows (codes "BYSECOND", putting (λ x rule. record rule { by_second = x }) (list_of second_number))
second_grows value rule r e =
    let x = option_map_some (λ x. record rule { by_second = x }) ((list_of second_number) value) r e in
    subst (λ (s : Rule). Grows (codes "BYSECOND", putting (λ x rule. record rule { by_second = x }) (list_of second_number)) rule s) x.2
    (record { keeps = record { freq = refl; count = λ e. e; until = λ e. e; weeks = λ e. e; year_days = λ e. e; month_days = λ e. e }; days = inr refl })

set_pos_grows : RowGrows (codes "BYSETPOS", putting (λ x rule. record rule { by_set_pos = x }) (list_of (place_number 366)))
set_pos_grows value rule r e =
    let x = option_map_some (λ x. record rule { by_set_pos = x }) ((list_of (place_number 366)) value) r e in
    subst (λ (s : Rule). Grows (codes "BYSETPOS", putting (λ x rule. record rule { by_set_pos = x }) (list_of (place_number 366))) rule s) x.2
    (record { keeps = record { freq = refl; count = λ e. e; until = λ e. e; weeks = λ e. e; year_days = λ e. e; month_days = λ e. e }; days = inr refl })

freq_grows : RowGrows (codes "FREQ", freq_effect)
freq_grows value rule r e =
    let x = option_map_some (λ freq. rule) (freq_of value) r e in
    subst (λ (s : Rule). Grows (codes "FREQ", freq_effect) rule s) x.2
    (record { keeps = record { freq = refl; count = λ e. e; until = λ e. e; weeks = λ e. e; year_days = λ e. e; month_days = λ e. e }; days = inr refl })

pub rows_grow : HoldsOfRows RowGrows meanings
rows_grow = (freq_grows, (interval_grows, (count_grows, (until_grows, (week_start_grows, (month_grows, (week_grows, (year_day_grows, (month_day_grows, (day_grows, (hour_grows, (minute_grows, (second_grows, (set_pos_grows, tt))))))))))))))
