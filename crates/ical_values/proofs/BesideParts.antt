-- What a part says beside those of a rule: where it may come, its reader gives exactly the values with which the rule may stand.
use Rattle.std.proofs.Common.{◌≡◌, ℕ, Bool, true, false, not, ◌&&◌, ◌||◌, nat_le, nat_lt, if◌then◌else◌, List, [], ◌∷◌, map, codes, Option, Some, None, is_some, ℤ, nat_abs, option_map, option_and_then, refl, sym, ap, ap₂, ◌∙◌, arith, inl, inr}
use Rattle.std.specs.List.{list_any}
use Rattle.std.proofs.lemmas.Bool.{cases_Bool, false≢true, and_parts, leb-true, lt-ltb}
use Rattle.std.proofs.lemmas.Option.{same_Some}
use Rattle.cal_base.specs.Lines.ContentLines.{pieces, every}
use Rattle.cal_moment.specs.BadPlace.{IsIn}
use Rattle.cal_model.specs.declared.rule.DayPart.{DayPart}
use Rattle.cal_model.specs.declared.rule.Freq.{Freq}
use Rattle.cal_model.specs.declared.rule.Freq.TheVariants.{Secondly, Minutely, Hourly, Daily, Weekly, Monthly, Yearly}
use Rattle.cal_model.specs.declared.rule.Rule.{Rule}
use Rattle.cal_model.specs.Values.RuleTexts.{word_of, frequencies, freq_of, number_of, until_of, weekday_named, if_place, day_of, list_of, is_ordinal, has_some, refuses, has_ordinals, is_allowed}
use Rattle.cal_model.specs.Values.ValueTexts.{count_of, integer_of, date_of, date_time_of}
use Rattle.cal_model.proofs.Values.CutLemmas.{cases_Option, and_then_some, option_map_some, if_some}
use Rattle.cal_model.proofs.Values.ListFronts.{every-cons}
use Rattle.cal_model.proofs.Values.RuleFronts.{not_true, or_false}
use Rattle.cal_model.proofs.Values.RuleRows.{all_three, list_is_some, three_parts}
use Rattle.ical_values.specs.declared.rule_lists.CountForm.{CountForm}
use Rattle.ical_values.specs.declared.rule_lists.CountForm.TheVariants.{Month, Hour, Minute, Second}
use Rattle.ical_values.specs.declared.rule_lists.PlaceForm.TheVariants.{Week, YearDay, MonthDay, SetPos}
use Rattle.ical_values.specs.declared.rule_lists.PlaceForm.{PlaceForm}
use Rattle.ical_values.specs.declared.rule_parts.RulePart.{RulePart}
use Rattle.ical_values.specs.declared.rule_parts.RulePart.TheVariants.{Freq as FreqPart, Interval, Count, Until, WeekStart, Days, Counts, Places}
use Rattle.ical_values.specs.declared.rule_parts.PartValue.{PartValue}
use Rattle.ical_values.specs.declared.rule_parts.PartValue.TheVariants.{Freq as OfFreq, Interval as OfInterval, Count as OfCount, Until as OfUntil, WeekStart as OfWeekStart, Days as OfDays, Counts as OfCounts, Places as OfPlaces}
use Rattle.ical_values.specs.DayForms.{SpellsOrdinalDay}
use Rattle.ical_values.specs.RuleBeside.{has_weeks, has_year_days, has_month_days, takes, refusing, takes_ordinals, each_weekday, day_by, value_beside}
use Rattle.ical_values.specs.RuleForms.{count_by, place_by}
use Rattle.ical_values.specs.RuleFreqs.{allows}
use Rattle.ical_values.specs.RuleParts.{value_of, put, put_counts}
use Rattle.ical_values.specs.RuleWords.{words_of}
use Rattle.ical_values.proofs.DayReading.{day_in, ordinal_is_day, weekday_is_day}
use Rattle.ical_values.proofs.RuleStates.{allowed_yearly}
use Rattle.ical_values.proofs.WordPlaces.{frequencies_apart, kept_word}

-- What makes a rule one that may stand

record Allowed (r : Rule) : Type 0 where
  one_end : not (is_some r.count && is_some r.until) ≡ true
  kept : not (refuses r.freq r) ≡ true
  ordinals : (not (list_any is_ordinal r.by_day) || (has_ordinals r.freq && not (has_some r.by_week))) ≡ true

parts_of : (r : Rule) → is_allowed r ≡ true → Allowed r
parts_of r e =
    let its = three_parts (not (is_some r.count && is_some r.until)) (not (refuses r.freq r)) (not (list_any is_ordinal r.by_day) || (has_ordinals r.freq && not (has_some r.by_week))) e in
    record { one_end = its.0; kept = its.1; ordinals = its.2 }

of_parts : (r : Rule) → Allowed r → is_allowed r ≡ true
of_parts r a = all_three (not (is_some r.count && is_some r.until)) (not (refuses r.freq r)) (not (list_any is_ordinal r.by_day) || (has_ordinals r.freq && not (has_some r.by_week))) a.one_end a.kept a.ordinals

-- what a frequency refuses stands in three parts
kept_same : (f : Freq) (r s : Rule) → r.by_week ≡ s.by_week → r.by_year_day ≡ s.by_year_day → r.by_month_day ≡ s.by_month_day → not (refuses f r) ≡ true → not (refuses f s) ≡ true
kept_same f r s weeks year_days month_days kept = ap not (sym (same f)) ∙ kept
  where
    same : (f : Freq) → refuses f r ≡ refuses f s
    same Yearly = refl
    same Monthly = λ i. has_some (weeks i) || has_some (year_days i)
    same Weekly = λ i. has_some (weeks i) || has_some (year_days i) || has_some (month_days i)
    same Daily = λ i. has_some (weeks i) || has_some (year_days i)
    same Hourly = λ i. has_some (weeks i)
    same Minutely = λ i. has_some (weeks i)
    same Secondly = λ i. has_some (weeks i)

-- a rule with another value of a part that refuses nothing
record SameLimits (r s : Rule) : Type 0 where
  freq : r.freq ≡ s.freq
  count : r.count ≡ s.count
  until : r.until ≡ s.until
  weeks : r.by_week ≡ s.by_week
  year_days : r.by_year_day ≡ s.by_year_day
  month_days : r.by_month_day ≡ s.by_month_day
  days : r.by_day ≡ s.by_day

same_stands : (r s : Rule) → is_allowed r ≡ true → SameLimits r s → is_allowed s ≡ true
same_stands r s e same =
    let its = parts_of r e in
    of_parts s (record {
      one_end = sym (λ i. not (is_some (same.count i) && is_some (same.until i))) ∙ its.one_end;
      kept = kept_same s.freq r s same.weeks same.year_days same.month_days (ap (λ f. not (refuses f r)) (sym same.freq) ∙ its.kept);
      ordinals = sym (λ i. not (list_any is_ordinal (same.days i)) || (has_ordinals (same.freq i) && not (has_some (same.weeks i)))) ∙ its.ordinals;
    })

or_true : (a : Bool) → (a || true) ≡ true
or_true true = refl
or_true false = refl

and_false : (a : Bool) → (a && false) ≡ false
and_false true = refl
and_false false = refl

not_false : (b : Bool) → not b ≡ false → b ≡ true
not_false true e = refl
not_false false e = absurd (false≢true (sym e))

both_no : (a b : Bool) → (not a && not b) ≡ true → (a ≡ false) × (b ≡ false)
both_no a b e = let its = and_parts (not a) (not b) e in (not_true a its.0, not_true b its.1)

-- FREQ

freq_allowed : (f : Freq) (r : Rule) → is_allowed r ≡ true → allows (refusing r) f ≡ true → is_allowed (record r { freq = f }) ≡ true
freq_allowed Yearly r e kept = allowed_yearly r r.freq e
freq_allowed Monthly r e kept =
    let no = both_no (has_some r.by_week) (has_some r.by_year_day) kept in
    of_parts (record r { freq = Monthly }) (record { one_end = (parts_of r e).one_end; kept = λ i. not (no.0 i || no.1 i); ordinals = (λ i. not (list_any is_ordinal r.by_day) || not (no.0 i)) ∙ or_true (not (list_any is_ordinal r.by_day)) })
freq_allowed Weekly r e kept =
    let last = and_parts (not (has_some r.by_week) && not (has_some r.by_year_day) && not (has_some r.by_month_day)) (not (list_any is_ordinal r.by_day)) kept in
    let three = and_parts (not (has_some r.by_week) && not (has_some r.by_year_day)) (not (has_some r.by_month_day)) last.0 in
    let no = both_no (has_some r.by_week) (has_some r.by_year_day) three.0 in
    let months = not_true (has_some r.by_month_day) three.1 in
    let ordinals = not_true (list_any is_ordinal r.by_day) last.1 in
    of_parts (record r { freq = Weekly }) (record { one_end = (parts_of r e).one_end; kept = λ i. not (no.0 i || no.1 i || months i); ordinals = λ i. not (ordinals i) || (false && not (has_some r.by_week)) })
freq_allowed Daily r e kept =
    let last = and_parts (not (has_some r.by_week) && not (has_some r.by_year_day)) (not (list_any is_ordinal r.by_day)) kept in
    let no = both_no (has_some r.by_week) (has_some r.by_year_day) last.0 in
    let ordinals = not_true (list_any is_ordinal r.by_day) last.1 in
    of_parts (record r { freq = Daily }) (record { one_end = (parts_of r e).one_end; kept = λ i. not (no.0 i || no.1 i); ordinals = λ i. not (ordinals i) || (false && not (has_some r.by_week)) })
freq_allowed Hourly r e kept =
    let no = both_no (has_some r.by_week) (list_any is_ordinal r.by_day) kept in
    of_parts (record r { freq = Hourly }) (record { one_end = (parts_of r e).one_end; kept = λ i. not (no.0 i); ordinals = λ i. not (no.1 i) || (false && not (has_some r.by_week)) })
freq_allowed Minutely r e kept =
    let no = both_no (has_some r.by_week) (list_any is_ordinal r.by_day) kept in
    of_parts (record r { freq = Minutely }) (record { one_end = (parts_of r e).one_end; kept = λ i. not (no.0 i); ordinals = λ i. not (no.1 i) || (false && not (has_some r.by_week)) })
freq_allowed Secondly r e kept =
    let no = both_no (has_some r.by_week) (list_any is_ordinal r.by_day) kept in
    of_parts (record r { freq = Secondly }) (record { one_end = (parts_of r e).one_end; kept = λ i. not (no.0 i); ordinals = λ i. not (no.1 i) || (false && not (has_some r.by_week)) })

nor : (a b : Bool) → not (a || b) ≡ true → (not a ≡ true) × (not b ≡ true)
nor true b e = absurd (false≢true e)
nor false b e = (refl, e)

no_ordinal : (o w : Bool) → (not o || (false && not w)) ≡ true → not o ≡ true
no_ordinal true w e = absurd (false≢true e)
no_ordinal false w e = refl

allowed_freq : (f : Freq) (r : Rule) → is_allowed (record r { freq = f }) ≡ true → allows (refusing r) f ≡ true
allowed_freq Yearly r e = refl
allowed_freq Monthly r e =
    let its = parts_of (record r { freq = Monthly }) e in
    let no = nor (has_some r.by_week) (has_some r.by_year_day) its.kept in
    λ i. no.0 i && no.1 i
allowed_freq Weekly r e =
    let its = parts_of (record r { freq = Weekly }) e in
    let no = nor (has_some r.by_week || has_some r.by_year_day) (has_some r.by_month_day) its.kept in
    let two = nor (has_some r.by_week) (has_some r.by_year_day) no.0 in
    let ordinals = no_ordinal (list_any is_ordinal r.by_day) (has_some r.by_week) its.ordinals in
    λ i. two.0 i && two.1 i && no.1 i && ordinals i
allowed_freq Daily r e =
    let its = parts_of (record r { freq = Daily }) e in
    let two = nor (has_some r.by_week) (has_some r.by_year_day) its.kept in
    let ordinals = no_ordinal (list_any is_ordinal r.by_day) (has_some r.by_week) its.ordinals in
    λ i. two.0 i && two.1 i && ordinals i
allowed_freq Hourly r e = let its = parts_of (record r { freq = Hourly }) e in let ordinals = no_ordinal (list_any is_ordinal r.by_day) (has_some r.by_week) its.ordinals in λ i. its.kept i && ordinals i
allowed_freq Minutely r e = let its = parts_of (record r { freq = Minutely }) e in let ordinals = no_ordinal (list_any is_ordinal r.by_day) (has_some r.by_week) its.ordinals in λ i. its.kept i && ordinals i
allowed_freq Secondly r e = let its = parts_of (record r { freq = Secondly }) e in let ordinals = no_ordinal (list_any is_ordinal r.by_day) (has_some r.by_week) its.ordinals in λ i. its.kept i && ordinals i

-- BYDAY

-- the days of weekdays alone have no ordinal
weekdays_alone : (texts : List (List ℕ)) (days : List DayPart) → every (map (day_by false) texts) ≡ Some days → (every (map day_of texts) ≡ Some days) × (list_any is_ordinal days ≡ false)
weekdays_alone [] days e = (e, ap (list_any is_ordinal) (sym (same_Some [] days e)))
weekdays_alone (text ∷ texts) days e =
    let first = every-cons (day_by false text) (map (day_by false) texts) days e in
    let weekday = option_map_some each_weekday (weekday_named text) first.0 first.2 in
    let rest = weekdays_alone texts first.1 first.3 in
    let day : day_of text ≡ Some first.0 = weekday_is_day text weekday.0 weekday.1 ∙ ap (λ d. Some d) weekday.2 in
    let none : is_ordinal first.0 ≡ false = ap is_ordinal (sym weekday.2) in (
      ap (λ o. every (o ∷ map day_of texts)) day ∙ (ap (option_map (λ ds. first.0 ∷ ds)) rest.0 ∙ ap (λ ds. Some ds) first.4),
      ap (list_any is_ordinal) (sym first.4) ∙ ap₂ (λ a b. a || b) none rest.1,
    )

day_alone : (text : List ℕ) (day : DayPart) → day_of text ≡ Some day → is_ordinal day ≡ false → day_by false text ≡ Some day
day_alone text day e none =
    elim (day_in text (day, e)) [
      | inl weekday ↦ ap (option_map each_weekday) weekday.1 ∙ (sym (weekday_is_day text weekday.0 weekday.1) ∙ e)
      | inr spelled ↦ absurd (with_ordinal spelled)
    ]
  where
    with_ordinal : IsIn SpellsOrdinalDay text → ⊥
    with_ordinal spelled =
        let s = spelled.1 in
        let z = and_then_some (if_place 53) (integer_of s.front) spelled.0.ordinal s.ordinal in
        let test = if_some (nat_le 1 (nat_abs z.0) && nat_le (nat_abs z.0) 53) (Some z.0) spelled.0.ordinal z.2 in
        let some = leb-true 1 (nat_abs z.0) (and_parts (nat_le 1 (nat_abs z.0)) (nat_le (nat_abs z.0) 53) test.0).0 in
        let has : is_ordinal spelled.0 ≡ true = ap (λ n. nat_lt 0 (nat_abs n)) (sym (same_Some z.0 spelled.0.ordinal test.1)) ∙ lt-ltb 0 (nat_abs z.0) (omega (arith, some)) in
        let same = same_Some day spelled.0 (sym e ∙ ordinal_is_day text spelled.0 s) in
        false≢true (sym none ∙ (ap is_ordinal same ∙ has))

days_alone : (texts : List (List ℕ)) (days : List DayPart) → every (map day_of texts) ≡ Some days → list_any is_ordinal days ≡ false → every (map (day_by false) texts) ≡ Some days
days_alone [] days e none = e
days_alone (text ∷ texts) days e none =
    let first = every-cons (day_of text) (map day_of texts) days e in
    let both = or_false (is_ordinal first.0) (list_any is_ordinal first.1) (ap (list_any is_ordinal) first.4 ∙ none) in
    ap (λ o. every (o ∷ map (day_by false) texts)) (day_alone text first.0 first.2 both.0) ∙ (ap (option_map (λ ds. first.0 ∷ ds)) (days_alone texts first.1 first.3 both.1) ∙ ap (λ ds. Some ds) first.4)

-- The parts that some frequencies do not have

year_of : (f : Freq) → has_weeks f ≡ true → f ≡ Yearly
year_of Yearly e = refl
year_of Monthly e = absurd (false≢true e)
year_of Weekly e = absurd (false≢true e)
year_of Daily e = absurd (false≢true e)
year_of Hourly e = absurd (false≢true e)
year_of Minutely e = absurd (false≢true e)
year_of Secondly e = absurd (false≢true e)

year_days_kept : (f : Freq) (ns : List ℤ) (r : Rule) → has_year_days f ≡ true → refuses f (record r { by_year_day = ns }) ≡ refuses f r
year_days_kept Yearly ns r e = refl
year_days_kept Monthly ns r e = absurd (false≢true e)
year_days_kept Weekly ns r e = absurd (false≢true e)
year_days_kept Daily ns r e = absurd (false≢true e)
year_days_kept Hourly ns r e = refl
year_days_kept Minutely ns r e = refl
year_days_kept Secondly ns r e = refl

month_days_kept : (f : Freq) (ns : List ℤ) (r : Rule) → has_month_days f ≡ true → refuses f (record r { by_month_day = ns }) ≡ refuses f r
month_days_kept Yearly ns r e = refl
month_days_kept Monthly ns r e = refl
month_days_kept Weekly ns r e = absurd (false≢true e)
month_days_kept Daily ns r e = refl
month_days_kept Hourly ns r e = refl
month_days_kept Minutely ns r e = refl
month_days_kept Secondly ns r e = refl

weeks_refused : (f : Freq) (ns : List ℤ) (r : Rule) → has_weeks f ≡ false → has_some ns ≡ true → refuses f (record r { by_week = ns }) ≡ true
weeks_refused Yearly ns r e some = absurd (false≢true (sym e))
weeks_refused Monthly ns r e some = λ i. some i || has_some r.by_year_day
weeks_refused Weekly ns r e some = λ i. some i || has_some r.by_year_day || has_some r.by_month_day
weeks_refused Daily ns r e some = λ i. some i || has_some r.by_year_day
weeks_refused Hourly ns r e some = some
weeks_refused Minutely ns r e some = some
weeks_refused Secondly ns r e some = some

year_days_refused : (f : Freq) (ns : List ℤ) (r : Rule) → has_year_days f ≡ false → has_some ns ≡ true → refuses f (record r { by_year_day = ns }) ≡ true
year_days_refused Yearly ns r e some = absurd (false≢true (sym e))
year_days_refused Monthly ns r e some = (λ i. has_some r.by_week || some i) ∙ or_true (has_some r.by_week)
year_days_refused Weekly ns r e some = (λ i. has_some r.by_week || some i || has_some r.by_month_day) ∙ ap (λ b. b || has_some r.by_month_day) (or_true (has_some r.by_week))
year_days_refused Daily ns r e some = (λ i. has_some r.by_week || some i) ∙ or_true (has_some r.by_week)
year_days_refused Hourly ns r e some = absurd (false≢true (sym e))
year_days_refused Minutely ns r e some = absurd (false≢true (sym e))
year_days_refused Secondly ns r e some = absurd (false≢true (sym e))

month_days_refused : (f : Freq) (ns : List ℤ) (r : Rule) → has_month_days f ≡ false → has_some ns ≡ true → refuses f (record r { by_month_day = ns }) ≡ true
month_days_refused Yearly ns r e some = absurd (false≢true (sym e))
month_days_refused Monthly ns r e some = absurd (false≢true (sym e))
month_days_refused Weekly ns r e some = (λ i. has_some r.by_week || has_some r.by_year_day || some i) ∙ or_true (has_some r.by_week || has_some r.by_year_day)
month_days_refused Daily ns r e some = absurd (false≢true (sym e))
month_days_refused Hourly ns r e some = absurd (false≢true (sym e))
month_days_refused Minutely ns r e some = absurd (false≢true (sym e))
month_days_refused Secondly ns r e some = absurd (false≢true (sym e))

-- What is read may stand

-- a value of one kind, with which the rule may stand
all_stand : {X : Type 0} (c : X → PartValue) (o : Option X) (rule : Rule) (v : PartValue) → ((x : X) → is_allowed (put (c x) rule) ≡ true) → option_map c o ≡ Some v → is_allowed (put v rule) ≡ true
all_stand {X} c o rule v all e = let x = option_map_some c o v e in ap (λ v. is_allowed (put v rule)) (sym x.2) ∙ all x.0

counts_stand : (form : CountForm) (ns : List ℕ) (rule : Rule) → is_allowed rule ≡ true → is_allowed (put_counts form ns rule) ≡ true
counts_stand Month ns rule e = same_stands rule (put_counts Month ns rule) e (record { freq = refl; count = refl; until = refl; weeks = refl; year_days = refl; month_days = refl; days = refl })
counts_stand Hour ns rule e = same_stands rule (put_counts Hour ns rule) e (record { freq = refl; count = refl; until = refl; weeks = refl; year_days = refl; month_days = refl; days = refl })
counts_stand Minute ns rule e = same_stands rule (put_counts Minute ns rule) e (record { freq = refl; count = refl; until = refl; weeks = refl; year_days = refl; month_days = refl; days = refl })
counts_stand Second ns rule e = same_stands rule (put_counts Second ns rule) e (record { freq = refl; count = refl; until = refl; weeks = refl; year_days = refl; month_days = refl; days = refl })

pub value_stands : (part : RulePart) (rule : Rule) (text : List ℕ) (v : PartValue) → is_allowed rule ≡ true → takes rule part ≡ true → value_beside rule part text ≡ Some v → (value_of part text ≡ Some v) × (is_allowed (put v rule) ≡ true)
value_stands FreqPart rule text v e taken is =
    let keep = allows (refusing rule) in
    let f = option_map_some OfFreq (word_of (words_of keep frequencies) text) v is in
    let found = and_then_some (λ x. if keep x then Some x else None) (freq_of text) f.0 (sym (kept_word keep frequencies text frequencies_apart) ∙ f.1) in
    let kept = if_some (keep found.0) (Some found.0) f.0 found.2 in
    let same = same_Some found.0 f.0 kept.1 in (
      ap (option_map OfFreq) (found.1 ∙ kept.1) ∙ ap (λ v. Some v) f.2,
      ap (λ v. is_allowed (put v rule)) (sym f.2) ∙ freq_allowed f.0 rule e (ap keep (sym same) ∙ kept.0),
    )
value_stands Interval rule text v e taken is = (is, all_stand OfInterval (number_of 1 999999999 text) rule v (λ x. same_stands rule (put (OfInterval x) rule) e (record { freq = refl; count = refl; until = refl; weeks = refl; year_days = refl; month_days = refl; days = refl })) is)
value_stands Count rule text v e taken is = let its = parts_of rule e in (is, all_stand OfCount (number_of 1 999999999 text) rule v (λ x. of_parts (put (OfCount x) rule) (record { one_end = taken; kept = kept_same rule.freq rule (put (OfCount x) rule) refl refl refl its.kept; ordinals = its.ordinals })) is)
value_stands Until rule text v e taken is =
    let its = parts_of rule e in
    let none = not_true (is_some rule.count) taken in
    (is, all_stand OfUntil (until_of text) rule v (λ x. of_parts (put (OfUntil x) rule) (record { one_end = λ i. not (none i && true); kept = kept_same rule.freq rule (put (OfUntil x) rule) refl refl refl its.kept; ordinals = its.ordinals })) is)
value_stands WeekStart rule text v e taken is = (is, all_stand OfWeekStart (weekday_named text) rule v (λ x. same_stands rule (put (OfWeekStart x) rule) e (record { freq = refl; count = refl; until = refl; weeks = refl; year_days = refl; month_days = refl; days = refl })) is)
value_stands Days rule text v e taken is =
    let its = parts_of rule e in
    let days = option_map_some OfDays (list_of (day_by (takes_ordinals rule)) text) v is in
    let stands = λ (fact : (not (list_any is_ordinal days.0) || takes_ordinals rule) ≡ true). ap (λ v. is_allowed (put v rule)) (sym days.2) ∙ of_parts (put (OfDays days.0) rule) (record { one_end = its.one_end; kept = kept_same rule.freq rule (put (OfDays days.0) rule) refl refl refl its.kept; ordinals = fact }) in
    elim (cases_Bool (takes_ordinals rule)) [
      | inl may ↦ (ap (λ b. option_map OfDays (list_of (day_by b) text)) (sym may) ∙ is, stands (ap (λ b. not (list_any is_ordinal days.0) || b) may ∙ or_true (not (list_any is_ordinal days.0))))
      | inr none ↦ (let alone = weekdays_alone (pieces 44 text) days.0 (ap (λ b. list_of (day_by b) text) (sym none) ∙ days.1) in
          (ap (option_map OfDays) alone.0 ∙ ap (λ v. Some v) days.2, stands (λ i. not (alone.1 i) || takes_ordinals rule)))
    ]
value_stands (Counts form) rule text v e taken is = (is, all_stand (OfCounts form) (list_of (count_by form) text) rule v (λ ns. counts_stand form ns rule e) is)
value_stands (Places Week) rule text v e taken is =
    let its = parts_of rule e in
    let both = and_parts (has_weeks rule.freq) (not (list_any is_ordinal rule.by_day)) taken in
    let year = year_of rule.freq both.0 in
    let none = not_true (list_any is_ordinal rule.by_day) both.1 in
    (is, all_stand (OfPlaces Week) (list_of (place_by Week) text) rule v (λ ns. of_parts (put (OfPlaces Week ns) rule) (record { one_end = its.one_end; kept = λ i. not (refuses (year i) (record rule { by_week = ns })); ordinals = λ i. not (none i) || (has_ordinals rule.freq && not (has_some ns)) })) is)
value_stands (Places YearDay) rule text v e taken is =
    let its = parts_of rule e in
    (is, all_stand (OfPlaces YearDay) (list_of (place_by YearDay) text) rule v (λ ns. of_parts (put (OfPlaces YearDay ns) rule) (record { one_end = its.one_end; kept = ap not (year_days_kept rule.freq ns rule taken) ∙ its.kept; ordinals = its.ordinals })) is)
value_stands (Places MonthDay) rule text v e taken is =
    let its = parts_of rule e in
    (is, all_stand (OfPlaces MonthDay) (list_of (place_by MonthDay) text) rule v (λ ns. of_parts (put (OfPlaces MonthDay ns) rule) (record { one_end = its.one_end; kept = ap not (month_days_kept rule.freq ns rule taken) ∙ its.kept; ordinals = its.ordinals })) is)
value_stands (Places SetPos) rule text v e taken is = (is, all_stand (OfPlaces SetPos) (list_of (place_by SetPos) text) rule v (λ ns. same_stands rule (put (OfPlaces SetPos ns) rule) e (record { freq = refl; count = refl; until = refl; weeks = refl; year_days = refl; month_days = refl; days = refl })) is)

-- What may stand is read

pub stands_read : (part : RulePart) (rule : Rule) (text : List ℕ) (v : PartValue) → value_of part text ≡ Some v → is_allowed (put v rule) ≡ true → value_beside rule part text ≡ Some v
stands_read FreqPart rule text v is e =
    let keep = allows (refusing rule) in
    let f = option_map_some OfFreq (freq_of text) v is in
    let kept = allowed_freq f.0 rule (ap (λ v. is_allowed (put v rule)) f.2 ∙ e) in
    ap (option_map OfFreq) (kept_word keep frequencies text frequencies_apart ∙ (ap (option_and_then (λ x. if keep x then Some x else None)) f.1 ∙ ap (λ b. if b then Some f.0 else None) kept)) ∙ ap (λ v. Some v) f.2
stands_read Days rule text v is e =
    let days = option_map_some OfDays (list_of day_of text) v is in
    let its = parts_of (put (OfDays days.0) rule) (ap (λ v. is_allowed (put v rule)) days.2 ∙ e) in
    elim (cases_Bool (takes_ordinals rule)) [
      | inl may ↦ ap (λ b. option_map OfDays (list_of (day_by b) text)) may ∙ is
      | inr none ↦ (let alone = days_alone (pieces 44 text) days.0 days.1 (no_or (list_any is_ordinal days.0) (ap (λ b. not (list_any is_ordinal days.0) || b) (sym none) ∙ its.ordinals)) in
          ap (λ b. option_map OfDays (list_of (day_by b) text)) none ∙ (ap (option_map OfDays) alone ∙ ap (λ v. Some v) days.2))
    ]
  where
    no_or : (b : Bool) → (not b || false) ≡ true → b ≡ false
    no_or true e = sym e
    no_or false e = refl
stands_read Interval rule text v is e = is
stands_read Count rule text v is e = is
stands_read Until rule text v is e = is
stands_read WeekStart rule text v is e = is
stands_read (Counts form) rule text v is e = is
stands_read (Places form) rule text v is e = is

-- A part that may not come never stands

pub none_stands : (part : RulePart) (rule : Rule) (text : List ℕ) (v : PartValue) → takes rule part ≡ false → value_of part text ≡ Some v → is_allowed (put v rule) ≡ true → ⊥
none_stands FreqPart rule text v not_taken is e = false≢true (sym not_taken)
none_stands Interval rule text v not_taken is e = false≢true (sym not_taken)
none_stands Count rule text v not_taken is e =
    let n = option_map_some OfCount (number_of 1 999999999 text) v is in
    let its = parts_of (put (OfCount n.0) rule) (ap (λ v. is_allowed (put v rule)) n.2 ∙ e) in
    false≢true (sym not_taken ∙ its.one_end)
none_stands Until rule text v not_taken is e =
    let u = option_map_some OfUntil (until_of text) v is in
    let its = parts_of (put (OfUntil u.0) rule) (ap (λ v. is_allowed (put v rule)) u.2 ∙ e) in
    let some = not_false (is_some rule.count) not_taken in
    false≢true (ap (λ b. not (b && true)) (sym some) ∙ its.one_end)
none_stands WeekStart rule text v not_taken is e = false≢true (sym not_taken)
none_stands Days rule text v not_taken is e = false≢true (sym not_taken)
none_stands (Counts form) rule text v not_taken is e = false≢true (sym not_taken)
none_stands (Places Week) rule text v not_taken is e =
    let ns = option_map_some (OfPlaces Week) (list_of (place_by Week) text) v is in
    let some = list_is_some (place_by Week) text ns.0 ns.1 in
    let its = parts_of (put (OfPlaces Week ns.0) rule) (ap (λ v. is_allowed (put v rule)) ns.2 ∙ e) in
    elim (cases_Bool (has_weeks rule.freq)) [
      | inr never ↦ false≢true (ap not (sym (weeks_refused rule.freq ns.0 rule never some)) ∙ its.kept)
      | inl may ↦ (let ordinals = not_false (list_any is_ordinal rule.by_day) (ap (λ b. b && not (list_any is_ordinal rule.by_day)) (sym may) ∙ not_taken) in
          let refused : (not (list_any is_ordinal rule.by_day) || (has_ordinals rule.freq && not (has_some ns.0))) ≡ false = (λ i. not (ordinals i) || (has_ordinals rule.freq && not (some i))) ∙ and_false (has_ordinals rule.freq) in
          false≢true (sym refused ∙ its.ordinals))
    ]
none_stands (Places YearDay) rule text v not_taken is e =
    let ns = option_map_some (OfPlaces YearDay) (list_of (place_by YearDay) text) v is in
    let its = parts_of (put (OfPlaces YearDay ns.0) rule) (ap (λ v. is_allowed (put v rule)) ns.2 ∙ e) in
    false≢true (ap not (sym (year_days_refused rule.freq ns.0 rule not_taken (list_is_some (place_by YearDay) text ns.0 ns.1))) ∙ its.kept)
none_stands (Places MonthDay) rule text v not_taken is e =
    let ns = option_map_some (OfPlaces MonthDay) (list_of (place_by MonthDay) text) v is in
    let its = parts_of (put (OfPlaces MonthDay ns.0) rule) (ap (λ v. is_allowed (put v rule)) ns.2 ∙ e) in
    false≢true (ap not (sym (month_days_refused rule.freq ns.0 rule not_taken (list_is_some (place_by MonthDay) text ns.0 ns.1))) ∙ its.kept)
none_stands (Places SetPos) rule text v not_taken is e = false≢true (sym not_taken)

-- A part that may come has a value with which it stands

date_sample : is_some (until_of (codes "00040101")) ≡ true
unfolding date_of date_time_of
date_sample = refl

number_sample : (number_of 1 999999999) (codes "1") ≡ Some 1
unfolding count_of integer_of
number_sample = refl

counts_sample : (form : CountForm) → is_some (list_of (count_by form) (codes "1")) ≡ true
unfolding count_of integer_of
counts_sample Month = refl
counts_sample Hour = refl
counts_sample Minute = refl
counts_sample Second = refl

places_sample : (form : PlaceForm) → is_some (list_of (place_by form) (codes "1")) ≡ true
unfolding count_of integer_of
places_sample Week = refl
places_sample YearDay = refl
places_sample MonthDay = refl
places_sample SetPos = refl

pub record HasSample (part : RulePart) (rule : Rule) : Type 0 where
  pub text : List ℕ
  pub value : PartValue
  pub reads : value_of part text ≡ Some value
  pub stands : is_allowed (put value rule) ≡ true

-- where whatever is read stands
of_any : (part : RulePart) (rule : Rule) (text : List ℕ) → is_some (value_of part text) ≡ true → ((v : PartValue) → value_of part text ≡ Some v → is_allowed (put v rule) ≡ true) → HasSample part rule
of_any part rule text some all =
    elim (cases_Option (value_of part text)) [
      | inl none ↦ absurd (false≢true (ap is_some (sym none) ∙ some))
      | inr v ↦ record { text = text; value = v.0; reads = v.1; stands = all v.0 v.1 }
    ]

mapped_some : {X Y : Type 0} (f : X → Y) (o : Option X) → is_some (option_map f o) ≡ is_some o
mapped_some f None = refl
mapped_some f (Some x) = refl

pub sample_of : (part : RulePart) (rule : Rule) → is_allowed rule ≡ true → takes rule part ≡ true → HasSample part rule
sample_of FreqPart rule e taken = record { text = codes "YEARLY"; value = OfFreq Yearly; reads = refl; stands = allowed_yearly rule rule.freq e }
sample_of Interval rule e taken = of_any Interval rule (codes "1") (ap (λ o. is_some (option_map OfInterval o)) number_sample) (λ v is. (value_stands Interval rule (codes "1") v e taken is).1)
sample_of Count rule e taken = of_any Count rule (codes "1") (ap (λ o. is_some (option_map OfCount o)) number_sample) (λ v is. (value_stands Count rule (codes "1") v e taken is).1)
sample_of Until rule e taken = of_any Until rule (codes "00040101") (mapped_some OfUntil (until_of (codes "00040101")) ∙ date_sample) (λ v is. (value_stands Until rule (codes "00040101") v e taken is).1)
sample_of WeekStart rule e taken = record { text = codes "MO"; value = OfWeekStart 0; reads = refl; stands = same_stands rule (put (OfWeekStart 0) rule) e (record { freq = refl; count = refl; until = refl; weeks = refl; year_days = refl; month_days = refl; days = refl }) }
sample_of Days rule e taken =
    let its = parts_of rule e in
    let day = each_weekday 0 in
    record { text = codes "MO"; value = OfDays (day ∷ []); reads = refl; stands = of_parts (put (OfDays (day ∷ [])) rule) (record { one_end = its.one_end; kept = kept_same rule.freq rule (put (OfDays (day ∷ [])) rule) refl refl refl its.kept; ordinals = refl }) }
sample_of (Counts form) rule e taken = of_any (Counts form) rule (codes "1") (mapped_some (OfCounts form) (list_of (count_by form) (codes "1")) ∙ counts_sample form) (λ v is. (value_stands (Counts form) rule (codes "1") v e taken is).1)
sample_of (Places form) rule e taken = of_any (Places form) rule (codes "1") (mapped_some (OfPlaces form) (list_of (place_by form) (codes "1")) ∙ places_sample form) (λ v is. (value_stands (Places form) rule (codes "1") v e taken is).1)
