-- Examples of the lines in which rows are listed, and of the line about an object.
use Rattle.std.specs.Prelude.{◌≡◌, refl, ◌∷◌, [], codes, pos, neg_ℤ}
use Rattle.std.specs.Fmt.{digits}
use Rattle.cal_moment.specs.Calendar.{year_of, month_of, day_of_month}
use Rattle.cal_model.specs.declared.object.Kind.TheVariants.{Event, Todo, Journal, FreeBusy}
use Rattle.cal_model.specs.declared.row.RowKind.TheVariants.{Instant, Floating, Date, Undated}
use Rattle.cal_model.specs.Instances.Rows.{row_of}
use Rattle.ics_tool.specs.RowTexts.{row_line, rows_text, summary_line}

-- an instance in UTC
a_stand_up : row_line (row_of (pos 1_741_597_200) (pos 1_741_597_200) (pos 1_741_600_800) 0 Instant Instant) ≡ codes "20250310T090000Z 20250310T090000Z 20250310T100000Z 0\n"
unfolding digits year_of month_of day_of_month
a_stand_up = refl

-- an override that was moved keeps the id of the instance in whose place it stands
a_moved_one : row_line (row_of (pos 1_742_911_200) (pos 1_743_012_000) (pos 1_743_015_600) 1 Instant Instant) ≡ codes "20250325T140000Z 20250326T180000Z 20250326T190000Z 1\n"
unfolding digits year_of month_of day_of_month
a_moved_one = refl

-- a floating one has its digits, whatever zone they are read in
a_floating_one : row_line (row_of (pos 1_741_597_200) (pos 1_741_597_200) (pos 1_741_602_600) 0 Floating Floating) ≡ codes "20250310T090000 20250310T090000 20250310T103000 0\n"
unfolding digits year_of month_of day_of_month
a_floating_one = refl

-- a day ends with the next
a_day : row_line (row_of (pos 1_741_564_800) (pos 1_741_564_800) (pos 1_741_651_200) 0 Date Date) ≡ codes "20250310 20250310 20250311 0\n"
unfolding digits year_of month_of day_of_month
a_day = refl

-- one whose DURATION has hours ends on the day in which they end
a_day_of_an_hour : row_line (row_of (pos 1_741_564_800) (pos 1_741_564_800) (pos 1_741_568_400) 0 Date Date) ≡ codes "20250310 20250310 20250310 0\n"
unfolding digits year_of month_of day_of_month
a_day_of_an_hour = refl

-- an override of another kind than its id
a_day_made_a_meeting : row_line (row_of (pos 1_741_564_800) (pos 1_741_597_200) (pos 1_741_600_800) 2 Date Instant) ≡ codes "20250310 20250310T090000Z 20250310T100000Z 2\n"
unfolding digits year_of month_of day_of_month
a_day_made_a_meeting = refl

-- the first day that is served
an_old_day : row_line (row_of (neg_ℤ (pos 11_676_096_000)) (neg_ℤ (pos 11_676_096_000)) (neg_ℤ (pos 11_676_009_600)) 0 Date Date) ≡ codes "16000101 16000101 16000102 0\n"
unfolding digits year_of month_of day_of_month
an_old_day = refl

-- one without a date
some_day : row_line (row_of (pos 0) (pos 0) (pos 0) 13 Undated Undated) ≡ codes "- - - 13\n"
unfolding digits year_of month_of day_of_month
some_day = refl

-- each line has its end
two_days : rows_text (row_of (pos 0) (pos 0) (pos 86_400) 0 Date Date ∷ row_of (pos 86_400) (pos 86_400) (pos 172_800) 0 Date Date ∷ []) ≡ codes "19700101 19700101 19700102 0\n19700102 19700102 19700103 0\n"
unfolding digits year_of month_of day_of_month
two_days = refl

-- a UID stands as it is written, with the spaces that it has
a_meeting : summary_line Event (codes "meet") 4 ≡ codes "event meet 4\n"
unfolding digits
a_meeting = refl

a_list : summary_line Todo (codes "some day") 0 ≡ codes "todo some day 0\n"
unfolding digits
a_list = refl

a_note : summary_line Journal (codes "n@h") 1 ≡ codes "journal n@h 1\n"
unfolding digits
a_note = refl

busy : summary_line FreeBusy (codes "b") 250_000 ≡ codes "freebusy b 250000\n"
unfolding digits
busy = refl
