-- The offsets and the rules of the parts of a zone that was read.
use Rattle.std.proofs.Common.{◌≡◌, ℕ, ◌+◌, ◌*◌, ◌≤◌, Bool, true, false, List, [], ◌∷◌, ◌++◌, ap, arith, ℤ, pos, neg_ℤ, subst, refl, sym, map}
use Rattle.std.specs.Prelude.{Option, Some, None, nat_le, ◌&&◌, bytes_eq, if◌then◌else◌, unwrap_or, codes, option_map}
use Rattle.std.proofs.lemmas.Bool.{leb-true}
use Rattle.std.proofs.lemmas.Int.{ints}
use Rattle.std.proofs.lemmas.Option.{none-some, cond_some}
use Rattle.cal_moment.specs.Calendar.{IsBetween, day_since_1970, IsCalendarMoment, moment_of_seconds, seconds_since_1970, day_of_moment, second_of_day}
use Rattle.cal_moment.proofs.CalendarLaws.{seconds_since_1970-moment_of_seconds}
use Rattle.cal_moment.specs.declared.stamp.Local.{Local}
use Rattle.cal_model.specs.Recurrence.NextPassing.{is_fine}
use Rattle.cal_model.specs.Recurrence.RuleBounds.{IsWritten, IsUsable}
use Rattle.std.specs.List.{AllByRecursion as Each}
use Rattle.cal_base.specs.declared.line.Line.{Line}
use Rattle.cal_moment.specs.declared.stamp.Stamp.{Stamp}
use Rattle.cal_moment.specs.declared.stamp.Stamp.TheVariants.{Date, Utc}
use Rattle.std.proofs.lemmas.List.Elements.{All-from_recursion}
use Rattle.cal_base.specs.Lines.ComponentTrees.{first}
use Rattle.cal_moment.specs.declared.stamp.Period.{Period}
use Rattle.cal_moment.specs.declared.stamp.PeriodEnd.{PeriodEnd}
use Rattle.cal_model.specs.declared.rule.Rule.{Rule}
use Rattle.cal_model.specs.declared.zone.ZonePart.{ZonePart}
use Rattle.cal_model.specs.TimeZones.TableBounds.{IsOffset, IsPart}
use Rattle.cal_model.specs.Values.RuleTexts.{rule_of}
use Rattle.cal_model.specs.Objects.ComponentLines.{all_of, one_of}
use Rattle.cal_model.specs.Objects.LineValues.{is_of_periods, stamps_in, periods_in, stamps_at, stamp_at, value_at, rules_of}
use Rattle.cal_model.specs.Objects.ZoneReading.{dates_of_line, part_dates, part_with, part_of_lines, is_fine_part}
use Rattle.cal_model.proofs.Objects.TestedLines.{period_by}
use Rattle.cal_model.specs.Values.StampTexts.{local_digits, stamp_of_time, time_stamp, utc_stamp, stamp_of, stamps_in_grammar, is_one_of, utc_names, is_date_text, line_zone, items_of, period_of_ends, written_period_end, period_with, period_of, periods_in_grammar}
use Rattle.cal_model.proofs.Objects.WrittenDates.{date_read, date_time_read, moment_of_digits}
use Rattle.cal_model.proofs.Objects.RuleBounds.{map_value, and_then_value, each_read, IsUsable-rule_of}
use Rattle.cal_moment.specs.Texts.{digits, sign_text, signed, local_of_seconds}
use Rattle.cal_model.specs.Values.ValueTexts.{number_at, date_of, date_time_of, utc_of_local, moment_of, cut, offset_of, is_negative, second_text}
use Rattle.cal_model.proofs.Words.EachLemmas.{both_hold, each_of_any, each-map, each-append, each-flat_map, each-filter_map}

signed_within : (negative : Bool) (n : ℕ) → n ≤ 86_399 → IsBetween (neg_ℤ (pos 86_399)) (pos 86_399) (signed negative n)
signed_within true n small = (omega (arith, ints), omega (arith, ints))
signed_within false n small = (omega (arith, ints), omega (arith, ints))

-- an offset that is read is less than a day
pub offset_within : (text : List ℕ) (offset : ℤ) → offset_of text ≡ Some offset → IsBetween (neg_ℤ (pos 86_399)) (pos 86_399) offset
unfolding offset_of
offset_within text offset is =
    let hour = number_at 1 2 text in
    let minute = number_at 3 2 text in
    let second = number_at 5 2 text in
    let spelled = bytes_eq text (sign_text (is_negative text) ++ (digits 2 hour ++ (digits 2 minute ++ second_text text))) in
    let found = cond_some (nat_le hour 23 && nat_le minute 59 && nat_le second 59 && spelled) (signed (is_negative text) (3600 * hour + 60 * minute + second)) offset is in
    let a = both_hold (nat_le hour 23 && nat_le minute 59 && nat_le second 59) spelled found.0 in
    let b = both_hold (nat_le hour 23 && nat_le minute 59) (nat_le second 59) a.0 in
    let c = both_hold (nat_le hour 23) (nat_le minute 59) b.0 in
    let h : hour ≤ 23 = leb-true hour 23 c.0 in
    let m : minute ≤ 59 = leb-true minute 59 c.1 in
    let s : second ≤ 59 = leb-true second 59 b.1 in
    subst (IsBetween (neg_ℤ (pos 86_399)) (pos 86_399)) found.1 (signed_within (is_negative text) (3600 * hour + 60 * minute + second) (omega (arith, h, m, s)))

-- Stamps, as digits of the years 1 to 9999

-- a moment of these years, as its digits in UTC
pub moment_within : (z : ℤ) → IsCalendarMoment z → (31_622_400 ≤ moment_of_seconds z) × (moment_of_seconds z ≤ 315_569_519_999)
moment_within z within =
    let back : seconds_since_1970 (moment_of_seconds z) ≡ z = seconds_since_1970-moment_of_seconds z within in
    (omega (arith, ints, back, within.0), omega (arith, ints, back, within.1))

pub digits_of_moment : (m : ℕ) → 31_622_400 ≤ m → m ≤ 315_569_519_999 → IsWritten (record { day = day_since_1970 (day_of_moment m); second = second_of_day m })
digits_of_moment m low high =
    let first : 366 ≤ day_of_moment m = omega arith in
    let last : day_of_moment m ≤ 3_652_424 = omega arith in
    record { from_first = omega (arith, ints, first); to_last = omega (arith, ints, last); second_below = omega arith }

IsWritten-utc : (local : Local) → IsWritten local → IsWritten (local_of_seconds (utc_of_local local).0)
IsWritten-utc local written =
    let within = moment_within (utc_of_local local).0 (moment_of_digits local.day local.second written.from_first written.to_last written.second_below) in
    digits_of_moment (moment_of_seconds (utc_of_local local).0) within.0 within.1

-- the digits of a stamp that is read
abbrev pub HasDigits : Stamp → Type 0
HasDigits stamp = IsWritten (local_digits stamp)

timed : (number : Option ℕ) (time : Local × Bool) → IsWritten time.0 → HasDigits (stamp_of_time number time)
timed None (local, true) written = IsWritten-utc local written
timed (Some number) (local, true) written = IsWritten-utc local written
timed None (local, false) written = written
timed (Some number) (local, false) written = written

time_stamp_read : (number : Option ℕ) (text : List ℕ) (stamp : Stamp) → time_stamp number text ≡ Some stamp → HasDigits stamp
time_stamp_read number text stamp is =
    let found = map_value (stamp_of_time number) (date_time_of text) stamp is in
    subst HasDigits (sym found.2) (timed number found.0 (date_time_read text found.0 found.1))

utc_stamp_read : (text : List ℕ) (stamp : Stamp) → utc_stamp text ≡ Some stamp → HasDigits stamp
utc_stamp_read text stamp is =
    let found = map_value Utc (moment_of text) stamp is in
    let moment = map_value (λ (time : Local × Bool). utc_of_local time.0) (date_time_of text) found.0 found.1 in
    subst HasDigits (sym found.2) (subst (λ m. HasDigits (Utc m)) (sym moment.2) (IsWritten-utc moment.0.0 (date_time_read text moment.0 moment.1)))

date_stamp_read : (text : List ℕ) (stamp : Stamp) → option_map Date (date_of text) ≡ Some stamp → HasDigits stamp
date_stamp_read text stamp is =
    let found = map_value Date (date_of text) stamp is in
    let within = date_read text found.0 found.1 in
    subst HasDigits (sym found.2) (record { from_first = within.0; to_last = within.1; second_below = omega arith })

stamp_case : (utc dated : Bool) (number : Option ℕ) (text : List ℕ) (stamp : Stamp) →
    (if utc then utc_stamp text else (if dated then option_map Date (date_of text) else time_stamp number text)) ≡ Some stamp → HasDigits stamp
stamp_case true dated number text stamp is = utc_stamp_read text stamp is
stamp_case false true number text stamp is = date_stamp_read text stamp is
stamp_case false false number text stamp is = time_stamp_read number text stamp is

pub stamp_read : (zones : List (List ℕ)) (line : Line) (text : List ℕ) (stamp : Stamp) → stamp_of zones line text ≡ Some stamp → HasDigits stamp
stamp_read zones line text stamp is = stamp_case (is_one_of utc_names line) (is_date_text line text) (line_zone zones line) text stamp is

pub grammar_read : (zones : List (List ℕ)) (line : Line) (stamps : List Stamp) → stamps_in_grammar zones line ≡ Some stamps → Each HasDigits stamps
unfolding stamps_in_grammar
grammar_read zones line stamps is = each_read HasDigits (stamp_of zones line) (stamp_read zones line) (items_of line) stamps is

-- Periods

start_read : (moment : List ℕ → Option Stamp) → ((text : List ℕ) (stamp : Stamp) → moment text ≡ Some stamp → HasDigits stamp) → (a : List ℕ) (end : Option PeriodEnd) (start : Option Stamp) (period : Period) →
    moment a ≡ start → period_of_ends start end ≡ Some period → HasDigits period.start
start_read moment reads a end None period read is = absurd (none-some period is)
start_read moment reads a None (Some start) period read is = absurd (none-some period is)
start_read moment reads a (Some end) (Some start) period read is =
    subst (λ (p : Period). HasDigits p.start) (ap (λ o. unwrap_or o period) is) (reads a start read)

period_parts : (moment : List ℕ → Option Stamp) → ((text : List ℕ) (stamp : Stamp) → moment text ≡ Some stamp → HasDigits stamp) → (parts : Option (List ℕ × List ℕ)) (period : Period) →
    period_by moment parts ≡ Some period → HasDigits period.start
period_parts moment reads None period is = absurd (none-some period is)
period_parts moment reads (Some p) period is = start_read moment reads p.0 (written_period_end moment p.1) (moment p.0) period refl is

period_case : (utc : Bool) (number : Option ℕ) (text : List ℕ) (period : Period) → (if utc then period_with utc_stamp text else period_with (time_stamp number) text) ≡ Some period → HasDigits period.start
period_case true number text period is = period_parts utc_stamp utc_stamp_read (cut 47 text) period is
period_case false number text period is = period_parts (time_stamp number) (time_stamp_read number) (cut 47 text) period is

pub periods_read : (zones : List (List ℕ)) (line : Line) (periods : List Period) → periods_in_grammar zones line ≡ Some periods → Each (λ (p : Period). HasDigits p.start) periods
unfolding periods_in_grammar
periods_read zones line periods is =
    each_read (λ (p : Period). HasDigits p.start) (period_of zones line) (λ text period made. period_case (is_one_of utc_names line) (line_zone zones line) text period made) (items_of line) periods is

-- Parts

or_none : {X : Type 0} (P : X → Type 0) (o : Option (List X)) → ((xs : List X) → o ≡ Some xs → Each P xs) → Each P (unwrap_or o [])
or_none P None facts = tt
or_none P (Some xs) facts = facts xs refl

if_else : {X : Type 0} (P : X → Type 0) (b : Bool) (xs ys : List X) → Each P xs → Each P ys → Each P (if b then xs else ys)
if_else P true xs ys these those = these
if_else P false xs ys these those = those

pub stamps_in_digits : (line : Line) → Each HasDigits (stamps_in [] line)
stamps_in_digits line =
    if_else HasDigits (is_of_periods line) [] (unwrap_or (stamps_in_grammar [] line) []) tt (or_none HasDigits (stamps_in_grammar [] line) (grammar_read [] line))

pub periods_in_digits : (line : Line) → Each (λ (p : Period). HasDigits p.start) (periods_in [] line)
periods_in_digits line =
    if_else (λ (p : Period). HasDigits p.start) (is_of_periods line) (unwrap_or (periods_in_grammar [] line) []) [] (or_none (λ (p : Period). HasDigits p.start) (periods_in_grammar [] line) (periods_read [] line)) tt

all_lines : {P : Line → Type 0} → ((line : Line) → P line) → (lines : List Line) → Each P lines
all_lines fact [] = tt
all_lines fact (line ∷ lines) = (fact line, all_lines fact lines)

pub stamps_at_digits : (name : List ℕ) (lines : List Line) → Each HasDigits (stamps_at [] name lines)
stamps_at_digits name lines = each-flat_map HasDigits (stamps_in []) (all_of name lines) (all_lines stamps_in_digits (all_of name lines))

first_digits : (stamps : List Stamp) (stamp : Stamp) → Each HasDigits stamps → first stamps ≡ Some stamp → HasDigits stamp
first_digits [] stamp facts is = absurd (none-some stamp is)
first_digits (one ∷ stamps) stamp facts is = subst HasDigits (ap (λ o. unwrap_or o stamp) is) facts.0

line_dates : (line : Line) → Each IsWritten (dates_of_line line)
line_dates line =
    each-map IsWritten local_digits (stamps_in [] line ++ map (λ (period : Period). period.start) (periods_in [] line))
    (each-append HasDigits (stamps_in [] line) (map (λ (period : Period). period.start) (periods_in [] line)) (stamps_in_digits line)
    (each-map HasDigits (λ (period : Period). period.start) (periods_in [] line) (periods_in_digits line)))

offset_at_name : (name : List ℕ) (lines : List Line) (offset : ℤ) → value_at offset_of name lines ≡ Some offset → IsOffset offset
offset_at_name name lines offset is =
    let found = and_then_value (λ (line : Line). offset_of line.value) (one_of name lines) offset is in offset_within found.0.value offset found.2

rule_lines : (lines : List Line) → Each IsUsable (rules_of lines)
rule_lines lines =
    each-filter_map (λ line. Unit {0}) IsUsable (λ (line : Line). rule_of line.value) (λ line rule fact is. IsUsable-rule_of line.value rule is) (all_of (codes "RRULE") lines) (all_lines (λ line. tt) (all_of (codes "RRULE") lines))

part_facts : (lines : List Line) (start : Option Stamp) (from to : Option ℤ) (part : ZonePart) → part_with lines start from to ≡ Some part → is_fine_part part ≡ false →
    ((s : Stamp) → start ≡ Some s → HasDigits s) → ((z : ℤ) → from ≡ Some z → IsOffset z) → ((z : ℤ) → to ≡ Some z → IsOffset z) → IsPart part
part_facts lines None from to part is coarse starts froms tos = absurd (none-some part is)
part_facts lines (Some s) None to part is coarse starts froms tos = absurd (none-some part is)
part_facts lines (Some s) (Some f) None part is coarse starts froms tos = absurd (none-some part is)
part_facts lines (Some s) (Some f) (Some t) part is coarse starts froms tos =
    let made : record { start = local_digits s; from = f; to = t; rules = rules_of lines; dates = part_dates lines } ≡ part = ap (λ o. unwrap_or o part) is in
    let plain = subst (λ (p : ZonePart). is_fine_part p ≡ false) (sym made) coarse in
    subst IsPart made (record {
      start = starts s refl;
      from = froms f refl;
      to = tos t refl;
      dates = All-from_recursion IsWritten (part_dates lines) (each-flat_map IsWritten dates_of_line (all_of (codes "RDATE") lines) (all_lines line_dates (all_of (codes "RDATE") lines)));
      rules = All-from_recursion IsUsable (rules_of lines) (rule_lines lines);
      coarse = All-from_recursion (λ (rule : Rule). is_fine rule.freq ≡ false) (rules_of lines) (each_of_any (λ (rule : Rule). is_fine rule.freq) (rules_of lines) plain);
    })

-- a part that is read and has no fine rule can be made a table of
pub IsPart-part_of_lines : (lines : List Line) (part : ZonePart) → part_of_lines lines ≡ Some part → is_fine_part part ≡ false → IsPart part
IsPart-part_of_lines lines part is coarse =
    part_facts lines (stamp_at [] (codes "DTSTART") lines) (value_at offset_of (codes "TZOFFSETFROM") lines) (value_at offset_of (codes "TZOFFSETTO") lines) part is coarse
    (λ s found. first_digits (stamps_at [] (codes "DTSTART") lines) s (stamps_at_digits (codes "DTSTART") lines) found)
    (offset_at_name (codes "TZOFFSETFROM") lines) (offset_at_name (codes "TZOFFSETTO") lines)
