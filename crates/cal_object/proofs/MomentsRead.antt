-- The moments of a line that is read lie in the years 1 to 9999.
use Rattle.std.proofs.Common.{◌≡◌, ℕ, Bool, true, false, List, [], ◌∷◌, ap, sym, subst, refl, All}
use Rattle.std.specs.Prelude.{Option, Some, None, option_map, unwrap_or, if◌then◌else◌}
use Rattle.std.specs.List.{AllByRecursion as Each}
use Rattle.std.proofs.lemmas.Option.{none-some}
use Rattle.std.proofs.lemmas.List.Elements.{All-from_recursion}
use Rattle.cal_base.specs.declared.line.Line.{Line}
use Rattle.cal_base.specs.Lines.ComponentTrees.{first}
use Rattle.cal_moment.specs.declared.stamp.Local.{Local}
use Rattle.cal_moment.specs.declared.stamp.Period.{Period}
use Rattle.cal_moment.specs.declared.stamp.PeriodEnd.{PeriodEnd}
use Rattle.cal_moment.specs.declared.stamp.Stamp.{Stamp}
use Rattle.cal_moment.specs.declared.stamp.Stamp.TheVariants.{Date, Utc}
use Rattle.cal_model.specs.Recurrence.RuleBounds.{IsWritten}
use Rattle.cal_model.specs.Values.ValueTexts.{date_of, date_time_of, utc_of_local, moment_of, cut}
use Rattle.cal_model.specs.Values.StampTexts.{stamp_of_time, time_stamp, utc_stamp, stamp_of, stamps_in_grammar, is_one_of, utc_names, is_date_text, line_zone, items_of, period_of_ends, written_period_end, period_with, period_of, periods_in_grammar}
use Rattle.cal_model.specs.Objects.ComponentLines.{all_of}
use Rattle.cal_model.specs.Objects.LineValues.{is_of_periods, stamps_in, periods_in, stamps_at, stamp_at}
use Rattle.cal_model.proofs.Objects.WrittenDates.{date_time_read, moment_of_digits}
use Rattle.cal_model.proofs.Objects.RuleBounds.{map_value, each_read}
use Rattle.cal_model.proofs.Objects.TestedLines.{period_by}
use Rattle.cal_model.proofs.Words.EachLemmas.{each-flat_map}
use Rattle.cal_object.specs.PartDates.{HasMoment, StartsAtMoment}

timed : (number : Option ℕ) (time : Local × Bool) → IsWritten time.0 → HasMoment (stamp_of_time number time)
timed None (local, true) written = moment_of_digits local.day local.second written.from_first written.to_last written.second_below
timed (Some number) (local, true) written = moment_of_digits local.day local.second written.from_first written.to_last written.second_below
timed None (local, false) written = tt
timed (Some number) (local, false) written = tt

time_read : (number : Option ℕ) (text : List ℕ) (stamp : Stamp) → time_stamp number text ≡ Some stamp → HasMoment stamp
time_read number text stamp is =
    let found = map_value (stamp_of_time number) (date_time_of text) stamp is in
    subst HasMoment (sym found.2) (timed number found.0 (date_time_read text found.0 found.1))

utc_read : (text : List ℕ) (stamp : Stamp) → utc_stamp text ≡ Some stamp → HasMoment stamp
utc_read text stamp is =
    let found = map_value Utc (moment_of text) stamp is in
    let moment = map_value (λ (time : Local × Bool). utc_of_local time.0) (date_time_of text) found.0 found.1 in
    subst HasMoment (sym found.2) (subst (λ m. HasMoment (Utc m)) (sym moment.2) (timed None (moment.0.0, true) (date_time_read text moment.0 moment.1)))

date_read : (text : List ℕ) (stamp : Stamp) → option_map Date (date_of text) ≡ Some stamp → HasMoment stamp
date_read text stamp is =
    let found = map_value Date (date_of text) stamp is in let dated : HasMoment (Date found.0) = tt in subst HasMoment (sym found.2) dated

stamp_case : (utc dated : Bool) (number : Option ℕ) (text : List ℕ) (stamp : Stamp) →
    (if utc then utc_stamp text else (if dated then option_map Date (date_of text) else time_stamp number text)) ≡ Some stamp → HasMoment stamp
stamp_case true dated number text stamp is = utc_read text stamp is
stamp_case false true number text stamp is = date_read text stamp is
stamp_case false false number text stamp is = time_read number text stamp is

grammar_read : (zones : List (List ℕ)) (line : Line) (stamps : List Stamp) → stamps_in_grammar zones line ≡ Some stamps → Each HasMoment stamps
unfolding stamps_in_grammar
grammar_read zones line stamps is =
    each_read HasMoment (stamp_of zones line) (λ text stamp made. stamp_case (is_one_of utc_names line) (is_date_text line text) (line_zone zones line) text stamp made) (items_of line) stamps is

start_read : (moment : List ℕ → Option Stamp) → ((text : List ℕ) (stamp : Stamp) → moment text ≡ Some stamp → HasMoment stamp) → (text : List ℕ) (end : Option PeriodEnd) (start : Option Stamp) (period : Period) →
    moment text ≡ start → period_of_ends start end ≡ Some period → StartsAtMoment period
start_read moment reads text end None period read is = absurd (none-some period is)
start_read moment reads text None (Some start) period read is = absurd (none-some period is)
start_read moment reads text (Some end) (Some start) period read is = subst StartsAtMoment (ap (λ o. unwrap_or o period) is) (reads text start read)

parts_read : (moment : List ℕ → Option Stamp) → ((text : List ℕ) (stamp : Stamp) → moment text ≡ Some stamp → HasMoment stamp) → (parts : Option (List ℕ × List ℕ)) (period : Period) →
    period_by moment parts ≡ Some period → StartsAtMoment period
parts_read moment reads None period is = absurd (none-some period is)
parts_read moment reads (Some p) period is = start_read moment reads p.0 (written_period_end moment p.1) (moment p.0) period refl is

period_case : (utc : Bool) (number : Option ℕ) (text : List ℕ) (period : Period) → (if utc then period_with utc_stamp text else period_with (time_stamp number) text) ≡ Some period → StartsAtMoment period
period_case true number text period is = parts_read utc_stamp utc_read (cut 47 text) period is
period_case false number text period is = parts_read (time_stamp number) (time_read number) (cut 47 text) period is

periods_read : (zones : List (List ℕ)) (line : Line) (periods : List Period) → periods_in_grammar zones line ≡ Some periods → Each StartsAtMoment periods
unfolding periods_in_grammar
periods_read zones line periods is =
    each_read StartsAtMoment (period_of zones line) (λ text period made. period_case (is_one_of utc_names line) (line_zone zones line) text period made) (items_of line) periods is

or_none : {X : Type 0} (P : X → Type 0) (o : Option (List X)) → ((xs : List X) → o ≡ Some xs → Each P xs) → Each P (unwrap_or o [])
or_none P None facts = tt
or_none P (Some xs) facts = facts xs refl

if_else : {X : Type 0} (P : X → Type 0) (b : Bool) (xs ys : List X) → Each P xs → Each P ys → Each P (if b then xs else ys)
if_else P true xs ys these those = these
if_else P false xs ys these those = those

each_stamp : (zones : List (List ℕ)) (line : Line) → Each HasMoment (stamps_in zones line)
each_stamp zones line =
    if_else HasMoment (is_of_periods line) [] (unwrap_or (stamps_in_grammar zones line) []) tt (or_none HasMoment (stamps_in_grammar zones line) (grammar_read zones line))

pub stamps_have_moments : (zones : List (List ℕ)) (line : Line) (stamps : List Stamp) → stamps ≡ stamps_in zones line → All HasMoment stamps
stamps_have_moments zones line stamps are = subst (All HasMoment) (sym are) (All-from_recursion HasMoment (stamps_in zones line) (each_stamp zones line))

pub periods_start_at_moments : (zones : List (List ℕ)) (line : Line) (periods : List Period) → periods ≡ periods_in zones line → All StartsAtMoment periods
periods_start_at_moments zones line periods are =
    subst (All StartsAtMoment) (sym are)
    (All-from_recursion StartsAtMoment (periods_in zones line)
    (if_else StartsAtMoment (is_of_periods line) (unwrap_or (periods_in_grammar zones line) []) [] (or_none StartsAtMoment (periods_in_grammar zones line) (periods_read zones line)) tt))

all_lines : {P : Line → Type 0} → ((line : Line) → P line) → (lines : List Line) → Each P lines
all_lines fact [] = tt
all_lines fact (line ∷ lines) = (fact line, all_lines fact lines)

first_of : (stamps : List Stamp) (stamp : Stamp) → Each HasMoment stamps → first stamps ≡ Some stamp → HasMoment stamp
first_of [] stamp facts is = absurd (none-some stamp is)
first_of (one ∷ stamps) stamp facts is = subst HasMoment (ap (λ o. unwrap_or o stamp) is) facts.0

-- the first stamp of the lines of a name
pub stamp_has_moment : (zones : List (List ℕ)) (name : List ℕ) (lines : List Line) (stamp : Stamp) → stamp_at zones name lines ≡ Some stamp → HasMoment stamp
stamp_has_moment zones name lines stamp is =
    first_of (stamps_at zones name lines) stamp (each-flat_map HasMoment (stamps_in zones) (all_of name lines) (all_lines (each_stamp zones) (all_of name lines))) is
