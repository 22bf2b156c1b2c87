-- The periods of a line have no DATE: their moments are DATE-TIMEs (RFC 5545, 3.3.9).
use Rattle.std.proofs.Common.{◌≡◌, ℕ, List, [], ◌∷◌, refl, ap, Bool, true, false, subst}
use Rattle.std.specs.Prelude.{Option, Some, None, option_map, unwrap_or, if◌then◌else◌}
use Rattle.std.specs.List.{AllByRecursion as Each}
use Rattle.std.proofs.lemmas.Option.{none-some}
use Rattle.cal_base.specs.declared.line.Line.{Line}
use Rattle.cal_base.specs.Lines.ComponentTrees.{or_else}
use Rattle.cal_moment.specs.declared.stamp.Length.{Length}
use Rattle.cal_moment.specs.declared.stamp.Local.{Local}
use Rattle.cal_moment.specs.declared.stamp.Period.{Period}
use Rattle.cal_moment.specs.declared.stamp.PeriodEnd.{PeriodEnd}
use Rattle.cal_moment.specs.declared.stamp.PeriodEnd.TheVariants.{At as EndAt, After}
use Rattle.cal_moment.specs.declared.stamp.Stamp.{Stamp}
use Rattle.cal_moment.specs.declared.stamp.Stamp.TheVariants.{Utc as AtUtc}
use Rattle.cal_model.specs.Instances.Starts.{is_date}
use Rattle.cal_model.specs.Ranges.Nearness.{end_is_date, IsTimed}
use Rattle.cal_model.specs.Values.ValueTexts.{date_time_of, moment_of, length_of, is_negative, cut}
use Rattle.cal_model.specs.Values.StampTexts.{stamp_of_time, time_stamp, utc_stamp, line_zone, utc_names, is_one_of, items_of, length_ahead, written_period_end, period_of_ends, period_with, period_of, periods_in_grammar}
use Rattle.cal_model.specs.Objects.LineValues.{is_of_periods, periods_in, periods_at}
use Rattle.cal_model.specs.Objects.ComponentLines.{all_of}
use Rattle.cal_model.proofs.Words.EachLemmas.{each-flat_map}
use Rattle.cal_model.proofs.Objects.TestedLines.{period_by}
use Rattle.cal_model.proofs.Objects.RuleBounds.{map_value, each_read}
use Rattle.cal_model.proofs.Objects.ShortLengths.{if_true}

-- Moments

stamp_of_time-timed : (number : Option ℕ) (time : Local × Bool) → is_date (stamp_of_time number time) ≡ false
stamp_of_time-timed None (local, true) = refl
stamp_of_time-timed None (local, false) = refl
stamp_of_time-timed (Some number) (local, true) = refl
stamp_of_time-timed (Some number) (local, false) = refl

time_stamp-timed : (number : Option ℕ) (text : List ℕ) (stamp : Stamp) → time_stamp number text ≡ Some stamp → is_date stamp ≡ false
time_stamp-timed number text stamp is = let found = map_value (stamp_of_time number) (date_time_of text) stamp is in rw found.2 (stamp_of_time-timed number found.0)

utc_stamp-timed : (text : List ℕ) (stamp : Stamp) → utc_stamp text ≡ Some stamp → is_date stamp ≡ false
utc_stamp-timed text stamp is = let found = map_value AtUtc (moment_of text) stamp is in rw found.2 refl

-- Periods

-- a reading of texts gives no DATE
abbrev IsTimedReading : (List ℕ → Option Stamp) → Type 0
IsTimedReading moment = (text : List ℕ) (stamp : Stamp) → moment text ≡ Some stamp → is_date stamp ≡ false

length_timed : (negative : Bool) (length : Option Length) (end : PeriodEnd) → (if negative then None else option_map After length) ≡ Some end → end_is_date end ≡ false
length_timed true length end is = absurd (none-some end is)
length_timed false length end is = let found = map_value After length end is in rw found.2 refl

end_timed : (at : Option Stamp) (ahead : Option PeriodEnd) (end : PeriodEnd) → ((stamp : Stamp) → at ≡ Some stamp → is_date stamp ≡ false) → ((e : PeriodEnd) → ahead ≡ Some e → end_is_date e ≡ false) →
    or_else (option_map EndAt at) ahead ≡ Some end → end_is_date end ≡ false
end_timed None ahead end timed later is = later end is
end_timed (Some stamp) ahead end timed later is = subst (λ e. end_is_date e ≡ false) (ap (λ o. unwrap_or o end) is) (timed stamp refl)

ends_timed : (start : Option Stamp) (end : Option PeriodEnd) (period : Period) → ((stamp : Stamp) → start ≡ Some stamp → is_date stamp ≡ false) → ((e : PeriodEnd) → end ≡ Some e → end_is_date e ≡ false) →
    period_of_ends start end ≡ Some period → IsTimed period
ends_timed None end period first last is = absurd (none-some period is)
ends_timed (Some start) None period first last is = absurd (none-some period is)
ends_timed (Some start) (Some end) period first last is = subst IsTimed (ap (λ o. unwrap_or o period) is) (record { start = first start refl; end = last end refl })

parts_timed : (moment : List ℕ → Option Stamp) → IsTimedReading moment → (parts : Option (List ℕ × List ℕ)) (period : Period) → period_by moment parts ≡ Some period → IsTimed period
parts_timed moment timed None period is = absurd (none-some period is)
parts_timed moment timed (Some p) period is =
    ends_timed (moment p.0) (written_period_end moment p.1) period (timed p.0)
    (λ end found. end_timed (moment p.1) (length_ahead p.1) end (timed p.1) (λ e ahead. length_timed (is_negative p.1) (length_of p.1) e ahead) found) is

period_timed : (zones : List (List ℕ)) (line : Line) (text : List ℕ) (period : Period) (utc : Bool) →
    (if utc then period_with utc_stamp text else period_with (time_stamp (line_zone zones line)) text) ≡ Some period → IsTimed period
period_timed zones line text period true is = parts_timed utc_stamp utc_stamp-timed (cut 47 text) period is
period_timed zones line text period false is = parts_timed (time_stamp (line_zone zones line)) (time_stamp-timed (line_zone zones line)) (cut 47 text) period is

-- Lines

grammar_timed : (zones : List (List ℕ)) (line : Line) (periods : List Period) → periods_in_grammar zones line ≡ Some periods → Each IsTimed periods
unfolding periods_in_grammar
grammar_timed zones line periods is = each_read IsTimed (period_of zones line) (λ text period found. period_timed zones line text period (is_one_of utc_names line) found) (items_of line) periods is

each_of_some : (periods : Option (List Period)) → ((ps : List Period) → periods ≡ Some ps → Each IsTimed ps) → Each IsTimed (unwrap_or periods [])
each_of_some None timed = tt
each_of_some (Some periods) timed = timed periods refl

each_line : (zones : List (List ℕ)) (lines : List Line) → Each (λ line. Each IsTimed (periods_in zones line)) lines
each_line zones [] = tt
each_line zones (line ∷ lines) = (
  if_true IsTimed (unwrap_or (periods_in_grammar zones line) []) (is_of_periods line) (λ is. each_of_some (periods_in_grammar zones line) (grammar_timed zones line)),
  each_line zones lines,
)

-- no moment of a period of some lines is a DATE
pub periods_timed : (zones : List (List ℕ)) (name : List ℕ) (lines : List Line) → Each IsTimed (periods_at zones name lines)
periods_timed zones name lines = each-flat_map IsTimed (periods_in zones) (all_of name lines) (each_line zones (all_of name lines))
