-- Each stamp that a line spells is of the years 1 to 9999, and so are its local digits alone.
use Rattle.std.proofs.Common.{◌≡◌, ℕ, ◌<◌, Bool, true, false, List, [], ◌∷◌, sym, subst, arith, ℤ}
use Rattle.std.specs.Prelude.{All, Option, Some, None, IfSome, if◌then◌else◌, option_map}
use Rattle.std.specs.List.{AllByRecursion as Each, list_all}
use Rattle.std.proofs.lemmas.Int.{ints}
use Rattle.std.proofs.lemmas.Option.{cond_some}
use Rattle.std.proofs.lemmas.List.Elements.{All-from_recursion}
use Rattle.cal_base.specs.declared.line.Line.{Line}
use Rattle.cal_base.specs.Lines.ComponentTrees.{first}
use Rattle.cal_moment.specs.Calendar.{IsCalendarMoment}
use Rattle.cal_moment.specs.Texts.{local_of_seconds}
use Rattle.cal_moment.specs.declared.stamp.Local.{Local}
use Rattle.cal_moment.specs.declared.stamp.Stamp.{Stamp}
use Rattle.cal_moment.specs.declared.stamp.Stamp.TheVariants.{Date, Utc}
use Rattle.cal_model.specs.Filters.DateProperties.{as_floating}
use Rattle.cal_model.specs.Instances.Alignment.{written_value}
use Rattle.cal_model.specs.Recurrence.RuleBounds.{IsWritten}
use Rattle.cal_model.specs.Values.LocalTimes.{local_seconds}
use Rattle.cal_model.specs.Values.ValueTexts.{date_of, date_time_of, moment_of, utc_of_local}
use Rattle.cal_model.specs.Values.StampTexts.{stamp_of_time, time_stamp, utc_stamp, stamp_of, stamps_in_grammar, stamps_of, is_known, if_known, is_one_of, utc_names, is_date_text, line_zone, items_of}
use Rattle.cal_model.proofs.Objects.WrittenDates.{date_read, date_time_read, moment_of_digits}
use Rattle.cal_model.proofs.Objects.RuleBounds.{map_value, and_then_value, each_read}
use Rattle.filter_eval.specs.Instants.{IsDated}

timed : (number : Option ℕ) (time : Local × Bool) → IsWritten time.0 → IsDated (stamp_of_time number time)
timed None (local, true) written = moment_of_digits local.day local.second written.from_first written.to_last written.second_below
timed (Some number) (local, true) written = moment_of_digits local.day local.second written.from_first written.to_last written.second_below
timed None (local, false) written = moment_of_digits local.day local.second written.from_first written.to_last written.second_below
timed (Some number) (local, false) written = moment_of_digits local.day local.second written.from_first written.to_last written.second_below

time_dated : (number : Option ℕ) (text : List ℕ) (stamp : Stamp) → time_stamp number text ≡ Some stamp → IsDated stamp
time_dated number text stamp is =
    let found = map_value (stamp_of_time number) (date_time_of text) stamp is in
    subst IsDated (sym found.2) (timed number found.0 (date_time_read text found.0 found.1))

moment_dated : (local : Local) → IsWritten local → IsDated (Utc (utc_of_local local))
moment_dated local written = moment_of_digits local.day local.second written.from_first written.to_last written.second_below

utc_dated : (text : List ℕ) (stamp : Stamp) → utc_stamp text ≡ Some stamp → IsDated stamp
utc_dated text stamp is =
    let found = map_value Utc (moment_of text) stamp is in
    let moment = map_value (λ (time : Local × Bool). utc_of_local time.0) (date_time_of text) found.0 found.1 in
    subst IsDated (sym found.2) (subst (λ m. IsDated (Utc m)) (sym moment.2) (moment_dated moment.0.0 (date_time_read text moment.0 moment.1)))

date_dated : (text : List ℕ) (stamp : Stamp) → option_map Date (date_of text) ≡ Some stamp → IsDated stamp
date_dated text stamp is =
    let found = map_value Date (date_of text) stamp is in
    let within = date_read text found.0 found.1 in
    subst IsDated (sym found.2) (omega (arith, ints, within), omega (arith, ints, within))

case_dated : (utc dated : Bool) (number : Option ℕ) (text : List ℕ) (stamp : Stamp) →
    (if utc then utc_stamp text else (if dated then option_map Date (date_of text) else time_stamp number text)) ≡ Some stamp → IsDated stamp
case_dated true dated number text stamp is = utc_dated text stamp is
case_dated false true number text stamp is = date_dated text stamp is
case_dated false false number text stamp is = time_dated number text stamp is

stamp_dated : (zones : List (List ℕ)) (line : Line) (text : List ℕ) (stamp : Stamp) → stamp_of zones line text ≡ Some stamp → IsDated stamp
stamp_dated zones line text stamp is = case_dated (is_one_of utc_names line) (is_date_text line text) (line_zone zones line) text stamp is

grammar_dated : (zones : List (List ℕ)) (line : Line) (stamps : List Stamp) → stamps_in_grammar zones line ≡ Some stamps → Each IsDated stamps
unfolding stamps_in_grammar
grammar_dated zones line stamps is = each_read IsDated (stamp_of zones line) (stamp_dated zones line) (items_of line) stamps is

pub all_dated : (zones : List (List ℕ)) (line : Line) (stamps : List Stamp) → stamps_in_grammar zones line ≡ Some stamps → All IsDated stamps
all_dated zones line stamps is = All-from_recursion IsDated stamps (grammar_dated zones line stamps is)

-- the first one, by its zone or by its digits alone

first_each : (stamps : List Stamp) → Each IsDated stamps → IfSome (first stamps) IsDated
first_each [] all = tt
first_each (stamp ∷ stamps) all = all.0

pub own_dated : (zones : List (List ℕ)) (line : Line) (stamps : List Stamp) → stamps_of zones line ≡ Some stamps → IfSome (first stamps) IsDated
own_dated zones line stamps is =
    let found = and_then_value (if_known zones) (stamps_in_grammar zones line) stamps is in
    let known = cond_some (list_all (is_known zones) found.0) found.0 stamps found.2 in
    first_each stamps (subst (Each IsDated) known.1 (grammar_dated zones line found.0 found.1))

-- the digits of a moment of these years, as a local time, are its own
pub local_of_seconds-digits : (z : ℤ) → IsCalendarMoment z → local_seconds (local_of_seconds z) ≡ z
local_of_seconds-digits z within = omega (arith, ints, within)

floating_each : (stamps : List Stamp) → Each IsDated stamps → IfSome (option_map as_floating (first stamps)) IsDated
floating_each [] all = tt
floating_each (stamp ∷ stamps) all = subst IsCalendarMoment (sym (local_of_seconds-digits (written_value stamp) all.0)) all.0

pub floating_dated : (zones : List (List ℕ)) (line : Line) (stamps : List Stamp) → stamps_in_grammar zones line ≡ Some stamps → IfSome (option_map as_floating (first stamps)) IsDated
floating_dated zones line stamps is = floating_each stamps (grammar_dated zones line stamps is)

-- a local time with the digits of a moment of these years is that moment's
pub local_of_digits : (local : Local) (z : ℤ) → IsCalendarMoment z → local_seconds local ≡ z → local.second < 86_400 → local ≡ local_of_seconds z
local_of_digits local z within digits below =
    let day : local.day ≡ (local_of_seconds z).day = omega (arith, ints, within, digits) in
    let second : local.second ≡ (local_of_seconds z).second = omega (arith, ints, within, digits) in
    λ i. record { day = day i; second = second i }
