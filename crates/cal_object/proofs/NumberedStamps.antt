-- The stamps of a line beside the names of zones are those beside no zones, with the number of the line's zone.
use Rattle.std.proofs.Common.{◌≡◌, ℕ, Bool, true, false, List, [], ◌∷◌, ◌++◌, map, refl, sym, ap, ap₂, ◌∙◌}
use Rattle.std.specs.Prelude.{if◌then◌else◌, flat_map, codes, Option, Some, None, option_map, unwrap_or}
use Rattle.std.proofs.lemmas.List.{map-append}
use Rattle.cal_base.specs.declared.line.Line.{Line}
use Rattle.cal_base.specs.Lines.ComponentTrees.{or_else}
use Rattle.cal_base.specs.Lines.ContentLines.{every}
use Rattle.cal_moment.specs.declared.stamp.Length.{Length}
use Rattle.cal_moment.specs.declared.stamp.Local.{Local}
use Rattle.cal_moment.specs.declared.stamp.Period.{Period}
use Rattle.cal_moment.specs.declared.stamp.PeriodEnd.{PeriodEnd}
use Rattle.cal_moment.specs.declared.stamp.PeriodEnd.TheVariants.{At, After}
use Rattle.cal_moment.specs.declared.stamp.Stamp.{Stamp}
use Rattle.cal_moment.specs.declared.stamp.Stamp.TheVariants.{Date, Floating, Zoned, Utc}
use Rattle.cal_moment.specs.declared.stamp.Day.{Day}
use Rattle.cal_moment.specs.declared.stamp.Utc.{Utc as Moment}
use Rattle.cal_model.specs.declared.object.Trigger.{Trigger}
use Rattle.cal_model.specs.declared.object.Trigger.TheVariants.{At as AtMoment, From}
use Rattle.cal_model.specs.Instances.Alignment.{written_value}
use Rattle.cal_model.specs.Values.ValueTexts.{date_of, date_time_of, moment_of, length_of, is_negative, cut}
use Rattle.cal_model.specs.Values.StampTexts.{is_one_of, utc_names, utc_stamp, stamp_of_time, time_stamp, is_date_text, stamp_of, line_zone, zone_number, param_value, items_of, stamps_in_grammar, length_ahead, written_period_end, period_of_ends, period_with, period_of, periods_in_grammar, trigger_of}
use Rattle.cal_model.specs.Objects.ComponentLines.{has_name}
use Rattle.cal_model.specs.Objects.LineValues.{is_of_periods, stamps_in, periods_in}
use Rattle.cal_model.specs.Objects.DateFaults.{trigger_moment, trigger_stamps}
use Rattle.cal_model.specs.Objects.DatedLines.{dated_names, dated_stamps, stamps_of_period, stamps_of_end}
use Rattle.cal_model.proofs.Objects.TestedLines.{period_by}
use Rattle.cal_object.specs.DatesOutside.{numbered}

-- Numbers

pub same_value : (number : Option ℕ) (stamp : Stamp) → written_value (numbered number stamp) ≡ written_value stamp
same_value None stamp = refl
same_value (Some n) (Date day) = refl
same_value (Some n) (Floating local) = refl
same_value (Some n) (Zoned local other) = refl
same_value (Some n) (Utc moment) = refl

numbered_utc : (number : Option ℕ) (moment : Moment) → numbered number (Utc moment) ≡ Utc moment
numbered_utc None moment = refl
numbered_utc (Some n) moment = refl

numbered_date : (number : Option ℕ) (day : Day) → numbered number (Date day) ≡ Date day
numbered_date None day = refl
numbered_date (Some n) day = refl

-- One stamp

map_twice : {X Y Z : Type 0} (f : X → Y) (g : Y → Z) (h : X → Z) → ((x : X) → g (f x) ≡ h x) → (o : Option X) → option_map h o ≡ option_map g (option_map f o)
map_twice f g h same None = refl
map_twice f g h same (Some x) = ap Some (sym (same x))

of_time : (zone : Option (List ℕ)) (zones : List (List ℕ)) (time : Local × Bool) →
    numbered (option_map (zone_number zones) zone) (stamp_of_time (option_map (zone_number []) zone) time) ≡ stamp_of_time (option_map (zone_number zones) zone) time
of_time None zones (local, true) = refl
of_time None zones (local, false) = refl
of_time (Some name) zones (local, true) = refl
of_time (Some name) zones (local, false) = refl

time_numbered : (zones : List (List ℕ)) (line : Line) (text : List ℕ) → time_stamp (line_zone zones line) text ≡ option_map (numbered (line_zone zones line)) (time_stamp (line_zone [] line) text)
time_numbered zones line text =
    map_twice (stamp_of_time (line_zone [] line)) (numbered (line_zone zones line)) (stamp_of_time (line_zone zones line)) (of_time (param_value (codes "TZID") line) zones) (date_time_of text)

utc_numbered : (number : Option ℕ) (text : List ℕ) → utc_stamp text ≡ option_map (numbered number) (utc_stamp text)
utc_numbered number text = map_twice Utc (numbered number) Utc (numbered_utc number) (moment_of text)

stamp_case : (zones : List (List ℕ)) (line : Line) (text : List ℕ) (utc dated : Bool) →
    (if utc then utc_stamp text else (if dated then option_map Date (date_of text) else time_stamp (line_zone zones line) text))
    ≡ option_map (numbered (line_zone zones line)) (if utc then utc_stamp text else (if dated then option_map Date (date_of text) else time_stamp (line_zone [] line) text))
stamp_case zones line text true dated = utc_numbered (line_zone zones line) text
stamp_case zones line text false true = map_twice Date (numbered (line_zone zones line)) Date (numbered_date (line_zone zones line)) (date_of text)
stamp_case zones line text false false = time_numbered zones line text

-- All stamps of a line

further : {X : Type 0} (number : X → X) (x : X) (others : Option (List X)) → option_map (λ xs. number x ∷ xs) (option_map (map number) others) ≡ option_map (map number) (option_map (λ xs. x ∷ xs) others)
further number x None = refl
further number x (Some xs) = refl

one_more : {X : Type 0} (number : X → X) (one : Option X) (these those : List (Option X)) → every these ≡ option_map (map number) (every those) → every (option_map number one ∷ these) ≡ option_map (map number) (every (one ∷ those))
one_more number None these those same = refl
one_more number (Some x) these those same = ap (option_map (λ xs. number x ∷ xs)) same ∙ further number x (every those)

every_numbered : {X : Type 0} (f g : List ℕ → Option X) (number : X → X) → ((text : List ℕ) → f text ≡ option_map number (g text)) → (texts : List (List ℕ)) →
    every (map f texts) ≡ option_map (map number) (every (map g texts))
every_numbered f g number same [] = refl
every_numbered f g number same (text ∷ texts) =
    ap (λ one. every (one ∷ map f texts)) (same text) ∙ one_more number (g text) (map f texts) (map g texts) (every_numbered f g number same texts)

all_or_none : {X : Type 0} (number : X → X) (o other : Option (List X)) → o ≡ option_map (map number) other → unwrap_or o [] ≡ map number (unwrap_or other [])
all_or_none number o None same = ap (λ one. unwrap_or one []) same
all_or_none number o (Some xs) same = ap (λ one. unwrap_or one []) same

grammar_numbered : (zones : List (List ℕ)) (line : Line) → stamps_in_grammar zones line ≡ option_map (map (numbered (line_zone zones line))) (stamps_in_grammar [] line)
unfolding stamps_in_grammar
grammar_numbered zones line =
    every_numbered (stamp_of zones line) (stamp_of [] line) (numbered (line_zone zones line)) (λ text. stamp_case zones line text (is_one_of utc_names line) (is_date_text line text)) (items_of line)

if_map : {X : Type 0} (b : Bool) (number : X → X) (xs ys : List X) → xs ≡ map number ys → (if b then [] else xs) ≡ map number (if b then [] else ys)
if_map true number xs ys same = refl
if_map false number xs ys same = same

stamps_numbered : (zones : List (List ℕ)) (line : Line) → stamps_in zones line ≡ map (numbered (line_zone zones line)) (stamps_in [] line)
stamps_numbered zones line =
    if_map (is_of_periods line) (numbered (line_zone zones line)) (unwrap_or (stamps_in_grammar zones line) []) (unwrap_or (stamps_in_grammar [] line) [])
    (all_or_none (numbered (line_zone zones line)) (stamps_in_grammar zones line) (stamps_in_grammar [] line) (grammar_numbered zones line))

-- Periods

abbrev number_end : Option ℕ → PeriodEnd → PeriodEnd
number_end number (At end) = At (numbered number end)
number_end number (After length) = After length

abbrev number_period : Option ℕ → Period → Period
number_period number period = record { start = numbered number period.start; end = number_end number period.end }

ahead_case : (number : Option ℕ) (b : Bool) (found : Option Length) → (if b then None else option_map After found) ≡ option_map (number_end number) (if b then None else option_map After found)
ahead_case number true found = refl
ahead_case number false None = refl
ahead_case number false (Some length) = refl

or_map : {X : Type 0} (f : X → X) (a b c d : Option X) → a ≡ option_map f c → b ≡ option_map f d → or_else a b ≡ option_map f (or_else c d)
or_map f a b None d first second = ap (λ o. or_else o b) first ∙ second
or_map f a b (Some x) d first second = ap (λ o. or_else o b) first

end_case : (number : Option ℕ) (a b : Option Stamp) (ahead : Option PeriodEnd) → a ≡ option_map (numbered number) b → ahead ≡ option_map (number_end number) ahead →
    or_else (option_map At a) ahead ≡ option_map (number_end number) (or_else (option_map At b) ahead)
end_case number a b ahead same none = or_map (number_end number) (option_map At a) ahead (option_map At b) ahead (ap (option_map At) same ∙ ended b) none
  where
    ended : (o : Option Stamp) → option_map At (option_map (numbered number) o) ≡ option_map (number_end number) (option_map At o)
    ended None = refl
    ended (Some stamp) = refl

ends_case : (number : Option ℕ) (a b : Option Stamp) (e f : Option PeriodEnd) → a ≡ option_map (numbered number) b → e ≡ option_map (number_end number) f →
    period_of_ends a e ≡ option_map (number_period number) (period_of_ends b f)
ends_case number a b e f starts ends = ap₂ period_of_ends starts ends ∙ made b f
  where
    made : (start : Option Stamp) (end : Option PeriodEnd) → period_of_ends (option_map (numbered number) start) (option_map (number_end number) end) ≡ option_map (number_period number) (period_of_ends start end)
    made None end = refl
    made (Some start) None = refl
    made (Some start) (Some end) = refl

parts_case : (number : Option ℕ) (moment other : List ℕ → Option Stamp) → ((text : List ℕ) → moment text ≡ option_map (numbered number) (other text)) → (parts : Option (List ℕ × List ℕ)) →
    period_by moment parts ≡ option_map (number_period number) (period_by other parts)
parts_case number moment other same None = refl
parts_case number moment other same (Some p) =
    ends_case number (moment p.0) (other p.0) (written_period_end moment p.1) (written_period_end other p.1) (same p.0)
    (end_case number (moment p.1) (other p.1) (length_ahead p.1) (same p.1) (ahead_case number (is_negative p.1) (length_of p.1)))

period_case : (zones : List (List ℕ)) (line : Line) (text : List ℕ) (utc : Bool) →
    (if utc then period_with utc_stamp text else period_with (time_stamp (line_zone zones line)) text)
    ≡ option_map (number_period (line_zone zones line)) (if utc then period_with utc_stamp text else period_with (time_stamp (line_zone [] line)) text)
period_case zones line text true = parts_case (line_zone zones line) utc_stamp utc_stamp (utc_numbered (line_zone zones line)) (cut 47 text)
period_case zones line text false = parts_case (line_zone zones line) (time_stamp (line_zone zones line)) (time_stamp (line_zone [] line)) (time_numbered zones line) (cut 47 text)

period_grammar_numbered : (zones : List (List ℕ)) (line : Line) → periods_in_grammar zones line ≡ option_map (map (number_period (line_zone zones line))) (periods_in_grammar [] line)
unfolding periods_in_grammar
period_grammar_numbered zones line =
    every_numbered (period_of zones line) (period_of [] line) (number_period (line_zone zones line)) (λ text. period_case zones line text (is_one_of utc_names line)) (items_of line)

else_map : {X : Type 0} (b : Bool) (number : X → X) (xs ys : List X) → xs ≡ map number ys → (if b then xs else []) ≡ map number (if b then ys else [])
else_map true number xs ys same = same
else_map false number xs ys same = refl

periods_numbered : (zones : List (List ℕ)) (line : Line) → periods_in zones line ≡ map (number_period (line_zone zones line)) (periods_in [] line)
periods_numbered zones line =
    else_map (is_of_periods line) (number_period (line_zone zones line)) (unwrap_or (periods_in_grammar zones line) []) (unwrap_or (periods_in_grammar [] line) [])
    (all_or_none (number_period (line_zone zones line)) (periods_in_grammar zones line) (periods_in_grammar [] line) (period_grammar_numbered zones line))

end_stamps : (number : Option ℕ) (end : PeriodEnd) → stamps_of_end (number_end number end) ≡ map (numbered number) (stamps_of_end end)
end_stamps number (At end) = refl
end_stamps number (After length) = refl

period_stamps : (number : Option ℕ) (periods : List Period) → flat_map stamps_of_period (map (number_period number) periods) ≡ map (numbered number) (flat_map stamps_of_period periods)
period_stamps number [] = refl
period_stamps number (period ∷ periods) =
    ap₂ (λ a b. (numbered number period.start ∷ a) ++ b) (end_stamps number period.end) (period_stamps number periods)
    ∙ sym (map-append (numbered number) (stamps_of_period period) (flat_map stamps_of_period periods))

-- The dates of a line

pub dated_numbered : (zones : List (List ℕ)) (line : Line) → dated_stamps zones line ≡ map (numbered (line_zone zones line)) (dated_stamps [] line)
dated_numbered zones line =
    let number = line_zone zones line in
    else_map (is_one_of dated_names line) (numbered number) (stamps_in zones line ++ flat_map stamps_of_period (periods_in zones line)) (stamps_in [] line ++ flat_map stamps_of_period (periods_in [] line))
    (ap₂ (λ a b. a ++ b) (stamps_numbered zones line) (ap (flat_map stamps_of_period) (periods_numbered zones line) ∙ period_stamps number (periods_in [] line))
    ∙ sym (map-append (numbered number) (stamps_in [] line) (flat_map stamps_of_period (periods_in [] line))))

trigger_case : (number : Option ℕ) (trigger : Option Trigger) → trigger_moment trigger ≡ map (numbered number) (trigger_moment trigger)
trigger_case number None = refl
trigger_case number (Some (AtMoment moment)) = ap (λ stamp. stamp ∷ []) (sym (numbered_utc number moment))
trigger_case number (Some (From related length)) = refl

pub trigger_numbered : (number : Option ℕ) (line : Line) → trigger_stamps line ≡ map (numbered number) (trigger_stamps line)
trigger_numbered number line =
    else_map (has_name (codes "TRIGGER") line) (numbered number) (trigger_moment (trigger_of line)) (trigger_moment (trigger_of line)) (trigger_case number (trigger_of line))
