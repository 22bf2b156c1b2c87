-- When the instances of one component start and end, overrides aside. From RFC 5545, 3.8.2.4, 3.8.5.1 to 3.8.5.3 and 3.6.
-- Starts are seconds from 1970: instants, or the digits where the component's own start is floating or a DATE. Each definition takes the list of moments over which rules are taken; no list is walked beside another.
use Rattle.std.specs.Prelude.{ℕ, Bool, true, false, not, if◌then◌else◌, List, [], ◌∷◌, ◌++◌, map, filter, flat_map, ℤ, pos, ◌+ℤ◌, ◌-ℤ◌, int_lt, Option, Some, None, is_some}
use Rattle.std.specs.List.{list_any}
use Rattle.cal_moment.specs.Calendar.{seconds_since_1970}
use Rattle.cal_moment.specs.declared.stamp.Stamp.{Stamp}
use Rattle.cal_moment.specs.declared.stamp.Stamp.TheVariants.{Date}
use Rattle.cal_moment.specs.declared.stamp.Period.{Period}
use Rattle.cal_moment.specs.declared.stamp.PeriodEnd.{PeriodEnd}
use Rattle.cal_moment.specs.declared.stamp.PeriodEnd.TheVariants.{At, After}
use Rattle.cal_model.specs.declared.rule.Rule.{Rule}
use Rattle.cal_model.specs.declared.zone.ZoneTable.{ZoneTable}
use Rattle.cal_model.specs.declared.object.Component.{Component}
use Rattle.cal_model.specs.declared.object.Object.{Object}
use Rattle.cal_model.specs.declared.object.Kind.{Kind}
use Rattle.cal_model.specs.declared.object.Kind.TheVariants.{Todo, FreeBusy}
use Rattle.cal_model.specs.declared.object.Extent.{Extent}
use Rattle.cal_model.specs.declared.object.Extent.TheVariants as extent
use Rattle.cal_model.specs.Words.Integers.{same_int, greatest_of}
use Rattle.cal_model.specs.Recurrence.NextPassing.{is_fine}
use Rattle.cal_model.specs.Recurrence.RecurrenceSet.{recurrence_set_over}
use Rattle.cal_model.specs.Instances.Alignment.{align, reading_of, value_of, written_moment, names_start, start_on, plus_length}

-- The numbers of a list in rising order.

-- a number put into a rising list, where it isn't there yet
abbrev pub put : ℤ → List ℤ → List ℤ
put z [] = z ∷ []
put z (x ∷ xs) = if int_lt z x then z ∷ x ∷ xs else (if same_int z x then x ∷ xs else x ∷ put z xs)

-- the numbers of a list in rising order, each once
abbrev pub ascending : List ℤ → List ℤ
ascending [] = []
ascending (z ∷ zs) = put z (ascending zs)

-- The start of a component by itself.

-- DTSTART, or of a VTODO without it DUE
abbrev pub start_or_due : Kind → Option Stamp → Extent → Option Stamp
start_or_due Todo None (extent.Due e) = Some e
start_or_due other start end = start

-- the same, but a VFREEBUSY needs DTEND beside DTSTART
abbrev pub own_start_of : Kind → Option Stamp → Extent → Option Stamp
own_start_of FreeBusy start (extent.End e) = start
own_start_of FreeBusy start other = None
own_start_of other start end = start_or_due other start end

-- the stamp from which a component starts; none where its row is Undated
abbrev pub own_start : Component → Option Stamp
own_start c = own_start_of c.kind c.start c.extent

abbrev pub is_date : Stamp → Bool
is_date (Date d) = true
is_date other = false

-- Ends.

-- the end of an instance at r that keeps the length of its component, whose own start is s: as long after r as DTEND or DUE is after s, or a DURATION after r, or what stands where the component says nothing
abbrev pub end_of_extent : List ZoneTable → Stamp → Extent → ℤ → ℤ
end_of_extent zones s (extent.End e) r = r +ℤ (value_of zones e -ℤ value_of zones s)
end_of_extent zones s (extent.Due e) r = r +ℤ (value_of zones e -ℤ value_of zones s)
end_of_extent zones s (extent.Lasting length) r = plus_length (reading_of zones s) r length
end_of_extent zones s extent.WholeDay r = r +ℤ pos 86400
end_of_extent zones s extent.Point r = r
end_of_extent zones s extent.None r = r

abbrev pub end_beside : List ZoneTable → Component → Option Stamp → ℤ → ℤ
end_beside zones c None r = r
end_beside zones c (Some s) r = end_of_extent zones s c.extent r

-- the end of an instance at r that keeps the component's length
abbrev pub end_from : List ZoneTable → Component → ℤ → ℤ
end_from zones c r = end_beside zones c (own_start c) r

-- the end of an RDATE period beside the start s, where it starts at r
abbrev pub end_of_period : List ZoneTable → Stamp → ℤ → PeriodEnd → ℤ
end_of_period zones s r (At e) = start_on (reading_of zones s) s (align zones e s)
end_of_period zones s r (After length) = plus_length (reading_of zones s) r length

-- Starts of a component that recurs: it has DTSTART and is no VFREEBUSY. The rules, RDATEs and EXDATEs of others aren't used.

abbrev pub recurs_of : Kind → Option Stamp → Bool
recurs_of FreeBusy start = false
recurs_of other start = is_some start

abbrev pub recurs : Component → Bool
recurs c = recurs_of c.kind c.start

-- the starts that a rule gives
abbrev pub rule_starts : List ℕ → List ZoneTable → Stamp → Rule → List ℤ
rule_starts moments zones s rule =
    map (λ m. (reading_of zones s).instant (seconds_since_1970 m)) (recurrence_set_over moments rule (written_moment s) (reading_of zones s))

-- the start that an RDATE gives, or the start of an RDATE period
abbrev pub date_start : List ZoneTable → Stamp → Stamp → ℤ
date_start zones s x = start_on (reading_of zones s) s (align zones x s)

abbrev pub period_starts : List ZoneTable → Stamp → Component → List ℤ
period_starts zones s c = map (λ (p : Period). date_start zones s p.start) c.periods

-- the starts that keep the component's length: its own, those of its rules and of its RDATEs; beside a DATE also those of its periods, which count as their day
abbrev pub plain_starts : List ℕ → List ZoneTable → Stamp → Component → List ℤ
plain_starts moments zones s c =
    value_of zones s ∷ flat_map (rule_starts moments zones s) c.rules ++ (map (date_start zones s) c.dates ++ (if is_date s then period_starts zones s c else []))

-- an EXDATE takes a start away
abbrev pub is_excepted : List ZoneTable → Stamp → Component → ℤ → Bool
is_excepted zones s c r = list_any (λ x. names_start (reading_of zones s) r (align zones x s)) c.except

abbrev pub recurring_starts : List ℕ → List ZoneTable → Stamp → Component → List ℤ
recurring_starts moments zones s c =
    filter (λ r. not (is_excepted zones s c r)) (ascending (plain_starts moments zones s c ++ period_starts zones s c))

-- the starts of a component, overrides aside: in order, each once
abbrev pub starts_from : List ℕ → List ZoneTable → Component → Option Stamp → List ℤ
starts_from moments zones c None = []
starts_from moments zones c (Some s) = if recurs c then recurring_starts moments zones s c else value_of zones s ∷ []

abbrev pub starts_of : List ℕ → List ZoneTable → Component → List ℤ
starts_of moments zones c = starts_from moments zones c (own_start c)

-- the latest of some ends, or what stands for none
abbrev pub latest_of : ℤ → List ℤ → ℤ
latest_of none [] = none
latest_of none (z ∷ zs) = greatest_of z zs

-- the end of the instance at r: the component's length, or of a start that RDATE periods alone give the end of the longest
abbrev pub end_of_instance : List ℕ → List ZoneTable → Stamp → Component → ℤ → ℤ
end_of_instance moments zones s c r =
    if list_any (same_int r) (plain_starts moments zones s c) then end_of_extent zones s c.extent r
    else latest_of r (map (λ (p : Period). end_of_period zones s r p.end) (filter (λ (p : Period). same_int r (date_start zones s p.start)) c.periods))

-- Rules that the server doesn't expand.

-- some rule of the object recurs by seconds or minutes, used or not
abbrev pub has_fine_rule : Object → Bool
has_fine_rule object = list_any (λ (c : Component). list_any (λ (rule : Rule). is_fine rule.freq) c.rules) object.components
