-- The end that a start and a length make, by the kind of the start; and how near instants and local times are.
use Rattle.std.proofs.Common.{◌≡◌, ℕ, ◌≤◌, refl, sym, ap, ◌∙◌, subst, ℤ, pos, ◌+ℤ◌, ◌*ℤ◌, List, length}
use Rattle.std.proofs.lemmas.List.{get_or_past}
use Rattle.cal_moment.specs.declared.stamp.Day.{Day}
use Rattle.cal_moment.specs.declared.stamp.Length.{Length}
use Rattle.cal_moment.specs.declared.stamp.Local.{Local}
use Rattle.cal_moment.specs.declared.stamp.Stamp.{Stamp}
use Rattle.cal_moment.specs.declared.stamp.Stamp.TheVariants.{Date, Floating, Zoned, Utc}
use Rattle.cal_moment.specs.declared.stamp.Utc.{Utc as Moment}
use Rattle.cal_model.specs.declared.zone.ZoneTable.{ZoneTable}
use Rattle.cal_model.specs.Instances.Alignment.{written_value, zone_of, utc_zone}
use Rattle.cal_model.specs.Ranges.Nearness.{IsNear}
use Rattle.cal_model.specs.Ranges.Overlap.{effective_end}
use Rattle.cal_model.specs.TimeZones.TableBounds.{IsTable}
use Rattle.cal_model.specs.TimeZones.Zones.{instant_of, local_at}
use Rattle.cal_model.proofs.TimeZones.NearTimes.{instant_of-near, local_at-near, HasShortOffsets-table}
use Rattle.filter_eval.specs.Instants.{zoned_later}
use Rattle.filter_eval.proofs.UtcClock.{instant_of_utc, local_at_utc}

pub instant_near : (zone : ZoneTable) (digits : ℤ) → IsTable zone → IsNear 86_400 (instant_of zone digits) digits
instant_near zone digits is = instant_of-near zone digits (HasShortOffsets-table zone is)

pub local_near : (zone : ZoneTable) (instant : ℤ) → IsTable zone → IsNear 86_400 (local_at zone instant) instant
local_near zone instant is = local_at-near zone instant (HasShortOffsets-table zone is)

pub utc_later : (digits later : ℤ) → zoned_later utc_zone digits later ≡ digits +ℤ later
utc_later digits later =
    instant_of_utc (local_at utc_zone (instant_of utc_zone digits) +ℤ later)
    ∙ ap (λ z. z +ℤ later) (local_at_utc (instant_of utc_zone digits) ∙ instant_of_utc digits)

-- a number that no zone has stands for UTC
pub missing_zone : (zones : List ZoneTable) (number : ℕ) (digits later : ℤ) → length zones ≤ number → zoned_later (zone_of zones number) digits later ≡ digits +ℤ later
missing_zone zones number digits later gone = ap (λ (zone : ZoneTable). zoned_later zone digits later) (get_or_past zones number utc_zone gone) ∙ utc_later digits later

pub date_end : (zones : List ZoneTable) (floating : ZoneTable) (start : Stamp) (length : Length) (day : Day) → start ≡ Date day →
    instant_of floating (written_value start +ℤ length.days *ℤ pos 86_400 +ℤ length.seconds) ≡ effective_end zones floating start length
date_end zones floating start length day is =
    subst (λ (s : Stamp). instant_of floating (written_value s +ℤ length.days *ℤ pos 86_400 +ℤ length.seconds) ≡ effective_end zones floating s length) (sym is) refl

pub floating_end : (zones : List ZoneTable) (floating : ZoneTable) (start : Stamp) (length : Length) (local : Local) → start ≡ Floating local →
    instant_of floating (written_value start +ℤ length.days *ℤ pos 86_400 +ℤ length.seconds) ≡ effective_end zones floating start length
floating_end zones floating start length local is =
    subst (λ (s : Stamp). instant_of floating (written_value s +ℤ length.days *ℤ pos 86_400 +ℤ length.seconds) ≡ effective_end zones floating s length) (sym is) refl

pub utc_end : (zones : List ZoneTable) (floating : ZoneTable) (start : Stamp) (length : Length) (moment : Moment) → start ≡ Utc moment →
    written_value start +ℤ length.days *ℤ pos 86_400 +ℤ length.seconds ≡ effective_end zones floating start length
utc_end zones floating start length moment is =
    subst (λ (s : Stamp). written_value s +ℤ length.days *ℤ pos 86_400 +ℤ length.seconds ≡ effective_end zones floating s length) (sym is) refl

pub zoned_end : (zones : List ZoneTable) (floating : ZoneTable) (start : Stamp) (length : Length) (local : Local) (number : ℕ) → start ≡ Zoned local number →
    zoned_later (zone_of zones number) (written_value start) (length.days *ℤ pos 86_400) +ℤ length.seconds ≡ effective_end zones floating start length
zoned_end zones floating start length local number is =
    subst (λ (s : Stamp). zoned_later (zone_of zones number) (written_value s) (length.days *ℤ pos 86_400) +ℤ length.seconds ≡ effective_end zones floating s length) (sym is) refl
