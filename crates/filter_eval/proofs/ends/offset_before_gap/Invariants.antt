use Rattle.std.proofs.Common.{◌≡◌, length, ◌+ℤ◌}
use Rattle.std.specs.Prelude.{filter, int_lt}
use Rattle.cal_model.specs.declared.zone.Onset.{Onset}
use Rattle.cal_model.specs.TimeZones.Zones.{onsets_past}
use Rattle.filter_eval.proofs.ends.offset_before_gap.Given as goal

-- no onset so far leads past the digits
abbrev pub invariant-onsets : goal.invariant-onsets
invariant-onsets l = filter (λ (o : Onset). int_lt l.digits (o.at.0 +ℤ o.offset)) l.rest ≡ onsets_past l.zone l.digits

abbrev pub decreases-onsets : goal.decreases-onsets
decreases-onsets l = length l.rest
