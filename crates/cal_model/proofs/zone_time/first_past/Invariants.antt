use Rattle.std.proofs.Common.{◌≡◌, false}
use Rattle.std.specs.List.{AllWithin}
use Rattle.cal_model.specs.declared.zone.Onset.{Onset}
use Rattle.cal_model.specs.Conversions.Stretches.{leads_past}
use Rattle.cal_model.proofs.zone_time.first_past.Given as goal

-- no onset before leads past it
abbrev pub invariant-loop-k : goal.invariant-loop-k
invariant-loop-k l = AllWithin (λ (o : Onset). leads_past l.local o ≡ false) l.onsets 0 l.k
