use Rattle.std.proofs.Common.{◌≡◌, length}
use Rattle.cal_model.specs.TimeZones.Zones.{instants_of}
use Rattle.filter_eval.specs.Instants.{least_there, lesser}
use Rattle.filter_eval.proofs.LeastInstants.{made_by, offsets_of}
use Rattle.filter_eval.proofs.ends.least_instant.Given as goal

-- the least so far, or the least by the onsets to come, is the least of all
abbrev pub invariant-onsets : goal.invariant-onsets
invariant-onsets l = lesser l.least (least_there (made_by l.zone l.digits (offsets_of l.rest))) ≡ least_there (instants_of l.zone l.digits)

abbrev pub decreases-onsets : goal.decreases-onsets
decreases-onsets l = length l.rest
