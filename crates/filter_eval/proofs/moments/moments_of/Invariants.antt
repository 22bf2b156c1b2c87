use Rattle.std.proofs.Common.{◌≡◌, ◌++◌, ◌-◌, length}
use Rattle.std.specs.Prelude.{filter_map}
use Rattle.filter_eval.specs.AlarmMoments.{moment_of, moments_of}
use Rattle.filter_eval.specs.Places.{matched_of}
use Rattle.filter_eval.specs.Walks.{rows_from}
use Rattle.filter_eval.proofs.moments.moments_of.Given as goal

-- those of the rows so far, with those of the rows of the component from the place on, are all
abbrev pub invariant-rows : goal.invariant-rows
invariant-rows l =
    l.moments ++ filter_map (moment_of (matched_of l.subject) l.related l.component) (rows_from l.subject l.number l.place)
    ≡ moments_of (matched_of l.subject) (record { number = l.number; component = l.component }) l.related

abbrev pub decreases-rows : goal.decreases-rows
decreases-rows l = length l.subject.rows.now - l.place
