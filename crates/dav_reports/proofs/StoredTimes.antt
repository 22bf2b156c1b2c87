-- The stored periods of components, one component after another.
use Rattle.std.specs.Prelude.{All}
use Rattle.std.proofs.lemmas.List.Elements.{All-nil}
use Rattle.cal_model.specs.declared.object.Component.{Component}
use Rattle.cal_model.specs.declared.object.Kind.{Kind}
use Rattle.cal_model.specs.declared.object.Kind.TheVariants.{Event, Todo, Journal, FreeBusy}
use Rattle.cal_model.specs.Busy.BusyTimes.{stored_periods}
use Rattle.dav_reports.specs.ObjectTimes.{IsNearStored}

pub kept_near : (kind : Kind) (c : Component) → All IsNearStored c.stored_busy → All IsNearStored (stored_periods kind c)
kept_near FreeBusy c near = near
kept_near Event c near = All-nil IsNearStored
kept_near Todo c near = All-nil IsNearStored
kept_near Journal c near = All-nil IsNearStored
