use Rattle.std.proofs.Common.{◌≡◌, ◌++◌, ℕ, List, length}
use Rattle.std.specs.Prelude.{flat_map}
use Rattle.cal_model.specs.declared.path.Path.TheVariants.{Calendar as CalendarPath}
use Rattle.cal_model.specs.State.NameWalks.{calendars_above}
use Rattle.cal_model.specs.State.SoundStates.{IsSound}
use Rattle.dav_props.specs.Finding.{calendar_text, calendars_of, with_last}
use Rattle.dav_props.proofs.members.push_calendars.Given as goal

-- what is written, and the responses of the calendars that are left, are the whole
abbrev pub invariant-calendars : goal.invariant-calendars
invariant-calendars g l =
    let directory = g.V.View.directory l.seen.view.now in
    let state = g.V.View.state l.seen.view.now in
    let text = calendar_text directory l.seen.who l.props l.owner l.user in
    record {
      member : (name : List ℕ) → with_last l.member name ≡ CalendarPath l.user name;
      text : IsSound directory state → l.out ++ flat_map text (calendars_above state l.owner l.last) ≡ l.initial.out ++ flat_map text (calendars_of state l.owner);
    }

abbrev pub decreases-calendars : goal.decreases-calendars
decreases-calendars g l = length (calendars_above (g.V.View.state l.seen.view.now) l.owner l.last)
