use Rattle.std.proofs.Common.{◌≡◌, List, ℕ, Some, sym, ap, ◌∙◌}
use Rattle.std.specs.Borrow.{Bor}
use Rattle.cal_model.specs.Sight.Scenes.{calendar_in}
use Rattle.cal_book.proofs.Checking.PlaceLemmas.{named_either, place_there}
use Rattle.cal_book.proofs.changes.places.place_of.Goals as goal
use Rattle.cal_book.proofs.changes.places.place_of.Goals.{in-Calendar, in-Calendar-2}

pub returns : goal.returns
returns c = record {
  place = λ directory state request passed.
      let named : calendar_in c.args.scene.now.path.now ≡ Some c.match-scene-3.calendar.now =
      elim c.match-scene-3.branch [
        | in-Calendar w ↦ named_either c.args.scene.now.path.now w.in-Calendar.calendar w.in-Calendar.is ∙ ap (λ (b : Bor (List ℕ)). Some b.now) (sym w.calendar-is)
        | in-Calendar-2 w ↦ named_either c.args.scene.now.path.now w.in-Calendar.calendar w.in-Calendar.is ∙ ap (λ (b : Bor (List ℕ)). Some b.now) (sym w.calendar-is)
      ] in
      place_there directory state c.args.scene.now request passed _ c.in-Some.is c.in-Some-calendar.is named;
}
