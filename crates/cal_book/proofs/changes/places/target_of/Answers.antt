use Rattle.std.proofs.Common.{ap, ◌∙◌}
use Rattle.cal_model.specs.Sight.Scenes.{calendar_in}
use Rattle.cal_book.proofs.Checking.PlaceLemmas.{path_with, target_there}
use Rattle.cal_book.specs.Checking.Passed.{sighted}
use Rattle.cal_book.proofs.changes.places.target_of.Goals as goal

pub returns : goal.returns
returns c = record {
  target = λ directory state request passed.
      let place = c.place_of.ensures.place directory state request passed in
      let path_is = path_with c.args.scene.now.path.now _ _ _ _ c.in-Object.is (ap calendar_in passed.scene.path ∙ place.named) in
      target_there directory state c.args.scene.now request passed _ place path_is c.is_some.ensures (c.accepted_status.ensures (sighted directory state c.args.scene.now) passed.scene);
}
