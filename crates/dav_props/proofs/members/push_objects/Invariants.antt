use Rattle.std.proofs.Common.{◌≡◌, ◌++◌, ℕ, List, map}
use Rattle.std.specs.Prelude.{flat_map}
use Rattle.cal_model.specs.declared.path.Path.TheVariants.{Object as ObjectPath}
use Rattle.cal_model.specs.Sight.Views.{Sight}
use Rattle.object_walk.specs.WalkedObjects.{named_octets, objects_at}
use Rattle.dav_props.specs.Finding.{object_text, with_last}
use Rattle.dav_props.proofs.members.push_objects.Given as goal

-- what is written, and the responses of the objects that are left, are the whole
abbrev pub invariant-walk : goal.invariant-walk
invariant-walk g l =
    let directory = g.V.View.directory l.seen.view.now in
    let state = g.V.View.state l.seen.view.now in
    record {
      member : (name : List ℕ) → with_last l.member name ≡ ObjectPath l.user l.calendar name;
      text : (sight : Sight) → sight.held ≡ l.held
          → l.out ++ flat_map (object_text directory l.seen.who l.props l.user l.calendar sight) (map named_octets l.stored-iterator)
          ≡ l.initial.out ++ flat_map (object_text directory l.seen.who l.props l.user l.calendar sight) (objects_at state l.owner l.calendar);
    }
