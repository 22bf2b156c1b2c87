use Rattle.std.proofs.Common.{◌≡◌, ◌∙◌, Some, sym, ap, subst, map}
use Rattle.std.specs.List.{AllByRecursion}
use Rattle.std.specs.Map.{values_of}
use Rattle.cal_base.specs.Lists.NameMap.{value_at}
use Rattle.object_walk.specs.declared.entry.ObjectEntry.{ObjectEntry}
use Rattle.object_walk.specs.WalkedObjects.{AreInCalendar}
use Rattle.collections.specs.Calendars.{kept_entry, shown_object}
use Rattle.collections.proofs.WalkLemmas.{objects_shown, objects_there, objects_placed}
use Rattle.collections.proofs.shown_calendar.ShownCalendar.objects.Goals as goal

pub returns : goal.returns
returns c =
    let shown = c.args.self.now in
    let walked : c.of_pages.result ≡ values_of c.self.inside.objects = c.of_pages.ensures in
    record {
      objects = ap (map shown_object) walked ∙ objects_shown c.self.inside.name c.self.inside.kept c.self.inside.objects c.self.invariant shown c.self.view_is;
      there = subst (AllByRecursion (λ (entry : ObjectEntry). value_at shown.objects entry.stored.path.object ≡ Some (kept_entry entry))) (sym walked)
          (objects_there c.self.inside.name c.self.inside.kept c.self.inside.objects c.self.invariant shown c.self.view_is);
      places = subst (AreInCalendar shown.home shown.name) (sym walked)
          (objects_placed c.self.inside.name c.self.inside.kept c.self.inside.objects c.self.invariant shown c.self.view_is);
    }
