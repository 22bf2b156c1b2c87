use Rattle.std.proofs.Common.{◌≡◌, ◌-◌, ◌||◌, true, false, refl, slice_index_or}
use Rattle.cal_model.proofs.Walks.SetPlaceLemmas.{named_by_tables}
use Rattle.cal_model.proofs.walk.set_places.SetPlaces.names.Goals as goal

pub returns-then-from_front : goal.returns-then-from_front
returns-then-from_front c = λ numbers are.
    let named = named_by_tables numbers c.args.self.now are c.args.place c.args.size c.requires in
    let front = c.is_marked-from_front.ensures in
    let there = c.if-from_front.true in
    let whole : (true || slice_index_or c.args.self.now.back (c.args.size - c.args.place) false) ≡ true = refl in
    cc

pub returns-else-from_front : goal.returns-else-from_front
returns-else-from_front c = λ numbers are.
    let named = named_by_tables numbers c.args.self.now are c.args.place c.args.size c.requires in
    let front = c.is_marked-from_front.ensures in
    let away = c.if-from_front.false in
    let back = c.is_marked-from_end.ensures in
    let whole : (false || slice_index_or c.args.self.now.back (c.args.size - c.args.place) false) ≡ slice_index_or c.args.self.now.back (c.args.size - c.args.place) false = refl in
    cc
