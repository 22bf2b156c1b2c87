use Rattle.std.proofs.Common.{◌≡◌, ℕ, false, take, slice_index_or}
use Rattle.std.specs.List.{list_any}
use Rattle.cal_model.specs.Walks.SetPlaces.{is_back, is_front}
use Rattle.cal_model.proofs.walk.set_places.set_places_of.Given as goal

-- the numbers so far are those that are marked
abbrev pub invariant-loop-number : goal.invariant-loop-number
invariant-loop-number l = record {
  front : (n : ℕ) → slice_index_or l.front n false ≡ list_any (is_front n) (take l.number-index l.number-items);
  back : (n : ℕ) → slice_index_or l.back n false ≡ list_any (is_back n) (take l.number-index l.number-items);
}
