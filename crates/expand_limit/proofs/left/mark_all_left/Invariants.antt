use Rattle.std.proofs.Common.{◌≡◌, ℕ, ◌+◌, ◌<◌, false, length, get_or}
use Rattle.std.specs.Prelude.{◌||◌, All}
use Rattle.cal_model.specs.Objects.ObjectFacts.{IsReadComponent}
use Rattle.override_merge.specs.Conversions.{HasConvertibleRow}
use Rattle.expand_limit.specs.SeenRows.{is_place, left_from}
use Rattle.expand_limit.proofs.left.mark_all_left.Given as goal

-- the places marked so far, with those of what is left
abbrev pub invariant-components : goal.invariant-components
invariant-components l = record {
  counted : l.number + length l.rest ≡ length l.limit.object.now.components;
  known : All (IsReadComponent l.limit.object.now) l.rest;
  rows : All (HasConvertibleRow (length l.zones)) l.rest;
  size : length l.gone ≡ length l.initial.gone;
  marked : (k : ℕ) → k < length l.initial.gone → (get_or l.gone k false || is_place k (left_from l.limit l.ids l.seen l.number l.rest)) ≡ (get_or l.initial.gone k false || is_place k (left_from l.limit l.ids l.seen 0 l.limit.object.now.components));
}

abbrev pub decreases-components : goal.decreases-components
decreases-components l = length l.rest
