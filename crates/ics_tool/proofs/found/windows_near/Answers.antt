use Rattle.std.proofs.Common.{◌≡◌, ◌∙◌, ap, length, sym, subst}
use Rattle.std.specs.Prelude.{All}
use Rattle.override_merge.specs.ExpandableComponents.{IsExpandable}
use Rattle.override_merge.proofs.MergeLemmas.{zones_count}
use Rattle.override_merge.proofs.ReadObjects.{HasConvertibleRows-read}
use Rattle.rrule_sets.proofs.ReadLemmas.{HasRowsToFind-read}
use Rattle.ics_tool.proofs.found.windows_near.Goals as goal

pub local_times_of-requires : goal.local_times_of-requires
local_times_of-requires c = rw c.as_slice.ensures (HasConvertibleRows-read c.args.object.now c.requires.read c.requires.few).zones

pub windows_needed-requires-clause-lengths : goal.windows_needed-requires-clause-lengths
windows_needed-requires-clause-lengths c =
    let object = c.args.object.now in
    let count : length c.as_slice-2.result.now ≡ length object.zones = ap length c.as_slice-2.ensures ∙ zones_count c.in_ok-zones.zones object.zones (c.in_ok-zones.ensures ∙ c.as_slice.ensures) in
    subst (λ n. All (IsExpandable n) object.components) (sym count) (HasRowsToFind-read object c.requires.read c.requires.few c.requires.coarse).components
