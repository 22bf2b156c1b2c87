use Rattle.std.proofs.Common.{◌≡◌, ◌∙◌, sym, refl, true, false}
use Rattle.std.specs.List.{list_all}
use Rattle.std.proofs.lemmas.List.Folds.{list_all-map}
use Rattle.cal_model.specs.declared.local_times.LocalTimes.{LocalTimes}
use Rattle.cal_model.specs.Ranges.Cost.{has_common_offsets}
use Rattle.override_merge.specs.Conversions.{tables_of}
use Rattle.rrule_sets.proofs.moved.seconds_apart.Goals as goal

pub returns-then-have_common_offsets : goal.returns-then-have_common_offsets
returns-then-have_common_offsets c =
    let common : list_all has_common_offsets (tables_of c.args.zones.now) ≡ true = list_all-map has_common_offsets (λ (times : LocalTimes). times.table.now) c.args.zones.now ∙ (sym c.have_common_offsets.ensures ∙ c.if-have_common_offsets.true) in
    rw common refl

pub returns-else-have_common_offsets : goal.returns-else-have_common_offsets
returns-else-have_common_offsets c =
    let common : list_all has_common_offsets (tables_of c.args.zones.now) ≡ false = list_all-map has_common_offsets (λ (times : LocalTimes). times.table.now) c.args.zones.now ∙ (sym c.have_common_offsets.ensures ∙ c.if-have_common_offsets.false) in
    rw common refl
