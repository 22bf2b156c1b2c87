use Rattle.std.proofs.Common.{◌≡◌, ◌∙◌, sym, subst, rules, FitsSigned, w32, to_z, of_z, to_z-of_z}
use Rattle.std.specs.Prelude.{All, AllPairs, flat_map}
use Rattle.cal_model.specs.Instances.Rows.{masters}
use Rattle.std.proofs.lemmas.List.Elements.{All-filter}
use Rattle.std.proofs.lemmas.List.Kept.{AllPairs-filter}
use Rattle.cal_model.specs.Ranges.Nearness.{HasShortOffsets}
use Rattle.override_merge.specs.Conversions.{HasRowTimes}
use Rattle.rrule_sets.specs.MasterRows.{rows_of_master, starts_within}
use Rattle.rrule_sets.specs.NearRows.{HasLesserId, LiesWhereInner, is_near}
use Rattle.rrule_sets.proofs.AloneLemmas.{all_lie_inner, alone_near, as_made}
use Rattle.rrule_sets.proofs.DateStarts.{short_tables}
use Rattle.rrule_sets.proofs.SeveralLemmas.{rows_by_id}
use Rattle.rrule_sets.proofs.WindowLemmas.{governed_near}
use Rattle.rrule_sets.proofs.windows.put_window.Goals as goal

pub near_rows-near-requires : goal.near_rows-near-requires
near_rows-near-requires c = rows_by_id c.args.object.now c.args.ids c.args.range c.args.rows.now c.requires.ids c.requires.object.read.one_master c.requires.rows

pub put_near-requires-clause-times : goal.put_near-requires-clause-times
put_near-requires-clause-times c =
    let short = subst (All HasShortOffsets) c.requires.zones (short_tables c.args.zones.now) in
    subst (All HasRowTimes) (sym c.near_rows-near.ensures)
    (All-filter (is_near c.args.needed.now.range) HasRowTimes c.args.rows.now (subst (All HasRowTimes) (sym c.requires.rows) (governed_near c.args.object.now c.args.ids c.args.range c.requires.object.read short)))

pub put_near-requires-clause-rising : goal.put_near-requires-clause-rising
put_near-requires-clause-rising c =
    subst (AllPairs HasLesserId) (sym c.near_rows-near.ensures)
    (AllPairs-filter HasLesserId (is_near c.args.needed.now.range) c.args.rows.now (rows_by_id c.args.object.now c.args.ids c.args.range c.args.rows.now c.requires.ids c.requires.object.read.one_master c.requires.rows))

pub put_near-requires-clause-inner : goal.put_near-requires-clause-inner
put_near-requires-clause-inner c =
    let object = c.args.object.now in
    let window = c.args.needed.now.window in
    let back : to_z w32 (of_z w32 window) ≡ window = search rules in
    let short = subst (All HasShortOffsets) c.requires.zones (short_tables c.args.zones.now) in
    let alone = rw c.as_slice.ensures at (sym c.has_overrides.ensures ∙ c.if-has_overrides.false) in
    let made = c.requires.rows ∙ as_made object c.args.ids (starts_within object c.args.ids c.args.range) (flat_map (rows_of_master object.zones c.args.range) (masters object)) alone in
    let lie = subst (All (LiesWhereInner object window)) (sym made) (all_lie_inner object window c.args.range short) in
    rw back (subst (All (LiesWhereInner object window)) (sym c.near_rows-near.ensures) (All-filter (is_near c.args.needed.now.range) (LiesWhereInner object window) c.args.rows.now lie))

pub returns : goal.returns
returns c =
    let object = c.args.object.now in
    let needed = c.args.needed.now in
    let alone = rw c.as_slice.ensures at (sym c.has_overrides.ensures ∙ c.if-has_overrides.false) in
    let short = subst (All HasShortOffsets) c.requires.zones (short_tables c.args.zones.now) in
    let fits : FitsSigned w32 needed.window = search rules in
    let put = simp to_z-of_z at c.put_near.ensures in
    let made = c.requires.rows ∙ as_made object c.args.ids (starts_within object c.args.ids c.args.range) (flat_map (rows_of_master object.zones c.args.range) (masters object)) alone in
    let found = alone_near object c.args.ids needed.window c.args.range needed.range c.args.rows.now c.near_rows-near.result.now alone c.requires.ids c.requires.object.read.one_master short c.requires.needed.its c.requires.needed.days c.requires.range made c.near_rows-near.ensures in
    rw (found, c.reserve.ensures) at put
