use Rattle.std.proofs.Common.{◌≡◌, ◌∙◌}
use Rattle.dav_reports.specs.NeededRows.{rows_needed}
use Rattle.dav_reports.proofs.ToldRows.{multiget_rows}
use Rattle.dav_reports.proofs.multiget.push_found.Goals as goal

pub push_shown-requires-clause-rows : goal.push_shown-requires-clause-rows
push_shown-requires-clause-rows g c =
    let object = c.args.stored.now.object in
    let are : c.rows.result.now ≡ rows_needed object c.args.ranges.now = c.rows.ensures ∙ c.in_ok-looked.ensures.rows in
    let told = multiget_rows c.args.stored.now.octets object c.rows.result.now c.args.ranges.now c.args.select.now c.args.zone.now c.requires.kept c.requires.short c.requires.ranges are in
    told.can_be_shown

pub returns-clause-response : goal.returns-clause-response
returns-clause-response g c k may found =
    let object = c.args.stored.now.object in
    let are : c.rows.result.now ≡ rows_needed object c.args.ranges.now = c.rows.ensures ∙ c.in_ok-looked.ensures.rows in
    let told = multiget_rows c.args.stored.now.octets object c.rows.result.now c.args.ranges.now c.args.select.now c.args.zone.now c.requires.kept c.requires.short c.requires.ranges are in
    c.push_shown.ensures.response k may found told.shows
