use Rattle.std.proofs.Common.{◌++◌, ◌∙◌, ap, sym, subst}
use Rattle.std.specs.Prelude.{All, filter}
use Rattle.cal_model.specs.Ranges.RowRanges.{row_in_range}
use Rattle.expand_limit.specs.InstanceLines.{IsShownRow}
use Rattle.ics_tool.specs.RowTexts.{rows_text}
use Rattle.ics_tool.proofs.NearRowLaws.{met_near, near_shown}
use Rattle.ics_tool.proofs.listing.met_text.Goals as goal

pub put_met-requires-clause-rows : goal.put_met-requires-clause-rows
put_met-requires-clause-rows g c = subst (All IsShownRow) (sym (c.as_slice.ensures ∙ c.in_ok-rows.ensures.rows)) (near_shown c.args.object.now c.args.range c.requires.object.read)

pub returns-clause-text : goal.returns-clause-text
returns-clause-text g c =
    let met = row_in_range c.args.object.now c.args.zone.now c.args.range in
    c.in_ok-put_met.ensures
    ∙ ap (λ front. front ++ rows_text (filter met c.as_slice.result.now)) c.new-out.ensures
    ∙ ap (λ some. rows_text (filter met some)) (c.as_slice.ensures ∙ c.in_ok-rows.ensures.rows)
    ∙ ap rows_text (met_near c.args.object.now c.args.zone.now c.args.range c.requires.object.read c.requires.zone)
