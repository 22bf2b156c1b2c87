use Rattle.cal_model.specs.Refusals.Preconditions.{has_too_many}
use Rattle.ics_tool.specs.Listings.{rows_met}
use Rattle.ics_tool.specs.RowTexts.{rows_text}
use Rattle.ics_tool.proofs.AnswerLaws.{coarse-few, listed_few, listed_many}
use Rattle.ics_tool.proofs.listing.list_object.Goals as goal

pub met_text-requires-clause-object : goal.met_text-requires-clause-object
met_text-requires-clause-object g c = record {
  read = c.requires.read;
  few = c.requires.few;
  coarse = coarse-few c.args.object.now c.in-Within.ensures.0;
}

pub returns-in-Ok-clause-listed : goal.returns-in-Ok-clause-listed
returns-in-Ok-clause-listed g c =
    listed_few (has_too_many c.args.object.now) (rows_text (rows_met c.args.object.now c.args.zone.now c.args.range)) c.in-Ok.text c.in-Within.ensures.0 c.in-Ok.ensures.text

pub returns-in-Over-clause-listed : goal.returns-in-Over-clause-listed
returns-in-Over-clause-listed g c = listed_many (has_too_many c.args.object.now) (rows_text (rows_met c.args.object.now c.args.zone.now c.args.range)) c.in-Over.ensures
