use Rattle.std.proofs.Common.{refl, sym, subst, ap}
use Rattle.cal_base.specs.Texts.LentTexts.{text_there}
use Rattle.ics_tool.specs.Answers.{IsAnswer}
use Rattle.ics_tool.specs.Listings.{zone_listing, zone_read}
use Rattle.ics_tool.proofs.AnswerLaws.{zone_refusal-told}
use Rattle.ics_tool.proofs.listing.list_in_zone.Goals as goal

pub returns-in-Ok-clause-listed : goal.returns-in-Ok-clause-listed
returns-in-Ok-clause-listed g c =
    subst (λ listing. IsAnswer listing c.list_object.result) (sym (ap (zone_listing c.args.object.now c.args.range) c.in-Ok.ensures.zone)) c.list_object.ensures.listed

pub returns-in-Err-clause-listed : goal.returns-in-Err-clause-listed
returns-in-Err-clause-listed g c =
    subst (IsAnswer (zone_listing c.args.object.now c.args.range (zone_read (text_there c.args.zone)))) (sym c.zone_refusal.ensures)
    (zone_refusal-told (zone_listing c.args.object.now c.args.range) (λ why. refl) (zone_read (text_there c.args.zone)) c.in-Err.fault c.in-Err.ensures.fault)
