use Rattle.std.proofs.Common.{refl, sym, subst, ap, arith}
use Rattle.cal_base.specs.Texts.LentTexts.{text_there}
use Rattle.cal_model.specs.Objects.ObjectReading.{read_object}
use Rattle.ics_tool.specs.Answers.{IsAnswer}
use Rattle.ics_tool.specs.Listings.{file_listing, listing_of}
use Rattle.ics_tool.specs.NearRows.{cost_of_reading}
use Rattle.ics_tool.proofs.AnswerLaws.{refusal-told}
use Rattle.ics_tool.proofs.listing.list_rows.Goals as goal

pub list_in_zone-requires-clause-read : goal.list_in_zone-requires-clause-read
list_in_zone-requires-clause-read g c = record { octets = c.args.octets.now; reading = c.in-Ok.ensures.ok }

pub returns-in-Ok-clause-steps : goal.returns-in-Ok-clause-steps
returns-in-Ok-clause-steps g c =
    let took = c.list_in_zone.ensures.steps in
    let cost = ap (cost_of_reading c.args.range) c.in-Ok.ensures.ok in
    omega (arith, took, cost)

pub returns-in-Ok-clause-listed : goal.returns-in-Ok-clause-listed
returns-in-Ok-clause-listed g c =
    subst (λ told. IsAnswer told c.list_in_zone.result) (sym (ap (listing_of (text_there c.args.zone) c.args.range) c.in-Ok.ensures.ok)) c.list_in_zone.ensures.listed

pub returns-in-Err-clause-listed : goal.returns-in-Err-clause-listed
returns-in-Err-clause-listed g c =
    subst (IsAnswer (file_listing c.args.octets.now (text_there c.args.zone) c.args.range)) (sym c.refusal.ensures)
    (refusal-told (listing_of (text_there c.args.zone) c.args.range) (λ why. refl) (read_object c.args.octets.now) c.in-Err.fault c.in-Err.ensures.fault)
