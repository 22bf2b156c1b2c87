use Rattle.std.proofs.Common.{◌≡◌, ◌∙◌, ap, sym, subst}
use Rattle.std.specs.Prelude.{Ok, Result}
use Rattle.cal_model.specs.declared.object.Object.{Object}
use Rattle.cal_model.specs.Objects.ObjectReading.{Unread, read_object}
use Rattle.preconditions.specs.Checks.{IsFinding, content_refusal}
use Rattle.preconditions.specs.declared.found.Found.{Found}
use Rattle.preconditions.specs.FoundOctets.{reading_found}
use Rattle.preconditions.proofs.FineObjects.{fine_object}
use Rattle.preconditions.proofs.FoundReadings.{found_fault}
use Rattle.preconditions.proofs.check.check_found.Goals as goal

pub returns-in-Object-clause-first : goal.returns-in-Object-clause-first
returns-in-Object-clause-first c octets found =
    let is : read_object octets ≡ Ok c.in-Object.counted.object = found ∙ ap (λ (f : Found). reading_found f (read_object octets)) c.in-Object.is in
    subst (λ (reading : Result Object Unread). IsFinding (content_refusal c.args.kinds reading) c.check_object.result) (sym is) c.check_object.ensures.first

pub returns-in-Object-clause-object : goal.returns-in-Object-clause-object
returns-in-Object-clause-object c octets found =
    let is : read_object octets ≡ Ok c.in-Object.counted.object = found ∙ ap (λ (f : Found). reading_found f (read_object octets)) c.in-Object.is in
    fine_object octets c.args.kinds c.in-Object.counted.object c.check_object.result is c.in-Object.counted.counted.few_components c.check_object.ensures.first c.check_object.ensures.object
