-- What is told of a file that is not read, and of a count of rows.
use Rattle.std.proofs.Common.{◌≡◌, ℕ, Bool, true, false, cond, List, length, Some, refl, sym, ap, ◌∙◌, arith}
use Rattle.std.specs.Prelude.{◌||◌, nat_lt, Result, Err}
use Rattle.std.proofs.lemmas.Bool.Decides.{nat_tests}
use Rattle.cal_model.specs.declared.object.Object.{Object}
use Rattle.cal_model.specs.Instances.Rows.{has_fine_rule, rows}
use Rattle.cal_model.specs.Objects.ObjectReading.{Unread, not_calendar, not_resource, date_outside}
use Rattle.cal_model.specs.Refusals.Preconditions.{has_too_many}
use Rattle.cal_model.specs.Refusals.RequestLimits.{instances_limit}
use Rattle.cal_object.specs.declared.fault.ReadFault.{ReadFault}
use Rattle.cal_object.specs.declared.fault.ReadFault.TheVariants as fault
use Rattle.cal_object.specs.Faults.{IsFaultOf}
use Rattle.rrule_sets.specs.declared.count.Counted.{Counted}
use Rattle.rrule_sets.specs.declared.count.Counted.TheVariants as counted
use Rattle.rrule_sets.specs.CountedRows.{IsCountOf}
use Rattle.ics_tool.specs.Answers.{IsAnswer, IsCount, refusal, zone_refusal}
use Rattle.ics_tool.specs.Listings.{Listing, refused, text, too_many, zone_refused}

-- Faults

module _ {X : Type 0} (listing : Result X Unread → Listing) where
  pub refusal-told : ((why : Unread) → listing (Err why) ≡ refused why) → (reading : Result X Unread) (why : ReadFault) → IsFaultOf reading why → IsAnswer (listing reading) (refusal why)
  refusal-told is reading (fault.NotCalendar place) e = ap Some (sym (ap listing e ∙ is (not_calendar place)))
  refusal-told is reading (fault.NotResource why) e = ap Some (sym (ap listing e ∙ is (not_resource why)))
  refusal-told is reading (fault.DateOutside kind stamp) e = ap Some (sym (ap listing e ∙ is (date_outside kind stamp)))
  refusal-told is reading fault.NoMemory e = tt

  pub zone_refusal-told : ((why : Unread) → listing (Err why) ≡ zone_refused why) → (reading : Result X Unread) (why : ReadFault) → IsFaultOf reading why → IsAnswer (listing reading) (zone_refusal why)
  zone_refusal-told is reading (fault.NotCalendar place) e = ap Some (sym (ap listing e ∙ is (not_calendar place)))
  zone_refusal-told is reading (fault.NotResource why) e = ap Some (sym (ap listing e ∙ is (not_resource why)))
  zone_refusal-told is reading (fault.DateOutside kind stamp) e = ap Some (sym (ap listing e ∙ is (date_outside kind stamp)))
  zone_refusal-told is reading fault.NoMemory e = tt

-- Counts

pub coarse-few : (object : Object) → has_too_many object ≡ false → has_fine_rule object ≡ false
coarse-few object few = by_rule (has_fine_rule object) refl few
  where
    by_rule : (b : Bool) → has_fine_rule object ≡ b → (b || nat_lt instances_limit (length (rows object))) ≡ false → has_fine_rule object ≡ false
    by_rule true e f = absurd cc
    by_rule false e f = e

pub counted-coarse : (object : Object) (found : Counted) → has_fine_rule object ≡ false → IsCountOf (length (rows object)) instances_limit found → IsCount object found
counted-coarse object (counted.Within n) coarse is =
    let same = is.0 in
    let within = is.1 in
    let few : nat_lt instances_limit (length (rows object)) ≡ false = grind (arith, nat_tests, same, within) in
    (ap (λ b. b || nat_lt instances_limit (length (rows object))) coarse ∙ few, same)
counted-coarse object counted.Over coarse is =
    let many : nat_lt instances_limit (length (rows object)) ≡ true = grind (arith, nat_tests, is) in
    ap (λ b. b || nat_lt instances_limit (length (rows object))) coarse ∙ many
counted-coarse object counted.NoMemory coarse is = tt

pub counted-fine : (object : Object) → has_fine_rule object ≡ true → has_too_many object ≡ true
counted-fine object fine = ap (λ b. b || nat_lt instances_limit (length (rows object))) fine

-- Listings

-- an object with few rows has its text, and another none
pub listed_few : (many : Bool) (octets found : List ℕ) → many ≡ false → found ≡ octets → cond many too_many (text octets) ≡ text found
listed_few many octets found few same = ap (λ b. cond b too_many (text octets)) few ∙ ap text (sym same)

pub listed_many : (many : Bool) (octets : List ℕ) → many ≡ true → cond many too_many (text octets) ≡ too_many
listed_many many octets e = ap (λ b. cond b too_many (text octets)) e
