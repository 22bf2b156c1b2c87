-- What an object has that none of the checks refuses.
use Rattle.std.proofs.Common.{◌≡◌, ℕ, ◌<◌, ◌^◌, Bool, true, false, List, [], ◌∷◌, length, None, refl, sym, ap, ◌∙◌, subst}
use Rattle.std.specs.Prelude.{Ok, codes}
use Rattle.cal_model.specs.declared.object.Object.{Object}
use Rattle.cal_model.specs.declared.reply.Refusal.{Refusal}
use Rattle.cal_model.specs.Bodies.Refusals.{caldav_refusal}
use Rattle.cal_model.specs.Objects.ObjectReading.{first_there, read_object}
use Rattle.cal_model.specs.Refusals.Preconditions.{has_too_many, is_other_kind}
use Rattle.cal_model.specs.Refusals.RefusalReplies.{refused_where}
use Rattle.preconditions.specs.declared.check.PutCheck.{PutCheck}
use Rattle.preconditions.specs.declared.check.PutCheck.TheVariants.{Fine, Refused, NoMemory}
use Rattle.preconditions.specs.Checks.{IsFinding, IsFineWith, IsObjectOf, content_refusal}

-- the last row of the table
last_row : (other many : Bool) (kind instances : Refusal) → first_there (None ∷ None ∷ None ∷ None ∷ refused_where other kind ∷ None ∷ refused_where many instances ∷ []) ≡ None → many ≡ false
last_row true many kind instances e = absurd cc
last_row false true kind instances e = absurd cc
last_row false false kind instances e = refl

few : (kinds : ℕ) (object : Object) → content_refusal kinds (Ok object) ≡ None → has_too_many object ≡ false
few kinds object e = last_row (is_other_kind kinds (Ok object)) (has_too_many object) (caldav_refusal (codes "supported-calendar-component")) (caldav_refusal (codes "max-instances")) e

pub fine_object : (octets : List ℕ) (kinds : ℕ) (object : Object) (check : PutCheck) → read_object octets ≡ Ok object → length object.components < 2 ^ 32
    → IsFinding (content_refusal kinds (Ok object)) check → IsFineWith object check → IsObjectOf octets check
fine_object octets kinds object (Fine found) reading parts none same = record {
  reading = reading ∙ ap Ok (sym same);
  few_instances = subst (λ o. has_too_many o ≡ false) (sym same) (few kinds object none);
  few_components = subst (λ (o : Object). length o.components < 2 ^ 32) (sym same) parts;
}
fine_object octets kinds object (Refused refusal) reading parts none same = tt
fine_object octets kinds object NoMemory reading parts none same = tt
