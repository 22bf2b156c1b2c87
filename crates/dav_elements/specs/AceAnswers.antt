-- What reading an ace gives, against what the ace says.
use Rattle.std.specs.Prelude.{ℕ, true, nat_le, List, [], ◌∷◌, flat_map, bit_or, codes, Option, Some, None, is_none, option_to_list}
use Rattle.std.specs.Borrow.{Bor}
use Rattle.std.specs.List.{enumerate_from, list_any}
use Rattle.cal_base.specs.declared.element.Element.{Element}
use Rattle.cal_model.specs.declared.privilege.Grant.{Grant}
use Rattle.cal_model.specs.declared.reply.Refusal.{Refusal}
use Rattle.cal_model.specs.declared.reply.Cond.TheVariants.{Dav}
use Rattle.cal_model.specs.Bodies.AclBodies.{Meant, someone, nobody, other_form, grant_limit, granted_sets, ace_rows}
use Rattle.cal_model.specs.Bodies.Refusals.{Row, first_row, dav_refusal}
use Rattle.cal_model.specs.Users.UsersFile.{Users}
use Rattle.dav_elements.specs.declared.acl.AceAnswer.{AceAnswer}
use Rattle.dav_elements.specs.declared.acl.AceAnswer.TheVariants.{Granted, Refused}
use Rattle.dav_elements.specs.declared.aces.GrantedBits.{GrantedBits}
use Rattle.dav_elements.specs.declared.aces.Whom.{Whom}
use Rattle.dav_elements.specs.declared.aces.Whom.TheVariants.{Someone, Nobody, Other}

abbrev pub as_meant : Whom → Meant
as_meant (Someone who) = someone who
as_meant Nobody = nobody
as_meant Other = other_form

-- what is granted with the sets of some privileges more, of which some may not be known
abbrev pub with_sets : GrantedBits → List (Option ℕ) → GrantedBits
with_sets before [] = before
with_sets before (Some bits ∷ sets) = with_sets (record before { bits = bit_or before.bits bits }) sets
with_sets before (None ∷ sets) = with_sets (record before { unknown = true }) sets

-- the grants of an ace that is not refused
abbrev pub answer_grants : AceAnswer → List Grant
answer_grants (Granted grant) = grant ∷ []
answer_grants (Refused condition) = []

-- the refusal that names a condition, and those of aces before which there are so many
abbrev pub refusal_by : Bor (List ℕ) → Refusal
refusal_by condition = record { status = 403; cond = Dav condition.now }

abbrev pub refusals_from : Users → ℕ → List Element → List Refusal
refusals_from users before kept = flat_map (λ (ace : ℕ × Element). option_to_list (first_row (ace_rows users ace.0 ace.1))) (enumerate_from before kept)

-- the refusal of one that is
abbrev pub answer_refusal : AceAnswer → Option Refusal
answer_refusal (Granted grant) = None
answer_refusal (Refused condition) = Some (refusal_by condition)

-- the last rows of an ace that means someone, before which there are so many
abbrev pub late_rows : ℕ → Element → List Row
late_rows before ace =
    (list_any is_none (granted_sets ace), dav_refusal (codes "not-supported-privilege"))
    ∷ (nat_le grant_limit before, dav_refusal (codes "limited-number-of-aces"))
    ∷ []
