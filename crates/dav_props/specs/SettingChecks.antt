-- What a check of settings tells, with its reply.
use Rattle.std.specs.Prelude.{◌≡◌, Bool, true, false, List, is_some, map, Option, Some, None, if◌then◌else◌}
use Rattle.cal_model.specs.declared.path.Path.{Path}
use Rattle.cal_model.specs.declared.property.PropName.{PropName}
use Rattle.cal_model.specs.declared.property.PropSet.{PropSet}
use Rattle.cal_model.specs.declared.reply.Refusal.{Refusal}
use Rattle.cal_model.specs.declared.reply.Reply.{Reply}
use Rattle.cal_model.specs.State.PropertyTexts.{Texts}
use Rattle.cal_model.specs.Objects.ObjectReading.{first_there}
use Rattle.cal_model.specs.Properties.Settings.{setting_fault, texts_after, faults_of_all, first_fault}
use Rattle.cal_model.specs.Properties.PropertyReplies.{setting_answers, settings_reply}
use Rattle.cal_model.specs.Refusals.ChangeRefusals.{some_fault}
use Rattle.cal_model.specs.Refusals.RefusalReplies.{refusal_reply}
use Rattle.cal_model.specs.Replies.BareReplies.{bare_reply}
use Rattle.cal_model.specs.Serving.EventReplies.{all_set}
use Rattle.dav_props.specs.declared.setting_checks.PatchCheck.{PatchCheck}
use Rattle.dav_props.specs.declared.setting_checks.PatchCheck.TheVariants.{Fine, Refused, NoMemory}

-- RFC 4918, 9.2.1: no setting is refused, and each property has 200
pub record IsPatchTaken (path : Path) (texts : Texts) (sets : List PropSet) (reply : Reply) : Type 0 where
  pub no_fault : some_fault (faults_of_all false texts sets) ≡ false
  pub reply_is : reply ≡ settings_reply path (setting_answers (all_set sets) 200)

-- some are refused, with 403, and the others have 424
pub record IsPatchRefused (path : Path) (texts : Texts) (sets : List PropSet) (reply : Reply) : Type 0 where
  pub fault : some_fault (faults_of_all false texts sets) ≡ true
  pub reply_is : reply ≡ settings_reply path (setting_answers (faults_of_all false texts sets) 424)

-- of a calendar that has some texts
abbrev pub IsPatchChecked : Path → Texts → List PropSet → PatchCheck → Type 0
IsPatchChecked path texts sets (Fine reply) = IsPatchTaken path texts sets reply
IsPatchChecked path texts sets (Refused reply) = IsPatchRefused path texts sets reply
IsPatchChecked path texts sets NoMemory = Unit {0}

-- RFC 4791, 5.3.1: a calendar may be made so
pub record IsMakeTaken (sets : List PropSet) (reply : Reply) : Type 0 where
  pub no_fault : first_fault sets ≡ None
  pub reply_is : reply ≡ bare_reply 201

-- the first fault is told
pub record IsMakeRefused (sets : List PropSet) (reply : Reply) : Type 0 where
  pub refusal : Refusal
  pub first : first_fault sets ≡ Some refusal
  pub reply_is : reply ≡ refusal_reply refusal

abbrev pub IsMakeChecked : List PropSet → PatchCheck → Type 0
IsMakeChecked sets (Fine reply) = IsMakeTaken sets reply
IsMakeChecked sets (Refused reply) = IsMakeRefused sets reply
IsMakeChecked sets NoMemory = Unit {0}

-- the texts behind a setting, which counts for nothing where it is refused
abbrev pub texts_passed : Bool → Texts → PropSet → Texts
texts_passed making texts set = if is_some (setting_fault making texts set) then texts else texts_after texts set

-- the first fault of some settings
abbrev pub fault_in : List (PropName × Option Refusal) → Option Refusal
fault_in faults = first_there (map (λ (entry : PropName × Option Refusal). entry.1) faults)
