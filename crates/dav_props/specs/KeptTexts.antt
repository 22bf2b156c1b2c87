-- What is kept of the texts of a calendar while settings are looked at: a map that has their names, each as one text.
use Rattle.std.specs.Prelude.{◌≡◌, is_some, ℕ, Bool, true, List, [], ◌∷◌, Option, Some, None, if◌then◌else◌}
use Rattle.cal_base.specs.Lists.NameMap.{Named, value_at, with_value, without}
use Rattle.cal_model.specs.declared.property.PropName.{PropName}
use Rattle.cal_model.specs.declared.property.PropSet.{PropSet}
use Rattle.cal_model.specs.declared.reply.Refusal.{Refusal}
use Rattle.cal_model.specs.State.PropertyTexts.{Texts}
use Rattle.cal_model.specs.Properties.PropertyTable.{Answer, without_value, is_text}
use Rattle.cal_model.specs.Properties.PropertyReplies.{is_refused}
use Rattle.multistatus.specs.NameKeys.{key}

-- the names of those properties that have no row of their own
abbrev pub kept_names : Texts → Named Bool
kept_names [] = []
kept_names (entry ∷ texts) = if is_text entry.0 then (key entry.0, true) ∷ kept_names texts else kept_names texts

-- with the name of what is set, or without that of what is removed
abbrev pub names_with : Named Bool → PropName → Option (List ℕ) → Named Bool
names_with kept name None = without kept (key name)
names_with kept name (Some value) = with_value kept (key name) true

abbrev pub names_after : Named Bool → PropSet → Named Bool
names_after kept set = if is_text set.name then names_with kept set.name set.value else kept

-- the names that are refused, with one more where there is a fault
abbrev pub marked_by : Named Bool → PropName → Option Refusal → Named Bool
marked_by refused name None = refused
marked_by refused name (Some refusal) = with_value refused (key name) true

-- and with those of all faults
abbrev pub marks : Named Bool → List (PropName × Option Refusal) → Named Bool
marks refused [] = refused
marks refused (entry ∷ faults) = marks (marked_by refused entry.0 entry.1) faults

-- a map has the names of the properties that are refused
abbrev pub TellsRefused : Named Bool → List (PropName × Option Refusal) → Type 0
TellsRefused refused faults = (name : PropName) → is_some (value_at refused (key name)) ≡ is_refused faults name

-- the status of a property by that map, and its answer
abbrev pub status_in : Named Bool → ℕ → PropName → ℕ
status_in refused otherwise name = if is_some (value_at refused (key name)) then 403 else otherwise

abbrev pub answer_in : Named Bool → ℕ → PropName → Answer
answer_in refused otherwise name = without_value name (status_in refused otherwise name)
