-- Setting and removing properties (RFC 4918, 9.2; RFC 4791, 5.2 and 5.3.1): what is refused, and what a calendar has afterwards.
-- Given: settings in their order, and the texts of a calendar before them. A refused setting counts for nothing. The limits are this server's own.
use Rattle.std.specs.Prelude.{ℕ, Bool, true, false, not, ◌&&◌, ◌||◌, ◌==◌, nat_lt, nat_le, if◌then◌else◌, List, [], ◌∷◌, length, map, filter, fold, bytes_eq, is_some, is_none, is_ok, Option, Some, None, codes}
use Rattle.std.specs.List.{list_any, list_all, slice_split}
use Rattle.cal_model.specs.declared.property.PropName.{PropName}
use Rattle.cal_model.specs.declared.property.PropSet.{PropSet}
use Rattle.cal_model.specs.declared.reply.Refusal.{Refusal}
use Rattle.cal_model.specs.Objects.ObjectReading.{read_zone, first_there}
use Rattle.cal_model.specs.Access.Privileges.{united}
use Rattle.cal_model.specs.State.PropertyTexts.{Texts, text_at, with_text, without_text, name_size}
use Rattle.cal_model.specs.State.ServerState.{Calendar, every_kind}
use Rattle.cal_model.specs.Bodies.Refusals.{dav_refusal, caldav_refusal}
use Rattle.cal_model.specs.Properties.PropertyValues.{kind_names}
use Rattle.cal_model.specs.Refusals.RefusalReplies.{refused_where}
use Rattle.cal_model.specs.Refusals.RequestLimits.{texts_limit, name_limit, value_limit, zone_limit}
use Rattle.cal_model.specs.Properties.PropertyTable.{Setting, protected, text, zone, kinds, row_of, is_text, text_names}

-- Values

-- a value that isn't a text alone stands as the one octet 0
abbrev pub is_no_text : List ℕ → Bool
is_no_text value = bytes_eq value (0 ∷ [])

-- the names in a list of kinds: joined by commas, and none in no octets
abbrev pub kinds_in : List ℕ → List (List ℕ)
kinds_in [] = []
kinds_in value = slice_split (λ octet. octet == 44) value

abbrev pub kind_number : List ℕ → List ℕ
kind_number name = map (λ (kind : List ℕ × ℕ). kind.1) (filter (λ (kind : List ℕ × ℕ). bytes_eq kind.0 name) kind_names)

abbrev pub kinds_are_known : List ℕ → Bool
kinds_are_known value = list_all (λ name. not (length (kind_number name) == 0)) (kinds_in value)

-- the set of some kinds
abbrev pub kinds_set : List ℕ → ℕ
kinds_set value = united (map (λ (kind : List ℕ × ℕ). kind.1) (filter (λ (kind : List ℕ × ℕ). list_any (bytes_eq kind.0) (kinds_in value)) kind_names))

-- Refusals

-- RFC 4918, 16: a property that may not be set, or not so
abbrev pub protected_property : Refusal
protected_property = dav_refusal (codes "cannot-modify-protected-property")

-- RFC 4791, 5.3.1 and 5.2.2: the text of a time zone that isn't one
abbrev pub bad_zone : Refusal
bad_zone = caldav_refusal (codes "valid-calendar-data")

-- one more text than a calendar may have
abbrev pub is_one_too_many : Texts → PropName → Bool
is_one_too_many texts name = is_text name && is_none (text_at texts name) && nat_le texts_limit (length (text_names texts))

-- why a value cannot be set, by how its property is set
abbrev pub value_faults : Setting → Texts → PropName → List ℕ → List (Option Refusal)
value_faults text texts name value =
    refused_where (is_no_text value || nat_lt value_limit (length value)) protected_property
    ∷ refused_where (is_one_too_many texts name) protected_property ∷ []
value_faults zone texts name value =
    refused_where (is_no_text value || nat_lt zone_limit (length value)) protected_property
    ∷ refused_where (not (is_ok (read_zone value))) bad_zone ∷ []
value_faults kinds texts name value = refused_where (is_no_text value || not (kinds_are_known value)) protected_property ∷ []
value_faults protected texts name value = Some protected_property ∷ []

-- whether a property may be set, or removed, at all; kinds are given to a calendar that is made
abbrev pub may_be_set : Bool → Setting → Bool
may_be_set making protected = false
may_be_set making kinds = making
may_be_set making other = true

abbrev pub may_be_removed : Setting → Bool
may_be_removed kinds = false
may_be_removed other = true

abbrev pub faults_of_value : Bool → Setting → Texts → PropName → Option (List ℕ) → List (Option Refusal)
faults_of_value making setting texts name None = refused_where (not (may_be_removed setting)) protected_property ∷ []
faults_of_value making setting texts name (Some value) = value_faults setting texts name value

-- The table of one setting, beside the properties that are there before it
abbrev pub setting_table : Bool → Texts → PropSet → List (Option Refusal)
setting_table making texts set =
    let setting = (row_of set.name).setting in
    refused_where (not (may_be_set making setting)) protected_property
    ∷ refused_where (is_text set.name && nat_lt name_limit (name_size set.name)) protected_property
    ∷ faults_of_value making setting texts set.name set.value

-- why a setting is refused: the first that fails
abbrev pub setting_fault : Bool → Texts → PropSet → Option Refusal
setting_fault making texts set = first_there (setting_table making texts set)

-- What is set

abbrev pub is_kinds : Setting → Bool
is_kinds kinds = true
is_kinds other = false

-- the texts after a setting; kinds are none
abbrev pub texts_with_value : Texts → PropName → Option (List ℕ) → Texts
texts_with_value texts name None = without_text texts name
texts_with_value texts name (Some value) = with_text texts name value

abbrev pub texts_after : Texts → PropSet → Texts
texts_after texts set = if is_kinds (row_of set.name).setting then texts else texts_with_value texts set.name set.value

-- the texts after all settings
abbrev pub texts_after_all : Texts → List PropSet → Texts
texts_after_all texts sets = fold texts_after texts sets

-- the kinds after a setting, and after all
abbrev pub kinds_after : ℕ → PropSet → ℕ
kinds_after before set =
    if is_kinds (row_of set.name).setting then (elim set.value [ None ↦ before | Some value ↦ kinds_set value ]) else before

abbrev pub kinds_after_all : ℕ → List PropSet → ℕ
kinds_after_all before sets = fold kinds_after before sets

-- a calendar after settings, none of which is refused
abbrev pub set_on : List PropSet → Calendar → Calendar
set_on sets calendar = record calendar { texts = texts_after_all calendar.texts sets; kinds = kinds_after_all calendar.kinds sets }

-- a new calendar: it takes all kinds unless it says which, and is its owner's alone
abbrev pub made_by : List PropSet → Calendar
made_by sets = set_on sets (record { grants = []; kinds = every_kind; texts = []; objects = [] })

-- Many settings

-- the fault of each, beside the texts that those before it leave
abbrev pub faults_of_all : Bool → Texts → List PropSet → List (PropName × Option Refusal)
faults_of_all making texts [] = []
faults_of_all making texts (set ∷ sets) =
    let fault = setting_fault making texts set in
    (set.name, fault) ∷ faults_of_all making (if is_some fault then texts else texts_after texts set) sets

-- the first fault of a MKCALENDAR
abbrev pub first_fault : List PropSet → Option Refusal
first_fault sets = first_there (map (λ (entry : PropName × Option Refusal). entry.1) (faults_of_all true [] sets))
