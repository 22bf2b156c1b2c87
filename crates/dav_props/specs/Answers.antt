-- What is said of a property of a resource as it is seen, by the code's names.
use Rattle.std.specs.Prelude.{ℕ, Bool, true, false, List, Option, None, is_some}
use Rattle.cal_model.specs.State.PropertyTexts.{text_at}
use Rattle.cal_model.specs.State.ServerState.{Directory}
use Rattle.cal_model.specs.Properties.PropertyTable.{Answer, answer_of_row}
use Rattle.dav_props.specs.declared.rows.Asked.{Asked}
use Rattle.dav_props.specs.declared.rows.Row.{Row}
use Rattle.dav_props.specs.declared.rows.Row.TheVariants as rows
use Rattle.dav_props.specs.declared.subjects.Subject.{Subject}
use Rattle.dav_props.specs.declared.subjects.Subject.TheVariants as subject
use Rattle.dav_props.specs.Rows.{property_of, asked_name}
use Rattle.dav_props.specs.Subjects.{Unseen, texts_of, resource_of}

-- the table's answer to a property under the name that it is asked for by
abbrev pub answered : Directory → ℕ → Option (List ℕ → List ℕ) → Asked → Subject → Unseen → Answer
answered directory who shown asked seen unseen =
    answer_of_row (record { directory = directory; who = who; shown = shown }) (resource_of seen unseen) (asked_name asked) (property_of asked.row (asked_name asked))

-- a text was set on a calendar; a principal has a name
abbrev pub has_text_set : Asked → Subject → Bool
has_text_set asked (subject.Calendar user held kept) = is_some (text_at (texts_of kept.now.texts) (asked_name asked))
has_text_set asked other = true

-- a principal is a group, or a user that there is
abbrev pub is_known : Subject → Bool
is_known (subject.Principal user None) = false
is_known other = true

-- a property that can be on a resource, and may be seen, is there
abbrev pub is_there_in : Row → Asked → Subject → Bool
is_there_in rows.CalendarData asked seen = false
is_there_in rows.DisplayName asked seen = has_text_set asked seen
is_there_in rows.Description asked seen = has_text_set asked seen
is_there_in rows.Timezone asked seen = has_text_set asked seen
is_there_in rows.Text asked seen = has_text_set asked seen
is_there_in rows.GroupMemberships asked seen = is_known seen
is_there_in other asked seen = true

abbrev pub is_there_at : Asked → Subject → Bool
is_there_at asked seen = is_there_in asked.row asked seen
