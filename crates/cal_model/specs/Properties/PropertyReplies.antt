-- Replies with a response for each of several resources (RFC 4918, 9.1, 9.2.1, 13 and 14.16 to 14.24): which properties stand in it, by their statuses.
-- Given: who asks, a resource, and what is asked of it; or what became of settings.
use Rattle.std.specs.Prelude.{ℕ, Bool, not, ◌==◌, if◌then◌else◌, List, [], ◌∷◌, map, filter, flat_map, Option, is_some, codes}
use Rattle.std.specs.List.{list_any}
use Rattle.cal_base.specs.Xml.CanonicalXml.{named_element}
use Rattle.cal_model.specs.declared.path.Path.{Path}
use Rattle.cal_model.specs.declared.property.PropName.{PropName}
use Rattle.cal_model.specs.declared.property.Props.{Props}
use Rattle.cal_model.specs.declared.property.Props.TheVariants.{All as AllProps, Names as AllNames, None as NoProps, Some as SomeProps}
use Rattle.cal_model.specs.declared.reply.Reply.{Reply}
use Rattle.cal_model.specs.declared.reply.Refusal.{Refusal}
use Rattle.cal_model.specs.Replies.Hrefs.{href}
use Rattle.cal_model.specs.Access.Privileges.{same_name}
use Rattle.cal_model.specs.Replies.Statuses.{status_line}
use Rattle.cal_model.specs.Replies.XmlText.{element, propstat, response, multistatus}
use Rattle.cal_model.specs.Replies.ReplyForms.{xml_reply}
use Rattle.cal_model.specs.Sight.Resources.{Resource, path_of_resource, Asker}
use Rattle.cal_model.specs.Properties.PropertyTable.{Answer, without_value, answer, names_where, is_in_both, is_in_names}

-- Properties in a response

-- each name once, at its first place
abbrev pub once : List PropName → List PropName
once [] = []
once (name ∷ names) = name ∷ filter (λ other. not (same_name name other)) (once names)

abbrev pub property_element : Answer → List ℕ
property_element a = named_element [] a.name.space a.name.name [] a.content

abbrev pub with_status : ℕ → List Answer → List Answer
with_status status answers = filter (λ (a : Answer). a.status == status) answers

-- the properties that have a status; none for no property
abbrev pub propstat_of : ℕ → List Answer → List ℕ
propstat_of status [] = []
propstat_of status (a ∷ answers) = propstat (flat_map property_element (a ∷ answers)) status

-- the properties by their statuses
abbrev pub propstats : List Answer → List ℕ
propstats answers = flat_map (λ status. propstat_of status (with_status status answers)) (200 ∷ 404 ∷ 403 ∷ 424 ∷ [])

-- What is answered

-- those of some names that are there
abbrev pub there : Asker → Resource → List PropName → List Answer
there asker resource names = with_status 200 (map (answer asker resource) names)

-- RFC 4918, 9.1: those named, each with its status; all that `allprop` lists and that are there; or the names of all that are there
abbrev pub answers : Asker → Resource → Props → List Answer
answers asker resource AllProps = there asker resource (names_where is_in_both resource)
answers asker resource AllNames = map (λ (a : Answer). without_value a.name 200) (there asker resource (names_where is_in_names resource))
answers asker resource NoProps = []
answers asker resource (SomeProps names) = map (answer asker resource) (once names)

-- a resource without properties has a status of its own
abbrev pub status_response : List ℕ → ℕ → List ℕ
status_response path status = response path (element (codes "D:status") (status_line status))

abbrev pub resource_response : Asker → Props → Resource → List ℕ
resource_response asker NoProps resource = status_response (href (path_of_resource resource)) 200
resource_response asker props resource = response (href (path_of_resource resource)) (propstats (answers asker resource props))

abbrev pub multistatus_reply : List ℕ → Reply
multistatus_reply responses = xml_reply 207 (multistatus responses)

-- Settings

abbrev pub is_refused : List (PropName × Option Refusal) → PropName → Bool
is_refused faults name =
    list_any (λ (entry : PropName × Option Refusal). same_name entry.0 name) (filter (λ (entry : PropName × Option Refusal). is_some entry.1) faults)

-- RFC 4918, 9.2.1: where some setting is refused its property has 403 and each other 424; else all have 200. No element has content.
abbrev pub setting_answers : List (PropName × Option Refusal) → ℕ → List Answer
setting_answers faults otherwise =
    map (λ name. without_value name (if is_refused faults name then 403 else otherwise)) (once (map (λ (entry : PropName × Option Refusal). entry.0) faults))

abbrev pub settings_reply : Path → List Answer → Reply
settings_reply path answers = multistatus_reply (response (href path) (propstats answers))
