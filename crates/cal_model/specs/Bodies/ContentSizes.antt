-- How much a content lists: four for each item of a list, and the octets of the items' values.
-- Given: a content. The laws say that what an element is read to lists no more than the element holds, and so no more than the body has octets.
use Rattle.std.specs.Prelude.{ℕ, ◌+◌, ◌*◌, ◌≤◌, Bool, List, [], length, sum_by, Option, Some, None}
use Rattle.cal_base.specs.declared.element.Element.{Element}
use Rattle.cal_base.specs.Xml.XmlSizes.{element_size}
use Rattle.cal_model.specs.declared.property.PropName.{PropName}
use Rattle.cal_model.specs.declared.property.PropSet.{PropSet}
use Rattle.cal_model.specs.declared.property.Props.{Props}
use Rattle.cal_model.specs.declared.property.Props.TheVariants.{All as AllProps, Names as AllNames, None as NoProps, Some as SomeProps}
use Rattle.cal_model.specs.declared.report.ReportRequest.{ReportRequest}
use Rattle.cal_model.specs.declared.report.ReportRequest.TheVariants.{Query, Multiget, FreeBusy}
use Rattle.cal_model.specs.declared.request.Content.{Content}
use Rattle.cal_model.specs.declared.request.Content.TheVariants.{None as NoContent, Put, Find, Patch, Make, Acl, Report, Bad}
use Rattle.cal_model.specs.Bodies.AclBodies.{acl_content}
use Rattle.cal_model.specs.Bodies.PropertyBodies.{find_content, patch_content, make_content}
use Rattle.cal_model.specs.Bodies.ReportBodies.{report_content}
use Rattle.cal_model.specs.Users.UsersFile.{Users}

-- the octets of a value that may be absent
abbrev pub octets_in : Option (List ℕ) → ℕ
octets_in None = 0
octets_in (Some text) = length text

-- the octets of the values of settings
abbrev pub values_size : List PropSet → ℕ
values_size settings = sum_by (λ (setting : PropSet). octets_in setting.value) settings

-- the names that are asked for one by one
abbrev pub names_asked : Props → List PropName
names_asked AllProps = []
names_asked AllNames = []
names_asked NoProps = []
names_asked (SomeProps names) = names

abbrev pub SettingsFit : ℕ → List PropSet → Type 0
SettingsFit size settings = 4 * length settings + values_size settings ≤ size

abbrev pub NamesFit : ℕ → Props → Type 0
NamesFit size props = 4 * length (names_asked props) ≤ size

abbrev pub TextsFit : ℕ → List (List ℕ) → Type 0
TextsFit size texts = 4 * length texts + sum_by length texts ≤ size

-- each list of a report comes to at most so many
abbrev pub ReportFits : ℕ → ReportRequest → Type 0
ReportFits size (Query props select filter zone) = NamesFit size props × (octets_in zone ≤ size)
ReportFits size (Multiget props select hrefs) = NamesFit size props × TextsFit size hrefs
ReportFits size (FreeBusy range) = Unit {0}

-- each list of a content comes to at most so many
abbrev pub ContentFits : ℕ → Content → Type 0
ContentFits size NoContent = Unit {0}
ContentFits size (Put media octets) = length octets ≤ size
ContentFits size (Find props deep) = NamesFit size props
ContentFits size (Patch settings) = SettingsFit size settings
ContentFits size (Make settings) = SettingsFit size settings
ContentFits size (Acl grants) = 4 * length grants ≤ size
ContentFits size (Report report) = ReportFits size report
ContentFits size (Bad refusal) = Unit {0}

-- The laws: what an element is read to lists no more than the element holds

abbrev pub FindsFit : Type 0
FindsFit = (deep : Bool) (root : Element) → ContentFits (element_size root) (find_content deep root)

abbrev pub PatchesFit : Type 0
PatchesFit = (root : Element) → ContentFits (element_size root) (patch_content root)

abbrev pub MakesFit : Type 0
MakesFit = (root : Element) → ContentFits (element_size root) (make_content root)

abbrev pub ReportsFit : Type 0
ReportsFit = (root : Element) → ContentFits (element_size root) (report_content root)

abbrev pub AclsFit : Type 0
AclsFit = (users : Users) (root : Element) → ContentFits (element_size root) (acl_content users root)
