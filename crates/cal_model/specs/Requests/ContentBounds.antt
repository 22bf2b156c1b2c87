-- What the content of a request keeps, whatever its method: grants to those who are there, the size that is told, and as many properties and octets as a body can have.
use Rattle.std.specs.Prelude.{◌≡◌, ℕ, ◌<◌, ◌≤◌, ◌^◌, List, All, length}
use Rattle.cal_model.specs.declared.property.PropSet.{PropSet}
use Rattle.cal_model.specs.declared.property.Props.{Props}
use Rattle.cal_model.specs.declared.report.ReportRequest.TheVariants.{Query, Multiget}
use Rattle.cal_model.specs.declared.request.Content.{Content}
use Rattle.cal_model.specs.declared.request.Content.TheVariants.{Put, Find, Patch, Make, Acl, Report}
use Rattle.cal_model.specs.Bodies.AclLaws.{IsGrantAmong}
use Rattle.cal_model.specs.Bodies.ContentSizes.{octets_in, values_size, names_asked}
use Rattle.cal_model.specs.Streams.WireLimits.{body_limit}
use Rattle.cal_model.specs.Users.UsersFile.{Users}

-- Grants: to users and groups of these, and sets of the nine privileges
abbrev pub GrantsAmong : Users → Content → Type 0
GrantsAmong users (Acl grants) = All (IsGrantAmong users) grants
GrantsAmong users _ = Unit {0}

-- The size of a PUT is that of its octets
abbrev pub SizeIsTold : ℕ → Content → Type 0
SizeIsTold size (Put media octets) = size ≡ length octets
SizeIsTold size _ = Unit {0}

-- The text of a report's zone
abbrev pub ZoneIsShort : Content → Type 0
ZoneIsShort (Report (Query props select filter zone)) = octets_in zone < 2 ^ 32
ZoneIsShort _ = Unit {0}

-- Lists of properties
abbrev pub most_properties : ℕ
most_properties = 262144

abbrev pub SettingsAreFew : List PropSet → Type 0
SettingsAreFew settings = (length settings ≤ most_properties) × (values_size settings ≤ body_limit)

abbrev pub NamesAreFew : Props → Type 0
NamesAreFew props = length (names_asked props) ≤ most_properties

abbrev pub PropertiesAreFew : Content → Type 0
PropertiesAreFew (Find props deep) = NamesAreFew props
PropertiesAreFew (Patch settings) = SettingsAreFew settings
PropertiesAreFew (Make settings) = SettingsAreFew settings
PropertiesAreFew (Report (Query props select filter timezone)) = NamesAreFew props
PropertiesAreFew (Report (Multiget props select hrefs)) = NamesAreFew props
PropertiesAreFew _ = Unit {0}
