-- The content of a request is that of its method, and a sound one, or it is a refusal of that method (RFC 9110, 9; RFC 4918, 9; RFC 4791, 5.3 and 7; RFC 3744, 8.1).
use Rattle.std.specs.Prelude.{◌≡◌, ◌≤◌, Bool, true, false, List, [], ◌∷◌, length, codes, IsTrue}
use Rattle.std.specs.List.{Contains}
use Rattle.cal_model.specs.declared.property.Props.{Props}
use Rattle.cal_model.specs.declared.property.Props.TheVariants.{None as NoProps}
use Rattle.cal_model.specs.declared.reply.Refusal.{Refusal}
use Rattle.cal_model.specs.declared.request.Content.{Content}
use Rattle.cal_model.specs.declared.request.Content.TheVariants.{None as NoContent, Put, Find, Patch, Make, Acl, Report, Bad}
use Rattle.cal_model.specs.declared.request.Method.{Method}
use Rattle.cal_model.specs.declared.request.Method.TheVariants.{Options, Get, Head, Put as PutMethod, Delete, Propfind, Proppatch, Report as ReportMethod, Mkcalendar, Acl as AclMethod}
use Rattle.cal_model.specs.Bodies.AclBodies.{grant_limit}
use Rattle.cal_model.specs.Bodies.Refusals.{bad_request, unsupported_media, dav_refusal, caldav_refusal}
use Rattle.cal_model.specs.Bodies.SoundReports.{report_is_sound}

-- the refusals of a method's own that a body or a field can meet
abbrev pub own_refusals : Method → List Refusal
own_refusals Propfind = dav_refusal (codes "propfind-finite-depth") ∷ []
own_refusals ReportMethod =
    dav_refusal (codes "supported-report") ∷ caldav_refusal (codes "valid-filter") ∷ caldav_refusal (codes "supported-filter")
    ∷ caldav_refusal (codes "supported-collation") ∷ caldav_refusal (codes "supported-calendar-data") ∷ []
own_refusals AclMethod =
    dav_refusal (codes "grant-only") ∷ dav_refusal (codes "no-invert") ∷ dav_refusal (codes "recognized-principal")
    ∷ dav_refusal (codes "allowed-principal") ∷ dav_refusal (codes "not-supported-privilege") ∷ dav_refusal (codes "limited-number-of-aces") ∷ []
own_refusals _ = []

-- all of them: 400 and 415 are of all methods
abbrev pub refusals_of : Method → List Refusal
refusals_of method = bad_request ∷ unsupported_media ∷ own_refusals method

-- methods without a content
abbrev pub is_plain : Method → Bool
is_plain Options = true
is_plain Get = true
is_plain Head = true
is_plain Delete = true
is_plain _ = false

-- a PROPFIND asks for something
abbrev pub AsksSomething : Props → Type 0
AsksSomething NoProps = ⊥
AsksSomething _ = Unit {0}

-- the content is that of the method, and a sound one; or it is a refusal of that method
abbrev pub Suits : Method → Content → Type 0
Suits method NoContent = IsTrue (is_plain method)
Suits method (Put media octets) = method ≡ PutMethod
Suits method (Find props deep) = (method ≡ Propfind) × AsksSomething props
Suits method (Patch settings) = method ≡ Proppatch
Suits method (Make settings) = method ≡ Mkcalendar
Suits method (Acl grants) = (method ≡ AclMethod) × (length grants ≤ grant_limit)
Suits method (Report report) = (method ≡ ReportMethod) × IsTrue (report_is_sound report)
Suits method (Bad refusal) = Contains (refusals_of method) refusal
