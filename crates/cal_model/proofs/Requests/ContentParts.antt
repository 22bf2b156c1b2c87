-- What holds of a content, however it comes about: of the refusals by fields, and of what is read of a body.
use Rattle.std.specs.Prelude.{◌≡◌, ℕ, Bool, true, false, if◌then◌else◌, List, [], ◌∷◌, codes, bytes_eq, Option, Some, None, is_none}
use Rattle.std.proofs.Common.{refl}
use Rattle.cal_base.specs.declared.element.Element.{Element}
use Rattle.cal_base.specs.Xml.XmlFaults.{Fault, body_fault}
use Rattle.cal_base.specs.Xml.XmlBodies.{body_element, IsBody}
use Rattle.cal_model.specs.declared.request.Content.{Content}
use Rattle.cal_model.specs.declared.request.Content.TheVariants.{None as NoContent, Put, Find, Patch, Make, Acl, Report, Bad}
use Rattle.cal_model.specs.declared.request.Method.{Method}
use Rattle.cal_model.specs.declared.request.Method.TheVariants.{Options, Get, Head, Put as PutMethod, Delete, Propfind, Proppatch, Report as ReportMethod, Mkcalendar, Acl as AclMethod}
use Rattle.cal_model.specs.declared.wire.WireRequest.{WireRequest}
use Rattle.cal_model.specs.Bodies.AclBodies.{acl_content}
use Rattle.cal_model.specs.Requests.AskedRequests.{of_body, of_optional_body, of_xml, is_deep, body_content, is_malformed, unless_bad, with_tags, depth_refusal, with_depth, content_of}
use Rattle.cal_model.specs.Requests.FieldValues.{can_be_xml, can_be_calendar, is_plain_coding}
use Rattle.cal_model.specs.Bodies.PropertyBodies.{find_content, find_all, patch_content, make_content, make_plain}
use Rattle.cal_model.specs.Bodies.Refusals.{bad_request, unsupported_media, dav_refusal}
use Rattle.cal_model.specs.Bodies.ReportBodies.{report_content}
use Rattle.cal_model.specs.Users.UsersFile.{Users}

-- it holds of each element that a body spells
abbrev pub OfRoots : (Content → Type 0) → (Element → Content) → List ℕ → Type 0
OfRoots Q read body = (root : Element) → IsBody body root → Q (read root)

-- it holds of whatever the method reads
abbrev pub OfMethod : (Content → Type 0) → Users → WireRequest → Method → Type 0
OfMethod Q users wire Options = Q NoContent
OfMethod Q users wire Get = Q NoContent
OfMethod Q users wire Head = Q NoContent
OfMethod Q users wire PutMethod = Q (Put (can_be_calendar wire.media) wire.body)
OfMethod Q users wire Delete = Q NoContent
OfMethod Q users wire Propfind = Q (find_all (is_deep wire)) × OfRoots Q (find_content (is_deep wire)) wire.body
OfMethod Q users wire Proppatch = OfRoots Q patch_content wire.body
OfMethod Q users wire ReportMethod = OfRoots Q report_content wire.body
OfMethod Q users wire Mkcalendar = Q make_plain × OfRoots Q make_content wire.body
OfMethod Q users wire AclMethod = OfRoots Q (acl_content users) wire.body

of_body-holds : (Q : Content → Type 0) (read : Element → Content) (body : List ℕ) → Q (Bad bad_request) → OfRoots Q read body → Q (of_body read body)
of_body-holds Q read body bad h = by (body_fault body) refl (body_element body) refl
  where
    by : (fault : Option Fault) → body_fault body ≡ fault → (found : Option Element) → body_element body ≡ found → Q (elim (if is_none fault then found else None) [ None ↦ Bad bad_request | Some root ↦ read root ])
    by None f None e = bad
    by None f (Some root) e = h root (record { sound = f; spelled = e })
    by (Some fault) f found e = bad

of_optional-holds : (Q : Content → Type 0) (absent : Content) (read : Element → Content) (body : List ℕ) → Q (Bad bad_request) → Q absent → OfRoots Q read body → Q (of_optional_body absent read body)
of_optional-holds Q absent read [] bad plain h = plain
of_optional-holds Q absent read (octet ∷ body) bad plain h = of_body-holds Q read (octet ∷ body) bad h

pub if-holds : (Q : Content → Type 0) (b : Bool) (one other : Content) → Q one → Q other → Q (if b then one else other)
if-holds Q true one other h k = h
if-holds Q false one other h k = k

of_xml-holds : (Q : Content → Type 0) (wire : WireRequest) (content : Content) → Q (Bad unsupported_media) → Q content → Q (of_xml wire content)
of_xml-holds Q wire content bad h = if-holds Q (can_be_xml wire.media) content (Bad unsupported_media) h bad

body-holds : (Q : Content → Type 0) (users : Users) (wire : WireRequest) (method : Method) → Q (Bad bad_request) → Q (Bad unsupported_media) → OfMethod Q users wire method → Q (body_content users wire method)
body-holds Q users wire Options bad media h = h
body-holds Q users wire Get bad media h = h
body-holds Q users wire Head bad media h = h
body-holds Q users wire PutMethod bad media h = h
body-holds Q users wire Delete bad media h = h
body-holds Q users wire Propfind bad media h = of_xml-holds Q wire _ media (of_optional-holds Q _ _ wire.body bad h.0 h.1)
body-holds Q users wire Proppatch bad media h = of_xml-holds Q wire _ media (of_body-holds Q _ wire.body bad h)
body-holds Q users wire ReportMethod bad media h = of_xml-holds Q wire _ media (of_body-holds Q _ wire.body bad h)
body-holds Q users wire Mkcalendar bad media h = of_xml-holds Q wire _ media (of_optional-holds Q _ _ wire.body bad h.0 h.1)
body-holds Q users wire AclMethod bad media h = of_xml-holds Q wire _ media (of_body-holds Q _ wire.body bad h)

unless_bad-holds : (Q : Content → Type 0) (content next : Content) → Q content → Q next → Q (unless_bad content next)
unless_bad-holds Q NoContent next h k = k
unless_bad-holds Q (Put media octets) next h k = k
unless_bad-holds Q (Find props deep) next h k = k
unless_bad-holds Q (Patch settings) next h k = k
unless_bad-holds Q (Make settings) next h k = k
unless_bad-holds Q (Acl grants) next h k = k
unless_bad-holds Q (Report report) next h k = k
unless_bad-holds Q (Bad refusal) next h k = h

with_tags-holds : (Q : Content → Type 0) (wire : WireRequest) (content : Content) → Q (Bad bad_request) → Q content → Q (with_tags wire content)
with_tags-holds Q wire content bad h =
    let refused = unless_bad-holds Q content (Bad bad_request) h bad in
    if-holds Q (is_malformed wire.if_match) _ _ refused (if-holds Q (is_malformed wire.if_none) _ _ refused h)

-- the refusal of a PROPFIND by its depth, where the method is one
abbrev pub OfDepth : (Content → Type 0) → Method → Type 0
OfDepth Q Propfind = Q (Bad (dav_refusal (codes "propfind-finite-depth")))
OfDepth Q _ = Unit {0}

depth-holds : (Q : Content → Type 0) (depth : Option (List ℕ)) (content : Content) → Q (Bad bad_request) → Q (Bad (dav_refusal (codes "propfind-finite-depth"))) → Q content → Q (depth_refusal depth content)
depth-holds Q None content bad finite h = finite
depth-holds Q (Some depth) content bad finite h =
    if-holds Q (bytes_eq depth (codes "0")) _ _ h (if-holds Q (bytes_eq depth (codes "1")) _ _ h (if-holds Q (bytes_eq depth (codes "infinity")) _ _ finite bad))

with_depth-holds : (Q : Content → Type 0) (wire : WireRequest) (method : Method) (content : Content) → Q (Bad bad_request) → OfDepth Q method → Q content → Q (with_depth wire method content)
with_depth-holds Q wire Options content bad finite h = h
with_depth-holds Q wire Get content bad finite h = h
with_depth-holds Q wire Head content bad finite h = h
with_depth-holds Q wire PutMethod content bad finite h = h
with_depth-holds Q wire Delete content bad finite h = h
with_depth-holds Q wire Propfind content bad finite h = unless_bad-holds Q content _ h (depth-holds Q wire.depth content bad finite h)
with_depth-holds Q wire Proppatch content bad finite h = h
with_depth-holds Q wire ReportMethod content bad finite h = h
with_depth-holds Q wire Mkcalendar content bad finite h = h
with_depth-holds Q wire AclMethod content bad finite h = h

-- what holds of the refusals and of whatever the method reads, holds of the content
pub content-holds : (Q : Content → Type 0) (users : Users) (wire : WireRequest) (method : Method) →
    Q (Bad bad_request) → Q (Bad unsupported_media) → OfDepth Q method → OfMethod Q users wire method → Q (content_of users wire method)
unfolding content_of
content-holds Q users wire method bad media finite h =
    if-holds Q (is_plain_coding wire.coding) _ _ (with_depth-holds Q wire method _ bad finite (with_tags-holds Q wire _ bad (body-holds Q users wire method bad media h))) media
