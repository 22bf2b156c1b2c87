-- What a wire request asks for, and who asks (RFC 9110, 9 and 11; RFC 4918, 9; RFC 4791, 5.3 and 7; RFC 3744, 8.1).
-- Given: the users and a request as it came. Gives: the reply that refuses it before any state is looked at; else the user's number and the request, whose content is the first refusal of its fields and its body where they have one.
use Rattle.std.specs.Prelude.{ℕ, Bool, false, ◌&&◌, if◌then◌else◌, List, [], ◌∷◌, length, bytes_eq, codes, Option, Some, None, is_some, is_none, option_and_then}
use Rattle.cal_base.specs.declared.element.Element.{Element}
use Rattle.cal_base.specs.Xml.XmlFaults.{body_fault}
use Rattle.cal_base.specs.Xml.XmlBodies.{body_element}
use Rattle.cal_model.specs.declared.path.Path.{Path}
use Rattle.cal_model.specs.declared.reply.Reply.{Reply}
use Rattle.cal_model.specs.declared.request.Content.{Content}
use Rattle.cal_model.specs.declared.request.Content.TheVariants.{None as NoContent, Put, Bad}
use Rattle.cal_model.specs.declared.request.Method.{Method}
use Rattle.cal_model.specs.declared.request.Method.TheVariants.{Options, Get, Head, Put as PutMethod, Delete, Propfind, Proppatch, Report, Mkcalendar, Acl}
use Rattle.cal_model.specs.declared.request.Request.{Request}
use Rattle.cal_model.specs.declared.request.Tags.{Tags}
use Rattle.cal_model.specs.declared.wire.WireRequest.{WireRequest}
use Rattle.cal_model.specs.Bodies.AclBodies.{acl_content}
use Rattle.cal_model.specs.Requests.ConditionalTags.{tags_of}
use Rattle.cal_model.specs.Users.Credentials.{authenticated}
use Rattle.cal_model.specs.Requests.FieldValues.{can_be_xml, can_be_calendar, is_plain_coding}
use Rattle.cal_model.specs.Bodies.PropertyBodies.{find_content, find_all, patch_content, make_content, make_plain}
use Rattle.cal_model.specs.Bodies.Refusals.{bad_request, unsupported_media, dav_refusal}
use Rattle.cal_model.specs.Bodies.ReportBodies.{report_content}
use Rattle.cal_model.specs.Paths.TargetPaths.{target_path}
use Rattle.cal_model.specs.Users.UsersFile.{Users}
use Rattle.cal_model.specs.Requests.Methods.{method_of, has_method}
use Rattle.cal_model.specs.Replies.BareReplies.{bare_reply}

-- Bodies

-- the element of a body, if it has no fault
abbrev pub element_of : List ℕ → Option Element
element_of body = if is_none (body_fault body) then body_element body else None

-- what is read of a body in XML; 400 where it is none
abbrev pub of_body : (Element → Content) → List ℕ → Content
of_body read body = elim (element_of body) [ None ↦ Bad bad_request | Some root ↦ read root ]

-- the same where there may be no body
abbrev pub of_optional_body : Content → (Element → Content) → List ℕ → Content
of_optional_body absent read [] = absent
of_optional_body absent read (octet ∷ body) = of_body read (octet ∷ body)

-- a method whose body is XML refuses another Content-Type, also where there is no body
abbrev pub of_xml : WireRequest → Content → Content
of_xml wire content = if can_be_xml wire.media then content else Bad unsupported_media

-- Depth 1 (RFC 4918, 10.2)
abbrev pub is_deep : WireRequest → Bool
is_deep wire = elim wire.depth [ None ↦ false | Some depth ↦ bytes_eq depth (codes "1") ]

-- by the method
abbrev pub body_content : Users → WireRequest → Method → Content
body_content users wire Options = NoContent
body_content users wire Get = NoContent
body_content users wire Head = NoContent
body_content users wire PutMethod = Put (can_be_calendar wire.media) wire.body
body_content users wire Delete = NoContent
body_content users wire Propfind = of_xml wire (of_optional_body (find_all (is_deep wire)) (find_content (is_deep wire)) wire.body)
body_content users wire Proppatch = of_xml wire (of_body patch_content wire.body)
body_content users wire Report = of_xml wire (of_body report_content wire.body)
body_content users wire Mkcalendar = of_xml wire (of_optional_body make_plain make_content wire.body)
body_content users wire Acl = of_xml wire (of_body (acl_content users) wire.body)

-- Fields

-- the tags of a field, if it is there and well formed
abbrev pub tags_in : Option (List ℕ) → Option Tags
tags_in field = option_and_then tags_of field

abbrev pub is_malformed : Option (List ℕ) → Bool
is_malformed field = is_some field && is_none (tags_in field)

-- what a field refuses once the content stands: the content's own refusal comes first
abbrev pub unless_bad : Content → Content → Content
unless_bad (Bad refusal) next = Bad refusal
unless_bad _ next = next

abbrev pub with_tags : WireRequest → Content → Content
with_tags wire content =
    if is_malformed wire.if_match then unless_bad content (Bad bad_request)
    else if is_malformed wire.if_none then unless_bad content (Bad bad_request)
    else content

-- a PROPFIND states a finite depth (RFC 4918, 9.1 and 9.1.1)
abbrev pub depth_refusal : Option (List ℕ) → Content → Content
depth_refusal None content = Bad (dav_refusal (codes "propfind-finite-depth"))
depth_refusal (Some depth) content =
    if bytes_eq depth (codes "0") then content
    else if bytes_eq depth (codes "1") then content
    else if bytes_eq depth (codes "infinity") then Bad (dav_refusal (codes "propfind-finite-depth"))
    else Bad bad_request

abbrev pub with_depth : WireRequest → Method → Content → Content
with_depth wire Propfind content = unless_bad content (depth_refusal wire.depth content)
with_depth wire _ content = content

-- The content, or the first refusal: the coding, the media type, the body, the two fields of tags, Depth.
unfoldable pub content_of : Users → WireRequest → Method → Content
content_of users wire method =
    if is_plain_coding wire.coding then with_depth wire method (with_tags wire (body_content users wire method)) else Bad unsupported_media

-- Requests

-- the reply that refuses; or the user's number and the request
pub data Asked : Type 0 where
  refused : Reply → Asked
  asked : ℕ → Request → Asked

-- a path that lacks the method, which Allow then lists
abbrev pub not_allowed : Path → Reply
not_allowed path = record (bare_reply 405) { allow = Some path }

abbrev pub request_at : Users → WireRequest → Method → Path → Request
request_at users wire method path = record {
  method = method;
  path = path;
  if_match = tags_in wire.if_match;
  if_none = tags_in wire.if_none;
  size = length wire.body;
  content = content_of users wire method;
}

-- a request of a user, with a method: 405 and 404 by the path's shape
abbrev pub asked_by : Users → WireRequest → ℕ → Method → Asked
asked_by users wire user method = elim (target_path wire.target) [
  | None ↦ refused (bare_reply 404)
  | Some path ↦ if has_method path method then asked user (request_at users wire method path) else refused (not_allowed path)
]

-- 501 for another method
abbrev pub asked_with : Users → WireRequest → ℕ → Asked
asked_with users wire user = elim (method_of wire.method) [ None ↦ refused (bare_reply 501) | Some method ↦ asked_by users wire user method ]

-- What a wire request asks for, and who asks: 401 where nobody does.
unfoldable pub asked_of : Users → WireRequest → Asked
asked_of users wire = elim (authenticated users wire.authorization) [ None ↦ refused (bare_reply 401) | Some user ↦ asked_with users wire user ]
