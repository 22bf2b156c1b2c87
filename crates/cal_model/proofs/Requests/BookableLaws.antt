-- What a wire request asks for can be booked.
use Rattle.std.specs.Prelude.{◌≡◌, ℕ, ◌-◌, ◌<◌, ◌≤◌, ◌==◌, Bool, true, false, if◌then◌else◌, List, [], ◌∷◌, map, take, length, IsTrue, slice_get, bytes_eq, Option, Some, None, option_and_then}
use Rattle.std.specs.List.{list_any}
use Rattle.std.proofs.Common.{arith, refl, ap, subst}
use Rattle.std.proofs.lemmas.Option.{same_Some}
use Rattle.std.proofs.lemmas.List.Quantifiers.{position-Some}
use Rattle.cal_base.specs.declared.element.Element.{Element}
use Rattle.cal_base.specs.Xml.XmlSizes.{element_size}
use Rattle.cal_base.proofs.Xml.XmlSizeLemmas.{IsBody-size}
use Rattle.cal_model.specs.declared.path.Path.{Path}
use Rattle.cal_model.specs.declared.report.ReportRequest.TheVariants.{Query, Multiget, FreeBusy}
use Rattle.cal_model.specs.declared.request.Content.{Content}
use Rattle.cal_model.specs.declared.request.Content.TheVariants.{None as NoContent, Put, Find, Patch, Make, Acl, Report, Bad}
use Rattle.cal_model.specs.declared.request.Method.{Method}
use Rattle.cal_model.specs.declared.request.Method.TheVariants.{Options, Get, Head, Put as PutMethod, Delete, Propfind, Proppatch, Report as ReportMethod, Mkcalendar, Acl as AclMethod}
use Rattle.cal_model.specs.declared.request.Request.{Request}
use Rattle.cal_model.specs.declared.wire.WireRequest.{WireRequest}
use Rattle.cal_model.specs.Bodies.AclBodies.{acl_content}
use Rattle.cal_model.specs.Requests.AskedRequests.{Asked, refused, asked, not_allowed, request_at, asked_by, asked_with, asked_of, is_deep, content_of}
use Rattle.cal_model.specs.Replies.BareReplies.{bare_reply}
use Rattle.cal_model.specs.Requests.Methods.{has_method, method_of}
use Rattle.cal_model.specs.Users.Credentials.{Credentials, has_digest, spelled_credentials, user_of_credentials, admitted_by, authenticated}
use Rattle.cal_model.specs.Bodies.PropertyBodies.{find_content, patch_content, make_content}
use Rattle.cal_model.specs.Bodies.ReportBodies.{report_content}
use Rattle.percent_encoding.specs.Percent.{percent_decode}
use Rattle.cal_base.specs.Lines.ContentLines.{pieces}
use Rattle.cal_model.specs.Words.Lists.{is_empty, last_or_else}
use Rattle.cal_model.specs.Paths.TargetPaths.{slash, target_path, is_path, path_of_names, path_of_segments, path_of_text, without_host, without_query}
use Rattle.cal_model.specs.Users.UsersFile.{User, Users, number_of}
use Rattle.cal_model.proofs.Bodies.GrantLaws.{grants_are_among}
use Rattle.cal_model.proofs.Paths.NamedPaths.{named, all_some}
use Rattle.cal_model.specs.Bodies.ContentSizes.{ContentFits}
use Rattle.cal_model.specs.Streams.WireLimits.{body_limit}
use Rattle.cal_model.specs.Requests.BookableRequests.{IsBookable, RequestsAreBookable, RequestsFit}
use Rattle.cal_model.specs.Requests.MethodContents.{Suits}
use Rattle.cal_model.specs.Requests.ContentBounds.{GrantsAmong, SizeIsTold, ZoneIsShort, PropertiesAreFew}
use Rattle.cal_model.proofs.Bodies.BodySizes.{finds_fit, patches_fit, makes_fit, reports_fit}
use Rattle.cal_model.proofs.Bodies.AclSizes.{acls_fit}
use Rattle.cal_model.proofs.Requests.ContentParts.{OfMethod, OfDepth, content-holds}
use Rattle.cal_model.proofs.Requests.SuitedContents.{content_suits}

-- Sizes

fits_more : (size more : ℕ) (content : Content) → size ≤ more → ContentFits size content → ContentFits more content
fits_more size more NoContent h f = tt
fits_more size more (Put media octets) h f = omega (arith, h, f)
fits_more size more (Find props deep) h f = omega (arith, h, f)
fits_more size more (Patch settings) h f = omega (arith, h, f)
fits_more size more (Make settings) h f = omega (arith, h, f)
fits_more size more (Acl grants) h f = omega (arith, h, f)
fits_more size more (Report (Query props select filter timezone)) h f = (omega (arith, h, f.0), omega (arith, h, f.1))
fits_more size more (Report (Multiget props select hrefs)) h f = (omega (arith, h, f.0), omega (arith, h, f.1))
fits_more size more (Report (FreeBusy range)) h f = tt
fits_more size more (Bad refusal) h f = tt

of_fits : (users : Users) (wire : WireRequest) (method : Method) → OfMethod (ContentFits (length wire.body)) users wire method
of_fits users wire Options = tt
of_fits users wire Get = tt
of_fits users wire Head = tt
of_fits users wire PutMethod = omega arith
of_fits users wire Delete = tt
of_fits users wire Propfind = (omega arith, λ root is. fits_more (element_size root) (length wire.body) (find_content (is_deep wire) root) (IsBody-size wire.body root is) (finds_fit (is_deep wire) root))
of_fits users wire Proppatch = λ root is. fits_more (element_size root) (length wire.body) (patch_content root) (IsBody-size wire.body root is) (patches_fit root)
of_fits users wire ReportMethod = λ root is. fits_more (element_size root) (length wire.body) (report_content root) (IsBody-size wire.body root is) (reports_fit root)
of_fits users wire Mkcalendar = (omega arith, λ root is. fits_more (element_size root) (length wire.body) (make_content root) (IsBody-size wire.body root is) (makes_fit root))
of_fits users wire AclMethod = λ root is. fits_more (element_size root) (length wire.body) (acl_content users root) (IsBody-size wire.body root is) (acls_fit users root)

depth_fits : (size : ℕ) (method : Method) → OfDepth (ContentFits size) method
depth_fits size Options = tt
depth_fits size Get = tt
depth_fits size Head = tt
depth_fits size PutMethod = tt
depth_fits size Delete = tt
depth_fits size Propfind = tt
depth_fits size Proppatch = tt
depth_fits size ReportMethod = tt
depth_fits size Mkcalendar = tt
depth_fits size AclMethod = tt

-- a content lists no more than the body has octets
pub content_fits : (users : Users) (wire : WireRequest) (method : Method) → ContentFits (length wire.body) (content_of users wire method)
content_fits users wire method = content-holds (ContentFits (length wire.body)) users wire method tt tt (depth_fits (length wire.body) method) (of_fits users wire method)

-- so a body of so many octets has so few properties, and a short text of a zone
few_fit : (size : ℕ) (content : Content) → size ≤ body_limit → ContentFits size content → PropertiesAreFew content
few_fit size NoContent h f = tt
few_fit size (Put media octets) h f = tt
few_fit size (Find props deep) h f = omega (arith, h, f)
few_fit size (Patch settings) h f = (omega (arith, h, f), omega (arith, h, f))
few_fit size (Make settings) h f = (omega (arith, h, f), omega (arith, h, f))
few_fit size (Acl grants) h f = tt
few_fit size (Report (Query props select filter timezone)) h f = omega (arith, h, f.0)
few_fit size (Report (Multiget props select hrefs)) h f = omega (arith, h, f.0)
few_fit size (Report (FreeBusy range)) h f = tt
few_fit size (Bad refusal) h f = tt

zone_fits : (size : ℕ) (content : Content) → size ≤ body_limit → ContentFits size content → ZoneIsShort content
zone_fits size NoContent h f = tt
zone_fits size (Put media octets) h f = tt
zone_fits size (Find props deep) h f = tt
zone_fits size (Patch settings) h f = tt
zone_fits size (Make settings) h f = tt
zone_fits size (Acl grants) h f = tt
zone_fits size (Report (Query props select filter timezone)) h f = omega (arith, h, f.1)
zone_fits size (Report (Multiget props select hrefs)) h f = tt
zone_fits size (Report (FreeBusy range)) h f = tt
zone_fits size (Bad refusal) h f = tt

-- What depends on the method alone

told : (method : Method) (size : ℕ) (content : Content) → (method ≡ PutMethod → ⊥) → Suits method content → SizeIsTold size content
told method size NoContent apart h = tt
told method size (Put media octets) apart h = absurd (apart h)
told method size (Find props deep) apart h = tt
told method size (Patch settings) apart h = tt
told method size (Make settings) apart h = tt
told method size (Acl grants) apart h = tt
told method size (Report report) apart h = tt
told method size (Bad refusal) apart h = tt

size_told : (users : Users) (wire : WireRequest) (method : Method) → SizeIsTold (length wire.body) (content_of users wire method)
size_told users wire Options = told Options _ _ (λ e. absurd cc) (content_suits users wire Options)
size_told users wire Get = told Get _ _ (λ e. absurd cc) (content_suits users wire Get)
size_told users wire Head = told Head _ _ (λ e. absurd cc) (content_suits users wire Head)
size_told users wire PutMethod = content-holds (SizeIsTold (length wire.body)) users wire PutMethod tt tt tt refl
size_told users wire Delete = told Delete _ _ (λ e. absurd cc) (content_suits users wire Delete)
size_told users wire Propfind = told Propfind _ _ (λ e. absurd cc) (content_suits users wire Propfind)
size_told users wire Proppatch = told Proppatch _ _ (λ e. absurd cc) (content_suits users wire Proppatch)
size_told users wire ReportMethod = told ReportMethod _ _ (λ e. absurd cc) (content_suits users wire ReportMethod)
size_told users wire Mkcalendar = told Mkcalendar _ _ (λ e. absurd cc) (content_suits users wire Mkcalendar)
size_told users wire AclMethod = told AclMethod _ _ (λ e. absurd cc) (content_suits users wire AclMethod)

grantless : (users : Users) (method : Method) (content : Content) → (method ≡ AclMethod → ⊥) → Suits method content → GrantsAmong users content
grantless users method NoContent apart h = tt
grantless users method (Put media octets) apart h = tt
grantless users method (Find props deep) apart h = tt
grantless users method (Patch settings) apart h = tt
grantless users method (Make settings) apart h = tt
grantless users method (Acl grants) apart h = absurd (apart h.0)
grantless users method (Report report) apart h = tt
grantless users method (Bad refusal) apart h = tt

acl_among : (users : Users) (root : Element) → GrantsAmong users (acl_content users root)
acl_among users root = by (acl_content users root) refl
  where
    by : (content : Content) → acl_content users root ≡ content → GrantsAmong users content
    by NoContent e = tt
    by (Put media octets) e = tt
    by (Find props deep) e = tt
    by (Patch settings) e = tt
    by (Make settings) e = tt
    by (Acl grants) e = grants_are_among users root grants e
    by (Report report) e = tt
    by (Bad refusal) e = tt

granted : (users : Users) (wire : WireRequest) (method : Method) → GrantsAmong users (content_of users wire method)
granted users wire Options = grantless users Options _ (λ e. absurd cc) (content_suits users wire Options)
granted users wire Get = grantless users Get _ (λ e. absurd cc) (content_suits users wire Get)
granted users wire Head = grantless users Head _ (λ e. absurd cc) (content_suits users wire Head)
granted users wire PutMethod = grantless users PutMethod _ (λ e. absurd cc) (content_suits users wire PutMethod)
granted users wire Delete = grantless users Delete _ (λ e. absurd cc) (content_suits users wire Delete)
granted users wire Propfind = grantless users Propfind _ (λ e. absurd cc) (content_suits users wire Propfind)
granted users wire Proppatch = grantless users Proppatch _ (λ e. absurd cc) (content_suits users wire Proppatch)
granted users wire ReportMethod = grantless users ReportMethod _ (λ e. absurd cc) (content_suits users wire ReportMethod)
granted users wire Mkcalendar = grantless users Mkcalendar _ (λ e. absurd cc) (content_suits users wire Mkcalendar)
granted users wire AclMethod = content-holds (GrantsAmong users) users wire AclMethod tt tt tt (λ root is. acl_among users root)

-- Who asks

admitted_within : (users : Users) (password : List ℕ) (n who : ℕ) → n < length users.people → admitted_by users password n ≡ Some who → who < length users.people
admitted_within users password n who h e = by (slice_get users.people n) e
  where
    by_digest : (b : Bool) → (if b then Some n else None) ≡ Some who → who < length users.people
    by_digest true k = subst (λ (number : ℕ). number < length users.people) (same_Some n who k) h
    by_digest false k = absurd cc

    by : (found : Option User) → option_and_then (λ user. if has_digest password user.digest then Some n else None) found ≡ Some who → who < length users.people
    by None k = absurd cc
    by (Some user) k = by_digest (has_digest password user.digest) k

credentials_within : (users : Users) (found : Option Credentials) (who : ℕ) → option_and_then (user_of_credentials users) found ≡ Some who → who < length users.people
credentials_within users None who e = absurd cc
credentials_within users (Some credentials) who e =
    by (number_of users credentials.name) (λ n h. (position-Some (λ (user : User). bytes_eq credentials.name user.name) users.people n (record { name = []; digest = [] }) h).0) e
  where
    by : (found : Option ℕ) → ((n : ℕ) → found ≡ Some n → n < length users.people) → option_and_then (admitted_by users credentials.password) found ≡ Some who → who < length users.people
    by None h k = absurd cc
    by (Some n) h k = admitted_within users credentials.password n who (h n refl) k

authenticated_within : (users : Users) (field : Option (List ℕ)) (who : ℕ) → authenticated users field ≡ Some who → who < length users.people
unfolding authenticated
authenticated_within users None who e = absurd cc
authenticated_within users (Some value) who e = credentials_within users (spelled_credentials value) who e

-- Where

named_path : (ends : Bool) (names : List (List ℕ)) (path : Path) → (if list_any is_empty names then None else path_of_names ends names) ≡ Some path → is_path path ≡ true
named_path ends names path e = by (list_any is_empty names) refl e
  where
    by : (b : Bool) → list_any is_empty names ≡ b → (if b then None else path_of_names ends names) ≡ Some path → is_path path ≡ true
    by true h k = absurd cc
    by false h k = (named (λ (name : List ℕ). Unit {0}) ends names path (all_some names h) (λ place name within. tt) k).0

text_path : (text : List ℕ) (path : Path) → path_of_text text ≡ Some path → is_path path ≡ true
text_path [] path e = subst (λ (those : Path). is_path those ≡ true) (same_Some _ path e) refl
text_path (octet ∷ text) path e = by (octet == slash) e
  where
    by : (b : Bool) → (if b then path_of_segments (pieces slash text) else None) ≡ Some path → is_path path ≡ true
    by true k = named_path (is_empty (last_or_else [] (pieces slash text))) (map percent_decode (if is_empty (last_or_else [] (pieces slash text)) then take (length (pieces slash text) - 1) (pieces slash text) else pieces slash text)) path k
    by false k = absurd cc

-- a path that a target names, whatever numbers stand in it
target_is_path : (target : List ℕ) (path : Path) → target_path target ≡ Some path → is_path path ≡ true
unfolding target_path
target_is_path target path e = text_path (without_host (without_query target)) path e

is_true : (b : Bool) → b ≡ true → IsTrue b
is_true b h = rw h refl

-- Requests

asked_who : Asked → ℕ
asked_who (refused reply) = 0
asked_who (asked who request) = who

asked_what : Request → Asked → Request
asked_what other (refused reply) = other
asked_what other (asked who request) = request

same_who : (one other : ℕ) (request next : Request) → asked one request ≡ asked other next → one ≡ other
unfolding asked_who
same_who one other request next e = ap asked_who e

same_what : (one other : ℕ) (request next : Request) → asked one request ≡ asked other next → request ≡ next
unfolding asked_what
same_what one other request next e = ap (asked_what request) e

at_path : (users : Users) (wire : WireRequest) (who : ℕ) (method : Method) (path : Path) → length wire.body ≤ body_limit → who < length users.people →
    target_path wire.target ≡ Some path → has_method path method ≡ true → IsBookable users who (request_at users wire method path)
at_path users wire who method path short user found allowed = record {
  user = user;
  grants = granted users wire method;
  size = size_told users wire method;
  zone = zone_fits (length wire.body) (content_of users wire method) short (content_fits users wire method);
  few = few_fit (length wire.body) (content_of users wire method) short (content_fits users wire method);
  suits = content_suits users wire method;
  allowed = allowed;
  path = is_true (is_path path) (target_is_path wire.target path found);
}

-- what is asked for is a request at the path that the target names, of a method that the path has
record IsAsked (users : Users) (wire : WireRequest) (who : ℕ) (request : Request) : Type 0 where
  method : Method
  path : Path
  user : who < length users.people
  found : target_path wire.target ≡ Some path
  allowed : has_method path method ≡ true
  meant : request_at users wire method path ≡ request

by_method : (users : Users) (wire : WireRequest) (user who : ℕ) (method : Method) (request : Request) → user < length users.people → asked_by users wire user method ≡ asked who request → IsAsked users wire who request
by_method users wire user who method request within e = by_path (target_path wire.target) refl e
  where
    by_allowed : (path : Path) → target_path wire.target ≡ Some path → (b : Bool) → has_method path method ≡ b → (if b then asked user (request_at users wire method path) else refused (not_allowed path)) ≡ asked who request → IsAsked users wire who request
    by_allowed path t true a k = record {
      method = method;
      path = path;
      user = subst (λ (number : ℕ). number < length users.people) (same_who user who (request_at users wire method path) request k) within;
      found = t;
      allowed = a;
      meant = same_what user who (request_at users wire method path) request k;
    }
    by_allowed path t false a k = absurd cc

    by_path : (found : Option Path) → target_path wire.target ≡ found →
        ◌≡◌ {A = Asked} (elim found [ None ↦ refused (bare_reply 404) | Some path ↦ if has_method path method then asked user (request_at users wire method path) else refused (not_allowed path) ]) (asked who request) → IsAsked users wire who request
    by_path None t k = absurd cc
    by_path (Some path) t k = by_allowed path t (has_method path method) refl k

by_user : (users : Users) (wire : WireRequest) (user who : ℕ) (request : Request) → user < length users.people → asked_with users wire user ≡ asked who request → IsAsked users wire who request
by_user users wire user who request within e = by (method_of wire.method) e
  where
    by : (found : Option Method) → ◌≡◌ {A = Asked} (elim found [ None ↦ refused (bare_reply 501) | Some method ↦ asked_by users wire user method ]) (asked who request) → IsAsked users wire who request
    by None k = absurd cc
    by (Some method) k = by_method users wire user who method request within k

is_asked : (users : Users) (wire : WireRequest) (who : ℕ) (request : Request) → asked_of users wire ≡ asked who request → IsAsked users wire who request
unfolding asked_of
is_asked users wire who request e = by (authenticated users wire.authorization) (λ user h. authenticated_within users wire.authorization user h) e
  where
    by : (found : Option ℕ) → ((user : ℕ) → found ≡ Some user → user < length users.people) →
        ◌≡◌ {A = Asked} (elim found [ None ↦ refused (bare_reply 401) | Some user ↦ asked_with users wire user ]) (asked who request) → IsAsked users wire who request
    by None h k = absurd cc
    by (Some user) h k = by_user users wire user who request (h user refl) k

pub requests_are_bookable : RequestsAreBookable
requests_are_bookable users wire who request short e =
    let is = is_asked users wire who request e in
    subst (IsBookable users who) is.meant (at_path users wire who is.method is.path short is.user is.found is.allowed)

pub requests_fit : RequestsFit
requests_fit users wire who request e =
    let is = is_asked users wire who request e in
    subst (λ (those : Request). (those.size ≡ length wire.body) × ContentFits those.size those.content) is.meant (refl, content_fits users wire is.method)
