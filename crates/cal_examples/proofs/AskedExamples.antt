-- What requests ask for, from the fields and the octets of the body (RFC 9110, 9; RFC 4918, 9; RFC 4791, 5.3 and 7), and each refusal by a field.
use Rattle.std.specs.Prelude.{◌≡◌, refl, ℕ, Bool, true, false, List, [], ◌∷◌, Some, None, codes, pos}
use Rattle.std.specs.Str.{is_utf8, chars}
use lib.Utf8.{encode}
use denote.Hole.Carrier as H
use Rattle.cal_base.specs.declared.element.Item as I
use Rattle.cal_base.specs.declared.element.Item.TheBlock as B
use Rattle.base64.proofs.OnLiterals.{base64_on_literals}
use Rattle.hex.specs.Hex.{encode_with}
use Rattle.httparse.specs.Grammar.{trim_ows}
use Rattle.percent_encoding.specs.Percent.{percent_decode}
use Rattle.sha2.specs.Sha256.{first_words, schedule, rounds, compress, hash_after, digest_bytes, sha256}
use Rattle.cal_model.specs.declared.path.Path.TheVariants.{Root, Principal, Home, Calendar, Object}
use Rattle.cal_model.specs.declared.property.Props.TheVariants.{All as AllProps}
use Rattle.cal_model.specs.declared.report.ReportRequest.TheVariants.{FreeBusy}
use Rattle.cal_model.specs.declared.request.Content.{Content}
use Rattle.cal_model.specs.declared.request.Content.TheVariants.{None as NoContent, Put, Find, Make, Report as ReportContent, Bad}
use Rattle.cal_model.specs.declared.request.Method.TheVariants.{Options, Put as PutMethod, Propfind, Proppatch, Report, Mkcalendar}
use Rattle.cal_model.specs.declared.request.Tags.TheVariants.{Any}
use Rattle.cal_model.specs.declared.wire.WireRequest.{WireRequest}
use Rattle.cal_model.specs.Words.Cuts.{cut_at}
use Rattle.cal_model.specs.Words.Limits.{last_date}
use Rattle.cal_model.specs.Values.ValueTexts.{date_of, time_of, date_time_of}
use Rattle.cal_model.specs.Values.UtcTexts.{utc_of}
use Rattle.cal_model.specs.Replies.BareReplies.{bare_reply}
use Rattle.cal_model.specs.Paths.TargetPaths.{target_path}
use Rattle.cal_model.specs.Users.UsersFile.{Users}
use Rattle.cal_model.specs.Users.Credentials.{spelled_credentials, authenticated}
use Rattle.cal_model.specs.Bodies.AclBodies.{acl_content}
use Rattle.cal_model.specs.Bodies.Refusals.{bad_request, unsupported_media, dav_refusal}
use Rattle.cal_model.specs.Bodies.ReportBodies.{report_content}
use Rattle.cal_model.specs.Requests.ConditionalTags.{tags_of}
use Rattle.cal_model.specs.Requests.AskedRequests.{asked, refused, asked_of, asked_with, content_of}

-- one user, with the password `abc`
abbrev users : Users
users = record { people = record { name = codes "alice"; digest = codes "ba7816bf8f01cfea414140de5dae2223b00361a396177a9cb410ff61f20015ad" } ∷ []; groups = [] }

-- a request of a method and a target alone
abbrev bare_wire : List ℕ → List ℕ → WireRequest
bare_wire method target = record { method = method; target = target; close = false; authorization = None; media = None; coding = None; depth = None; if_match = None; if_none = None; body = [] }

-- a PROPFIND for all properties, with this Depth
abbrev all_asked : List ℕ
all_asked = codes "<D:propfind xmlns:D=\"DAV:\"><D:allprop/></D:propfind>"

abbrev a_find : List ℕ → WireRequest
a_find depth = record (bare_wire (codes "PROPFIND") (codes "/")) { depth = Some depth; body = all_asked }

abbrev find_all : Bool → Content
find_all deep = Find AllProps deep

abbrev unsupported : Content
unsupported = Bad unsupported_media

abbrev no_finite_depth : Content
no_finite_depth = Bad (dav_refusal (codes "propfind-finite-depth"))

-- Who asks, and the whole

pub options_of_root : asked_of users (record (bare_wire (codes "OPTIONS") (codes "http://h/")) { authorization = Some (codes "Basic YWxpY2U6YWJj") }) ≡ asked 0 (record { method = Options; path = Root; if_match = None; if_none = None; size = 0; content = NoContent })
unfolding asked_of authenticated spelled_credentials base64_on_literals encode_with first_words schedule rounds compress hash_after digest_bytes sha256 target_path cut_at percent_decode is_utf8 chars encode content_of
options_of_root = refl

-- 401 comes first
pub nobody_asks : asked_of users (bare_wire (codes "POST") (codes "/nowhere")) ≡ refused (bare_reply 401)
unfolding asked_of authenticated spelled_credentials base64_on_literals encode_with first_words schedule rounds compress hash_after digest_bytes sha256 target_path cut_at percent_decode is_utf8 chars encode
nobody_asks = refl

-- Methods and paths

-- 501 comes before the path
pub unknown_method : asked_with users (bare_wire (codes "POST") (codes "/nowhere")) 0 ≡ refused (bare_reply 501)
unfolding target_path cut_at percent_decode is_utf8 chars encode
unknown_method = refl

-- names of methods compare with case
pub method_in_small_letters : asked_with users (bare_wire (codes "get") (codes "/")) 0 ≡ refused (bare_reply 501)
unfolding target_path cut_at percent_decode is_utf8 chars encode
method_in_small_letters = refl

pub no_such_path : asked_with users (bare_wire (codes "OPTIONS") (codes "/nowhere")) 0 ≡ refused (bare_reply 404)
unfolding target_path cut_at percent_decode is_utf8 chars encode
no_such_path = refl

pub get_of_root : asked_with users (bare_wire (codes "GET") (codes "/")) 0 ≡ refused (record (bare_reply 405) { allow = Some Root })
unfolding target_path cut_at percent_decode is_utf8 chars encode
get_of_root = refl

-- 405 by the shape alone: nobody is of this name
pub get_of_principal : asked_with users (bare_wire (codes "GET") (codes "/principals/x")) 0 ≡ refused (record (bare_reply 405) { allow = Some (Principal (codes "x")) })
unfolding target_path cut_at percent_decode is_utf8 chars encode
get_of_principal = refl

pub put_of_home : asked_with users (bare_wire (codes "PUT") (codes "/calendars/x/")) 0 ≡ refused (record (bare_reply 405) { allow = Some (Home (codes "x")) })
unfolding target_path cut_at percent_decode is_utf8 chars encode
put_of_home = refl

pub put_of_calendar : asked_with users (bare_wire (codes "PUT") (codes "/calendars/x/c")) 0 ≡ refused (record (bare_reply 405) { allow = Some (Calendar (codes "x") (codes "c")) })
unfolding target_path cut_at percent_decode is_utf8 chars encode
put_of_calendar = refl

pub report_of_object : asked_with users (bare_wire (codes "REPORT") (codes "/calendars/x/c/o")) 0 ≡ refused (record (bare_reply 405) { allow = Some (Object (codes "x") (codes "c") (codes "o")) })
unfolding target_path cut_at percent_decode is_utf8 chars encode
report_of_object = refl

-- a well-formed field stands in the request also where the other one is refused
pub put_of_object : asked_with users (record (bare_wire (codes "PUT") (codes "/calendars/x/c/o")) { if_none = Some (codes "*"); if_match = Some (codes "a"); body = codes "text" }) 0 ≡ asked 0 (record { method = PutMethod; path = Object (codes "x") (codes "c") (codes "o"); if_match = None; if_none = Some Any; size = 4; content = Bad bad_request })
unfolding content_of report_content acl_content tags_of target_path cut_at percent_decode trim_ows utc_of date_time_of date_of time_of is_utf8 chars encode I.out-Item I.roll-Item B.shown-the_row-Item-0 B.hidden-the_row-Item-0 B.shape-the_row-Item-0 H.out H.roll H.shown H.hidden
put_of_object = refl

-- The content of a method

pub put_without_type : content_of users (record (bare_wire (codes "PUT") (codes "/")) { body = codes "text" }) PutMethod ≡ Put true (codes "text")
unfolding content_of report_content acl_content tags_of target_path cut_at percent_decode trim_ows utc_of date_time_of date_of time_of is_utf8 chars encode I.out-Item I.roll-Item B.shown-the_row-Item-0 B.hidden-the_row-Item-0 B.shape-the_row-Item-0 H.out H.roll H.shown H.hidden
put_without_type = refl

-- it is refused later, in its place
pub put_of_another_type : content_of users (record (bare_wire (codes "PUT") (codes "/")) { media = Some (codes "text/plain"); body = codes "text" }) PutMethod ≡ Put false (codes "text")
unfolding content_of report_content acl_content tags_of target_path cut_at percent_decode trim_ows utc_of date_time_of date_of time_of is_utf8 chars encode I.out-Item I.roll-Item B.shown-the_row-Item-0 B.hidden-the_row-Item-0 B.shape-the_row-Item-0 H.out H.roll H.shown H.hidden
put_of_another_type = refl

pub find : content_of users (a_find (codes "0")) Propfind ≡ find_all false
unfolding content_of report_content acl_content tags_of target_path cut_at percent_decode trim_ows utc_of date_time_of date_of time_of is_utf8 chars encode I.out-Item I.roll-Item B.shown-the_row-Item-0 B.hidden-the_row-Item-0 B.shape-the_row-Item-0 H.out H.roll H.shown H.hidden
find = refl

pub find_without_body : content_of users (record (a_find (codes "0")) { body = [] }) Propfind ≡ find_all false
unfolding content_of report_content acl_content tags_of target_path cut_at percent_decode trim_ows utc_of date_time_of date_of time_of is_utf8 chars encode I.out-Item I.roll-Item B.shown-the_row-Item-0 B.hidden-the_row-Item-0 B.shape-the_row-Item-0 H.out H.roll H.shown H.hidden
find_without_body = refl

pub make_without_body : content_of users (record (a_find (codes "0")) { body = [] }) Mkcalendar ≡ Make []
unfolding content_of report_content acl_content tags_of target_path cut_at percent_decode trim_ows utc_of date_time_of date_of time_of is_utf8 chars encode I.out-Item I.roll-Item B.shown-the_row-Item-0 B.hidden-the_row-Item-0 B.shape-the_row-Item-0 H.out H.roll H.shown H.hidden
make_without_body = refl

pub patch_without_body : content_of users (record (a_find (codes "0")) { body = [] }) Proppatch ≡ Bad bad_request
unfolding content_of report_content acl_content tags_of target_path cut_at percent_decode trim_ows utc_of date_time_of date_of time_of is_utf8 chars encode I.out-Item I.roll-Item B.shown-the_row-Item-0 B.hidden-the_row-Item-0 B.shape-the_row-Item-0 H.out H.roll H.shown H.hidden
patch_without_body = refl

pub body_that_is_no_xml : content_of users (record (a_find (codes "0")) { body = codes "<a>" }) Propfind ≡ Bad bad_request
unfolding content_of report_content acl_content tags_of target_path cut_at percent_decode trim_ows utc_of date_time_of date_of time_of is_utf8 chars encode I.out-Item I.roll-Item B.shown-the_row-Item-0 B.hidden-the_row-Item-0 B.shape-the_row-Item-0 H.out H.roll H.shown H.hidden
body_that_is_no_xml = refl

-- Refusals by fields, in their order: the coding, the type, the body, the tags, Depth

pub other_type : content_of users (record (a_find (codes "0")) { media = Some (codes "text/plain") }) Propfind ≡ unsupported
unfolding content_of report_content acl_content tags_of target_path cut_at percent_decode trim_ows utc_of date_time_of date_of time_of is_utf8 chars encode I.out-Item I.roll-Item B.shown-the_row-Item-0 B.hidden-the_row-Item-0 B.shape-the_row-Item-0 H.out H.roll H.shown H.hidden
other_type = refl

pub other_type_without_body : content_of users (record (a_find (codes "0")) { media = Some (codes "text/plain"); body = [] }) Mkcalendar ≡ unsupported
unfolding content_of report_content acl_content tags_of target_path cut_at percent_decode trim_ows utc_of date_time_of date_of time_of is_utf8 chars encode I.out-Item I.roll-Item B.shown-the_row-Item-0 B.hidden-the_row-Item-0 B.shape-the_row-Item-0 H.out H.roll H.shown H.hidden
other_type_without_body = refl

pub other_coding : content_of users (record (a_find (codes "0")) { coding = Some (codes "gzip") }) Propfind ≡ unsupported
unfolding content_of report_content acl_content tags_of target_path cut_at percent_decode trim_ows utc_of date_time_of date_of time_of is_utf8 chars encode I.out-Item I.roll-Item B.shown-the_row-Item-0 B.hidden-the_row-Item-0 B.shape-the_row-Item-0 H.out H.roll H.shown H.hidden
other_coding = refl

-- of every method; the empty value is another coding
pub other_coding_of_options : content_of users (record (bare_wire (codes "OPTIONS") (codes "/")) { coding = Some [] }) Options ≡ unsupported
unfolding content_of report_content acl_content tags_of target_path cut_at percent_decode trim_ows utc_of date_time_of date_of time_of is_utf8 chars encode I.out-Item I.roll-Item B.shown-the_row-Item-0 B.hidden-the_row-Item-0 B.shape-the_row-Item-0 H.out H.roll H.shown H.hidden
other_coding_of_options = refl

-- of every method
pub tags_of_options : content_of users (record (bare_wire (codes "OPTIONS") (codes "/")) { if_none = Some (codes "x") }) Options ≡ Bad bad_request
unfolding content_of report_content acl_content tags_of target_path cut_at percent_decode trim_ows utc_of date_time_of date_of time_of is_utf8 chars encode I.out-Item I.roll-Item B.shown-the_row-Item-0 B.hidden-the_row-Item-0 B.shape-the_row-Item-0 H.out H.roll H.shown H.hidden
tags_of_options = refl

pub body_before_tags : content_of users (record (bare_wire (codes "REPORT") (codes "/")) { if_match = Some (codes "x"); body = codes "<a/>" }) Report ≡ Bad (dav_refusal (codes "supported-report"))
unfolding content_of report_content acl_content tags_of target_path cut_at percent_decode trim_ows utc_of date_time_of date_of time_of is_utf8 chars encode I.out-Item I.roll-Item B.shown-the_row-Item-0 B.hidden-the_row-Item-0 B.shape-the_row-Item-0 H.out H.roll H.shown H.hidden
body_before_tags = refl

pub tags_before_depth : content_of users (record (a_find (codes "infinity")) { if_match = Some (codes "x") }) Propfind ≡ Bad bad_request
unfolding content_of report_content acl_content tags_of target_path cut_at percent_decode trim_ows utc_of date_time_of date_of time_of is_utf8 chars encode I.out-Item I.roll-Item B.shown-the_row-Item-0 B.hidden-the_row-Item-0 B.shape-the_row-Item-0 H.out H.roll H.shown H.hidden
tags_before_depth = refl

pub depth_1 : content_of users (a_find (codes "1")) Propfind ≡ find_all true
unfolding content_of report_content acl_content tags_of target_path cut_at percent_decode trim_ows utc_of date_time_of date_of time_of is_utf8 chars encode I.out-Item I.roll-Item B.shown-the_row-Item-0 B.hidden-the_row-Item-0 B.shape-the_row-Item-0 H.out H.roll H.shown H.hidden
depth_1 = refl

pub depth_infinity : content_of users (a_find (codes "infinity")) Propfind ≡ no_finite_depth
unfolding content_of report_content acl_content tags_of target_path cut_at percent_decode trim_ows utc_of date_time_of date_of time_of is_utf8 chars encode I.out-Item I.roll-Item B.shown-the_row-Item-0 B.hidden-the_row-Item-0 B.shape-the_row-Item-0 H.out H.roll H.shown H.hidden
depth_infinity = refl

pub no_depth : content_of users (record (a_find (codes "0")) { depth = None }) Propfind ≡ no_finite_depth
unfolding content_of report_content acl_content tags_of target_path cut_at percent_decode trim_ows utc_of date_time_of date_of time_of is_utf8 chars encode I.out-Item I.roll-Item B.shown-the_row-Item-0 B.hidden-the_row-Item-0 B.shape-the_row-Item-0 H.out H.roll H.shown H.hidden
no_depth = refl

-- another Depth
pub depth_in_capitals : content_of users (a_find (codes "Infinity")) Propfind ≡ Bad bad_request
unfolding content_of report_content acl_content tags_of target_path cut_at percent_decode trim_ows utc_of date_time_of date_of time_of is_utf8 chars encode I.out-Item I.roll-Item B.shown-the_row-Item-0 B.hidden-the_row-Item-0 B.shape-the_row-Item-0 H.out H.roll H.shown H.hidden
depth_in_capitals = refl

-- of a REPORT it is not looked at
pub depth_of_report : content_of users (record (a_find (codes "x")) { body = codes "<C:free-busy-query xmlns:C=\"urn:ietf:params:xml:ns:caldav\"><C:time-range start=\"20250101T000000Z\"/></C:free-busy-query>" }) Report ≡ ReportContent (FreeBusy (record { start = record { 0 = pos 1735689600 }; end = record { 0 = last_date } }))
unfolding content_of report_content acl_content tags_of target_path cut_at percent_decode trim_ows utc_of date_time_of date_of time_of is_utf8 chars encode I.out-Item I.roll-Item B.shown-the_row-Item-0 B.hidden-the_row-Item-0 B.shape-the_row-Item-0 H.out H.roll H.shown H.hidden
depth_of_report = refl
