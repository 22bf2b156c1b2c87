-- Paths that targets name, and paths that none does (RFC 3986, 2.1 and 3.3).
use Rattle.std.specs.Prelude.{◌≡◌, refl, [], ◌∷◌, ◌++◌, Some, None, codes, replicate}
use Rattle.std.specs.Str.{is_utf8, chars}
use lib.Utf8.{encode}
use Rattle.percent_encoding.specs.Percent.{percent_decode, percent_encode_byte}
use Rattle.cal_model.specs.declared.path.Path.TheVariants.{Root, Principal, Calendar, Object}
use Rattle.cal_model.specs.Replies.Hrefs.{href, segment}
use Rattle.cal_model.specs.Words.Cuts.{cut_at}
use Rattle.cal_model.specs.Paths.TargetPaths.{target_path}

-- The shapes of paths

pub root : target_path (codes "/") ≡ Some Root
unfolding target_path cut_at percent_decode is_utf8 chars encode
root = refl

pub empty_target : target_path [] ≡ Some Root
unfolding target_path cut_at percent_decode is_utf8 chars encode
empty_target = refl

pub principal : target_path (codes "/principals/alice/") ≡ Some (Principal (codes "alice"))
unfolding target_path cut_at percent_decode is_utf8 chars encode
principal = refl

-- a last slash may be absent
pub principal_without_slash : target_path (codes "/principals/alice") ≡ Some (Principal (codes "alice"))
unfolding target_path cut_at percent_decode is_utf8 chars encode
principal_without_slash = refl

pub calendar_without_slash : target_path (codes "/calendars/u/c") ≡ Some (Calendar (codes "u") (codes "c"))
unfolding target_path cut_at percent_decode is_utf8 chars encode
calendar_without_slash = refl

pub calendar : target_path (codes "/calendars/u/c/") ≡ Some (Calendar (codes "u") (codes "c"))
unfolding target_path cut_at percent_decode is_utf8 chars encode
calendar = refl

-- an object is no collection
pub object_with_slash : target_path (codes "/calendars/u/c/o/") ≡ None
unfolding target_path cut_at percent_decode is_utf8 chars encode
object_with_slash = refl

pub below_object : target_path (codes "/calendars/u/c/o/p") ≡ None
unfolding target_path cut_at percent_decode is_utf8 chars encode
below_object = refl

pub collection_in_capitals : target_path (codes "/Principals/a") ≡ None
unfolding target_path cut_at percent_decode is_utf8 chars encode
collection_in_capitals = refl

pub no_slash_in_front : target_path (codes "calendars/u/") ≡ None
unfolding target_path cut_at percent_decode is_utf8 chars encode
no_slash_in_front = refl

pub asterisk : target_path (codes "*") ≡ None
unfolding target_path cut_at percent_decode is_utf8 chars encode
asterisk = refl

-- Segments: each is decoded by itself, and none is empty (RFC 3986, 3.3)

pub empty_segment : target_path (codes "/calendars//c/o") ≡ None
unfolding target_path cut_at percent_decode is_utf8 chars encode
empty_segment = refl

pub escape_in_collection : target_path (codes "/principal%73/a") ≡ Some (Principal (codes "a"))
unfolding target_path cut_at percent_decode is_utf8 chars encode
escape_in_collection = refl

-- a user's name may be any octets
pub slash_in_user : target_path (codes "/principals/%2F/") ≡ Some (Principal (codes "/"))
unfolding target_path cut_at percent_decode is_utf8 chars encode
slash_in_user = refl

-- names of calendars and objects may not
pub slash_in_object : target_path (codes "/calendars/u/c/a%2Fb") ≡ None
unfolding target_path cut_at percent_decode is_utf8 chars encode
slash_in_object = refl

pub control_in_object : target_path (codes "/calendars/u/c/a%1fb") ≡ None
unfolding target_path cut_at percent_decode is_utf8 chars encode
control_in_object = refl

pub delete_in_object : target_path (codes "/calendars/u/c/%7f") ≡ Some (Object (codes "u") (codes "c") (127 ∷ []))
unfolding target_path cut_at percent_decode is_utf8 chars encode
delete_in_object = refl

pub object_not_utf8 : target_path (codes "/calendars/u/c/%C3") ≡ None
unfolding target_path cut_at percent_decode is_utf8 chars encode
object_not_utf8 = refl

pub object_in_utf8 : target_path (codes "/calendars/u/c/%C3%A9") ≡ Some (Object (codes "u") (codes "c") (195 ∷ 169 ∷ []))
unfolding target_path cut_at percent_decode is_utf8 chars encode
object_in_utf8 = refl

pub dots : target_path (codes "/calendars/u/c/..") ≡ None
unfolding target_path cut_at percent_decode is_utf8 chars encode
dots = refl

pub dots_escaped : target_path (codes "/calendars/u/.%2e/o") ≡ None
unfolding target_path cut_at percent_decode is_utf8 chars encode
dots_escaped = refl

pub three_dots : target_path (codes "/calendars/u/c/...") ≡ Some (Object (codes "u") (codes "c") (codes "..."))
unfolding target_path cut_at percent_decode is_utf8 chars encode
three_dots = refl

-- what is no escape stays as it is
pub no_escape : target_path (codes "/calendars/u/c/%zz") ≡ Some (Object (codes "u") (codes "c") (codes "%zz"))
unfolding target_path cut_at percent_decode is_utf8 chars encode
no_escape = refl

pub escape_behind_percent : target_path (codes "/calendars/u/c/%%41") ≡ Some (Object (codes "u") (codes "c") (codes "%A"))
unfolding target_path cut_at percent_decode is_utf8 chars encode
escape_behind_percent = refl

pub longest_name : target_path (codes "/calendars/u/c/" ++ replicate 200 97) ≡ Some (Object (codes "u") (codes "c") (replicate 200 97))
unfolding target_path cut_at percent_decode is_utf8 chars encode
longest_name = refl

pub name_too_long : target_path (codes "/calendars/u/c/" ++ replicate 201 97) ≡ None
unfolding target_path cut_at percent_decode is_utf8 chars encode
name_too_long = refl

-- Query and host (RFC 9112, 3.2.1 and 3.2.2)

pub query : target_path (codes "/calendars/u/c/a?b/c") ≡ Some (Object (codes "u") (codes "c") (codes "a"))
unfolding target_path cut_at percent_decode is_utf8 chars encode
query = refl

-- no fragment comes with a request
pub fragment : target_path (codes "/calendars/u/c/a#b") ≡ Some (Object (codes "u") (codes "c") (codes "a#b"))
unfolding target_path cut_at percent_decode is_utf8 chars encode
fragment = refl

pub host : target_path (codes "http://h:80/principals/a?x") ≡ Some (Principal (codes "a"))
unfolding target_path cut_at percent_decode is_utf8 chars encode
host = refl

pub empty_host : target_path (codes "http:///") ≡ None
unfolding target_path cut_at percent_decode is_utf8 chars encode
empty_host = refl

pub scheme_in_capitals : target_path (codes "HTTP://h/") ≡ None
unfolding target_path cut_at percent_decode is_utf8 chars encode
scheme_in_capitals = refl

-- Written and read back

pub written_user : target_path (href (Principal (codes "a b/" ++ 255 ∷ []))) ≡ Some (Principal (codes "a b/" ++ 255 ∷ []))
unfolding target_path cut_at percent_decode is_utf8 chars encode segment percent_encode_byte
written_user = refl

pub written_object : target_path (href (Object (codes "u%") (codes "c?") (codes "o#;.ics"))) ≡ Some (Object (codes "u%") (codes "c?") (codes "o#;.ics"))
unfolding target_path cut_at percent_decode is_utf8 chars encode segment percent_encode_byte
written_object = refl
