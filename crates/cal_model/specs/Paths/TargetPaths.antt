-- The path that the target of a request names (RFC 3986, 2.1, 3.3 and 3.4; RFC 9112, 3.2.1 and 3.2.2).
-- Given: a request target, or an href of a body. Gives: the path that it names, if it has the shape of one. Whether something is there plays no part. How a path is written is `Replies.Hrefs`; `TargetPathLaws` says that it is read back.
use Rattle.std.specs.Prelude.{ℕ, ◌+◌, ◌-◌, Bool, true, not, ◌&&◌, ◌==◌, nat_eq, nat_le, if◌then◌else◌, List, [], ◌∷◌, map, length, take, drop, bytes_eq, codes, Option, Some, None}
use Rattle.std.specs.List.{list_any, list_all, starts_with, before_first}
use Rattle.std.specs.Str.{is_utf8}
use Rattle.percent_encoding.specs.Percent.{percent_decode}
use Rattle.cal_base.specs.Lines.ContentLines.{pieces}
use Rattle.cal_model.specs.declared.path.Path.{Path}
use Rattle.cal_model.specs.declared.path.Path.TheVariants.{Root, Principal, Home, Calendar, Object}
use Rattle.cal_model.specs.Words.Lists.{is_empty, last_or_else}
use Rattle.cal_model.specs.Words.Cuts.{cut_at}

abbrev pub slash : ℕ
slash = 47

abbrev pub question_mark : ℕ
question_mark = 63

-- Names

-- a name of a calendar or an object: 1 to 200 octets of UTF-8, without slash and controls, and neither `.` nor `..` (RFC 3986, 3.3)
abbrev pub is_resource_name : List ℕ → Bool
is_resource_name name =
    nat_le 1 (length name) && nat_le (length name) 200 && is_utf8 name
    && list_all (λ octet. nat_le 32 octet && not (octet == slash)) name
    && not (bytes_eq name (codes ".")) && not (bytes_eq name (codes ".."))

-- the path of some names, and whether a slash stands behind the last: an object has none there
abbrev pub path_of_names : Bool → List (List ℕ) → Option Path
path_of_names ends [] = Some Root
path_of_names ends (kind ∷ user ∷ []) =
    if bytes_eq kind (codes "principals") then Some (Principal user)
    else if bytes_eq kind (codes "calendars") then Some (Home user)
    else None
path_of_names ends (kind ∷ user ∷ calendar ∷ []) =
    if bytes_eq kind (codes "calendars") && is_resource_name calendar then Some (Calendar user calendar) else None
path_of_names ends (kind ∷ user ∷ calendar ∷ object ∷ []) =
    if bytes_eq kind (codes "calendars") && is_resource_name calendar && is_resource_name object && not ends then Some (Object user calendar object) else None
path_of_names ends _ = None

-- Targets

-- a target without its query
abbrev pub without_query : List ℕ → List ℕ
without_query target = elim (cut_at question_mark target) [ None ↦ target | Some parts ↦ parts.0 ]

-- without `http://` and a host in front of the path
abbrev pub without_host : List ℕ → List ℕ
without_host text =
    let host = before_first (λ octet. octet == slash) (drop 7 text) in
    if starts_with nat_eq text (codes "http://") && not (is_empty host) then drop (7 + length host) text else text

-- the path of the text behind the first slash: its segments are decoded each by itself, none is empty, and a last slash may be absent
abbrev pub path_of_segments : List (List ℕ) → Option Path
path_of_segments segments =
    let ends = is_empty (last_or_else [] segments) in
    let names = map percent_decode (if ends then take (length segments - 1) segments else segments) in
    if list_any is_empty names then None else path_of_names ends names

-- the path of a text; that of the empty one is the root (RFC 9110, 4.2.3)
abbrev pub path_of_text : List ℕ → Option Path
path_of_text [] = Some Root
path_of_text (octet ∷ text) = if octet == slash then path_of_segments (pieces slash text) else None

-- the path that a target names, if it has the shape of one
unfoldable pub target_path : List ℕ → Option Path
target_path target = path_of_text (without_host (without_query target))

-- Which paths there are

-- a path that some target names: a user's name of at least one octet, and names of a calendar and an object as above
abbrev pub is_path : Path → Bool
is_path Root = true
is_path (Principal user) = not (is_empty user)
is_path (Home user) = not (is_empty user)
is_path (Calendar user calendar) = not (is_empty user) && is_resource_name calendar
is_path (Object user calendar object) = not (is_empty user) && is_resource_name calendar && is_resource_name object
