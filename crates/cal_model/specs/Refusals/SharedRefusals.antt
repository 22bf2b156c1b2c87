-- Why a request is refused: one table for all methods, read from its top (RFC 9110, 13.1 and 15.5; RFC 3744, 3 and 7.1.1; RFC 4791, 6.1). Each row has a condition on what the caller sees and on the
-- request, and a reply. The order is this server's own; it makes no calendar known that is hidden, and no object that may not be read.
-- Given: what the caller sees of the request's path, and the request.
use Rattle.std.specs.Prelude.{ℕ, Bool, true, false, not, ◌&&◌, ◌||◌, ◌==◌, if◌then◌else◌, List, [], ◌∷◌, bytes_eq, is_some, is_none, Option, Some, None}
use Rattle.std.specs.List.{list_any}
use Rattle.cal_model.specs.declared.path.Path.{Path}
use Rattle.cal_model.specs.declared.path.Path.TheVariants.{Root, Principal, Home, Calendar, Object}
use Rattle.cal_model.specs.declared.reply.Reply.{Reply}
use Rattle.cal_model.specs.declared.report.ReportRequest.TheVariants.{FreeBusy}
use Rattle.cal_model.specs.declared.request.Content.{Content}
use Rattle.cal_model.specs.declared.request.Content.TheVariants.{Report as ReportOf, Bad}
use Rattle.cal_model.specs.declared.request.Method.{Method}
use Rattle.cal_model.specs.declared.request.Method.TheVariants.{Options, Get, Head, Put, Delete, Propfind, Proppatch, Report, Mkcalendar, Acl}
use Rattle.cal_model.specs.declared.request.Request.{Request}
use Rattle.cal_model.specs.declared.request.Tags.{Tags}
use Rattle.cal_model.specs.declared.request.Tags.TheVariants.{Any, Listed}
use Rattle.cal_model.specs.Replies.Etags.{etag_of}
use Rattle.cal_model.specs.Access.Privileges.{has_all, read, read_free_busy, write_content, write_properties, bind, unbind, write_acl}
use Rattle.cal_model.specs.Replies.BareReplies.{bare_reply}
use Rattle.cal_model.specs.Replies.ReplyForms.{tagged_reply}
use Rattle.cal_model.specs.Refusals.RefusalReplies.{when, refusal_reply, need_privileges}
use Rattle.cal_model.specs.Sight.Scenes.{Scene, held_in, object_in}
use Rattle.cal_model.specs.State.ServerState.{group_number}

-- 404 (RFC 9110, 15.5.5): a principal that is neither a user nor a group, an unknown user, a hidden home, a hidden or absent calendar

-- these two may name a calendar that isn't there
abbrev pub makes_or_asks : Method → Bool
makes_or_asks Mkcalendar = true
makes_or_asks Options = true
makes_or_asks other = false

abbrev pub is_calendar_missing : Method → Scene → Bool
is_calendar_missing method scene = is_none scene.home || (is_none scene.calendar && not (makes_or_asks method))

abbrev pub is_missing : Method → Scene → Path → Bool
is_missing method scene Root = false
is_missing method scene (Principal name) = is_none scene.user && is_none (group_number scene.directory name)
is_missing method scene (Home user) = is_none scene.home
is_missing method scene (Calendar user calendar) = is_calendar_missing method scene
is_missing method scene (Object user calendar object) = is_calendar_missing method scene

-- 403 need-privileges (RFC 3744, 3 and 7.1.1; RFC 4791, 6.1)

-- what a request needs
pub data Need : Type 0 where
  nothing : Need
  -- these privileges on the calendar
  held : ℕ → Need
  -- to be the owner, who alone holds these privileges on a home
  owned : ℕ → Need

abbrev pub need_of_report : Content → Need
need_of_report (ReportOf (FreeBusy range)) = held read_free_busy
need_of_report (ReportOf other) = held read
need_of_report other = nothing

-- a new object needs bind, and one that is there write-content; who holds neither isn't told which it is
abbrev pub need_of_put : Scene → Need
need_of_put scene =
    if not (has_all (held_in scene) bind) && not (has_all (held_in scene) write_content) then held bind
    else held (if is_none scene.object then bind else write_content)

abbrev pub is_of_object : Scene → Bool
is_of_object scene = is_some (object_in scene.path)

abbrev pub need : Scene → Method → Content → Need
need scene Options content = nothing
need scene Get content = held read
need scene Head content = held read
need scene Put content = need_of_put scene
need scene Delete content = if is_of_object scene then held unbind else owned unbind
need scene Propfind content = if is_of_object scene then held read else nothing
need scene Proppatch content = held write_properties
need scene Report content = need_of_report content
need scene Mkcalendar content = owned bind
need scene Acl content = held write_acl

abbrev pub is_owner : Scene → Bool
is_owner scene = elim scene.user [ None ↦ false | Some user ↦ user == scene.who ]

abbrev pub unmet : Scene → Need → Option Reply
unmet scene nothing = None
unmet scene (held privileges) = when (not (has_all (held_in scene) privileges)) (refusal_reply (need_privileges scene.path privileges))
unmet scene (owned privileges) = when (not (is_owner scene)) (refusal_reply (need_privileges scene.path privileges))

-- 404: an absent object

abbrev pub needs_object : Method → Bool
needs_object Get = true
needs_object Head = true
needs_object Delete = true
needs_object Propfind = true
needs_object other = false

abbrev pub is_object_missing : Method → Scene → Bool
is_object_missing method scene = needs_object method && is_of_object scene && is_none scene.object

-- The body and the fields

-- what was found wrong with them when the request was read
abbrev pub fault_of : Content → Option Reply
fault_of (Bad refusal) = Some (refusal_reply refusal)
fault_of other = None

-- Conditional requests (RFC 9110, 13.1.1, 13.1.2 and 13.2.2): of objects alone

-- a tag fits an object's octets; a weak one only where weak tags count
abbrev pub tag_fits : Bool → List ℕ → Bool × List ℕ → Bool
tag_fits weakly octets tag = (weakly || not tag.0) && bytes_eq tag.1 (etag_of octets).0

abbrev pub tags_fit : Bool → Tags → List ℕ → Bool
tags_fit weakly Any octets = true
tags_fit weakly (Listed tags) octets = list_any (tag_fits weakly octets) tags

abbrev pub is_fitted : Bool → Tags → Option (List ℕ) → Bool
is_fitted weakly tags None = false
is_fitted weakly tags (Some octets) = tags_fit weakly tags octets

abbrev pub if_match_fails : Option Tags → Option (List ℕ) → Bool
if_match_fails None object = false
if_match_fails (Some tags) object = not (is_fitted false tags object)

abbrev pub if_none_match_fails : Option Tags → Option (List ℕ) → Bool
if_none_match_fails None object = false
if_none_match_fails (Some tags) object = is_fitted true tags object

-- 304 has the tag of what is there
abbrev pub not_modified : Option (List ℕ) → Reply
not_modified None = bare_reply 304
not_modified (Some octets) = tagged_reply 304 octets

abbrev pub is_get : Method → Bool
is_get Get = true
is_get Head = true
is_get other = false

abbrev pub is_options : Method → Bool
is_options Options = true
is_options other = false

abbrev pub is_conditional : Method → Scene → Bool
is_conditional method scene = is_of_object scene && not (is_options method)

-- The table

-- The rows that all methods share; those of a method come behind them.
unfoldable pub shared_rows : Scene → Request → List (Option Reply)
shared_rows scene request =
    when (is_missing request.method scene scene.path) (bare_reply 404)
    ∷ unmet scene (need scene request.method request.content)
    ∷ when (is_object_missing request.method scene) (bare_reply 404)
    ∷ fault_of request.content
    ∷ when (is_conditional request.method scene && if_match_fails request.if_match scene.object) (bare_reply 412)
    ∷ when (is_conditional request.method scene && if_none_match_fails request.if_none scene.object)
    (if is_get request.method then not_modified scene.object else bare_reply 412)
    ∷ []
