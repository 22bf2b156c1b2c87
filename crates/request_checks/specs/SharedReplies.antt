-- What the refusals in memory say: their replies, and the needs of requests (RFC 9110, 13.1; RFC 3744, 7.1.1).
use Rattle.std.specs.Prelude.{◌≡◌, ◌≤◌, ℕ, Bool, true, false, not, ◌&&◌, ◌||◌, bytes_eq, if◌then◌else◌, List, [], ◌∷◌, Option, Some, None}
use Rattle.cal_base.specs.Lists.Reserved.{Reserved}
use Rattle.cal_model.specs.declared.path.Path.{Path}
use Rattle.cal_model.specs.declared.reply.Cond.TheVariants.{None as NoCondition}
use Rattle.cal_model.specs.declared.reply.Media.TheVariants.{Calendar as CalendarMedia}
use Rattle.cal_model.specs.declared.reply.Etag.{Etag}
use Rattle.cal_model.specs.declared.reply.Reply.{Reply}
use Rattle.cal_model.specs.declared.request.Content.{Content}
use Rattle.cal_model.specs.declared.request.Content.TheVariants.{Bad}
use Rattle.cal_model.specs.declared.request.Request.{Request}
use Rattle.cal_model.specs.Access.Privileges.{has_all}
use Rattle.cal_model.specs.Sight.Scenes.{Scene, held_in}
use Rattle.cal_model.specs.Replies.BareReplies.{bare_reply}
use Rattle.cal_model.specs.Replies.ReplyForms.{tagged_reply}
use Rattle.cal_model.specs.Refusals.RefusalReplies.{refusal_reply, need_privileges, when}
use Rattle.cal_model.specs.Refusals.SharedRefusals as shared
use Rattle.dav_write.specs.ShortPaths.{HasShortNames}
use Rattle.request_checks.specs.declared.needs.Need.{Need}
use Rattle.request_checks.specs.declared.needs.Need.TheVariants as needs
use Rattle.request_checks.specs.declared.refusals.SharedRefusal.{SharedRefusal}
use Rattle.request_checks.specs.declared.refusals.SharedRefusal.TheVariants.{NotFound, NeedPrivileges, Refused, PreconditionFailed, NotModified}

-- the reply to a request for a path
abbrev pub shared_reply : Path → SharedRefusal → Reply
shared_reply path NotFound = bare_reply 404
shared_reply path (NeedPrivileges set) = refusal_reply (need_privileges path set.0)
shared_reply path (Refused refusal) = refusal_reply refusal.now
shared_reply path PreconditionFailed = bare_reply 412
shared_reply path (NotModified etag) = record (bare_reply 304) { etag = etag }

abbrev pub needed : Need → shared.Need
needed needs.Nothing = shared.nothing
needed (needs.Held set) = shared.held set
needed (needs.Owned set) = shared.owned set

-- the body of one stands in room that was taken before
abbrev pub takes_room : SharedRefusal → Bool
takes_room (NeedPrivileges set) = true
takes_room other = false

-- what was found wrong with a content is told as it was found
abbrev pub IsFaultOf : Content → SharedRefusal → Type 0
IsFaultOf content (Refused refusal) = content ≡ Bad refusal.now
IsFaultOf content other = Unit {0}

-- it tells no fault of a content
abbrev pub IsFaultless : SharedRefusal → Type 0
IsFaultless (Refused refusal) = ⊥
IsFaultless other = Unit {0}

pub record IsRoomFor (path : Path) (room : Reserved ℕ) : Type 0 where
  pub names : HasShortNames path
  pub empty : room.items ≡ []

abbrev pub FitsRoom : Path → SharedRefusal → Reserved ℕ → Type 0
FitsRoom path (NeedPrivileges set) room = IsRoomFor path room
FitsRoom path other room = Unit {0}

-- those that are answered without memory, where there is so much room: all but those that name a condition of their own
abbrev pub NeedsNoMemory : SharedRefusal → ℕ → Type 0
NeedsNoMemory (Refused refusal) room = refusal.now.cond ≡ NoCondition
NeedsNoMemory (NeedPrivileges set) room = 4096 ≤ room
NeedsNoMemory other room = Unit {0}

-- the privileges that are needed and lacked
abbrev pub unmet_set : Scene → shared.Need → Option ℕ
unmet_set scene shared.nothing = None
unmet_set scene (shared.held set) = if has_all (held_in scene) set then None else Some set
unmet_set scene (shared.owned set) = if shared.is_owner scene then None else Some set

-- the two last rows of the table
abbrev pub condition_rows : Scene → Request → List (Option Reply)
condition_rows scene request =
    when (shared.is_conditional request.method scene && shared.if_match_fails request.if_match scene.object) (bare_reply 412)
    ∷ when (shared.is_conditional request.method scene && shared.if_none_match_fails request.if_none scene.object)
    (if shared.is_get request.method then shared.not_modified scene.object else bare_reply 412)
    ∷ []

-- an object as it is answered
abbrev pub object_shown : List ℕ → Reply
object_shown octets = record (tagged_reply 200 octets) { media = CalendarMedia; body = octets }

-- a tag of a request fits an entity tag
abbrev pub fits_etag : Bool → Etag → Bool × List ℕ → Bool
fits_etag weakly etag tag = (weakly || not tag.0) && bytes_eq tag.1 etag.0
