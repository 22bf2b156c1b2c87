-- The whole reply to a PROPFIND.
use Rattle.std.proofs.Common.{◌≡◌, ℕ, ◌+◌, ◌<◌, ◌≤◌, Bool, true, false, cond, List, [], ◌∷◌, ◌++◌, length, Some, None, refl, sym, ap, ◌∙◌, subst, append-nil, append_assoc, length-append, arith}
use Rattle.std.specs.Prelude.{IfOk, OnOk, Result, Ok, Err, codes, flat_map, if◌then◌else◌, nat_lt, unwrap_or}
use Rattle.std.proofs.lemmas.Bool.Decides.{nat_tests}
use Rattle.std.proofs.lemmas.Grind.{flat_map-append}
use Rattle.cal_model.specs.declared.path.Path.{Path}
use Rattle.cal_model.specs.declared.property.Props.{Props}
use Rattle.cal_model.specs.declared.reply.Reply.{Reply}
use Rattle.cal_model.specs.declared.request.Method.TheVariants.{Propfind}
use Rattle.cal_model.specs.Bodies.Refusals.{dav_refusal}
use Rattle.cal_model.specs.Properties.PropertyReplies.{resource_response, multistatus_reply}
use Rattle.cal_model.specs.Refusals.RefusalReplies.{refusal_reply}
use Rattle.cal_model.specs.Refusals.RequestLimits.{answer_limit}
use Rattle.cal_model.specs.Replies.XmlText.{multistatus}
use Rattle.cal_model.specs.Serving.ReadingReplies.{members_at, too_long}
use Rattle.cal_model.specs.Serving.SeenResources.{resources_seen, scene_seen}
use Rattle.cal_model.specs.Sight.Resources.{Resource, path_of_resource}
use Rattle.cal_model.specs.Sight.Scenes.{scene_at}
use Rattle.cal_model.specs.State.ServerState.{Directory, ServerState}
use Rattle.multistatus.specs.ReplyPieces.{begun}
use Rattle.multistatus.proofs.ReplyLemmas.{begun_size, multistatus_filled}
use Rattle.cal_model.specs.Replies.Hrefs.{href as href_of}
use Rattle.dav_props.specs.declared.subjects.Subject.{Subject}
use Rattle.dav_props.specs.Subjects.{IsSeenAs, Unseen, resource_of}
use Rattle.dav_props.specs.Finding.{IsUpTo, asking, find_answered, found_reply}

pub find_is : (directory : Directory) (state : ServerState) (who : ℕ) (path : Path) (props : Props) (deep : Bool)
    → multistatus_reply (flat_map (resource_response (asking directory who) props) (resources_seen directory state who path ++ (if deep then members_at (scene_seen directory state who path) path else [])))
    ≡ find_answered directory state who path props deep
unfolding scene_at
find_is directory state who path props deep = refl

-- the resource, and behind it its members

pub whole_deep : (f : Resource → List ℕ) (resources members : List Resource) (deep : Bool) (old mid : List ℕ) → mid ≡ old ++ flat_map f resources → deep ≡ true
    → mid ++ flat_map f members ≡ old ++ flat_map f (resources ++ (if deep then members else []))
whole_deep f resources members deep old mid is yes_deep =
    ap (λ text. text ++ flat_map f members) is ∙ append_assoc old (flat_map f resources) (flat_map f members)
    ∙ ap (λ text. old ++ text) (sym (flat_map-append f resources members))
    ∙ ap (λ b. old ++ flat_map f (resources ++ (if b then members else []))) (sym yes_deep)

pub whole_flat : (f : Resource → List ℕ) (resources members : List Resource) (deep : Bool) (old mid : List ℕ) → mid ≡ old ++ flat_map f resources → deep ≡ false
    → mid ≡ old ++ flat_map f (resources ++ (if deep then members else []))
whole_flat f resources members deep old mid is flat =
    is ∙ ap (λ (all : List Resource). old ++ flat_map f all) (sym (append-nil resources)) ∙ ap (λ b. old ++ flat_map f (resources ++ (if b then members else []))) (sym flat)

pub one_resource : (f : Resource → List ℕ) (resource : Resource) (resources : List Resource) (old : List ℕ) → resources ≡ resource ∷ [] → old ++ f resource ≡ old ++ flat_map f resources
one_resource f resource resources old is = ap (λ text. old ++ text) (sym (append-nil (f resource))) ∙ ap (λ (all : List Resource). old ++ flat_map f all) (sym is)

pub no_resource : (f : Resource → List ℕ) (resources : List Resource) (old : List ℕ) → resources ≡ [] → old ≡ old ++ flat_map f resources
no_resource f resources old is = sym (append-nil old) ∙ ap (λ (all : List Resource). old ++ flat_map f all) (sym is)

-- too long or not

abbrev or_refused : Reply → Reply
or_refused reply = unwrap_or (too_long Propfind reply) reply

abbrev refusal : Reply
refusal = refusal_reply (dav_refusal (codes "number-of-matches-within-limits"))

pub long_reply : (responses : List ℕ) → answer_limit < length (multistatus responses) → refusal ≡ unwrap_or (too_long Propfind (multistatus_reply responses)) (multistatus_reply responses)
long_reply responses long =
    let test : nat_lt answer_limit (length (multistatus responses)) ≡ true = grind (arith, nat_tests) in
    sym (ap (λ b. unwrap_or (cond b (Some refusal) None) (multistatus_reply responses)) test)

pub short_reply : (responses : List ℕ) → length (multistatus responses) ≤ answer_limit → multistatus_reply responses ≡ unwrap_or (too_long Propfind (multistatus_reply responses)) (multistatus_reply responses)
short_reply responses short =
    let test : nat_lt answer_limit (length (multistatus responses)) ≡ false = grind (arith, nat_tests) in
    sym (ap (λ b. unwrap_or (cond b (Some refusal) None) (multistatus_reply responses)) test)

-- what is too long before its end is so behind it
pub long_before : (written responses : List ℕ) → answer_limit < length written → IsUpTo answer_limit written (begun ++ responses) → answer_limit < length (multistatus responses)
long_before written responses past up =
    let size : length (begun ++ responses) ≡ 109 + length responses = length-append begun responses ∙ ap (λ n. n + length responses) begun_size in
    let long = up.long past in
    let some : 0 < length responses = omega (arith, size, long) in
    let whole = ap length (multistatus_filled responses some) in
    omega (arith, size, long, whole, length-append begun (responses ++ codes "</D:multistatus>"), length-append responses (codes "</D:multistatus>"), begun_size)

abbrev find_text : Directory → ServerState → ℕ → Path → Props → Bool → List ℕ
find_text directory state who path props deep =
    flat_map (resource_response (asking directory who) props) (resources_seen directory state who path ++ (if deep then members_at (scene_seen directory state who path) path else []))

-- the reply of what was written of the whole
pub found_by : {E : Type 0} (directory : Directory) (state : ServerState) (who : ℕ) (path : Path) (props : Props) (deep : Bool) (begin out : List ℕ) (result : Result Reply E) → begin ≡ begun
    → IfOk result (λ reply. (responses : List ℕ) → IsUpTo answer_limit out (begun ++ responses) → reply ≡ unwrap_or (too_long Propfind (multistatus_reply responses)) (multistatus_reply responses))
    → IsUpTo answer_limit out (begin ++ find_text directory state who path props deep)
    → IfOk result (λ reply. reply ≡ found_reply directory state who path props deep)
found_by directory state who path props deep begin out (Ok reply) is known up =
    let responses = find_text directory state who path props deep in
    known responses (subst (λ (front : List ℕ). IsUpTo answer_limit out (front ++ responses)) is up) ∙ ap or_refused (find_is directory state who path props deep)
found_by directory state who path props deep begin out (Err e) is known up = known

-- the response of what is seen at a path
pub itself_written : {X E : Type 0} (result : Result X E) (directory : Directory) (state : ServerState) (who : ℕ) (path : Path) (props : Props) (seen : Subject) → IsSeenAs directory state who path seen
    → (href old new : List ℕ) → href ≡ href_of path
    → OnOk result ((unseen : Unseen) → href ≡ href_of (path_of_resource (resource_of seen unseen)) → new ≡ old ++ resource_response (asking directory who) props (resource_of seen unseen))
    → OnOk result (new ≡ old ++ flat_map (resource_response (asking directory who) props) (resources_seen directory state who path))
itself_written (Ok x) directory state who path props seen there href old new at written =
    written there.unseen (at ∙ ap href_of (sym there.path_is))
    ∙ one_resource (resource_response (asking directory who) props) (resource_of seen there.unseen) (resources_seen directory state who path) old there.is
itself_written (Err e) directory state who path props seen there href old new at written = tt
