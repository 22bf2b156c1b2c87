-- The answers to properties of an object in a report.
use Rattle.std.proofs.Common.{Result, Ok, Err, ◌≡◌, ◌≤◌, ℕ, length, take, drop, true, cond, List, ◌++◌, Some, sym, ap, ap₂, ◌∙◌}
use Rattle.std.specs.Prelude.{IfOk, not, bytes_eq}
use Rattle.std.proofs.lemmas.Bool.{false≢true, and_parts}
use Rattle.std.proofs.Math.Seq.{take-append_seam, drop-append_seam}
use Rattle.std.proofs.lemmas.List.{length-take-le}
use Rattle.std.proofs.lemmas.Slice.Eq.{bytes_eq-Decides}
use Rattle.cal_model.specs.declared.path.Path.{Path}
use Rattle.cal_model.specs.declared.property.PropName.{PropName}
use Rattle.cal_model.specs.Access.Privileges.{same_name, has_all, read}
use Rattle.cal_model.specs.Properties.PropertyTable.{answer, properties, without_value}
use Rattle.cal_model.specs.Serving.SeenResources.{seen_answer, answer_at, calendar_data}
use Rattle.cal_model.specs.Sight.Resources.{Resource, root, principal, group, home, calendar, object, is_object, held_of}
use Rattle.cal_model.specs.Sight.Views.{Sight}
use Rattle.cal_model.specs.State.ServerState.{Directory, ServerState}
use Rattle.multistatus.specs.ReplyPieces.{with_text}
use Rattle.dav_reports.specs.ShownObjects.{IsShown, asker_of, octets_of}

pub seen_answered : {directory : Directory} {state : ServerState} {who : ℕ} {path : Path} {text : List ℕ} {shown : List ℕ → List ℕ} {resource : Resource} → IsShown directory state who path text shown resource
    → (name : PropName) → seen_answer directory state who (Some shown) path name ≡ answer (asker_of directory who shown) resource name
seen_answered {directory} {state} {who} {path} {text} {shown} {resource} is name = ap (λ (resources : List Resource). answer_at (asker_of directory who shown) resources name) is.there

data_here : (directory : Directory) (who : ℕ) (text : List ℕ) (shown : List ℕ → List ℕ) (owner within name : List ℕ) (sight : Sight) (octets : List ℕ) → has_all sight.held read ≡ true → shown octets ≡ text
    → with_text calendar_data text ≡ answer (asker_of directory who shown) (object owner within name sight octets) calendar_data
unfolding answer properties
data_here directory who text shown owner within name sight octets may is =
    ap (with_text calendar_data) (sym is)
    ∙ ap (λ held. cond (not held) (without_value calendar_data 403) (with_text calendar_data (shown octets))) (sym may)

same_as : (name other : PropName) → same_name name other ≡ true → name ≡ other
same_as name other same =
    let parts = and_parts (bytes_eq name.space other.space) (bytes_eq name.name other.name) same in
    ap₂ (λ space local. record { space = space; name = local }) ((bytes_eq-Decides name.space other.space).0 parts.0) ((bytes_eq-Decides name.name other.name).0 parts.1)

pub data_answered : {directory : Directory} {state : ServerState} {who : ℕ} {path : Path} {text : List ℕ} {shown : List ℕ → List ℕ} {resource : Resource} → IsShown directory state who path text shown resource
    → (name : PropName) → same_name name calendar_data ≡ true → with_text name text ≡ answer (asker_of directory who shown) resource name
data_answered {directory} {state} {who} {path} {text} {shown} {resource} is name same =
    ap (λ (name : PropName). with_text name text) (same_as name calendar_data same)
    ∙ by resource is.is_object is.may_read is.is_text
    ∙ ap (answer (asker_of directory who shown) resource) (sym (same_as name calendar_data same)) where
      by : (resource : Resource) → is_object resource ≡ true → has_all (held_of resource) read ≡ true → shown (octets_of resource) ≡ text → with_text calendar_data text ≡ answer (asker_of directory who shown) resource calendar_data
      by root none may is_text = absurd (false≢true none)
      by (principal user) none may is_text = absurd (false≢true none)
      by (group name) none may is_text = absurd (false≢true none)
      by (home owner) none may is_text = absurd (false≢true none)
      by (calendar owner name sight) none may is_text = absurd (false≢true none)
      by (object owner within name sight octets) there may is_text = data_here directory who text shown owner within name sight octets may is_text

pub if_ok_then : {E X : Type 0} {P Q : X → Type 0} (result : Result X E) → ((x : X) → P x → Q x) → IfOk result P → IfOk result Q
if_ok_then (Ok x) next holds = next x holds
if_ok_then (Err e) next holds = holds

-- what was cut off at a place, and more behind it
pub front_kept : (place : ℕ) (whole cut element new : List ℕ) → place ≤ length whole → cut ≡ take place whole → new ≡ cut ++ element → (take place new ≡ take place whole) × (drop place new ≡ element)
front_kept place whole cut element new within is more =
    let size : length cut ≡ place = ap length is ∙ length-take-le place whole within in
    (ap (take place) more ∙ ap (λ n. take n (cut ++ element)) (sym size) ∙ take-append_seam cut element ∙ is, ap (drop place) more ∙ ap (λ n. drop n (cut ++ element)) (sym size) ∙ drop-append_seam cut element)
