-- The scene that a request is about, as it is seen and as the definition of outcomes has it; and what a refusal needs.
use Rattle.std.proofs.Common.{◌≡◌, ℕ, true, [], refl, sym}
use Rattle.cal_base.specs.Lists.Reserved.{Reserved}
use Rattle.cal_model.specs.declared.path.Path.{Path}
use Rattle.cal_model.specs.Sight.Scenes.{scene_at}
use Rattle.cal_model.specs.Sight.Views.{whole_sight, view_by}
use Rattle.cal_model.specs.State.ServerState.{Directory, ServerState}
use Rattle.dav_write.specs.ShortPaths.{HasShortNames}
use Rattle.request_checks.specs.declared.refusals.SharedRefusal.{SharedRefusal}
use Rattle.request_checks.specs.declared.refusals.SharedRefusal.TheVariants.{NotFound, NeedPrivileges, Refused, PreconditionFailed, NotModified}
use Rattle.request_checks.specs.declared.scenes.Scene.{Scene}
use Rattle.request_checks.specs.Scenes.{IsScene}
use Rattle.request_checks.specs.SharedReplies.{takes_room, FitsRoom}
use Rattle.cal_book.specs.Checking.Passed.{sighted}

pub scene_seen : (directory : Directory) (state : ServerState) (who : ℕ) (path : Path) (shown : Scene) → IsScene shown (scene_at directory (view_by whole_sight directory state who) who path)
    → scene_at directory (view_by whole_sight directory state who) who path ≡ sighted directory state shown
unfolding scene_at
scene_seen directory state who path shown is = λ i. scene_at directory (view_by whole_sight directory state (sym is.who i)) (sym is.who i) (sym is.path i)

-- who asks, and where, are those of the scene
pub who_seen : (directory : Directory) (state : ServerState) (who : ℕ) (path : Path) (shown : Scene) → IsScene shown (scene_at directory (view_by whole_sight directory state who) who path) → shown.who ≡ who
unfolding scene_at
who_seen directory state who path shown is = is.who

pub path_seen : (directory : Directory) (state : ServerState) (who : ℕ) (path : Path) (shown : Scene) → IsScene shown (scene_at directory (view_by whole_sight directory state who) who path) → shown.path.now ≡ path
unfolding scene_at
path_seen directory state who path shown is = is.path

-- Refusals

pub room_for : (path : Path) (refusal : SharedRefusal) (room : Reserved ℕ) → (takes_room refusal ≡ true → HasShortNames path) → room.items ≡ [] → FitsRoom path refusal room
room_for path NotFound room short empty = tt
room_for path (NeedPrivileges set) room short empty = record { names = short refl; empty = empty }
room_for path (Refused refusal) room short empty = tt
room_for path PreconditionFailed room short empty = tt
room_for path (NotModified etag) room short empty = tt
