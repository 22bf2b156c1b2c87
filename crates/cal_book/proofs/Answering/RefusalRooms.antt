-- The room in which a refusal of the shared table is written.
use Rattle.std.proofs.Common.{◌≡◌, ℕ, true, [], refl}
use Rattle.cal_base.specs.Lists.Reserved.{Reserved}
use Rattle.cal_model.specs.declared.path.Path.{Path}
use Rattle.dav_write.specs.ShortPaths.{HasShortNames}
use Rattle.request_checks.specs.declared.refusals.SharedRefusal.{SharedRefusal}
use Rattle.request_checks.specs.declared.refusals.SharedRefusal.TheVariants.{NotFound, NeedPrivileges, Refused, PreconditionFailed, NotModified}
use Rattle.request_checks.specs.SharedReplies.{FitsRoom, takes_room}

pub room-fits : (path : Path) (refusal : SharedRefusal) (room : Reserved ℕ) → (takes_room refusal ≡ true → HasShortNames path) → room.items ≡ [] → FitsRoom path refusal room
room-fits path NotFound room short empty = tt
room-fits path (NeedPrivileges set) room short empty = record { names = short refl; empty = empty }
room-fits path (Refused refusal) room short empty = tt
room-fits path PreconditionFailed room short empty = tt
room-fits path (NotModified etag) room short empty = tt
