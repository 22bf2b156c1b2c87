-- What a stop within a call of a disk in memory leaves.
use Rattle.std.proofs.Common.{inl, inr, ℕ, nat_le, Bool, true, false, cond, List, [], ◌∷◌, fold, refl}
use Rattle.cal_keeper.specs.declared.memory_disk.Step.{Step}
use Rattle.cal_keeper.specs.Disks.CrashModel.{Past, found, wrote, synced, MayLeave, IsPossible}
use Rattle.cal_keeper.specs.Disks.MemoryDisks.{after, past_below, last_synced, DiskState, stopped_image, StopMayLeave}
use Rattle.cal_keeper.specs.Disks.PossibleImages.{possible_after}

-- as it was last synced, a file may be left
pub synced_may_stay : (past : Past) → MayLeave past (last_synced past)
synced_may_stay (found octets) = refl
synced_may_stay (wrote before place count octets) = (last_synced before, synced_may_stay before, record { stays = λ at within side. refl })
synced_may_stay (synced before) = refl

possible_step : (taken : Bool) (past : Past) (step : Step) → IsPossible past → IsPossible (cond taken (after past step.done) past)
possible_step true past step possible = possible_after past step.done possible
possible_step false past step possible = possible

possible_some : (taken : Step → Bool) (past : Past) (steps : List Step) → IsPossible past → IsPossible (fold (λ before (step : Step). cond (taken step) (after before step.done) before) past steps)
possible_some taken past [] possible = possible
possible_some taken past (step ∷ steps) possible = possible_some taken (cond (taken step) (after past step.done) past) steps (possible_step (taken step) past step possible)

pub stop_may_leave : (disk : DiskState) (call : ℕ) (written : Bool) → StopMayLeave disk call (stopped_image disk call written)
stop_may_leave disk call true = inr (possible_some (λ (step : Step). nat_le step.call call) (found disk.first) disk.steps refl)
stop_may_leave disk call false = inl (synced_may_stay (past_below call disk.first disk.steps))
