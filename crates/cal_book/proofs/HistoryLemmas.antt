-- What a history that is in step tells of its state.
use Rattle.std.proofs.Common.{List, sym, ap, ◌∙◌, subst}
use Rattle.cal_model.specs.History.Journal.{Entry}
use Rattle.cal_model.specs.State.ServerState.{directory_of, octets_at}
use Rattle.cal_model.specs.State.SoundStates.{IsSound}
use Rattle.cal_model.specs.Users.UsersFile.{Users}
use Rattle.collections.specs.Kept.{Kept as KeptStore, state_of}
use Rattle.cal_book.specs.Keeping.KeptHistories.{IsInStep}
use Rattle.cal_book.specs.Cores.{HasLiveOctets}
use Rattle.cal_book.proofs.LiveOctets.{live-octets, replay-sound}

-- the octets of each object that is still there are in the state
pub step-octets : (users : Users) (store : KeptStore) (journal : List Entry) → IsInStep users store journal → HasLiveOctets journal (state_of store)
step-octets users store journal step n placed e =
    ap (λ s. octets_at s placed.home placed.calendar placed.object) step.state_is
    ∙ live-octets (directory_of users) step.told journal step.legal step.sound n placed e

-- the state is sound
pub step-sound : (users : Users) (store : KeptStore) (journal : List Entry) → IsInStep users store journal → IsSound (directory_of users) (state_of store)
step-sound users store journal step = subst (IsSound (directory_of users)) (sym step.state_is) (replay-sound (directory_of users) step.told journal step.legal step.sound)
