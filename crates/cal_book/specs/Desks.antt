-- What a desk tells of an event: a reply, or the fault by which it is broken.
-- Given: what was told, and the book that the desk means before and after.
use Rattle.std.specs.Prelude.{◌≡◌, ◌≢◌, ◌⊎◌, Bool, true, false, []}
use Rattle.cal_model.specs.declared.reply.Reply.{Reply as ReplyData}
use Rattle.cal_model.specs.declared.request.Event.{Event}
use Rattle.cal_book.specs.Cores.{Core, state_in}
use Rattle.cal_book.specs.EventSteps.{entries_made, work_after}
use Rattle.cal_book.specs.declared.desk.Told.{Told}
use Rattle.cal_book.specs.declared.desk.Told.TheVariants.{Reply, Broken}

-- a fact of the reply, where one was told
abbrev pub IfReply : {X : Type 0} → Told X → (ReplyData → Type 0) → Type 0
IfReply (Reply reply) fact = fact reply
IfReply (Broken fault) fact = Unit {0}

-- a fact, where a fault was told
abbrev pub WhereBroken : {X : Type 0} → Told X → Type 0 → Type 0
WhereBroken (Reply reply) fact = Unit {0}
WhereBroken (Broken fault) fact = fact

-- a fault is told exactly where the desk is broken afterwards
abbrev pub TellsBroken : {X : Type 0} → Told X → Bool → Type 0
TellsBroken (Reply reply) broken = broken ≡ false
TellsBroken (Broken fault) broken = broken ≡ true

-- What the book is after the event by which its desk broke: as before, or as an accepted change leaves it.
abbrev pub IsLeftBroken : Core → Event → Core → Type 0
IsLeftBroken old event new =
    (new.work ≡ old.work) ⊎ ((new.work ≡ work_after old.users event old.work) × (entries_made old.users (state_in old) event ≢ []))
