-- The origins of a journal's live objects are apart: an entry makes one object.
use Rattle.std.proofs.Common.{◌≡◌, List, Option, Some, refl}
use Rattle.cal_model.specs.History.Journal.{Entry}
use Rattle.cal_model.specs.History.LiveObjects.{Placed}
use Rattle.cal_model.specs.History.Origins.{Origins, AreLive}
use Rattle.cal_book.specs.Showing.Views.{AreApart}

same_placed : (o : Option Placed) (a b : Placed) → o ≡ Some a → o ≡ Some b → (a.home ≡ b.home) × (a.calendar ≡ b.calendar) × (a.object ≡ b.object)
same_placed o a b is other = let same : a ≡ b = cc in (rw same refl, rw same refl, rw same refl)

pub live-apart : (journal : List Entry) (origins : Origins) → AreLive journal origins → AreApart origins
live-apart journal origins live = record {
  distinct = λ home home' calendar calendar' object object' n here there.
      let one = live.known home calendar object n here in
      let other = live.known home' calendar' object' n there in
      same_placed _ _ _ one.1 other.1;
}
