-- Entries as they are kept: the list with one more, and those of deletions.
use Rattle.std.proofs.Common.{◌≡◌, ℕ, List, [], ◌∷◌, ◌++◌, map, ap, ◌∙◌}
use Rattle.std.proofs.lemmas.List.{map-append}
use Rattle.cal_base.specs.Lists.Reserved.{Reserved}
use Rattle.cal_model.specs.declared.change.Change.TheVariants as kept
use Rattle.cal_model.specs.declared.stored.Stored.{Stored}
use Rattle.cal_model.specs.History.KeptChanges.{IsAtPlace}
use Rattle.cal_model.specs.State.Changes.{delete_object, delete_calendar}
use Rattle.cal_journal.specs.declared.entries.Entry.{Entry}
use Rattle.cal_journal.specs.KeptEntries.{kept_entry}
use Rattle.cal_book.specs.Keeping.Deletions.{asked_entry}
use Rattle.cal_book.specs.declared.history.Asked.{Asked}

pub pushed : (items : List Entry) (entry : Entry) (room : ℕ) (after : Reserved Entry) → after ≡ record { items = items ++ entry ∷ []; room = room }
    → map kept_entry after.items ≡ map kept_entry items ++ kept_entry entry ∷ []
pushed items entry room after is = ap (λ (r : Reserved Entry). map kept_entry r.items) is ∙ map-append kept_entry items (entry ∷ [])

pub object_entry : (asked : Asked) (stored : Stored) (home : ℕ) (calendar object : List ℕ) → IsAtPlace home calendar object stored.path
    → kept_entry (record { session = asked.session; who = asked.who; moment = asked.moment; change = kept.DeleteObject stored; status = 204 })
    ≡ asked_entry asked (delete_object home calendar object)
object_entry asked stored home calendar object place i = asked_entry asked (delete_object (place.home_is i) (place.calendar_is i) (place.object_is i))

pub calendar_entry : (asked : Asked) (home : ℕ) (name given : List ℕ) → given ≡ name
    → kept_entry (record { session = asked.session; who = asked.who; moment = asked.moment; change = kept.DeleteCalendar home given; status = 204 })
    ≡ asked_entry asked (delete_calendar home name)
calendar_entry asked home name given is = ap (λ n. asked_entry asked (delete_calendar home n)) is
