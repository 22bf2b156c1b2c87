-- The book may go to another thread, from its smallest parts up.
--
-- Each type here holds only values that may go; the search for this stops at the tree of a calendar object, so it is said once for each.
use denote.Builtin.{u8, u16, u32, u64, i64}
use denote.Param.Send.{IsSend, IsSync, recorded_send, recorded_sync, enum_send, struct_send, struct_sync, view_send, view_sync, sendable}
use denote.Enum.Declared as enums
use denote.Struct.Declared as structs
use Rattle.name_pages.proofs.map.NamePages.TheSendSync as pages
use Rattle.name_pages.specs.contracts.map.NamePages.{the_row as pages_row}
use Rattle.std.proofs.Crossing as heap
use Rattle.std.proofs.alloc.Global.TheSendSync as global
use Rattle.cal_base.proofs.arc.Arc.TheSendSync as arc
use Rattle.cal_base.proofs.line.Line.TheSendSync as line
use Rattle.cal_base.proofs.line.Node.TheLaws.TheKnot as tree
use Rattle.cal_base.proofs.list.List.TheSendSync as list
use Rattle.cal_base.proofs.name_map.NameMap.TheSendSync as names
use Rattle.cal_base.proofs.reserved_list.ReservedList.TheSendSync as reserved
use Rattle.cal_base.proofs.shared.Shared.TheSendSync as shared
use Rattle.cal_base.proofs.text.Name.TheSendSync as text
use Rattle.cal_base.specs.contracts.arc.Arc.{the_row as arc_row}
use Rattle.cal_base.specs.contracts.line.Line.{the_row as line_row}
use Rattle.cal_base.specs.contracts.line.Node as Node
use Rattle.cal_base.specs.contracts.list.List.{the_row as list_row}
use Rattle.cal_base.specs.contracts.name_map.NameMap.{the_row as names_row}
use Rattle.cal_base.specs.contracts.shared.Shared.{the_row as shared_row}
use Rattle.cal_book.specs.contracts.book.Book as Book
use Rattle.cal_book.specs.contracts.book.Book.TheInside as BookFields
use Rattle.cal_book.specs.contracts.history.History as History
use Rattle.cal_book.specs.contracts.history.History.TheInside as HistoryFields
use Rattle.cal_journal.specs.contracts.entries.Entry as Entry
use Rattle.cal_journal.specs.contracts.entries.Journal as Journal
use Rattle.cal_journal.specs.contracts.entries.Journal.TheInside as JournalFields
use Rattle.cal_model.proofs.object.Component.TheSendSync as component
use Rattle.cal_model.proofs.object.Kind.TheSendSync as kind
use Rattle.cal_model.proofs.path.ObjectPath.TheSendSync as path
use Rattle.cal_model.proofs.privilege.Grant.TheSendSync as grant
use Rattle.cal_model.proofs.property.PropSet.TheSendSync as setting
use Rattle.cal_model.proofs.reply.Etag.TheSendSync as etag
use Rattle.cal_model.proofs.store.CalendarData.TheSendSync as kept
use Rattle.cal_model.proofs.zone.ZoneTable.TheSendSync as zone
use Rattle.cal_model.specs.contracts.change.Change as Change
use Rattle.cal_model.specs.contracts.object.Component.{the_row as component_row}
use Rattle.cal_model.specs.contracts.object.Object as Object
use Rattle.cal_model.specs.contracts.privilege.Grant.{the_row as grant_row}
use Rattle.cal_model.specs.contracts.property.PropSet.{the_row as setting_row}
use Rattle.cal_model.specs.contracts.store.CalendarData.{the_row as kept_row}
use Rattle.cal_model.specs.contracts.stored.Stored as Stored
use Rattle.cal_model.specs.contracts.zone.ZoneTable.{the_row as zone_row}
use Rattle.collections.proofs.zone_pool.ZonePool.TheSendSync as pool
use Rattle.collections.specs.contracts.calendar.CalendarStore as CalendarStore
use Rattle.collections.specs.contracts.calendar.CalendarStore.TheInside as CalendarFields
use Rattle.collections.specs.contracts.home.KeptHome as KeptHome
use Rattle.collections.specs.contracts.shown_calendar.ShownCalendar as ShownCalendar
use Rattle.collections.specs.contracts.shown_calendar.ShownCalendar.TheInside as ShownCalendarFields
use Rattle.collections.specs.contracts.shown_home.ShownHome as ShownHome
use Rattle.collections.specs.contracts.shown_home.ShownHome.TheInside as ShownHomeFields
use Rattle.collections.specs.contracts.shown_homes.ShownHomes as ShownHomes
use Rattle.collections.specs.contracts.shown_homes.ShownHomes.TheInside as ShownHomesFields
use Rattle.collections.specs.contracts.shown_state.ShownState as ShownState
use Rattle.collections.specs.contracts.shown_state.ShownState.TheInside as ShownStateFields
use Rattle.collections.specs.contracts.store.Store as Store
use Rattle.collections.specs.contracts.store.Store.TheInside as StoreFields
use Rattle.object_walk.specs.contracts.entry.ObjectEntry as ObjectEntry
use Rattle.piece_claims.proofs.claims.Claims.TheSendSync as claims
use Rattle.privileges.proofs.users.Users.TheSendSync as users
use Rattle.privileges.specs.contracts.users.Users.{the_row as users_row}

octet_send : IsSend u8
octet_send = search sendable

octet_sync : IsSync u8
octet_sync = search sendable

short_send : IsSend u16
short_send = search sendable

number_send : IsSend u32
number_send = search sendable

count_send : IsSend u64
count_send = search sendable

moment_send : IsSend i64
moment_send = search sendable

octets_send : IsSend (list_row u8)
octets_send = list.the_send u8 octet_send

octets_sync : IsSync (list_row u8)
octets_sync = list.the_sync u8 octet_sync

-- a calendar object, and one that is shared
tree_send : IsSend Node.the_field.row
tree_send = tree.send-Node text.the_send (list.the_send line_row line.the_send) list.the_send

tree_sync : IsSync Node.the_field.row
tree_sync = tree.sync-Node text.the_sync (list.the_sync line_row line.the_sync) list.the_sync

object_send : IsSend Object.the_field.row
object_send =
    struct_send (structs.shape Object.the_type)
    (kind.the_field_send, (octets_send, (tree_send, (list.the_send zone_row zone.the_send, (list.the_send component_row component.the_send, tt)))))

object_sync : IsSync Object.the_field.row
object_sync =
    struct_sync (structs.shape Object.the_type)
    (kind.the_field_sync, (octets_sync, (tree_sync, (list.the_sync zone_row zone.the_sync, (list.the_sync component_row component.the_sync, tt)))))

stored_send : IsSend Stored.the_row
stored_send =
    recorded_send Stored.the_field.row _ _ Stored.the_type.to_one
    (struct_send (structs.shape Stored.the_type) (path.the_field_send, (octets_send, (object_send, (etag.the_field_send, tt)))))

stored_sync : IsSync Stored.the_row
stored_sync =
    recorded_sync Stored.the_field.row _ _ Stored.the_type.to_one
    (struct_sync (structs.shape Stored.the_type) (path.the_field_sync, (octets_sync, (object_sync, (etag.the_field_sync, tt)))))

shared_object_send : IsSend (arc_row Stored.the_row)
shared_object_send = arc.the_send Stored.the_row stored_send stored_sync

shared_name_send : IsSend (arc_row (list_row u8))
shared_name_send = arc.the_send (list_row u8) octets_send octets_sync

shared_users_send : IsSend (arc_row users_row)
shared_users_send = arc.the_send users_row users.the_send users.the_sync

-- the journal
settings_send : IsSend (list_row setting_row)
settings_send = list.the_send setting_row setting.the_send

grants_send : IsSend (list_row grant_row)
grants_send = list.the_send grant_row grant.the_send

change_send : IsSend Change.the_field.row
change_send =
    enum_send (enums.shape Change.the_type) (
      (shared_object_send, tt),
      (
        (shared_object_send, tt),
        (
          (number_send, (shared_name_send, tt)),
          (
            (number_send, (shared_name_send, (settings_send, (number_send, tt)))),
            (
              (number_send, (shared_name_send, (settings_send, (number_send, tt)))),
              ((number_send, (shared_name_send, (grants_send, (number_send, tt)))), tt),
            ),
          ),
        ),
      ),
    )

entry_send : IsSend Entry.the_row
entry_send =
    recorded_send Entry.the_field.row _ _ Entry.the_type.to_one
    (struct_send (structs.shape Entry.the_type) (count_send, (number_send, (moment_send, (change_send, (short_send, tt))))))

journal_send : IsSend Journal.the_row
journal_send =
    view_send JournalFields.the_row _ _ _ _
    (recorded_send JournalFields.the_field.row _ _ JournalFields.the_type.to_one
    (struct_send (structs.shape JournalFields.the_type) (reserved.the_send Entry.the_row entry_send, tt)))

-- the homes
object_entry_send : IsSend ObjectEntry.the_row
object_entry_send =
    recorded_send ObjectEntry.the_field.row _ _ ObjectEntry.the_type.to_one
    (struct_send (structs.shape ObjectEntry.the_type) (shared_object_send, (count_send, tt)))

calendar_send : IsSend CalendarStore.the_row
calendar_send =
    view_send CalendarFields.the_row _ _ _ _
    (recorded_send CalendarFields.the_field.row _ _ CalendarFields.the_type.to_one
    (struct_send (structs.shape CalendarFields.the_type)
    (shared_name_send, (kept.the_field_send, (names.the_send ObjectEntry.the_row object_entry_send, (names.the_send (arc_row Stored.the_row) shared_object_send, tt))))))

home_send : IsSend KeptHome.the_row
home_send =
    recorded_send KeptHome.the_field.row _ _ KeptHome.the_type.to_one
    (struct_send (structs.shape KeptHome.the_type) (count_send, (names.the_send CalendarStore.the_row calendar_send, tt)))

store_send : IsSend Store.the_row
store_send =
    view_send StoreFields.the_row _ _ _ _
    (recorded_send StoreFields.the_field.row _ _ StoreFields.the_type.to_one
    (struct_send (structs.shape StoreFields.the_type) (global.the_field_send, (shared_users_send, (heap.Vec-send KeptHome.the_row home_send, (pool.the_field_send, tt))))))

-- what looks share, which may also be looked at by several threads
count_sync : IsSync u64
count_sync = search sendable

shared_object_sync : IsSync (arc_row Stored.the_row)
shared_object_sync = arc.the_sync Stored.the_row stored_send stored_sync

shared_name_sync : IsSync (arc_row (list_row u8))
shared_name_sync = arc.the_sync (list_row u8) octets_send octets_sync

object_entry_sync : IsSync ObjectEntry.the_row
object_entry_sync =
    recorded_sync ObjectEntry.the_field.row _ _ ObjectEntry.the_type.to_one
    (struct_sync (structs.shape ObjectEntry.the_type) (shared_object_sync, (count_sync, tt)))

shown_objects_send : IsSend (pages_row ObjectEntry.the_row)
shown_objects_send = pages.the_send ObjectEntry.the_row object_entry_send object_entry_sync

shown_objects_sync : IsSync (pages_row ObjectEntry.the_row)
shown_objects_sync = pages.the_sync ObjectEntry.the_row object_entry_send object_entry_sync

shown_calendar_send : IsSend ShownCalendar.the_row
shown_calendar_send =
    view_send ShownCalendarFields.the_row _ _ _ _
    (recorded_send ShownCalendarFields.the_field.row _ _ ShownCalendarFields.the_type.to_one
    (struct_send (structs.shape ShownCalendarFields.the_type) (shared_name_send, (arc.the_send kept_row kept.the_send kept.the_sync, (shown_objects_send, tt)))))

shown_calendar_sync : IsSync ShownCalendar.the_row
shown_calendar_sync =
    view_sync ShownCalendarFields.the_row _ _ _ _
    (recorded_sync ShownCalendarFields.the_field.row _ _ ShownCalendarFields.the_type.to_one
    (struct_sync (structs.shape ShownCalendarFields.the_type) (shared_name_sync, (arc.the_sync kept_row kept.the_send kept.the_sync, (shown_objects_sync, tt)))))

shown_calendars_send : IsSend (shared_row (names_row ShownCalendar.the_row))
shown_calendars_send = shared.the_send (names_row ShownCalendar.the_row) (names.the_send ShownCalendar.the_row shown_calendar_send) (names.the_sync ShownCalendar.the_row shown_calendar_sync)

shown_calendars_sync : IsSync (shared_row (names_row ShownCalendar.the_row))
shown_calendars_sync = shared.the_sync (names_row ShownCalendar.the_row) (names.the_send ShownCalendar.the_row shown_calendar_send) (names.the_sync ShownCalendar.the_row shown_calendar_sync)

shown_home_send : IsSend ShownHome.the_row
shown_home_send =
    view_send ShownHomeFields.the_row _ _ _ _
    (recorded_send ShownHomeFields.the_field.row _ _ ShownHomeFields.the_type.to_one (struct_send (structs.shape ShownHomeFields.the_type) (count_send, (shown_calendars_send, tt))))

shown_home_sync : IsSync ShownHome.the_row
shown_home_sync =
    view_sync ShownHomeFields.the_row _ _ _ _
    (recorded_sync ShownHomeFields.the_field.row _ _ ShownHomeFields.the_type.to_one (struct_sync (structs.shape ShownHomeFields.the_type) (count_sync, (shown_calendars_sync, tt))))

shown_homes_send : IsSend ShownHomes.the_row
shown_homes_send =
    view_send ShownHomesFields.the_row _ _ _ _
    (recorded_send ShownHomesFields.the_field.row _ _ ShownHomesFields.the_type.to_one (struct_send (structs.shape ShownHomesFields.the_type) (heap.Vec-send ShownHome.the_row shown_home_send, tt)))

shown_homes_sync : IsSync ShownHomes.the_row
shown_homes_sync =
    view_sync ShownHomesFields.the_row _ _ _ _
    (recorded_sync ShownHomesFields.the_field.row _ _ ShownHomesFields.the_type.to_one (struct_sync (structs.shape ShownHomesFields.the_type) (heap.Vec-sync ShownHome.the_row shown_home_sync, tt)))

shown_state_send : IsSend ShownState.the_row
shown_state_send =
    view_send ShownStateFields.the_row _ _ _ _
    (recorded_send ShownStateFields.the_field.row _ _ ShownStateFields.the_type.to_one
    (struct_send (structs.shape ShownStateFields.the_type) (global.the_field_send, (shared_users_send, (shared.the_send ShownHomes.the_row shown_homes_send shown_homes_sync, tt)))))

-- the book
history_send : IsSend History.the_row
history_send =
    view_send HistoryFields.the_row _ _ _ _
    (recorded_send HistoryFields.the_field.row _ _ HistoryFields.the_type.to_one
    (struct_send (structs.shape HistoryFields.the_type) (shared_users_send, (store_send, (journal_send, (shown_state_send, (count_send, tt)))))))

pub book_send : IsSend Book.the_row
book_send =
    view_send BookFields.the_row _ _ _ _
    (recorded_send BookFields.the_field.row _ _ BookFields.the_type.to_one
    (struct_send (structs.shape BookFields.the_type) (history_send, (claims.the_send, (reserved.the_send u8 octet_send, tt)))))
