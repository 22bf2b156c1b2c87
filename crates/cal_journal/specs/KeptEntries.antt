-- Entries as they are kept, as plain data, and what they bring so that each state that they lead to is sound.
use Rattle.std.specs.Prelude.{List, All}
use Rattle.cal_model.specs.State.ServerState.{Directory}
use Rattle.cal_model.specs.State.SoundStates.{IsSoundChange}
use Rattle.cal_model.specs.History.Journal.{Entry}
use Rattle.cal_model.specs.History.KeptChanges.{kept_change}
use Rattle.cal_journal.specs.declared.entries.Entry.{Entry as KeptEntry}

-- the entry that is kept
abbrev pub kept_entry : KeptEntry → Entry
kept_entry entry = record { session = entry.session; who = entry.who; moment = entry.moment; change = kept_change entry.change; status = entry.status }

-- each entry's change names what can be named, and grants to users alone
abbrev pub AreSound : Directory → List Entry → Type 0
AreSound directory entries = All (λ (entry : Entry). IsSoundChange directory entry.change) entries
