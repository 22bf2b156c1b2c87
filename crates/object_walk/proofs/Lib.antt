mod EntryValues
