mod GatherLemmas
mod SortedChanges
mod TableLemmas
