mod AskingLemmas
mod EventLemmas
mod NameLemmas
