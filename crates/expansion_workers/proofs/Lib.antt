pub mod WorkLemmas
