-- What the implementations in memory hold, and what each of their calls does.
use Rattle.std.specs.Prelude.{ℕ, ◌+◌, ◌-◌, ◌^◌, ◌==◌, ◌||◌, if◌then◌else◌, Bool, List, [], ◌∷◌, ◌++◌, length, drop, min, Option, Some, None, is_none, nat_eq, ℤ}
use Rattle.std.specs.Cmp.Lexicographic.{pointwise}
use Rattle.std.specs.List.{list_any}

-- the calls of such a thing: the numbers of those that fail, how many there were, how many failed
pub record Calls : Type 0 where
  pub failing : List ℕ
  pub made : ℕ
  pub faults : ℕ

-- before the first call
abbrev pub no_calls : List ℕ → Calls
no_calls failing = record { failing = failing; made = 0; faults = 0 }

-- a count that is kept as a u64 and stays at its last value
abbrev pub counted : ℕ → ℕ
counted n = min (n + 1) (2 ^ 64 - 1)

-- whether the next call is one of those that fail
abbrev pub is_listed : Calls → Bool
is_listed calls = list_any (λ number. number == calls.made) calls.failing

-- after one more call that did not fail
abbrev pub after_success : Calls → Calls
after_success calls = record { failing = calls.failing; made = counted calls.made; faults = calls.faults }

-- after one more call that failed
abbrev pub after_fault : Calls → Calls
after_fault calls = record { failing = calls.failing; made = counted calls.made; faults = counted calls.faults }

-- what is left to read, and how many octets of it may still be given
pub record Supply : Type 0 where
  pub rest : List ℕ
  pub allowance : ℕ

-- how many octets go into a place of so many octets
abbrev pub given_len : Supply → ℕ → ℕ
given_len supply room = min room (min (length supply.rest) supply.allowance)

-- what is left after so many octets
abbrev pub supply_behind : Supply → ℕ → Supply
supply_behind supply n = record { rest = drop n supply.rest; allowance = supply.allowance - n }

-- a source in memory
pub record SourceState : Type 0 where
  pub supply : Supply
  pub calls : Calls

-- whether the next read fails: it is listed, or the allowance is spent
abbrev pub source_read_fails : SourceState → Bool
source_read_fails source = is_listed source.calls || (source.supply.allowance == 0)

-- after a read that failed
abbrev pub source_after_fault : SourceState → SourceState
source_after_fault source = record { supply = source.supply; calls = after_fault source.calls }

-- after a read of so many octets
abbrev pub source_after_read : SourceState → ℕ → SourceState
source_after_read source n = record { supply = supply_behind source.supply n; calls = after_success source.calls }

-- a sink in memory
pub record SinkState : Type 0 where
  pub written : List ℕ
  pub calls : Calls

-- after a write that failed
abbrev pub sink_after_fault : SinkState → SinkState
sink_after_fault sink = record { written = sink.written; calls = after_fault sink.calls }

-- after a write of a piece, which is taken whole
abbrev pub sink_after_write : SinkState → List ℕ → SinkState
sink_after_write sink piece = record { written = sink.written ++ piece; calls = after_success sink.calls }

-- a link in memory
pub record LinkState : Type 0 where
  pub supply : Supply
  pub written : List ℕ
  pub calls : Calls

-- whether the next call fails, if it is a read: it is listed, or the allowance is spent
abbrev pub link_read_fails : LinkState → Bool
link_read_fails link = is_listed link.calls || (link.supply.allowance == 0)

-- after a call that failed
abbrev pub link_after_fault : LinkState → LinkState
link_after_fault link = record { supply = link.supply; written = link.written; calls = after_fault link.calls }

-- after a read of so many octets
abbrev pub link_after_read : LinkState → ℕ → LinkState
link_after_read link n = record { supply = supply_behind link.supply n; written = link.written; calls = after_success link.calls }

-- after a write of a piece, which is taken whole
abbrev pub link_after_write : LinkState → List ℕ → LinkState
link_after_write link piece = record { supply = link.supply; written = link.written ++ piece; calls = after_success link.calls }

-- the content of the first of these files that has this path
abbrev pub content_of : List (List ℕ × List ℕ) → List ℕ → Option (List ℕ)
content_of [] path = None
content_of (file ∷ files) path = if pointwise nat_eq file.0 path then Some file.1 else content_of files path

-- files in memory: pairs of a path and a content
pub record FilesState : Type 0 where
  pub files : List (List ℕ × List ℕ)
  pub calls : Calls

-- whether the next read of a path fails: it is listed, or there is no such file
abbrev pub files_read_fails : FilesState → List ℕ → Bool
files_read_fails files path = is_listed files.calls || is_none (content_of files.files path)

-- after a read that failed
abbrev pub files_after_fault : FilesState → FilesState
files_after_fault files = record { files = files.files; calls = after_fault files.calls }

-- after a read that gave the content, or found it too long
abbrev pub files_after_read : FilesState → FilesState
files_after_read files = record { files = files.files; calls = after_success files.calls }

-- a door in memory: the links that it has not given yet, and the moment of its clock
pub record DoorState : Type 0 where
  pub links : List LinkState
  pub moment : ℤ
  pub tries : ℕ
  pub calls : Calls

-- a door that nobody has used
abbrev pub new_door : List LinkState → ℤ → List ℕ → DoorState
new_door links moment failing = record { links = links; moment = moment; tries = 0; calls = no_calls failing }

-- after an `open` or an `another` that failed
abbrev pub door_after_fault : DoorState → DoorState
door_after_fault door = record { links = door.links; moment = door.moment; tries = door.tries; calls = after_fault door.calls }

-- after an `open` or an `another` that did not fail
abbrev pub door_after_success : DoorState → DoorState
door_after_success door = record { links = door.links; moment = door.moment; tries = door.tries; calls = after_success door.calls }

-- whether the next call fails, if it is an `accept`: it is listed, or no link is left
abbrev pub accept_fails : DoorState → Bool
accept_fails door = is_listed door.calls || (length door.links == 0)

-- after an `accept` that failed
abbrev pub door_after_failed_accept : DoorState → DoorState
door_after_failed_accept door = record { links = door.links; moment = door.moment; tries = counted door.tries; calls = after_fault door.calls }

-- after an `accept` that gave the first link
abbrev pub door_after_accept : DoorState → DoorState
door_after_accept door = record { links = drop 1 door.links; moment = door.moment; tries = counted door.tries; calls = after_success door.calls }
