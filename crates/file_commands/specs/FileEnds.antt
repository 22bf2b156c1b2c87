-- How the commands `expand` and `check` end, by their status, the place and the line on standard error.
-- Given: what is to be told, and what the output tells before and after.
use Rattle.std.specs.Prelude.{◌≡◌, ◌⊎◌, ℕ, List, [], take, Option, Some, option_map}
use Rattle.cal_base.specs.World.Outside.{Adds}
use Rattle.file_commands.specs.declared.file_end.ToolEnd.{ToolEnd}
use Rattle.file_commands.specs.FileTold.{Told, lines, line}

-- 0 the lines were written; 2 the words are not taken; 4 a file was not read; 5 the output failed; 7 there was no memory; 12 a file is not taken
abbrev pub IsFileStatus : ℕ → Type 0
IsFileStatus status = (status ≡ 0) ⊎ (status ≡ 2) ⊎ (status ≡ 4) ⊎ (status ≡ 5) ⊎ (status ≡ 7) ⊎ (status ≡ 12)

-- only a file that is not taken has a line, and perhaps a place
abbrev pub IsQuiet : ToolEnd → Type 0
IsQuiet end = (end.end.status ≡ 12) ⊎ ((end.line ≡ []) × (end.end.place ≡ 0))

-- an end of which no line tells more
abbrev pub silent_end : ℕ → ToolEnd
silent_end status = record { end = record { status = status; place = 0 }; line = [] }

-- an end behind the words, and one behind the files
pub record IsReadEnd (end : ToolEnd) : Type 0 where
  pub known : (end.end.status ≡ 0) ⊎ (end.end.status ≡ 4) ⊎ (end.end.status ≡ 5) ⊎ (end.end.status ≡ 7) ⊎ (end.end.status ≡ 12)
  pub quiet : IsQuiet end

pub record IsToldEnd (end : ToolEnd) : Type 0 where
  pub known : (end.end.status ≡ 0) ⊎ (end.end.status ≡ 5) ⊎ (end.end.status ≡ 7) ⊎ (end.end.status ≡ 12)
  pub quiet : IsQuiet end

-- lines are told: they were written, or a front of them where the output failed, and no file is refused
pub record HasWritten (octets : List ℕ) (status : ℕ) (before after : Option (List ℕ)) : Type 0 where
  pub whole : status ≡ 0 → Adds before octets after
  pub front : status ≡ 5 → (many : ℕ) × Adds before (take many octets) after
  pub taken : ¬ (status ≡ 12)

-- a line is told: this one, with this place, and nothing is written
pub record HasRefused (text : List ℕ) (place : ℕ) (end : ToolEnd) : Type 0 where
  pub told : end.end.status ≡ 12 → (end.line ≡ text) × (end.end.place ≡ place)
  pub not_written : ¬ (end.end.status ≡ 0)
  pub not_begun : ¬ (end.end.status ≡ 5)

-- what is to be told was told, unless a file was not read or there was no memory
abbrev pub HasTold : Told → ToolEnd → Option (List ℕ) → Option (List ℕ) → Type 0
HasTold (lines octets) end before after = HasWritten octets end.end.status before after
HasTold (line text place) end before after = HasRefused text place end

-- the contents of the calendar file, and of that of the time zone where one is named
pub record AreContents (content : List ℕ → Option (List ℕ)) (file : List ℕ) (zone : Option (List ℕ)) (octets : List ℕ) (zone_octets : Option (List ℕ)) : Type 0 where
  pub file_is : content file ≡ Some octets
  pub zone_is : option_map content zone ≡ option_map Some zone_octets
