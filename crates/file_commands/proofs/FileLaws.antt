-- What the commands over calendar files tell, from what was listed and read.
use Rattle.std.proofs.Common.{◌≡◌, ◌<◌, ◌≤◌, ◌⊎◌, inl, inr, ℕ, List, Option, Some, None, refl, sym, subst, arith}
use Rattle.std.specs.Prelude.{option_map}
use Rattle.std.proofs.lemmas.Bool.{cases_lt}
use Rattle.cal_base.specs.World.Outside.{Rose}
use Rattle.cal_model.specs.Objects.ObjectReading.{Unread}
use Rattle.cal_object.specs.declared.fault.ReadFault.{ReadFault}
use Rattle.ics_tool.specs.Answers.{said_by}
use Rattle.ics_tool.specs.Listings.{Listing, refused, zone_refused}
use Rattle.file_commands.specs.declared.file_end.ToolEnd.{ToolEnd}
use Rattle.file_commands.specs.FileEnds.{HasTold, IsFileStatus, IsReadEnd, IsToldEnd}
use Rattle.file_commands.specs.FileTold.{told_of, unread}

-- Statuses

told_status : (status : ℕ) → (status ≡ 0) ⊎ (status ≡ 5) ⊎ (status ≡ 7) ⊎ (status ≡ 12) → (status ≡ 0) ⊎ (status ≡ 4) ⊎ (status ≡ 5) ⊎ (status ≡ 7) ⊎ (status ≡ 12)
told_status status (inl zero) = inl zero
told_status status (inr (inl five)) = inr (inr (inl five))
told_status status (inr (inr (inl seven))) = inr (inr (inr (inl seven)))
told_status status (inr (inr (inr twelve))) = inr (inr (inr (inr twelve)))

-- an end behind the files is one behind the words
pub read_told : (end : ToolEnd) → IsToldEnd end → IsReadEnd end
read_told end is = record { known = told_status end.end.status is.known; quiet = is.quiet }

-- and no file failed
pub not_failed : (end : ToolEnd) → IsToldEnd end → end.end.status ≡ 4 → ⊥
not_failed end is four = none end.end.status is.known four
  where
    none : (status : ℕ) → (status ≡ 0) ⊎ (status ≡ 5) ⊎ (status ≡ 7) ⊎ (status ≡ 12) → status ≡ 4 → ⊥
    none status (inl zero) e = omega arith
    none status (inr (inl five)) e = omega arith
    none status (inr (inr (inl seven))) e = omega arith
    none status (inr (inr (inr twelve))) e = omega arith

read_status : (status : ℕ) → (status ≡ 0) ⊎ (status ≡ 4) ⊎ (status ≡ 5) ⊎ (status ≡ 7) ⊎ (status ≡ 12) → IsFileStatus status
read_status status (inl zero) = inl zero
read_status status (inr (inl four)) = inr (inr (inl four))
read_status status (inr (inr (inl five))) = inr (inr (inr (inl five)))
read_status status (inr (inr (inr (inl seven)))) = inr (inr (inr (inr (inl seven))))
read_status status (inr (inr (inr (inr twelve)))) = inr (inr (inr (inr (inr twelve))))

-- an end behind the words is an end
pub known_read : (end : ToolEnd) → IsReadEnd end → IsFileStatus end.end.status
known_read end is = read_status end.end.status is.known

-- and the words were taken
pub not_other_words : (end : ToolEnd) → IsReadEnd end → end.end.status ≡ 2 → ⊥
not_other_words end is two = none end.end.status is.known two
  where
    none : (status : ℕ) → (status ≡ 0) ⊎ (status ≡ 4) ⊎ (status ≡ 5) ⊎ (status ≡ 7) ⊎ (status ≡ 12) → status ≡ 2 → ⊥
    none status (inl zero) e = omega arith
    none status (inr (inl four)) e = omega arith
    none status (inr (inr (inl five))) e = omega arith
    none status (inr (inr (inr (inl seven)))) e = omega arith
    none status (inr (inr (inr (inr twelve)))) e = omega arith

-- Lines

module _ (file zone : List ℕ) (listing : Listing) (end : ToolEnd) (before after : Option (List ℕ)) where
  listed_as : (other : Listing) → listing ≡ other → HasTold (told_of file zone other) end before after → HasTold (told_of file zone listing) end before after
  listed_as other e has = subst (λ l. HasTold (told_of file zone l) end before after) (sym e) has

  pub refused-told : (fault : ReadFault) → option_map refused (said_by fault) ≡ Some listing → ((why : Unread) → said_by fault ≡ Some why → HasTold (unread file why) end before after) → HasTold (told_of file zone listing) end before after
  refused-told fault e each = by (said_by fault) refl e
    where
      by : (said : Option Unread) → said_by fault ≡ said → option_map refused said ≡ Some listing → HasTold (told_of file zone listing) end before after
      by None is e = absurd cc
      by (Some why) is e = let same : listing ≡ refused why = cc in listed_as (refused why) same (each why is)

  pub zone_refused-told : (fault : ReadFault) → option_map zone_refused (said_by fault) ≡ Some listing → ((why : Unread) → said_by fault ≡ Some why → HasTold (unread zone why) end before after) → HasTold (told_of file zone listing) end before after
  zone_refused-told fault e each = by (said_by fault) refl e
    where
      by : (said : Option Unread) → said_by fault ≡ said → option_map zone_refused said ≡ Some listing → HasTold (told_of file zone listing) end before after
      by None is e = absurd cc
      by (Some why) is e = let same : listing ≡ zone_refused why = cc in listed_as (zone_refused why) same (each why is)

-- Counts of faults

-- a count that rose behind a moment rose since
pub rose_since : (first second third : ℕ) → first ≤ second → second ≤ third → Rose second third → Rose first third
rose_since first second third early late (inl less) = inl (omega arith)
rose_since first second third early late (inr full) = by_order (cases_lt first second)
  where
    by_order : (first < second) ⊎ (second ≤ first) → Rose first third
    by_order (inl less) = inl (omega arith)
    by_order (inr same) = inr (omega arith)
