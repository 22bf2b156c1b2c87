-- The header of a file, laid and found.
-- Given: the users, and the past of the file where the disk tells it.
use Rattle.std.specs.Prelude.{◌≡◌, ℕ, Bool, IsTrue, List, [], length, Option, Some, None, Result, Ok, Err}
use Rattle.cal_model.specs.Users.UsersFile.{Users}
use Rattle.cal_keeper.specs.declared.opening.NoHeader.{NoHeader}
use Rattle.cal_keeper.specs.declared.opening.NoHeader.TheVariants.{NotJournal, OtherUsers, Failed, NoMemory}
use Rattle.cal_keeper.specs.Disks.CrashModel.{Past, reading}
use Rattle.cal_keeper.specs.Files.Headers.{users_text, header_of, HasHeader}
use Rattle.cal_keeper.specs.Files.Opening.{IsNoJournal, IsOfOthers}
use Rattle.cal_keeper.specs.Files.RecordForm.{IsKept}

-- a header is laid in an empty file
abbrev pub Begins : List ℕ → Bool → Option Past → Option Past → Type 0
Begins header went_through None new = new ≡ None
Begins header went_through (Some old) new = (past : Past) × (new ≡ Some past) × (IsTrue went_through → reading old ≡ [] → IsKept header [] (length header) past)

-- what the octets of a file are found to begin with
abbrev pub BeginsSo : Users → List ℕ → Result ℕ NoHeader → Type 0
BeginsSo users octets (Ok place) = HasHeader (users_text users) octets × (place ≡ length (header_of users))
BeginsSo users octets (Err NotJournal) = IsNoJournal octets
BeginsSo users octets (Err (OtherUsers place)) = IsOfOthers users place octets
BeginsSo users octets (Err Failed) = Unit {0}
BeginsSo users octets (Err NoMemory) = Unit {0}

abbrev pub FindsHeader : Users → Result ℕ NoHeader → Option Past → Type 0
FindsHeader users found None = Unit {0}
FindsHeader users found (Some past) = BeginsSo users (reading past) found

-- the text that was read of a header
abbrev pub ReadsSo : List ℕ → Result (List ℕ) NoHeader → Type 0
ReadsSo octets (Ok text) = HasHeader text octets
ReadsSo octets (Err NotJournal) = IsNoJournal octets
ReadsSo octets (Err (OtherUsers place)) = ⊥
ReadsSo octets (Err Failed) = Unit {0}
ReadsSo octets (Err NoMemory) = Unit {0}

abbrev pub ReadsHeader : Result (List ℕ) NoHeader → Option Past → Type 0
ReadsHeader found None = Unit {0}
ReadsHeader found (Some past) = ReadsSo (reading past) found
