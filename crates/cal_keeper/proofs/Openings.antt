-- Which files are opened.
use Rattle.std.proofs.Common.{◌≡◌, ℕ, ◌<◌, ◌^◌, List, ◌∷◌, ◌++◌, length, take, drop, map, Option, Some, None, Err, IfSome, option_map, flat_map, sym, ◌∙◌, ap, subst, append_assoc}
use Rattle.cal_model.specs.History.Journal.{Entry}
use Rattle.cal_model.specs.Users.UsersFile.{Users}
use Rattle.cal_keeper.specs.declared.opening.NoHeader.TheVariants.{NotJournal, OtherUsers}
use Rattle.cal_keeper.specs.Disks.CrashModel.{Past, reading, synced}
use Rattle.cal_keeper.specs.Files.Headers.{users_text, header_with, header_of, HasHeader}
use Rattle.cal_keeper.specs.Files.Standing.{StandsFor}
use Rattle.cal_keeper.specs.Files.Opening.{IsNoJournal, IsOfOthers, StandsForNone}
use Rattle.cal_keeper.specs.Steps.HeaderSteps.{FindsHeader}
use Rattle.cal_keeper.specs.Files.Payloads.{payload_of}
use Rattle.cal_keeper.specs.Files.RecordForm.{open_record}
use Rattle.cal_keeper.proofs.PartLaws.{same_4, same_front}

-- What a sync in front of it changes: nothing that a read gives

pub not_journal : (users : Users) (old new : Option Past) → FindsHeader users (Err NotJournal) new → new ≡ option_map synced old → IfSome old (λ p. IsNoJournal (reading p))
not_journal users None new found is = tt
not_journal users (Some past) new found is = subst (FindsHeader users (Err NotJournal)) is found

pub of_others : (users : Users) (place : ℕ) (old new : Option Past) → FindsHeader users (Err (OtherUsers place)) new → new ≡ option_map synced old → IfSome old (λ p. IsOfOthers users place (reading p))
of_others users place None new found is = tt
of_others users place (Some past) new found is = subst (FindsHeader users (Err (OtherUsers place))) is found

-- a file that stands for entries begins with the header of its users
header_there : (users : Users) (entries : List Entry) (octets : List ℕ) → length (users_text users) < 2 ^ 32 → StandsFor users entries octets → HasHeader (users_text users) octets
header_there users entries octets small stands = (
  small,
  flat_map open_record (map payload_of entries) ++ stands.file.gate ∷ stands.file.rest,
  stands.file.octets_are ∙ append_assoc (header_of users) (flat_map open_record (map payload_of entries)) (stands.file.gate ∷ stands.file.rest),
)

-- octets begin with one header
one_header : (a b octets : List ℕ) → HasHeader a octets → HasHeader b octets → a ≡ b
one_header a b octets has_a has_b =
    let same : header_with a ++ has_a.1 ≡ header_with b ++ has_b.1 = sym has_a.2 ∙ has_b.2 in
    let size = same_4 (length a) (length b) has_a.0 has_b.0 (ap (λ (xs : List ℕ). take 4 (drop 16 xs)) same) in
    (same_front a b has_a.1 has_b.1 size (ap (drop 20) same)).0

pub no_journal : (users : Users) (told : Option Past) → length (users_text users) < 2 ^ 32 → IfSome told (λ p. IsNoJournal (reading p)) → IfSome told (λ p. StandsForNone users (reading p))
no_journal users None small found = tt
no_journal users (Some past) small found = λ entries stands. found (users_text users) (header_there users entries (reading past) small stands)

pub other_users : (users : Users) (told : Option Past) (place : ℕ) → length (users_text users) < 2 ^ 32 → IfSome told (λ p. IsOfOthers users place (reading p)) → IfSome told (λ p. StandsForNone users (reading p))
other_users users None place small found = tt
other_users users (Some past) place small found = λ entries stands. found.2 (one_header found.0 (users_text users) (reading past) found.1 (header_there users entries (reading past) small stands))
