-- Who sent a request: Basic credentials (RFC 7617, 2; RFC 9110, 11.4; RFC 4648, 4), checked against the digests of the passwords.
-- Given: the users, and the value of the field Authorization, if it is there. Gives: the number of the user, if the value spells a user's name and password.
use Rattle.std.specs.Prelude.{ℕ, Bool, ◌==◌, if◌then◌else◌, List, [], ◌∷◌, slice_get, bytes_eq, codes, Option, Some, None, option_map, option_and_then, Ok, Err}
use Rattle.std.specs.Str.{str_eq_ignore_ascii_case}
use Rattle.base64.specs.Engines.{standard}
use Rattle.base64.specs.GeneralPurpose.{decode_of}
use Rattle.hex.specs.Hex.{encode_lower}
use Rattle.sha2.specs.Sha256.{sha256}
use Rattle.cal_base.specs.Texts.Octets.{space, colon}
use Rattle.cal_model.specs.Words.Cuts.{cut_at}
use Rattle.cal_model.specs.Users.UsersFile.{User, Users, number_of}

abbrev pub without_spaces : List ℕ → List ℕ
without_spaces [] = []
without_spaces (octet ∷ text) = if octet == space then without_spaces text else octet ∷ text

-- the one text of the scheme `Basic`: the scheme, which compares without ASCII case, one or more spaces, and the text
abbrev pub basic_text : List ℕ → Option (List ℕ)
basic_text value =
    option_and_then (λ (parts : List ℕ × List ℕ). if str_eq_ignore_ascii_case parts.0 (codes "basic") then Some (without_spaces parts.1) else None) (cut_at space value)

-- the octets that a text in padded standard base64 stands for (RFC 4648, 4)
abbrev pub base64_octets : List ℕ → Option (List ℕ)
base64_octets text = elim (decode_of standard text) [ Ok octets ↦ Some octets | Err fault ↦ None ]

-- name ":" password; the name has no colon
pub record Credentials : Type 0 where
  pub name : List ℕ
  pub password : List ℕ

abbrev pub credentials_of : List ℕ → Option Credentials
credentials_of octets = option_map (λ (parts : List ℕ × List ℕ). record { name = parts.0; password = parts.1 }) (cut_at colon octets)

-- the credentials that a value of the field Authorization spells
unfoldable pub spelled_credentials : List ℕ → Option Credentials
spelled_credentials value = option_and_then (λ text. option_and_then credentials_of (base64_octets text)) (basic_text value)

-- the password has the digest
abbrev pub has_digest : List ℕ → List ℕ → Bool
has_digest password digest = bytes_eq (encode_lower (sha256 password)) digest

-- the number of the user whose name and password these are
abbrev pub admitted_as : Users → List ℕ → User → ℕ → Option ℕ
admitted_as users password user number = if has_digest password user.digest then Some number else None

abbrev pub admitted_by : Users → List ℕ → ℕ → Option ℕ
admitted_by users password number = option_and_then (λ user. admitted_as users password user number) (slice_get users.people number)

abbrev pub user_of_credentials : Users → Credentials → Option ℕ
user_of_credentials users credentials = option_and_then (admitted_by users credentials.password) (number_of users credentials.name)

-- the number of the user that a request without or with such a value is of
unfoldable pub authenticated : Users → Option (List ℕ) → Option ℕ
authenticated users None = None
authenticated users (Some value) = option_and_then (user_of_credentials users) (spelled_credentials value)
