-- Credentials of requests (RFC 7617, 2), and the users whose they are.
use Rattle.std.specs.Prelude.{◌≡◌, refl, [], ◌∷◌, Some, None, codes}
use Rattle.base64.proofs.OnLiterals.{base64_on_literals}
use Rattle.hex.specs.Hex.{encode_with}
use Rattle.sha2.specs.Sha256.{first_words, schedule, rounds, compress, hash_after, digest_bytes, sha256}
use Rattle.cal_model.specs.Words.Cuts.{cut_at}
use Rattle.cal_model.specs.Users.UsersFile.{User}
use Rattle.cal_model.specs.Users.Credentials.{spelled_credentials, authenticated}

-- What a value spells

pub basic : spelled_credentials (codes "Basic YWxpY2U6YWJj") ≡ Some (record { name = codes "alice"; password = codes "abc" })
unfolding spelled_credentials cut_at base64_on_literals
basic = refl

pub scheme_in_small_letters : spelled_credentials (codes "basic YWxpY2U6YWJj") ≡ Some (record { name = codes "alice"; password = codes "abc" })
unfolding spelled_credentials cut_at base64_on_literals
scheme_in_small_letters = refl

-- the first colon ends the name
pub two_spaces_and_colon_in_password : spelled_credentials (codes "BASIC  YWxpY2U6YTpj") ≡ Some (record { name = codes "alice"; password = codes "a:c" })
unfolding spelled_credentials cut_at base64_on_literals
two_spaces_and_colon_in_password = refl

pub tab_behind_scheme : spelled_credentials (codes "Basic\tYWxpY2U6YWJj") ≡ None
unfolding spelled_credentials cut_at base64_on_literals
tab_behind_scheme = refl

pub no_colon : spelled_credentials (codes "Basic YWxpY2U=") ≡ None
unfolding spelled_credentials cut_at base64_on_literals
no_colon = refl

pub empty_name : spelled_credentials (codes "Basic OmFiYw==") ≡ Some (record { name = []; password = codes "abc" })
unfolding spelled_credentials cut_at base64_on_literals
empty_name = refl

pub empty_password : spelled_credentials (codes "Basic YWxpY2U6") ≡ Some (record { name = codes "alice"; password = [] })
unfolding spelled_credentials cut_at base64_on_literals
empty_password = refl

pub without_padding : spelled_credentials (codes "Basic YWxpY2U6YWJjZA") ≡ None
unfolding spelled_credentials cut_at base64_on_literals
without_padding = refl

pub too_much_padding : spelled_credentials (codes "Basic YWxpY2U6YWJj=") ≡ None
unfolding spelled_credentials cut_at base64_on_literals
too_much_padding = refl

-- `OmE=` is the one text of these octets
pub bits_left_over : spelled_credentials (codes "Basic OmF=") ≡ None
unfolding spelled_credentials cut_at base64_on_literals
bits_left_over = refl

pub two_texts : spelled_credentials (codes "Basic YWxpY2U6YWJj x") ≡ None
unfolding spelled_credentials cut_at base64_on_literals
two_texts = refl

pub any_octets : spelled_credentials (codes "Basic   /zoA") ≡ Some (record { name = 255 ∷ []; password = 0 ∷ [] })
unfolding spelled_credentials cut_at base64_on_literals
any_octets = refl

-- Whom they are of

abbrev alice : User
alice = record { name = codes "alice"; digest = codes "ba7816bf8f01cfea414140de5dae2223b00361a396177a9cb410ff61f20015ad" }

abbrev bob : User
bob = record { name = codes "bob"; digest = codes "e3b0c44298fc1c149afbf4c8996fb92427ae41e4649b934ca495991b7852b855" }

pub admitted : authenticated (record { people = bob ∷ alice ∷ []; groups = [] }) (Some (codes "Basic YWxpY2U6YWJj")) ≡ Some 1
unfolding authenticated spelled_credentials cut_at base64_on_literals encode_with first_words schedule rounds compress hash_after digest_bytes sha256
admitted = refl

-- the digest is that of no octets
pub admitted_with_empty_password : authenticated (record { people = bob ∷ alice ∷ []; groups = [] }) (Some (codes "Basic Ym9iOg==")) ≡ Some 0
unfolding authenticated spelled_credentials cut_at base64_on_literals encode_with first_words schedule rounds compress hash_after digest_bytes sha256
admitted_with_empty_password = refl

pub wrong_password : authenticated (record { people = bob ∷ alice ∷ []; groups = [] }) (Some (codes "Basic YWxpY2U6YWJk")) ≡ None
unfolding authenticated spelled_credentials cut_at base64_on_literals encode_with first_words schedule rounds compress hash_after digest_bytes sha256
wrong_password = refl

pub password_of_another : authenticated (record { people = bob ∷ alice ∷ []; groups = [] }) (Some (codes "Basic Ym9iOmFiYw==")) ≡ None
unfolding authenticated spelled_credentials cut_at base64_on_literals encode_with first_words schedule rounds compress hash_after digest_bytes sha256
password_of_another = refl

-- names compare with case
pub unknown_user : authenticated (record { people = bob ∷ alice ∷ []; groups = [] }) (Some (codes "Basic QWxpY2U6YWJj")) ≡ None
unfolding authenticated spelled_credentials cut_at base64_on_literals encode_with first_words schedule rounds compress hash_after digest_bytes sha256
unknown_user = refl
