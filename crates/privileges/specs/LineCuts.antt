-- What a cut of a text at a separator finds, and what a line of words is.
use Rattle.std.specs.Prelude.{ℕ, Bool, ◌&&◌, ◌||◌, nat_le, List, [], ◌∷◌, Option, Some, None, if◌then◌else◌}
use Rattle.std.specs.Borrow.{Bor}
use Rattle.cal_base.specs.Lines.ContentLines.{pieces}
use Rattle.cal_base.specs.Texts.Octets.{space}
use Rattle.cal_model.specs.Users.UsersFile.{User, NamedGroup, are_apart, is_digit}

-- two texts that are lent
abbrev pub both_texts : Bor (List ℕ) × Bor (List ℕ) → List ℕ × List ℕ
both_texts parts = (parts.0.now, parts.1.now)

-- a user, whose name and digest are lent
abbrev pub user_of_texts : Bor (List ℕ) × Bor (List ℕ) → User
user_of_texts parts = record { name = parts.0.now; digest = parts.1.now }

-- a group, whose name and the text of whose members are lent
abbrev pub group_of_texts : Bor (List ℕ) × Bor (List ℕ) → NamedGroup
group_of_texts parts = record { name = parts.0.now; members = pieces space parts.1.now }

-- a group, where no member stands twice
abbrev pub if_apart : NamedGroup → Option NamedGroup
if_apart group = if are_apart group.members then Some group else None

-- the pieces of a text, where its first cut is known
abbrev pub behind_cut : ℕ → List ℕ → Option (List ℕ × List ℕ) → List (List ℕ)
behind_cut separator text None = text ∷ []
behind_cut separator text (Some parts) = parts.0 ∷ pieces separator parts.1

-- `0-9 a-f`
abbrev pub is_digest_octet : ℕ → Bool
is_digest_octet octet = is_digit octet || nat_le 97 octet && nat_le octet 102
