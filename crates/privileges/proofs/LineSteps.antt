-- One line of a users file, and the lines behind it.
use Rattle.std.proofs.Common.{◌≡◌, ℕ, ◌+◌, ◌<◌, List, [], ◌∷◌, length, Result, Ok, Err, refl, ap, ◌∙◌, arith}
use Rattle.cal_base.specs.Lines.ContentLines.{pieces}
use Rattle.cal_base.specs.Texts.Octets.{line_feed}
use Rattle.cal_model.specs.Users.UsersFile.{Users}
use Rattle.privileges.specs.LineReading.{read_line, read_on}
use Rattle.privileges.proofs.UserLines.{pieces-some}

abbrev pub then_on : Result Users ℕ → ℕ → List (List ℕ) → Result Users ℕ
then_on (Ok known) place rest = read_on known place rest
then_on (Err refused) place rest = Err refused

read_on-front : (users : Users) (place : ℕ) (line : List ℕ) (rest : List (List ℕ)) → 0 < length rest
    → read_on users place (line ∷ rest) ≡ then_on (read_line users place line) (place + length line + 1) rest
read_on-front users place line [] some = absurd (omega (arith, some))
read_on-front users place line (next ∷ more) some = by_line (read_line users place line) where
  by_line : (o : Result Users ℕ) → elim o [ Ok known ↦ read_on known (place + length line + 1) (next ∷ more) | Err refused ↦ Err refused ] ≡ then_on o (place + length line + 1) (next ∷ more)
  by_line (Ok known) = refl
  by_line (Err refused) = refl

-- the reading of a text goes on behind its first line
pub read_on-line : (users : Users) (place : ℕ) (text line behind : List ℕ) (outcome : Result Users ℕ) → pieces line_feed text ≡ line ∷ pieces line_feed behind
    → read_line users place line ≡ outcome → read_on users place (pieces line_feed text) ≡ then_on outcome (place + length line + 1) (pieces line_feed behind)
read_on-line users place text line behind outcome cut read =
    ap (read_on users place) cut ∙ read_on-front users place line (pieces line_feed behind) (pieces-some line_feed behind)
    ∙ ap (λ o. then_on o (place + length line + 1) (pieces line_feed behind)) read
