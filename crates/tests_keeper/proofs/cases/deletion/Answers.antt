use Rattle.std.proofs.Common.{◌≡◌, ℕ, ◌<◌, List, length, codes, pos, refl, sym, ◌∙◌, subst, rules, lit<, lit≤}
use Rattle.std.specs.Char.{encode_utf8}
use Rattle.std.specs.Str.{is_utf8, chars}
use Rattle.cal_model.specs.History.Journal.{Entry}
use Rattle.cal_model.specs.State.Changes.{delete_calendar}
use Rattle.cal_model.specs.Users.UsersFile.{Users}
use Rattle.cal_keeper.specs.Files.Payloads.{IsName, HasForm}
use Rattle.cal_keeper.specs.Principals.{counts_of}
use Rattle.tests_keeper.proofs.cases.deletion.Goals as goal

abbrev deletion_of : List ℕ → Entry
deletion_of name = record { session = 7; who = 1; moment = pos 1_741_600_000; change = delete_calendar 1 name; status = 204 }

named : IsName (codes "calendar")
unfolding is_utf8 chars encode_utf8
named = refl

deletion-has_form : (users : Users) (name : List ℕ) → 1 < length users.people → name ≡ codes "calendar" → HasForm (counts_of users) (deletion_of name)
deletion-has_form users name two is =
    subst (λ (n : List ℕ). HasForm (counts_of users) (deletion_of n)) (sym is) (record { who = two; home = two; moment = refl; to_9999 = lit≤ tt; status = lit< tt; calendar = named; change = tt; short = lit≤ tt })

pub returns : goal.returns
returns c =
    let slice : c.as_slice.result.now ≡ codes "calendar" = search rules in
    let name : c.in_ok-name.name ≡ c.as_slice.result.now = c.in_ok-name.ensures in
    let arc : c.in_ok-new.field-0 ≡ c.in_ok-name.name = c.in_ok-new.ensures in
    deletion-has_form c.args.users.now _ c.requires (arc ∙ name ∙ slice)
