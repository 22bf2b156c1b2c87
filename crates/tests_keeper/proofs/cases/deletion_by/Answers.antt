use Rattle.std.proofs.Common.{◌≡◌, ℕ, ◌<◌, List, length, codes, pos, refl, sym, ◌∙◌, subst, rules, arith, lit<, lit≤}
use Rattle.std.specs.Char.{encode_utf8}
use Rattle.std.specs.Str.{is_utf8, chars}
use Rattle.cal_model.specs.History.Journal.{Entry}
use Rattle.cal_model.specs.State.Changes.{delete_calendar}
use Rattle.cal_model.specs.Users.UsersFile.{Users}
use Rattle.cal_keeper.specs.Files.Payloads.{IsName, HasForm}
use Rattle.cal_keeper.specs.Principals.{counts_of}
use Rattle.tests_keeper.proofs.cases.deletion_by.Goals as goal

abbrev deletion_of : ℕ → List ℕ → Entry
deletion_of who name = record { session = 7; who = who; moment = pos 1_741_500_000; change = delete_calendar 0 name; status = 204 }

named : IsName (codes "work")
unfolding is_utf8 chars encode_utf8
named = refl

deletion-has_form : (users : Users) (who : ℕ) (name : List ℕ) → 1 < length users.people → who < 2 → name ≡ codes "work" → HasForm (counts_of users) (deletion_of who name)
deletion-has_form users who name two first is =
    let own : who < length users.people = omega (arith, two, first) in
    let some : 0 < length users.people = omega (arith, two) in
    subst (λ (n : List ℕ). HasForm (counts_of users) (deletion_of who n)) (sym is) (record { who = own; home = some; moment = refl; to_9999 = lit≤ tt; status = lit< tt; calendar = named; change = tt; short = lit≤ tt })

pub returns : goal.returns
returns c =
    let slice : c.as_slice.result.now ≡ codes "work" = search rules in
    let name : c.in_ok-name.name ≡ c.as_slice.result.now = c.in_ok-name.ensures in
    let arc : c.in_ok-new.field-0 ≡ c.in_ok-name.name = c.in_ok-new.ensures in
    deletion-has_form c.args.users.now c.args.who _ c.requires.two c.requires.who (arc ∙ name ∙ slice)
