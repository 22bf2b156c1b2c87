use Rattle.std.proofs.Common.{◌≡◌, ℕ, Option, Some, None, false, is_some, sym, ap, ◌∙◌}
use Rattle.std.specs.Borrow.{Bor}
use Rattle.std.specs.Option.{option_copied}
use Rattle.cal_base.specs.Lists.NameMap.{value_at, with_value}
use Rattle.ical_values.proofs.Numbering.{new_name}
use Rattle.ical_values.proofs.zones.add_name.Goals as goal

-- nothing is found where nothing is lent
absent : (lent : Option (Bor ℕ)) (found : Option ℕ) → is_some lent ≡ false → option_copied lent ≡ found → found ≡ None
absent None found none same = sym same
absent (Some number) found none same = absurd (cc)

pub returns-in-Ok : goal.returns-in-Ok
returns-in-Ok c = λ other.
    let old = c.args.numbers.now in
    let name = c.args.name.now in
    let none = absent c.get.result (value_at old name) (sym c.is_some.ensures ∙ c.if-is_some.false) c.get.ensures in
    ap (λ named. value_at named other) c.in-Ok.ensures.ok
    ∙ (ap (λ key. value_at (with_value old key c.args.number) other) c.in_ok-name.ensures ∙ new_name old other name c.args.number none)
