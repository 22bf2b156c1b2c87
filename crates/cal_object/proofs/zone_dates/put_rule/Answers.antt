use Rattle.std.proofs.Common.{◌++◌, ap, sym, ◌∙◌, refl}
use Rattle.std.proofs.lemmas.List.{append-nil}
use Rattle.std.specs.Prelude.{option_to_list}
use Rattle.cal_object.proofs.zone_dates.put_rule.Goals as goal

pub returns-in-Err-Bad : goal.returns-in-Err-Bad
returns-in-Err-Bad c =
    sym (ap (λ found. c.args.rules.now ++ option_to_list found) (rw c.as_slice.ensures at (rw c.in-Err-Bad.field-0-is at c.in-Err-Bad.ensures).outside c.in-Err-Bad.field-0-0 refl) ∙ append-nil c.args.rules.now)
