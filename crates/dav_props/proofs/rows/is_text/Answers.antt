use Rattle.std.proofs.Common.{◌≡◌, Bool, true, false, not, Option, refl, sym, ap, ◌∙◌}
use Rattle.std.specs.Prelude.{is_some}
use Rattle.std.specs.Option.{option_copied}
use Rattle.std.specs.Borrow.{Bor}
use Rattle.dav_props.specs.declared.rows.Row.{Row}
use Rattle.std.specs.Prelude.{Some, None}
use Rattle.dav_props.proofs.TellingLemmas.{is_text-looked_up}
use Rattle.dav_props.proofs.rows.is_text.Goals as goal

turned : (a b : Bool) → a ≡ not b → b ≡ not a
turned a true e = sym (ap not e)
turned a false e = sym (ap not e)

copied_there : (found : Option (Bor Row)) → is_some found ≡ is_some (option_copied found)
copied_there None = refl
copied_there (Some row) = refl

pub returns : goal.returns
returns c =
    turned (is_some c.first_named.result) c.is_none.result c.is_none.ensures
    ∙ ap not (copied_there c.first_named.result ∙ ap is_some c.first_named.ensures) ∙ sym (is_text-looked_up c.args.name.now)
