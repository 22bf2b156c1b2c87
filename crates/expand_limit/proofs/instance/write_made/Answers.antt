use Rattle.std.proofs.Common.{◌≡◌, ◌++◌, false, w64, sym, ap, ap₂, ◌∙◌}
use Rattle.std.specs.Prelude.{flat_map, bytes_eq, codes}
use Rattle.std.proofs.lemmas.Int.{to_z-of_z}
use Rattle.cal_model.specs.Selections.Picks.{prop_picks}
use Rattle.cal_model.specs.Selections.RowLines.{new_line}
use Rattle.ical_objects.proofs.Printed.{OnOk-then}
use Rattle.shown_lines.specs.Portions.{written_portion}
use Rattle.expand_limit.specs.KeptParts.{portion_by}
use Rattle.expand_limit.proofs.ShownParts.{other_line-text}
use Rattle.expand_limit.proofs.MadeLines.{new_line-name}
use Rattle.expand_limit.proofs.instance.write_made.Goals as goal

pub returns : goal.returns
returns c = OnOk-then c.write_new.result (λ text levels picks busy kept.
    let name = c.args.name.now in
    let line = new_line name c.args.kind c.args.seconds in
    let named = new_line-name name c.args.kind c.args.seconds in
    let other : bytes_eq line.name (codes "FREEBUSY") ≡ false = ap (λ n. bytes_eq n (codes "FREEBUSY")) named ∙ c.requires.other in
    let portion : c.portion.result ≡ portion_by (flat_map (prop_picks line.name) picks) = c.portion.ensures levels picks kept ∙ ap (λ n. portion_by (flat_map (prop_picks n) picks)) (sym named) in
    text ∙ ap₂ (λ seconds p. c.args.out.now ++ written_portion p (new_line name c.args.kind seconds)) (to_z-of_z w64 c.args.seconds c.ranges.seconds) portion
    ∙ ap (λ those. c.args.out.now ++ those) (sym (other_line-text picks busy line other))) c.write_new.ensures
