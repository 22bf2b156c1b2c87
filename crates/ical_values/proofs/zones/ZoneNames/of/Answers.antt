use Rattle.std.proofs.Common.{◌≡◌, length, bytes_eq, arith, sym, ap, ◌∙◌}
use Rattle.std.specs.List.{position}
use Rattle.ical_values.proofs.zones.ZoneNames.of.Goals as goal

pub invariant_of-result : goal.invariant_of-result
invariant_of-result c =
    let same : c.in-Ok.names ≡ c.args.names.now = c.in-Ok.ensures ∙ c.as_slice-2.ensures in (
      omega (arith, ap length same),
      λ name. c.in_ok-numbers.ensures name ∙ ap (position (bytes_eq name)) (c.as_slice.ensures ∙ sym same),
    )
