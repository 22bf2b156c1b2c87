-- The parts of a zone without fault can be made a table of.
use Rattle.std.proofs.Common.{◌≡◌, false, List, [], ◌∷◌, All, filter, codes}
use Rattle.std.specs.Prelude.{not, ◌||◌}
use Rattle.std.specs.List.{list_any, AllByRecursion as Each}
use Rattle.std.proofs.lemmas.List.Elements.{All-from_recursion}
use Rattle.cal_base.specs.declared.line.Node.{Node}
use Rattle.cal_model.specs.declared.zone.ZonePart.{ZonePart}
use Rattle.cal_model.specs.TimeZones.TableBounds.{IsPart}
use Rattle.cal_model.specs.Words.Lists.{is_empty}
use Rattle.cal_model.specs.Objects.ComponentLines.{has, lines_of, children_of}
use Rattle.cal_model.specs.Objects.ZoneReading.{part_of_lines, is_part, parts_of_zone, is_fine_part, are_many, has_zone_fault}
use Rattle.cal_model.proofs.Objects.ZoneParts.{IsPart-part_of_lines}
use Rattle.cal_model.proofs.Words.EachLemmas.{neither, each_of_any, each-weaker, each-both, each-filter_map}

any_node : (nodes : List Node) → Each (λ (node : Node). Unit {0}) nodes
any_node [] = tt
any_node (node ∷ nodes) = (tt, any_node nodes)

pub parts_can_be_read : (zone : Node) → has_zone_fault zone ≡ false → All IsPart (parts_of_zone zone)
parts_can_be_read zone good =
    let parts = parts_of_zone zone in
    let nodes = filter is_part (children_of zone) in
    let nameless = not (has (codes "TZID") (lines_of zone)) in
    let before = neither (nameless || is_empty parts || list_any is_fine_part parts) (list_any (λ (part : ZonePart). are_many part.rules) parts) good in
    let coarse = each_of_any is_fine_part parts (neither (nameless || is_empty parts) (list_any is_fine_part parts) before.0).1 in
    let made = each-filter_map (λ (node : Node). Unit {0}) (λ (part : ZonePart). is_fine_part part ≡ false → IsPart part) (λ (node : Node). part_of_lines (lines_of node))
    (λ node part fact is. IsPart-part_of_lines (lines_of node) part is) nodes (any_node nodes) in
    All-from_recursion IsPart parts
    (each-weaker (λ part both. both.0 both.1) parts (each-both (λ (part : ZonePart). is_fine_part part ≡ false → IsPart part) (λ (part : ZonePart). is_fine_part part ≡ false) parts made coarse))
