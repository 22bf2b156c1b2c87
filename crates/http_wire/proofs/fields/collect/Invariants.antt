use Rattle.std.proofs.Common.{◌≡◌, ◌≤◌, take, map, length}
use Rattle.httparse.specs.Spans.{header_bytes}
use Rattle.http_header.specs.HeaderMap.{value_count}
use Rattle.http_wire.specs.FieldMaps.{fields_map}
use Rattle.http_wire.proofs.fields.collect.Given as goal

abbrev pub invariant-loop-header : goal.invariant-loop-header
invariant-loop-header l =
    (l.by_name ≡ fields_map (map (header_bytes l.block) (take l.header-index l.headers)))
    × (length l.by_name ≤ l.header-index) × (value_count l.by_name ≤ l.header-index)
