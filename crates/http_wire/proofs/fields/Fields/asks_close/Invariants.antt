use Rattle.std.proofs.Common.{◌≡◌, length, map}
use Rattle.std.specs.List.{list_any}
use Rattle.http_header.specs.FieldValue.{FieldValue}
use Rattle.cal_model.specs.Streams.HeadFields.{names_close}
use Rattle.http_wire.proofs.fields.Fields.asks_close.Given as goal

abbrev pub invariant-connections : goal.invariant-connections
invariant-connections l = list_any names_close (map (λ (value : FieldValue). value.bytes) l.rest) ≡ list_any names_close (map (λ (value : FieldValue). value.bytes) l.initial.rest)

abbrev pub decreases-connections : goal.decreases-connections
decreases-connections l = length l.rest
