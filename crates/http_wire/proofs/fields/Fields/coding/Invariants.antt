use Rattle.std.proofs.Common.{◌≡◌, length, map}
use Rattle.std.specs.Prelude.{codes, find, bytes_eq, not}
use Rattle.http_header.specs.FieldValue.{FieldValue}
use Rattle.http_wire.proofs.fields.Fields.coding.Given as goal

abbrev pub invariant-codings : goal.invariant-codings
invariant-codings l =
    find (λ coding. not (bytes_eq coding (codes "identity"))) (map (λ (value : FieldValue). value.bytes) l.rest) ≡ find (λ coding. not (bytes_eq coding (codes "identity"))) (map (λ (value : FieldValue). value.bytes) l.initial.rest)

abbrev pub decreases-codings : goal.decreases-codings
decreases-codings l = length l.rest
