use Rattle.std.proofs.Common.{◌≡◌, ◌++◌, length, map}
use Rattle.std.specs.Prelude.{codes, flat_map}
use Rattle.http_header.specs.FieldValue.{FieldValue}
use Rattle.http_wire.proofs.fields.push_all.Given as goal

abbrev pub invariant-values : goal.invariant-values
invariant-values l =
    l.all ++ flat_map (λ other. codes ", " ++ other) (map (λ (value : FieldValue). value.bytes) l.rest) ≡ l.initial.all ++ flat_map (λ other. codes ", " ++ other) (map (λ (value : FieldValue). value.bytes) l.initial.rest)

abbrev pub decreases-values : goal.decreases-values
decreases-values l = length l.rest
