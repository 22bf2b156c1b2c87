use Rattle.std.proofs.Common.{◌≡◌, length}
use Rattle.cal_model.specs.Streams.HeadFields.{names_close}
use Rattle.http_wire.proofs.fields.names_close.Given as goal

abbrev pub invariant-options : goal.invariant-options
invariant-options l = names_close l.rest ≡ names_close l.value

abbrev pub decreases-options : goal.decreases-options
decreases-options l = length l.rest
