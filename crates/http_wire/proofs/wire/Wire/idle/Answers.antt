use Rattle.std.proofs.Common.{rules, false}
use Rattle.http_wire.proofs.WireLaws.{idle_reads}
use Rattle.http_wire.proofs.wire.Wire.idle.Goals as goal

pub returns-in-Head : goal.returns-in-Head
returns-in-Head c octets stands = idle_reads octets c.args.self.now c.is_idle.result stands (search rules)

pub returns-in_default : goal.returns-in_default
returns-in_default c octets stands = idle_reads octets c.args.self.now false stands (search rules)
