use Rattle.std.proofs.Common.{refl, inl}
use Rattle.cal_script.proofs.slots.expanded.Goals as goal

pub returns-in-Ok : goal.returns-in-Ok
returns-in-Ok g c = inl (record { expanded = c.in-Ok.expanded; same = c.in-Ok.ensures.ok; slot = refl })
