use Rattle.std.proofs.Common.{ℕ, slice_get, sym, subst}
use Rattle.journal_migration.specs.Carrying.{remade_by, IsRemade}
use Rattle.journal_migration.specs.declared.asking.Remade.{Remade}
use Rattle.journal_migration.proofs.RemadeLaws.{remade_is}
use Rattle.journal_migration.proofs.asking.ask_again.Goals as goal

pub returns-else-busy-clause-remade : goal.returns-else-busy-clause-remade
returns-else-busy-clause-remade g c =
    let old = c.args.book.now in
    let new = c.request-reply.new.self in
    let at_end = remade_is old new c.args.event.now c.requires.asks.0 c.requires.asks.1 (c.request-reply.ensures.work c.if-busy.false) c.args.status in
    subst (λ (end : Remade). IsRemade old c.args.event.now c.args.status new end) (sym c.remade_at.ensures)
    (subst (λ (at : ℕ). IsRemade old c.args.event.now c.args.status new (remade_by (slice_get new.work.journal at) c.args.status)) (sym c.entries-before.ensures.entries) at_end)
