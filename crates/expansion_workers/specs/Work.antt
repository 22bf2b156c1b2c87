-- What a worker's turns are and count, and what a pass knows between them.
use Rattle.std.specs.Prelude.{◌≡◌, ℕ, ◌+◌, Option, Some, None}
use Rattle.cal_book.specs.declared.claims.Publish.{Publish}
use Rattle.cal_book.specs.declared.claims.Publish.TheVariants.{Published, Stale, NoMemory}
use Rattle.expansion_workers.specs.declared.worker.Worked.{Worked}
use Rattle.expansion_workers.specs.declared.worker.Turn.{Turn}
use Rattle.expansion_workers.specs.declared.worker.Turn.TheVariants as turn

-- what was published was found too late: the object is gone by then
abbrev pub IfStale : Publish → Type 0 → Type 0
IfStale (Stale now) fact = fact
IfStale other fact = Unit {0}

-- each claim was published, came too late, or was given up for want of memory
abbrev pub IsCounted : Worked → Type 0
IsCounted worked = worked.claimed ≡ worked.published + worked.stale + worked.refused

-- one turn came too late, or did not
abbrev pub stale_of : Turn → ℕ
stale_of turn.Stale = 1
stale_of other = 0

abbrev pub stale_in : Option Turn → ℕ
stale_in None = 0
stale_in (Some turn) = stale_of turn
