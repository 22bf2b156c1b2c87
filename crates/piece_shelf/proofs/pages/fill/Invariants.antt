use Rattle.std.proofs.Common.{◌≡◌, ℕ, ◌+◌, ◌-◌, []}
use Rattle.std.specs.Prelude.{slice_index_or, vec_len}
use Rattle.piece_shelf.proofs.pages.fill.Given as goal

abbrev pub invariant-pages : goal.invariant-pages
invariant-pages l = (k : ℕ) → slice_index_or l.pages.items k [] ≡ slice_index_or l.fn.pages.items k []

abbrev pub decreases-pages : goal.decreases-pages
decreases-pages l = (l.at + 1) - vec_len l.pages
