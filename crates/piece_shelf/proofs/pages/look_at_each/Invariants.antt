use Rattle.std.proofs.Common.{◌≡◌, take}
use Rattle.piece_shelf.proofs.pages.look_at_each.Given as goal

-- what was looked at
abbrev pub invariant-pages : goal.invariant-pages
invariant-pages l = l.looks.items ≡ take l.page-index l.pages
