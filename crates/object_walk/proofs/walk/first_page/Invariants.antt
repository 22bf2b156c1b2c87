use Rattle.std.proofs.Common.{◌≡◌, length}
use Rattle.name_pages.specs.Pages.{pairs_of}
use Rattle.object_walk.proofs.walk.first_page.Given as goal

-- the pages that were passed have no pairs
abbrev pub invariant-pages : goal.invariant-pages
invariant-pages l = pairs_of l.pages ≡ pairs_of l.behind

abbrev pub decreases-pages : goal.decreases-pages
decreases-pages l = length l.behind
