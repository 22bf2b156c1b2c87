use Rattle.std.proofs.Common.{◌≡◌, drop}
use Rattle.cal_base.specs.Lists.NameMap.{next_above}
use Rattle.name_pages.specs.Pages.{pairs_of}
use Rattle.name_pages.proofs.pages.first_above.Given as goal

-- no page that was passed has a name above the name
abbrev pub invariant-pages : goal.invariant-pages
invariant-pages g l = next_above (pairs_of l.pages) l.name ≡ next_above (pairs_of (drop l.page-index l.pages)) l.name
