use Rattle.std.proofs.Common.{rules}
use Rattle.name_pages.proofs.PageLemmas.{first_page}
use Rattle.name_pages.proofs.map.NamePages.new.Goals as goal

pub invariant_of-result : goal.invariant_of-result
invariant_of-result g c = first_page c.in_ok-pages.pages c.in_ok-bound.bound c.in_ok-names.names (search rules) (search rules) (search rules)
