use Rattle.std.proofs.Common.{◌≡◌, ℕ, List, ◌++◌, map, take}
use Rattle.std.specs.Borrow.{Bor}
use Rattle.dav_reports.specs.AskedProperties.{named_in}
use Rattle.dav_reports.proofs.names.put_names.Given as goal

-- so many names are put
abbrev pub invariant-names : goal.invariant-names
invariant-names l = l.out ≡ l.initial.out ++ map (λ (name : Bor (List ℕ)). named_in l.space name.now) (take l.name-index l.names)
