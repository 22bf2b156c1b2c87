use Rattle.std.proofs.Common.{◌≡◌, ℕ, List, Bor, map, drop}
use Rattle.dav_body.specs.Endings.{any_ends}
use Rattle.dav_body.proofs.markup.is_ended_by_any.Given as goal

-- the endings to come decide as all do
abbrev pub invariant-endings : goal.invariant-endings
invariant-endings l = any_ends l.text (map (λ (ending : Bor (List ℕ)). ending.now) (drop l.ending-index l.endings)) ≡ any_ends l.text (map (λ (ending : Bor (List ℕ)). ending.now) l.endings)
