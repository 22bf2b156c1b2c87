use Rattle.std.proofs.Common.{ℕ, List, take}
use Rattle.std.specs.Prelude.{flat_map}
use Rattle.cal_model.specs.Sight.Resources.{Resource}
use Rattle.multistatus.specs.Answered.{IsAnswered}
use Rattle.dav_reports.specs.AskedProperties.{said_of}
use Rattle.dav_reports.specs.ShownObjects.{IsShown, asker_of}
use Rattle.dav_reports.proofs.shown_response.push_named.Given as goal

-- so many names are answered
abbrev pub invariant-names : goal.invariant-names
invariant-names g l = (shown : List ℕ → List ℕ) (resource : Resource) → IsShown (g.V.View.directory l.seen.view.now) (g.V.View.state l.seen.view.now) l.seen.who l.path l.text shown resource
    → IsAnswered l.fn.out l.href (flat_map (said_of l.props (asker_of (g.V.View.directory l.seen.view.now) l.seen.who shown) resource) (take l.name-index l.names)) l.response l.out
