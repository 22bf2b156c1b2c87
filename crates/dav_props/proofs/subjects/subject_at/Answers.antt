use Rattle.std.proofs.Common.{sym, ap, subst, ◌∙◌}
use Rattle.cal_model.specs.declared.path.Path.{Path}
use Rattle.cal_model.specs.declared.path.Path.TheVariants.{Principal, Home}
use Rattle.dav_props.proofs.SeenLemmas.{root_seen, home_seen}
use Rattle.dav_props.specs.Subjects.{IsSeenAs}
use Rattle.dav_props.proofs.subjects.subject_at.Goals as goal

pub returns-in-Root-clause-some : goal.returns-in-Root-clause-some
returns-in-Root-clause-some g c = root_seen (g.V.View.directory c.args.seen.now.view.now) (g.V.View.state c.args.seen.now.view.now) c.args.seen.now.who c.args.path.now c.in-Root.is

pub returns-in-Principal-clause-some : goal.returns-in-Principal-clause-some
returns-in-Principal-clause-some g c =
    subst (λ (path : Path). IsSeenAs (g.V.View.directory c.args.seen.now.view.now) (g.V.View.state c.args.seen.now.view.now) c.args.seen.now.who path c.principal_at.result)
    (sym (c.in-Principal.is ∙ ap Principal (sym c.as_slice.ensures))) c.principal_at.ensures

pub returns-in-Home-clause-some : goal.returns-in-Home-clause-some
returns-in-Home-clause-some g c =
    home_seen (g.V.View.directory c.args.seen.now.view.now) (g.V.View.state c.args.seen.now.view.now) c.args.seen.now.who c.args.path.now c.as_slice-in-Home.result
    (c.in-Home.is ∙ ap Home (sym c.as_slice-in-Home.ensures))
