use Rattle.cal_session.proofs.LoadLaws.{keeps_whole, loaded_as_filled, falls_as_filled}
use Rattle.cal_session.proofs.loading.load_under.Goals as goal

pub loading_end-requires : goal.loading_end-requires
loading_end-requires g c = keeps_whole g.D.Disk.past g.D.Disk.faults _ c.args.disk c.fill-filled.new.book c.fill-filled.result c.fill-filled.ensures.loaded

pub returns-in-Ok-clause-loaded : goal.returns-in-Ok-clause-loaded
returns-in-Ok-clause-loaded g c =
    loaded_as_filled g.D.Disk.past g.D.Disk.faults c.args.users _ c.args.disk c.fill-filled.new.book c.fill-filled.result c.loading_end.result c.deref.ensures c.loading_end.ensures c.fill-filled.ensures.loaded

pub returns-in-Ok-clause-never_falls : goal.returns-in-Ok-clause-never_falls
returns-in-Ok-clause-never_falls g c =
    falls_as_filled g.D.Disk.faults c.args.disk c.fill-filled.new.book c.fill-filled.result c.loading_end.result c.loading_end.ensures c.fill-filled.ensures.never_falls
