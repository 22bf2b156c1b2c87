use Rattle.cal_model.specs.Bodies.DataElements.{comp_pick_to}
use Rattle.dav_elements.proofs.DepthLemmas.{at_depth_zero}
use Rattle.dav_elements.proofs.picks.+comp_picks.Goals as goal

pub read_comp_pick_to-returns-then-depth-eq0 : goal.read_comp_pick_to-returns-then-depth-eq0
read_comp_pick_to-returns-then-depth-eq0 t c = at_depth_zero comp_pick_to c.no_comp_pick.result c.args.depth c.args.element.now c.if-depth-eq0.true c.no_comp_pick.ensures
