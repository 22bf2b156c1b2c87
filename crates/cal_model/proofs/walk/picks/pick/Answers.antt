use Rattle.std.proofs.Common.{◌+◌, ◌∙◌, ap, arith}
use Rattle.cal_model.specs.Words.Integers.{some_names_place}
use Rattle.cal_model.specs.Walks.KeptMoments.{moments_of}
use Rattle.cal_model.proofs.Walks.PickLemmas.{picked_step}
use Rattle.cal_model.proofs.walk.picks.pick.Goals as goal

pub loop-k-preserved : goal.loop-k-preserved
loop-k-preserved c =
    let size = c.len-size.ensures in
    record {
      picked = picked_step c.args.rule.now c.args.found.now (moments_of c.loop-k.out) (moments_of c.push_if.new.out) (moments_of c.args.out.now) c.loop-k.k c.index-m.result.now c.names-is_picked.result
          c.requires.rises c.requires.one (omega arith) c.index-m.ensures
          (c.names-is_picked.ensures c.args.rule.now.by_set_pos c.requires.places ∙ ap (λ n. some_names_place c.args.rule.now.by_set_pos (c.loop-k.k + 1) n) size)
          c.loop-k.invariant.picked c.in_ok-push_if.ensures.picked;
      written = λ all. c.in_ok-push_if.ensures.written (c.loop-k.invariant.written all);
    }
