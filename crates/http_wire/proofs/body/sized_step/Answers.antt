use Rattle.std.proofs.Common.{arith, ap}
use Rattle.cal_model.specs.Streams.Chunks.{with_front}
use Rattle.http_wire.proofs.BodySteps.{sized_goes_on, sized_cut}
use Rattle.http_wire.proofs.body.sized_step.Goals as goal

pub returns-then-octets-left : goal.returns-then-octets-left
returns-then-octets-left c = (
  omega arith,
  ap (with_front c.args.body.now) (sized_cut c.args.left c.args.octets.now c.if-octets-left.true),
  λ more. rw c.in-Ok.ensures.ok (sized_goes_on c.args.left c.args.body.now c.args.octets.now more c.if-octets-left.true),
)
