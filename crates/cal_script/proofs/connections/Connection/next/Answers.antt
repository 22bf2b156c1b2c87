use Rattle.std.proofs.Common.{refl, sym, ◌∙◌}
use Rattle.cal_script.proofs.ReadingLemmas.{due_closed, due_last, due_request, due_short, due_nothing, due_fault}
use Rattle.cal_script.proofs.connections.Connection.next.Goals as goal
use Rattle.cal_script.proofs.connections.Connection.next.Goals.{then-closes_after, else-closes_after}

pub returns-then-self-clause-due : goal.returns-then-self-clause-due
returns-then-self-clause-due c = λ stream given reading. due_closed stream given c.args.self.now c.if-self.true reading

pub returns-after-closes_after-clause-due : goal.returns-after-closes_after-clause-due
returns-after-closes_after-clause-due c = λ stream given reading. elim c.if-closes_after.branch [
  | then-closes_after w ↦ rw w.self-is (due_last stream given c.args.self.now _ c.in-Request.request c.if-self.false refl (sym c.closes_after.ensures ∙ w.if-closes_after.true) c.in-Request.ensures reading)
  | else-closes_after w ↦ rw w.self-is (due_request stream given c.args.self.now _ c.in-Request.request c.if-self.false refl refl (sym c.closes_after.ensures ∙ w.if-closes_after.false) c.in-Request.ensures reading)
]

pub returns-after-closes_after-clause-short : goal.returns-after-closes_after-clause-short
returns-after-closes_after-clause-short c = λ stream given reading. due_short stream given c.args.self.now c.next.new.self c.in-Request.request c.if-self.false c.in-Request.ensures reading

pub returns-in-Need-clause-due : goal.returns-in-Need-clause-due
returns-in-Need-clause-due c = λ stream given reading. due_nothing stream given c.args.self.now _ c.if-self.false refl refl c.in-Need.ensures reading

pub returns-in-Fault-clause-due : goal.returns-in-Fault-clause-due
returns-in-Fault-clause-due c = λ stream given reading. due_fault stream given c.args.self.now _ c.in-Fault.why c.if-self.false refl c.in-Fault.ensures reading
