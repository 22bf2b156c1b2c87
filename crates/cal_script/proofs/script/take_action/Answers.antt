use Rattle.std.proofs.Common.{arith, refl, sym}
use Rattle.cal_script.specs.Standings.{running}
use Rattle.cal_script.proofs.ScriptLemmas.{turn_journal, sound_turned, stands_turned}
use Rattle.cal_script.proofs.script.take_action.Goals as goal

pub returns-clause-stands : goal.returns-clause-stands
returns-clause-stands g c = λ standing stands.
    stands_turned standing (running (g.B.Desk.book c.args.desk.now) c.args.script.now) _ c.args.action c.index_mut-slot.result.now c.act.new.slot stands c.act.ensures.turn c.act.ensures.users refl

pub returns-clause-journal : goal.returns-clause-journal
returns-clause-journal g c = turn_journal c.args.action c.index_mut-slot.result.now _ c.act.new.slot _ c.act.ensures.turn

pub returns-clause-sound : goal.returns-clause-sound
returns-clause-sound g c = λ kept sound.
    sound_turned c.args.users.now kept (running (g.B.Desk.book c.args.desk.now) c.args.script.now) _ c.args.action c.args.slot c.index_mut-slot.result.now c.act.new.slot sound (omega (arith, c.requires.bounds, sound.slots))
    (sym c.index_mut-slot.ensures.value) c.act.ensures.turn c.act.ensures.users refl refl
