use Rattle.std.proofs.Common.{◌≡◌, List, ◌∙◌, sym, subst}
use Rattle.std.specs.Prelude.{All, IfOk}
use Rattle.cal_model.specs.declared.row.Range.{Range}
use Rattle.slot_times.specs.SlotCalendars.{IsWritable}
use Rattle.slot_times.specs.SlotTimes.{times_text}
use Rattle.slot_times.proofs.SlotRuns.{writable}
use Rattle.slot_times.proofs.slot_view.written_times.Goals as goal

pub text_of_times-requires : goal.text_of_times-requires
text_of_times-requires g c =
    let question = c.args.question.now in
    subst (All IsWritable) (sym (c.as_slice.ensures ∙ c.in_ok-times.ensures))
    (writable (g.V.View.state c.args.seen.now.view.now) c.args.calendars.now question.range _ question.most (c.requires.served.0, c.requires.served.1))

pub returns : goal.returns
returns g c =
    subst (λ (times : List Range). IfOk c.text_of_times.result (λ text. text ≡ times_text times)) (c.as_slice.ensures ∙ c.in_ok-times.ensures) c.text_of_times.ensures
