use Rattle.std.proofs.Common.{arith, subst, sym, ap, ◌∙◌, refl, length, length-drop, Err}
use Rattle.std.proofs.lemmas.Grind.{common_steps}
use Rattle.cal_book.specs.Cores.{state_in}
use Rattle.cal_script.specs.FrameHeads.{IsFrameStart}
use Rattle.cal_script.specs.ScriptEnds.{RunTold, run_told}
use Rattle.cal_script.proofs.AnsweringLemmas.{rose_since}
use Rattle.cal_script.proofs.EnteredLemmas.{run_enters_none, run_enters_more, run_enters_on, run_entered, run_entered_last, run_entered_none}
use Rattle.cal_script.proofs.RunLemmas.{come_start, come_more, come_cut, bounded_next, start_of_none, at_end, bad_behind, stopped_reading, wrote_cut, wrote_before, wrote_none, broke_here}
use Rattle.cal_script.proofs.running.run_counted.Goals as goal

pub returns-in_default-clause-ended : goal.returns-in_default-clause-ended
returns-in_default-clause-ended g c = wrote_none _ _ (g.I.Source.left c.args.input.now) (g.O.Sink.written c.args.output.now)

pub returns-in_default-clause-entered : goal.returns-in_default-clause-entered
returns-in_default-clause-entered g c = run_entered_none _ _ _

pub reading-init : goal.reading-init
reading-init g c = record {
  come = come_start _ _ (g.I.Source.left c.args.input.now) (g.O.Sink.written c.args.output.now) _ _ c.new-kept.ensures c.requires.stands;
  entered = run_enters_none _ (state_in (g.B.Desk.book c.args.desk.now)) _ _ _ c.new-kept.ensures c.requires.stands;
  sound = λ kept sound. sound;
  start = subst IsFrameStart (sym c.new-kept.ensures) start_of_none;
  bounded = λ some. absurd (omega (arith, some, ap length c.new-kept.ensures));
  room = c.in-Ok.ensures;
  broken = refl;
  desk_count = omega arith;
  input_count = omega arith;
  output_count = omega arith;
}

pub answer_frames-requires-clause-sound : goal.answer_frames-requires-clause-sound
answer_frames-requires-clause-sound g c κs bounds = (c.requires.sound.0, c.reading.invariant.sound c.requires.sound.0 c.requires.sound.1)

pub answer_frames-requires-clause-stands : goal.answer_frames-requires-clause-stands
answer_frames-requires-clause-stands g c κs bounds = (c.reading.invariant.come.answered.after, c.reading.invariant.come.answered.stands)

pub returns-in-Ok-eq0-clause-ended : goal.returns-in-Ok-eq0-clause-ended
returns-in-Ok-eq0-clause-ended g c =
    let told : RunTold = run_told g.I.Source g.O.Sink c.args.input.now c.reading.input c.args.output.now c.reading.output in
    at_end _ _ c.is_empty.result c.end_at.result told _ _ _ _ (g.I.Source.left c.take_piece.new.input) c.reading.invariant.come c.reading.invariant.start c.in-Ok-eq0.ensures.goes
    (c.in-Ok-eq0.ensures.at_end c.in-Ok-eq0.field-0-test) c.is_empty.ensures c.end_at.ensures

pub returns-in-Err-Input-clause-ended : goal.returns-in-Err-Input-clause-ended
returns-in-Err-Input-clause-ended g c =
    let told : RunTold = run_told g.I.Source g.O.Sink c.args.input.now c.reading.input c.args.output.now c.reading.output in
    stopped_reading _ _ told _ _ _ (g.I.Source.left c.take_piece.new.input) c.reading.invariant.come c.reading.invariant.start
    (c.take_piece.ensures.nothing_read (c.in-Err-Input.is ∙ ap (λ why. Err why) c.in-Err-Input.field-0-is))

pub returns-in-Err-NoMemory-clause-ended : goal.returns-in-Err-NoMemory-clause-ended
returns-in-Err-NoMemory-clause-ended g c =
    let told : RunTold = run_told g.I.Source g.O.Sink c.args.input.now c.reading.input c.args.output.now c.reading.output in
    wrote_before _ _ told _ _ _ (g.I.Source.left c.take_piece.new.input) c.reading.invariant.come

pub returns-in-Ok-eq0-clause-entered : goal.returns-in-Ok-eq0-clause-entered
returns-in-Ok-eq0-clause-entered g c = run_entered _ _ _ _ _ _ c.reading.invariant.entered

pub returns-in-Err-Input-clause-entered : goal.returns-in-Err-Input-clause-entered
returns-in-Err-Input-clause-entered g c = run_entered _ _ _ _ _ _ c.reading.invariant.entered

pub returns-in-Err-NoMemory-clause-entered : goal.returns-in-Err-NoMemory-clause-entered
returns-in-Err-NoMemory-clause-entered g c = run_entered _ _ _ _ _ _ c.reading.invariant.entered

pub reading-preserved : goal.reading-preserved
reading-preserved g c =
    let told : RunTold = run_told g.I.Source g.O.Sink c.args.input.now c.reading.input c.args.output.now c.reading.output in
    let taken : RunTold = record told { left_after = g.I.Source.left c.take_piece.new.input } in
    let more = come_more _ _ told _ _ _ _ (g.I.Source.left c.take_piece.new.input) c.reading.invariant.come c.in-Ok-take_piece.ensures.goes in
    let cut = come_cut _ _ c.in-Cut.len _ _ taken _ _ _ _ (g.O.Sink.written c.answer_frames.new.output) c.as_slice.ensures c.behind_front-kept.ensures more c.in-Cut.ensures.answered in
    record {
      come = cut.0;
      entered = run_enters_on _ c.in-Cut.len _ _ _ _ _ _ _ _ c.as_slice.ensures c.behind_front-kept.ensures
          (run_enters_more _ _ _ _ _ _ _ _ c.reading.invariant.entered c.in-Ok-take_piece.ensures.goes) c.in-Cut.ensures.entered;
      sound = λ kept sound. c.in-Cut.ensures.sound kept (c.reading.invariant.sound kept sound);
      start = cut.1;
      bounded = bounded_next c.reading.place c.in-Cut.len _ _ _ _ _ _ c.reading.invariant.bounded c.in-Ok-take_piece.ensures.longer c.in-Ok-take_piece.ensures.allowed
          c.in-Ok-take_piece.ensures.bounded (ap length c.behind_front-kept.ensures ∙ length-drop c.in-Cut.len c.take_piece.new.kept) cut.2;
      room = grind (arith, common_steps);
      broken = c.in-Cut.ensures.broken ∙ c.reading.invariant.broken;
      desk_count = omega (arith, c.in-Cut.ensures.desk_never_falls);
      input_count = omega (arith, c.in-Ok-take_piece.ensures.never_falls);
      output_count = omega (arith, c.in-Cut.ensures.never_falls);
    }

pub returns-in-Bad-clause-ended : goal.returns-in-Bad-clause-ended
returns-in-Bad-clause-ended g c =
    let told : RunTold = run_told g.I.Source g.O.Sink c.args.input.now c.reading.input c.args.output.now c.reading.output in
    let taken : RunTold = record told { left_after = g.I.Source.left c.take_piece.new.input } in
    bad_behind _ _ c.in-Bad.len _ taken _ _ _ _ (g.O.Sink.written c.answer_frames.new.output) c.as_slice.ensures
    (come_more _ _ told _ _ _ _ (g.I.Source.left c.take_piece.new.input) c.reading.invariant.come c.in-Ok-take_piece.ensures.goes) c.in-Bad.ensures.answered

pub returns-in-OutputFault-clause-ended : goal.returns-in-OutputFault-clause-ended
returns-in-OutputFault-clause-ended g c =
    let told : RunTold = run_told g.I.Source g.O.Sink c.args.input.now c.reading.input c.args.output.now c.reading.output in
    let taken : RunTold = record told { left_after = g.I.Source.left c.take_piece.new.input } in
    wrote_cut _ _ _ taken _ _ _ (g.O.Sink.written c.answer_frames.new.output) c.as_slice.ensures (come_more _ _ told _ _ _ _ (g.I.Source.left c.take_piece.new.input) c.reading.invariant.come c.in-Ok-take_piece.ensures.goes) c.in-OutputFault.ensures.answered

pub returns-in-NoMemory-clause-ended : goal.returns-in-NoMemory-clause-ended
returns-in-NoMemory-clause-ended g c =
    let told : RunTold = run_told g.I.Source g.O.Sink c.args.input.now c.reading.input c.args.output.now c.reading.output in
    let taken : RunTold = record told { left_after = g.I.Source.left c.take_piece.new.input } in
    wrote_cut _ _ _ taken _ _ _ (g.O.Sink.written c.answer_frames.new.output) c.as_slice.ensures (come_more _ _ told _ _ _ _ (g.I.Source.left c.take_piece.new.input) c.reading.invariant.come c.in-Ok-take_piece.ensures.goes) c.in-NoMemory.ensures.answered

pub returns-in-Broken-clause-ended : goal.returns-in-Broken-clause-ended
returns-in-Broken-clause-ended g c =
    let told : RunTold = run_told g.I.Source g.O.Sink c.args.input.now c.reading.input c.args.output.now c.reading.output in
    let taken : RunTold = record told { left_after = g.I.Source.left c.take_piece.new.input } in
    broke_here _ _ _ taken _ _ _ (g.O.Sink.written c.answer_frames.new.output) c.as_slice.ensures (come_more _ _ told _ _ _ _ (g.I.Source.left c.take_piece.new.input) c.reading.invariant.come c.in-Ok-take_piece.ensures.goes) c.in-Broken.ensures.answered

pub returns-in-Bad-clause-entered : goal.returns-in-Bad-clause-entered
returns-in-Bad-clause-entered g c =
    run_entered_last _ _ _ _ _ _ _ _ c.as_slice.ensures
    (run_enters_more _ _ _ _ _ _ _ _ c.reading.invariant.entered c.in-Ok-take_piece.ensures.goes) c.in-Bad.ensures.entered

pub returns-in-OutputFault-clause-entered : goal.returns-in-OutputFault-clause-entered
returns-in-OutputFault-clause-entered g c =
    run_entered_last _ _ _ _ _ _ _ _ c.as_slice.ensures
    (run_enters_more _ _ _ _ _ _ _ _ c.reading.invariant.entered c.in-Ok-take_piece.ensures.goes) c.in-OutputFault.ensures.entered

pub returns-in-NoMemory-clause-entered : goal.returns-in-NoMemory-clause-entered
returns-in-NoMemory-clause-entered g c =
    run_entered_last _ _ _ _ _ _ _ _ c.as_slice.ensures
    (run_enters_more _ _ _ _ _ _ _ _ c.reading.invariant.entered c.in-Ok-take_piece.ensures.goes) c.in-NoMemory.ensures.entered

pub returns-in-Broken-clause-entered : goal.returns-in-Broken-clause-entered
returns-in-Broken-clause-entered g c =
    run_entered_last _ _ _ _ _ _ _ _ c.as_slice.ensures
    (run_enters_more _ _ _ _ _ _ _ _ c.reading.invariant.entered c.in-Ok-take_piece.ensures.goes) c.in-Broken.ensures.entered

pub returns-in-Bad-clause-sound : goal.returns-in-Bad-clause-sound
returns-in-Bad-clause-sound g c = λ kept sound. c.in-Bad.ensures.sound kept (c.reading.invariant.sound kept sound)

pub returns-in-OutputFault-clause-sound : goal.returns-in-OutputFault-clause-sound
returns-in-OutputFault-clause-sound g c = λ kept sound. c.in-OutputFault.ensures.sound kept (c.reading.invariant.sound kept sound)

pub returns-in-NoMemory-clause-sound : goal.returns-in-NoMemory-clause-sound
returns-in-NoMemory-clause-sound g c = λ kept sound. c.in-NoMemory.ensures.sound kept (c.reading.invariant.sound kept sound)

pub returns-in-Broken-clause-sound : goal.returns-in-Broken-clause-sound
returns-in-Broken-clause-sound g c = λ kept sound. c.in-Broken.ensures.sound kept (c.reading.invariant.sound kept sound)

pub returns-in-Broken-clause-broken : goal.returns-in-Broken-clause-broken
returns-in-Broken-clause-broken g c =
    (c.in-Broken.ensures.broken.0, λ unbroken. rose_since _ _ _ c.reading.invariant.desk_count c.in-Broken.ensures.desk_never_falls (c.in-Broken.ensures.broken.1 (c.reading.invariant.broken ∙ unbroken)))
