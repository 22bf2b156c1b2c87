use Rattle.std.proofs.Common.{arith, rules, refl, ◌∙◌}
use Rattle.cal_script.proofs.AnsweredLemmas.{place_rises, answered_start, answered_next, cut_off, broke_off}
use Rattle.cal_script.proofs.AnsweringLemmas.{rose_since, stopped_short, stopped_broken, stopped_same, stopped_by}
use Rattle.cal_script.proofs.EnteredLemmas.{entered_none, entered_next, front_so_far, front_stopped}
use Rattle.cal_script.proofs.frames.answer_frames.Goals as goal

pub take_turn-requires-clause-sound : goal.take_turn-requires-clause-sound
take_turn-requires-clause-sound g c κs bounds = (c.requires.sound.0, c.frames.invariant.sound c.requires.sound.0 c.requires.sound.1)

pub take_turn-requires-clause-stands : goal.take_turn-requires-clause-stands
take_turn-requires-clause-stands g c κs bounds =
    let far = c.frames.invariant.answered c.requires.stands.0 c.requires.stands.1 in
    (far.whole.after, far.whole.stands)

pub frames-init : goal.frames-init
frames-init g c = record {
  within = omega arith;
  answered = λ standing stands. answered_start _ _ standing _ _ stands;
  entered = λ standing stands. entered_none _ standing _ stands;
  sound = λ kept sound. sound;
  broken = refl;
  desk_count = omega arith;
  count = omega arith;
}

pub frames-smaller : goal.frames-smaller
frames-smaller g c =
    omega (
      arith,
      (place_rises c.frames.at c.args.octets.now _ c.in-Whole.rest.now _ c.behind.ensures c.frames.invariant.within c.in-Whole.ensures).0,
      (place_rises c.frames.at c.args.octets.now _ c.in-Whole.rest.now _ c.behind.ensures c.frames.invariant.within c.in-Whole.ensures).1,
    )

pub frames-preserved : goal.frames-preserved
frames-preserved g c = record {
  within = (place_rises c.frames.at c.args.octets.now _ c.in-Whole.rest.now _ c.behind.ensures c.frames.invariant.within c.in-Whole.ensures).1;
  answered = λ standing stands. answered_next _ c.frames.at c.args.octets.now _ c.in-Whole.rest.now _ standing _ _ _ _ _ c.behind.ensures (c.frames.invariant.answered standing stands) c.in-Whole.ensures c.in-Ok.ensures.turn;
  entered = λ standing stands.
      entered_next _ c.frames.at c.args.octets.now _ c.in-Whole.rest.now _ standing.streams _ _ _ _ _ c.behind.ensures c.frames.invariant.within (c.frames.invariant.entered standing stands) c.in-Whole.ensures
      c.in-Ok.ensures.turn c.in-Ok.ensures.entered;
  sound = λ kept sound. c.in-Ok.ensures.sound kept (c.frames.invariant.sound kept sound);
  broken = c.in-Ok.ensures.broken ∙ c.frames.invariant.broken;
  desk_count = omega (arith, c.in-Ok.ensures.desk_never_falls);
  count = omega (arith, c.in-Ok.ensures.never_falls);
}

pub returns-in-Bad-clause-entered : goal.returns-in-Bad-clause-entered
returns-in-Bad-clause-entered g c = λ standing stands. front_so_far _ c.frames.at c.args.octets.now standing.streams _ _ (c.frames.invariant.entered standing stands)

pub returns-in-Err-Unwritten-Output-clause-answered : goal.returns-in-Err-Unwritten-Output-clause-answered
returns-in-Err-Unwritten-Output-clause-answered g c = λ standing stands.
    cut_off _ c.frames.at c.args.octets.now _ c.in-Whole.rest.now _ standing _ _ _ _ c.behind.ensures (c.frames.invariant.answered standing stands) c.in-Whole.ensures
    (stopped_short c.in-Err-Unwritten-Output.field-0 _ _ _ c.in-Err-Unwritten-Output.field-0-is c.in-Err-Unwritten-Output.ensures.stopped)

pub returns-in-Err-Unwritten-Output-clause-entered : goal.returns-in-Err-Unwritten-Output-clause-entered
returns-in-Err-Unwritten-Output-clause-entered g c = λ standing stands.
    front_stopped _ c.frames.at c.args.octets.now _ c.in-Whole.rest.now _ standing.streams _ _ _ c.behind.ensures (c.frames.invariant.entered standing stands) c.in-Whole.ensures c.in-Err-Unwritten-Output.ensures.entered

pub returns-in-Err-Unwritten-Output-clause-fault : goal.returns-in-Err-Unwritten-Output-clause-fault
returns-in-Err-Unwritten-Output-clause-fault g c = λ _.
    rose_since _ _ _ c.frames.invariant.count c.in-Err-Unwritten-Output.ensures.never_falls (c.in-Err-Unwritten-Output.ensures.fault (search rules))

pub returns-in-Err-Unwritten-Output-clause-sound : goal.returns-in-Err-Unwritten-Output-clause-sound
returns-in-Err-Unwritten-Output-clause-sound g c = λ kept sound. c.in-Err-Unwritten-Output.ensures.sound kept (c.frames.invariant.sound kept sound)

pub returns-in-Err-Unwritten-Output-clause-broken : goal.returns-in-Err-Unwritten-Output-clause-broken
returns-in-Err-Unwritten-Output-clause-broken g c = stopped_same c.in-Err-Unwritten-Output.field-0 _ _ _ _ _ c.in-Err-Unwritten-Output.field-0-is c.in-Err-Unwritten-Output.ensures.broken ∙ c.frames.invariant.broken

pub returns-in-Err-Unwritten-NoMemory-clause-answered : goal.returns-in-Err-Unwritten-NoMemory-clause-answered
returns-in-Err-Unwritten-NoMemory-clause-answered g c = λ standing stands.
    cut_off _ c.frames.at c.args.octets.now _ c.in-Whole.rest.now _ standing _ _ _ _ c.behind.ensures (c.frames.invariant.answered standing stands) c.in-Whole.ensures
    (stopped_short c.in-Err-Unwritten-NoMemory.field-0 _ _ _ c.in-Err-Unwritten-NoMemory.field-0-is c.in-Err-Unwritten-NoMemory.ensures.stopped)

pub returns-in-Err-Unwritten-NoMemory-clause-entered : goal.returns-in-Err-Unwritten-NoMemory-clause-entered
returns-in-Err-Unwritten-NoMemory-clause-entered g c = λ standing stands.
    front_stopped _ c.frames.at c.args.octets.now _ c.in-Whole.rest.now _ standing.streams _ _ _ c.behind.ensures (c.frames.invariant.entered standing stands) c.in-Whole.ensures c.in-Err-Unwritten-NoMemory.ensures.entered

pub returns-in-Err-Unwritten-NoMemory-clause-sound : goal.returns-in-Err-Unwritten-NoMemory-clause-sound
returns-in-Err-Unwritten-NoMemory-clause-sound g c = λ kept sound. c.in-Err-Unwritten-NoMemory.ensures.sound kept (c.frames.invariant.sound kept sound)

pub returns-in-Err-Unwritten-NoMemory-clause-broken : goal.returns-in-Err-Unwritten-NoMemory-clause-broken
returns-in-Err-Unwritten-NoMemory-clause-broken g c = stopped_same c.in-Err-Unwritten-NoMemory.field-0 _ _ _ _ _ c.in-Err-Unwritten-NoMemory.field-0-is c.in-Err-Unwritten-NoMemory.ensures.broken ∙ c.frames.invariant.broken

pub returns-in-Err-Broken-clause-answered : goal.returns-in-Err-Broken-clause-answered
returns-in-Err-Broken-clause-answered g c = λ standing stands.
    broke_off _ c.frames.at c.args.octets.now _ c.in-Whole.rest.now _ standing _ _ _ _ c.behind.ensures (c.frames.invariant.answered standing stands) c.in-Whole.ensures
    (stopped_broken c.in-Err-Broken.field-0 _ _ _ c.in-Err-Broken.field-0-is c.in-Err-Broken.ensures.stopped)

pub returns-in-Err-Broken-clause-entered : goal.returns-in-Err-Broken-clause-entered
returns-in-Err-Broken-clause-entered g c = λ standing stands.
    front_stopped _ c.frames.at c.args.octets.now _ c.in-Whole.rest.now _ standing.streams _ _ _ c.behind.ensures (c.frames.invariant.entered standing stands) c.in-Whole.ensures c.in-Err-Broken.ensures.entered

pub returns-in-Err-Broken-clause-sound : goal.returns-in-Err-Broken-clause-sound
returns-in-Err-Broken-clause-sound g c = λ kept sound. c.in-Err-Broken.ensures.sound kept (c.frames.invariant.sound kept sound)

pub returns-in-Err-Broken-clause-broken : goal.returns-in-Err-Broken-clause-broken
returns-in-Err-Broken-clause-broken g c =
    let by = stopped_by c.in-Err-Broken.field-0 _ _ _ _ _ c.in-Err-Broken.field-0-is c.in-Err-Broken.ensures.broken in
    (by.0, λ unbroken. rose_since _ _ _ c.frames.invariant.desk_count c.in-Err-Broken.ensures.desk_never_falls (by.1 (c.frames.invariant.broken ∙ unbroken)))
