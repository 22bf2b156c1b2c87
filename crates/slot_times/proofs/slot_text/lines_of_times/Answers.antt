use Rattle.std.proofs.lemmas.List.{nil_from_length}
use Rattle.std.proofs.lemmas.List.Elements.{All-head, All-tail}
use Rattle.slot_times.specs.SlotCalendars.{IsWritable}
use Rattle.slot_times.proofs.SlotTexts.{line_next, lines_end}
use Rattle.slot_times.proofs.slot_text.lines_of_times.Goals as goal

pub put_time-requires : goal.put_time-requires
put_time-requires c = All-head IsWritable c.in-Some.time.now c.in-Some.behind.now (rw c.in-Some.ensures.cases.0 at c.times.invariant.left)

pub times-preserved : goal.times-preserved
times-preserved c =
    let first = c.in-Some.ensures.cases.0 in
    record {
      made = line_next c.times.text c.put_time.new.text _ c.in-Some.time.now c.in-Some.behind.now c.in_ok-put_time.ensures (rw first at c.times.invariant.made);
      left = All-tail IsWritable c.in-Some.time.now c.in-Some.behind.now (rw first at c.times.invariant.left);
    }

pub returns : goal.returns
returns c = lines_end c.times.text c.times.rest.now _ (nil_from_length c.times.rest.now c.in_default.ensures.cases) c.times.invariant.made
