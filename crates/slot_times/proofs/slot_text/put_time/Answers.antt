use Rattle.std.proofs.Common.{ℕ, List, ◌++◌, ◌∙◌, ap}
use Rattle.std.proofs.lemmas.Result.{on_ok_weaker}
use Rattle.slot_times.proofs.SlotTexts.{line_joined}
use Rattle.slot_times.proofs.slot_text.put_time.Goals as goal

pub returns : goal.returns
returns c =
    let first = c.in_ok-extend_from_slice.ensures.ok in
    let second = c.in_ok-extend_from_slice-2.ensures.ok ∙ ap (λ (xs : List ℕ). c.extend_from_slice.new.self ++ xs) c.write_utc.ensures.text in
    let third = c.in_ok-extend_from_slice-3.ensures.ok in
    let fourth = c.in_ok-extend_from_slice-4.ensures.ok ∙ ap (λ (xs : List ℕ). c.extend_from_slice-3.new.self ++ xs) c.write_utc-2.ensures.text in
    on_ok_weaker c.extend_from_slice-5.result
    (λ last. line_joined c.args.text.now c.extend_from_slice.new.self c.extend_from_slice-2.new.self c.extend_from_slice-3.new.self c.extend_from_slice-4.new.self c.extend_from_slice-5.new.self
    c.args.time first second third fourth last)
    c.extend_from_slice-5.ensures.ok
