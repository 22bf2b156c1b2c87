use Rattle.std.proofs.Common.{◌≡◌, ◌-◌, List, [], ◌∙◌, All, arith, ap, sym, subst, take}
use Rattle.std.proofs.lemmas.List.{append-nil}
use Rattle.cal_model.specs.History.Claims.{Pair}
use Rattle.cal_script.specs.SlotTurns.{IsKeptOrHeld}
use Rattle.cal_script.specs.declared.slots.Slot.{Slot}
use Rattle.cal_script.proofs.ScriptLemmas.{gave_up, all_kept}
use Rattle.cal_script.proofs.slots.give_up_all.Goals as goal

pub giving-preserved : goal.giving-preserved
giving-preserved g c =
    let out : List Pair = (g.B.Desk.book c.giving.desk).work.out in
    record {
      out = λ kept held.
          subst (λ (pairs : List Pair). All (IsKeptOrHeld kept c.pop.new.self.items) pairs) (sym c.give_up.ensures.out)
          (gave_up kept c.pop.new.self.items c.in-Some.slot out (subst (λ (slots : List Slot). All (IsKeptOrHeld kept slots) out) c.in-Some.ensures.items (c.giving.invariant.out kept held)));
      journal = c.give_up.ensures.journal ∙ c.giving.invariant.journal;
      users = c.give_up.ensures.users ∙ c.giving.invariant.users;
      broken = c.give_up.ensures.broken ∙ c.giving.invariant.broken;
      count = omega (arith, c.give_up.ensures.never_falls);
    }

pub returns-clause-out : goal.returns-clause-out
returns-clause-out g c = λ kept held.
    let none : c.pop.new.self.items ≡ [] = c.in_default.ensures.rest ∙ ap (λ n. take (n - 1) c.giving.slots.items) c.in_default.ensures.cases.0 in
    let empty : c.giving.slots.items ≡ [] = c.in_default.ensures.items ∙ (append-nil c.pop.new.self.items ∙ none) in
    all_kept kept (g.B.Desk.book c.giving.desk).work.out (subst (λ (slots : List Slot). All (IsKeptOrHeld kept slots) (g.B.Desk.book c.giving.desk).work.out) empty (c.giving.invariant.out kept held))
