use Rattle.std.proofs.Common.{◌≡◌, ◌==◌, ℕ, List, [], ◌∷◌, ◌++◌, ap, sym, ◌∙◌}
use Rattle.std.specs.Prelude.{bytes_eq}
use Rattle.std.specs.List.{list_any}
use Rattle.std.specs.Borrow.{Bor}
use Rattle.std.proofs.lemmas.List.{map-append, length-map}
use Rattle.ical_objects.proofs.Printed.{OnOk-then}
use Rattle.cal_base.specs.Lists.NameMap.{value_at, with_value}
use Rattle.cal_model.specs.declared.selection.CompPick.{CompPick}
use Rattle.cal_model.specs.Words.Lists.{is_empty}
use Rattle.expand_limit.specs.NamedPicks.{asked_at}
use Rattle.expand_limit.proofs.PickLemmas.{held, group-next, grown, covered-next}
use Rattle.expand_limit.proofs.picks.add_comp.Goals as goal
use Rattle.expand_limit.proofs.picks.add_comp.Goals.{then-is_empty+in_ok-of+in_ok-push, else-is_empty}

pub returns-clause-groups : goal.returns-clause-groups
returns-clause-groups c = OnOk-then c.insert.result (λ same name.
    let old = c.args.groups.now in
    let key = c.as_slice-name.result.now in
    let comp = c.args.comp.now in
    let taken = c.take_group-group.new.groups in
    let after = c.push-2.new.self in
    let asked : held after ≡ asked_at (value_at old key) ++ comp ∷ [] =
    ap held c.in_ok-push-2.ensures.ok ∙ map-append (λ (b : Bor CompPick). b.now) c.take_group-group.result (c.args.comp ∷ []) ∙ ap (λ those. those ++ comp ∷ []) c.take_group-group.ensures.group in
    ap (λ named. asked_at (value_at named name)) same ∙ ap (λ k. asked_at (value_at (with_value taken k after) name)) c.in_ok-key.ensures
    ∙ group-next old taken key after comp name c.as_slice-name.ensures.octets asked c.take_group-group.ensures.others) c.insert.ensures.ok

pub returns-clause-names : goal.returns-clause-names
returns-clause-names c = OnOk-then c.insert.result (λ same covered name.
    let old = c.args.groups.now in
    let key = c.as_slice-name.result.now in
    let comp = c.args.comp.now in
    let names = c.args.names.now in
    let taken = c.take_group-group.new.groups in
    let after = c.push-2.new.self in
    let asked : held after ≡ asked_at (value_at old key) ++ comp ∷ [] =
    ap held c.in_ok-push-2.ensures.ok ∙ map-append (λ (b : Bor CompPick). b.now) c.take_group-group.result (c.args.comp ∷ []) ∙ ap (λ those. those ++ comp ∷ []) c.take_group-group.ensures.group in
    let groups = λ (n : List ℕ). ap (λ named. asked_at (value_at named n)) same ∙ ap (λ k. asked_at (value_at (with_value taken k after) n)) c.in_ok-key.ensures
    ∙ group-next old taken key after comp n c.as_slice-name.ensures.octets asked c.take_group-group.ensures.others in
    let new : c.is_empty.result ≡ is_empty (asked_at (value_at old key)) =
    c.is_empty.ensures ∙ ap (λ k. k == 0) (sym (length-map c.take_group-group.result (λ (b : Bor CompPick). b.now))) ∙ ap is_empty c.take_group-group.ensures.group in
    let now : c.if-is_empty.names ≡ grown (is_empty (asked_at (value_at old key))) names key = elim c.if-is_empty.branch [
      | then-is_empty+in_ok-of+in_ok-push w ↦ w.names-is ∙ w.in_ok-push.ensures.ok ∙ ap (λ n. names ++ n ∷ []) w.in_ok-of.ensures ∙ sym (ap (λ b. grown b names key) (sym new ∙ w.if-is_empty.true))
      | else-is_empty w ↦ w.names-is ∙ sym (ap (λ b. grown b names key) (sym new ∙ w.if-is_empty.false))
    ] in
    ap (list_any (bytes_eq name)) now
    ∙ covered-next names (λ n. asked_at (value_at old n)) (λ n. asked_at (value_at c.insert.new.self n)) comp key c.as_slice-name.ensures.octets groups covered name) c.insert.ensures.ok
