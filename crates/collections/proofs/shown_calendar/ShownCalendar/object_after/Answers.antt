use Rattle.std.proofs.Common.{◌≡◌, ◌∙◌, ℕ, List, Some, ap, sym}
use Rattle.std.specs.Prelude.{option_map}
use Rattle.cal_base.specs.Lists.NameMap.{next_above}
use Rattle.object_walk.specs.declared.entry.ObjectEntry.{ObjectEntry}
use Rattle.collections.specs.Calendars.{kept_entry}
use Rattle.collections.proofs.CalendarLemmas.{place_shown, object_shown, next_shown, next_named, next_again}
use Rattle.collections.proofs.shown_calendar.ShownCalendar.object_after.Goals as goal

pub returns-in-Some-clause-object : goal.returns-in-Some-clause-object
returns-in-Some-clause-object c =
    let entry = c.in-Some.entry.now in
    let next : next_above c.self.inside.objects c.args.name.now ≡ Some (c.in-Some.field-0-0.now, entry) = sym c.in-Some.ensures in
    ap (λ name. Some (name, kept_entry entry)) (sym (next_named c.self.inside.name c.self.inside.kept c.self.inside.objects c.self.invariant c.args.self.now c.self.view_is c.args.name.now c.in-Some.field-0-0.now entry next))
    ∙ (ap (option_map (λ (e : List ℕ × ObjectEntry). (e.0, kept_entry e.1))) (sym next)
    ∙ next_shown c.self.inside.name c.self.inside.kept c.self.inside.objects c.self.invariant c.args.self.now c.self.view_is c.args.name.now)

pub returns-in-Some-clause-there : goal.returns-in-Some-clause-there
returns-in-Some-clause-there c =
    let entry = c.in-Some.entry.now in
    let next : next_above c.self.inside.objects c.args.name.now ≡ Some (c.in-Some.field-0-0.now, entry) = sym c.in-Some.ensures in
    sym (object_shown c.self.inside.name c.self.inside.kept c.self.inside.objects c.self.invariant c.args.self.now c.self.view_is entry.stored.path.object)
    ∙ ap (option_map kept_entry) (next_again c.self.inside.name c.self.inside.kept c.self.inside.objects c.self.invariant c.args.self.now c.self.view_is c.args.name.now c.in-Some.field-0-0.now entry next)

pub returns-in-Some-clause-place : goal.returns-in-Some-clause-place
returns-in-Some-clause-place c =
    let entry = c.in-Some.entry.now in
    let next : next_above c.self.inside.objects c.args.name.now ≡ Some (c.in-Some.field-0-0.now, entry) = sym c.in-Some.ensures in
    place_shown c.self.inside.name c.self.inside.kept c.self.inside.objects c.self.invariant c.args.self.now c.self.view_is entry.stored.path.object entry
    (next_again c.self.inside.name c.self.inside.kept c.self.inside.objects c.self.invariant c.args.self.now c.self.view_is c.args.name.now c.in-Some.field-0-0.now entry next)

pub returns-in-None-clause-object : goal.returns-in-None-clause-object
returns-in-None-clause-object c =
    ap (option_map (λ (e : List ℕ × ObjectEntry). (e.0, kept_entry e.1))) c.in-None.ensures
    ∙ next_shown c.self.inside.name c.self.inside.kept c.self.inside.objects c.self.invariant c.args.self.now c.self.view_is c.args.name.now
