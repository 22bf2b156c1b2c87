-- What a change makes of a home, it makes of that home with other numbers, with its own numbers mapped.
use Rattle.std.proofs.Common.{◌≡◌, ℕ, List, [], ◌∷◌, length, map, Option, Some, None, refl, ◌∙◌, ap}
use Rattle.std.specs.Prelude.{option_map}
use Rattle.std.specs.declared.cmp.Ordering.{Ordering}
use Rattle.std.specs.declared.cmp.Ordering.TheVariants.{Less, Equal, Greater}
use Rattle.std.specs.Ordering.{match_ordering, is_eq}
use Rattle.std.proofs.Common.{cond}
use Rattle.std.proofs.lemmas.Map.Made.{lookup-map_values}
use Rattle.std.specs.BTreeMap.{is_at}
use Rattle.cal_base.specs.Lists.NameMap.{Named, value_at, with_value, without, name_order}
use Rattle.cal_model.specs.declared.privilege.Grant.{Grant}
use Rattle.cal_model.specs.declared.property.PropSet.{PropSet}
use Rattle.cal_model.specs.Properties.Settings.{set_on, made_by}
use Rattle.cal_model.specs.State.Changes.{with_octets, without_octets, with_grants, without_calendar, with_new_calendar}
use Rattle.cal_model.specs.State.ServerState.{Calendar, Home, with_calendar, charged}
use Rattle.cal_model.specs.Users.UsersFile.{Users}
use Rattle.journal_migration.specs.Renumbering.{moved_grant, moved_calendar, moved_home}

-- Maps whose values are mapped

module _ {X Y : Type 0} (g : X → Y) where
  abbrev each : Named X → Named Y
  each named = map (λ (e : List ℕ × X). (e.0, g e.1)) named

  with_value-each : (named : Named X) (name : List ℕ) (value : X) → with_value (each named) name (g value) ≡ each (with_value named name value)
  with_value-each [] name value = refl
  with_value-each (first ∷ named) name value = by (name_order name first.0) (with_value-each named name value) where
    by : (order : Ordering) → with_value (each named) name (g value) ≡ each (with_value named name value)
        → match_ordering order ((name, g value) ∷ (first.0, g first.1) ∷ each named) ((first.0, g value) ∷ each named) ((first.0, g first.1) ∷ with_value (each named) name (g value))
        ≡ each (match_ordering order ((name, value) ∷ first ∷ named) ((first.0, value) ∷ named) (first ∷ with_value named name value))
    by Less later = refl
    by Equal later = refl
    by Greater later = ap (λ (more : Named Y). (first.0, g first.1) ∷ more) later

  without-each : (named : Named X) (name : List ℕ) → without (each named) name ≡ each (without named name)
  without-each [] name = refl
  without-each (first ∷ named) name = by (name_order name first.0) (without-each named name) where
    by : (order : Ordering) → without (each named) name ≡ each (without named name)
        → cond (is_eq order) (each named) ((first.0, g first.1) ∷ without (each named) name) ≡ each (cond (is_eq order) named (first ∷ without named name))
    by Less later = ap (λ (more : Named Y). (first.0, g first.1) ∷ more) later
    by Equal later = refl
    by Greater later = ap (λ (more : Named Y). (first.0, g first.1) ∷ more) later

-- Changes of a home

module _ (old new : Users) where
  abbrev own : Calendar → Calendar
  own = moved_calendar old new

  -- two changes of a home, one for the old users and one for the new
  abbrev pub IsSameFor : (Home → Home) → (Home → Home) → Type 0
  IsSameFor change moved = (home : Home) → moved (moved_home old new home) ≡ moved_home old new (change home)

  module _ (name : List ℕ) (change moved : Calendar → Calendar) (same : (calendar : Calendar) → moved (own calendar) ≡ own (change calendar)) (home : Home) where
    abbrev moved_at : Option Calendar → Home
    moved_at None = moved_home old new home
    moved_at (Some calendar) = record { accepted = home.accepted; calendars = with_value (each own home.calendars) name (moved calendar) }

    abbrev changed_at : Option Calendar → Home
    changed_at None = home
    changed_at (Some calendar) = record { accepted = home.accepted; calendars = with_value home.calendars name (change calendar) }

    by_calendar : (found : Option Calendar) → moved_at (option_map own found) ≡ moved_home old new (changed_at found)
    by_calendar None = refl
    by_calendar (Some calendar) =
        ap (λ (cs : Named Calendar). record { accepted = home.accepted; calendars = cs }) (ap (with_value (each own home.calendars) name) (same calendar) ∙ with_value-each own home.calendars name (change calendar))

    with_calendar-same : with_calendar name moved (moved_home old new home) ≡ moved_home old new (with_calendar name change home)
    with_calendar-same = ap moved_at (lookup-map_values own (is_at (name_order name)) home.calendars) ∙ by_calendar (value_at home.calendars name)

  charged-same : (size : ℕ) (change moved : Home → Home) → IsSameFor change moved → IsSameFor (λ h. charged size (change h)) (λ h. charged size (moved h))
  charged-same size change moved same home = ap (charged size) (same home)

  -- each kind of change

  pub put-same : (calendar name octets : List ℕ) → IsSameFor (λ h. charged (length octets) (with_calendar calendar (with_octets name octets) h)) (λ h. charged (length octets) (with_calendar calendar (with_octets name octets) h))
  put-same calendar name octets =
      charged-same (length octets) (with_calendar calendar (with_octets name octets)) (with_calendar calendar (with_octets name octets)) (with_calendar-same calendar (with_octets name octets) (with_octets name octets) (λ c. refl))

  pub delete_object-same : (calendar name : List ℕ) → IsSameFor (with_calendar calendar (without_octets name)) (with_calendar calendar (without_octets name))
  delete_object-same calendar name = with_calendar-same calendar (without_octets name) (without_octets name) (λ c. refl)

  pub delete_calendar-same : (calendar : List ℕ) → IsSameFor (without_calendar calendar) (without_calendar calendar)
  delete_calendar-same calendar home = ap (λ (cs : Named Calendar). record { accepted = home.accepted; calendars = cs }) (without-each own home.calendars calendar)

  pub make-same : (calendar : List ℕ) (sets : List PropSet) (size : ℕ) → IsSameFor (λ h. charged size (with_new_calendar calendar (made_by sets) h)) (λ h. charged size (with_new_calendar calendar (made_by sets) h))
  make-same calendar sets size =
      charged-same size (with_new_calendar calendar (made_by sets)) (with_new_calendar calendar (made_by sets))
      (λ home. ap (λ (cs : Named Calendar). record { accepted = home.accepted; calendars = cs }) (with_value-each own home.calendars calendar (made_by sets)))

  pub patch-same : (calendar : List ℕ) (sets : List PropSet) (size : ℕ) → IsSameFor (λ h. charged size (with_calendar calendar (set_on sets) h)) (λ h. charged size (with_calendar calendar (set_on sets) h))
  patch-same calendar sets size = charged-same size (with_calendar calendar (set_on sets)) (with_calendar calendar (set_on sets)) (with_calendar-same calendar (set_on sets) (set_on sets) (λ c. refl))

  pub acl-same : (calendar : List ℕ) (grants : List Grant) (size : ℕ)
      → IsSameFor (λ h. charged size (with_calendar calendar (with_grants grants) h)) (λ h. charged size (with_calendar calendar (with_grants (map (moved_grant old new) grants)) h))
  acl-same calendar grants size =
      let moved = map (moved_grant old new) grants in
      charged-same size (with_calendar calendar (with_grants grants)) (with_calendar calendar (with_grants moved)) (with_calendar-same calendar (with_grants grants) (with_grants moved) (λ c. refl))
