-- Walks along names: what is above the name that is given next is the rest, and from the empty name all is met.
use Rattle.std.proofs.Common.{◌≡◌, ℕ, Bool, true, false, cond, List, [], ◌∷◌, ◌++◌, Option, Some, None, refl, sym, ap, ◌∙◌, subst}
use Rattle.std.specs.Prelude.{IsTrue, IfSome, drop, flat_map, option_map, option_and_then, option_to_list, slice_get, unwrap_or}
use Rattle.std.specs.Ordering.{is_lt, ordering_reverse}
use Rattle.std.specs.declared.cmp.Ordering.{Ordering}
use Rattle.std.specs.declared.cmp.Ordering.TheVariants.{Less, Equal, Greater}
use Rattle.std.specs.List.{AllByRecursion}
use Rattle.std.specs.List.Sorted.{IsStrictlySortedBy}
use Rattle.std.specs.Map.{keys_of}
use Rattle.std.proofs.lemmas.Bool.{false≢true}
use Rattle.std.proofs.lemmas.Cmp.{nat_list_cmp_total, tied_itself}
use Rattle.std.proofs.lemmas.List.Elements.{All-weaker}
use Rattle.std.proofs.lemmas.Map.Views.{IfSome-lookup_from_All}
use Rattle.cal_base.specs.Lists.NameMap.{Named, name_order, IsInOrder, value_at, above, next_above}
use Rattle.cal_model.specs.declared.privilege.Grant.{Grant}
use Rattle.cal_model.specs.declared.privilege.Who.{Who}
use Rattle.cal_model.specs.declared.privilege.Who.TheVariants.{Everyone, Owner, Principal, Group}
use Rattle.cal_model.specs.declared.store.CalendarData.{CalendarData}
use Rattle.cal_model.specs.Paths.TargetPaths.{is_resource_name}
use Rattle.cal_model.specs.State.ServerState.{Directory, Calendar, Home, ServerState, home_at, calendar_at}
use Rattle.cal_model.specs.State.StoredData.{data_of, next_calendar}
use Rattle.cal_model.specs.State.SoundStates.{IsToUser, AreToUsers, IsToGroup, HaveGroups, AreNamed, IsSoundCalendar, IsSoundHome, IsSound}
use Rattle.cal_model.specs.State.NameWalks.{calendars_above, IsWalk, WalksMeetAll}
use Rattle.cal_model.proofs.Words.AllLemmas.{All-slice_get}
use Rattle.cal_model.proofs.State.OrderLaws.{all_weaker}

module _ {V : Type 0} where
  -- all that is above a name
  all_above : (name : List ℕ) (named : Named V) → AllByRecursion (λ other. name_order name other ≡ Less) (keys_of named) → above named name ≡ named
  all_above name [] all = refl
  all_above name (e ∷ named) all =
      ap (λ order. cond (is_lt order) (e ∷ above named name) (above named name)) all.0 ∙ ap (λ rest. e ∷ rest) (all_above name named all.1)

  -- the empty name stands before all
  pub above-first : (named : Named V) → AreNamed named → above named [] ≡ named
  above-first named all = all_above [] named (all_weaker (λ name. IsTrue (is_resource_name name)) (λ other. name_order [] other ≡ Less) (keys_of named) below all) where
    below : (name : List ℕ) → IsTrue (is_resource_name name) → name_order [] name ≡ Less
    below [] h = absurd (false≢true h)
    below (octet ∷ name) h = refl

  -- the next one is one of them
  next_is_one : (P : List ℕ → Type 0) (named : Named V) (name : List ℕ) (pair : List ℕ × V) → AllByRecursion P (keys_of named) → next_above named name ≡ Some pair → P pair.0
  next_is_one P [] name pair all e = absurd cc
  next_is_one P (first ∷ named) name pair all e = by (is_lt (name_order name first.0)) (next_is_one P named name pair all.1) e where
    by : (test : Bool) → (next_above named name ≡ Some pair → P pair.0) → slice_get (cond test (first ∷ above named name) (above named name)) 0 ≡ Some pair → P pair.0
    by true later e = subst (λ (p : List ℕ × V). P p.0) (ap (λ o. unwrap_or o first) e) all.0
    by false later e = later e

  -- What is above a name is the next one, and behind it what is above its name.
  pub above-next : (named : Named V) (name : List ℕ) (pair : List ℕ × V) → IsInOrder named → next_above named name ≡ Some pair → above named name ≡ pair ∷ above named pair.0
  unfolding IsStrictlySortedBy
  above-next [] name pair order e = absurd cc
  above-next (first ∷ named) name pair order e = by (is_lt (name_order name first.0)) refl (above-next named name pair order.1) e where
    behind_first : above named name ≡ named → above named name ≡ above (first ∷ named) first.0
    behind_first all =
        all
        ∙ sym (ap (λ o. cond (is_lt o) (first ∷ above named first.0) (above named first.0)) (tied_itself nat_list_cmp_total first.0) ∙ all_above first.0 named order.0)

    less : (o : Ordering) → is_lt o ≡ true → o ≡ Less
    less Less t = refl
    less Equal t = absurd (false≢true t)
    less Greater t = absurd (false≢true t)

    by : (test : Bool) → is_lt (name_order name first.0) ≡ test → (next_above named name ≡ Some pair → above named name ≡ pair ∷ above named pair.0)
        → slice_get (cond test (first ∷ above named name) (above named name)) 0 ≡ Some pair
        → cond test (first ∷ above named name) (above named name) ≡ pair ∷ above (first ∷ named) pair.0
    by true here later e =
        subst (λ (p : List ℕ × V). first ∷ above named name ≡ p ∷ above (first ∷ named) p.0) (ap (λ o. unwrap_or o first) e)
        (ap (λ rest. first ∷ rest) (behind_first (all_above name named
        (all_weaker (λ other. name_order first.0 other ≡ Less) (λ other. name_order name other ≡ Less) (keys_of named)
        (λ other below. nat_list_cmp_total.trans name first.0 other (less (name_order name first.0) here) below) order.0))))
    by false there later e =
        later e
        ∙ ap (λ rest. pair ∷ rest) (sym (ap (λ o. cond (is_lt o) (first ∷ above named pair.0) (above named pair.0))
        (nat_list_cmp_total.antisymm pair.0 first.0 ∙ ap ordering_reverse (next_is_one (λ other. name_order first.0 other ≡ Less) named name pair order.0 e))))

  -- At the end nothing is above.
  pub above-end : (named : Named V) (name : List ℕ) → next_above named name ≡ None → above named name ≡ []
  above-end named name e = by (above named name) e where
    by : (rest : Named V) → slice_get rest 0 ≡ None → rest ≡ []
    by [] e = refl
    by (pair ∷ rest) e = absurd cc

  walk_from : (named rest : Named V) (name : List ℕ) → IsInOrder named → above named name ≡ rest → IsWalk named name rest
  walk_from named [] name order e = ap (λ pairs. slice_get pairs 0) e
  walk_from named (pair ∷ rest) name order e =
      let next : next_above named name ≡ Some pair = ap (λ pairs. slice_get pairs 0) e in
      (next, walk_from named rest pair.0 order (ap (drop 1) (sym (above-next named name pair order next) ∙ e)))

  -- A walk from the empty name gives all.
  pub walk-all : (named : Named V) → IsInOrder named → AreNamed named → IsWalk named [] named
  walk-all named order names = walk_from named named [] order (above-first named names)

-- States

-- a home that is there is sound
pub home-sound : (directory : Directory) (state : ServerState) (user : ℕ) (home : Home) → IsSound directory state → home_at state user ≡ Some home → IsSoundHome directory home
home-sound directory state user home sound there = All-slice_get (IsSoundHome directory) state.homes user home sound.homes there

-- and so is a calendar
pub calendar-sound : (directory : Directory) (state : ServerState) (user : ℕ) (name : List ℕ) (calendar : Calendar) → IsSound directory state
    → calendar_at state user name ≡ Some calendar → IsSoundCalendar directory calendar
calendar-sound directory state user name calendar sound there = by (home_at state user) refl there where
  by : (found : Option Home) → home_at state user ≡ found → option_and_then (λ (home : Home). value_at home.calendars name) found ≡ Some calendar → IsSoundCalendar directory calendar
  by None e there = absurd cc
  by (Some home) e there =
      subst (λ o. IfSome o (IsSoundCalendar directory)) there
      (IfSome-lookup_from_All (IsSoundCalendar directory) _ home.calendars (home-sound directory state user home sound e).calendars)

-- grants to users and groups that there are name no other groups
pub have_groups : (directory : Directory) (grants : List Grant) → AreToUsers directory grants → HaveGroups directory grants
have_groups directory grants are = All-weaker (λ (grant : Grant). IsToUser directory grant.who) (λ (grant : Grant). IsToGroup directory grant.who) (λ grant. by grant.who) grants are where
  by : (who : Who) → IsToUser directory who → IsToGroup directory who
  by Everyone is = tt
  by Owner is = tt
  by (Principal user) is = tt
  by (Group group) is = is

pub walks_meet_all : WalksMeetAll
walks_meet_all = record {
  calendars = λ directory state user home sound there. let h = home-sound directory state user home sound there in walk-all home.calendars h.in_order h.named;
  objects = λ directory state user name calendar sound there. let c = calendar-sound directory state user name calendar sound there in walk-all calendar.objects c.objects_in_order c.objects_named;
}

-- a calendar with its name, as it is shown
abbrev shown_entry : ℕ → List ℕ × Calendar → List ℕ × CalendarData
shown_entry user entry = (entry.0, data_of user entry.1)

-- a walk over the calendars of a home: its start, a step, and its end
pub calendars_above-first : (directory : Directory) (state : ServerState) (user : ℕ) → IsSound directory state
    → calendars_above state user [] ≡ flat_map (λ (home : Home). home.calendars) (option_to_list (home_at state user))
calendars_above-first directory state user sound = by (home_at state user) refl where
  by : (found : Option Home) → home_at state user ≡ found
      → flat_map (λ (home : Home). above home.calendars []) (option_to_list found) ≡ flat_map (λ (home : Home). home.calendars) (option_to_list found)
  by None e = refl
  by (Some home) e = ap (λ named. named ++ []) (above-first home.calendars (home-sound directory state user home sound e).named)

pub calendars_above-next : (directory : Directory) (state : ServerState) (user : ℕ) (name next : List ℕ) (shown : CalendarData) → IsSound directory state
    → next_calendar state user name ≡ Some (next, shown)
    → (calendar : Calendar) × (shown ≡ data_of user calendar) × (calendars_above state user name ≡ (next, calendar) ∷ calendars_above state user next)
calendars_above-next directory state user name next shown sound e = by (home_at state user) refl e where
  in_home : (home : Home) → IsSoundHome directory home → (found : Option (List ℕ × Calendar)) → next_above home.calendars name ≡ found
      → option_map (shown_entry user) found ≡ Some (next, shown)
      → (calendar : Calendar) × (shown ≡ data_of user calendar) × (above home.calendars name ++ [] ≡ (next, calendar) ∷ (above home.calendars next ++ []))
  in_home home sound None there e = absurd cc
  in_home home sound (Some pair) there e =
      let same : pair.0 ≡ next = ap (λ (o : Option (List ℕ × CalendarData)). (unwrap_or o (next, shown)).0) e in
      let told : shown ≡ data_of user pair.1 = sym (ap (λ (o : Option (List ℕ × CalendarData)). (unwrap_or o (next, shown)).1) e) in
      (pair.1, told, ap (λ named. named ++ []) (above-next home.calendars name pair sound.in_order there) ∙ ap (λ n. (n, pair.1) ∷ (above home.calendars n ++ [])) same)

  by : (found : Option Home) → home_at state user ≡ found
      → option_and_then (λ (h : Home). option_map (shown_entry user) (next_above h.calendars name)) found ≡ Some (next, shown)
      → (calendar : Calendar) × (shown ≡ data_of user calendar)
      × (flat_map (λ (home : Home). above home.calendars name) (option_to_list found) ≡ (next, calendar) ∷ flat_map (λ (home : Home). above home.calendars next) (option_to_list found))
  by None there e = absurd cc
  by (Some home) there e = in_home home (home-sound directory state user home sound there) (next_above home.calendars name) refl e

pub calendars_above-end : (state : ServerState) (user : ℕ) (name : List ℕ) → next_calendar state user name ≡ None → calendars_above state user name ≡ []
calendars_above-end state user name e = by (home_at state user) e where
  none : (home : Home) (found : Option (List ℕ × Calendar)) → next_above home.calendars name ≡ found
      → option_map (shown_entry user) found ≡ None → above home.calendars name ++ [] ≡ []
  none home None there e = ap (λ named. named ++ []) (above-end home.calendars name there)
  none home (Some pair) there e = absurd cc

  by : (found : Option Home) → option_and_then (λ (h : Home). option_map (shown_entry user) (next_above h.calendars name)) found ≡ None
      → flat_map (λ (home : Home). above home.calendars name) (option_to_list found) ≡ []
  by None e = refl
  by (Some home) e = none home (next_above home.calendars name) refl e
