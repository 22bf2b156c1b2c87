-- A hidden calendar is as one that isn't there: two states that differ in it alone look alike, so each request that only reads has the same reply in both.
use Rattle.std.proofs.Common.{◌≡◌, ℕ, ◌+◌, Bool, true, false, cond, not, List, [], ◌∷◌, ◌++◌, map, length, Option, Some, None, refl, sym, ap, ◌∙◌, arith}
use Rattle.std.specs.Prelude.{◌==◌, filter}
use Rattle.std.specs.List.{enumerate_from}
use Rattle.std.specs.Map.{lookup, remove_entry}
use Rattle.std.proofs.lemmas.Bool.{false≢true, eq-eqb}
use Rattle.cal_base.specs.Lists.NameMap.{Named, value_at}
use Rattle.cal_model.specs.declared.request.Event.{Event}
use Rattle.cal_model.specs.State.ServerState.{Directory, Calendar, Home}
use Rattle.cal_model.specs.Sight.Views.{held_on, Sight, sight_of, visible_calendars, home_by}
use Rattle.cal_model.specs.Sight.LookingAlike.{LookAlike}
use Rattle.cal_model.specs.State.Changes.{without_calendar}
use Rattle.cal_model.specs.Serving.Outcomes.{is_reading}
use Rattle.cal_model.specs.Serving.EventReplies.{reply_to}
use Rattle.cal_model.proofs.Sight.LookingAlikeLaws.{reply_to-LookAlike}
use Rattle.cal_model.proofs.Sight.ViewLaws.{LookAlike-seen_by}
use Rattle.cal_model.specs.Sight.SightLaws.{homes_with, HiddenIsAbsent}

value_or : {X : Type 0} → X → Option X → X
value_or other None = other
value_or other (Some x) = x

filtered : {X : Type 0} (test : Bool) (x : X) (xs ys : List X) → xs ≡ ys → cond test (x ∷ xs) xs ≡ cond test (x ∷ ys) ys
filtered true x xs ys e = ap (λ rest. x ∷ rest) e
filtered false x xs ys e = e

dropped : {X : Type 0} (test : Bool) (x : X) (xs : List X) → test ≡ false → xs ≡ cond test (x ∷ xs) xs
dropped true x xs e = absurd (false≢true (sym e))
dropped false x xs e = refl

-- one entry, that is removed or kept
one-removed : {V : Type 0} (p : List ℕ × V → Bool) (e : List ℕ × V) (es rest : Named V) (later : Option V) (value : V) (test : Bool)
    → ((key : List ℕ) → p (key, value) ≡ false) → (later ≡ Some value → filter p rest ≡ filter p es) → cond test (Some e.1) later ≡ Some value
    → filter p (cond test es (e ∷ rest)) ≡ filter p (e ∷ es)
unfolding value_or
one-removed p e es rest later value true hidden same found = dropped (p e) e (filter p es) (ap (λ v. p (e.0, v)) (ap (value_or e.1) found) ∙ hidden e.0)
one-removed p e es rest later value false hidden same found = filtered (p e) e (filter p rest) (filter p es) (same found)

-- what a filter passes over may be missing
filter-remove : {V : Type 0} (p : List ℕ × V → Bool) (at : List ℕ → Bool) (entries : Named V) (value : V) → ((key : List ℕ) → p (key, value) ≡ false)
    → lookup at entries ≡ Some value → filter p (remove_entry at entries) ≡ filter p entries
filter-remove p at [] value hidden found = refl
filter-remove p at (e ∷ es) value hidden found =
    one-removed p e es (remove_entry at es) (lookup at es) value (at e.0) hidden (filter-remove p at es value hidden) found

-- a home without a hidden calendar is seen as it is with it
visible-without : (directory : Directory) (owner who : ℕ) (home : Home) (name : List ℕ) (calendar : Calendar) → value_at home.calendars name ≡ Some calendar
    → held_on directory owner who calendar ≡ 0 → visible_calendars directory owner who (without_calendar name home) ≡ visible_calendars directory owner who home
visible-without directory owner who home name calendar found hidden =
    filter-remove (λ (entry : List ℕ × Calendar). not (held_on directory owner who entry.1 == 0)) _ home.calendars calendar
    (λ key. ap not (eq-eqb (held_on directory owner who calendar) 0 hidden)) found

-- lists of homes that differ in one, which is seen alike
homes-middle : (directory : Directory) (who : ℕ) (xs ys : List Home) (h h' : Home) (n : ℕ)
    → home_by sight_of directory who (n + length xs, h) ≡ home_by sight_of directory who (n + length xs, h')
    → map (home_by sight_of directory who) (enumerate_from n (xs ++ h ∷ ys)) ≡ map (home_by sight_of directory who) (enumerate_from n (xs ++ h' ∷ ys))
homes-middle directory who [] ys h h' n same =
    let at_n : n + 0 ≡ n = omega arith in
    ap (λ first. first ∷ map (home_by sight_of directory who) (enumerate_from (n + 1) ys))
    (ap (λ k. home_by sight_of directory who (k, h)) (sym at_n) ∙ same ∙ ap (λ k. home_by sight_of directory who (k, h')) at_n)
homes-middle directory who (x ∷ xs) ys h h' n same =
    let at_next : (n + 1) + length xs ≡ n + length (x ∷ xs) = omega arith in
    ap (λ rest. home_by sight_of directory who (n, x) ∷ rest)
    (homes-middle directory who xs ys h h' (n + 1)
    (ap (λ k. home_by sight_of directory who (k, h)) at_next ∙ same ∙ ap (λ k. home_by sight_of directory who (k, h')) (sym at_next)))

pub LookAlike-hidden : (directory : Directory) (who : ℕ) (xs ys : List Home) (home : Home) (name : List ℕ) (calendar : Calendar)
    → value_at home.calendars name ≡ Some calendar → held_on directory (length xs) who calendar ≡ 0
    → LookAlike directory (homes_with xs (without_calendar name home) ys) (homes_with xs home ys) who
LookAlike-hidden directory who xs ys home name calendar found hidden =
    let at_place : 0 + length xs ≡ length xs = omega arith in
    LookAlike-seen_by directory (homes_with xs (without_calendar name home) ys) (homes_with xs home ys) who
    (homes-middle directory who xs ys (without_calendar name home) home 0
    (ap (λ k. home_by sight_of directory who (k, without_calendar name home)) at_place
    ∙ ap (map (seen_entry directory (length xs) who)) (visible-without directory (length xs) who home name calendar found hidden)
    ∙ ap (λ k. home_by sight_of directory who (k, home)) (sym at_place))) where
      seen_entry : Directory → ℕ → ℕ → List ℕ × Calendar → List ℕ × Sight
      seen_entry directory owner who entry = (entry.0, sight_of directory owner who entry.1)

-- The reply to a request that only reads doesn't show whether a hidden calendar is there.
pub reply_to-hidden : (directory : Directory) (xs ys : List Home) (home : Home) (name : List ℕ) (calendar : Calendar) (event : Event)
    → is_reading event.request.method ≡ true → value_at home.calendars name ≡ Some calendar → held_on directory (length xs) event.who calendar ≡ 0
    → reply_to directory (homes_with xs (without_calendar name home) ys) event ≡ reply_to directory (homes_with xs home ys) event
reply_to-hidden directory xs ys home name calendar event reads found hidden =
    reply_to-LookAlike directory (homes_with xs (without_calendar name home) ys) (homes_with xs home ys) event reads (LookAlike-hidden directory event.who xs ys home name calendar found hidden)

pub hidden_is_absent : HiddenIsAbsent
hidden_is_absent = reply_to-hidden
