-- A walk over the objects of a calendar that ends them one after another: so far those that it has passed, and at its end all.
use Rattle.std.proofs.Common.{◌≡◌, ◌≢◌, ℕ, ◌<◌, Bool, true, false, ◌&&◌, ◌||◌, cond, List, [], ◌∷◌, length, filter, Option, Some, None, refl, sym, ap, ◌∙◌, subst, arith, ◌⊎◌, inl, inr}
use Rattle.std.specs.Prelude.{not, is_none, ◌==◌, bytes_eq, flat_map, option_and_then, option_to_list}
use Rattle.std.specs.Option.{option_map_or}
use Rattle.std.specs.List.Sorted.{IsStrictlySortedBy}
use Rattle.std.specs.Map.{keys_of}
use Rattle.std.proofs.lemmas.Bool.{cases_eq, false≢true, eqb-true, eq-eqb, and_parts, and_from}
use Rattle.std.proofs.lemmas.List.{append-nil, get_or-set_same, get_or-set_other, length-set}
use Rattle.std.proofs.lemmas.Map.Text.{is_eq-slice_cmp}
use Rattle.std.proofs.lemmas.Slice.Eq.{bytes_eq-Decides}
use Rattle.cal_base.specs.Lists.NameMap.{Named, name_order, IsInOrder, value_at}
use Rattle.cal_model.specs.declared.piece.Piece.{Piece}
use Rattle.cal_model.specs.History.Journal.{Entry}
use Rattle.cal_model.specs.History.LiveObjects.{Placed, is_in_calendar, live_at}
use Rattle.cal_model.specs.History.Origins.{Origins, AreLive}
use Rattle.cal_model.specs.Pieces.PieceLists.{is_other_piece}
use Rattle.cal_model.specs.State.ServerState.{Directory, Calendar, ServerState, calendar_at, octets_at}
use Rattle.cal_model.specs.State.SoundStates.{IsSound}
use Rattle.cal_model.proofs.State.NameWalkLaws.{calendar-sound}
use Rattle.object_walk.specs.WalkedObjects.{objects_at}
use Rattle.collections.proofs.NamedLemmas.{absent_below}
use Rattle.number_set.specs.Sets.{has}
use Rattle.piece_claims.specs.Boards.{Board}
use Rattle.cal_book.specs.EndedObjects.{IsWithout, is_object, is_passed, without_object}
use Rattle.cal_book.specs.UpToDate.{IsUpToDate}
use Rattle.cal_book.specs.Cores.{HasLiveOctets}
use Rattle.cal_book.proofs.StepLemmas.{IsWithout-none, and-false, filter_same, origin-within}

or-false : (b : Bool) → (b || false) ≡ b
or-false true = refl
or-false false = refl

or-true : (b : Bool) → (b || true) ≡ true
or-true true = refl
or-true false = refl

neither : (a b : Bool) → not (a || b) ≡ (not a && not b)
neither true b = refl
neither false b = refl

not_equal : (n m : ℕ) → n ≢ m → (n == m) ≡ false
not_equal n m other = by (n == m) refl where
  by : (b : Bool) → (n == m) ≡ b → (n == m) ≡ false
  by true t = absurd (other (eqb-true n m t))
  by false t = t

-- what two tests keep one after another
filter_both : (p q : Piece → Bool) (pieces : List Piece) → filter q (filter p pieces) ≡ filter (λ piece. p piece && q piece) pieces
filter_both p q [] = refl
filter_both p q (piece ∷ pieces) = by (p piece) (filter_both p q pieces) where
  by : (b : Bool) → filter q (filter p pieces) ≡ filter (λ x. p x && q x) pieces
      → filter q (cond b (piece ∷ filter p pieces) (filter p pieces)) ≡ cond (b && q piece) (piece ∷ filter (λ x. p x && q x) pieces) (filter (λ x. p x && q x) pieces)
  by true later = ap (λ rest. cond (q piece) (piece ∷ rest) rest) later
  by false later = later

-- the same objects, picked by another test
pub IsWithout-same : (journal : List Entry) (test other : Placed → Bool) (old new : Board) → ((n : ℕ) → is_object journal test n ≡ is_object journal other n) → IsWithout journal test old new → IsWithout journal other old new
IsWithout-same journal test other old new same is = record {
  size = is.size;
  live = λ n. is.live n ∙ ap (λ b. has old.live n && not b) (same n);
  pieces = is.pieces ∙ filter_same (λ (piece : Piece). not (is_object journal test piece.origin)) (λ (piece : Piece). not (is_object journal other piece.origin)) (λ piece. ap not (same piece.origin)) old.pieces;
  latest = is.latest;
  out = is.out;
  room = is.room;
}

-- one object more is gone
IsWithout-more : (journal : List Entry) (test other : Placed → Bool) (old new : Board) (origin : ℕ) → ((n : ℕ) → is_object journal other n ≡ (is_object journal test n || (n == origin))) → origin < length new.live
    → IsWithout journal test old new → IsWithout journal other old (without_object (Some origin) new)
IsWithout-more journal test other old new origin more within is = record {
  size = length-set new.live origin false ∙ is.size;
  live = λ n. flag n (cases_eq n origin);
  pieces =
      ap (filter (is_other_piece origin)) is.pieces
      ∙ filter_both (λ (piece : Piece). not (is_object journal test piece.origin)) (is_other_piece origin) old.pieces
      ∙ filter_same (λ (piece : Piece). not (is_object journal test piece.origin) && is_other_piece origin piece) (λ (piece : Piece). not (is_object journal other piece.origin))
      (λ piece. sym (ap not (more piece.origin) ∙ neither (is_object journal test piece.origin) (piece.origin == origin))) old.pieces;
  latest = is.latest;
  out = is.out;
  room = is.room;
} where
  flag : (n : ℕ) → (n ≡ origin) ⊎ (n ≢ origin) → has (without_object (Some origin) new).live n ≡ (has old.live n && not (is_object journal other n))
  flag n (inl e) =
      ap (has (without_object (Some origin) new).live) e
      ∙ get_or-set_same new.live origin false false within
      ∙ sym (and-false (has old.live n))
      ∙ ap (λ b. has old.live n && not b) (sym (more n ∙ ap (λ b. is_object journal test n || b) (eq-eqb n origin e) ∙ or-true (is_object journal test n)))
  flag n (inr apart) =
      get_or-set_other new.live origin n false false apart
      ∙ is.live n
      ∙ ap (λ b. has old.live n && not b) (sym (more n ∙ ap (λ b. is_object journal test n || b) (not_equal n origin apart) ∙ or-false (is_object journal test n)))

-- The names of the objects of a calendar rise, and so do those of the ones that are left.

pub walk-in_order : (directory : Directory) (state : ServerState) (home : ℕ) (calendar : List ℕ) → IsSound directory state → IsInOrder (objects_at state home calendar)
unfolding IsStrictlySortedBy
walk-in_order directory state home calendar sound = by (calendar_at state home calendar) refl where
  by : (found : Option Calendar) → calendar_at state home calendar ≡ found → IsInOrder (flat_map (λ (c : Calendar). c.objects) (option_to_list found))
  by None e = tt
  by (Some c) e = subst IsInOrder (sym (append-nil c.objects)) (calendar-sound directory state home calendar c sound e).objects_in_order

pub walk-left_in_order : (name : List ℕ) (left : Named (List ℕ)) → IsStrictlySortedBy name_order (name ∷ keys_of left) → IsInOrder left
unfolding IsStrictlySortedBy
walk-left_in_order name left in_order = in_order.1

module _ (journal : List Entry) (origins : Origins) (state : ServerState) (live : AreLive journal origins) (octets : HasLiveOctets journal state) (home : ℕ) (calendar : List ℕ) where
  abbrev passed : Named (List ℕ) → Placed → Bool
  passed left = is_passed left home calendar

  place_is : (placed : Placed) → is_in_calendar placed home calendar ≡ true → (placed.home ≡ home) × (placed.calendar ≡ calendar)
  place_is placed t =
      let parts = and_parts _ _ t in
      (eqb-true placed.home home parts.0, (bytes_eq-Decides placed.calendar calendar).0 parts.1)

  -- at first none is passed
  first_names : (placed : Placed) → octets_at state home calendar placed.object ≡ Some placed.octets → is_none (value_at (objects_at state home calendar) placed.object) ≡ false
  first_names placed e = by (calendar_at state home calendar) e where
    by : (o : Option Calendar) → option_and_then (λ (c : Calendar). value_at c.objects placed.object) o ≡ Some placed.octets
        → is_none (value_at (flat_map (λ (c : Calendar). c.objects) (option_to_list o)) placed.object) ≡ false
    by None e = absurd cc
    by (Some c) e = ap (λ named. is_none (value_at named placed.object)) (append-nil c.objects) ∙ ap is_none e

  none_passed : (n : ℕ) → is_object journal (passed (objects_at state home calendar)) n ≡ false
  none_passed n = by (live_at journal n) refl where
    in_place : (placed : Placed) → live_at journal n ≡ Some placed → (b : Bool) → is_in_calendar placed home calendar ≡ b → passed (objects_at state home calendar) placed ≡ false
    in_place placed e true t =
        let place = place_is placed t in
        ap (λ b. b && is_none (value_at (objects_at state home calendar) placed.object)) t
        ∙ first_names placed ((λ i. octets_at state (sym place.0 i) (sym place.1 i) placed.object) ∙ octets n placed e)
    in_place placed e false t = ap (λ b. b && is_none (value_at (objects_at state home calendar) placed.object)) t

    by : (o : Option Placed) → live_at journal n ≡ o → is_object journal (passed (objects_at state home calendar)) n ≡ false
    by None e = ap (λ o. option_map_or (passed (objects_at state home calendar)) o false) e
    by (Some placed) e = ap (λ o. option_map_or (passed (objects_at state home calendar)) o false) e ∙ in_place placed e (is_in_calendar placed home calendar) refl

  -- The walk begins.
  pub walk-first : (board : Board) → IsWithout journal (passed (objects_at state home calendar)) board board
  walk-first board = IsWithout-none journal (passed (objects_at state home calendar)) board none_passed

  module _ (next text : List ℕ) (rest : Named (List ℕ)) (origin : ℕ) (in_order : IsInOrder ((next, text) ∷ rest)) (known : origins home calendar next ≡ Some origin) where
    -- the name of the next one is none of those behind it
    absent : value_at rest next ≡ None
    unfolding IsStrictlySortedBy
    absent = absent_below rest next in_order.0

    -- a name is none of those that are left, or is the next one
    names_more : (object : List ℕ) → is_none (value_at rest object) ≡ (is_none (value_at ((next, text) ∷ rest) object) || bytes_eq object next)
    names_more object = by (bytes_eq object next) refl where
      by : (b : Bool) → bytes_eq object next ≡ b → is_none (value_at rest object) ≡ (is_none (value_at ((next, text) ∷ rest) object) || bytes_eq object next)
      by true same =
          let names : object ≡ next = (bytes_eq-Decides object next).0 same in
          ap (λ o. is_none (value_at rest o)) names
          ∙ ap is_none absent
          ∙ sym (or-true (is_none (value_at ((next, text) ∷ rest) object)))
          ∙ ap (λ b. is_none (value_at ((next, text) ∷ rest) object) || b) (sym same)
      by false apart =
          sym (or-false (is_none (value_at rest object)))
          ∙ ap (λ b. is_none (value_at rest object) || b) (sym apart)
          ∙ ap (λ b. is_none (cond b (Some text) (value_at rest object)) || bytes_eq object next) (sym (is_eq-slice_cmp object next ∙ apart))

    abbrev left : Named (List ℕ)
    left = (next, text) ∷ rest

    -- it is the next one where its origin is that one's
    origin_of : (n : ℕ) (placed : Placed) → live_at journal n ≡ Some placed → is_in_calendar placed home calendar ≡ true → bytes_eq placed.object next ≡ (n == origin)
    origin_of n placed e t = by (bytes_eq placed.object next) refl (cases_eq n origin) where
      place : (placed.home ≡ home) × (placed.calendar ≡ calendar)
      place = place_is placed t

      number : ℕ → Option ℕ → ℕ
      number other None = other
      number other (Some k) = k

      name_of : Option Placed → List ℕ
      name_of None = []
      name_of (Some p) = p.object

      by : (b : Bool) → bytes_eq placed.object next ≡ b → (n ≡ origin) ⊎ (n ≢ origin) → bytes_eq placed.object next ≡ (n == origin)
      by true same (inl one) = same ∙ sym (eq-eqb n origin one)
      by false apart (inr other) = apart ∙ sym (not_equal n origin other)
      by true same (inr other) =
          let names : placed.object ≡ next = (bytes_eq-Decides placed.object next).0 same in
          absurd (other (ap (number n) (sym (live.live n placed e) ∙ (λ i. origins (place.0 i) (place.1 i) (names i)) ∙ known)))
      by false apart (inl one) =
          let found = live.known home calendar next origin known in
          let names : placed.object ≡ next = ap name_of (sym e ∙ ap (live_at journal) one ∙ found.1) in
          absurd (false≢true (sym apart ∙ (bytes_eq-Decides placed.object next).1 names))

    -- the object of the next origin is passed then, and no other is
    passed_more : (n : ℕ) → is_object journal (passed rest) n ≡ (is_object journal (passed left) n || (n == origin))
    passed_more n = by (live_at journal n) refl where
      in_place : (placed : Placed) → live_at journal n ≡ Some placed → (b : Bool) → is_in_calendar placed home calendar ≡ b → passed rest placed ≡ (passed left placed || (n == origin))
      in_place placed e true t =
          ap (λ b. b && is_none (value_at rest placed.object)) t
          ∙ names_more placed.object
          ∙ ap (λ b. is_none (value_at left placed.object) || b) (origin_of n placed e t)
          ∙ ap (λ b. (b && is_none (value_at left placed.object)) || (n == origin)) (sym t)
      in_place placed e false t =
          ap (λ b. b && is_none (value_at rest placed.object)) t
          ∙ sym (not_equal n origin (λ one. elsewhere one))
          ∙ ap (λ b. (b && is_none (value_at left placed.object)) || (n == origin)) (sym t) where
            inside : Option Placed → Bool
            inside None = false
            inside (Some p) = is_in_calendar p home calendar

            elsewhere : n ≡ origin → ⊥
            elsewhere one =
                let found = live.known home calendar next origin known in
                false≢true (sym t ∙ ap inside (sym e ∙ ap (live_at journal) one ∙ found.1) ∙ and_from _ _ (eq-eqb home home refl) ((bytes_eq-Decides calendar calendar).1 refl))

      by : (o : Option Placed) → live_at journal n ≡ o → is_object journal (passed rest) n ≡ (is_object journal (passed left) n || (n == origin))
      by None e =
          ap (λ o. option_map_or (passed rest) o false) e
          ∙ sym (not_equal n origin (λ one. nobody one))
          ∙ ap (λ o. option_map_or (passed left) o false || (n == origin)) (sym e) where
            nobody : n ≡ origin → ⊥
            nobody one = let found = live.known home calendar next origin known in let both = sym e ∙ ap (live_at journal) one ∙ found.1 in cc
      by (Some placed) e =
          ap (λ o. option_map_or (passed rest) o false) e
          ∙ in_place placed e (is_in_calendar placed home calendar) refl
          ∙ ap (λ o. option_map_or (passed left) o false || (n == origin)) (sym e)

    -- The walk ends one object more.
    pub walk-next : (old new : Board) → IsUpToDate journal old → IsWithout journal (passed left) old new → IsWithout journal (passed rest) old (without_object (Some origin) new)
    walk-next old new before is =
        IsWithout-more journal (passed left) (passed rest) old new origin passed_more
        (let within = origin-within journal origins live home calendar next origin known in let size = before.entries in let same = is.size in omega (arith, within, size, same)) is

  -- At its end all objects of the calendar are gone.
  pub walk-end : (old new : Board) → IsWithout journal (passed []) old new → IsWithout journal (λ placed. is_in_calendar placed home calendar) old new
  walk-end old new is = IsWithout-same journal (passed []) (λ placed. is_in_calendar placed home calendar) old new (λ n. by (live_at journal n)) is where
    and-true : (b : Bool) → (b && true) ≡ b
    and-true true = refl
    and-true false = refl

    by : (o : Option Placed) → option_map_or (passed []) o false ≡ option_map_or (λ (placed : Placed). is_in_calendar placed home calendar) o false
    by None = refl
    by (Some placed) = and-true (is_in_calendar placed home calendar)
