-- Right pieces are rows of the objects that a state has at their places, so a report may look them up; and what is held is one where it is the same of each object and window.
use Rattle.std.proofs.Common.{◌≡◌, ℕ, ◌≤◌, arith, List, [], ◌∷◌, Option, Some, None, refl, sym, ap, ◌∙◌, subst}
use Rattle.std.specs.Prelude.{ℤ, Ok, flat_map, option_and_then, option_to_list}
use Rattle.std.specs.List.{AllByRecursion}
use Rattle.cal_base.specs.Lists.NameMap.{Named, value_at}
use Rattle.cal_model.specs.declared.object.Object.{Object}
use Rattle.cal_model.specs.declared.piece.Piece.{Piece}
use Rattle.cal_model.specs.declared.request.Event.{Event}
use Rattle.cal_model.specs.declared.row.Row.{Row}
use Rattle.cal_model.specs.History.Journal.{Entry}
use Rattle.cal_model.specs.History.Origins.{Origins, AreLive}
use Rattle.cal_model.specs.History.RightPieces.{IsRight}
use Rattle.cal_model.specs.Instances.Rows.{rows_in}
use Rattle.cal_model.specs.Objects.ObjectReading.{read_object}
use Rattle.cal_model.specs.Pieces.PieceLists.{rows_at}
use Rattle.cal_model.specs.State.ServerState.{Directory, Calendar, ServerState, calendar_at, octets_at}
use Rattle.cal_model.specs.State.SoundStates.{IsSound}
use Rattle.cal_model.proofs.Pieces.FoundPieces.{right_if_found}
use Rattle.object_walk.specs.WalkedObjects.{objects_at}
use Rattle.dav_reports.specs.CalendarObjects.{IsHeldRight, AreHeldRight}
use Rattle.dav_reports.specs.PieceRows.{Held}
use Rattle.dav_reports.proofs.QueryWalks.{AreEntriesOf, entries_found}
use Rattle.cal_book.specs.Answering.ReadingCost.{reading_cost}
use Rattle.cal_book.specs.Cores.{HasLiveOctets}

module _ (journal : List Entry) (origins : Origins) (state : ServerState) (pieces : List Piece) (live : AreLive journal origins) (octets : HasLiveOctets journal state)
    (right : AllByRecursion (IsRight journal) pieces) where
  abbrev piece_of : ℕ → ℤ → List Row → Piece
  piece_of origin window rows = record { origin = origin; window = window; rows = rows }

  -- the rows of a piece are those of the object at its place
  found_right : (home : ℕ) (calendar object text : List ℕ) (origin : ℕ) (read : Object) (window : ℤ) (rows : List Row) → origins home calendar object ≡ Some origin
      → octets_at state home calendar object ≡ Some text → read_object text ≡ Ok read → rows_at origin window pieces ≡ Some rows → rows ≡ rows_in read window
  found_right home calendar object text origin read window rows known is reading found =
      let piece : IsRight journal (piece_of origin window rows) = right_if_found (λ o w rs. IsRight journal (piece_of o w rs)) origin window rows pieces right found in
      let placed = live.known home calendar object origin known in
      let there : Some text ≡ Some placed.0 = sym is ∙ octets origin _ placed.1 in
      let same : Some piece.placed ≡ Some (record { home = home; calendar = calendar; object = object; octets = placed.0 }) = sym piece.live ∙ placed.1 in
      let text_is : piece.placed.octets ≡ text = cc in
      let read_is : Ok read ≡ Ok piece.object = sym reading ∙ ap read_object (sym text_is) ∙ piece.reading in
      let one : piece.object ≡ read = cc in
      piece.rows ∙ ap (λ (o : Object). rows_in o window) one

  entries_right : (home : ℕ) (calendar : List ℕ) (c : Calendar) → calendar_at state home calendar ≡ Some c → (entries : Named (List ℕ)) → AreEntriesOf c entries
      → AllByRecursion (IsHeldRight (λ origin window. rows_at origin window pieces) (origins home calendar)) entries
  entries_right home calendar c there [] are = tt
  entries_right home calendar c there (entry ∷ entries) are = (
    (λ origin read known reading window rows found.
        found_right home calendar entry.0 entry.1 origin read window rows known (ap (option_and_then (λ (k : Calendar). value_at k.objects entry.0)) there ∙ are.0) reading found),
    entries_right home calendar c there entries are.1,
  )

  -- What is held of the objects of a calendar are their rows.
  pub AreHeldRight-right : (directory : Directory) → IsSound directory state → (home : ℕ) (calendar : List ℕ) → AreHeldRight (λ origin window. rows_at origin window pieces) origins state home calendar
  AreHeldRight-right directory sound home calendar = by (calendar_at state home calendar) refl where
    by : (o : Option Calendar) → calendar_at state home calendar ≡ o → AreHeldRight (λ origin window. rows_at origin window pieces) origins state home calendar
    by None there =
        subst (λ o. AllByRecursion (IsHeldRight (λ origin window. rows_at origin window pieces) (origins home calendar)) (flat_map (λ (c : Calendar). c.objects) (option_to_list o))) (sym there) tt
    by (Some c) there = entries_right home calendar c there (objects_at state home calendar) (entries_found directory state home calendar c sound there)

-- Live origins are those of the journal, and no others.
pub AreLive-same : (journal : List Entry) (a b : Origins) → AreLive journal a → AreLive journal b → a ≡ b
AreLive-same journal a b is other = λ i home calendar object. (at home calendar object (a home calendar object) refl) i where
  none : (home : ℕ) (calendar object : List ℕ) (o : Option ℕ) → b home calendar object ≡ o → a home calendar object ≡ None → None ≡ b home calendar object
  none home calendar object None e absent = sym e
  none home calendar object (Some n) e absent = absurd (let there = is.live n _ (other.known home calendar object n e).1 in let both : Some n ≡ None = sym there ∙ absent in cc)

  at : (home : ℕ) (calendar object : List ℕ) (o : Option ℕ) → a home calendar object ≡ o → a home calendar object ≡ b home calendar object
  at home calendar object None e = e ∙ none home calendar object (b home calendar object) refl e
  at home calendar object (Some n) e = e ∙ sym (other.live n _ (is.known home calendar object n e).1)

-- What is held is one where it is the same of each object and window, and then to read costs no more.
pub held-same : (a b : Held) → ((origin : ℕ) (window : ℤ) → a origin window ≡ b origin window) → a ≡ b
held-same a b same = λ i origin window. (same origin window) i

no_more : (m n : ℕ) → m ≡ n → m ≤ n
no_more m n same = omega arith

pub reading-no_more : (a b : Held) → ((origin : ℕ) (window : ℤ) → a origin window ≡ b origin window) → (origins : Origins) (directory : Directory) (state : ServerState) (event : Event)
    → reading_cost a origins directory state event ≤ reading_cost b origins directory state event
reading-no_more a b same origins directory state event =
    no_more (reading_cost a origins directory state event) (reading_cost b origins directory state event) (ap (λ (held : Held). reading_cost held origins directory state event) (held-same a b same))
