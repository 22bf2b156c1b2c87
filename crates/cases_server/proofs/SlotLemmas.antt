-- What is left of the claim that a worker holds, when the journal grows.
use Rattle.std.proofs.Common.{◌≡◌, ◌≢◌, ℕ, zero, suc, List, [], ◌∷◌, ◌++◌, Option, Some, refl, sym, ap, subst, ◌∙◌, inl, inr}
use Rattle.std.specs.Prelude.{option_and_then, slice_get}
use Rattle.std.proofs.lemmas.Bool.Decides.{eqb_tells}
use Rattle.std.proofs.lemmas.List.{append-nil}
use Rattle.cal_model.specs.declared.request.Event.{Event}
use Rattle.cal_model.specs.History.Claims.{Work}
use Rattle.cal_model.specs.History.Journal.{Entry, replay}
use Rattle.cal_model.specs.History.LiveObjects.{Placed, placed_by}
use Rattle.cal_model.specs.State.ServerState.{directory_of}
use Rattle.cal_model.specs.Users.UsersFile.{Users}
use Rattle.cal_book.specs.EventSteps.{entries_made, work_after}
use Rattle.cal_book.specs.Publishing.{IsClaimIn}
use Rattle.cal_book.specs.declared.claims.Claim.{Claim}
use Rattle.cases_server.specs.Slots.{IsSlotIn}
use Rattle.cases_server.specs.declared.slot.Slot.{Slot}
use Rattle.cases_server.specs.declared.slot.Slot.TheVariants.{Empty, Claimed, Expanded}

-- an entry that is there stays
entry_stays : (journal more : List Entry) (n : ℕ) (placed : Placed) → option_and_then (λ (entry : Entry). placed_by entry.change) (slice_get journal n) ≡ Some placed
    → option_and_then (λ (entry : Entry). placed_by entry.change) (slice_get (journal ++ more) n) ≡ Some placed
entry_stays [] more n placed e = absurd (cc)
entry_stays (x ∷ xs) more zero placed e = e
entry_stays (x ∷ xs) more (suc n) placed e = entry_stays xs more n placed e

pub slot_stays : (journal more : List Entry) (slot : Slot) → IsSlotIn journal slot → IsSlotIn (journal ++ more) slot
slot_stays journal more Empty h = tt
slot_stays journal more (Claimed claim) h = entry_stays journal more claim.origin _ h
slot_stays journal more (Expanded expanded) h = entry_stays journal more expanded.claim.origin _ h

-- a request lets the journal grow
pub grows : (users : Users) (event : Event) (old new : Work) (status : ℕ) → (status ≢ 503 → new ≡ work_after users event old) → (status ≡ 503 → new ≡ old)
    → (more : List Entry) × (new.journal ≡ old.journal ++ more)
grows users event old new status worked kept = elim (eqb_tells status 503) [
  | inl same ↦ ([], ap (λ (w : Work). w.journal) (kept same.1) ∙ sym (append-nil old.journal))
  | inr other ↦ (entries_made users (replay (directory_of users) old.journal) event, ap (λ (w : Work). w.journal) (worked other.1))
]
