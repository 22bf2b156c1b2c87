-- The slots of workers: what each holds of the book's claims, and what a worker's frame does with one.
use Rattle.std.specs.Prelude.{◌≡◌, ◌⊎◌, List, Option, Some, None}
use Rattle.std.specs.List.{Any, Contains}
use Rattle.cal_model.specs.History.Claims.{Pair, Work, next_claim, with_claim, without_claim}
use Rattle.cal_model.specs.History.Journal.{Entry}
use Rattle.cal_book.specs.Publishing.{IsClaimIn, pair_of_claim}
use Rattle.cal_book.specs.declared.claims.Claim.{Claim}
use Rattle.cal_book.specs.declared.claims.Expanded.{Expanded as ExpandedClaim}
use Rattle.cal_script.specs.declared.head.Action.{Action}
use Rattle.cal_script.specs.declared.head.Action.TheVariants as action
use Rattle.cal_script.specs.declared.slots.Slot.{Slot}
use Rattle.cal_script.specs.declared.slots.Slot.TheVariants.{Empty, Claimed, Expanded}

-- the claim of a slot is one of the journal
abbrev pub IsSlotIn : List Entry → Slot → Type 0
IsSlotIn journal Empty = Unit {0}
IsSlotIn journal (Claimed claim) = IsClaimIn journal claim
IsSlotIn journal (Expanded expanded) = IsClaimIn journal expanded.claim

-- the pair that a slot holds
abbrev pub pair_in : Slot → Option Pair
pair_in Empty = None
pair_in (Claimed claim) = Some (pair_of_claim claim)
pair_in (Expanded expanded) = Some (pair_of_claim expanded.claim)

-- Turns

-- a claim on an empty slot: the next one, or none
pub record TakesClaim (work : Work) (after : Slot) (now : Work) : Type 0 where
  pub claim : Claim
  pub next : next_claim work ≡ Some (pair_of_claim claim)
  pub of_journal : IsClaimIn work.journal claim
  pub slot : after ≡ Claimed claim
  pub work_is : now ≡ record work { out = with_claim (pair_of_claim claim) work.out }

pub record ExpandsClaim (claim : Claim) (after : Slot) : Type 0 where
  pub expanded : ExpandedClaim
  pub same : expanded.claim ≡ claim
  pub slot : after ≡ Expanded expanded

-- nothing happens
abbrev pub Nothing : Slot → Work → Slot → Work → Type 0
Nothing before work after now = (after ≡ before) × (now ≡ work)

-- a claim ends: the pair is no more out, and the slot is empty; the journal is as it was
pub record EndsClaim (pair : Pair) (work : Work) (after : Slot) (now : Work) : Type 0 where
  pub slot : after ≡ Empty
  pub journal : now.journal ≡ work.journal
  pub out : now.out ≡ without_claim pair work.out

-- What a worker's frame does with its slot.
abbrev pub SlotTurn : Action → Slot → Work → Slot → Work → Type 0
SlotTurn action.Claim Empty work after now = TakesClaim work after now ⊎ Nothing Empty work after now
SlotTurn action.Expand (Claimed claim) work after now = (ExpandsClaim claim after ⊎ (after ≡ Claimed claim)) × (now ≡ work)
SlotTurn action.Publish (Expanded expanded) work after now = EndsClaim (pair_of_claim expanded.claim) work after now
SlotTurn action.Abandon (Claimed claim) work after now = EndsClaim (pair_of_claim claim) work after now
SlotTurn action.Abandon (Expanded expanded) work after now = EndsClaim (pair_of_claim expanded.claim) work after now
SlotTurn other before work after now = Nothing before work after now

-- the pairs that are out once the claim of a slot was given up
abbrev pub out_without : Slot → List Pair → List Pair
out_without Empty out = out
out_without (Claimed claim) out = without_claim (pair_of_claim claim) out
out_without (Expanded expanded) out = without_claim (pair_of_claim expanded.claim) out

-- a slot holds the pair
abbrev pub IsHeld : List Slot → Pair → Type 0
IsHeld slots pair = Any (λ slot. pair_in slot ≡ Some pair) slots

-- a pair is one of these, or a slot holds it
abbrev pub IsKeptOrHeld : List Pair → List Slot → Pair → Type 0
IsKeptOrHeld kept slots pair = Contains kept pair ⊎ IsHeld slots pair
