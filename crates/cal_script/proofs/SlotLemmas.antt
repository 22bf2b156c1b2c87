-- What became of a claim that was asked for, or that ended.
use Rattle.std.proofs.Common.{◌≡◌, Option, Some, IfSome, refl, sym, ap, subst, ◌∙◌}
use Rattle.std.specs.Prelude.{option_map}
use Rattle.cal_model.specs.History.Claims.{Work, next_claim, with_claim}
use Rattle.cal_book.specs.Cores.{Core}
use Rattle.cal_book.specs.Publishing.{IsClaimIn, IsPublished, pair_of_claim, claim_ended}
use Rattle.cal_book.specs.declared.claims.Claim.{Claim}
use Rattle.cal_book.specs.declared.claims.Expanded.{Expanded as ExpandedClaim}
use Rattle.cal_book.specs.declared.claims.Publish.{Publish}
use Rattle.cal_book.specs.declared.claims.Publish.TheVariants.{Published, Stale, NoMemory}
use Rattle.cal_script.specs.declared.slots.Slot.TheVariants.{Empty, Claimed}
use Rattle.cal_script.specs.SlotTurns.{TakesClaim, EndsClaim}

-- the next claim is the one that was found
pub next_is : (work : Work) (found other : Option Claim) → found ≡ other → option_map pair_of_claim found ≡ next_claim work → next_claim work ≡ option_map pair_of_claim other
next_is work found other e next = sym next ∙ ap (option_map pair_of_claim) e

-- a claim that was given
pub taken : (work now : Work) (found : Option Claim) (claim : Claim) → found ≡ Some claim → next_claim work ≡ Some (pair_of_claim claim)
    → IfSome found (λ c. IsClaimIn work.journal c) → now ≡ record work { out = with_claim (pair_of_claim claim) work.out } → TakesClaim work (Claimed claim) now
taken work now found claim e next of_journal out = record {
  claim = claim;
  next = next;
  of_journal = subst (λ o. IfSome o (λ c. IsClaimIn work.journal c)) e of_journal;
  slot = refl;
  work_is = out;
}

-- the rows of a claim were handed in, and it ended
pub published_ends : (expanded : ExpandedClaim) (old new : Work) (what : Publish) → IsPublished expanded old new what → EndsClaim (pair_of_claim expanded.claim) old Empty new
published_ends expanded old new Published h = record { slot = refl; journal = ap (λ (w : Work). w.journal) h.1; out = ap (λ (w : Work). w.out) h.1 }
published_ends expanded old new (Stale found) h = record { slot = refl; journal = ap (λ (w : Work). w.journal) h.2; out = ap (λ (w : Work). w.out) h.2 }
published_ends expanded old new NoMemory h = record { slot = refl; journal = ap (λ (w : Work). w.journal) h.1; out = ap (λ (w : Work). w.out) h.1 }

-- it was given up
pub abandoned_ends : (claim : Claim) (old new : Core) → new ≡ record old { work = claim_ended claim old.work } → EndsClaim (pair_of_claim claim) old.work Empty new.work
abandoned_ends claim old new e = record { slot = refl; journal = ap (λ (b : Core). b.work.journal) e; out = ap (λ (b : Core). b.work.out) e }
