-- What the command `slot` tells of the state of a book, as a view shows it.
use Rattle.std.proofs.Common.{◌≡◌, ℕ, List, Option, Ok, Err, refl, subst, arith, inl, inr}
use Rattle.std.specs.Prelude.{Result}
use Rattle.cal_base.specs.World.Outside.{Adds}
use Rattle.cal_model.specs.declared.row.Range.{Range}
use Rattle.cal_model.specs.State.ServerState.{Directory, ServerState}
use Rattle.caldav_server.specs.SlotEnds.{IsSeenEnd, WroteFront}
use Rattle.slot_times.specs.SlotAnswers.{IsSeenAs}
use Rattle.slot_times.specs.SlotTimes.{Asked}
use Rattle.slot_times.specs.declared.slot_calendars.Unseen.{Unseen}
use Rattle.slot_times.specs.declared.slot_calendars.Unseen.TheVariants as unseen

-- what is seen by a view is seen in the book
pub seen_by_view : (directory shown : Directory) (state seen : ServerState) (user : List ℕ) (range : Range) (minutes most : ℕ) (paths texts : List (List ℕ)) (text : Result (List ℕ) Unseen) → shown ≡ directory → seen ≡ state → texts ≡ paths
    → IsSeenAs shown seen (record { user = user; range = range; minutes = minutes; most = most; paths = texts }) text
    → IsSeenAs directory state (record { user = user; range = range; minutes = minutes; most = most; paths = paths }) text
seen_by_view directory shown state seen user range minutes most paths texts text same_directory same_state same_paths h =
    subst (λ (d : Directory). IsSeenAs d state (record { user = user; range = range; minutes = minutes; most = most; paths = paths }) text) same_directory
    (subst (λ (s : ServerState). IsSeenAs shown s (record { user = user; range = range; minutes = minutes; most = most; paths = paths }) text) same_state
    (subst (λ (ps : List (List ℕ)). IsSeenAs shown seen (record { user = user; range = range; minutes = minutes; most = most; paths = ps }) text) same_paths h))

-- Ends

module _ (directory : Directory) (state : ServerState) (asked : Asked) (written after : Option (List ℕ)) where
  -- the times were printed, or a front of them
  pub printed_end : (text : List ℕ) → IsSeenAs directory state asked (Ok text) → Adds written text after → IsSeenEnd directory state asked written after (record { status = 0; place = 0 })
  printed_end text seen adds = record {
    known = inl refl;
    refused = λ is. absurd (omega (arith, is));
    done = λ is. (seen.0, subst (λ (t : List ℕ). Adds written t after) seen.1 adds);
    in_part = λ is. absurd (omega (arith, is));
    placed = inr refl;
  }

  pub front_end : (text : List ℕ) → IsSeenAs directory state asked (Ok text) → WroteFront written after text → IsSeenEnd directory state asked written after (record { status = 5; place = 0 })
  front_end text seen front = record {
    known = inr (inl refl);
    refused = λ is. absurd (omega (arith, is));
    done = λ is. absurd (omega (arith, is));
    in_part = λ is. (seen.0, subst (WroteFront written after) seen.1 front);
    placed = inr refl;
  }

  -- a word is refused
  pub word_end : (place : ℕ) → IsSeenAs directory state asked (Err (unseen.Word place)) → IsSeenEnd directory state asked written after (record { status = 10; place = place })
  word_end place seen = record {
    known = inr (inr (inr refl));
    refused = λ is. seen;
    done = λ is. absurd (omega (arith, is));
    in_part = λ is. absurd (omega (arith, is));
    placed = inl refl;
  }

  -- there was no memory
  pub unseen_end : IsSeenEnd directory state asked written after (record { status = 7; place = 0 })
  unseen_end = record {
    known = inr (inr (inl refl));
    refused = λ is. absurd (omega (arith, is));
    done = λ is. absurd (omega (arith, is));
    in_part = λ is. absurd (omega (arith, is));
    placed = inr refl;
  }
