-- What the status of `slot` says of the words, by what they say and by the end behind the users file.
use Rattle.std.proofs.Common.{◌≡◌, ℕ, List, sym, subst, ◌∙◌, arith, inl, inr}
use Rattle.std.specs.Prelude.{◌⊎◌, Option, Some, None}
use Rattle.cal_base.specs.World.Outside.{Adds}
use Rattle.cal_model.specs.History.Journal.{Entry}
use Rattle.cal_model.specs.State.ServerState.{directory_of}
use Rattle.cal_model.specs.Users.UsersFile.{Users}
use Rattle.cal_keeper.specs.Disks.CrashModel.{Past}
use Rattle.cal_book.specs.EventSteps.{state_behind}
use Rattle.cal_script.specs.UsersTaken.{AreUsersAt}
use Rattle.command_ends.specs.declared.ScriptEnd.{ScriptEnd}
use Rattle.clap.specs.Words.{Text}
use Rattle.command_words.specs.SlotSaid.{IsSaidBy}
use Rattle.command_words.specs.SlotWords.{users_path}
use Rattle.command_words.specs.declared.slot_words.SlotWords.{SlotWords}
use Rattle.caldav_server.specs.SlotEnds.{HasJournal, IsAsked, IsBefore, IsEnd, IsNotTaken, IsSeenEnd, Looked, WroteFront, asked_in}
use Rattle.slot_times.specs.SlotTimes.{printed, refused_word}

-- a status that comes neither before the journal nor for want of memory
not_before : (status wanted : ℕ) → status ≡ wanted → (wanted ≡ 3 → ⊥) → (wanted ≡ 4 → ⊥) → (wanted ≡ 7 → ⊥) → IsBefore status → ⊥
not_before status wanted is three four seven (inl e) = three (sym is ∙ e)
not_before status wanted is three four seven (inr (inl e)) = four (sym is ∙ e)
not_before status wanted is three four seven (inr (inr e)) = seven (sym is ∙ e)

-- nor one of those at which the state is not looked at
not_blind : (status wanted : ℕ) → status ≡ wanted → (wanted ≡ 7 → ⊥) → (wanted ≡ 8 → ⊥) → (wanted ≡ 9 → ⊥) → (status ≡ 7) ⊎ (status ≡ 8) ⊎ (status ≡ 9) → ⊥
not_blind status wanted is seven eight nine (inl e) = seven (sym is ∙ e)
not_blind status wanted is seven eight nine (inr (inl e)) = eight (sym is ∙ e)
not_blind status wanted is seven eight nine (inr (inr e)) = nine (sym is ∙ e)

module _ {D : Type 0} (past : D → Option Past) (faults : D → ℕ) (words : List Text) (said : SlotWords) (content : List ℕ → Option (List ℕ)) (disk left : D) (written after : Option (List ℕ)) (end : ScriptEnd) (is_said : IsSaidBy words said) where
  abbrev IsServing : Users → Type 0
  IsServing users = AreUsersAt (Some said.users.now) content users

  abbrev IsEnded : Users → Type 0
  IsEnded users = IsEnd past faults users disk left (asked_in said) written after end

  abbrev IsSeen : Users → List Entry → Type 0
  IsSeen users journal = IsSeenEnd (directory_of users) (state_behind users journal) (asked_in said) written after end

  abbrev Behind : Type 0
  Behind = IsBefore end.status ⊎ ((users : Users) × IsServing users × IsEnded users)

  served : (users : Users) → IsServing users → AreUsersAt (Some (users_path words)) content users
  served users taken = subst (λ (path : List ℕ). AreUsersAt (Some path) content users) is_said.users_are taken

  asked : IsAsked words (asked_in said)
  asked = record {
    user_is = is_said.user_is;
    range_is = is_said.range_is;
    minutes_are = is_said.minutes_are;
    most_are = is_said.most_are;
    paths_are = is_said.paths_are;
  }

  -- the users file is taken where a call of the disk failed, and where the file is not taken
  pub users_taken : Behind → end.status ≡ 8 → (users : Users) × AreUsersAt (Some (users_path words)) content users
  users_taken (inl early) is = absurd (not_before end.status 8 is (λ e. omega (arith, e)) (λ e. omega (arith, e)) (λ e. omega (arith, e)) early)
  users_taken (inr (users, taken, h)) is = (users, served users taken)

  pub not_taken : Behind → end.status ≡ 9 → (users : Users) × AreUsersAt (Some (users_path words)) content users × IsNotTaken past faults users disk left end.place
  not_taken (inl early) is = absurd (not_before end.status 9 is (λ e. omega (arith, e)) (λ e. omega (arith, e)) (λ e. omega (arith, e)) early)
  not_taken (inr (users, taken, h)) is = (users, served users taken, h.not_taken is)

  looked : (users : Users) (journal : List Entry) (refused : Option ℕ) (P : List ℕ → Type 0) → IsServing users → HasJournal users journal (past disk)
      → refused_word (directory_of users) (state_behind users journal) (asked_in said) ≡ refused → P (printed (directory_of users) (state_behind users journal) (asked_in said))
      → Looked words content (past disk) refused P
  looked users journal refused P taken stood word so = record {
    users = users;
    journal = journal;
    asked = asked_in said;
    served = served users taken;
    stood = stood;
    is_asked = asked;
    word = word;
    so = so;
  }

  pub word_refused : (P : Type 0) → P → Behind → end.status ≡ 10 → Looked words content (past disk) (Some end.place) (λ _. P)
  word_refused P p (inl early) is = absurd (not_before end.status 10 is (λ e. omega (arith, e)) (λ e. omega (arith, e)) (λ e. omega (arith, e)) early)
  word_refused P p (inr (users, taken, h)) is = by h.looked where
    by : ((end.status ≡ 7) ⊎ (end.status ≡ 8) ⊎ (end.status ≡ 9)) ⊎ ((journal : List Entry) × HasJournal users journal (past disk) × IsSeen users journal) → Looked words content (past disk) (Some end.place) (λ _. P)
    by (inl blind) = absurd (not_blind end.status 10 is (λ e. omega (arith, e)) (λ e. omega (arith, e)) (λ e. omega (arith, e)) blind)
    by (inr (journal, stood, seen)) = looked users journal (Some end.place) (λ _. P) taken stood (seen.refused is) p

  pub done : Behind → end.status ≡ 0 → Looked words content (past disk) None (λ text. Adds written text after)
  done (inl early) is = absurd (not_before end.status 0 is (λ e. omega (arith, e)) (λ e. omega (arith, e)) (λ e. omega (arith, e)) early)
  done (inr (users, taken, h)) is = by h.looked where
    by : ((end.status ≡ 7) ⊎ (end.status ≡ 8) ⊎ (end.status ≡ 9)) ⊎ ((journal : List Entry) × HasJournal users journal (past disk) × IsSeen users journal) → Looked words content (past disk) None (λ text. Adds written text after)
    by (inl blind) = absurd (not_blind end.status 0 is (λ e. omega (arith, e)) (λ e. omega (arith, e)) (λ e. omega (arith, e)) blind)
    by (inr (journal, stood, seen)) = looked users journal None (λ text. Adds written text after) taken stood (seen.done is).0 (seen.done is).1

  pub in_part : Behind → end.status ≡ 5 → Looked words content (past disk) None (WroteFront written after)
  in_part (inl early) is = absurd (not_before end.status 5 is (λ e. omega (arith, e)) (λ e. omega (arith, e)) (λ e. omega (arith, e)) early)
  in_part (inr (users, taken, h)) is = by h.looked where
    by : ((end.status ≡ 7) ⊎ (end.status ≡ 8) ⊎ (end.status ≡ 9)) ⊎ ((journal : List Entry) × HasJournal users journal (past disk) × IsSeen users journal) → Looked words content (past disk) None (WroteFront written after)
    by (inl blind) = absurd (not_blind end.status 5 is (λ e. omega (arith, e)) (λ e. omega (arith, e)) (λ e. omega (arith, e)) blind)
    by (inr (journal, stood, seen)) = looked users journal None (WroteFront written after) taken stood (seen.in_part is).0 (seen.in_part is).1
