-- What looks share stays behind its entries where more come, and is the state of now where it followed them all.
use Rattle.std.proofs.Common.{◌≡◌, ℕ, ◌+◌, ◌≤◌, List, [], ◌++◌, length, take, sym, ap, ◌∙◌, subst, arith, length-append}
use Rattle.std.specs.Prelude.{Result, Ok, Err, IfOk}
use Rattle.std.proofs.lemmas.List.{take-append-le, take_all}
use Rattle.cal_model.specs.History.Journal.{Entry, replay}
use Rattle.cal_model.specs.History.Origins.{Origins, AreLive, AreOrigins}
use Rattle.cal_model.specs.State.ServerState.{Directory, ServerState, directory_of, opening_state}
use Rattle.cal_model.specs.State.UserNames.{AreToldApart}
use Rattle.cal_model.specs.Users.UsersFile.{Users}
use Rattle.cal_journal.specs.Behind.{IsBehind}
use Rattle.collections.specs.Kept.{Kept as KeptStore, state_of, users_of, origins_of}
use Rattle.collections.specs.Stores.{HaveOrigins}
use Rattle.cal_book.specs.Keeping.KeptHistories.{Kept, IsHistory, IsShownAt, IsShownNow, directory_in, state_in}
use Rattle.cal_book.proofs.Showing.ApartLaws.{live-apart}

-- The start: users that are shared twice, and no entries
pub opening_history : (users given shown_given : Users) (store shown : KeptStore) (journal : List Entry) → AreToldApart (directory_of users) → journal ≡ []
    → given ≡ users → store.users ≡ given → state_of store ≡ opening_state (directory_of given) → AreLive [] (origins_of store)
    → shown_given ≡ users → shown.users ≡ shown_given → state_of shown ≡ opening_state (directory_of shown_given) → AreLive [] (origins_of shown) → IsHistory users store journal shown 0
opening_history users given shown_given store shown journal told none is same state live shown_is shown_same shown_state shown_live =
    subst (λ (entries : List Entry). IsHistory users store entries shown 0) (sym none) (record {
      step = record {
        same = ap directory_of (same ∙ is);
        told = told;
        legal = tt;
        sound = λ n entry within. absurd (omega (arith, within));
        state_is = state ∙ ap (λ (u : Users). opening_state (directory_of u)) is;
        live = live;
      };
      shown_at = record {
        same = ap directory_of (shown_same ∙ shown_is);
        behind = record { within = omega arith; state_is = shown_state ∙ ap (λ (u : Users). opening_state (directory_of u)) shown_is; live = shown_live };
      };
    })

-- More entries

still_behind : (directory : Directory) (journal more : List Entry) (n : ℕ) (state : ServerState) (origins : Origins) → IsBehind directory journal n state origins → IsBehind directory (journal ++ more) n state origins
still_behind directory journal more n state origins behind =
    let same : take n (journal ++ more) ≡ take n journal = take-append-le n journal more behind.within in
    record {
      within = let within = behind.within in omega (arith, within, length-append journal more);
      state_is = behind.state_is ∙ sym (ap (replay directory) same);
      live = subst (λ (entries : List Entry). AreLive entries origins) (sym same) behind.live;
    }

pub still_shown : (users : Users) (journal more : List Entry) (shown : KeptStore) (followed : ℕ) → IsShownAt users shown followed journal → IsShownAt users shown followed (journal ++ more)
still_shown users journal more shown followed is = record { same = is.same; behind = still_behind (directory_of users) journal more followed (state_of shown) (origins_of shown) is.behind }

-- All entries that there are

module _ (directory : Directory) (journal : List Entry) (n : ℕ) (state : ServerState) (origins : Origins) (behind : IsBehind directory journal n state origins) (all : length journal ≤ n) where
  whole : take n journal ≡ journal
  whole = take_all n journal all

  pub state_of_now : state ≡ replay directory journal
  state_of_now = behind.state_is ∙ ap (replay directory) whole

  pub live_now : AreLive journal origins
  live_now = subst (λ (entries : List Entry). AreLive entries origins) whole behind.live

-- origins of a journal's live objects tell the objects of its state apart
pub origins_apart : (journal : List Entry) (state : ServerState) (origins : Origins) → AreLive journal origins → HaveOrigins state origins → AreOrigins state origins
origins_apart journal state origins live have = record { there = have.there; absent = have.absent; distinct = (live-apart journal origins live).distinct }

-- a look at a history, in the words of what it was asked for
pub shown_now : {E : Type 0} (kept : Kept) (directory : Directory) (result : Result KeptStore E) → directory ≡ directory_in kept → replay directory kept.journal ≡ state_in kept
    → IfOk result (λ look. users_of look ≡ directory) → IfOk result (λ look. state_of look ≡ replay directory kept.journal) → IfOk result (λ look. AreLive kept.journal (origins_of look)) → IfOk result (IsShownNow kept)
shown_now kept directory (Ok look) same now users state live = record { directory = users ∙ same; state = state ∙ now; origins = live }
shown_now kept directory (Err e) same now users state live = users
