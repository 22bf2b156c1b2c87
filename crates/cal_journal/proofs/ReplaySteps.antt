-- A journal entry by entry: what a further one does to the state and to the origins.
use Rattle.std.proofs.Common.{◌≡◌, ℕ, zero, suc, ◌+◌, ◌<◌, List, [], ◌∷◌, ◌++◌, length, take, get_or, map, refl, sym, ap, ◌∙◌, subst, arith, length-take-le}
use Rattle.std.proofs.lemmas.List.{length-map, take_more}
use Rattle.cal_model.specs.State.ServerState.{Directory, ServerState, opening_state}
use Rattle.cal_model.specs.State.UserNames.{AreToldApart}
use Rattle.cal_model.specs.State.Changes.{effect}
use Rattle.cal_model.specs.State.SoundStates.{IsSoundChange}
use Rattle.cal_model.specs.Serving.EventReplies.{state_after}
use Rattle.cal_model.specs.History.Journal.{Entry, asked, replay, replay_from, IsAcceptedAt, IsLegal, IsLegalFrom}
use Rattle.cal_model.specs.History.KeptChanges.{IsAcceptable}
use Rattle.cal_model.specs.History.Origins.{Origins, origins_after, AreLive}
use Rattle.cal_model.proofs.History.JournalLaws.{replay_from-append}
use Rattle.cal_model.proofs.History.OriginLaws.{AreLive-push}
use Rattle.cal_journal.specs.declared.entries.Entry.{Entry as KeptEntry}
use Rattle.cal_journal.specs.Behind.{IsBehind}
use Rattle.cal_journal.specs.KeptEntries.{kept_entry, AreSound}
use Rattle.cal_journal.proofs.OwnChanges.{asked_is_own, state_after-effect}

-- each entry of a legal journal is accepted behind those before it
accepted_from : (directory : Directory) (state : ServerState) (entries : List Entry) (n : ℕ) (other : Entry) → IsLegalFrom directory state entries → n < length entries
    → IsAcceptedAt directory (replay_from directory state (take n entries)) (get_or entries n other)
accepted_from directory state [] n other legal within = absurd (omega (arith, within))
accepted_from directory state (entry ∷ entries) zero other legal within = legal.0
accepted_from directory state (entry ∷ entries) (suc n) other legal within =
    accepted_from directory (state_after directory state (asked directory entry)) entries n other legal.1 (omega (arith, within))

get_or-kept : (entries : List KeptEntry) (n : ℕ) (entry : KeptEntry) → n < length entries → entry ≡ get_or entries n entry → get_or (map kept_entry entries) n (kept_entry entry) ≡ kept_entry entry
get_or-kept [] n entry within is = absurd (omega (arith, within))
get_or-kept (first ∷ entries) zero entry within is = ap kept_entry (sym is)
get_or-kept (first ∷ entries) (suc n) entry within is = get_or-kept entries n entry (omega (arith, within)) is

module _ (directory : Directory) (entries : List KeptEntry) (n : ℕ) (entry : KeptEntry) (told : AreToldApart directory) (legal : IsLegal directory (map kept_entry entries))
    (within : n < length entries) (is : entry ≡ get_or entries n entry) where
  abbrev kept : Entry
  kept = kept_entry entry

  here : get_or (map kept_entry entries) n kept ≡ kept
  here = get_or-kept entries n entry within is

  accepted_here : IsAcceptedAt directory (replay directory (take n (map kept_entry entries))) kept
  accepted_here =
      subst (IsAcceptedAt directory (replay directory (take n (map kept_entry entries)))) here
      (accepted_from directory (opening_state directory) (map kept_entry entries) n kept legal (omega (arith, within, length-map entries kept_entry)))

  -- the change of the next entry may be made
  pub IsAcceptable-next : (state : ServerState) (origins : Origins) → IsBehind directory (map kept_entry entries) n state origins → IsAcceptable directory state kept.change
  IsAcceptable-next state origins behind =
      let done : IsAcceptedAt directory state kept = subst (λ s. IsAcceptedAt directory s kept) (sym behind.state_is) accepted_here in
      record {
        entry = kept;
        entry_is = refl;
        asked_is = asked_is_own directory state kept told done;
        accepted_is = done;
      }

  -- and brings what keeps states sound
  pub IsSoundChange-next : AreSound directory (map kept_entry entries) → IsSoundChange directory kept.change
  IsSoundChange-next sound = subst (λ (e : Entry). IsSoundChange directory e.change) here (sound n kept (omega (arith, within, length-map entries kept_entry)))

  one_more : take (n + 1) (map kept_entry entries) ≡ take n (map kept_entry entries) ++ kept ∷ []
  one_more =
      take_more (map kept_entry entries) n kept (omega (arith, within, length-map entries kept_entry)) ∙ ap (λ e. take n (map kept_entry entries) ++ e ∷ []) here

  -- and then the store has what it has behind that entry
  pub IsBehind-next : (state : ServerState) (origins origins' : Origins) → IsBehind directory (map kept_entry entries) n state origins
      → ((home : ℕ) (calendar object : List ℕ) → origins' home calendar object ≡ origins_after kept.change n origins home calendar object)
      → IsBehind directory (map kept_entry entries) (n + 1) (effect kept.change state) origins'
  IsBehind-next state origins origins' behind made =
      let front = take n (map kept_entry entries) in
      let size : length front ≡ n = length-take-le n (map kept_entry entries) (omega (arith, within, length-map entries kept_entry)) in
      record {
        within = omega (arith, within, length-map entries kept_entry);
        state_is =
            ap (effect kept.change) behind.state_is
            ∙ sym (state_after-effect directory (replay directory front) kept told accepted_here)
            ∙ sym (replay_from-append directory (opening_state directory) front (kept ∷ []))
            ∙ ap (replay directory) (sym one_more);
        live =
            subst (λ them. AreLive them origins') (sym one_more)
            (subst (AreLive (front ++ kept ∷ [])) (λ i home calendar object. (ap (λ m. origins_after kept.change m origins home calendar object) size ∙ sym (made home calendar object)) i)
            (AreLive-push front kept origins behind.live));
      }
