-- A store whose homes are changed, as contracts see it.
use Rattle.std.proofs.Common.{◌≡◌, ℕ, List, sym, ap, ◌∙◌, subst}
use Rattle.std.specs.Prelude.{Result, Ok, Err, OnOk, OnErr}
use Rattle.cal_model.specs.Users.UsersFile.{Users}
use Rattle.cal_model.specs.State.Changes.{Change, effect}
use Rattle.cal_model.specs.History.Origins.{origins_after}
use Rattle.collections.specs.declared.home.KeptHome.{KeptHome}
use Rattle.collections.specs.Kept.{Kept, state_of, origins_of}
use Rattle.collections.specs.Stores.{IsStore}
use Rattle.collections.proofs.MadeLemmas.{IsMade}

abbrev pub kept : Users → List KeptHome → Kept
kept users homes = record { users = users; homes = homes }

-- what holds of stores, where the homes are changed or stay
pub store_after : {T E : Type 0} (users : Users) (homes homes' made : List KeptHome) (result : Result T E) → OnOk result (homes' ≡ made) → OnErr result (homes' ≡ homes)
    → IsStore (record { users = users; homes = made }) → IsStore (record { users = users; homes = homes }) → IsStore (record { users = users; homes = homes' })
store_after users homes homes' made (Ok x) ok err store before = subst (λ hs. IsStore (kept users hs)) (sym ok) store
store_after users homes homes' made (Err e) ok err store before = subst (λ hs. IsStore (kept users hs)) (sym err) before

module _ (users : Users) (homes homes' : List KeptHome) (now : Kept) (is : ◌≡◌ {A = Kept} (record { users = users; homes = homes }) now) where
  module _ (made : List KeptHome) (change : Change) (origin : ℕ) (done : IsMade (record { users = users; homes = homes }) (record { users = users; homes = made }) change origin) where
    pub state_shown : homes' ≡ made → state_of (record { users = users; homes = homes' }) ≡ effect change (state_of now)
    state_shown e = ap (λ hs. state_of (kept users hs)) e ∙ (done.state ∙ ap (λ k. effect change (state_of k)) is)

    pub origins_shown : homes' ≡ made → (home : ℕ) (calendar object : List ℕ) → origins_of (record { users = users; homes = homes' }) home calendar object ≡ origins_after change origin (origins_of now) home calendar object
    origins_shown e home calendar object =
        ap (λ hs. origins_of (kept users hs) home calendar object) e ∙ (done.origins home calendar object ∙ ap (λ k. origins_after change origin (origins_of k) home calendar object) is)

    pub store_shown : homes' ≡ made → IsStore (record { users = users; homes = homes' })
    store_shown e = subst (λ hs. IsStore (kept users hs)) (sym e) done.store
