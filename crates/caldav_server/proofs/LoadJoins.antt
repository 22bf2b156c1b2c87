-- Once all passes are joined, each entry of the journal is of one of the sessions, and so about that session's home.
use Rattle.std.proofs.Common.{◌≡◌, ◌≢◌, ℕ, zero, suc, ◌+◌, ◌<◌, ◌≤◌, Bool, true, false, cond, List, [], ◌∷◌, ◌++◌, length, get_or, refl, sym, ◌∙◌, subst, arith, ◌⊎◌, inl, inr}
use Rattle.std.specs.Prelude.{◌==◌}
use Rattle.std.specs.List.{AllByRecursion}
use Rattle.std.proofs.lemmas.Bool.{eq-eqb}
use Rattle.std.proofs.lemmas.Bool.Decides.{eqb_tells}
use Rattle.turn_lock.specs.Journals.{entries_by}
use Rattle.turn_lock.specs.Numbers.{times, as_one, Has}
use Rattle.cal_model.specs.History.Journal.{Entry, asked}
use Rattle.cal_model.specs.State.ServerState.{Directory}
use Rattle.home_laws.specs.Homes.{IsAbout, IsOwnOrApart}
use Rattle.home_laws.specs.LoneSessions.{is_of}

abbrev author : Entry → ℕ
author entry = entry.session

-- the head of some entries is among those of its author, and the rest keeps what holds of all
head-of : (Q : Entry → Type 0) (entry : Entry) (journal : List Entry) (test : Bool) → test ≡ true → AllByRecursion Q (cond test (entry ∷ journal) journal) → Q entry
head-of Q entry journal true is all = all.0
head-of Q entry journal false is all = absurd cc

rest-of : (Q : Entry → Type 0) (entry : Entry) (journal : List Entry) (test : Bool) → AllByRecursion Q (cond test (entry ∷ journal) journal) → AllByRecursion Q journal
rest-of Q entry journal true all = all.1
rest-of Q entry journal false all = all

-- what holds of the entries of each author holds of all entries
by-authors : (ns : List ℕ) (Q : ℕ → Entry → Type 0) (journal : List Entry) → AllByRecursion (λ entry. Has ns (author entry)) journal
    → ((n : ℕ) → Has ns n → AllByRecursion (Q n) (entries_by author n journal)) → AllByRecursion (λ entry. Q (author entry) entry) journal
by-authors ns Q [] among each = tt
by-authors ns Q (entry ∷ journal) among each = (
  head-of (Q (author entry)) entry (entries_by author (author entry) journal) (author entry == author entry) (eq-eqb (author entry) (author entry) refl) (each (author entry) among.0),
  by-authors ns Q journal among.1 (λ n has. rest-of (Q n) entry (entries_by author n journal) (author entry == n) (each n has)),
)

-- Homes

abbrev pub AreAbout : Directory → ℕ → List Entry → Type 0
AreAbout directory home entries = AllByRecursion (λ entry. IsAbout directory (asked directory entry).request home) entries

-- what is no first number is among the others
pub has-rest : (m n : ℕ) (ns : List ℕ) → (m == n) ≡ false → Has (m ∷ ns) n → Has ns n
has-rest m n ns apart has =
    let more : 0 < as_one false + times n ns = subst (λ test. 0 < as_one test + times n ns) apart has in
    let none : as_one false ≡ 0 = refl in
    omega (arith, more, none)

-- what is known of an entry, by whether it is the session's own
abbrev IsSo : Directory → ℕ → Entry → Bool → Type 0
IsSo directory home entry true = IsAbout directory (asked directory entry).request home
IsSo directory home entry false = (other : ℕ) × (home ≢ other) × IsAbout directory (asked directory entry).request other

module _ (directory : Directory) (journal : List Entry) where
  -- the sessions' numbers, the first of the user of this number, and each next one of the next
  abbrev pub OfUsers : ℕ → List ℕ → Type 0
  OfUsers user [] = Unit {0}
  OfUsers user (n ∷ ns) = AreAbout directory user (entries_by author n journal) × OfUsers (user + 1) ns

  -- a number among them is of a user
  found-user : (user : ℕ) (ns : List ℕ) (n : ℕ) → OfUsers user ns → Has ns n → (other : ℕ) × (user ≤ other) × AreAbout directory other (entries_by author n journal)
  found-user user [] n are has = absurd (omega arith)
  found-user user (m ∷ ns) n are has = by (eqb_tells m n) (λ later. found-user (user + 1) ns n are.1 later) where
    by : (((m == n) ≡ true) × (m ≡ n)) ⊎ (((m == n) ≡ false) × (m ≢ n)) → (Has ns n → (other : ℕ) × (user + 1 ≤ other) × AreAbout directory other (entries_by author n journal))
        → (other : ℕ) × (user ≤ other) × AreAbout directory other (entries_by author n journal)
    by (inl same) more = (user, omega arith, subst (λ k. AreAbout directory user (entries_by author k journal)) same.1 are.0)
    by (inr apart) more =
        let found = more (has-rest m n ns apart.0 has) in
        (found.0, omega (arith, found.1), found.2)

  -- one that is not that of a session's own is of another user
  elsewhere : (user : ℕ) (ns : List ℕ) (place : ℕ) (n : ℕ) → place < length ns → OfUsers user ns → Has ns n → n ≢ get_or ns place 0
      → (other : ℕ) × (user + place ≢ other) × AreAbout directory other (entries_by author n journal)
  elsewhere user [] place n within are has apart = absurd (omega arith)
  elsewhere user (m ∷ ns) place n within are has apart =
      by (eqb_tells m n) (λ place within apart later. elsewhere (user + 1) ns place n within are.1 later apart) place within apart where
        by : (((m == n) ≡ true) × (m ≡ n)) ⊎ (((m == n) ≡ false) × (m ≢ n))
            → ((place : ℕ) → place < length ns → n ≢ get_or ns place 0 → Has ns n → (other : ℕ) × ((user + 1) + place ≢ other) × AreAbout directory other (entries_by author n journal))
            → (place : ℕ) → place < length (m ∷ ns) → n ≢ get_or (m ∷ ns) place 0
            → (other : ℕ) × (user + place ≢ other) × AreAbout directory other (entries_by author n journal)
        by (inl same) more zero within apart = absurd (apart (sym same.1))
        by (inl same) more (suc place) within apart = (user, omega arith, subst (λ k. AreAbout directory user (entries_by author k journal)) same.1 are.0)
        by (inr other) more zero within apart =
            let found = found-user (user + 1) ns n are.1 (has-rest m n ns other.0 has) in
            (found.0, omega (arith, found.1), found.2)
        by (inr other) more (suc place) within apart =
            let found = more place (omega arith) apart (has-rest m n ns other.0 has) in
            (found.0, omega (arith, found.1), found.2)

  abbrev IsPlaced : ℕ → ℕ → ℕ → Entry → Type 0
  IsPlaced home p n entry = IsSo directory home entry (n == p)

  placed-own : (home p n : ℕ) (entries : List Entry) → (n == p) ≡ true → AreAbout directory home entries → AllByRecursion (IsPlaced home p n) entries
  placed-own home p n [] own are = tt
  placed-own home p n (entry ∷ entries) own are = (subst (IsSo directory home entry) (sym own) are.0, placed-own home p n entries own are.1)

  placed-apart : (home p n other : ℕ) (entries : List Entry) → (n == p) ≡ false → home ≢ other → AreAbout directory other entries → AllByRecursion (IsPlaced home p n) entries
  placed-apart home p n other [] is apart are = tt
  placed-apart home p n other (entry ∷ entries) is apart are = (subst (IsSo directory home entry) (sym is) (other, apart, are.0), placed-apart home p n other entries is apart are.1)

  placed-none : (home p n : ℕ) (entries : List Entry) → entries ≡ [] → AllByRecursion (IsPlaced home p n) entries
  placed-none home p n entries none = subst (AllByRecursion (IsPlaced home p n)) (sym none) tt

  -- Each entry is of the session of a home, or of another session and about its home. Beside the sessions there are numbers under which nothing was entered.
  pub all-placed : (sessions idle : List ℕ) (place : ℕ) → place < length sessions → OfUsers 0 sessions
      → ((n : ℕ) → Has idle n → entries_by author n journal ≡ [])
      → ((n : ℕ) → Has (sessions ++ idle) n → Has sessions n ⊎ Has idle n)
      → AllByRecursion (λ entry. Has (sessions ++ idle) (author entry)) journal
      → AreAbout directory place (entries_by author (get_or sessions place 0) journal)
      → AllByRecursion (IsOwnOrApart directory place (is_of (get_or sessions place 0))) journal
  all-placed sessions idle place within are nothing split among own =
      by-authors (sessions ++ idle) (IsPlaced place (get_or sessions place 0)) journal among each where
        each : (n : ℕ) → Has (sessions ++ idle) n → AllByRecursion (IsPlaced place (get_or sessions place 0) n) (entries_by author n journal)
        each n has = by (eqb_tells n (get_or sessions place 0)) (split n has) where
          by : (((n == get_or sessions place 0) ≡ true) × (n ≡ get_or sessions place 0)) ⊎ (((n == get_or sessions place 0) ≡ false) × (n ≢ get_or sessions place 0)) → Has sessions n ⊎ Has idle n
              → AllByRecursion (IsPlaced place (get_or sessions place 0) n) (entries_by author n journal)
          by (inl same) which = placed-own place (get_or sessions place 0) n (entries_by author n journal) same.0 (subst (λ k. AreAbout directory place (entries_by author k journal)) (sym same.1) own)
          by (inr apart) (inl of_session) =
              let found = elsewhere 0 sessions place n within are of_session apart.1 in
              placed-apart place (get_or sessions place 0) n found.0 (entries_by author n journal) apart.0 (λ e. found.1 (let same : 0 + place ≡ place = omega arith in same ∙ e)) found.2
          by (inr apart) (inr idle) = placed-none place (get_or sessions place 0) n (entries_by author n journal) (nothing n idle)
