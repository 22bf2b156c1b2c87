-- A claim is of an object that is there, so one that comes too late has seen the journal grow.
use Rattle.std.proofs.Common.{◌≡◌, ℕ, ◌+◌, Bool, true, false, ◌&&◌, List, [], ◌∷◌, ◌++◌, arith, refl, sym, ap, subst, ◌∙◌, Option, Some, None, nat_eq, eqb}
use Rattle.std.specs.Prelude.{if◌then◌else◌, filter, is_some, IsSome, unwrap_or, option_map, IfSome}
use Rattle.std.specs.List.{AllByRecursion}
use Rattle.std.proofs.lemmas.Bool.{ne_eqb, eq-eqb}
use Rattle.std.proofs.lemmas.List.Elements.{filter-append}
use Rattle.std.proofs.lemmas.List.{append-nil}
use Rattle.cal_base.specs.Lines.ComponentTrees.{first}
use Rattle.turn_lock.specs.Journals.{IsFollowedByOthers, IsFollowedByOwn, entries_by}
use Rattle.turn_lock.specs.Numbers.{times, as_one}
use Rattle.cal_model.specs.History.Claims.{Pair, Work, is_open, open_pairs, pairs, next_claim}
use Rattle.cal_book.specs.Publishing.{pair_of_claim, IsPublished}
use Rattle.cal_book.specs.declared.claims.Claim.{Claim}
use Rattle.cal_book.specs.declared.claims.Expanded.{Expanded}
use Rattle.cal_book.specs.declared.claims.Publish.{Publish}
use Rattle.cal_book.specs.declared.claims.Publish.TheVariants.{Published, Stale, NoMemory}
use Rattle.cal_model.specs.History.Journal.{Entry}
use Rattle.cal_model.specs.History.LiveObjects.{live_at}

first_true : (a b : Bool) → (a && b) ≡ true → a ≡ true
first_true true b e = refl
first_true false b e = absurd (cc)

first_passes : {X : Type 0} (test : X → Bool) (xs : List X) (x : X) → first (filter test xs) ≡ Some x → test x ≡ true
first_passes test [] x h = absurd (cc)
first_passes test (y ∷ ys) x h = by_test (first_passes test ys x) (test y) refl
  where
    by_test : (first (filter test ys) ≡ Some x → test x ≡ true) → (b : Bool) → test y ≡ b → test x ≡ true
    by_test others true is =
        let same = subst (λ b. first (if b then y ∷ filter test ys else filter test ys) ≡ Some x) is h in
        subst (λ z. test z ≡ true) (ap (λ o. unwrap_or o y) same) is
    by_test others false is = others (subst (λ b. first (if b then y ∷ filter test ys else filter test ys) ≡ Some x) is h)

next_unless : (full : Bool) (work : Work) (pair : Pair) → (if full then None else first (open_pairs work)) ≡ Some pair → is_open work pair ≡ true
next_unless true work pair h = absurd (cc)
next_unless false work pair h = first_passes (is_open work) (pairs work) pair h

some_there : {X : Type 0} (o : Option X) → is_some o ≡ true → IsSome o
some_there None h = absurd (cc)
some_there (Some x) h = h

-- the next claim is of an object that is there
pub next_is_live : (work : Work) (pair : Pair) → next_claim work ≡ Some pair → IsSome (live_at work.journal pair.origin)
next_is_live work pair h = some_there (live_at work.journal pair.origin) (first_true _ _ (first_true _ _ (next_unless _ work pair h)))

-- a claim that was given is of an object that is there
pub live_of : (work : Work) (seen : List Entry) (found : Option Claim) → option_map pair_of_claim found ≡ next_claim work → seen ≡ work.journal → IfSome found (λ claim. IsSome (live_at seen claim.origin))
live_of work seen None h same = tt
live_of work seen (Some claim) h same = subst (λ (journal : List Entry). IsSome (live_at journal claim.origin)) (sym same) (next_is_live work (pair_of_claim claim) (sym h))

-- the end of a claim leaves the journal
pub published_same : (expanded : Expanded) (old new : Work) (told : Publish) → IsPublished expanded old new told → new.journal ≡ old.journal
published_same expanded old new Published h = ap (λ (w : Work). w.journal) h.1
published_same expanded old new (Stale now) h = ap (λ (w : Work). w.journal) h.2
published_same expanded old new NoMemory h = ap (λ (w : Work). w.journal) h.1

module _ {E : Type 0} (author : E → ℕ) where
  pub own_none : (n : ℕ) (seen journal : List E) → journal ≡ seen → IsFollowedByOwn author n seen journal
  own_none n seen journal same = ([], same ∙ sym (append-nil seen), tt)

  drops_others : (n : ℕ) (gone : List ℕ) (es : List E) → AllByRecursion (λ (e : E). times (author e) (n ∷ gone) ≡ 0) es → entries_by author n es ≡ []
  drops_others n gone [] h = refl
  drops_others n gone (e ∷ es) h = ap (λ b. if b then e ∷ entries_by author n es else entries_by author n es) (ne_eqb (author e) n (other e h.0)) ∙ drops_others n gone es h.1
    where
      other : (e : E) → times (author e) (n ∷ gone) ≡ 0 → author e ≡ n → ⊥
      other e none same = let one : as_one (eqb n (author e)) ≡ 1 = ap as_one (eq-eqb n (author e) (sym same)) in omega (arith, none, one)

  -- so its own entries are those that it had
  pub mine_kept : (n : ℕ) (gone : List ℕ) (a b : List E) → IsFollowedByOthers author (n ∷ gone) a b → entries_by author n b ≡ entries_by author n a
  mine_kept n gone a b (p, is, h) = ap (entries_by author n) is ∙ (filter-append (λ (e : E). nat_eq (author e) n) a p ∙ (ap (λ l. entries_by author n a ++ l) (drops_others n gone p h) ∙ append-nil (entries_by author n a)))
