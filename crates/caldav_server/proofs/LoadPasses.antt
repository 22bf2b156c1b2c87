-- One more pass is joined.
use Rattle.std.proofs.Common.{◌≡◌, ℕ, ◌+◌, ◌<◌, List, [], ◌∷◌, ◌++◌, refl, sym, ap, ◌∙◌, subst, arith, append_assoc}
use Rattle.std.specs.Prelude.{◌==◌}
use Rattle.std.specs.List.{AllByRecursion}
use Rattle.std.proofs.lemmas.Bool.{eq-eqb}
use Rattle.std.proofs.lemmas.List.{append-nil}
use Rattle.turn_lock.specs.Journals.{KeepsEntriesOf, IsFollowedByOthers}
use Rattle.turn_lock.specs.Numbers.{times, as_one, Has}
use Rattle.turn_lock.specs.Passes.{IsWhole}
use Rattle.cal_model.specs.History.Journal.{Entry}
use Rattle.caldav_server.specs.LoadJobs.{Known, author, IsWithin, numbers, IsLeaf, HasJoined}

-- Numbers in lists

pub times-append : (n : ℕ) (xs ys : List ℕ) → times n (xs ++ ys) ≡ times n xs + times n ys
times-append n [] ys = omega arith
times-append n (x ∷ xs) ys = let rest = times-append n xs ys in omega (arith, rest)

has-behind : (n : ℕ) (xs ys : List ℕ) → Has ys n → Has (xs ++ ys) n
has-behind n xs ys has = omega (arith, times-append n xs ys, has)

pub has-first : (n : ℕ) (xs : List ℕ) → Has (n ∷ xs) n
has-first n xs = subst (λ test. 0 < as_one test + times n xs) (sym (eq-eqb n n refl)) (omega arith)

pub has-later : (n m : ℕ) (xs : List ℕ) → Has xs n → Has (m ∷ xs) n
has-later n m xs has = omega (arith, has)

-- Passes

-- those that were joined stay within
within-later : (ns : List ℕ) (mid new : Known) (others : List Known) → ((n : ℕ) → Has (numbers others) n → Has ns n)
    → (rest : List Entry) → new.seen ≡ mid.seen ++ rest → KeepsEntriesOf author ns mid.seen new.seen
    → AllByRecursion (λ other. IsWithin other mid) others → AllByRecursion (λ other. IsWithin other new) others
within-later ns mid new [] among rest grown keeps each = tt
within-later ns mid new (other ∷ others) among rest grown keeps each = (
  record {
    begins = (each.0.begins.0 ++ rest, grown ∙ ap (λ seen. seen ++ rest) each.0.begins.1 ∙ append_assoc other.seen each.0.begins.0 rest);
    same = keeps other.number (among other.number (has-first other.number (numbers others))) ∙ each.0.same;
  },
  within-later ns mid new others (λ n has. among n (has-later n other.number (numbers others) has)) rest grown keeps each.1,
)

pub all-snoc : (P : Known → Type 0) (xs : List Known) (x : Known) → AllByRecursion P xs → P x → AllByRecursion P (xs ++ x ∷ [])
all-snoc P [] x all here = (here, tt)
all-snoc P (y ∷ ys) x all here = (all.0, all-snoc P ys x all.1 here)

pub numbers-snoc : (xs : List Known) (x : Known) → numbers (xs ++ x ∷ []) ≡ numbers xs ++ x.number ∷ []
numbers-snoc [] x = refl
numbers-snoc (y ∷ ys) x = ap (λ rest. y.number ∷ rest) (numbers-snoc ys x)

-- nothing is joined yet
pub joined-none : (pass : Known) → HasJoined pass pass []
joined-none pass = record {
  number_is = refl;
  kin_is = refl;
  gone_is = sym (append-nil pass.gone);
  each = tt;
  own = λ n has. refl;
  whole = λ some whole. absurd (some refl);
}

-- one more
pub joined-more : (old mid new other : Known) (others : List Known) → HasJoined old mid others → IsLeaf other
    → new.number ≡ mid.number → new.kin ≡ mid.kin ++ other.kin → new.gone ≡ mid.gone ++ other.number ∷ other.gone
    → IsFollowedByOthers author (mid.number ∷ mid.gone) mid.seen new.seen → IsFollowedByOthers author (other.number ∷ other.gone) other.seen new.seen
    → KeepsEntriesOf author (mid.number ∷ mid.gone) mid.seen new.seen → KeepsEntriesOf author (other.number ∷ other.gone) other.seen new.seen
    → (IsWhole new → AllByRecursion (λ entry. Has (new.number ∷ new.gone) (author entry)) new.seen)
    → HasJoined old new (others ++ other ∷ [])
joined-more old mid new other others before leaf number_is kin_is gone_is own_grown their_grown own_kept their_kept whole = record {
  number_is = number_is ∙ before.number_is;
  kin_is = kin_is ∙ ap (λ kin. mid.kin ++ kin) leaf.0 ∙ append-nil mid.kin ∙ before.kin_is;
  gone_is = gone_is ∙ ap (λ gone. mid.gone ++ other.number ∷ gone) leaf.1 ∙ ap (λ gone. gone ++ other.number ∷ []) before.gone_is
      ∙ append_assoc old.gone (numbers others) (other.number ∷ []) ∙ ap (λ more. old.gone ++ more) (sym (numbers-snoc others other));
  each = all-snoc (λ pass. IsWithin pass new) others other
      (within-later (mid.number ∷ mid.gone) mid new others (λ n has. has-later n mid.number mid.gone (subst (λ gone. Has gone n) (sym before.gone_is) (has-behind n old.gone (numbers others) has)))
      own_grown.0 own_grown.1 own_kept before.each)
      (record { begins = (their_grown.0, their_grown.1); same = their_kept other.number (has-first other.number other.gone) });
  own = λ n has. own_kept n (kept-numbers n has) ∙ before.own n has;
  whole = λ some is_whole. whole is_whole;
} where
  -- the numbers of the pass before are still its own
  kept-numbers : (n : ℕ) → Has (old.number ∷ old.gone) n → Has (mid.number ∷ mid.gone) n
  kept-numbers n has =
      let more : times n mid.gone ≡ times n old.gone + times n (numbers others) = ap (times n) before.gone_is ∙ times-append n old.gone (numbers others) in
      let same : as_one (mid.number == n) ≡ as_one (old.number == n) = ap (λ m. as_one (m == n)) before.number_is in
      omega (arith, more, same, has)
