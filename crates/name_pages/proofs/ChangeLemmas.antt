-- The pages behind a change of one: a value is put at a name, or taken out.
use Rattle.std.proofs.Common.{◌≡◌, ℕ, sym, ap, subst, ◌∙◌, List, ◌<◌, length, arith}
use Rattle.std.proofs.Math.ListN.{get_or, set}
use Rattle.std.proofs.lemmas.List.{get_or-set_same}
use Rattle.std.specs.Prelude.{Result, OnOk, OnErr}
use Rattle.std.specs.declared.result.Result.TheVariants.{Ok, Err}
use Rattle.std.specs.List.{AllByRecursion}
use Rattle.std.specs.Map.{keys_of}
use Rattle.cal_base.specs.Lists.NameMap.{Named, IsInOrder, with_value, without}
use Rattle.name_pages.specs.declared.page.Page.{Page}
use Rattle.name_pages.specs.Pages.{IsUsed, pairs_of, ArePages}
use Rattle.name_pages.specs.Places.{IsPlace, AreLeftAt}
use Rattle.name_pages.proofs.NamedLemmas.{all_names-put, all_names-taken, length-put, length-taken, some-put}
use Rattle.name_pages.proofs.PageLemmas.{page_is}
use Rattle.name_pages.proofs.PlaceLemmas.{apart_there, place_page, set_there, with_value-place, without-place, place_within, left_with, left_same, left_page, used_pages}

module _ {V : Type 0} (name : List ℕ) (at : ℕ) (pages : List (Page V)) (place : IsPlace name at pages) (are : ArePages pages) (old new : Page V) (old_is : old ≡ get_or pages at old) (bound_is : new.bound ≡ old.bound) where
  page_was : old ≡ place.page
  page_was = old_is ∙ place_page name at pages place are old

  same_bound : new.bound ≡ place.page.bound
  same_bound = bound_is ∙ ap (λ (page : Page V). page.bound) page_was

  same_pages : new ≡ old → set pages at new ≡ pages
  same_pages same = ap (set pages at) (same ∙ page_was) ∙ (set_there name at pages place are place.page ∙ sym place.is)

  pub unchanged : {E : Type 0} (r : Result (Unit {0}) E) → OnErr r (new ≡ old) → OnErr r (pairs_of (set pages at new) ≡ pairs_of pages)
  unchanged (Ok done) err = tt
  unchanged (Err e) err = ap pairs_of (same_pages err)

  pub kept_pages : {E : Type 0} (r : Result (Unit {0}) E) → OnErr r (new ≡ old) → OnErr r (ArePages (set pages at new))
  kept_pages (Ok done) err = tt
  kept_pages (Err e) err = subst ArePages (sym (same_pages err)) are

  -- a value is put
  pub put_pages : {E : Type 0} (room : length place.page.names < 128) (value : V) (r : Result (Unit {0}) E) → OnOk r (new.names ≡ with_value old.names name value) → OnOk r (IsInOrder new.names) → OnErr r (new ≡ old) → ArePages (set pages at new)
  put_pages room value (Ok done) ok in_order err =
      let names : new.names ≡ with_value place.page.names name value = ok ∙ ap (λ (page : Page V). with_value page.names name value) page_was in
      let some : 0 < length new.names = omega (arith, ap length names, some-put place.page.names name value) in
      let left : AreLeftAt at (set pages at new) =
      left_with name at pages place are new same_bound (omega (arith, ap length names, length-put place.page.names name value)) in_order
      (λ P here all. subst (λ (named : Named V). AllByRecursion P (keys_of named)) (sym names) (all_names-put P place.page.names name value here all)) in
      let same : new ≡ left.page = sym (get_or-set_same pages at new new (place_within name at pages place are)) ∙ left_page at (set pages at new) left new in
      used_pages at (set pages at new) left (subst IsUsed same some)
  put_pages room value (Err e) ok in_order err = subst ArePages (sym (same_pages err)) are

  pub put_ok : {E : Type 0} (value : V) (r : Result (Unit {0}) E) → OnOk r (new.names ≡ with_value old.names name value) → OnOk r (pairs_of (set pages at new) ≡ with_value (pairs_of pages) name value)
  put_ok value (Ok done) ok = with_value-place name at pages place are value new (ok ∙ ap (λ (page : Page V). with_value page.names name value) page_was)
  put_ok value (Err e) ok = tt

  -- a value is taken out
  pub taken_pages : {E : Type 0} (r : Result (Unit {0}) E) → OnOk r (new.names ≡ without old.names name) → OnOk r (IsInOrder new.names) → OnErr r (new ≡ old) → AreLeftAt at (set pages at new)
  taken_pages (Ok done) ok in_order err =
      let names : new.names ≡ without place.page.names name = ok ∙ ap (λ (page : Page V). without page.names name) page_was in
      let had = page_is place.front place.page place.back (apart_there name at pages place are) in
      left_with name at pages place are new same_bound (omega (arith, ap length names, length-taken place.page.names name, had.few)) in_order
      (λ P here all. subst (λ (named : Named V). AllByRecursion P (keys_of named)) (sym names) (all_names-taken P place.page.names name all))
  taken_pages (Err e) ok in_order err = subst (AreLeftAt at) (sym (same_pages err)) (left_same name at pages place are)

  pub taken_ok : {E : Type 0} (r : Result (Unit {0}) E) → OnOk r (new.names ≡ without old.names name) → OnOk r (pairs_of (set pages at new) ≡ without (pairs_of pages) name)
  taken_ok (Ok done) ok = without-place name at pages place are new (ok ∙ ap (λ (page : Page V). without page.names name) page_was)
  taken_ok (Err e) ok = tt
