-- What the threads told, one after another.
use Rattle.std.proofs.Common.{◌≡◌, ℕ, suc, ◌<◌, List, [], ◌∷◌, ◌++◌, length, get_or, refl, sym, ap, ◌∙◌, arith, append_assoc}
use Rattle.std.specs.Prelude.{Result, Ok, Err, IfOk}
use Rattle.std.specs.List.{AllZip}
use Rattle.std.proofs.lemmas.List.{append-nil}
use Rattle.caldav_server.specs.LoadSums.{passes_of}
use Rattle.caldav_server.specs.declared.load_sessions.Done.{Done}

-- what holds at each place of two lists
pub zipped : {X Y : Type 0} (R : X → Y → Type 0) (xs : List X) (ys : List Y) → length ys ≡ length xs
    → ((k : ℕ) → k < length xs → (x : X) (y : Y) → x ≡ get_or xs k x → y ≡ get_or ys k y → R x y) → AllZip R xs ys
zipped R [] [] long each = tt
zipped R [] (y ∷ ys) long each = absurd (omega arith)
zipped R (x ∷ xs) [] long each = absurd (omega arith)
zipped R (x ∷ xs) (y ∷ ys) long each = (each 0 (omega arith) x y refl refl, zipped R xs ys (omega arith) (λ k less x y is are. each (suc k) (omega arith) x y is are))

-- of a result, what follows from two facts
pub ok-both : {A E : Type 0} (P Q S : A → Type 0) (r : Result A E) → ((a : A) → P a → Q a → S a) → IfOk r P → IfOk r Q → IfOk r S
ok-both P Q S (Ok a) step first second = step a first second
ok-both P Q S (Err e) step first second = tt

-- the next one is taken from the front
pub parts-more : {X : Type 0} (all before rest left : List X) (x : X) → all ≡ before ++ rest → rest ≡ x ∷ left → all ≡ (before ++ x ∷ []) ++ left
parts-more all before rest left x parts next = parts ∙ ap (λ r. before ++ r) next ∙ sym (append_assoc before (x ∷ []) left)

pub parts-done : {X : Type 0} (all before rest : List X) → all ≡ before ++ rest → rest ≡ [] → before ≡ all
parts-done all before rest parts none = sym (parts ∙ ap (λ r. before ++ r) none ∙ append-nil before)

pub passes-more : (before : List Done) (done : Done) → passes_of (before ++ done ∷ []) ≡ passes_of before ++ done.pass ∷ []
passes-more [] done = refl
passes-more (first ∷ before) done = ap (λ rest. first.pass ∷ rest) (passes-more before done)
