-- A header that is laid in an empty file.
use Rattle.std.proofs.Common.{◌≡◌, ℕ, true, List, [], ◌∷◌, ◌++◌, length, Option, Some, None, IfSome, option_map, refl, sym, ◌∙◌, ap, subst, arith}
use Rattle.std.proofs.lemmas.List.{append-nil}
use Rattle.cal_model.specs.Users.UsersFile.{Users}
use Rattle.cal_keeper.specs.Disks.CrashModel.{Past, synced, reading, with_piece}
use Rattle.cal_keeper.specs.Steps.WriteRuns.{Puts}
use Rattle.cal_keeper.specs.Steps.HeaderSteps.{Begins}
use Rattle.cal_keeper.specs.Files.Headers.{header_of}
use Rattle.cal_keeper.specs.Files.RecordForm.{IsKept}
use Rattle.cal_keeper.specs.Files.Standing.{IsKeptFor}
use Rattle.cal_keeper.proofs.Pieces.{piece_behind}

pub no_octets : (xs : List ℕ) → length xs ≡ 0 → xs ≡ []
no_octets [] none = refl
no_octets (x ∷ xs) none = absurd (omega (arith, none))

new_file : (header : List ℕ) (past : Past) → reading past ≡ header ++ 0 ∷ [] → IsKept header [] (length header) (synced past)
new_file header past is = record {
  place_is = ap length (sym (append-nil header));
  file = record {
    gate = 0;
    rest = [];
    is_closed = λ same. absurd (omega (arith, same));
    octets_are = is ∙ ap (λ (xs : List ℕ). xs ++ 0 ∷ []) (sym (append-nil header));
  };
  settled = λ image left. left;
}

pub begun : (header : List ℕ) (old mid new : Option Past) → Puts 0 (header ++ 0 ∷ []) true old mid → new ≡ option_map synced mid → Begins header true old new
begun header None mid new puts settled = settled ∙ ap (option_map synced) puts
begun header (Some old) mid new puts settled = (
  synced puts.0,
  settled ∙ ap (option_map synced) puts.1,
  λ went empty.
      new_file header puts.0 (puts.2.stands refl (omega arith) ∙ ap (λ (xs : List ℕ). with_piece 0 (header ++ 0 ∷ []) xs) empty ∙ piece_behind 0 (header ++ 0 ∷ []) [] refl),
)

-- it was counted that there are none
pub counted_none : (told : Option Past) (count : ℕ) → count ≡ 0 → IfSome told (λ p. count ≡ length (reading p)) → IfSome told (λ p. 0 ≡ length (reading p))
counted_none None count none is = tt
counted_none (Some past) count none is = sym none ∙ is

-- so it is a file of no entries
pub begun_file : (users : Users) (header : List ℕ) (place : ℕ) (old new : Option Past) → header ≡ header_of users → place ≡ length header → IfSome old (λ p. 0 ≡ length (reading p)) → Begins header true old new → IfSome new (IsKeptFor users [] place)
begun_file users header place None new header_is place_is empty begins = subst (λ (told : Option Past). IfSome told (IsKeptFor users [] place)) (sym begins) tt
begun_file users header place (Some old) new header_is place_is empty begins =
    subst (λ (told : Option Past). IfSome told (IsKeptFor users [] place)) (sym begins.1) (record {
      recorded = tt;
      kept = subst (λ (h : List ℕ). IsKept h [] place begins.0) header_is (subst (λ (n : ℕ). IsKept header [] n begins.0) (sym place_is) (begins.2 refl (no_octets (reading old) (sym empty))));
    })
