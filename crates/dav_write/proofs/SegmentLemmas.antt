-- The path of some segments, by how many there are.
use Rattle.std.proofs.Common.{◌≡◌, ℕ, suc, ◌-◌, ◌<◌, Bool, true, false, cond, ◌==◌, ◌&&◌, List, [], ◌∷◌, length, take, map, Option, Some, None, refl, sym, ap, ◌∙◌, arith, Result, Ok, Err}
use Rattle.std.specs.List.{list_any}
use Rattle.std.specs.Prelude.{codes, IfOk}
use Rattle.std.specs.Str.{bytes_eq}
use Rattle.percent_encoding.specs.Percent.{percent_decode}
use Rattle.cal_base.specs.Lines.ContentLines.{pieces}
use Rattle.cal_model.specs.declared.path.Path.{Path}
use Rattle.cal_model.specs.declared.path.Path.TheVariants.{Object}
use Rattle.cal_model.specs.Words.Lists.{is_empty, last_or_else}
use Rattle.cal_model.specs.Paths.TargetPaths.{slash, is_resource_name, path_of_segments, path_of_text, without_query, without_host, target_path}
use Rattle.dav_write.specs.Segments.{named_path}

-- the path of segments that end so
abbrev closed : Bool → List (List ℕ) → Option Path
closed ends segments = named_path ends (map percent_decode (cond ends (take (length segments - 1) segments) segments))

both : (b : Bool) (path : Option Path) → cond b path path ≡ path
both true path = refl
both false path = refl

pub path_of_two_open : (kind user : List ℕ) → is_empty user ≡ false → path_of_segments (kind ∷ user ∷ []) ≡ named_path false (percent_decode kind ∷ percent_decode user ∷ [])
path_of_two_open kind user some = ap (λ ends. closed ends (kind ∷ user ∷ [])) some

pub path_of_two_closed : (kind user : List ℕ) → is_empty user ≡ true → path_of_segments (kind ∷ user ∷ []) ≡ None
path_of_two_closed kind user none = ap (λ ends. closed ends (kind ∷ user ∷ [])) none ∙ both _ None

pub path_of_three_open : (kind user calendar : List ℕ) → is_empty calendar ≡ false → path_of_segments (kind ∷ user ∷ calendar ∷ []) ≡ named_path false (percent_decode kind ∷ percent_decode user ∷ percent_decode calendar ∷ [])
path_of_three_open kind user calendar some = ap (λ ends. closed ends (kind ∷ user ∷ calendar ∷ [])) some

pub path_of_three_closed : (kind user calendar : List ℕ) → is_empty calendar ≡ true → path_of_segments (kind ∷ user ∷ calendar ∷ []) ≡ named_path true (percent_decode kind ∷ percent_decode user ∷ [])
path_of_three_closed kind user calendar none = ap (λ ends. closed ends (kind ∷ user ∷ calendar ∷ [])) none

pub path_of_four_open : (kind user calendar object : List ℕ) → is_empty object ≡ false → path_of_segments (kind ∷ user ∷ calendar ∷ object ∷ []) ≡ named_path false (percent_decode kind ∷ percent_decode user ∷ percent_decode calendar ∷ percent_decode object ∷ [])
path_of_four_open kind user calendar object some = ap (λ ends. closed ends (kind ∷ user ∷ calendar ∷ object ∷ [])) some

pub path_of_four_closed : (kind user calendar object : List ℕ) → is_empty object ≡ true → path_of_segments (kind ∷ user ∷ calendar ∷ object ∷ []) ≡ named_path true (percent_decode kind ∷ percent_decode user ∷ percent_decode calendar ∷ [])
path_of_four_closed kind user calendar object none = ap (λ ends. closed ends (kind ∷ user ∷ calendar ∷ object ∷ [])) none

-- no path has five segments

no_object : (b : Bool) (path : Path) → cond (b && false) (Some path) None ≡ None
no_object true path = refl
no_object false path = refl

four_ended : (a b c d : List ℕ) → named_path true (a ∷ b ∷ c ∷ d ∷ []) ≡ None
four_ended a b c d = ap (λ path. cond (list_any is_empty (a ∷ b ∷ c ∷ d ∷ [])) None path) (no_object (bytes_eq a (codes "calendars") && is_resource_name c && is_resource_name d) (Object b c d)) ∙ both _ None

five_named : (ends : Bool) (a b c d e : List ℕ) (names : List (List ℕ)) → named_path ends (a ∷ b ∷ c ∷ d ∷ e ∷ names) ≡ None
five_named ends a b c d e names = both _ None

five_or_more : (ends : Bool) (a b c d e : List ℕ) (more : List (List ℕ)) → closed ends (a ∷ b ∷ c ∷ d ∷ e ∷ more) ≡ None
five_or_more false a b c d e more = five_named false (percent_decode a) (percent_decode b) (percent_decode c) (percent_decode d) (percent_decode e) (map percent_decode more)
five_or_more true a b c d e [] = four_ended (percent_decode a) (percent_decode b) (percent_decode c) (percent_decode d)
five_or_more true a b c d e (f ∷ more) =
    let count : length (a ∷ b ∷ c ∷ d ∷ e ∷ f ∷ more) - 1 ≡ suc (suc (suc (suc (suc (length more))))) = omega arith in
    ap (λ n. named_path true (map percent_decode (take n (a ∷ b ∷ c ∷ d ∷ e ∷ f ∷ more)))) count ∙ five_named true (percent_decode a) (percent_decode b) (percent_decode c) (percent_decode d) (percent_decode e) (map percent_decode (take (length more) (f ∷ more)))

pub path_of_more : (segments : List (List ℕ)) → 4 < length segments → path_of_segments segments ≡ None
path_of_more [] many = absurd (omega arith)
path_of_more (a ∷ []) many = absurd (omega arith)
path_of_more (a ∷ b ∷ []) many = absurd (omega arith)
path_of_more (a ∷ b ∷ c ∷ []) many = absurd (omega arith)
path_of_more (a ∷ b ∷ c ∷ d ∷ []) many = absurd (omega arith)
path_of_more (a ∷ b ∷ c ∷ d ∷ e ∷ more) many = five_or_more (is_empty (last_or_else e more)) a b c d e more

-- what is read of the pieces of a text

pub read_closed : {E : Type 0} (result : Result (Option Path) E) (text : List ℕ) (segments names : List (List ℕ)) (ends : Bool) → pieces slash text ≡ segments → path_of_segments segments ≡ named_path ends names → IfOk result (λ path. (last : Bool) → path ≡ named_path last names)
    → IfOk result (λ path. path ≡ path_of_segments (pieces slash text))
read_closed (Ok path) text segments names ends is named read = read ends ∙ sym named ∙ ap path_of_segments (sym is)
read_closed (Err error) text segments names ends is named read = read

pub read_open : {E : Type 0} (result : Result (Option Path) E) (text : List ℕ) (segments names : List (List ℕ)) → pieces slash text ≡ segments → path_of_segments segments ≡ named_path false names → IfOk result (λ path. path ≡ named_path false names)
    → IfOk result (λ path. path ≡ path_of_segments (pieces slash text))
read_open (Ok path) text segments names is named read = read ∙ sym named ∙ ap path_of_segments (sym is)
read_open (Err error) text segments names is named read = read

-- what is read of a target

pub target_of_text : (target text : List ℕ) → text ≡ without_host (without_query target) → target_path target ≡ path_of_text text
unfolding target_path
target_of_text target text is = ap path_of_text (sym is)

pub text_with_slash : (first : ℕ) (behind : List ℕ) → (first == slash) ≡ true → path_of_text (first ∷ behind) ≡ path_of_segments (pieces slash behind)
text_with_slash first behind is = ap (λ b. cond b (path_of_segments (pieces slash behind)) None) is

pub text_without_slash : (first : ℕ) (behind : List ℕ) → (first == slash) ≡ false → path_of_text (first ∷ behind) ≡ None
text_without_slash first behind is = ap (λ b. cond b (path_of_segments (pieces slash behind)) None) is

pub read_text : {E : Type 0} (result : Result (Option Path) E) (target : List ℕ) (first : ℕ) (behind text : List ℕ) → text ≡ without_host (without_query target) → text ≡ first ∷ behind → (first == slash) ≡ true → IfOk result (λ path. path ≡ path_of_segments (pieces slash behind))
    → IfOk result (λ path. path ≡ target_path target)
read_text (Ok path) target first behind text is begins there read = read ∙ sym (text_with_slash first behind there) ∙ ap path_of_text (sym begins) ∙ sym (target_of_text target text is)
read_text (Err error) target first behind text is begins there read = read

pub text_is : (target middle text : List ℕ) → middle ≡ without_query target → text ≡ without_host middle → text ≡ without_host (without_query target)
text_is target middle text first second = second ∙ ap without_host first

pub no_octets : (text : List ℕ) → length text ≡ 0 → text ≡ []
no_octets [] none = refl
no_octets (c ∷ text) none = absurd (omega arith)
