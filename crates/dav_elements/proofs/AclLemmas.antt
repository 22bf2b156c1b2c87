-- The rows of an ace by what the ace has, and the first refusal among the aces of a body.
use Rattle.std.proofs.Common.{◌≡◌, ℕ, ◌+◌, Bool, true, false, not, ◌&&◌, ◌||◌, List, [], ◌∷◌, ◌++◌, length, map, take, Option, Some, None, is_none, refl, sym, ap, ◌∙◌, arith}
use Rattle.std.specs.Prelude.{Result, IfOk, flat_map, codes, if◌then◌else◌, nat_le, option_to_list}
use Rattle.std.specs.List.{list_any}
use Rattle.std.proofs.lemmas.Bool.{or_parts}
use Rattle.std.proofs.lemmas.Result.{IfOk-weaker}
use Rattle.std.proofs.lemmas.List.{append-nil, append_assoc, length-append}
use Rattle.std.proofs.lemmas.Grind.{flat_map-append}
use Rattle.cal_base.specs.declared.element.Element.{Element}
use Rattle.cal_model.specs.declared.privilege.Grant.{Grant}
use Rattle.cal_model.specs.declared.privilege.Who.{Who}
use Rattle.cal_model.specs.declared.reply.Refusal.{Refusal}
use Rattle.cal_model.specs.declared.request.Content.{Content}
use Rattle.cal_model.specs.declared.request.Content.TheVariants.{Acl, Bad}
use Rattle.cal_model.specs.Words.Lists.{is_empty}
use Rattle.cal_model.specs.Words.Namespaces.{dav}
use Rattle.cal_model.specs.Bodies.ElementParts.{children, has_name}
use Rattle.cal_model.specs.Bodies.AclBodies.{Meant, someone, nobody, other_form, grant_limit, holds, meant, is_nobody, is_other_form, who_of, granted_elements, granted_sets, bits_of, lacks_part, aces, ace_rows, grants_of, acl_by, acl_content}
use Rattle.cal_model.specs.Bodies.Refusals.{bad_request, dav_refusal, first_row}
use Rattle.cal_model.specs.Users.UsersFile.{Users}
use Rattle.dav_elements.specs.AceAnswers.{refusals_from, late_rows}
use Rattle.dav_elements.proofs.AceLemmas.{refusals-append}
use Rattle.dav_elements.proofs.ListSteps.{More, Split}

-- One ace

pub principal_there : (ace : Element) → lacks_part ace ≡ false → holds (codes "invert") ace ≡ false → holds (codes "principal") ace ≡ true
principal_there ace whole plain =
    let parted = not (holds (codes "grant") ace) && not (holds (codes "deny") ace) in
    let nothing = holds (codes "grant") ace && is_empty (granted_elements ace) in
    let bare = list_any (λ privilege. is_empty (children privilege)) (granted_elements ace) in
    let missing = not (holds (codes "principal") ace) && not (holds (codes "invert") ace) in
    let three = or_parts (missing || parted || nothing) bare whole in
    let two = or_parts (missing || parted) nothing three.0 in
    let one = or_parts missing parted two.0 in
    by (holds (codes "principal") ace) (holds (codes "invert") ace) one.0 plain
  where
    by : (principal invert : Bool) → (not principal && not invert) ≡ false → invert ≡ false → principal ≡ true
    by true invert e f = refl
    by false false e f = absurd cc
    by false true e f = absurd cc

-- the first row that applies, by the six tests
abbrev rows_by : Bool → Bool → Bool → Bool → Bool → Bool → Option Refusal
rows_by deny invert none form unknown full =
    if deny then Some (dav_refusal (codes "grant-only"))
    else if invert then Some (dav_refusal (codes "no-invert"))
    else if none then Some (dav_refusal (codes "recognized-principal"))
    else if form then Some (dav_refusal (codes "allowed-principal"))
    else if unknown then Some (dav_refusal (codes "not-supported-privilege"))
    else if full then Some (dav_refusal (codes "limited-number-of-aces"))
    else None

pub deny_row : (users : Users) (before : ℕ) (ace : Element) → holds (codes "deny") ace ≡ true → first_row (ace_rows users before ace) ≡ Some (dav_refusal (codes "grant-only"))
deny_row users before ace deny =
    ap (λ b. rows_by b (holds (codes "invert") ace) (list_any is_nobody (meant users ace)) (list_any is_other_form (meant users ace)) (list_any is_none (granted_sets ace)) (nat_le grant_limit before)) deny

pub invert_row : (users : Users) (before : ℕ) (ace : Element) → holds (codes "deny") ace ≡ false → holds (codes "invert") ace ≡ true → first_row (ace_rows users before ace) ≡ Some (dav_refusal (codes "no-invert"))
invert_row users before ace deny invert = λ i.
    rows_by (deny i) (invert i) (list_any is_nobody (meant users ace)) (list_any is_other_form (meant users ace)) (list_any is_none (granted_sets ace)) (nat_le grant_limit before)

-- that of one with a principal
abbrev meant_rows : ℕ → Element → List Meant → Option Refusal
meant_rows before ace whom = rows_by false false (list_any is_nobody whom) (list_any is_other_form whom) (list_any is_none (granted_sets ace)) (nat_le grant_limit before)

rows_meant : (users : Users) (before : ℕ) (ace : Element) (whom : Meant) → holds (codes "deny") ace ≡ false → holds (codes "invert") ace ≡ false → meant users ace ≡ whom ∷ []
    → first_row (ace_rows users before ace) ≡ meant_rows before ace (whom ∷ [])
rows_meant users before ace whom deny invert is = λ i.
    rows_by (deny i) (invert i) (list_any is_nobody (is i)) (list_any is_other_form (is i)) (list_any is_none (granted_sets ace)) (nat_le grant_limit before)

pub nobody_row : (users : Users) (before : ℕ) (ace : Element) → holds (codes "deny") ace ≡ false → holds (codes "invert") ace ≡ false → meant users ace ≡ nobody ∷ []
    → first_row (ace_rows users before ace) ≡ Some (dav_refusal (codes "recognized-principal"))
nobody_row users before ace deny invert is = rows_meant users before ace nobody deny invert is

pub other_row : (users : Users) (before : ℕ) (ace : Element) → holds (codes "deny") ace ≡ false → holds (codes "invert") ace ≡ false → meant users ace ≡ other_form ∷ []
    → first_row (ace_rows users before ace) ≡ Some (dav_refusal (codes "allowed-principal"))
other_row users before ace deny invert is = rows_meant users before ace other_form deny invert is

pub someone_row : (users : Users) (before : ℕ) (ace : Element) (who : Who) → holds (codes "deny") ace ≡ false → holds (codes "invert") ace ≡ false → meant users ace ≡ someone who ∷ []
    → first_row (ace_rows users before ace) ≡ first_row (late_rows before ace)
someone_row users before ace who deny invert is = rows_meant users before ace (someone who) deny invert is

pub someone_grants : (users : Users) (ace : Element) (who : Who) → meant users ace ≡ someone who ∷ [] → grants_of users ace ≡ record { who = who; held = record { 0 = bits_of ace } } ∷ []
someone_grants users ace who is =
    let grant : Who → Grant = λ someone. record { who = someone; held = record { 0 = bits_of ace } } in
    ap (λ whom. map grant (flat_map who_of whom)) is

-- Aces one after another

-- none so far is refused, nor is one in the next item
pub refused_none_more : (users : Users) (start : ℕ) {before piece after : List Element} (count : ℕ) → More before piece after → count ≡ start + length before → refusals_from users start before ≡ [] → [] ≡ refusals_from users count piece
    → refusals_from users start after ≡ []
refused_none_more users start {before} {piece} {after} count more counted none sound =
    ap (refusals_from users start) more.is
    ∙ refusals-append users start before piece
    ∙ ap (λ those. those ++ refusals_from users (start + length before) piece) none
    ∙ ap (λ n. refusals_from users n piece) (sym counted)
    ∙ sym sound

-- none so far is refused, but one in the next item
pub refused_found : (users : Users) (start : ℕ) {before piece rest all : List Element} (count : ℕ) (refusal : Refusal) → Split before piece rest all → count ≡ start + length before → refusals_from users start before ≡ []
    → (refusal ∷ []) ≡ refusals_from users count piece → (refusal ∷ []) ≡ take 1 (refusals_from users start all)
refused_found users start {before} {piece} {rest} {all} count refusal split counted none refused =
    let behind = refusals_from users (start + length (before ++ piece)) rest in
    sym (ap (take 1) (
    ap (refusals_from users start) split.is
    ∙ refusals-append users start (before ++ piece) rest
    ∙ ap (λ those. those ++ behind) (
    refusals-append users start before piece
    ∙ ap (λ those. those ++ refusals_from users (start + length before) piece) none
    ∙ ap (λ n. refusals_from users n piece) (sym counted)
    ∙ sym refused
    )
    ))

pub grants_more : {Y Z : Type 0} (make : Y → List Z) {before piece after : List Y} (start : List Z) {old new : List Z} → More before piece after → old ≡ start ++ flat_map make before → new ≡ old ++ flat_map make piece
    → new ≡ start ++ flat_map make after
grants_more make {before} {piece} {after} start {old} {new} more so_far now =
    now ∙ ap (λ zs. zs ++ flat_map make piece) so_far ∙ append_assoc start (flat_map make before) (flat_map make piece)
    ∙ ap (λ zs. start ++ zs) (sym (flat_map-append make before piece) ∙ ap (flat_map make) (sym more.is))

pub count_more : {Y : Type 0} (start old new : ℕ) {before piece after : List Y} → More before piece after → old ≡ start + length before → new ≡ old + length piece → new ≡ start + length after
count_more start old new {before} {piece} {after} more counted now =
    let further = ap length more.is ∙ length-append before piece in omega (arith, further, counted, now)

-- one ace alone, and none
pub refusals_one : (users : Users) (count : ℕ) (ace : Element) (aces : List Element) (found : Option Refusal) → (ace ∷ []) ≡ aces → found ≡ first_row (ace_rows users count ace) → option_to_list found ≡ refusals_from users count aces
refusals_one users count ace aces found one is =
    sym (append-nil (option_to_list found)) ∙ ap (λ (row : Option Refusal). option_to_list row ++ []) is ∙ ap (refusals_from users count) one

pub grants_one : {Y Z : Type 0} (make : Y → List Z) (one : Y) (ones : List Y) → (one ∷ []) ≡ ones → make one ≡ flat_map make ones
grants_one make one ones e = sym (append-nil (make one)) ∙ ap (flat_map make) e

-- The content

pub content_refused : (refusals : List Refusal) (grants : List Grant) (refusal : Refusal) → (refusal ∷ []) ≡ take 1 refusals → Bad refusal ≡ acl_by refusals grants
content_refused [] grants refusal e = absurd cc
content_refused (other ∷ more) grants refusal e = let same : refusal ≡ other = cc in ap Bad same

pub content_granted : (refusals : List Refusal) (grants made : List Grant) → [] ≡ take 1 refusals → made ≡ grants → Acl made ≡ acl_by refusals grants
content_granted [] grants made e same = ap Acl same
content_granted (other ∷ more) grants made e same = absurd cc

-- a body that is an ACL, and lacks no part
acl_is : (users : Users) (root : Element) → has_name dav (codes "acl") root ≡ true → list_any lacks_part (aces root) ≡ false
    → acl_content users root ≡ acl_by (refusals_from users 0 (aces root)) (flat_map (grants_of users) (aces root))
unfolding acl_content
acl_is users root is whole = λ i.
    if not (is i) || whole i then Bad bad_request else acl_by (refusals_from users 0 (aces root)) (flat_map (grants_of users) (aces root))

pub acl_refused : {E : Type 0} (users : Users) (root : Element) (refusal : Refusal) (read : Result Content E) → has_name dav (codes "acl") root ≡ true → list_any lacks_part (aces root) ≡ false
    → (refusal ∷ []) ≡ take 1 (refusals_from users 0 (aces root)) → IfOk read (λ content. content ≡ Bad refusal) → IfOk read (λ content. content ≡ acl_content users root)
acl_refused users root refusal read is whole first =
    IfOk-weaker read (λ content. content ≡ Bad refusal) (λ content. content ≡ acl_content users root)
    (λ content bad. bad ∙ content_refused (refusals_from users 0 (aces root)) (flat_map (grants_of users) (aces root)) refusal first ∙ sym (acl_is users root is whole))

pub acl_granted : (users : Users) (root : Element) (made : List Grant) → has_name dav (codes "acl") root ≡ true → list_any lacks_part (aces root) ≡ false
    → [] ≡ take 1 (refusals_from users 0 (aces root)) → made ≡ flat_map (grants_of users) (aces root) → Acl made ≡ acl_content users root
acl_granted users root made is whole none same = content_granted (refusals_from users 0 (aces root)) (flat_map (grants_of users) (aces root)) made none same ∙ sym (acl_is users root is whole)
