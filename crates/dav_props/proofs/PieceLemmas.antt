-- Elements of sets, one piece after another.
use Rattle.std.proofs.Common.{◌≡◌, ℕ, Bool, true, false, cond, List, [], ◌∷◌, ◌++◌, map, refl, sym, ap, ◌∙◌, subst, arith, append-nil, append_assoc, length, ◌<◌}
use Rattle.std.specs.Prelude.{flat_map, filter, codes}
use Rattle.std.specs.List.{AllByRecursion}
use Rattle.cal_base.specs.Xml.CanonicalXml.{attribute, attribute_text, element_with}
use Rattle.cal_model.specs.declared.property.PropName.{PropName}
use Rattle.cal_model.specs.Access.Privileges.{privileges, has_all}
use Rattle.cal_model.specs.Properties.PropertyValues.{bit_elements, kinds_elements, grantee, grant_element}
use Rattle.cal_model.specs.declared.path.Path.TheVariants.{Principal}
use Rattle.cal_model.specs.declared.privilege.Grant.{Grant}
use Rattle.cal_model.specs.declared.privilege.Who.{Who}
use Rattle.cal_model.specs.declared.privilege.Who.TheVariants.{Everyone, Owner, Principal as ToPrincipal, Group as ToGroup}
use Rattle.cal_model.specs.State.ServerState.{Directory, user_name, group_name}
use Rattle.cal_model.specs.Replies.XmlText.{element}
use Rattle.dav_write.proofs.ErrorLemmas.{filled}
use Rattle.multistatus.proofs.TagLemmas.{href_pieces}
use Rattle.cal_model.specs.Refusals.RefusalReplies.{privileges_of}
use Rattle.cal_model.specs.Replies.ReplyElements.{privilege_element}
use Rattle.dav_props.specs.Contents.{bit_piece, bit_pieces, piece_where, ace_front}

flat_filter : {X : Type 0} (f : X → List ℕ) (p : X → Bool) (x : X) (xs : List X) → flat_map f (filter p (x ∷ xs)) ≡ cond (p x) (f x) [] ++ flat_map f (filter p xs)
flat_filter f p x xs = by (p x) where
  by : (test : Bool) → flat_map f (cond test (x ∷ filter p xs) (filter p xs)) ≡ cond test (f x) [] ++ flat_map f (filter p xs)
  by true = refl
  by false = refl

rows_pieces : (set : ℕ) (rows : List (PropName × ℕ)) → AllByRecursion (λ (row : PropName × ℕ). privileges_of row.1 ≡ privilege_element row.0) rows
    → flat_map (λ (row : PropName × ℕ). privilege_element row.0) (filter (λ (row : PropName × ℕ). has_all set row.1) rows) ≡ bit_pieces set (map (λ (row : PropName × ℕ). row.1) rows)
rows_pieces set [] all = refl
rows_pieces set (row ∷ rows) all =
    flat_filter (λ (row : PropName × ℕ). privilege_element row.0) (λ (row : PropName × ℕ). has_all set row.1) row rows
    ∙ ap (λ text. cond (has_all set row.1) text [] ++ flat_map (λ (row : PropName × ℕ). privilege_element row.0) (filter (λ (row : PropName × ℕ). has_all set row.1) rows)) (sym all.0)
    ∙ ap (λ rest. bit_piece set row.1 ++ rest) (rows_pieces set rows all.1)

-- the privileges of a set, bit by bit
pub bits_are : (set : ℕ) → bit_elements set ≡ bit_pieces set (1 ∷ 2 ∷ 4 ∷ 8 ∷ 16 ∷ 32 ∷ 64 ∷ 128 ∷ 256 ∷ [])
bits_are set = rows_pieces set privileges (refl, (refl, (refl, (refl, (refl, (refl, (refl, (refl, (refl, tt)))))))))

abbrev kind_element : List ℕ × ℕ → List ℕ
kind_element kind = element_with (codes "C:comp") (attribute (codes "name") kind.0) []

abbrev in_set : ℕ → List ℕ × ℕ → Bool
in_set set kind = has_all set kind.1

abbrev kind_piece : ℕ → List ℕ × ℕ → List ℕ
kind_piece set kind = cond (has_all set kind.1) (kind_element kind) []

kinds_pieces : (set : ℕ) (a b c d : List ℕ × ℕ)
    → cond (has_all set a.1) (kind_element a) [] ++ (cond (has_all set b.1) (kind_element b) [] ++ (cond (has_all set c.1) (kind_element c) [] ++ cond (has_all set d.1) (kind_element d) []))
    ≡ flat_map kind_element (filter (λ (kind : List ℕ × ℕ). has_all set kind.1) (a ∷ b ∷ c ∷ d ∷ []))
kinds_pieces set a b c d = sym (
    flat_filter kind_element (in_set set) a (b ∷ c ∷ d ∷ [])
    ∙ ap (λ rest. kind_piece set a ++ rest) (flat_filter kind_element (in_set set) b (c ∷ d ∷ [])
    ∙ ap (λ rest. kind_piece set b ++ rest) (flat_filter kind_element (in_set set) c (d ∷ [])
    ∙ ap (λ rest. kind_piece set c ++ rest) (flat_filter kind_element (in_set set) d [] ∙ append-nil (kind_piece set d))))
    )

-- the kinds of a set, one by one
pub kinds_are : (set : ℕ)
    → piece_where set 1 (codes "<C:comp name=\"VEVENT\"/>") ++ (piece_where set 2 (codes "<C:comp name=\"VTODO\"/>")
    ++ (piece_where set 4 (codes "<C:comp name=\"VJOURNAL\"/>") ++ piece_where set 8 (codes "<C:comp name=\"VFREEBUSY\"/>")))
    ≡ kinds_elements set
unfolding attribute_text
kinds_are set = kinds_pieces set (codes "VEVENT", 1) (codes "VTODO", 2) (codes "VJOURNAL", 4) (codes "VFREEBUSY", 8)

-- Aces

grantee_there : (directory : Directory) (who : Who) → 0 < length (grantee directory who)
grantee_there directory Everyone = omega arith
grantee_there directory Owner = omega arith
grantee_there directory (ToPrincipal user) = subst (λ text. 0 < length text) (href_pieces (Principal (user_name directory user))) (omega arith)
grantee_there directory (ToGroup number) = subst (λ text. 0 < length text) (href_pieces (Principal (group_name directory number))) (omega arith)

-- the ace of a grant, piece by piece
pub grant_pieces : (directory : Directory) (grant : Grant)
    → ace_front (grantee directory grant.who) ++ (element (codes "D:grant") (bit_elements grant.held.0) ++ codes "</D:ace>") ≡ grant_element directory grant
grant_pieces directory grant =
    let who = grantee directory grant.who in
    let given = element (codes "D:grant") (bit_elements grant.held.0) in
    let opening = codes "<D:principal>" in
    let closing = codes "</D:principal>" in
    ap (λ text. codes "<D:ace><D:principal>" ++ text) (append_assoc who closing (given ++ codes "</D:ace>"))
    ∙ ap (λ text. codes "<D:ace>" ++ (opening ++ text)) (sym (append_assoc who closing (given ++ codes "</D:ace>")))
    ∙ ap (λ text. codes "<D:ace>" ++ text) (sym (append_assoc opening (who ++ closing) (given ++ codes "</D:ace>")) ∙ sym (append_assoc (opening ++ (who ++ closing)) given (codes "</D:ace>")))
    ∙ ap (λ text. codes "<D:ace>" ++ (((opening ++ (who ++ closing)) ++ text) ++ codes "</D:ace>")) (sym (append-nil given))
    ∙ ap (λ text. element (codes "D:ace") (text ++ (given ++ []))) (sym (filled (codes "D:principal") [] who (grantee_there directory grant.who)))
