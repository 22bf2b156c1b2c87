-- Where a wire stands.
use Rattle.std.proofs.Common.{◌≡◌, ◌⊎◌, ℕ, ◌+◌, List, [], ◌++◌, drop, sym, ap, ◌∙◌, inl, inr, ⊎_elim, append-nil}
use Rattle.std.specs.Prelude.{Bool, ◌↔◌, IsTrue}
use Rattle.std.proofs.lemmas.List.{drop-drop}
use Rattle.cal_model.specs.Streams.StreamRequests.{Front, request, fault, front, idle, cut}
use Rattle.http_wire.specs.declared.stage.Stage.{Stage}
use Rattle.http_wire.specs.declared.stage.Stage.TheVariants.{Head, Body, Failed}
use Rattle.cal_model.specs.declared.wire.WireFault.{WireFault}
use Rattle.cal_model.specs.declared.wire.WireRequest.{WireRequest}
use Rattle.http_wire.specs.declared.part.Part.{Part}
use Rattle.http_wire.specs.declared.wire.Wire.{Wire}
use Rattle.http_wire.specs.declared.wire.Next.{Next}
use Rattle.http_wire.specs.declared.wire.Next.TheVariants.{Request, Need, Fault, NoMemory}
use Rattle.http_wire.specs.WireStates.{front_of}
use Rattle.http_wire.specs.Wires.{wire_front, Stands, Leads, NextIs}
use Rattle.http_wire.proofs.ShortBodies.{bodies-short}

pub head_stands : (stage : Stage) (at n new_at : ℕ) (octets new_octets : List ℕ) → stage ≡ Head → new_at ≡ at + n → new_octets ≡ octets → (more : List ℕ) → front (drop n (drop at octets) ++ more) ≡ front_of stage (drop new_at new_octets ++ more)
head_stands stage at n new_at octets new_octets is place same more =
    ap (λ l. front (l ++ more)) (drop-drop n at octets) ∙ ap (λ k. front (drop k octets ++ more)) (sym place) ∙ ap (λ l. front (drop new_at l ++ more)) (sym same)
    ∙ ap (λ s. front_of s (drop new_at new_octets ++ more)) (sym is)

pub leads_from : (answer : Next) (f g : List ℕ → Front) (wire : Wire) → ((more : List ℕ) → g more ≡ f more) → Leads answer f wire → Leads answer g wire
leads_from (Request r) f g wire same h = (h.0, λ more. same more ∙ h.1 more, h.2)
leads_from Need f g wire same h = (⊎_elim (λ a. inl (same [] ∙ a)) (λ b. inr (same [] ∙ b)) h.0, λ more. same more ∙ h.1 more)
leads_from (Fault why) f g wire same h = (λ more. same more ∙ h.0 more, h.1)
leads_from NoMemory f g wire same h = λ more. same more ∙ h more

pub head_begins : (stage : Stage) (at n new_at : ℕ) (octets new_octets unread : List ℕ) (r : WireRequest) (part : Part) → stage ≡ Head → unread ≡ drop at octets → new_at ≡ at + n → new_octets ≡ octets
    → ((more : List ℕ) → front (unread ++ more) ≡ front_of (Body r part) (drop n unread ++ more)) → (more : List ℕ) → front_of stage (drop at octets ++ more) ≡ front_of (Body r part) (drop new_at new_octets ++ more)
head_begins stage at n new_at octets new_octets unread r part is there place same h more =
    ap (λ s. front_of s (drop at octets ++ more)) is
    ∙ ap (λ l. front (l ++ more)) (sym there)
    ∙ h more
    ∙ ap (λ l. front_of (Body r part) (drop n l ++ more)) there
    ∙ ap (λ l. front_of (Body r part) (l ++ more)) (drop-drop n at octets)
    ∙ ap (λ k. front_of (Body r part) (drop k octets ++ more)) (sym place)
    ∙ ap (λ l. front_of (Body r part) (drop new_at l ++ more)) (sym same)

pub answers_are_read : (answer : Next) (octets : List ℕ) (old new : Wire) → Leads answer (wire_front old) new → Stands octets old → NextIs answer octets new
answers_are_read (Request r) octets old new h s =
    let begins : front octets ≡ request r h.0 = ap front (sym (append-nil octets)) ∙ s [] ∙ h.1 [] ∙ ap (request r) (append-nil h.0) in
    (h.0, begins, h.2, bodies-short octets r h.0 begins)
answers_are_read Need octets old new h s =
    let here = ap front (sym (append-nil octets)) ∙ s [] in
    (⊎_elim (λ a. inl (here ∙ a)) (λ b. inr (here ∙ b)) h.0, λ more. s more ∙ h.1 more)
answers_are_read (Fault why) octets old new h s = (ap front (sym (append-nil octets)) ∙ s [] ∙ h.0 [], λ more. s more ∙ h.0 more ∙ sym (h.1 more))
answers_are_read NoMemory octets old new h s = λ more. s more ∙ h more

pub idle_reads : (octets : List ℕ) (wire : Wire) (answer : Bool) → Stands octets wire → (IsTrue answer ↔ (wire_front wire [] ≡ idle)) → (IsTrue answer ↔ (front octets ≡ idle))
idle_reads octets wire answer s h =
    let here = ap front (sym (append-nil octets)) ∙ s [] in
    (λ t. here ∙ h.0 t, λ e. h.1 (sym here ∙ e))

-- The answers in front of a head, and at a fault

pub faults : (octets : List ℕ) (wire : Wire) (why : WireFault) → Stands octets wire → ((more : List ℕ) → wire_front wire more ≡ fault why) → (front octets ≡ fault why) × ((more : List ℕ) → front (octets ++ more) ≡ fault why)
faults octets wire why s h = (ap front (sym (append-nil octets)) ∙ s [] ∙ h [], λ more. s more ∙ h more)

pub stays_failed : (octets : List ℕ) (wire : Wire) (why : WireFault) → Stands octets wire → Failed why ≡ wire.stage → (front octets ≡ fault why) × ((more : List ℕ) → front (octets ++ more) ≡ fault why)
stays_failed octets wire why s is = faults octets wire why s (λ more. ap (λ stage. front_of stage (drop wire.at wire.octets ++ more)) (sym is))

pub head_front : (wire : Wire) (unread more : List ℕ) → Head ≡ wire.stage → unread ≡ drop wire.at wire.octets → wire_front wire more ≡ front (unread ++ more)
head_front wire unread more is there = ap (λ stage. front_of stage (drop wire.at wire.octets ++ more)) (sym is) ∙ ap (λ l. front (l ++ more)) (sym there)

pub head_faults : (octets unread : List ℕ) (wire : Wire) (why : WireFault) → Stands octets wire → Head ≡ wire.stage → unread ≡ drop wire.at wire.octets → ((more : List ℕ) → front (unread ++ more) ≡ fault why) → (front octets ≡ fault why) × ((more : List ℕ) → front (octets ++ more) ≡ fault why)
head_faults octets unread wire why s is there h = faults octets wire why s (λ more. head_front wire unread more is there ∙ h more)

pub head_needs : (octets unread : List ℕ) (wire : Wire) → Stands octets wire → Head ≡ wire.stage → unread ≡ drop wire.at wire.octets → (front unread ≡ idle) ⊎ (front unread ≡ cut) → (front octets ≡ idle) ⊎ (front octets ≡ cut)
head_needs octets unread wire s is there h =
    let here = ap front (sym (append-nil octets)) ∙ s [] ∙ head_front wire unread [] is there ∙ ap front (append-nil unread) in
    ⊎_elim (λ a. inl (here ∙ a)) (λ b. inr (here ∙ b)) h
