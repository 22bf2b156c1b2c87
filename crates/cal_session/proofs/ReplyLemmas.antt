-- The answer to one request: by a turn at the desk, or as it stands.
use Rattle.std.proofs.Common.{◌≡◌, ◌≢◌, ℕ, ◌⊎◌, inl, inr, List, [], ◌∷◌, ◌++◌, map, refl, sym, ap, subst, ◌∙◌, Bool, true, false}
use Rattle.std.specs.Prelude.{ℤ, if◌then◌else◌}
use Rattle.std.proofs.lemmas.List.{append-nil}
use Rattle.std.proofs.lemmas.Bool.Decides.{eqb_tells}
use Rattle.std.proofs.Math.Dec.{eqb}
use Rattle.turn_lock.specs.Passes.{PassState}
use Rattle.cal_model.specs.declared.reply.Reply.{Reply as ReplyData}
use Rattle.cal_model.specs.declared.request.Request.{Request}
use Rattle.cal_model.specs.declared.wire.WireRequest.{WireRequest}
use Rattle.cal_model.specs.History.Journal.{Entry}
use Rattle.cal_model.specs.Requests.AskedRequests.{asked, asked_of}
use Rattle.cal_model.specs.Requests.BookableRequests.{IsBookable}
use Rattle.cal_model.specs.State.ServerState.{directory_of}
use Rattle.cal_model.specs.Users.UsersFile.{Users}
use Rattle.cal_book.specs.EventSteps.{state_behind}
use Rattle.cal_book.specs.ReplyReasons.{HasReason, RepliesHaveReasons}
use Rattle.cal_book.specs.declared.desk.Told.TheVariants.{Reply}
use Rattle.cal_session.specs.AskedTurns.{AskedAt, AnsweredAt, IsReplied, answer_of}
use Rattle.cal_session.specs.Turns.{Answer, IsWithin, LooksUp, IsAlike, WhereRefused, event_of, reply_in, entries_in, is_given}

within_one : (b : Bool) (a : Answer) → IsWithin (map (λ (answer : Answer). answer.turn.at) (if b then a ∷ [] else [])) (a.turn.at ∷ [])
within_one true a = inl (refl, tt)
within_one false a = tt

looks_once : (users : Users) (before after : List ℕ) (a : Answer) → after ≡ before ++ a.turn.at ∷ [] → LooksUp users before (a ∷ []) after
looks_once users before after a grown = record { looks = a.turn.at ∷ []; grown = grown; within = within_one (is_given users a) a }

module _ (users : Users) (pass now : PassState Entry Users) (wire : WireRequest) (moment : ℤ) where
  -- by the desk
  pub replied : (who : ℕ) (request : Request) (at : ℕ) (reply : ReplyData) → asked_of users wire ≡ asked who request → {X : Type 0} → AskedAt {X = X} users pass at (event_of pass.number who moment request) (Reply reply) now.seen
      → now.looks ≡ pass.looks ++ at ∷ [] → AnsweredAt users pass now (answer_of wire moment (at, reply))
  replied who request at reply is x grown = by_status (eqb_tells reply.status 503)
    where
      t : IsReplied users x.journal (event_of pass.number who moment request) reply now.seen
      t = x.is

      by_status : ((eqb reply.status 503 ≡ true) × (reply.status ≡ 503)) ⊎ ((eqb reply.status 503 ≡ false) × (reply.status ≢ 503)) → AnsweredAt users pass now (answer_of wire moment (at, reply))
      by_status (inl busy) = record {
        journal = x.journal;
        later = x.later;
        place = x.place;
        status = refl;
        reply = inr (t.busy busy.1).0;
        alike = subst (λ what. IsAlike users pass.number (state_behind users x.journal) moment what reply) (sym is) t.alike;
        seen = (t.busy busy.1).1 ∙ (sym (append-nil x.journal) ∙ ap (λ b. x.journal ++ (if b then [] else entries_in users pass.number (state_behind users x.journal) moment (asked_of users wire))) (sym busy.0));
        looks = looks_once users pass.looks now.looks (answer_of wire moment (at, reply)) grown;
        refused_at = subst (λ what. WhereRefused what (x.journal ≡ pass.seen)) (sym is) tt;
        refused_looks = subst (λ what. WhereRefused what (now.looks ≡ pass.looks)) (sym is) tt;
      }
      by_status (inr other) = record {
        journal = x.journal;
        later = x.later;
        place = x.place;
        status = refl;
        reply = inl (subst (λ what. reply ≡ reply_in users pass.number (state_behind users x.journal) moment what) (sym is) (t.answered other.1).0);
        alike = subst (λ what. IsAlike users pass.number (state_behind users x.journal) moment what reply) (sym is) t.alike;
        seen = (t.answered other.1).1 ∙ (ap (λ what. x.journal ++ entries_in users pass.number (state_behind users x.journal) moment what) (sym is) ∙ ap (λ b. x.journal ++ (if b then [] else entries_in users pass.number (state_behind users x.journal) moment (asked_of users wire))) (sym other.0));
        looks = looks_once users pass.looks now.looks (answer_of wire moment (at, reply)) grown;
        refused_at = subst (λ what. WhereRefused what (x.journal ≡ pass.seen)) (sym is) tt;
        refused_looks = subst (λ what. WhereRefused what (now.looks ≡ pass.looks)) (sym is) tt;
      }

  -- and it can be written
  pub replied_known : (who : ℕ) (request : Request) (at : ℕ) (reply : ReplyData) → {X : Type 0} → AskedAt {X = X} users pass at (event_of pass.number who moment request) (Reply reply) now.seen → IsBookable users who request → RepliesHaveReasons → HasReason reply
  replied_known who request at reply x bookable reasons = by_status (eqb_tells reply.status 503)
    where
      t : IsReplied users x.journal (event_of pass.number who moment request) reply now.seen
      t = x.is

      by_status : ((eqb reply.status 503 ≡ true) × (reply.status ≡ 503)) ⊎ ((eqb reply.status 503 ≡ false) × (reply.status ≢ 503)) → HasReason reply
      by_status (inl busy) = subst (λ (given : ReplyData). HasReason given) (sym (t.busy busy.1).0) reasons.busy
      by_status (inr other) = subst (λ (given : ReplyData). HasReason given) (sym (t.answered other.1).0)
          (reasons.answered users (directory_of users) (state_behind users x.journal) (event_of pass.number who moment request) bookable)
