-- A close of both halves of a stream: its write half closes, which the directions do not see, and then it is stopped.
use Rattle.std.proofs.Common.{◌≡◌, refl, ◌∙◌, sym, subst, inl, inr, ℕ}
use Rattle.std.proofs.Common.{[], ◌∷◌, None}
use Rattle.sctp_streams.specs.declared.setting.Setting.{Setting}
use Rattle.sctp_streams.specs.declared.setting.Setting.TheVariants as settings
use Rattle.sctp_directions.specs.Acts.{Act}
use Rattle.sctp_assoc.specs.Calls.{adjusted, stop_refusal, stream_refusal}
use Rattle.sctp_assoc.specs.Shown.{Shown}
use Rattle.sctp_assoc.proofs.Stopping.{stop_refusal_stays}
use Rattle.sctp_sides.proofs.Proved.{found_streams_are_live, settings_keep_the_status}
use Rattle.sctp_sides.proofs.Proved.{the_same_status_is_the_same_stage}
use Rattle.sctp_assoc.specs.declared.call.Reply.{Reply}
use Rattle.sctp_assoc.specs.declared.call.Reply.TheVariants as replies
use Rattle.sctp_assoc.specs.Replies.{ClosesStream}
use Rattle.sctp_pair.proofs.BetweenDirections.{Faces, None_brought, SettlesEnding, Surroundings, nothing_added}
use Rattle.sctp_pair.proofs.BetweenDirections.{nothing_read, orderly_acts_keep_order}
use Rattle.sctp_pair.proofs.HandshakeStages.{at_same}
use Rattle.sctp_pair.proofs.QuietCalls.{fails_settle, same_settles, unseen_stands}
use Rattle.sctp_pair.proofs.ReadCall.{found_none}
use Rattle.sctp_pair.proofs.ShutdownSteps.{sets_end}
use Rattle.sctp_pair.proofs.StopCall.{Ended_by, That, quietly, stopped_settles}
use Rattle.sctp_pair.proofs.StreamCalls.{adjusted_unseen}
use Rattle.sctp_pair.proofs.WriteCall.{first_none}

abbrev closing : Setting
closing = settings.WriteHalfClosed

-- An association whose write half of a live stream closed faces the other one between the same directions.
half_closed_faces : {x : Surroundings} {a : Shown} (id : ℕ) → stream_refusal a id ≡ None → Faces x a
    → Faces x (adjusted a id closing)
half_closed_faces {x} {a} id found f =
    let b : Shown = adjusted a id closing in
    let act : Act = Act.Adjusted id closing in
    let stage = the_same_status_is_the_same_stage a b (settings_keep_the_status a id closing) in
    record {
      within_out = f.within_out;
      within_coming = f.within_coming;
      sound_out = f.sound_out;
      sound_coming = f.sound_coming;
      both = f.both;
      stands =
          unseen_stands (act ∷ [])
          (adjusted_unseen x a id closing (orderly_acts_keep_order x.loose act (λ s n. n)))
          (found_streams_are_live a id found).working f;
      other = f.other;
      at = at_same a b x.here stage f.at;
      meets = f.meets;
      silent = f.silent;
      ends = sets_end a b id closing replies.Done (found, refl) f.ends;
    }

-- A close of a stream ends its span, if it ends one, as a stop does.
pub closes_stream_settle : {x : Surroundings} {a b : Shown} (id : ℕ) (r : Reply) → ClosesStream a id r b → Faces x a
    → SettlesEnding (Ended_by r id) x b nothing_added nothing_read None_brought
closes_stream_settle {x} {a} id replies.Done h f =
    let found = found_none (stream_refusal a id) (stop_refusal a id) h.0 in
    let unrefused = stop_refusal_stays a id ∙ first_none (stream_refusal a id) (stop_refusal a id) h.0 in
    subst (λ (z : Shown). SettlesEnding (That id) x z nothing_added nothing_read None_brought) (sym h.1)
    (stopped_settles id unrefused (half_closed_faces id found f))
closes_stream_settle id (replies.Refused n) (inl refused) f = quietly (same_settles refused.1 f)
closes_stream_settle id (replies.Refused n) (inr fails) f = quietly (fails_settle fails.2.2.marked f)
closes_stream_settle id r h f = absurd h
