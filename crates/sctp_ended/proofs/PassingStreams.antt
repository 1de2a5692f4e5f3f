-- A live stream that holds nothing but pieces that pass a test, whatever is done to the live streams, as long as no
-- piece is put into it that does not pass.
use Rattle.std.proofs.Common.{◌≡◌, refl, sym, ◌∙◌, subst, ℕ, ◌&&◌, Bool, true, false, not, cond, eqb, List, [], ◌∷◌}
use Rattle.std.proofs.Common.{fold, Option, Some, None, is_some}
use Rattle.std.proofs.lemmas.Bool.{eq-eqb, false≢true}
use Rattle.std.specs.List.{AllByRecursion}
use Rattle.sctp_wire_types.specs.declared.chunk.ChunkPayloadData.{ChunkPayloadData}
use Rattle.sctp_wire_types.specs.declared.error.Error.{Error}
use Rattle.sctp_wire_types.specs.declared.ids.PayloadProtocolIdentifier.{PayloadProtocolIdentifier}
use Rattle.sctp_wire_types.specs.declared.ids.PayloadProtocolIdentifier.TheVariants as kinds
use Rattle.sctp_receive_queues.specs.Messages.{ReceivedMessage}
use Rattle.sctp_receive_queues.specs.Reassembly.{Reassembly, taken}
use Rattle.sctp_streams.specs.Stream.{StreamView, read_with, without_unread}
use Rattle.sctp_streams.specs.Streams.{StreamMap, changed_stream, generation_left, is_readable_in, made, passed_in}
use Rattle.sctp_streams.specs.Streams.{pushed_in, read_in, refusal_at, refusal_in, stream_at, without_stream}
use Rattle.sctp_resets.specs.Channels.{Channels, delivered, given_unless, given_where, opened, with_new_stream}
use Rattle.sctp_resets.proofs.ListsOver.{of_chosen}
use Rattle.sctp_reset_fit.specs.Laws.{Passes}
use Rattle.sctp_reset_fit.specs.Pieces.{HoldsOnly}
use Rattle.sctp_reset_fit.proofs.HeldPieces.{empty_holds, pushed_holds, taken_holds, unordered_skipped_holds}
use Rattle.sctp_reset_fit.proofs.Weaker.{stream_weaker}
use Rattle.sctp_ended.proofs.Carried.{IsMild}
use Rattle.sctp_ended.proofs.LiveStream.{IsAt, changed_at, made_at, passed_in_at, pushed_in_at, read_in_at, without_at}

-- what one live stream holds passes
abbrev pub Holds : (ChunkPayloadData → Bool) → ℕ → StreamView → Type 0
Holds test id s = HoldsOnly (Passes test) id s.reassembly

abbrev pub HoldsPassing : (ChunkPayloadData → Bool) → ℕ → StreamMap → Type 0
HoldsPassing test id m = IsAt (Holds test id) id m

-- a test that passes more
pub weaker_passing : (test other : ChunkPayloadData → Bool) (id : ℕ) (m : StreamMap)
    → ((d : ChunkPayloadData) → test d ≡ true → other d ≡ true) → HoldsPassing test id m → HoldsPassing other id m
weaker_passing test other id m more h = record {
  once = h.once;
  so = λ s e. stream_weaker (Passes test) (Passes other) more id s.reassembly (h.so s e);
}

module _ (test : ChunkPayloadData → Bool) (id : ℕ) where
  -- a stream other than this one leaves it
  same_else : (k : ℕ) → eqb id k ≡ false → (s : StreamView) → Holds test id s → Holds test id s
  same_else k other s h = h

  pub changed_passing : (change : StreamView → StreamView) → IsMild change → (m : StreamMap) (k : ℕ)
      → HoldsPassing test id m → HoldsPassing test id (changed_stream change m k)
  changed_passing change mild m k h =
      changed_at (Holds test id) (Holds test id) id change m k (λ same s held. mild.holds test id s held) (same_else k)
      h

  -- a stream of which all that waits is dropped holds nothing
  pub emptied_passing : (Q : StreamView → Type 0) (m : StreamMap) → IsAt Q id m
      → HoldsPassing test id (changed_stream without_unread m id)
  emptied_passing Q m h =
      changed_at Q (Holds test id) id without_unread m id (λ same s held. empty_holds (Passes test) id)
      (λ other s held. absurd (false≢true (sym other ∙ eq-eqb id id refl))) h

  pub without_passing : (m : StreamMap) (k : ℕ) → HoldsPassing test id m → HoldsPassing test id (without_stream m k)
  without_passing m k h = without_at (Holds test id) (Holds test id) id m k (same_else k) h

  pub made_passing : (m : StreamMap) (k first : ℕ) (kind : PayloadProtocolIdentifier) → stream_at m k ≡ None
      → HoldsPassing test id m → HoldsPassing test id (made m k first kind)
  made_passing m k first kind none h =
      made_at (Holds test id) (Holds test id) id m k first kind none (empty_holds (Passes test) id) (same_else k) h

  read_holds : (s : StreamView) (left : Reassembly × Option ReceivedMessage) → HoldsOnly (Passes test) id left.0
      → Holds test id (read_with s left).0
  read_holds s (r, None) h = h
  read_holds s (r, Some message) h = h

  pub read_in_passing : (m : StreamMap) (k : ℕ) → HoldsPassing test id m → HoldsPassing test id (read_in m k).0
  read_in_passing m k h =
      read_in_at (Holds test id) (Holds test id) id m k
      (λ same s held. read_holds s (taken s.reassembly) (taken_holds (Passes test) id s.reassembly held).0)
      (same_else k) h

  -- a piece comes on another stream, or it passes
  pub pushed_passing : (m : StreamMap) (p : ChunkPayloadData) (limit : ℕ) → (id ≡ p.stream_identifier → test p ≡ true)
      → refusal_in m p.stream_identifier p limit ≡ None → HoldsPassing test id m
      → HoldsPassing test id (pushed_in m p.stream_identifier p).0
  pushed_passing m p limit passes fits h =
      pushed_in_at (Holds test id) (Holds test id) id m p.stream_identifier p
      (λ same s is held. pushed_holds (Passes test) id s.reassembly p limit held (passes same) (sym same)
      (subst (λ (o : Option StreamView). refusal_at o p limit ≡ None) is fits))
      (same_else p.stream_identifier) h

  -- a FORWARD TSN drops unordered pieces on all streams
  pub passed_in_passing : (m : StreamMap) (tsn : ℕ) → HoldsPassing test id m → HoldsPassing test id (passed_in m tsn)
  passed_in_passing m tsn h =
      passed_in_at (Holds test id) (Holds test id) id m tsn
      (λ s held. unordered_skipped_holds (Passes test) id s.reassembly tsn held) h

  -- DATA that waited goes to its streams

  abbrev ChannelsPass : Channels → Type 0
  ChannelsPass c = HoldsPassing test id c.streams

  opened_passing : (first : ℕ) (c : Channels) (k : ℕ) → ChannelsPass c → ChannelsPass (opened first c k).0
  unfolding opened
  opened_passing first c k h = by (stream_at c.streams k) refl (generation_left c.streams)
    where
      by : (o : Option StreamView) → stream_at c.streams k ≡ o → (left : Bool)
          → ChannelsPass
          (cond {A = Channels × Bool} (is_some o) (c, true)
          (cond {A = Channels × Bool} (not left) (c, false) (with_new_stream first c k, true))).0
      by (Some s) is left = h
      by None is false = h
      by None is true = made_passing c.streams k first kinds.Unknown is h

  given_passing : (limit : ℕ) (c : Channels) (there : Bool) (d : ChunkPayloadData)
      → (id ≡ d.stream_identifier → test d ≡ true) → ChannelsPass c → ChannelsPass (given_where limit (c, there) d)
  given_passing limit c false d passes h = h
  given_passing limit c true d passes h = by (refusal_in c.streams d.stream_identifier d limit) refl
    where
      by : (o : Option Error) → refusal_in c.streams d.stream_identifier d limit ≡ o → ChannelsPass (given_unless o c d)
      by (Some fault) e = h
      by None e =
          let pushed = pushed_passing c.streams d limit passes e h in
          of_chosen ChannelsPass
          ((pushed_in c.streams d.stream_identifier d).1
          && is_readable_in (pushed_in c.streams d.stream_identifier d).0 d.stream_identifier) _ _ pushed pushed

  delivered_passing : (first limit : ℕ) (c : Channels) (d : ChunkPayloadData)
      → (id ≡ d.stream_identifier → test d ≡ true) → ChannelsPass c → ChannelsPass (delivered first limit c d)
  unfolding delivered
  delivered_passing first limit c d passes h =
      given_passing limit (opened first c d.stream_identifier).0 (opened first c d.stream_identifier).1 d passes
      (opened_passing first c d.stream_identifier h)

  pub all_delivered_passing : (first limit : ℕ) (ds : List ChunkPayloadData) (c : Channels)
      → AllByRecursion (λ (d : ChunkPayloadData). id ≡ d.stream_identifier → test d ≡ true) ds → ChannelsPass c
      → ChannelsPass (fold (delivered first limit) c ds)
  all_delivered_passing first limit [] c each h = h
  all_delivered_passing first limit (d ∷ ds) c each h =
      all_delivered_passing first limit ds (delivered first limit c d) each.1
      (delivered_passing first limit c d each.0 h)
