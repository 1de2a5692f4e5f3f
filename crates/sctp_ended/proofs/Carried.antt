-- What is so of what is kept of resets, of the peer's requests and of the live streams, and is carried by each of a few
-- rules. Steps of an association that carry it: those that leave all of that, and those that end all streams.
use Rattle.std.proofs.Common.{◌≡◌, refl, sym, subst, ℕ, Bool, true, false, if◌then◌else◌, List, filter, Option, Some}
use Rattle.std.proofs.Common.{None}
use Rattle.sctp_wire_types.specs.declared.chunk.Chunk.{Chunk}
use Rattle.sctp_wire_types.specs.declared.chunk.ChunkPayloadData.{ChunkPayloadData}
use Rattle.sctp_wire_types.specs.declared.ids.PayloadProtocolIdentifier.{PayloadProtocolIdentifier}
use Rattle.sctp_wire_types.specs.declared.param.ReconfigResult.{ReconfigResult}
use Rattle.sctp_streams.specs.declared.event.AssociationError.{AssociationError}
use Rattle.sctp_streams.specs.declared.event.AssociationError.TheVariants as reasons
use Rattle.sctp_streams.specs.declared.halves.RecvSendState.{RecvSendState}
use Rattle.sctp_streams.specs.declared.halves.RecvSendState.TheVariants as halves
use Rattle.sctp_streams.specs.Stream.{StreamView, is_read_half_open, released_from, stream_skipped, with_halves}
use Rattle.sctp_streams.specs.Stream.{with_restarted_ssn, with_ssn_given_back, without_read_half, without_unread}
use Rattle.sctp_streams.specs.Streams.{StreamMap, changed_stream, made, passed_in, pushed_in, read_in, refusal_in}
use Rattle.sctp_streams.specs.Streams.{stream_at, without_stream, without_streams}
use Rattle.sctp_generations.specs.declared.skips.KeptSkip.{KeptSkip}
use Rattle.sctp_generations.specs.Generations.{GenerationsView, discarded, is_hidden, no_generations}
use Rattle.sctp_generations.specs.Generations.{with_deferred}
use Rattle.sctp_reset_requests.specs.Peer as peer
use Rattle.sctp_reset_requests.specs.Peer.{PeerView, boundary_of, peer_closed}
use Rattle.sctp_reset_requests.specs.Request.{PeerRequestView}
use Rattle.sctp_resets.specs.Channels.{Channels}
use Rattle.sctp_resets.specs.Resets.{Beside, ResetsView, Resetting, performed, read_out}
use Rattle.sctp_reset_fit.specs.Laws.{Passes}
use Rattle.sctp_reset_fit.specs.Pieces.{HoldsOnly}
use Rattle.sctp_reset_fit.proofs.HeldPieces.{empty_holds, skipped_holds}
use Rattle.sctp_assoc.specs.Calls.{eased, tells_window, told_if}
use Rattle.sctp_assoc.specs.Closing.{closed_by, closed_open, exhausted, is_closed_state, is_exhausted, out_of_resource}
use Rattle.sctp_assoc.specs.Closing.{relieved}
use Rattle.sctp_assoc.specs.Control.{asking, queued}
use Rattle.sctp_assoc.specs.Resets.{asking_if, responding, with_beside, with_resetting}
use Rattle.sctp_assoc.specs.Shown.{Shown}

-- The rules

-- What is done to a stream leaves the number of its generation, opens no read half, and leaves no more waiting of it.
pub record IsMild (change : StreamView → StreamView) : Type 0 where
  pub number : (s : StreamView) → (change s).stats.generation ≡ s.stats.generation
  pub opens : (s : StreamView) → is_read_half_open (change s).halves ≡ true → is_read_half_open s.halves ≡ true
  pub holds : (test : ChunkPayloadData → Bool) (id : ℕ) (s : StreamView) → HoldsOnly (Passes test) id s.reassembly
      → HoldsOnly (Passes test) id (change s).reassembly

pub released_is_mild : (bytes : ℕ) → IsMild (λ s. released_from s bytes)
released_is_mild bytes = record { number = λ s. refl; opens = λ s e. e; holds = λ test id s h. h }

pub given_back_is_mild : (bytes : ℕ) → IsMild (λ s. released_from (with_ssn_given_back s) bytes)
given_back_is_mild bytes = record { number = λ s. refl; opens = λ s e. e; holds = λ test id s h. h }

pub restarted_is_mild : IsMild with_restarted_ssn
restarted_is_mild = record { number = λ s. refl; opens = λ s e. e; holds = λ test id s h. h }

pub skipped_is_mild : (ssn : ℕ) → IsMild (stream_skipped ssn)
skipped_is_mild ssn = record {
  number = λ s. refl;
  opens = λ s e. e;
  holds = λ test id s h. skipped_holds (Passes test) id s.reassembly ssn h;
}

pub emptied_is_mild : IsMild without_unread
emptied_is_mild =
    record { number = λ s. refl; opens = λ s e. e; holds = λ test id s h. empty_holds (Passes test) id }

-- the read half closes
abbrev pub half_closed : StreamView → StreamView
half_closed s = with_halves s (without_read_half s.halves)

-- one that closes does not open
half_opens : (h : RecvSendState) → is_read_half_open (without_read_half h) ≡ true → is_read_half_open h ≡ true
half_opens halves.Closed e = e
half_opens halves.Readable e = refl
half_opens halves.Writable e = e
half_opens halves.ReadWritable e = refl

pub half_closed_is_mild : IsMild half_closed
half_closed_is_mild =
    record { number = λ s. refl; opens = λ s e. half_opens s.halves e; holds = λ test id s h. h }

-- What is so of the streams is carried by all but DATA that comes; skips that are kept do not count.
pub record IsCarriedByStreams (T : GenerationsView → PeerView → StreamMap → Type 0) : Type 0 where
  pub changes : (g : GenerationsView) (p : PeerView) (m : StreamMap) (change : StreamView → StreamView) (id : ℕ)
      → IsMild change → T g p m → T g p (changed_stream change m id)
  pub reads : (g : GenerationsView) (p : PeerView) (m : StreamMap) (id : ℕ) → T g p m → T g p (read_in m id).0
  pub passes : (g : GenerationsView) (p : PeerView) (m : StreamMap) (tsn : ℕ) → T g p m → T g p (passed_in m tsn)
  pub makes : (g : GenerationsView) (p : PeerView) (m : StreamMap) (id first : ℕ) (kind : PayloadProtocolIdentifier)
      → stream_at m id ≡ None → T g p m → T g p (made m id first kind)
  pub ends : (g : GenerationsView) (p : PeerView) (m : StreamMap) (id : ℕ) → T g p m → T g p (without_stream m id)
  pub skips : (g : GenerationsView) (p : PeerView) (m : StreamMap) (left : List KeptSkip) → T g p m
      → T (record g { skips = left }) p m

-- what is so of resets, streams and what is told of them
abbrev pub ResettingIs : (GenerationsView → PeerView → StreamMap → Type 0) → Resetting → Type 0
ResettingIs T s = T s.0.generations s.0.peer s.1.streams

-- It is carried by all that can happen. A request of the peer is taken up only where Open is so of what is kept of
-- resets and of the peer's requests before.
pub record IsCarried (Open : GenerationsView → PeerView → Type 0) (T : GenerationsView → PeerView → StreamMap → Type 0)
    : Type 0 where
  pub streams : IsCarriedByStreams T
  pub closes : (g : GenerationsView) (p : PeerView) (m : StreamMap) → T g p m
      → T no_generations (peer_closed p) (without_streams m)
  pub drops : (g : GenerationsView) (p : PeerView) (m : StreamMap) (test : ChunkPayloadData → Bool) → T g p m
      → T (record g { deferred = filter test g.deferred }) p m
  pub meets : (g : GenerationsView) (p : PeerView) (m : StreamMap) (last : Option ℕ) → T g p m
      → T g (record p { last_completed = last }) m
  -- new DATA of a generation that is not read yet, and of the one that is
  pub defers : (g : GenerationsView) (p : PeerView) (m : StreamMap) (d : ChunkPayloadData)
      → is_hidden g d.stream_identifier d.tsn (boundary_of p d.stream_identifier) ≡ true → T g p m
      → T (with_deferred g d) p m
  pub pushes : (g : GenerationsView) (p : PeerView) (m : StreamMap) (d : ChunkPayloadData) (limit : ℕ)
      → is_hidden g d.stream_identifier d.tsn (boundary_of p d.stream_identifier) ≡ false
      → refusal_in m d.stream_identifier d limit ≡ None → T g p m → T g p (pushed_in m d.stream_identifier d).0
  -- requests of the peer
  pub takes_up : (g : GenerationsView) (p : PeerView) (m : StreamMap) (q : PeerRequestView) → p.in_progress ≡ None
      → Open g p → T g p m → T g (record p { in_progress = Some q }) m
  pub performs : (q : PeerRequestView) (first limit : ℕ) (r : ResetsView) (c : Channels) → r.peer.in_progress ≡ Some q
      → T r.generations r.peer c.streams
      → ResettingIs T (performed q first limit (record r { peer = peer.completed q }) c).0
  -- the application reads a stream out, or stops reading it
  pub reads_out : (first limit id : ℕ) (r : ResetsView) (c : Channels) → T r.generations r.peer c.streams
      → ResettingIs T (read_out first limit id r c)
  pub stops : (g : GenerationsView) (p : PeerView) (m : StreamMap) (id : ℕ) → T g p m
      → T (discarded g id) p (changed_stream without_unread (changed_stream half_closed m id) id)

-- Nothing is asked where a request is taken up.
abbrev pub Anything : GenerationsView → PeerView → Type 0
Anything g p = Unit {0}

-- Steps

-- it is so of an association
abbrev pub SideIs : (GenerationsView → PeerView → StreamMap → Type 0) → Shown → Type 0
SideIs T a = T a.resets.generations a.resets.peer a.streams

-- it is so of one with what resets leave of resets and streams

pub beside_is : (T : GenerationsView → PeerView → StreamMap → Type 0) (a : Shown) (x : Beside)
    → T x.0.generations x.0.peer x.1 → SideIs T (with_beside a x)
beside_is T a (r, m, told) h = h

pub resetting_is : (T : GenerationsView → PeerView → StreamMap → Type 0) (a : Shown) (x : Resetting) → ResettingIs T x
    → SideIs T (with_resetting a x)
resetting_is T a (r, c) h = h

-- Where it is so of the first association, it is so of the second one.
pub record Carries (T : GenerationsView → PeerView → StreamMap → Type 0) (a b : Shown) : Type 0 where
  pub carries : SideIs T a → SideIs T b

module _ {T : GenerationsView → PeerView → StreamMap → Type 0} where
  -- no step, and two steps

  pub nothing_carries : (a : Shown) → Carries T a a
  nothing_carries a = record { carries = λ h. h }

  pub then_carries : {a b c : Shown} → Carries T a b → Carries T b c → Carries T a c
  then_carries first second = record { carries = λ h. second.carries (first.carries h) }

  -- to the same association
  pub same_side_carries : (a b : Shown) → b ≡ a → Carries T a b
  same_side_carries a b e = subst (Carries T a) (sym e) (nothing_carries a)

  -- what is kept of resets, and the peer's requests, stay
  pub streams_carry : (a b : Shown) → (SideIs T a → T a.resets.generations a.resets.peer b.streams)
      → b.resets.generations ≡ a.resets.generations → b.resets.peer ≡ a.resets.peer → Carries T a b
  streams_carry a b streams generations requests = record {
    carries = λ h.
        subst (λ (g : GenerationsView). T g b.resets.peer b.streams) (sym generations)
        (subst (λ (p : PeerView). T a.resets.generations p b.streams) (sym requests) (streams h));
  }

  -- so do the streams
  pub same_carries : (a b : Shown) → b.streams ≡ a.streams → b.resets.generations ≡ a.resets.generations
      → b.resets.peer ≡ a.resets.peer → Carries T a b
  same_carries a b streams generations requests =
      streams_carry a b
      (λ h. subst (λ (m : StreamMap). T a.resets.generations a.resets.peer m) (sym streams) h) generations requests

  -- one packet more waits to go out, or the place of a request

  pub queued_carries : (a : Shown) (chunk : Chunk) → Carries T a (queued a chunk)
  queued_carries a chunk = same_carries a (queued a chunk) refl refl refl

  pub asking_if_carries : (asks_for : Bool) (a : Shown) → Carries T a (asking_if asks_for a)
  asking_if_carries true a = same_carries a (asking a) refl refl refl
  asking_if_carries false a = nothing_carries a

  pub responding_carries : (a : Shown) (number : ℕ) (result : ReconfigResult) → Carries T a (responding a number result)
  responding_carries a number result = queued_carries a _

  -- what resets leave of resets and streams

  pub beside_carries : (a : Shown) (x : Beside) → (SideIs T a → T x.0.generations x.0.peer x.1)
      → Carries T a (with_beside a x)
  beside_carries a (r, m, told) still = record { carries = still }

  pub resetting_carries : (a : Shown) (x : Resetting) → (SideIs T a → ResettingIs T x)
      → Carries T a (with_resetting a x)
  resetting_carries a (r, c) still = record { carries = still }

-- A close ends all streams
module _ {Open : GenerationsView → PeerView → Type 0} {T : GenerationsView → PeerView → StreamMap → Type 0}
    (rules : IsCarried Open T) where
  closed_if : (closed : Bool) (a : Shown) (reason : AssociationError)
      → Carries T a (if closed then a else closed_open a reason)
  closed_if true a reason = nothing_carries a
  closed_if false a reason =
      record { carries = λ h. rules.closes a.resets.generations a.resets.peer a.streams h }

  pub closed_carries : (a : Shown) (reason : AssociationError) → Carries T a (closed_by a reason)
  closed_carries a reason = closed_if (is_closed_state a.state) a reason

  pub exhausted_carries : (a : Shown) → Carries T a (exhausted a)
  exhausted_carries a =
      then_carries (closed_carries a reasons.ReceiveBufferExhausted)
      (queued_carries (closed_by a reasons.ReceiveBufferExhausted) out_of_resource)

  relieved_if : (e : Bool) (a : Shown) → Carries T a (if e then exhausted a else a)
  relieved_if true a = exhausted_carries a
  relieved_if false a = nothing_carries a

  -- an exhausted receive buffer closes, or nothing changes
  relieved_carries : (a : Shown) → Carries T a (relieved a)
  relieved_carries a = relieved_if (is_exhausted a) a

  told_carries_if : (tells : Bool) (a : Shown) → Carries T a (told_if tells a)
  told_carries_if true a = same_carries a (told_if true a) refl refl refl
  told_carries_if false a = nothing_carries a

  -- so it is behind a read or a stop, and then a window that opened may be told
  pub eased_carries : (before : ℕ) (a : Shown) → Carries T a (eased before a)
  eased_carries before a =
      then_carries (relieved_carries a) (told_carries_if (tells_window before (relieved a)) (relieved a))
